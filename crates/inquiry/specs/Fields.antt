-- The fields of a text: its parts between separators.
use Rattle.std.specs.Prelude.{ℕ, List, [], Some, None, Option, ◌==◌}
use Rattle.std.specs.Borrow.{Bor}
use Rattle.std.specs.List.{slice_split}

-- the fields of a text: one more than it has separators
abbrev pub fields : ℕ → List ℕ → List (List ℕ)
fields separator text = slice_split (λ byte. byte == separator) text

-- the fields of a text, and none where there is no text
abbrev pub fields_if : ℕ → Option (Bor (List ℕ)) → List (List ℕ)
fields_if separator None = []
fields_if separator (Some text) = fields separator text.now
