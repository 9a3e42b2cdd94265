-- What each line says.
use Rattle.std.specs.Prelude.{ℕ, Bool, cond, List, [], ◌∷◌, replicate, Some, None, Ok, Err, codes, Option, Result, option_and_then}
use Rattle.std.specs.Str.{bytes_eq}
use Rattle.groups.specs.Groups.{inserted}
use Rattle.inquiry.specs.declared.line.Line.{Line}
use Rattle.inquiry.specs.declared.line.Line.TheVariants.{Directory, Subject}
use Rattle.inquiry.specs.declared.line.BadLine.{BadLine}
use Rattle.inquiry.specs.declared.line.BadLine.TheVariants.{Shape, Owner, Group, Mode, User, Groups}
use Rattle.inquiry.specs.Numbers.{number_of}
use Rattle.inquiry.specs.Fields.{fields}

-- what follows from the value, or else what is wrong
abbrev pub with_value : {A B : Type 0} → Option A → BadLine → (A → Result B BadLine) → Result B BadLine
with_value None wrong next = Err wrong
with_value (Some value) wrong next = next value

-- the directory that three fields describe
abbrev pub directory_of : List ℕ → List ℕ → List ℕ → Result Line BadLine
directory_of owner group mode =
    with_value (number_of 10 65535 owner) Owner (λ o.
    with_value (number_of 10 255 group) Group (λ g.
    with_value (number_of 8 4095 mode) Mode (λ m. Ok (Directory (record { owner = o; group = g; mode = m })))))

-- the set, with the group of each field put in
abbrev pub with_groups : List ℕ → List (List ℕ) → Option (List ℕ)
with_groups set [] = Some set
with_groups set (field ∷ left) =
    option_and_then (λ group. with_groups (inserted set group) left) (number_of 10 255 field)

-- the subject that a field for the user and fields for its groups describe
abbrev pub subject_of : List ℕ → List (List ℕ) → Result Line BadLine
subject_of user groups =
    with_value (number_of 10 65535 user) User (λ u.
    with_value (with_groups (replicate 32 0) groups) Groups (λ gs. Ok (Subject (record { user = u; groups = gs }))))

-- whether a field is the word that begins a subject's line
abbrev pub is_who : List ℕ → Bool
is_who field = bytes_eq field (codes "who")

-- what a line of these fields says
abbrev pub line_of_fields : List (List ℕ) → Result Line BadLine
line_of_fields [] = Err Shape
line_of_fields (a ∷ []) = Err Shape
line_of_fields (a ∷ b ∷ []) = cond (is_who a) (subject_of b []) (Err Shape)
line_of_fields (a ∷ b ∷ c ∷ []) = cond (is_who a) (subject_of b (fields 44 c)) (directory_of a b c)
line_of_fields (a ∷ b ∷ c ∷ d ∷ more) = Err Shape

-- what a line says: its fields stand between spaces
abbrev pub line_of : List ℕ → Result Line BadLine
line_of text = line_of_fields (fields 32 text)
