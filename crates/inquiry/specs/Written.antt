-- How a directory is written: its owner and group in decimal, its mode in octal.
use Rattle.std.specs.Prelude.{◌≡◌, ℕ, ◌+◌, ◌≤◌, cond, List, [], ◌∷◌, ◌++◌, map, Ok, Result, ◌==◌}
use Rattle.std.specs.Int.Digits.{digits_of}
use Rattle.inquiry.specs.declared.line.Description.{Description}
use Rattle.inquiry.specs.declared.line.Line.{Line}
use Rattle.inquiry.specs.declared.line.Line.TheVariants.{Directory}
use Rattle.inquiry.specs.declared.line.BadLine.{BadLine}

-- the digits of a number in a base: one 0 for 0, and else no 0 in front
abbrev pub digits : ℕ → ℕ → List ℕ
digits base n = cond (n == 0) (0 ∷ []) (digits_of base n)

-- digits as bytes
abbrev pub bytes : List ℕ → List ℕ
bytes ds = map (λ digit. 48 + digit) ds

-- a number as it is written in a base
abbrev pub written : ℕ → ℕ → List ℕ
written base n = bytes (digits base n)

-- the line of a directory
abbrev pub directory_text : Description → List ℕ
directory_text d = written 10 d.owner ++ (32 ∷ (written 10 d.group ++ (32 ∷ written 8 d.mode)))

-- of the line of a directory, that directory is read
unfoldable pub ReadsBack : List ℕ → Result Line BadLine → Type 0
ReadsBack text read =
    (d : Description) → d.owner ≤ 65535 → d.group ≤ 255 → d.mode ≤ 4095
    → text ≡ directory_text d → read ≡ Ok (Directory d)
