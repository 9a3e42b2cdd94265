-- How a number is written: digits of its base, and nothing else.
use Rattle.std.specs.Prelude.{ℕ, ◌+◌, ◌-◌, ◌*◌, Bool, cond, ◌&&◌, List, [], ◌∷◌, Some, None, Option, nat_le, nat_lt}

-- whether a byte is a digit of the base
abbrev pub is_digit : ℕ → ℕ → Bool
is_digit base byte = nat_le 48 byte && nat_lt (byte - 48) base

-- the number read once the digits left follow the value so far: none past a byte that is no digit, or above the largest
abbrev pub read_on : ℕ → ℕ → ℕ → List ℕ → Option ℕ
read_on base largest so_far [] = cond (nat_le so_far largest) (Some so_far) None
read_on base largest so_far (byte ∷ left) =
    cond (is_digit base byte) (read_on base largest (so_far * base + (byte - 48)) left) None

-- the number that a text writes in the base, if it is one and is at most the largest
abbrev pub number_of : ℕ → ℕ → List ℕ → Option ℕ
number_of base largest [] = None
number_of base largest (byte ∷ left) = read_on base largest 0 (byte ∷ left)
