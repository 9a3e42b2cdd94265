-- A number as its digits are read.
use Rattle.std.proofs.Common.{◌≡◌, ℕ, ◌+◌, ◌-◌, ◌*◌, ◌<◌, ◌≤◌, true, List, [], ◌∷◌, None, mul-le-mul_left, arith}
use Rattle.std.proofs.lemmas.Bool.Decides.{nat_tests}
use Rattle.std.proofs.lemmas.Grind.{common_steps}
use Rattle.inquiry.specs.Numbers.{is_digit, read_on}

-- a number does not fall as digits follow
grows : (base so_far byte : ℕ) → is_digit base byte ≡ true → so_far ≤ so_far * base + (byte - 48)
grows base so_far byte h = grind (arith, nat_tests, mul-le-mul_left)

-- what is above the largest stays above it
pub read_above : (base largest so_far : ℕ) (left : List ℕ) → largest < so_far → read_on base largest so_far left ≡ None
read_above base largest so_far [] h = grind (arith, common_steps)
read_above base largest so_far (byte ∷ left) h =
    let more = read_above base largest (so_far * base + (byte - 48)) left in
    grind (arith, common_steps, grows)
