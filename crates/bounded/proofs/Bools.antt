-- Facts about tests.
use Rattle.std.proofs.Common.{◌≡◌, Bool, true, false, ◌&&◌, ◌||◌, arith}

-- a test that the other implies asks nothing beside it
pub and_implied : (a b : Bool) → (b ≡ true → a ≡ true) → (a && b) ≡ b
and_implied a b f = grind (arith, f)

-- what stands behind a test counts only where it passes
pub and_same : (a b c : Bool) → (a ≡ true → b ≡ c) → (a && b) ≡ (a && c)
and_same a b c f = grind (arith, f)

pub or_same : (a b c : Bool) → (c ≡ false → a ≡ b) → (a || c) ≡ (b || c)
or_same a b c f = grind (arith, f)

pub or_middle : (a b c : Bool) → (a || (b || c)) ≡ (b || (a || c))
or_middle a b c = grind arith
