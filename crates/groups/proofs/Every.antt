-- A test at each number below n.
use Rattle.std.proofs.Common.{ℕ, ◌<◌, Bool, Decides, refl}
use mathlib.Core.Bool.{and_comm}
use Rattle.std.proofs.lemmas.Bool.Decides.{Decides-below_and}
use Rattle.groups.specs.Groups.{every}

pub every_tells : (p : ℕ → Bool) (P : ℕ → Type 0) → ((k : ℕ) → Decides (p k) (P k)) → (n : ℕ) → Decides (every n p) ((k : ℕ) → k < n → P k)
unfolding every
every_tells p P each n = Decides-below_and p P (λ m. every m p) each refl (λ m. and_comm (every m p) (p m)) n
