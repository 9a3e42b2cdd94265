-- A record that is made where a test passes.
use Rattle.std.proofs.Common.{◌≡◌, Bool, true, false, refl, ap}
use mathlib.Core.Bool.{Bool-set}
use Rattle.std.proofs.lemmas.Bool.{false≢true}
use Rattle.bounded.specs.Tests.{guarded}

pub guarded_passes : {A : Type 0} (test : Bool) (made : test ≡ true → A) (was : A) (passes : test ≡ true) → guarded test made was ≡ made passes
guarded_passes true made was passes = ap made (Bool-set true true refl passes)
guarded_passes false made was passes = absurd (false≢true passes)
