-- Who is shut out of the open line once one more is.
use Rattle.std.specs.Prelude.{◌≡◌, ℕ, ◌<◌, Bool, not, ◌&&◌, ◌||◌, List, [], ◌∷◌, length, ◌==◌, nat_eq, refl}
use Rattle.std.proofs.Common.{ap, ◌∙◌, arith}
use Rattle.std.specs.Coded.{coded_ℕ}
use Rattle.std.proofs.lemmas.Bool.Decides.{nat_tests}
use Rattle.bounded.specs.Lists.{listed, packed}
use Rattle.std.specs.List.{list_any}
use Rattle.bounded.proofs.Packing.{packed_listed}
use Rattle.lines.specs.declared.line.Line.{Line}
use Rattle.lines.specs.declared.line.OpenLine.{OpenLine}
use Rattle.lines.specs.Lines.{has, shut_out}
use Rattle.bounded.specs.Places.{placed}
use Rattle.lines.specs.Moves.{shut_with}
use Rattle.disjunctive.specs.Tested.{any_placed}
use Rattle.disjunctive.specs.Ordered.{length_placed}

has_placed : (us : List ℕ) (u v : ℕ) → has (placed (λ k. k) u us) v ≡ (u == v || has us v)
has_placed us u v = any_placed (λ k. k) (λ k. nat_eq k v) u us ∙ by us
  where
    step : (a b c : ℕ) (t s : Bool) → (b == c || t) ≡ (b == c || s) → (b == c || (not (a == b) && a == c || t)) ≡ (b == c || (a == c || s))
    step a b c t s e = grind (arith, nat_tests)

    by : (ks : List ℕ) → (u == v || list_any (λ k. not (k == u) && k == v) ks) ≡ (u == v || has ks v)
    by [] = refl
    by (k ∷ ks) = step k u v (list_any (λ k. not (k == u) && k == v) ks) (has ks v) (by ks)

-- there is room for one more
pub shut_placed : (o : OpenLine) (u : ℕ) → length (listed o.shut) < 16
    → listed (packed 16 o.shut.filler (placed (λ v. v) u (listed o.shut))) ≡ placed (λ v. v) u (listed o.shut)
shut_placed o u h =
    packed_listed coded_ℕ {n = 16} o.shut.filler (placed (λ v. v) u (listed o.shut)) (omega (arith, length_placed (λ v. v) u (listed o.shut)))

pub shut_law : (o : OpenLine) (u v : ℕ) (l : Line) → length (listed o.shut) < 16 → shut_out (shut_with u o l) v ≡ (u == v || shut_out o v)
shut_law o u v l h = ap (λ us. has us v) (shut_placed o u h) ∙ has_placed (listed o.shut) u v
