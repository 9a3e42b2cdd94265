-- The first lone clause of a list, by what stands at its places.
use Rattle.std.proofs.Common.{◌≡◌, ℕ, ◌<◌, List, [], ◌∷◌, Some, None, length, get_or, refl, ap, ◌∙◌, arith, zero, suc}
use Rattle.std.specs.Option.{option_or}
use Rattle.conjunctive.specs.declared.clause.Clause.{Clause}
use Rattle.conjunctive.specs.Clauses.{lone, lone_in}

pub first_none : (xs : List Clause) → ((k : ℕ) (d : Clause) → k < length xs → lone (get_or xs k d) ≡ None) → lone_in xs ≡ None
first_none [] f = refl
first_none (x ∷ xs) f = ap (λ o. option_or o (lone_in xs)) (f 0 x (omega arith)) ∙ first_none xs (λ k d h. f (suc k) d (omega arith))

pub first_some : (xs : List Clause) (i u : ℕ) → i < length xs → ((k : ℕ) (d : Clause) → k < i → lone (get_or xs k d) ≡ None) → ((d : Clause) → lone (get_or xs i d) ≡ Some u)
    → lone_in xs ≡ Some u
first_some [] i u h f e = absurd (omega arith)
first_some (x ∷ xs) zero u h f e = ap (λ o. option_or o (lone_in xs)) (e x)
first_some (x ∷ xs) (suc i) u h f e = ap (λ o. option_or o (lone_in xs)) (f 0 x (omega arith)) ∙ first_some xs i u (omega arith) (λ k d h. f (suc k) d (omega arith)) e
