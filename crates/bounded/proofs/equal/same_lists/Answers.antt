use Rattle.std.proofs.Common.{◌≡◌, Bool, ◌&&◌, List, [], ◌∷◌, length, refl, ap, ◌∙◌, arith, rules, tests, of_calls}
use Rattle.std.specs.List.{zip, list_all}
use Rattle.std.specs.Cmp.Lexicographic.{pointwise}
use Rattle.std.proofs.lemmas.Fn.{says_at_two}
use Rattle.std.proofs.lemmas.Iterator.{YieldsList-from_zip, YieldsList-from_slice}
use Rattle.std.proofs.lemmas.Iterator.Search.{all_from_yields_List}
use Rattle.bounded.proofs.equal.same_lists.Goals as goal

-- lists that are as long, compared pair by pair
by_pairs : {X : Type 0} (p : X → X → Bool) (xs ys : List X) → length xs ≡ length ys → list_all (λ q. p q.0 q.1) (zip xs ys) ≡ pointwise p xs ys
by_pairs p [] [] long = refl
by_pairs p [] (y ∷ ys) long = absurd (omega (arith, long))
by_pairs p (x ∷ xs) [] long = absurd (omega (arith, long))
by_pairs p (x ∷ xs) (y ∷ ys) long = ap (λ t. p x y && t) (by_pairs p xs ys (omega (arith, long)))

pub returns : goal.returns
returns g c p tells =
    all_from_yields_List (λ q. p q.0 q.1) c.all.new.self _ _ c.all.ensures.ran
    (YieldsList-from_zip (YieldsList-from_slice c.args.a.now cc) (YieldsList-from_slice c.args.b.now cc))
    (λ x b q k. (search (rules, tests), tells x.0.now x.1.now b (says_at_two g.P.Fn {y = x.0} {z = x.1} (search (of_calls, rules)) refl)))
    ∙ by_pairs p _ _ (omega arith)
