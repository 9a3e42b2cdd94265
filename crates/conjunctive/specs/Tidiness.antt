-- Adding a clause keeps the clauses apart: none contains another, and at most one is a lone [user is u].
use Rattle.std.specs.Prelude.{◌≡◌, ℕ, Bool, true, false, not, ◌&&◌, List, [], ◌∷◌, ◌++◌, is_some, Some, None, filter, Option, refl}
use Rattle.std.proofs.Common.{ap, ◌∙◌, arith}
use Rattle.std.proofs.Math.Bool.{and-false}
use Rattle.std.proofs.lemmas.Bool.{and_parts, and_from, or_parts, not_from_false, cond_both}
use Rattle.std.specs.List.{list_all}
use Rattle.std.proofs.lemmas.List.Folds.{list_all-append}
use Rattle.conjunctive.specs.declared.clause.Literal.TheVariants.{Absent}
use Rattle.conjunctive.specs.declared.clause.Clause.{Clause}
use Rattle.conjunctive.specs.Clauses.{within, lone, lone_in, apart, tidy}
use Rattle.conjunctive.specs.Adding.{struck, covers, ended, put_left, add_under, all_under, put_lone, add_by, added}

all_kept : {X : Type 0} (p q : X → Bool) (xs : List X) → list_all q xs ≡ true → list_all q (filter p xs) ≡ true
all_kept p q [] e = refl
all_kept p q (x ∷ xs) e = grind (arith, all_kept p q xs)

kept_tidy : (p : Clause → Bool) (xs : List Clause) → tidy xs ≡ true → tidy (filter p xs) ≡ true
kept_tidy p [] e = refl
kept_tidy p (x ∷ xs) e = grind (arith, all_kept p (apart x) xs, kept_tidy p xs)

push_tidy : (xs : List Clause) (c : Clause) → tidy xs ≡ true → list_all (λ x. apart x c) xs ≡ true → tidy (xs ++ (c ∷ [])) ≡ true
push_tidy [] c e h = refl
push_tidy (x ∷ xs) c e h =
    let (apart_x, rest) = and_parts (list_all (apart x) xs) (tidy xs) e in
    let (here, others) = and_parts (apart x c) (list_all (λ y. apart y c) xs) h in
    and_from _ _ (list_all-append (apart x) xs (c ∷ []) ∙ and_from _ _ apart_x (and_from _ _ here refl)) (push_tidy xs c rest others)

-- what rule 6 keeps is apart from a clause that is not a lone one and that rule 4 did not drop
kept_apart : (xs : List Clause) (c : Clause) → covers xs c ≡ false → lone c ≡ None → list_all (λ x. apart x c) (filter (λ x. not (within c x)) xs) ≡ true
kept_apart [] c e n = refl
kept_apart (x ∷ xs) c e n =
    let (here, others) = or_parts (within x c) (covers xs c) e in
    let rest = kept_apart xs c others n in
    let kept = filter (λ y. not (within c y)) xs in
    cond_both (not (within c x)) (x ∷ kept) kept (λ ys. list_all (λ y. apart y c) ys ≡ true)
    (λ out. and_from _ _ (and_from _ _ (not_from_false _ here) (and_from _ _ out (ap not (ap (λ o. is_some (lone x) && is_some o) n ∙ and-false (is_some (lone x)))))) rest)
    (λ in'. rest)

ended_tidy : (xs : List Clause) (c : Clause) → tidy xs ≡ true → covers xs c ≡ false → lone c ≡ None → tidy (ended xs c) ≡ true
ended_tidy xs c t e n = push_tidy (filter (λ x. not (within c x)) xs) c (kept_tidy (λ x. not (within c x)) xs t) (kept_apart xs c e n)

left_tidy : (u : ℕ) (xs : List Clause) (c : Clause) → tidy xs ≡ true → tidy (put_left xs (struck u c.user c.group)) ≡ true
left_tidy u xs c t = let d : Clause = record { user = Absent; group = c.group } in grind (arith, ended_tidy xs d t)

under_tidy : (u : ℕ) (xs : List Clause) (c : Clause) → tidy xs ≡ true → tidy (add_under u xs c) ≡ true
under_tidy u xs c t = grind (arith, left_tidy u xs c t)

all_under_tidy : (u : ℕ) (xs cs : List Clause) → tidy xs ≡ true → tidy (all_under u xs cs) ≡ true
all_under_tidy u xs [] t = t
all_under_tidy u xs (c ∷ cs) t = all_under_tidy u (add_under u xs c) cs (under_tidy u xs c t)

lone_tidy : (xs : List Clause) (c : Clause) (o : Option ℕ) → lone c ≡ o → tidy xs ≡ true → covers xs c ≡ false → tidy (put_lone xs c o) ≡ true
lone_tidy xs c None n t e = ended_tidy xs c t e n
lone_tidy xs c (Some u) n t e = all_under_tidy u (c ∷ []) xs refl

by_tidy : (o : Option ℕ) (xs : List Clause) (c : Clause) → tidy xs ≡ true → tidy (add_by o xs c) ≡ true
by_tidy (Some u) xs c t = left_tidy u xs c t
by_tidy None xs c t = grind (arith, lone_tidy xs c (lone c) refl t)

pub added_tidy : (xs : List Clause) (c : Clause) → tidy xs ≡ true → tidy (added xs c) ≡ true
added_tidy xs c t = grind (arith, by_tidy (lone_in xs) xs c t)
