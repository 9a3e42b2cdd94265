-- A clause makes a list longer by at most one.
use Rattle.std.specs.Prelude.{◌≡◌, ℕ, ◌+◌, ◌<◌, ◌≤◌, not, List, [], ◌∷◌, ◌++◌, length, take, Some, None, filter, Option, slice_index_or, refl}
use Rattle.std.proofs.Common.{arith, length-append}
use Rattle.std.proofs.lemmas.List.Filters.{length-filter_both}
use Rattle.std.proofs.lemmas.List.{take_more}
use Rattle.conjunctive.specs.declared.clause.Clause.{Clause}
use Rattle.conjunctive.specs.Clauses.{within, lone, lone_in}
use Rattle.conjunctive.specs.Adding.{struck, ended, put_left, add_under, all_under, put_lone, add_by, added}

ended_le : (xs : List Clause) (c : Clause) → length (ended xs c) ≤ length xs + 1
ended_le xs c = grind (arith, length-append (filter (λ x. not (within c x)) xs) (c ∷ []), length-filter_both (λ x. not (within c x)) (λ x. not (not (within c x))) (λ _. refl) xs)

left_le : (xs : List Clause) (o : Option Clause) → length (put_left xs o) ≤ length xs + 1
left_le xs None = omega arith
left_le xs (Some c) = grind (arith, ended_le xs c)

under_le : (u : ℕ) (xs : List Clause) (c : Clause) → length (add_under u xs c) ≤ length xs + 1
under_le u xs c = grind (arith, left_le xs (struck u c.user c.group))

pub all_under_le : (u : ℕ) (xs cs : List Clause) → length (all_under u xs cs) ≤ length xs + length cs
all_under_le u xs [] = omega arith
all_under_le u xs (c ∷ cs) = omega (arith, all_under_le u (add_under u xs c) cs, under_le u xs c)

lone_le : (xs : List Clause) (c : Clause) (o : Option ℕ) → length (put_lone xs c o) ≤ length xs + 1
lone_le xs c None = ended_le xs c
lone_le xs c (Some u) = omega (arith, all_under_le u (c ∷ []) xs)

by_le : (o : Option ℕ) (xs : List Clause) (c : Clause) → length (add_by o xs c) ≤ length xs + 1
by_le (Some u) xs c = left_le xs (struck u c.user c.group)
by_le None xs c = grind (arith, lone_le xs c (lone c))

pub added_le : (xs : List Clause) (c : Clause) → length (added xs c) ≤ length xs + 1
added_le xs c = grind (arith, by_le (lone_in xs) xs c)

under_append : (u : ℕ) (xs ys zs : List Clause) → all_under u xs (ys ++ zs) ≡ all_under u (all_under u xs ys) zs
under_append u xs [] zs = refl
under_append u xs (y ∷ ys) zs = under_append u (add_under u xs y) ys zs

-- rule 5, one clause more
pub under_more : (u : ℕ) (xs ys : List Clause) (i : ℕ) (d : Clause) (so_far : List Clause) → i < length ys → so_far ≡ all_under u xs (take i ys)
    → add_under u so_far (slice_index_or ys i d) ≡ all_under u xs (take (i + 1) ys)
under_more u xs ys i d so_far within is = grind (arith, take_more ys i d within, under_append u xs (take i ys) (slice_index_or ys i d ∷ []))
