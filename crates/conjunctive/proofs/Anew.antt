-- Rule 5 adds the old clauses by all the rules: beside a lone [user is u], or the empty clause, the short rules are the whole ones.
use Rattle.std.proofs.Common.{◌≡◌, ℕ, true, false, not, ◌⊎◌, List, [], ◌∷◌, ◌++◌, Some, None, filter, refl, ap, inl, inr, arith}
use Rattle.std.specs.Option.{option_or}
use Rattle.std.specs.List.{list_any}
use Rattle.conjunctive.specs.declared.clause.Literal.{Literal}
use Rattle.conjunctive.specs.declared.clause.Literal.TheVariants.{Absent}
use Rattle.conjunctive.specs.declared.clause.Clause.{Clause}
use Rattle.conjunctive.specs.Clauses.{is_absent, within, is_empty, lone_in}
use Rattle.conjunctive.specs.Adding.{struck, put, put_left, add_under, all_under, added, all_added, BeginsAnew}

-- the list has the empty clause, or its lone clause is [user is u]
Under : ℕ → List Clause → Type 0
Under u xs = (list_any is_empty xs ≡ true) ⊎ (lone_in xs ≡ Some u)

lone_append : (xs ys : List Clause) → lone_in (xs ++ ys) ≡ option_or (lone_in xs) (lone_in ys)
lone_append [] ys = refl
lone_append (x ∷ xs) ys = grind (arith, lone_append xs ys)

module _ (g : Literal ℕ) (some_literal : is_absent g ≡ false) where
  abbrev c : Clause
  c = record { user = Absent; group = g }

  kept_lone : (xs : List Clause) → lone_in (filter (λ x. not (within c x)) xs) ≡ lone_in xs
  kept_lone [] = refl
  kept_lone (x ∷ xs) = grind (arith, kept_lone xs)

  put_under : (u : ℕ) (xs : List Clause) → lone_in xs ≡ Some u → Under u (put xs c)
  unfolding Under
  put_under u xs e = grind (arith, lone_append (filter (λ x. not (within c x)) xs) (c ∷ []), kept_lone xs)

left_under : (u : ℕ) (xs : List Clause) (c : Clause) → lone_in xs ≡ Some u → Under u (put_left xs (struck u c.user c.group))
unfolding Under
left_under u xs c e = grind (arith, put_under c.group)

-- the short rules keep the list so
stays_under : (u : ℕ) (xs : List Clause) (c : Clause) → Under u xs → Under u (add_under u xs c)
unfolding Under
stays_under u xs c (inl h) = grind arith
stays_under u xs c (inr e) = grind (arith, left_under u xs c e)

-- and are the whole ones there
under_is_added : (u : ℕ) (xs : List Clause) (c : Clause) → Under u xs → add_under u xs c ≡ added xs c
unfolding Under
under_is_added u xs c (inl h) = grind arith
under_is_added u xs c (inr e) = grind arith

all_under_is_added : (u : ℕ) (xs cs : List Clause) → Under u xs → all_under u xs cs ≡ all_added xs cs
all_under_is_added u xs [] under = refl
all_under_is_added u xs (c ∷ cs) under = grind (arith, all_under_is_added u (add_under u xs c) cs (stays_under u xs c under), under_is_added u xs c under)

pub begins_anew : BeginsAnew
unfolding Under
begins_anew u c xs e = all_under_is_added u (c ∷ []) xs (inr (ap (λ o. option_or o None) e))
