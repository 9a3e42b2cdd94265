-- Adding a clause leaves exactly the subjects of whom it holds: each rule keeps what the clauses say.
use Rattle.std.specs.Prelude.{◌≡◌, ℕ, true, false, not, ◌&&◌, List, [], ◌∷◌, Some, None, filter, Option, ◌==◌, refl}
use Rattle.std.proofs.Common.{arith}
use Rattle.std.specs.List.{list_any}
use Rattle.std.proofs.lemmas.List.Folds.{list_all-append}
use Rattle.rights.specs.Subjects.{Who}
use Rattle.conjunctive.specs.declared.clause.Literal.{Literal}
use Rattle.conjunctive.specs.declared.clause.Literal.TheVariants.{Absent, Positive, Negative}
use Rattle.conjunctive.specs.declared.clause.Clause.{Clause}
use Rattle.conjunctive.specs.Clauses.{holds, all_hold, within, empty, is_empty, lone, lone_in}
use Rattle.conjunctive.specs.Adding.{struck, covers, ended, put, put_left, add_under, all_under, put_lone, add_by, added}

module _ (w : Who) where
  -- a clause with more literals holds of more subjects
  pub more : (c d : Clause) → within c d ≡ true → holds c w ≡ true → holds d w ≡ true
  more c d e h = grind arith

  covered : (xs : List Clause) (c : Clause) → covers xs c ≡ true → all_hold xs w ≡ true → holds c w ≡ true
  covered [] c e h = grind arith
  covered (x ∷ xs) c e h = grind (arith, more x c, covered xs c)

  kept : (xs : List Clause) (c : Clause) → holds c w ≡ true → all_hold (filter (λ x. not (within c x)) xs) w ≡ all_hold xs w
  kept [] c h = refl
  kept (x ∷ xs) c h = grind (arith, more c x, kept xs c h)

  ended_law : (xs : List Clause) (c : Clause) → all_hold (ended xs c) w ≡ (all_hold xs w && holds c w)
  ended_law xs c = grind (arith, list_all-append (λ x. holds x w) (filter (λ x. not (within c x)) xs) (c ∷ []), kept xs c)

  put_law : (xs : List Clause) (c : Clause) → all_hold (put xs c) w ≡ (all_hold xs w && holds c w)
  put_law xs c = grind (arith, covered xs c, ended_law xs c)

  -- rules 1 and 2: the empty clause holds of nobody
  has_empty_fails : (xs : List Clause) → list_any is_empty xs ≡ true → all_hold xs w ≡ false
  has_empty_fails [] e = grind arith
  has_empty_fails (x ∷ xs) e = grind (arith, has_empty_fails xs)

  emptied : (xs : List Clause) (c : Clause) → is_empty c ≡ true → all_hold (empty ∷ []) w ≡ (all_hold xs w && holds c w)
  emptied xs c e = grind arith

  stays_empty : (xs : List Clause) (c : Clause) → list_any is_empty xs ≡ true → all_hold xs w ≡ (all_hold xs w && holds c w)
  stays_empty xs c e = grind (arith, has_empty_fails xs e)

  -- rule 3: what is left of a clause says the same of user u
  Left : Option Clause → Clause → Type 0
  Left None c = holds c w ≡ true
  Left (Some d) c = holds d w ≡ holds c w

  struck_law : (u : ℕ) (l g : Literal ℕ) → (w.user == u) ≡ true → Left (struck u l g) (record { user = l; group = g })
  unfolding Left
  struck_law u Absent g e = grind arith
  struck_law u (Positive v) g e = grind arith
  struck_law u (Negative v) g e = grind arith

  left_law : (xs : List Clause) (c : Clause) (o : Option Clause) → (all_hold xs w ≡ true → Left o c) → all_hold (put_left xs o) w ≡ (all_hold xs w && holds c w)
  unfolding Left
  left_law xs c None f = grind (arith, f)
  left_law xs c (Some d) f = grind (arith, emptied xs d, put_law xs d, f)

  under_law : (u : ℕ) (xs : List Clause) (c : Clause) → (all_hold xs w ≡ true → (w.user == u) ≡ true) → all_hold (add_under u xs c) w ≡ (all_hold xs w && holds c w)
  under_law u xs c lone_u =
      grind (arith, stays_empty xs c, emptied xs c, left_law xs c (struck u c.user c.group) (λ h. struck_law u c.user c.group (lone_u h)))

  -- rule 5
  all_under_law : (u : ℕ) (xs cs : List Clause) → (all_hold xs w ≡ true → (w.user == u) ≡ true) → all_hold (all_under u xs cs) w ≡ (all_hold xs w && all_hold cs w)
  all_under_law u xs [] lone_u = grind arith
  all_under_law u xs (c ∷ cs) lone_u = let one = under_law u xs c lone_u in grind (arith, all_under_law u (add_under u xs c) cs)

  lone_law : (c : Clause) (u : ℕ) → lone c ≡ Some u → holds c w ≡ true → (w.user == u) ≡ true
  lone_law c u e h = grind arith

  lone_in_law : (xs : List Clause) (u : ℕ) → lone_in xs ≡ Some u → all_hold xs w ≡ true → (w.user == u) ≡ true
  lone_in_law [] u e h = grind arith
  lone_in_law (x ∷ xs) u e h = grind (arith, lone_law x u, lone_in_law xs u)

  lone_put_law : (xs : List Clause) (c : Clause) (o : Option ℕ) → lone c ≡ o → all_hold (put_lone xs c o) w ≡ (all_hold xs w && holds c w)
  lone_put_law xs c None e = ended_law xs c
  lone_put_law xs c (Some u) e = grind (arith, all_under_law u (c ∷ []) xs, lone_law c u e)

  by_law : (xs : List Clause) (c : Clause) (o : Option ℕ) → lone_in xs ≡ o → all_hold (add_by o xs c) w ≡ (all_hold xs w && holds c w)
  by_law xs c None e = grind (arith, covered xs c, lone_put_law xs c (lone c) refl)
  by_law xs c (Some u) e = left_law xs c (struck u c.user c.group) (λ h. struck_law u c.user c.group (lone_in_law xs u e h))

  pub added_law : (xs : List Clause) (c : Clause) → all_hold (added xs c) w ≡ (all_hold xs w && holds c w)
  added_law xs c = grind (arith, stays_empty xs c, emptied xs c, by_law xs c (lone_in xs) refl)
