-- Adding a clause to a list of clauses, by the first rule that settles it.
use Rattle.std.specs.Prelude.{◌≡◌, ℕ, Bool, cond, not, List, [], ◌∷◌, ◌++◌, Some, None, filter, Option, ◌==◌}
use Rattle.std.specs.List.{list_any}
use Rattle.conjunctive.specs.declared.clause.Literal.{Literal}
use Rattle.conjunctive.specs.declared.clause.Literal.TheVariants.{Absent, Positive, Negative}
use Rattle.conjunctive.specs.declared.clause.Clause.{Clause}
use Rattle.conjunctive.specs.Clauses.{within, empty, is_empty, lone, lone_in}

-- rule 3, where the list has [user is u]: None where the clause is dropped, else what is left of it
abbrev pub struck : ℕ → Literal ℕ → Literal ℕ → Option Clause
struck u Absent g = Some (record { user = Absent; group = g })
struck u (Positive v) g = cond (v == u) None (Some (record { user = Absent; group = g }))
struck u (Negative v) g = cond (v == u) (Some (record { user = Absent; group = g })) None

-- rule 4: a clause of the list has only literals of c
abbrev pub covers : List Clause → Clause → Bool
covers xs c = list_any (λ x. within x c) xs

-- rule 6: clauses that have all literals of c are taken out, and c goes to the end
abbrev pub ended : List Clause → Clause → List Clause
ended xs c = filter (λ x. not (within c x)) xs ++ (c ∷ [])

-- rules 4 and 6
abbrev pub put : List Clause → Clause → List Clause
put xs c = cond (covers xs c) xs (ended xs c)

-- what rule 3 left of a clause, by rule 2 or from rule 4 on
abbrev pub put_left : List Clause → Option Clause → List Clause
put_left xs None = xs
put_left xs (Some c) = cond (is_empty c) (empty ∷ []) (put xs c)

-- rules 1 to 4 and 6, where the list has [user is u]
abbrev pub add_under : ℕ → List Clause → Clause → List Clause
add_under u xs c = cond (list_any is_empty xs) xs (cond (is_empty c) (empty ∷ []) (put_left xs (struck u c.user c.group)))

abbrev pub all_under : ℕ → List Clause → List Clause → List Clause
all_under u xs [] = xs
all_under u xs (c ∷ cs) = all_under u (add_under u xs c) cs

-- rule 5: a new list begins with a lone [user is u], and the old clauses are added to it; rule 6 for any other clause
abbrev pub put_lone : List Clause → Clause → Option ℕ → List Clause
put_lone xs c None = ended xs c
put_lone xs c (Some u) = all_under u (c ∷ []) xs

-- rules 3 to 6, by whether the list has a lone [user is u]
abbrev pub add_by : Option ℕ → List Clause → Clause → List Clause
add_by (Some u) xs c = put_left xs (struck u c.user c.group)
add_by None xs c = cond (covers xs c) xs (put_lone xs c (lone c))

-- rule 1: a list with the empty clause stays; rule 2: an empty clause replaces the whole list; else rules 3 to 6
abbrev pub added : List Clause → Clause → List Clause
added xs c = cond (list_any is_empty xs) xs (cond (is_empty c) (empty ∷ []) (add_by (lone_in xs) xs c))

-- clauses added one after another, by all the rules
abbrev pub all_added : List Clause → List Clause → List Clause
all_added xs [] = xs
all_added xs (c ∷ cs) = all_added (added xs c) cs

-- what rule 5 makes of the old clauses is what all the rules make of them
abbrev pub BeginsAnew : Type 0
BeginsAnew = (u : ℕ) (c : Clause) (xs : List Clause) → lone c ≡ Some u → all_under u (c ∷ []) xs ≡ all_added (c ∷ []) xs
