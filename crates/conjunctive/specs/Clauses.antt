-- What clauses say, and what holds of every list of clauses in a record.
use Rattle.std.specs.Prelude.{ℕ, Bool, true, false, not, ◌&&◌, ◌||◌, List, [], ◌∷◌, is_some, Some, None, Option, ◌==◌}
use Rattle.std.specs.Option.{option_or}
use Rattle.groups.specs.Groups.{member}
use Rattle.rights.specs.Subjects.{Who}
use Rattle.std.specs.List.{list_all}
use Rattle.conjunctive.specs.declared.clause.Literal.{Literal}
use Rattle.conjunctive.specs.declared.clause.Literal.TheVariants.{Absent, Positive, Negative}
use Rattle.conjunctive.specs.declared.clause.Clause.{Clause}

module _ {N : Type 0} where
  abbrev pub is_absent : Literal N → Bool
  is_absent Absent = true
  is_absent (Positive n) = false
  is_absent (Negative n) = false

  abbrev pub number_of : Literal N → Option N
  number_of Absent = None
  number_of (Positive n) = Some n
  number_of (Negative n) = Some n

  -- whether a literal is there and holds, where its fact is so or is not
  abbrev pub signed : Literal N → Bool → Bool
  signed Absent so = false
  signed (Positive n) so = so
  signed (Negative n) so = not so

  -- the same, where `fact` says what is so of a number
  abbrev pub literal_holds : (N → Bool) → Literal N → Bool
  literal_holds fact Absent = false
  literal_holds fact (Positive n) = fact n
  literal_holds fact (Negative n) = not (fact n)

  -- the same literal, or none in both, by a test of whether numbers are the same
  abbrev pub same_literal : (N → N → Bool) → Literal N → Literal N → Bool
  same_literal same Absent Absent = true
  same_literal same (Positive a) (Positive b) = same a b
  same_literal same (Negative a) (Negative b) = same a b
  same_literal same l m = false

  -- the second is the same literal, if the first is there
  abbrev pub literal_within : (N → N → Bool) → Literal N → Literal N → Bool
  literal_within same l m = is_absent l || same_literal same l m

-- a clause holds where one of its literals does
abbrev pub holds : Clause → Who → Bool
holds c w = literal_holds (λ u. w.user == u) c.user || literal_holds (λ g. member w.groups g) c.group

-- a requirement is met where each of its clauses holds
abbrev pub all_hold : List Clause → Who → Bool
all_hold cs w = list_all (λ c. holds c w) cs

-- the second clause has all literals of the first
abbrev pub within : Clause → Clause → Bool
within c d = literal_within ◌==◌ c.user d.user && literal_within ◌==◌ c.group d.group

abbrev pub empty : Clause
empty = record { user = Absent; group = Absent }

abbrev pub is_empty : Clause → Bool
is_empty c = is_absent c.user && is_absent c.group

abbrev lone_by : Literal ℕ → Literal ℕ → Option ℕ
lone_by (Positive u) Absent = Some u
lone_by user group = None

-- u, where the clause is exactly [user is u]
abbrev pub lone : Clause → Option ℕ
lone c = lone_by c.user c.group

-- u, where the list has a clause that is exactly [user is u]
abbrev pub lone_in : List Clause → Option ℕ
lone_in [] = None
lone_in (c ∷ cs) = option_or (lone c) (lone_in cs)

-- neither clause contains the other, and not both are a lone [user is u]
abbrev pub apart : Clause → Clause → Bool
apart c d = not (within c d) && (not (within d c) && not (is_some (lone c) && is_some (lone d)))

-- what holds of the clauses of every record: no clause contains another, and at most one is a lone [user is u]
abbrev pub tidy : List Clause → Bool
tidy [] = true
tidy (c ∷ cs) = list_all (apart c) cs && tidy cs

-- both clauses have the same literals
abbrev pub same_clause : Clause → Clause → Bool
same_clause c d = within c d && within d c
