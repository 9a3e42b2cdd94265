-- Worked examples: paths, and the records that they are flattened to.
use Rattle.std.specs.Prelude.{◌≡◌, ℕ, ◌<◌, Bool, true, false, List, [], ◌∷◌, map, replicate, Some, None, Option}
use Rattle.std.proofs.Common.{lit<}
use Rattle.groups.specs.Groups.{inserted}
use Rattle.rights.specs.declared.directory.Directory.{Directory}
use Rattle.rights.specs.Subjects.{Who, may}
use Rattle.rights.specs.Paths.{narrowed_by}
use Rattle.bounded.specs.Lists.{listed}
use Rattle.conjunctive.specs.declared.clause.Literal.TheVariants.{Absent, Positive, Negative}
use Rattle.conjunctive.specs.declared.clause.Clause.{Clause}
use Rattle.conjunctive.specs.Clauses.{empty}
use Rattle.conjunctive.specs.Requirement.{conjunctions, list_of as clauses_of}
use Rattle.lines.specs.declared.line.OpenLine.{OpenLine}
use Rattle.disjunctive.specs.Requirement.{disjunctions, list_of as lines_of}

-- a directory by its owner, its group and the execute bits of owner, group and others
abbrev pub directory : Bool → Bool → Bool → ℕ → (g : ℕ) → g < 256 → Directory
directory o p t u g small = record { owner = u; group = g; execute = record { owner = o; group = p; others = t }; small = small }

abbrev bits_110 : ℕ → (g : ℕ) → g < 256 → Directory
bits_110 = directory true true false

abbrev bits_100 : ℕ → (g : ℕ) → g < 256 → Directory
bits_100 = directory true false false

abbrev bits_011 : ℕ → (g : ℕ) → g < 256 → Directory
bits_011 = directory false true true

abbrev bits_010 : ℕ → (g : ℕ) → g < 256 → Directory
bits_010 = directory false true false

-- the clauses of a flattened path
abbrev pub clauses : List Directory → List Clause
clauses path = clauses_of (narrowed_by conjunctions conjunctions.everyone path)

abbrev is_or_in : ℕ → ℕ → Clause
is_or_in u g = record { user = Positive u; group = Positive g }

abbrev is : ℕ → Clause
is u = record { user = Positive u; group = Absent }

abbrev is_not : ℕ → Clause
is_not u = record { user = Negative u; group = Absent }

abbrev in_group : ℕ → Clause
in_group g = record { user = Absent; group = Positive g }

-- a set of groups
abbrev pub set_of : List ℕ → List ℕ
set_of [] = replicate 32 0
set_of (g ∷ gs) = inserted (set_of gs) g

-- the lines of a flattened path: a user, wanted groups, barred groups
abbrev pub lines : List Directory → List (ℕ × List ℕ × List ℕ)
lines path = map (λ l. (l.user, l.line.wanted, l.line.barred)) (lines_of (narrowed_by disjunctions disjunctions.everyone path))

abbrev seen : Option OpenLine → Option (List ℕ × List ℕ × List ℕ)
seen None = None
seen (Some o) = Some (o.line.wanted, o.line.barred, listed o.shut)

-- the open line of a flattened path: wanted groups, barred groups, shut-out users
abbrev pub others : List Directory → Option (List ℕ × List ℕ × List ℕ)
others path = seen (narrowed_by disjunctions disjunctions.everyone path).others

abbrev none : List ℕ
none = set_of []

-- 110 of user 1, group 1, then 110 of user 2, group 1
abbrev two_owners : List Directory
two_owners = bits_110 1 1 (lit< tt) ∷ bits_110 2 1 (lit< tt) ∷ []

-- the same with user 1, group 2 for the second directory
abbrev two_groups : List Directory
two_groups = bits_110 1 1 (lit< tt) ∷ bits_110 1 2 (lit< tt) ∷ []

-- 110 of 1, 1, then 100 of 2, 5
abbrev one_user : List Directory
one_user = bits_110 1 1 (lit< tt) ∷ bits_100 2 5 (lit< tt) ∷ []

-- then 100 of user 1
abbrev nobody : List Directory
nobody = bits_110 1 1 (lit< tt) ∷ bits_100 2 5 (lit< tt) ∷ bits_100 1 5 (lit< tt) ∷ []

-- 011 of 1, 1, then 110 of 1, 1
abbrev shut_out : List Directory
shut_out = bits_011 1 1 (lit< tt) ∷ bits_110 1 1 (lit< tt) ∷ []

abbrev user_1_in_1 : Who
user_1_in_1 = record { user = 1; groups = set_of (1 ∷ []) }

pub record Worked : Type 0 where
  pub two_owners_clauses : clauses two_owners ≡ is_or_in 1 1 ∷ is_or_in 2 1 ∷ []
  pub two_owners_lines : lines two_owners ≡ []
  pub two_owners_others : others two_owners ≡ Some (set_of (1 ∷ []), none, [])
  pub two_groups_clauses : clauses two_groups ≡ is_or_in 1 1 ∷ is_or_in 1 2 ∷ []
  pub two_groups_lines : lines two_groups ≡ (1, none, none) ∷ []
  pub two_groups_others : others two_groups ≡ Some (set_of (1 ∷ 2 ∷ []), none, [])
  pub one_user_clauses : clauses one_user ≡ is 2 ∷ in_group 1 ∷ []
  pub one_user_lines : lines one_user ≡ (2, set_of (1 ∷ []), none) ∷ []
  pub one_user_others : others one_user ≡ None
  pub nobody_clauses : clauses nobody ≡ empty ∷ []
  pub nobody_lines : lines nobody ≡ []
  pub nobody_others : others nobody ≡ None
  pub shut_out_clauses : clauses shut_out ≡ is_not 1 ∷ is_or_in 1 1 ∷ []
  pub shut_out_lines : lines shut_out ≡ []
  pub shut_out_others : others shut_out ≡ Some (set_of (1 ∷ []), none, 1 ∷ [])
  pub owner_refused : may user_1_in_1 (bits_010 1 1 (lit< tt)) ≡ false
