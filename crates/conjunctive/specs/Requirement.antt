-- The conjunctive record as a flattened requirement.
use Rattle.std.specs.Prelude.{◌≡◌, ℕ, ◌+◌, ◌*◌, ◌≤◌, min, true, List, [], ◌∷◌, length, take, Some, None, Option, slice_index_or, refl}
use Rattle.std.proofs.Common.{arith, length-take, lit≤}
use Rattle.std.proofs.Math.Nat.{min-le_right}
use Rattle.rights.specs.declared.pattern.Sign.{Sign}
use Rattle.rights.specs.declared.pattern.Sign.TheVariants as sign
use Rattle.rights.specs.declared.pattern.Shape.{Shape}
use Rattle.rights.specs.declared.directory.Directory.{Directory}
use Rattle.rights.specs.Patterns.{place, rows}
use Rattle.rights.specs.Meaning.{Meaning}
use Rattle.bounded.specs.declared.list.Bounded.{Bounded}
use Rattle.bounded.specs.Lists.{listed, packed}
use Rattle.std.specs.Cmp.Lexicographic.{pointwise}
use Rattle.bounded.specs.Tests.{guarded}
use Rattle.conjunctive.specs.declared.clause.Literal.{Literal}
use Rattle.conjunctive.specs.declared.clause.Literal.TheVariants as literal
use Rattle.conjunctive.specs.declared.clause.Clause.{Clause}
use Rattle.conjunctive.specs.declared.record.Conjunctive.{Conjunctive}
use Rattle.conjunctive.specs.Clauses.{all_hold, empty, same_clause, tidy}
use Rattle.conjunctive.specs.Adding.{added}

abbrev pub literal_of : {N : Type 0} → Option Sign → N → Literal N
literal_of None n = literal.Absent
literal_of (Some sign.Positive) n = literal.Positive n
literal_of (Some sign.Negative) n = literal.Negative n

-- a clause of a pattern, at an owner and a group
abbrev pub clause_of : ℕ → ℕ → Shape → Clause
clause_of u g s = record { user = literal_of s.user u; group = literal_of s.group g }

-- the clauses of a pattern added in order
abbrev pub with_row : ℕ → ℕ → List Clause → List Shape → List Clause
with_row u g xs [] = xs
with_row u g xs (s ∷ row) = with_row u g (added xs (clause_of u g s)) row

-- the clauses after narrowing by a directory
abbrev pub clauses_after : Directory → List Clause → List Clause
clauses_after d xs = with_row d.owner d.group xs (slice_index_or rows (place d.execute) [])

abbrev pub list_of : Conjunctive → List Clause
list_of r = listed r.clauses.list

abbrev pub everyone : Conjunctive
everyone = record { level = 0; clauses = record { list = packed 32 empty [] }; ok = (lit≤ tt, lit≤ tt, refl) }

-- the level below, and the list of clauses there: at most two for each level
abbrev pub below : Conjunctive → ℕ
below r = min (r.level + 1) 16

abbrev pub list_below : Conjunctive → Directory → Bounded Clause 32
list_below r d = packed 32 r.clauses.list.filler (take (2 * below r) (clauses_after d (list_of r)))

-- of k clauses, those that the record has places for
pub length_few : {X : Type 0} (k : ℕ) (xs : List X) → length (take 32 (take k xs)) ≤ k
length_few k xs = omega (arith, length-take 32 (take k xs), length-take k xs)

abbrev pub record_below : (r : Conjunctive) (d : Directory) → tidy (listed (list_below r d)) ≡ true → Conjunctive
record_below r d apart = record {
  level = below r;
  clauses = record { list = list_below r d };
  ok = (min-le_right (r.level + 1) 16, length_few (2 * below r) (clauses_after d (list_of r)), apart);
}

-- the record after narrowing; the test passes for whatever a narrowing makes
abbrev pub narrowed : Conjunctive → Directory → Conjunctive
narrowed r d = guarded (tidy (listed (list_below r d))) (record_below r d) r

abbrev pub conjunctions : Meaning Conjunctive
conjunctions = record {
  level = λ r. r.level;
  admits = λ r w. all_hold (list_of r) w;
  everyone = everyone;
  narrowed = narrowed;
  same = λ a b. pointwise same_clause (list_of a) (list_of b);
}
