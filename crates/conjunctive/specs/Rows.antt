-- Adding the clauses of a pattern, one after another.
use Rattle.std.specs.Prelude.{◌≡◌, ℕ, ◌+◌, ◌<◌, ◌≤◌, Bool, true, ◌&&◌, List, [], ◌∷◌, length, drop, ◌==◌, slice_index_or}
use Rattle.std.proofs.Common.{arith}
use Rattle.std.proofs.lemmas.List.{at_drop_more}
use Rattle.groups.specs.Groups.{member}
use Rattle.rights.specs.declared.execute.Execute.{Execute}
use Rattle.rights.specs.declared.directory.Directory.{Directory}
use Rattle.rights.specs.declared.pattern.Shape.{Shape}
use Rattle.rights.specs.Subjects.{Who, may}
use Rattle.rights.specs.Patterns.{place, rows, row_holds}
use Rattle.rights.proofs.Agreement.{agrees}
use Rattle.conjunctive.specs.declared.clause.Clause.{Clause}
use Rattle.conjunctive.specs.Clauses.{all_hold, tidy}
use Rattle.conjunctive.specs.Adding.{added}
use Rattle.conjunctive.specs.Requirement.{clause_of, with_row, clauses_after}
use Rattle.conjunctive.specs.Lengths.{added_le}
use Rattle.conjunctive.specs.Meeting.{added_law}
use Rattle.conjunctive.specs.Tidiness.{added_tidy}

-- each pattern has at most two clauses
pub row_length : (e : Execute) → length (slice_index_or rows (place e) []) ≤ 2
row_length e = grind arith

module _ (u g : ℕ) where
  -- what is left of a row, past a clause
  pub past_clause : (xs : List Clause) (row : List Shape) (i : ℕ) (s : Shape) → i < length row
      → with_row u g xs (drop i row) ≡ with_row u g (added xs (clause_of u g (slice_index_or row i s))) (drop (i + 1) row)
  past_clause xs row i s within = at_drop_more (with_row u g xs) row i s within

  row_le : (xs : List Clause) (row : List Shape) → length (with_row u g xs row) ≤ length xs + length row
  row_le xs [] = omega arith
  row_le xs (s ∷ row) = omega (arith, row_le (added xs (clause_of u g s)) row, added_le xs (clause_of u g s))

  row_tidy : (xs : List Clause) (row : List Shape) → tidy xs ≡ true → tidy (with_row u g xs row) ≡ true
  row_tidy xs [] t = t
  row_tidy xs (s ∷ row) t = grind (arith, row_tidy (added xs (clause_of u g s)) row, added_tidy xs (clause_of u g s))

  module _ (w : Who) where
    abbrev own : Bool
    own = w.user == u

    abbrev ing : Bool
    ing = member w.groups g

    row_says : (xs : List Clause) (row : List Shape) → all_hold (with_row u g xs row) w ≡ (all_hold xs w && row_holds row own ing)
    row_says xs [] = grind arith
    row_says xs (s ∷ row) = grind (arith, row_says (added xs (clause_of u g s)) row, added_law w xs (clause_of u g s))

module _ (d : Directory) (xs : List Clause) where
  pub after_le : length (clauses_after d xs) ≤ length xs + 2
  after_le = omega (arith, row_le d.owner d.group xs (slice_index_or rows (place d.execute) []), row_length d.execute)

  pub after_tidy : tidy xs ≡ true → tidy (clauses_after d xs) ≡ true
  after_tidy = row_tidy d.owner d.group xs (slice_index_or rows (place d.execute) [])

  -- narrowing leaves those who may search the directory
  pub after_says : (w : Who) → all_hold (clauses_after d xs) w ≡ (all_hold xs w && may w d)
  after_says w = grind (arith, row_says d.owner d.group w xs (slice_index_or rows (place d.execute) []), agrees d.execute (w.user == d.owner) (member w.groups d.group))
