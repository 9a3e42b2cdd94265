-- The conjunctive record keeps the laws of a form.
use Rattle.std.specs.Prelude.{◌≡◌, ℕ, ◌+◌, ◌*◌, ◌<◌, ◌≤◌, true, List, [], ◌∷◌, length, take, refl}
use Rattle.std.proofs.Common.{ap, ◌∙◌, arith, take_all}
use mathlib.Core.HLevel.{is_prop→PathP}
use denote.Struct.Props.{props}
use Rattle.std.proofs.lemmas.Bool.{false≢true}
use Rattle.rights.specs.Subjects.{Who}
use Rattle.rights.specs.Meaning.{Lawful}
use Rattle.rights.specs.declared.directory.Directory.{Directory}
use Rattle.bounded.specs.Lists.{listed, packed}
use Rattle.std.specs.Cmp.Lexicographic.{pointwise}
use Rattle.bounded.proofs.Guards.{guarded_passes}
use Rattle.bounded.proofs.Packing.{packed_listed, length_listed}
use Rattle.conjunctive.specs.contracts.clause.Clause.{the_row}
use Rattle.conjunctive.specs.declared.clause.Clause.{Clause}
use Rattle.conjunctive.specs.declared.clauses.Clauses.{Clauses}
use Rattle.conjunctive.specs.declared.record.Conjunctive.{Conjunctive, ok-type}
use Rattle.conjunctive.specs.Clauses.{all_hold, same_clause, tidy}
use Rattle.conjunctive.specs.Requirement.{clauses_after, list_of, below, list_below, record_below, narrowed, conjunctions}
use Rattle.conjunctive.specs.Meeting.{more}
use Rattle.conjunctive.specs.Rows.{after_le, after_tidy, after_says}

one_proof : (level : ℕ) (clauses : Clauses) → IsProp (ok-type level clauses)
one_proof level clauses = hlevel props

-- records with the same level and clauses are the same
pub same_record : (a b : Conjunctive) → a.level ≡ b.level → a.clauses.list ≡ b.clauses.list → a ≡ b
same_record a b p q = λ j. record {
  level = p j;
  clauses = record { list = q j };
  ok = is_prop→PathP (λ k. ok-type (p k) (record { list = q k })) (λ k. one_proof (p k) (record { list = q k })) a.ok b.ok j;
}

module _ (r : Conjunctive) (d : Directory) (low : r.level < 16) where
  abbrev after : List Clause
  after = clauses_after d (list_of r)

  few : length after ≤ 2 * below r
  few = omega (arith, after_le d (list_of r), length_listed the_row.coded r.clauses.list, r.ok.1)

  whole : take (2 * below r) after ≡ after
  whole = take_all _ after few

  held : listed (list_below r d) ≡ after
  held =
      let room : length (take (2 * below r) after) ≤ 32 = omega (arith, few, ap length whole) in
      packed_listed the_row.coded r.clauses.list.filler (take (2 * below r) after) room ∙ whole

  made : narrowed r d ≡ record_below r d (ap tidy held ∙ after_tidy d (list_of r) r.ok.2)
  made = guarded_passes _ (record_below r d) r (ap tidy held ∙ after_tidy d (list_of r) r.ok.2)

  -- narrowing makes one level more, and the clauses that the rules give
  pub narrowed_level : (narrowed r d).level ≡ r.level + 1
  narrowed_level = ap (λ x. x.level) made ∙ omega arith

  pub narrowed_list : (narrowed r d).clauses.list ≡ packed 32 r.clauses.list.filler (clauses_after d (list_of r))
  narrowed_list = ap (λ x. x.clauses.list) made ∙ ap (packed 32 r.clauses.list.filler) whole

  pub narrowed_clauses : list_of (narrowed r d) ≡ clauses_after d (list_of r)
  narrowed_clauses = ap list_of made ∙ held

same_says : (xs ys : List Clause) (w : Who) → pointwise same_clause xs ys ≡ true → all_hold xs w ≡ all_hold ys w
same_says [] [] w e = refl
same_says [] (y ∷ ys) w e = absurd (false≢true e)
same_says (x ∷ xs) [] w e = grind arith
same_says (x ∷ xs) (y ∷ ys) w e = grind (arith, more w x y, more w y x, same_says xs ys w)

pub lawful : Lawful conjunctions
lawful = record {
  fresh = refl;
  whole = λ w. refl;
  bounded = λ r. r.ok.0;
  deeper = narrowed_level;
  narrower = λ r d w low. ap (λ xs. all_hold xs w) (narrowed_clauses r d low) ∙ after_says d (list_of r) w;
  equal = λ a b w e. same_says (list_of a) (list_of b) w e;
}
