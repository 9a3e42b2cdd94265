-- Sameness of clauses is an equivalence.
use Rattle.std.specs.Prelude.{◌≡◌, true}
use Rattle.std.specs.Cmp.{IsEquivalence, IsPartialEquivalence, partial_equiv_from_equiv}
use Rattle.std.proofs.Common.{arith}
use mathlib.Core.Bool.{and_comm}
use Rattle.conjunctive.specs.declared.clause.Clause.{Clause}
use Rattle.conjunctive.specs.Clauses.{within, same_clause}

within_itself : (c : Clause) → within c c ≡ true
within_itself c = grind arith

within_trans : (a b c : Clause) → within a b ≡ true → within b c ≡ true → within a c ≡ true
within_trans a b c p q = grind arith

pub same_laws : IsEquivalence same_clause
same_laws = record {
  refl = λ c. grind (arith, within_itself c);
  symm = λ a b. and_comm (within a b) (within b a);
  congr = λ a b c e. grind (arith, within_trans a b c, within_trans b a c, within_trans c a b, within_trans c b a);
}

pub partial_laws : IsPartialEquivalence same_clause
partial_laws = partial_equiv_from_equiv same_laws
