use Rattle.std.proofs.Common.{◌≡◌, false, take}
use Rattle.std.specs.List.{list_any}
use Rattle.conjunctive.specs.Clauses.{within}
use Rattle.conjunctive.proofs.clauses.Clauses.covers.Given as goal

abbrev pub invariant-loop-clause : goal.invariant-loop-clause
invariant-loop-clause l = list_any (λ x. within x l.added) (take l.clause-index l.clause-items) ≡ false
