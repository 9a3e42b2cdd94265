use Rattle.std.proofs.Common.{◌≡◌, true, take}
use Rattle.rights.specs.Subjects.{who_of}
use Rattle.conjunctive.specs.Clauses.{all_hold}
use Rattle.conjunctive.proofs.clauses.Clauses.hold.Given as goal

abbrev pub invariant-loop-clause : goal.invariant-loop-clause
invariant-loop-clause l = all_hold (take l.clause-index l.clause-items) (who_of l.subject) ≡ true
