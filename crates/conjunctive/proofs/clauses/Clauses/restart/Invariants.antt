use Rattle.std.proofs.Common.{◌≡◌, take}
use Rattle.bounded.specs.Lists.{listed, packed}
use Rattle.conjunctive.specs.Adding.{all_under}
use Rattle.conjunctive.proofs.clauses.Clauses.restart.Given as goal

abbrev pub invariant-loop-clause : goal.invariant-loop-clause
invariant-loop-clause l =
    l.self.list ≡ packed 32 l.initial.self.list.filler (all_under l.u (listed l.initial.self.list) (take l.clause-index l.clause-items))
