use Rattle.std.proofs.Common.{◌≡◌, ◌+◌, ◌≤◌, drop}
use Rattle.bounded.specs.Lists.{listed}
use Rattle.conjunctive.specs.Requirement.{with_row}
use Rattle.conjunctive.proofs.clauses.Clauses.narrow.Given as goal

-- what is left of the row gives the list that is wanted; a clause for each turn
abbrev pub invariant-loop-shape : goal.invariant-loop-shape
invariant-loop-shape l =
    (l.self.list.filler ≡ l.initial.self.list.filler)
    × (l.self.list.count ≤ l.initial.self.list.count + l.shape-index)
    × (with_row l.directory.owner l.directory.group (listed l.self.list) (drop l.shape-index l.shape-items) ≡ with_row l.directory.owner l.directory.group (listed l.initial.self.list) l.shape-items)
