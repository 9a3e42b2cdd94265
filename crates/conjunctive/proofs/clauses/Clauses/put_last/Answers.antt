use Rattle.std.proofs.Common.{rules, not, [], ◌∷◌, filter}
use Rattle.bounded.specs.Lists.{listed}
use Rattle.bounded.proofs.Loops.{pushed}
use Rattle.conjunctive.specs.contracts.clause.Clause.{the_row}
use Rattle.conjunctive.specs.Clauses.{within}
use Rattle.conjunctive.proofs.clauses.Clauses.put_last.Goals as goal

pub returns : goal.returns
returns c =
    let was = c.args.self.now.list in
    let added = c.args.added in
    pushed the_row.coded 32 was.filler c.retain.new.self c.push.new.self (filter (λ x. not (within added x)) (listed was)) (added ∷ []) (c.retain.ensures (λ x. not (within added x)) (λ x b h. search rules)) c.push.ensures.list
