use Rattle.std.proofs.Common.{arith}
use Rattle.conjunctive.proofs.Records.{emptied}
use Rattle.conjunctive.proofs.clauses.Clauses.add_under.Goals as goal

pub returns-then-is_empty : goal.returns-then-is_empty
returns-then-is_empty c = emptied _ _ _ c.only.ensures (grind arith)
