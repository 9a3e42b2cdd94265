use Rattle.std.proofs.Common.{arith}
use Rattle.std.proofs.lemmas.Grind.{common_steps}
use Rattle.inquiry.proofs.Reading.{read_above}
use Rattle.inquiry.proofs.number.number.Goals as goal

-- a digit that takes the number above the largest
pub returns-then-value-from-clause-value : goal.returns-then-value-from-clause-value
returns-then-value-from-clause-value c = grind (arith, common_steps, read_above)
