use Rattle.std.proofs.Common.{[], ◌∷◌, ◌++◌, ap, ◌∙◌}
use Rattle.bounded.specs.Lists.{listed, packed}
use Rattle.conjunctive.proofs.clauses.Clauses.only.Goals as goal

pub returns : goal.returns
returns c = c.push.ensures.list ∙ ap (λ b. packed 32 b.filler (listed b ++ (c.args.clause ∷ []))) c.new-out.ensures
