use Rattle.std.proofs.Common.{rules, ◌∷◌, [], ap, ◌∙◌}
use Rattle.bounded.specs.Lists.{holding, listed}
use Rattle.lines.specs.Moves.{move_1}
use Rattle.lines.proofs.Turns.{move_1_by_line}
use Rattle.lines.proofs.table.Lines.treat.Goals as goal

pub returns : goal.returns
returns c =
    let d = c.args.directory.now in
    let t = c.args.self.now.table in
    c.retain_mut.ensures (λ l. move_1 d (l ∷ [])) (λ x y stays h. search rules)
    ∙ ap (holding t) (move_1_by_line d (listed t))
