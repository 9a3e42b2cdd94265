use Rattle.std.proofs.Common.{eqb, ap, ◌∙◌}
use Rattle.std.specs.List.{list_any}
use Rattle.bounded.specs.Lists.{listed}
use Rattle.lines.specs.declared.line.UserLine.{UserLine}
use Rattle.lines.proofs.Turns.{has_line}
use Rattle.lines.proofs.table.Lines.has.Goals as goal

pub returns : goal.returns
returns c =
    c.has_key.ensures
    ∙ ap (list_any (λ (l : UserLine). eqb l.user c.args.user)) c.as_slice.ensures
    ∙ has_line (listed c.args.self.now.table) c.args.user
