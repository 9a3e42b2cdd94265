use Rattle.std.proofs.Common.{false, sym, refl, ap, ◌∙◌}
use Rattle.bounded.specs.Lists.{listed, packed}
use Rattle.bounded.proofs.Packing.{from_listed}
use Rattle.lines.specs.contracts.line.UserLine.{the_row}
use Rattle.lines.specs.Moves.{move_2}
use Rattle.lines.proofs.Turns.{move_2_by_test}
use Rattle.lines.proofs.table.Lines.grant.Goals as goal

pub returns-else-lacks_owner : goal.returns-else-lacks_owner
returns-else-lacks_owner c =
    let s = c.args.self.now.table in
    from_listed the_row.coded s (listed s) refl
    ∙ ap (packed 16 s.filler)
    (move_2_by_test c.args.directory.now c.in-Some.open c.args.others.now (listed s) false c.in-Some.is c.if-lacks_owner.ensures)

pub returns-in_default : goal.returns-in_default
returns-in_default c =
    let s = c.args.self.now.table in
    from_listed the_row.coded s (listed s) refl ∙ ap (λ o. packed 16 s.filler (move_2 c.args.directory.now o (listed s))) (sym c.in_default.is)
