use Rattle.std.proofs.Common.{◌≤◌, length, take, refl, ap, ◌∙◌, ap₂, arith, length-take}
use Rattle.bounded.specs.Lists.{listed, packed}
use Rattle.conjunctive.specs.Adding.{all_under}
use Rattle.conjunctive.specs.Lengths.{all_under_le, under_more}
use Rattle.conjunctive.proofs.Records.{from_clauses, unpacked, clause_count}
use Rattle.conjunctive.proofs.clauses.Clauses.restart.Goals as goal

pub loop-clause-init : goal.loop-clause-init
loop-clause-init c = from_clauses c.only.new.self.list _ refl

pub loop-clause-preserved : goal.loop-clause-preserved
loop-clause-preserved c =
    let u = c.args.u in
    let old = c.args.self.now.list in
    let first = c.only.new.self.list in
    let out = c.loop-clause.self.list in
    let items = c.as_slice-clause-items.result.now in
    let i = c.loop-clause.clause-index in
    let so_far = all_under u (listed first) (take i items) in
    let one : length (listed first) ≤ 1 = omega (arith, ap (λ b. length (listed b)) c.only.ensures) in
    let room : length so_far ≤ 32 =
    omega (arith, all_under_le u (listed first) (take i items), length-take i items, one, ap length c.as_slice-clause-items.ensures, clause_count old, c.requires) in
    let is = unpacked out first.filler so_far c.loop-clause.invariant room in
    c.add_under.ensures ∙ ap₂ (packed 32) is.2 (under_more u (listed first) items i _ (listed out) c.loop-clause-test.true is.0)
