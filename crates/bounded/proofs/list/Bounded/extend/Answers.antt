use Rattle.std.proofs.Common.{◌<◌, true, false, [], ◌∷◌, length, filter, sym, refl, ◌∙◌, arith}
use Rattle.std.proofs.lemmas.Fn.{says_at}
use Rattle.std.proofs.lemmas.List.Elements.{filter-append}
use Rattle.bounded.specs.Lists.{listed}
use Rattle.bounded.proofs.Loops.{unchanged, kept_item, gathered}
use Rattle.bounded.proofs.list.Bounded.extend.Goals as goal
use Rattle.bounded.proofs.list.Bounded.extend.Goals.{then-passes, else-passes}

pub loop-item-preserved : goal.loop-item-preserved
loop-item-preserved g c p tells =
    let s = c.args.self.now in
    let a = c.loop-item.self in
    let xs = c.args.items.now in
    let i = c.loop-item.item-index in
    let x = c.item-item.result in
    let within : i < length xs = omega arith in
    let turn = gathered g.row.T.coded g.row.N (filter p) (filter-append p) s.filler (listed s) a c.if-passes.self xs i x in
    let told = tells x c.passes.result (says_at g.P.Fn c.passes.ensures refl) in
    elim c.if-passes.branch [
      | then-passes w ↦ turn (x ∷ []) within c.item-item.is (c.loop-item.invariant p tells) (w.self-is ∙ w.push.ensures.list) (kept_item p x true (sym w.if-passes.true ∙ told))
      | else-passes w ↦ turn [] within c.item-item.is (c.loop-item.invariant p tells) (w.self-is ∙ unchanged g.row.T.coded g.row.N a) (kept_item p x false (sym w.if-passes.false ∙ told))
    ]
