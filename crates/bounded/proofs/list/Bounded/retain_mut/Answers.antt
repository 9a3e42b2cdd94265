use Rattle.std.proofs.Common.{◌<◌, ◌≡◌, Bool, cond, List, [], ◌∷◌, length, sym, ap, ◌∙◌, arith, length-take, length-drop}
use Rattle.std.specs.List.{flat_map}
use Rattle.std.proofs.lemmas.List.Concat.{flat_map-append}
use Rattle.std.proofs.lemmas.List.{append-nil}
use Rattle.bounded.specs.Lists.{listed, packed}
use Rattle.bounded.specs.Tests.{Leaves}
use Rattle.bounded.proofs.Loops.{at_end, rest_read, rest_more, unchanged, gathered}
use Rattle.bounded.proofs.list.Bounded.retain_mut.Goals as goal
use Rattle.bounded.proofs.list.Bounded.retain_mut.Goals.{then-change, else-change}

pub loop-item-preserved : goal.loop-item-preserved
loop-item-preserved g c =
    let xs = listed c.args.self.now in
    let i = c.loop-item.item-index in
    let x = c.item-item.result in
    let a = c.loop-item.out in
    let rest = c.loop-item.invariant.0 in
    let turn = simp (length-take, length-drop) at c.loop-item-test.true in
    let within : i < length xs = simp length-take (omega (arith, turn)) in
    let here = rest_read xs c.loop-item.item-items i rest x c.item-item.is in
    let stays : Bool → List _ = λ b. cond b (c.change.new.arg2 ∷ []) [] in
    let left : (f : _ → List _) → Leaves g.C.Fn c.args.change f → stays c.change.result ≡ flat_map f (x ∷ []) = λ f leaves. leaves _ _ _ c.change.ensures ∙ ap f (sym c.item-item.is) ∙ sym (append-nil (f x)) in
    elim c.if-change.branch [
      | then-change w ↦ (
        rest_more xs c.loop-item.item-items i rest _ _ w.item-items-is,
        λ f leaves.
            gathered g.row.T.coded g.row.N (flat_map f) (flat_map-append f) c.args.self.now.filler [] a c.if-change.out xs i x _ within here (c.loop-item.invariant.1 f leaves) (w.out-is ∙ w.push.ensures.list) (ap stays (sym w.if-change.true) ∙ left f leaves),
      )
      | else-change w ↦ (
        rest_more xs c.loop-item.item-items i rest _ _ w.item-items-is,
        λ f leaves.
            gathered g.row.T.coded g.row.N (flat_map f) (flat_map-append f) c.args.self.now.filler [] a c.if-change.out xs i x [] within here (c.loop-item.invariant.1 f leaves) (w.out-is ∙ unchanged g.row.T.coded g.row.N a) (ap stays (sym w.if-change.false) ∙ left f leaves),
      )
    ]

pub returns : goal.returns
returns g c f leaves =
    let end = simp (length-take, length-drop) at c.loop-item-test.false in
    at_end (λ xs. packed g.row.N c.args.self.now.filler (flat_map f xs)) (listed c.args.self.now) c.loop-item.item-index c.loop-item.out (simp length-take (omega (arith, end))) (sym (c.loop-item.invariant.1 f leaves))
