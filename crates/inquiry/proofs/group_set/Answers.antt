use Rattle.std.proofs.Common.{◌≡◌, ◌<◌, eqb, length, get_or, sym, ◌∙◌, arith, rules, tests}
use Rattle.std.proofs.lemmas.Grind.{common_steps}
use Rattle.std.proofs.lemmas.List.{at_drop_more, at_drop_all, length_push}
use Rattle.std.proofs.lemmas.Iterator.Consumers.{YieldsList-at, YieldsList-turn, YieldsList-end}
use Rattle.std.proofs.lemmas.Iterator.Splits.{YieldsList-from_slice_split}
use Rattle.inquiry.specs.Fields.{fields}
use Rattle.inquiry.specs.Lines.{with_groups}
use Rattle.inquiry.proofs.group_set.Goals as goal
use Rattle.inquiry.proofs.group_set.Goals.{In-Some, In-None}

-- the field that came
came : (c : In-Some) → (length c.loop-field.yielded < length (fields 44 c.args.list.now)) × (c.in-Some.field.now ≡ get_or (fields 44 c.args.list.now) (length c.loop-field.yielded) c.in-Some.field.now)
came c =
    YieldsList-turn
    (YieldsList-at c.into_iter-field-iterator.ensures.into_iter_gives
    (YieldsList-from_slice_split _ _ c.args.list.now c.split-field-items.ensures.rest c.split-field-items.ensures.done c.split-field-items.ensures.closure (λ x r q k. search (rules, tests))))
    c.loop-field.yielded _ c.loop-field.yielded_by _ _ c.in-Some.field c.in-Some.is c.next.ensures.steps

pub loop-field-preserved : goal.loop-field-preserved
loop-field-preserved c =
    let t = came (goal.at.loop-field-preserved c).In-Some in
    let e = at_drop_more (with_groups c.loop-field.set) (fields 44 c.args.list.now) (length c.loop-field.yielded) c.in-Some.field.now t.0 in
    let n = length_push c.loop-field.yielded c.in-Some.field in
    grind (arith, common_steps)

pub returns-in_err-number : goal.returns-in_err-number
returns-in_err-number c =
    let t = came (goal.at.returns-in_err-number c).In-Some in
    let e = at_drop_more (with_groups c.loop-field.set) (fields 44 c.args.list.now) (length c.loop-field.yielded) c.in-Some.field.now t.0 in
    grind (arith, common_steps)

pub returns : goal.returns
returns c =
    let e = YieldsList-end
    (YieldsList-at c.into_iter-field-iterator.ensures.into_iter_gives
    (YieldsList-from_slice_split _ (λ b. eqb b 44) c.args.list.now c.split-field-items.ensures.rest c.split-field-items.ensures.done c.split-field-items.ensures.closure (λ x r q k. search (rules, tests))))
    c.loop-field.yielded _ c.loop-field.yielded_by _ _ c.in-None.is c.next.ensures.steps in
    sym (at_drop_all (with_groups c.loop-field.set) (fields 44 c.args.list.now) (length c.loop-field.yielded) (omega (arith, e.1))) ∙ c.loop-field.invariant
