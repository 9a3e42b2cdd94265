use Rattle.std.proofs.Common.{◌+◌, ◌<◌, sym, refl, ap, ◌∙◌, ap₂, arith}
use Rattle.std.proofs.lemmas.Bool.{lt-ltb, cond_below}
use Rattle.bounded.specs.Lists.{listed}
use Rattle.lines.specs.Lines.{tidy}
use Rattle.disjunctive.proofs.Moved.{table_after}
use Rattle.disjunctive.specs.Narrowed.{narrowed_is, after, packs}
use Rattle.disjunctive.proofs.form.DisjunctiveForm.narrow.Goals as goal

pub invariant_of-self : goal.invariant_of-self
invariant_of-self c =
    let r = c.args.self.now in
    let d = c.args.directory.now in
    let low : r.level < 16 = omega arith in
    let table =
    table_after r d low c.treat.new.self.table c.grant.new.self.table c.settle.new.self.table c.reopen.new.others
    c.treat.ensures c.grant.ensures c.reopen.ensures c.settle.ensures in
    record { ok = (omega arith, ap₂ (tidy (r.level + 1)) (ap listed table ∙ packs r d low) c.reopen.ensures ∙ after r d low) }

pub returns : goal.returns
returns c =
    let r = c.args.self.now in
    let d = c.args.directory.now in
    let low : r.level < 16 = omega arith in
    let table =
    table_after r d low c.treat.new.self.table c.grant.new.self.table c.settle.new.self.table c.reopen.new.others
    c.treat.ensures c.grant.ensures c.reopen.ensures c.settle.ensures in
    record {
      answer = sym (lt-ltb r.level 16 low);
      after = narrowed_is r _ d low refl table c.reopen.ensures ∙ cond_below r.level 16 _ r low;
      lines = ap listed table ∙ packs r d low ∙ cond_below r.level 16 _ _ low;
      others = c.reopen.ensures ∙ cond_below r.level 16 _ _ low;
    }
