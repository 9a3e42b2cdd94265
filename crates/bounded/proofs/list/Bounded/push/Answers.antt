use Rattle.std.proofs.Common.{◌<◌, length, ◌∙◌, arith, length-set}
use borrow.Author.Tests.{lt-true}
use Rattle.std.proofs.lemmas.List.{take_more_set}
use Rattle.bounded.proofs.Packing.{length_listed, from_listed, padded}
use Rattle.bounded.proofs.list.Bounded.push.Goals as goal

pub invariant_of-self : goal.invariant_of-self
invariant_of-self g c =
    let s = c.args.self.now in
    record { ok = (omega arith, length-set s.items s.count _ ∙ s.ok.1, padded g.row.T.coded s c.args.item) }

pub returns : goal.returns
returns g c =
    let s = c.args.self.now in
    let long = length_listed g.row.T.coded s in
    let within : s.count < length s.items = omega (arith, s.ok.1) in
    record {
      room = lt-true _ _ (omega (arith, long));
      list = from_listed g.row.T.coded _ _ (take_more_set s.items s.count c.args.item within);
    }
