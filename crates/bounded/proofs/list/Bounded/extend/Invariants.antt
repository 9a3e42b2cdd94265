use Rattle.std.proofs.Common.{◌≡◌, Bool, ◌++◌, take, filter}
use Rattle.bounded.specs.Lists.{listed, packed}
use Rattle.bounded.specs.Tests.{Tells}
use Rattle.bounded.proofs.list.Bounded.extend.Given as goal

-- the items read so far that pass have been added
abbrev pub invariant-loop-item : goal.invariant-loop-item
invariant-loop-item g l =
    (p : _ → Bool) → Tells g.P.Fn l.passes p → l.self ≡ packed g.row.N l.initial.self.filler (listed l.initial.self ++ filter p (take l.item-index l.items))
