use Rattle.std.proofs.Common.{◌≡◌, List, take, drop}
use Rattle.std.specs.List.{flat_map}
use Rattle.bounded.specs.Lists.{listed, packed}
use Rattle.bounded.specs.Tests.{Leaves}
use Rattle.bounded.proofs.list.Bounded.retain_mut.Given as goal

-- what is left of the items lent so far has been put into the new list; the others are as they were
abbrev pub invariant-loop-item : goal.invariant-loop-item
invariant-loop-item g l =
    (drop l.item-index l.item-items ≡ drop l.item-index (listed l.fn.self))
    × ((f : _ → List _) → Leaves g.C.Fn l.change f → l.out ≡ packed g.row.N l.fn.self.filler (flat_map f (take l.item-index (listed l.fn.self))))
