-- The slots of a pile of five layers.
use Rattle.shelves.specs.declared.pair.Pair.{Pair}
use Rattle.shelves.specs.declared.scatter.Scatter.{Scatter}
use Rattle.shelves.specs.declared.table.Table.{Table}
use Rattle.shelves.specs.Slots.{Slots}
use Rattle.shelves.specs.Layers.{tabled, paired, scattered}

abbrev pub piled : {F : Type 0} → Scatter (Pair (Table F) (Scatter (Pair (Table F) (Table F)))) → Slots F
piled p = scattered (paired
    (tabled p.below.left.memory.now)
    (scattered (paired (tabled p.below.right.below.left.memory.now) (tabled p.below.right.below.right.memory.now))))
