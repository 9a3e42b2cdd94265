-- A shelf's slots, the last one first.
use Rattle.std.specs.Prelude.{◌-◌}
use Rattle.shelves.specs.Slots.{Slots}
use Rattle.shelves.specs.Layers.{renumbered}

abbrev pub reversed : {F : Type 0} → Slots F → Slots F
reversed s = renumbered (λ k. s.size - 1 - k) s
