-- Worked examples: where slots of a scatter over 4,096 slots lie below.
use Rattle.std.specs.Prelude.{◌≡◌}
use Rattle.shelves.specs.Layers.{lies}

pub record ScatteredWorked : Type 0 where
  pub slot_1_lies : lies 4096 1 ≡ 2731
  pub slot_3_lies : lies 4096 3 ≡ 1
  pub slot_4095_lies : lies 4096 4095 ≡ 1365
