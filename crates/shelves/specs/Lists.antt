-- The shelves here in terms of lists.
use Rattle.std.specs.Prelude.{◌≡◌, ℕ, ◌<◌, ◌≢◌, Option, List, ◌++◌, map, take}
use Rattle.std.specs.List.{range_with_len}
use Rattle.shelves.specs.declared.slot.Node.{Node}
use Rattle.shelves.specs.Slots.{Slots, Proper, Same}
use Rattle.shelves.specs.Layers.{gathered, tabled, paired, scattered}

module _ {F : Type 0} where
  -- the slots of a shelf, from 0 to its size
  abbrev pub listed : Slots F → List (Option (Node F))
  listed s = map s.at (range_with_len 0 s.size)

-- a table is the first 4,096 slots of its memory, a pair the first 4,096 of left followed by right;
-- over 4,096 slots each slot below is that of a scatter's slot, and over another size a scatter changes nothing
pub record LayersStand (F : Type 0) : Type 0 where
  pub table : (memory : List (Option (Node F))) → listed (tabled memory) ≡ take 4096 memory
  pub pair : (l r : Slots F) → listed (paired l r) ≡ take 4096 (listed l ++ listed r)
  pub scatter : (s : Slots F) → s.size ≡ 4096 → (m : ℕ) → m < 4096 → (scattered s).at (gathered 4096 m) ≡ s.at m
  pub passed_on : (s : Slots F) → Proper s → s.size ≢ 4096 → Same (scattered s) s
