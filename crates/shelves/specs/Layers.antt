-- The lists of slots of the shelves here.
use Rattle.std.specs.Prelude.{ℕ, ◌+◌, ◌-◌, ◌*◌, ◌%◌, min, Option, None, if◌then◌else◌, List, length, ◌==◌, nat_lt, slice_index_or, slice_set}
use Rattle.shelves.specs.declared.slot.Node.{Node}
use Rattle.shelves.specs.Slots.{Slots, written}

-- where slot n of a scatter over so many slots lies below
abbrev pub lies : ℕ → ℕ → ℕ
lies size n = if size == 4096 then (2731 * n) % 4096 else n

-- the slot of a scatter that lies at slot m below
abbrev pub gathered : ℕ → ℕ → ℕ
gathered size m = if size == 4096 then (3 * m) % 4096 else m

module _ {F : Type 0} where
  -- a table: the first 4,096 slots of its memory
  abbrev pub tabled : List (Option (Node F)) → Slots F
  tabled memory = record {
    size = min (length memory) 4096;
    at = λ k. if nat_lt k 4096 then slice_index_or memory k None else None;
  }

  -- the memory after a write by a table: the slot is set where it counts
  abbrev pub placed : List (Option (Node F)) → ℕ → Option (Node F) → List (Option (Node F))
  placed memory n new = if nat_lt n (min (length memory) 4096) then slice_set memory n new else memory

  -- a pair: the left slots followed by the right ones, the first 4,096
  abbrev pub paired : Slots F → Slots F → Slots F
  paired l r = record {
    size = min (l.size + r.size) 4096;
    at = λ k. if nat_lt k l.size then l.at k else (if nat_lt k 4096 then r.at (k - l.size) else None);
  }

  -- the right shelf after a write to slot n of a pair whose left shelf has so many slots; the left one is written at n
  abbrev pub right_written : ℕ → Slots F → ℕ → Option (Node F) → Slots F
  right_written split r n new = if nat_lt n split then r else (if nat_lt n 4096 then written r (n - split) new else r)

  -- a shelf whose slot k is the slot f k of one below, of the same size
  abbrev pub renumbered : (ℕ → ℕ) → Slots F → Slots F
  renumbered f s = record {
    size = s.size;
    at = λ k. if nat_lt k s.size then s.at (f k) else None;
  }

  abbrev pub scattered : Slots F → Slots F
  scattered s = renumbered (lies s.size) s

  -- the shelf below after a write to slot n of a scatter
  abbrev pub below_written : Slots F → ℕ → Option (Node F) → Slots F
  below_written s n new = if nat_lt n s.size then written s (lies s.size n) new else s
