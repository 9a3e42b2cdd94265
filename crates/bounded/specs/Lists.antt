-- The list that a record of fixed size holds, and the record that holds a list.
use Rattle.std.specs.Prelude.{ℕ, ◌-◌, List, ◌++◌, length, take, replicate}
use Rattle.bounded.specs.declared.list.Bounded.{Bounded}
use Rattle.bounded.specs.Filled.{filled}

module _ {X : Type 0} {n : ℕ} where
  abbrev pub listed : Bounded X n → List X
  listed b = take b.count b.items

-- the record that holds a list's first n items, with the filler past them
abbrev pub packed : {X : Type 0} (n : ℕ) → X → List X → Bounded X n
packed n filler xs = let ys = take n xs in record {
  count = length ys;
  items = ys ++ replicate (n - length ys) filler;
  filler = filler;
  ok = filled n filler xs;
}

-- the record with these items in place of its own
abbrev pub holding : {X : Type 0} {n : ℕ} → Bounded X n → List X → Bounded X n
holding {n = n} b xs = packed n b.filler xs
