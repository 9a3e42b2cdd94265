-- Lists of slots, as a size and a slot for each number.
use Rattle.std.specs.Prelude.{◌≡◌, ℕ, ◌≤◌, Option, None, if◌then◌else◌, ◌&&◌, ◌==◌, nat_lt}
use Rattle.shelves.specs.declared.slot.Node.{Node}

pub record Slots (F : Type 0) : Type 0 where
  pub size : ℕ
  pub at : ℕ → Option (Node F)

module _ {F : Type 0} where
  -- what a shelf's list keeps: at most 4,096 slots, and past the size an empty one
  pub record Proper (s : Slots F) : Type 0 where
    pub bounded : s.size ≤ 4096
    pub past : (k : ℕ) → s.size ≤ k → s.at k ≡ None

  -- the same size and the same slots
  pub record Same (a b : Slots F) : Type 0 where
    pub size : a.size ≡ b.size
    pub at : (k : ℕ) → a.at k ≡ b.at k

  -- after a write to slot n: that slot is set and no other; past the size nothing changes
  abbrev pub written : Slots F → ℕ → Option (Node F) → Slots F
  written s n new = record {
    size = s.size;
    at = λ k. if nat_lt n s.size && k == n then new else s.at k;
  }
