-- Sets of group numbers 0 to 255, as 32 bytes.
use Rattle.std.specs.Prelude.{ℕ, zero, suc, ◌-◌, ◌/◌, ◌%◌, ◌^◌, Bool, true, not, ◌&&◌, ◌||◌, List, ◌==◌, bit_or, slice_index, slice_set}

-- group g is bit 7 - g % 8 of byte g / 8; bit 7 is the most significant
abbrev pub member : List ℕ → ℕ → Bool
member bytes g = slice_index bytes (g / 8) / 2 ^ (7 - g % 8) % 2 == 1

-- the set with one group more
abbrev pub inserted : List ℕ → ℕ → List ℕ
inserted bytes g = slice_set bytes (g / 8) (bit_or (slice_index bytes (g / 8)) (2 ^ (7 - g % 8)))

-- whether a test passes at each number below n
unfoldable pub every : ℕ → (ℕ → Bool) → Bool
every zero p = true
every (suc n) p = every n p && p n

-- every group of the first set is in the second
unfoldable pub subset : List ℕ → List ℕ → Bool
subset a b = every 256 (λ g. not (member a g) || member b g)

-- no group is in both
unfoldable pub disjoint : List ℕ → List ℕ → Bool
disjoint a b = every 256 (λ g. not (member a g && member b g))
