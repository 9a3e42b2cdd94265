-- The bits of a number, lowest first.
use Rattle.std.proofs.Common.{◌≡◌, ℕ, ◌<◌, ◌^◌, Bool, true, false, not, ◌&&◌, ◌||◌, eqb, Decides, ap, arith}
use Rattle.std.specs.Int.{bit_at}
use lib.Bits.{bit_and, bit_or}
use Rattle.std.proofs.lemmas.Nat.{and_le_l}
use Rattle.std.proofs.lemmas.Nat.Bits.{bit_at_and, bit_at_or, bit_at-lt, bit_at-zero, bit_at-pow_same, bit_at-pow_other, same_from_bits_below}
use Rattle.std.proofs.lemmas.Bool.{eq-eqb, eqb-true}
use Rattle.std.proofs.lemmas.Bool.Decides.{nat_tests}

-- whether bit j of x is set
abbrev pub bit : ℕ → ℕ → Bool
bit x j = eqb (bit_at x j) 1

ruleset bits = (arith, nat_tests, bit_at_or, bit_at-lt, bit_at-zero)

pub bit-or : (x y j : ℕ) → bit (bit_or x y) j ≡ (bit x j || bit y j)
bit-or x y j = grind bits

pub bit-and : (x y j : ℕ) → bit (bit_and x y) j ≡ (bit x j && bit y j)
bit-and x y j = grind (bits, bit_at_and)

pub bit_zero : (j : ℕ) → bit 0 j ≡ false
bit_zero j = grind bits

-- a power of two has one bit
pub bit_power : (k j : ℕ) → bit (2 ^ k) j ≡ eqb j k
bit_power k j = grind (bits, bit_at-pow_same k, bit_at-pow_other k j)

-- two bytes are one where a test says so of each bit
byte_tells : (x y : ℕ) (p : ℕ → Bool) → x < 256 → y < 256 → ((j : ℕ) → Decides (p j) (bit_at x j ≡ bit_at y j)) → Decides (eqb x y) ((j : ℕ) → j < 8 → p j ≡ true)
byte_tells x y p hx hy d =
    (λ e j l. (d j).1 (ap (λ n. bit_at n j) (eqb-true x y e)), λ h. eq-eqb x y (same_from_bits_below 8 x y hx hy (λ j l. (d j).0 (h j l))))

pub within_tells : (x y : ℕ) → x < 256 → Decides (eqb (bit_and x y) x) ((j : ℕ) → j < 8 → (not (bit x j) || bit y j) ≡ true)
within_tells x y h =
    byte_tells (bit_and x y) x (λ j. not (bit x j) || bit y j) (omega (arith, and_le_l x y)) h (λ j. let both = bit-and x y j in (λ e. grind bits, λ e. grind bits))

pub apart_tells : (x y : ℕ) → x < 256 → Decides (eqb (bit_and x y) 0) ((j : ℕ) → j < 8 → not (bit x j && bit y j) ≡ true)
apart_tells x y h =
    byte_tells (bit_and x y) 0 (λ j. not (bit x j && bit y j)) (omega (arith, and_le_l x y)) (omega arith) (λ j. let both = bit-and x y j in (λ e. grind bits, λ e. grind bits))
