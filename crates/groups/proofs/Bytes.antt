-- From the bits of byte i to the groups 8 * i to 8 * i + 7.
use Rattle.std.proofs.Common.{◌≡◌, ℕ, ◌+◌, ◌-◌, ◌*◌, ◌/◌, ◌%◌, ◌<◌, Bool, true, List, Decides, length, get_or, sym, refl, ap, ◌∙◌, ap₂, arith}
use Rattle.std.specs.List.{zip, list_all}
use Rattle.std.proofs.lemmas.Bool.Decides.{same_from_decides}
use Rattle.std.proofs.lemmas.List.Recursion.{and_at, and_from_places}
use Rattle.std.proofs.lemmas.Slice.Zip.{get_or-zip, length-zip}
use Rattle.groups.specs.Groups.{member, every}
use Rattle.groups.proofs.Bits.{bit}
use Rattle.groups.proofs.Every.{every_tells}

-- where a test of two bytes tells of each of their bits, passed by all bytes it tells of each group
pub bytes_tell : (test : ℕ × ℕ → Bool) (f : Bool → Bool → Bool) (a b : List ℕ) → length a ≡ 32 → length b ≡ 32 → ((i : ℕ) → get_or a i 0 < 256)
    → ((x y : ℕ) → x < 256 → Decides (test (x, y)) ((j : ℕ) → j < 8 → f (bit x j) (bit y j) ≡ true))
    → list_all test (zip a b) ≡ every 256 (λ g. f (member a g) (member b g))
bytes_tell test f a b la lb fits tells = same_from_decides (list_all test (zip a b)) (every 256 at) (down, up) (every_tells at (λ g. at g ≡ true) (λ g. (λ e. e, λ e. e)) 256)
  where
    at : ℕ → Bool
    at g = f (member a g) (member b g)

    read : (i : ℕ) → i < 32 → test (get_or (zip a b) i (0, 0)) ≡ test (get_or a i 0, get_or b i 0)
    read i l = ap test (get_or-zip a b i (0, 0) (omega arith) (omega arith))

    down : list_all test (zip a b) ≡ true → (g : ℕ) → g < 256 → at g ≡ true
    down e g l =
        let i = g / 8 in
        (tells (get_or a i 0) (get_or b i 0) (fits i)).0
        (sym (read i (omega arith)) ∙ and_at (list_all test) test refl (λ _ _. refl) (zip a b) i (0, 0) (omega (arith, length-zip a b)) e)
        (7 - g % 8) (omega arith)

    up : ((g : ℕ) → g < 256 → at g ≡ true) → list_all test (zip a b) ≡ true
    up h =
        and_from_places (list_all test) test refl (λ _ _. refl) (zip a b) (0, 0)
        (λ i l. read i (omega (arith, length-zip a b)) ∙ (tells (get_or a i 0) (get_or b i 0) (fits i)).1 (here i (omega (arith, length-zip a b))))
      where
        here : (i : ℕ) → i < 32 → (j : ℕ) → j < 8 → f (bit (get_or a i 0) j) (bit (get_or b i 0) j) ≡ true
        here i l j m =
            let g = 8 * i + (7 - j) in
            let byte : i ≡ g / 8 = omega arith in
            let place : j ≡ 7 - g % 8 = omega arith in
            ap₂ (λ n k. f (bit (get_or a n 0) k) (bit (get_or b n 0) k)) byte place ∙ h g (omega arith)
