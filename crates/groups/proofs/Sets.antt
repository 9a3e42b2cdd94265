-- What one group more does to a set, and the laws of subsets and disjoint sets.
use Rattle.std.proofs.Common.{◌≡◌, ℕ, ◌-◌, ◌/◌, ◌%◌, ◌^◌, ◌<◌, Bool, true, false, not, ◌&&◌, ◌||◌, eqb, Decides, List, length, get_or, replicate, sym, refl, ap, ◌∙◌, subst, ⊎_elim, arith, get_or-set_other}
use lib.Bits.{bit_or}
use lib.ListN.{get_or-replicate}
use Rattle.std.proofs.lemmas.Bool.{and_from, both_ways, cases_eq, eq-eqb, eqb-true, false_from_ne_true, false≢true, ne_eqb, not-true, not_from_false, or_cases, or_left, or_right}
use Rattle.std.proofs.lemmas.Bool.Decides.{Decides-and, Decides-like, Decides-not, nat_tests, same_from_decides}
use Rattle.std.proofs.lemmas.Grind.{get_or-set_at}
use Rattle.groups.specs.Groups.{member, inserted, subset, disjoint}
use Rattle.groups.proofs.Bits.{bit, bit-or, bit_power, bit_zero}
use Rattle.groups.proofs.Every.{every_tells}

pub member_inserted : (s : List ℕ) (g h : ℕ) → length s ≡ 32 → g < 256 → member (inserted s g) h ≡ (eqb h g || member s h)
member_inserted s g h len l = ⊎_elim same other (cases_eq (h / 8) (g / 8))
  where
    new : ℕ
    new = bit_or (get_or s (g / 8) 0) (2 ^ (7 - g % 8))

    same : h / 8 ≡ g / 8 → member (inserted s g) h ≡ (eqb h g || member s h)
    same e =
        ap (λ x. bit x (7 - h % 8)) (get_or-set_at s (g / 8) (h / 8) new 0 e (omega arith))
        ∙ bit-or (get_or s (g / 8) 0) (2 ^ (7 - g % 8)) (7 - h % 8)
        ∙ grind (arith, nat_tests, ap (λ n. bit (get_or s n 0) (7 - h % 8)) e, bit_power (7 - g % 8) (7 - h % 8))

    other : (h / 8 ≡ g / 8 → ⊥) → member (inserted s g) h ≡ (eqb h g || member s h)
    other ne =
        ap (λ x. bit x (7 - h % 8)) (get_or-set_other s (g / 8) (h / 8) new 0 ne)
        ∙ ap (λ b. b || member s h) (sym (ne_eqb h g (λ q. ne (ap (λ n. n / 8) q))))

-- the group put in is there, and so is each that was
member_new : (s : List ℕ) (g : ℕ) → length s ≡ 32 → g < 256 → member (inserted s g) g ≡ true
member_new s g len l = member_inserted s g g len l ∙ or_left (eqb g g) (member s g) (eq-eqb g g refl)

member_kept : (s : List ℕ) (g h : ℕ) → length s ≡ 32 → g < 256 → member s h ≡ true → member (inserted s g) h ≡ true
member_kept s g h len l m = member_inserted s g h len l ∙ or_right (eqb h g) (member s h) m

-- what is so of the second set at each group of the first
abbrev Each : (Bool → Type 0) → List ℕ → List ℕ → Type 0
Each P a b = (h : ℕ) → h < 256 → member a h ≡ true → P (member b h)

abbrev has : Bool → Type 0
has t = t ≡ true

abbrev lacks : Bool → Type 0
lacks t = t ≡ true → ⊥

each_inserted : (P : Bool → Type 0) (s t : List ℕ) (g : ℕ) → length s ≡ 32 → g < 256 → Each P s t × P (member t g) → Each P (inserted s g) t
each_inserted P s t g len l e h m n =
    ⊎_elim (λ (q : eqb h g ≡ true). subst (λ i. P (member t i)) (sym (eqb-true h g q)) e.1) (e.0 h m)
    (or_cases (eqb h g) (member s h) (sym (member_inserted s g h len l) ∙ n))

each_parts : (P : Bool → Type 0) (s t : List ℕ) (g : ℕ) → length s ≡ 32 → g < 256 → Each P (inserted s g) t → Each P s t × P (member t g)
each_parts P s t g len l e = (λ h m n. e h m (member_kept s g h len l n), e g l (member_new s g len l))

implies : (s t : Bool) → Decides (not s || t) (s ≡ true → has t)
implies true t = (λ e m. e, λ f. f refl)
implies false t = (λ e m. absurd (false≢true m), λ f. refl)

excludes : (s t : Bool) → Decides (not (s && t)) (s ≡ true → lacks t)
excludes true t = (λ e m. both_ways t (not-true t e), λ f. not_from_false t (false_from_ne_true t (f refl)))
excludes false t = (λ e m. absurd (false≢true m), λ f. refl)

-- subset and disjoint, by members
subset_tells : (a b : List ℕ) → Decides (subset a b) (Each has a b)
unfolding subset
subset_tells a b =
    every_tells (λ g. not (member a g) || member b g) (λ g. member a g ≡ true → has (member b g)) (λ g. implies (member a g) (member b g)) 256

disjoint_tells : (a b : List ℕ) → Decides (disjoint a b) (Each lacks a b)
unfolding disjoint
disjoint_tells a b =
    every_tells (λ g. not (member a g && member b g)) (λ g. member a g ≡ true → lacks (member b g)) (λ g. excludes (member a g) (member b g)) 256

pub subset_inserted : (s t : List ℕ) (g : ℕ) → length s ≡ 32 → g < 256 → subset (inserted s g) t ≡ (subset s t && member t g)
subset_inserted s t g len l =
    same_from_decides (subset (inserted s g) t) (subset s t && member t g)
    (Decides-like _ (each_parts has s t g len l) (each_inserted has s t g len l) (subset_tells (inserted s g) t))
    (Decides-and _ _ (subset_tells s t) (λ e. e, λ e. e))

pub disjoint_inserted : (s t : List ℕ) (g : ℕ) → length s ≡ 32 → g < 256 → disjoint (inserted s g) t ≡ (disjoint s t && not (member t g))
disjoint_inserted s t g len l =
    same_from_decides (disjoint (inserted s g) t) (disjoint s t && not (member t g))
    (Decides-like _ (each_parts lacks s t g len l) (each_inserted lacks s t g len l) (disjoint_tells (inserted s g) t))
    (Decides-and _ _ (disjoint_tells s t) (Decides-not (member t g) (λ e. e, λ e. e)))

-- the empty set has no group
none_member : (h : ℕ) → h < 256 → member (replicate 32 0) h ≡ true → ⊥
none_member h l = both_ways (member (replicate 32 0) h) (ap (λ x. bit x (7 - h % 8)) (get_or-replicate 32 (h / 8) 0 0 (omega arith)) ∙ bit_zero (7 - h % 8))

pub subset_none : (t : List ℕ) → subset (replicate 32 0) t ≡ true
subset_none t = (subset_tells (replicate 32 0) t).1 (λ h l m. absurd (none_member h l m))

pub disjoint_none : (t : List ℕ) → disjoint (replicate 32 0) t ≡ true
disjoint_none t = (disjoint_tells (replicate 32 0) t).1 (λ h l m. absurd (none_member h l m))

pub subset_refl : (s : List ℕ) → subset s s ≡ true
subset_refl s = (subset_tells s s).1 (λ h l m. m)

pub subset_trans : (a b c : List ℕ) → subset a b ≡ true → subset b c ≡ true → subset a c ≡ true
subset_trans a b c p q = (subset_tells a c).1 (λ h l m. (subset_tells b c).0 q h l ((subset_tells a b).0 p h l m))

pub subset_grows : (s t : List ℕ) (g : ℕ) → length t ≡ 32 → g < 256 → subset s t ≡ true → subset s (inserted t g) ≡ true
subset_grows s t g len l p = (subset_tells s (inserted t g)).1 (λ h m n. member_kept t g h len l ((subset_tells s t).0 p h m n))

pub subset_gains : (s t : List ℕ) (g : ℕ) → length s ≡ 32 → length t ≡ 32 → g < 256 → subset s t ≡ true → subset (inserted s g) (inserted t g) ≡ true
subset_gains s t g lens lent l p =
    subset_inserted s (inserted t g) g lens l ∙ and_from (subset s (inserted t g)) (member (inserted t g) g) (subset_grows s t g lent l p) (member_new t g lent l)

pub disjoint_smaller : (a b t : List ℕ) → subset a b ≡ true → disjoint b t ≡ true → disjoint a t ≡ true
disjoint_smaller a b t p q = (disjoint_tells a t).1 (λ h l m. (disjoint_tells b t).0 q h l ((subset_tells a b).0 p h l m))

-- a subject in every wanted group and no barred one shows that no group is both
pub not_both : (a b t : List ℕ) → subset a t ≡ true → disjoint b t ≡ true → disjoint a b ≡ true
not_both a b t p q = (disjoint_tells a b).1 (λ h l m n. (disjoint_tells b t).0 q h l n ((subset_tells a t).0 p h l m))
