-- Tests at some item of a list, where items are left out, put in or changed.
use Rattle.std.specs.Prelude.{◌≡◌, ℕ, Bool, true, false, cond, not, ◌&&◌, ◌||◌, ltb, List, [], ◌∷◌, filter, ◌==◌, nat_lt, refl}
use Rattle.std.proofs.Common.{sym, ap, ap₂, ◌∙◌, arith}
use Rattle.std.specs.List.{AllByRecursion, list_all, list_any}
use Rattle.std.proofs.lemmas.Bool.{or_parts}
use Rattle.std.proofs.lemmas.Bool.Decides.{nat_tests}
use Rattle.std.proofs.lemmas.List.Folds.{list_any-append}
use Rattle.bounded.specs.Places.{placed}
use Rattle.bounded.proofs.Bools.{and_implied, or_same, or_middle}

module _ {X : Type 0} where
  any_same : (p q : X → Bool) (xs : List X) → ((x : X) → p x ≡ q x) → list_any p xs ≡ list_any q xs
  any_same p q xs e = ap (λ (f : X → Bool). list_any f xs) (λ j x. e x j)

  any_or : (p q : X → Bool) (xs : List X) → list_any (λ x. p x || q x) xs ≡ (list_any p xs || list_any q xs)
  any_or p q [] = refl
  any_or p q (x ∷ xs) = grind (arith, any_or p q xs)

  any_cond : (q : X → Bool) (b : Bool) (x : X) (xs : List X) → list_any q (cond b (x ∷ xs) xs) ≡ (b && q x || list_any q xs)
  any_cond q true x xs = refl
  any_cond q false x xs = refl

  any_kept : (k q : X → Bool) (xs : List X) → list_any q (filter k xs) ≡ list_any (λ x. k x && q x) xs
  any_kept k q [] = refl
  any_kept k q (x ∷ xs) = grind (arith, any_kept k q xs)

  -- what is left out does not count where another test passes for it
  pub any_kept_or : (k q : X → Bool) (b : Bool) (xs : List X) → ((x : X) → q x ≡ true → b ≡ false → k x ≡ true) → (list_any q (filter k xs) || b) ≡ (list_any q xs || b)
  any_kept_or k q b xs e =
      or_same (list_any q (filter k xs)) (list_any q xs) b
      (λ none. any_kept k q xs ∙ any_same (λ x. k x && q x) q xs (λ x. and_implied (k x) (q x) (λ t. e x t none)))

  pub any_placed : (key : X → ℕ) (q : X → Bool) (x : X) (xs : List X) → list_any q (placed key x xs) ≡ (q x || list_any (λ y. not (key y == key x) && q y) xs)
  any_placed key q x xs =
      let low = λ (y : X). ltb (key y) (key x) in
      let high = λ (y : X). ltb (key x) (key y) in
      let parts = any_or (λ y. low y && q y) (λ y. high y && q y) xs in
      let one = any_same (λ y. low y && q y || high y && q y) (λ y. not (key y == key x) && q y) xs (λ y. apart (key y) (key x) (q y)) in
      list_any-append q (filter low xs) (x ∷ filter high xs)
      ∙ ap₂ (λ a b. a || (q x || b)) (any_kept low q xs) (any_kept high q xs)
      ∙ or_middle (list_any (λ y. low y && q y) xs) (q x) (list_any (λ y. high y && q y) xs)
      ∙ ap (λ b. q x || b) (sym parts ∙ one)
    where
      apart : (a b : ℕ) (t : Bool) → (nat_lt a b && t || nat_lt b a && t) ≡ (not (a == b) && t)
      apart a b t = grind (arith, nat_tests)

  pub any_where : (p q r : X → Bool) (xs : List X) → ((x : X) → p x ≡ true → q x ≡ true → r x ≡ true)
      → list_all p xs ≡ true → list_any q xs ≡ true → list_any r xs ≡ true
  any_where p q r [] f all any = any
  any_where p q r (x ∷ xs) f all any = grind (arith, f x, any_where p q r xs f)

  pub any_none : (p : X → Bool) (xs : List X) → AllByRecursion (λ x. p x ≡ false) xs → list_any p xs ≡ false
  any_none p [] h = refl
  any_none p (x ∷ xs) h = grind (arith, any_none p xs)

  pub none_any : (p : X → Bool) (xs : List X) → list_any p xs ≡ false → AllByRecursion (λ x. p x ≡ false) xs
  none_any p [] e = tt
  none_any p (x ∷ xs) e = let k = or_parts (p x) (list_any p xs) e in (k.0, none_any p xs k.1)
