-- Lists whose keys rise, and what is left out of them or put in.
use Rattle.std.specs.Prelude.{◌≡◌, ℕ, ◌+◌, ◌<◌, ◌≤◌, Bool, true, false, cond, ltb, List, [], ◌∷◌, ◌++◌, map, length, filter, ◌≢◌, nat_lt, refl}
use Rattle.std.proofs.Common.{arith, length-append}
use Rattle.std.specs.List.{AllByRecursion}
use Rattle.std.proofs.ByRecursion.{All-append, all_kept_by, All-weaker, kept_by_passes}
use Rattle.std.proofs.lemmas.Bool.{and_from, and_parts, both_ways, lt-ltb, ltb-true}
use Rattle.lines.specs.Lines.{above, rising}
use Rattle.bounded.specs.Places.{placed}

module _ {X : Type 0} where
  -- two tests that no item passes both keep no more than there is
  kept_apart : (p q : X → Bool) (xs : List X) → ((x : X) → p x ≡ true → q x ≢ true) → length (filter p xs) + length (filter q xs) ≤ length xs
  kept_apart p q [] f = omega arith
  kept_apart p q (x ∷ xs) f = by (p x) (q x) (f x) (filter p xs) (filter q xs) (kept_apart p q xs f)
    where
      by : (a b : Bool) → (a ≡ true → b ≢ true) → (ys zs : List X) → length ys + length zs ≤ length xs
          → length (cond a (x ∷ ys) ys) + length (cond b (x ∷ zs) zs) ≤ length (x ∷ xs)
      by true true g ys zs h = absurd (g refl refl)
      by true false g ys zs h = omega arith
      by false true g ys zs h = omega arith
      by false false g ys zs h = omega arith

  pub length_kept : (p : X → Bool) (xs : List X) → length (filter p xs) ≤ length xs
  length_kept p xs = omega (arith, kept_apart p (λ _. false) xs (λ x _ f. both_ways false refl f))

module _ {X : Type 0} (key : X → ℕ) where
  pub length_placed : (x : X) (xs : List X) → length (placed key x xs) ≤ length xs + 1
  length_placed x xs =
      let low = filter (λ y. ltb (key y) (key x)) xs in
      let high = filter (λ y. ltb (key x) (key y)) xs in
      omega (
        arith,
        length-append low (x ∷ high),
        kept_apart (λ y. ltb (key y) (key x)) (λ y. ltb (key x) (key y)) xs
            (λ y p q. omega (arith, ltb-true (key y) (key x) p, ltb-true (key x) (key y) q)),
      )

  pub all_placed : (P : X → Type 0) (x : X) (xs : List X) → P x → AllByRecursion P xs → AllByRecursion P (placed key x xs)
  all_placed P x xs here h =
      All-append P (filter (λ y. ltb (key y) (key x)) xs) (x ∷ filter (λ y. ltb (key x) (key y)) xs)
      (all_kept_by (λ y. ltb (key y) (key x)) P xs h) (here, all_kept_by (λ y. ltb (key x) (key y)) P xs h)

  -- the key is below that of each
  abbrev pub Below : X → List X → Type 0
  Below x ys = AllByRecursion (λ y. key x < key y) ys

  -- each key is below all that come after
  abbrev pub Rises : List X → Type 0
  Rises [] = Unit {0}
  Rises (x ∷ xs) = Below x xs × Rises xs

  pub rises_append : (xs ys : List X) → Rises xs → Rises ys → AllByRecursion (λ x. Below x ys) xs → Rises (xs ++ ys)
  rises_append [] ys h k f = k
  rises_append (x ∷ xs) ys h k f = (All-append (λ y. key x < key y) xs ys h.0 f.0, rises_append xs ys h.1 k f.1)

  pub rises_kept : (p : X → Bool) (xs : List X) → Rises xs → Rises (filter p xs)
  rises_kept p [] h = tt
  rises_kept p (x ∷ xs) h = by (p x) (rises_kept p xs h.1)
    where
      by : (b : Bool) → Rises (filter p xs) → Rises (cond b (x ∷ filter p xs) (filter p xs))
      by true r = (all_kept_by p (λ y. key x < key y) xs h.0, r)
      by false r = r

  pub rises_placed : (x : X) (xs : List X) → Rises xs → Rises (placed key x xs)
  rises_placed x xs h =
      let below = λ (y : X). ltb (key y) (key x) in
      let over = λ (y : X). ltb (key x) (key y) in
      let high : Below x (filter over xs) = All-weaker (λ y. over y ≡ true) (λ y. key x < key y) (λ y. ltb-true (key x) (key y)) (filter over xs) (kept_by_passes over xs) in
      let under : (y : X) → below y ≡ true → Below y (x ∷ filter over xs) =
      λ y t.
      let l = ltb-true (key y) (key x) t in
      (l, All-weaker (λ z. key x < key z) (λ z. key y < key z) (λ z k. omega arith) (filter over xs) high) in
      rises_append (filter below xs) (x ∷ filter over xs) (rises_kept below xs h) (high, rises_kept over xs h)
      (All-weaker (λ y. below y ≡ true) (λ y. Below y (x ∷ filter over xs)) under (filter below xs) (kept_by_passes below xs))

  -- the same by the tests
  above_from : (k : ℕ) (xs : List X) → AllByRecursion (λ y. k < key y) xs → Rises xs → above k (map key xs) ≡ true
  above_from k [] f h = refl
  above_from k (x ∷ xs) f h = and_from (nat_lt k (key x)) (above (key x) (map key xs)) (lt-ltb k (key x) f.0) (above_from (key x) xs h.0 h.1)

  pub rising_from : (xs : List X) → Rises xs → rising (map key xs) ≡ true
  rising_from [] h = refl
  rising_from (x ∷ xs) h = above_from (key x) xs h.0 h.1

  above_all : (k : ℕ) (xs : List X) → above k (map key xs) ≡ true → AllByRecursion (λ y. k < key y) xs × Rises xs
  above_all k [] e = (tt, tt)
  above_all k (x ∷ xs) e =
      let p = and_parts (nat_lt k (key x)) (above (key x) (map key xs)) e in
      let r = above_all (key x) xs p.1 in
      ((ltb-true k (key x) p.0, All-weaker (λ y. key x < key y) (λ y. k < key y) (λ y l. omega (arith, ltb-true k (key x) p.0)) xs r.0), r)

  pub rises_from : (xs : List X) → rising (map key xs) ≡ true → Rises xs
  rises_from [] e = tt
  rises_from (x ∷ xs) e = above_all (key x) xs e
