-- The steps of loops over a list: each takes the item x that the turn reads at i.
use Rattle.std.proofs.Common.{◌≡◌, ℕ, zero, suc, ◌+◌, ◌-◌, ◌<◌, ◌≤◌, Bool, cond, List, [], ◌∷◌, ◌++◌, length, get_or, take, drop, set, replicate, filter, sym, refl, ap, ◌∙◌, arith, take_all}
use base.Stored.{Coded}
use lib.Seq.{take-append_seam}
use Rattle.std.proofs.lemmas.List.{append-nil, append_assoc, take_more, get_or-drop, drop-drop, drop-set-lt}
use Rattle.bounded.specs.declared.list.Bounded.{Bounded}
use Rattle.bounded.specs.Lists.{listed, packed}
use Rattle.bounded.proofs.Packing.{from_taken, from_listed}

-- what the loop has read: the first i items, and the one at i
pub take_read : {X : Type 0} (xs : List X) (i : ℕ) (x : X) → i < length xs → x ≡ get_or xs i x → take (i + 1) xs ≡ take i xs ++ (x ∷ [])
take_read xs i x within here = take_more xs i x within ∙ ap (λ y. take i xs ++ (y ∷ [])) (sym here)

-- what holds of the items so far holds of the whole list once the loop is past it
pub at_end : {X Y : Type 0} (F : List X → Y) (xs : List X) (i : ℕ) (y : Y) → length xs ≤ i → F (take i xs) ≡ y → y ≡ F xs
at_end F xs i y past so_far = sym so_far ∙ ap F (take_all i xs past)

-- a loop over ys that began as xs, and changes what it has read: the rest is as it was
module _ {X : Type 0} (xs ys : List X) (i : ℕ) (rest : drop i ys ≡ drop i xs) where
  same_place : (d : X) → get_or ys i d ≡ get_or xs i d
  same_place d =
      let here : i + 0 ≡ i = omega arith in
      ap (λ k. get_or ys k d) (sym here) ∙ sym (get_or-drop i ys 0 d) ∙ ap (λ zs. get_or zs 0 d) rest ∙ get_or-drop i xs 0 d ∙ ap (λ k. get_or xs k d) here

  pub rest_read : (x : X) → x ≡ get_or ys i x → x ≡ get_or xs i x
  rest_read x here = here ∙ same_place x

  pub rest_more : (zs : List X) (y : X) → zs ≡ set ys i y → drop (i + 1) zs ≡ drop (i + 1) xs
  rest_more zs y wrote =
      let next : i < i + 1 = omega arith in
      ap (drop (i + 1)) wrote ∙ drop-set-lt (i + 1) ys i y next ∙ sym (drop-drop 1 i ys) ∙ ap (drop 1) rest ∙ drop-drop 1 i xs

take_first : {X : Type 0} (n : ℕ) (xs ys : List X) → take n (take n xs ++ ys) ≡ take n (xs ++ ys)
take_first zero xs ys = refl
take_first (suc n) [] ys = refl
take_first (suc n) (x ∷ xs) ys = ap (λ zs. x ∷ zs) (take_first n xs ys)

listed_packed : {X : Type 0} (n : ℕ) (filler : X) (xs : List X) → listed (packed n filler xs) ≡ take n xs
listed_packed n filler xs = take-append_seam (take n xs) (replicate (n - length (take n xs)) filler)

-- a record that is packed in turns
module _ {X : Type 0} (K : Coded X) (n : ℕ) where
  packed_same : (filler : X) (xs ys : List X) → take n xs ≡ take n ys → packed n filler xs ≡ packed n filler ys
  packed_same filler xs ys e = from_taken K (packed n filler xs) ys (listed_packed n filler xs ∙ e)

  packed_append : (filler : X) (xs ys : List X) → packed n filler (listed (packed n filler xs) ++ ys) ≡ packed n filler (xs ++ ys)
  packed_append filler xs ys =
      packed_same filler (listed (packed n filler xs) ++ ys) (xs ++ ys)
      (ap (λ zs. take n (zs ++ ys)) (listed_packed n filler xs) ∙ take_first n xs ys)

  -- a turn that adds something
  pub pushed : (filler : X) (a b : Bounded X n) (xs ys : List X) → a ≡ packed n filler xs → b ≡ packed n a.filler (listed a ++ ys) → b ≡ packed n filler (xs ++ ys)
  pushed filler a b xs ys was grew = grew ∙ ap (λ r. packed n r.filler (listed r ++ ys)) was ∙ packed_append filler xs ys

  -- a turn that adds nothing
  pub unchanged : (b : Bounded X n) → b ≡ packed n b.filler (listed b ++ [])
  unchanged b = from_listed K b (listed b ++ []) (sym (append-nil (listed b)))

-- what a test keeps of one item
pub kept_item : {X : Type 0} (p : X → Bool) (x : X) (b : Bool) → b ≡ p x → cond b (x ∷ []) [] ≡ filter p (x ∷ [])
kept_item p x b is = ap (λ t. cond t (x ∷ []) []) is

-- a loop that adds to a record what F makes of each item
module _ {X Y : Type 0} (K : Coded Y) (n : ℕ) (F : List X → List Y) (split : (xs ys : List X) → F (xs ++ ys) ≡ F xs ++ F ys) where
  pub gathered : (filler : Y) (before : List Y) (a b : Bounded Y n) (xs : List X) (i : ℕ) (x : X) (ys : List Y) → i < length xs → x ≡ get_or xs i x → a ≡ packed n filler (before ++ F (take i xs)) → b ≡ packed n a.filler (listed a ++ ys) → ys ≡ F (x ∷ []) → b ≡ packed n filler (before ++ F (take (i + 1) xs))
  gathered filler before a b xs i x ys within here was grew made =
      pushed K n filler a b (before ++ F (take i xs)) ys was grew
      ∙ ap (packed n filler)
      (append_assoc before (F (take i xs)) ys
      ∙ ap (λ zs. before ++ zs) (ap (λ zs. F (take i xs) ++ zs) made ∙ sym (split (take i xs) (x ∷ [])) ∙ ap F (sym (take_read xs i x within here))))
