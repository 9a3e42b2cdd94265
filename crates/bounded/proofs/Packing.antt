-- A record is the one that its list is packed in.
use Rattle.std.proofs.Common.{◌≡◌, ℕ, ◌+◌, ◌-◌, ◌<◌, ◌≤◌, List, [], ◌∷◌, ◌++◌, length, take, drop, set, replicate, sym, refl, ap, ◌∙◌, ap₂, arith, take-append-drop, length-take-le, take_all}
use mathlib.Core.HLevel.{is_prop→PathP}
use base.Stored.{Coded}
use denote.Struct.Props.{props}
use lib.Seq.{take-append_seam}
use Rattle.std.proofs.lemmas.List.{take-append-le, drop-set-lt, drop-drop, drop-replicate}
use Rattle.bounded.specs.declared.list.Bounded.{Bounded, ok-type}
use Rattle.bounded.specs.Lists.{listed, packed}

module _ {X : Type 0} (K : Coded X) {n : ℕ} where
  one_proof : (count : ℕ) (items : List X) (filler : X) → IsProp (ok-type X n count items filler)
  one_proof count items filler = hlevel props

  same_record : (a b : Bounded X n) → a.count ≡ b.count → a.items ≡ b.items → a.filler ≡ b.filler → a ≡ b
  same_record a b p q r = λ j. record {
    count = p j;
    items = q j;
    filler = r j;
    ok = is_prop→PathP (λ k. ok-type X n (p k) (q k) (r k)) (λ k. one_proof (p k) (q k) (r k)) a.ok b.ok j;
  }

  pub length_listed : (b : Bounded X n) → length (listed b) ≡ b.count
  length_listed b = length-take-le b.count b.items (omega (arith, b.ok.0, b.ok.1))

  -- a record that holds a list's first n items is that list's record
  pub from_taken : (b : Bounded X n) (xs : List X) → listed b ≡ take n xs → b ≡ packed n b.filler xs
  from_taken b xs e =
      let count : b.count ≡ length (take n xs) = sym (length_listed b) ∙ ap length e in
      same_record b (packed n b.filler xs) count
      (sym (take-append-drop b.count b.items) ∙ ap₂ ◌++◌ e (b.ok.2 ∙ ap (λ m. replicate (n - m) b.filler) count))
      refl

  pub from_listed : (b : Bounded X n) (xs : List X) → listed b ≡ xs → b ≡ packed n b.filler xs
  from_listed b xs e =
      from_taken b xs (e ∙ sym (take_all n xs (omega (arith, ap length e, length_listed b, b.ok.0))))

  -- packing what fits keeps all of it
  pub packed_listed : (filler : X) (xs : List X) → length xs ≤ n → listed (packed n filler xs) ≡ xs
  packed_listed filler xs h = take-append_seam (take n xs) (replicate (n - length (take n xs)) filler) ∙ take_all n xs h

  -- a full record stays as it is
  pub from_full : (b : Bounded X n) (x : X) → n ≤ b.count → b ≡ packed n b.filler (listed b ++ (x ∷ []))
  from_full b x h =
      let long = length_listed b in
      from_taken b (listed b ++ (x ∷ []))
      (sym (take-append-le n (listed b) (x ∷ []) (omega (arith, long)) ∙ take_all n (listed b) (omega (arith, long, b.ok.0))))

  -- the places past the count, one item on
  pub padded : (b : Bounded X n) (x : X) → drop (b.count + 1) (set b.items b.count x) ≡ replicate (n - (b.count + 1)) b.filler
  padded b x =
      let low : b.count < b.count + 1 = omega arith in
      drop-set-lt (b.count + 1) b.items b.count x low
      ∙ sym (drop-drop 1 b.count b.items)
      ∙ ap (drop 1) b.ok.2
      ∙ drop-replicate 1 (n - b.count) b.filler
      ∙ ap (λ k. replicate k b.filler) (omega arith)
