-- A list's first n items with the filler past them take up n places.
use Rattle.std.proofs.Common.{◌≡◌, ℕ, ◌-◌, ◌≤◌, List, ◌++◌, length, take, drop, replicate, arith, length-take, length-append}
use Rattle.std.proofs.lemmas.List.{length-replicate}
use Rattle.std.proofs.Math.Seq.{drop-append_seam}

module _ {X : Type 0} (n : ℕ) (filler : X) (xs : List X) where
  abbrev places : List X
  places = take n xs ++ replicate (n - length (take n xs)) filler

  pub filled : (length (take n xs) ≤ n) × (length places ≡ n) × (drop (length (take n xs)) places ≡ replicate (n - length (take n xs)) filler)
  filled = (
    omega (arith, length-take n xs),
    simp (length-append, length-replicate) (omega (arith, length-take n xs)),
    drop-append_seam (take n xs) (replicate (n - length (take n xs)) filler),
  )
