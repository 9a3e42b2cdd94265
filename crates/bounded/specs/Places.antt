-- Lists in rising order of a key.
use Rattle.std.specs.Prelude.{ℕ, ltb, List, ◌∷◌, ◌++◌, filter}

-- an item among those of a rising list: what has a smaller key, the item, what has a larger one
abbrev pub placed : {X : Type 0} → (X → ℕ) → X → List X → List X
placed key x xs = filter (λ y. ltb (key y) (key x)) xs ++ x ∷ filter (λ y. ltb (key x) (key y)) xs
