-- What a closure does with the items of a list, and a record that is made only where a test passes.
use Rattle.std.specs.Prelude.{◌≡◌, Bool, true, false, if◌then◌else◌, List, [], ◌∷◌, refl}
use Rattle.std.specs.Fn.{FnReturnsAt, FnReturnsAtPair}
use denote.Param.Members.{Shared}
use denote.Ref.{Bor, MutBor}

-- it answers of each item as the test p does
abbrev pub Tells : {F T : Type 0} → Shared F (Bor T × Unit {0}) Bool → F → (T → Bool) → Type 0
Tells {F} {T} calls passes p = (x : T) (answer : Bool) → FnReturnsAt calls passes x answer → answer ≡ p x

-- it answers of each two items as the test p does
abbrev pub TellsPairs : {F T : Type 0} → Shared F (Bor T × (Bor T × Unit {0})) Bool → F → (T → T → Bool) → Type 0
TellsPairs {F} {T} calls alike p = (x y : T) (answer : Bool) → FnReturnsAtPair calls alike x y answer → answer ≡ p x y

-- it changes each item x that it is lent, and says whether it stays, so that f x is left
abbrev pub Leaves : {F T : Type 0} → Shared F (MutBor T × Unit {0}) (Bool × (MutBor T × Unit {0})) → F → (T → List T) → Type 0
Leaves {F} {T} calls change f = (x y : MutBor T) (stays : Bool) → calls.post change (x, tt) (stays, (y, tt)) → (if stays then y.now ∷ [] else []) ≡ f x.now

-- what a test that passes makes, else what there was
abbrev pub guarded : {A : Type 0} (test : Bool) → (test ≡ true → A) → A → A
guarded true made was = made refl
guarded false made was = was
