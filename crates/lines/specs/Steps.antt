-- What single steps answer.
use Rattle.std.specs.Prelude.{◌≡◌, Bool, true, false, Option, MatchOption}

-- a change in place: whether the thing stays, and what it then is; one that goes is left as it was
abbrev pub Stays : {A : Type 0} → Option A → Bool → A → A → Type 0
Stays after stays was is = MatchOption after ((stays ≡ false) × (is ≡ was)) (λ x. (stays ≡ true) × (is ≡ x))
