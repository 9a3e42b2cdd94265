-- The clauses of the eight patterns of execute bits, and what they say.
use Rattle.std.specs.Prelude.{◌≡◌, ℕ, ◌+◌, Bool, true, false, cond, not, ◌&&◌, ◌||◌, List, [], ◌∷◌, Some, None, Option}
use Rattle.rights.specs.declared.execute.Execute.{Execute}
use Rattle.rights.specs.declared.pattern.Sign.{Sign}
use Rattle.rights.specs.declared.pattern.Sign.TheVariants.{Positive, Negative}
use Rattle.rights.specs.declared.pattern.Shape.{Shape}
use Rattle.rights.specs.Classes.{class_by, execute_of}

-- the row of a pattern: owner 4, group 2, others 1
abbrev pub place : Execute → ℕ
place e = cond e.owner 4 0 + cond e.group 2 0 + cond e.others 1 0

abbrev shape : Option Sign → Option Sign → Shape
shape u g = record { user = u; group = g }

abbrev pub rows : List (List Shape)
rows =
    (shape None None ∷ [])
    ∷ (shape (Some Negative) None ∷ shape None (Some Negative) ∷ [])
    ∷ (shape (Some Negative) None ∷ shape None (Some Positive) ∷ [])
    ∷ (shape (Some Negative) None ∷ [])
    ∷ (shape (Some Positive) None ∷ [])
    ∷ (shape (Some Positive) (Some Negative) ∷ [])
    ∷ (shape (Some Positive) (Some Positive) ∷ [])
    ∷ [] ∷ []

-- whether a literal of this sign is there and holds, where its fact is so
abbrev pub sign_holds : Option Sign → Bool → Bool
sign_holds None fact = false
sign_holds (Some Positive) fact = fact
sign_holds (Some Negative) fact = not fact

-- `own`: the user is the owner; `ing`: the subject is in the group
abbrev pub shape_holds : Shape → Bool → Bool → Bool
shape_holds s own ing = sign_holds s.user own || sign_holds s.group ing

abbrev pub row_holds : List Shape → Bool → Bool → Bool
row_holds [] own ing = true
row_holds (s ∷ row) own ing = shape_holds s own ing && row_holds row own ing

-- the clauses hold of exactly those whose class has execute
abbrev pub Agrees : Execute → List Shape → Type 0
Agrees e row = (own ing : Bool) → row_holds row own ing ≡ execute_of e (class_by own ing)
