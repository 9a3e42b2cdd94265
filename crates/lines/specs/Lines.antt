-- Whom lines admit, and what holds of every record of lines.
use Rattle.std.specs.Prelude.{ℕ, Bool, true, false, not, ◌&&◌, List, [], ◌∷◌, length, replicate, Some, None, Option, ◌==◌, nat_eq, nat_le, nat_lt, refl}
use Rattle.groups.specs.Groups.{subset, disjoint}
use Rattle.rights.specs.Subjects.{Who}
use Rattle.bounded.specs.Lists.{listed}
use Rattle.std.specs.List.{list_all, list_any}
use Rattle.std.specs.Cmp.Lexicographic.{pointwise}
use Rattle.lines.specs.declared.line.Line.{Line}
use Rattle.lines.specs.declared.line.UserLine.{UserLine}
use Rattle.lines.specs.declared.line.OpenLine.{OpenLine}

-- a line admits a subject who is in every wanted group and in no barred one
abbrev pub line_admits : Line → Who → Bool
line_admits l w = subset l.wanted w.groups && disjoint l.barred w.groups

-- a user line is for its user alone
abbrev pub lines_admit : List UserLine → Who → Bool
lines_admit ls w = list_any (λ l. (l.user == w.user) && line_admits l.line w) ls

abbrev pub has : List ℕ → ℕ → Bool
has us u = list_any (λ v. nat_eq v u) us

abbrev pub shut_out : OpenLine → ℕ → Bool
shut_out o u = has (listed o.shut) u

-- the open line is for every user not shut out
abbrev pub open_admits : Option OpenLine → Who → Bool
open_admits None w = false
open_admits (Some o) w = not (shut_out o w.user) && line_admits o.line w

-- the two sets of the first line lie within those of the second
abbrev pub within : Line → Line → Bool
within a b = subset a.wanted b.wanted && subset a.barred b.barred

-- each key is above the one before it
abbrev pub above : ℕ → List ℕ → Bool
above k [] = true
above k (u ∷ us) = nat_lt k u && above u us

abbrev pub rising : List ℕ → Bool
rising [] = true
rising (u ∷ us) = above u us

abbrev pub users : List UserLine → List ℕ
users [] = []
users (l ∷ ls) = l.user ∷ users ls

-- no more shut-out users than levels, in rising order; each user line within the open line; none for a shut-out user
abbrev pub open_tidy : ℕ → List UserLine → Option OpenLine → Bool
open_tidy level ls None = true
open_tidy level ls (Some o) =
    nat_le (length (listed o.shut)) level && (rising (listed o.shut) && list_all (λ l. within l.line o.line && not (shut_out o l.user)) ls)

-- no more user lines than levels, in rising order of user
abbrev pub tidy : ℕ → List UserLine → Option OpenLine → Bool
tidy level ls others = nat_le (length ls) level && (rising (users ls) && open_tidy level ls others)

-- the line that asks nothing
abbrev pub free_line : Line
free_line = record { wanted = replicate 32 0; barred = replicate 32 0; full = (refl, refl) }

-- the same wanted and the same barred groups
abbrev pub same_sets : Line → Line → Bool
same_sets a b = within a b && within b a

-- no open line in both, or the same sets and the same shut-out users
abbrev pub same_open : Option OpenLine → Option OpenLine → Bool
same_open None None = true
same_open None (Some p) = false
same_open (Some o) None = false
same_open (Some o) (Some p) = same_sets o.line p.line && pointwise nat_eq (listed o.shut) (listed p.shut)

-- the same user and the same sets
abbrev pub same_line : UserLine → UserLine → Bool
same_line a b = a.user == b.user && same_sets a.line b.line
