-- The words for a clause and for a line, as bytes of ASCII.
use Rattle.std.specs.Prelude.{ℕ, cond, List, [], ◌∷◌, ◌++◌, replicate, codes, decimal, filter}
use Rattle.std.specs.List.{range_with_len}
use Rattle.bounded.specs.Lists.{listed}
use Rattle.groups.specs.Groups.{member, subset}
use Rattle.conjunctive.specs.declared.clause.Literal.{Literal}
use Rattle.conjunctive.specs.declared.clause.Literal.TheVariants.{Absent, Positive, Negative}
use Rattle.conjunctive.specs.declared.clause.Clause.{Clause}
use Rattle.lines.specs.declared.line.Line.{Line}
use Rattle.lines.specs.declared.line.UserLine.{UserLine}
use Rattle.lines.specs.declared.line.OpenLine.{OpenLine}

-- two texts with a mark between them, or the one that is there, or another text where neither is
abbrev pub marked : List ℕ → List ℕ → List ℕ → List ℕ → List ℕ
marked none mark [] [] = none
marked none mark [] (y ∷ b) = y ∷ b
marked none mark (x ∷ a) [] = x ∷ a
marked none mark (x ∷ a) (y ∷ b) = (x ∷ a) ++ (mark ++ (y ∷ b))

-- a literal on the user; nothing for none
abbrev pub user_words : Literal ℕ → List ℕ
user_words Absent = []
user_words (Positive u) = codes "user is " ++ decimal u
user_words (Negative u) = codes "user is not " ++ decimal u

-- a literal on a group; nothing for none
abbrev pub group_words : Literal ℕ → List ℕ
group_words Absent = []
group_words (Positive g) = codes "in group " ++ decimal g
group_words (Negative g) = codes "not in group " ++ decimal g

-- a clause: its literals
abbrev pub clause_words : Clause → List ℕ
clause_words c = marked (codes "nobody") (codes ", or ") (user_words c.user) (group_words c.group)

-- numbers, each after ", "
abbrev pub more_words : List ℕ → List ℕ
more_words [] = []
more_words (n ∷ ns) = codes ", " ++ (decimal n ++ more_words ns)

-- numbers with ", " between them
abbrev pub number_words : List ℕ → List ℕ
number_words [] = []
number_words (n ∷ ns) = decimal n ++ more_words ns

-- the groups of a set, in rising order
unfoldable pub groups_of : List ℕ → List ℕ
groups_of set = filter (member set) (range_with_len 0 256)

-- a set of groups after a word; nothing for the empty set
abbrev pub set_words : List ℕ → List ℕ → List ℕ
set_words word set = cond (subset set (replicate 32 0)) [] (word ++ number_words (groups_of set))

-- a line: its two sets
abbrev pub line_words : Line → List ℕ
line_words l = marked (codes "any groups") (codes "; ") (set_words (codes "wants ") l.wanted) (set_words (codes "bars ") l.barred)

-- a user line: its user, then the line
abbrev pub user_line_words : UserLine → List ℕ
user_line_words l = codes "user " ++ (decimal l.user ++ (codes ": " ++ line_words l.line))

-- the users shut out; nothing for none
abbrev pub but_words : List ℕ → List ℕ
but_words [] = []
but_words (u ∷ us) = codes " but " ++ number_words (u ∷ us)

-- an open line: the users shut out, then the line
abbrev pub open_line_words : OpenLine → List ℕ
open_line_words o = codes "any user" ++ (but_words (listed o.shut) ++ (codes ": " ++ line_words o.line))
