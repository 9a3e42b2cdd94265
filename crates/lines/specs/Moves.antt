-- The four moves by which a directory narrows the lines.
use Rattle.std.specs.Prelude.{ℕ, Bool, true, false, cond, not, ◌&&◌, List, [], ◌∷◌, ◌++◌, Some, None, filter, Option, ◌==◌}
use Rattle.std.proofs.Common.{◌∙◌, length-set}
use Rattle.groups.specs.Groups.{inserted, disjoint}
use Rattle.rights.specs.declared.directory.Directory.{Directory}
use Rattle.bounded.specs.Lists.{holding, listed}
use Rattle.bounded.specs.Places.{placed}
use Rattle.lines.specs.declared.line.Line.{Line}
use Rattle.lines.specs.declared.line.UserLine.{UserLine}
use Rattle.lines.specs.declared.line.OpenLine.{OpenLine}
use Rattle.lines.specs.Lines.{has, shut_out, users, within}

-- a line that wants one group more
abbrev pub wanting : ℕ → Line → Line
wanting g l = record {
  wanted = inserted l.wanted g;
  barred = l.barred;
  full = (length-set l.wanted _ _ ∙ l.full.0, l.full.1);
}

-- a line that bars one group more
abbrev pub barring : ℕ → Line → Line
barring g l = record {
  wanted = l.wanted;
  barred = inserted l.barred g;
  full = (l.full.0, length-set l.barred _ _ ∙ l.full.1);
}

-- a line of another user than the owner, by the bits of group and others: it stays, wants the group, bars it, or goes
abbrev pub treated : Bool → Bool → ℕ → Line → Option Line
treated true true g l = Some l
treated true false g l = Some (wanting g l)
treated false true g l = Some (barring g l)
treated false false g l = None

-- such a line, by a directory
abbrev pub treated_by : Directory → Line → Option Line
treated_by d l = treated d.execute.group d.execute.others d.group l

-- the line of a user
abbrev pub line_of : ℕ → Line → UserLine
line_of u l = record { user = u; line = l }

-- the line of a user, if there is one
abbrev pub its_line : ℕ → Option Line → List UserLine
its_line u None = []
its_line u (Some l) = line_of u l ∷ []

-- move 1: the owner's line stays where the owner bit is 1 and goes otherwise; each other line is treated
abbrev pub move_1 : Directory → List UserLine → List UserLine
move_1 d [] = []
move_1 d (l ∷ ls) = cond (l.user == d.owner) (cond d.execute.owner (l ∷ []) []) (its_line l.user (treated_by d l.line)) ++ move_1 d ls

-- move 2: where the owner bit is 1, and the open line is there and does not shut out the owner, who has no line, the owner gets one with the open line's sets
abbrev pub move_2 : Directory → Option OpenLine → List UserLine → List UserLine
move_2 d None ls = ls
move_2 d (Some o) ls =
    cond (d.execute.owner && (not (shut_out o d.owner) && not (has (users ls) d.owner))) (placed (λ l. l.user) (line_of d.owner o.line) ls) ls

-- the open line with these sets, and one user more shut out
abbrev pub shut_with : ℕ → OpenLine → Line → OpenLine
shut_with u o l = record { line = l; shut = holding o.shut (placed (λ v. v) u (listed o.shut)) }

-- the open line with what is left of its sets, by the owner bit
abbrev pub reopened : Bool → ℕ → OpenLine → Option Line → Option OpenLine
reopened owner u o None = None
reopened owner u o (Some l) = Some (cond owner (record { line = l; shut = o.shut }) (shut_with u o l))

-- move 3: the open line is treated as a line of another user, and shuts out the owner where the owner bit is 0
abbrev pub move_3 : Directory → Option OpenLine → Option OpenLine
move_3 d None = None
move_3 d (Some o) = reopened d.execute.owner d.owner o (treated_by d o.line)

-- no group is both wanted and barred
abbrev pub consistent : Line → Bool
consistent l = disjoint l.wanted l.barred

-- move 4, of the open line: it goes where it wants and bars one group
abbrev pub move_4_open : Option OpenLine → Option OpenLine
move_4_open None = None
move_4_open (Some o) = cond (consistent o.line) (Some o) None

-- whether the open line admits all that a user line does: its sets lie within the user line's, and the user is not shut out
abbrev pub covered : Option OpenLine → UserLine → Bool
covered None l = false
covered (Some o) l = within o.line l.line && not (shut_out o l.user)

-- move 4, of the user lines: those go that want and bar one group, then those that the open line covers
abbrev pub move_4 : Option OpenLine → List UserLine → List UserLine
move_4 others ls = filter (λ l. consistent l.line && not (covered others l)) ls

-- the open line after the four moves
abbrev pub open_after : Directory → Option OpenLine → Option OpenLine
open_after d others = move_4_open (move_3 d others)

-- the user lines after the four moves
abbrev pub lines_after : Directory → Option OpenLine → List UserLine → List UserLine
lines_after d others ls = move_4 (open_after d others) (move_2 d others (move_1 d ls))
