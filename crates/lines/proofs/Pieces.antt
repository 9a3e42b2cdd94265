-- User lines beside the open line: what move 1 leaves of each, and when move 2 adds one.
use Rattle.std.proofs.Common.{ℕ, Bool, true, false, cond, not, ◌&&◌, eqb, List, [], ◌∷◌, Some, None, Option}
use Rattle.std.specs.List.{AllByRecursion}
use Rattle.std.proofs.ByRecursion.{All-append}
use Rattle.rights.specs.declared.directory.Directory.{Directory}
use Rattle.lines.specs.declared.line.Line.{Line}
use Rattle.lines.specs.declared.line.UserLine.{UserLine}
use Rattle.lines.specs.declared.line.OpenLine.{OpenLine}
use Rattle.lines.specs.Lines.{has, shut_out, users, within}
use Rattle.lines.specs.Moves.{treated_by, line_of, its_line, move_1}

-- what holds of each user line beside an open line
abbrev pub beside : OpenLine → UserLine → Bool
beside o l = within l.line o.line && not (shut_out o l.user)

-- whether move 2 gives the owner a line
abbrev pub given : Directory → OpenLine → List UserLine → Bool
given d o ls = d.execute.owner && (not (shut_out o d.owner) && not (has (users ls) d.owner))

-- what move 1 leaves of a line, by whether it is the owner's: at most one line, of the same user
abbrev pub piece : Directory → Bool → UserLine → List UserLine
piece d own l = cond own (cond d.execute.owner (l ∷ []) []) (its_line l.user (treated_by d l.line))

module _ (d : Directory) where
  pub piece_by : (P : List UserLine → Type 0) (own : Bool) (l : UserLine) → P [] → ((k : Line) → P (line_of l.user k ∷ [])) → P (piece d own l)
  piece_by P true l none one = kept d.execute.owner
    where
      kept : (b : Bool) → P (cond b (l ∷ []) [])
      kept true = one l.line
      kept false = none
  piece_by P false l none one = rest (treated_by d l.line)
    where
      rest : (o : Option Line) → P (its_line l.user o)
      rest None = none
      rest (Some k) = one k

  pub all_move_1 : (P Q : UserLine → Type 0) (ls : List UserLine) → ((l : UserLine) → P l → AllByRecursion Q (piece d (eqb l.user d.owner) l)) → AllByRecursion P ls → AllByRecursion Q (move_1 d ls)
  all_move_1 P Q [] f h = tt
  all_move_1 P Q (l ∷ ls) f h = All-append Q (piece d (eqb l.user d.owner) l) (move_1 d ls) (f l h.0) (all_move_1 P Q ls f h.1)

  -- what holds of each line's user still does
  pub all_users : (F : ℕ → Type 0) (ls : List UserLine) → AllByRecursion (λ l. F l.user) ls → AllByRecursion (λ l. F l.user) (move_1 d ls)
  all_users F ls =
      all_move_1 (λ l. F l.user) (λ l. F l.user) ls
      (λ l h. piece_by (AllByRecursion (λ k. F k.user)) (eqb l.user d.owner) l tt (λ k. (h, tt)))
