-- What single steps make, in the words of the moves.
use Rattle.std.proofs.Common.{◌≡◌, ℕ, Bool, cond, ◌||◌, eqb, List, [], ◌∷◌, ◌++◌, Some, Option, sym, refl, ap, ap₂, ◌∙◌}
use Rattle.std.proofs.lemmas.List.{append-nil}
use Rattle.rights.specs.declared.directory.Directory.{Directory}
use Rattle.std.specs.List.{list_any, flat_map}
use Rattle.lines.specs.declared.line.OpenLine.{OpenLine}
use Rattle.lines.specs.declared.line.UserLine.{UserLine}
use Rattle.lines.specs.Lines.{has, users}
use Rattle.bounded.specs.Places.{placed}
use Rattle.lines.specs.Moves.{line_of, move_1, move_2}
use Rattle.lines.proofs.Pieces.{piece, given}

-- a user has a line where some line is the user's
pub has_line : (ls : List UserLine) (u : ℕ) → list_any (λ l. eqb l.user u) ls ≡ has (users ls) u
has_line [] u = refl
has_line (l ∷ ls) u = ap (λ b. eqb l.user u || b) (has_line ls u)

-- move 1 goes line by line
pub move_1_by_line : (d : Directory) (ls : List UserLine) → flat_map (λ l. move_1 d (l ∷ [])) ls ≡ move_1 d ls
move_1_by_line d [] = refl
move_1_by_line d (l ∷ ls) = ap₂ ◌++◌ (append-nil (piece d (eqb l.user d.owner) l)) (move_1_by_line d ls)

-- move 2 beside an open line, by its test
pub move_2_by_test : (d : Directory) (o : OpenLine) (others : Option OpenLine) (ls : List UserLine) (b : Bool) → others ≡ Some o → b ≡ given d o ls
    → cond b (placed (λ l. l.user) (line_of d.owner o.line) ls) ls ≡ move_2 d others ls
move_2_by_test d o others ls b is test =
    ap (λ t. cond t (placed (λ l. l.user) (line_of d.owner o.line) ls) ls) test ∙ ap (λ p. move_2 d p ls) (sym is)
