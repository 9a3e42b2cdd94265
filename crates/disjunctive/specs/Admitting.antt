-- Whom lines and the open line admit after each move.
use Rattle.std.specs.Prelude.{◌≡◌, ℕ, ◌<◌, Bool, true, false, cond, not, ◌&&◌, ◌||◌, List, [], ◌∷◌, Some, None, Option, ◌==◌, nat_eq, refl}
use Rattle.std.proofs.Common.{sym, ap, ap₂, ◌∙◌, arith}
use Rattle.std.proofs.Math.Bool.{and_assoc, and-or_distrib_right}
use Rattle.std.proofs.lemmas.Bool.{and_from, and_parts, both_ways, eqb-true, false_from_ne_true, not_from_false}
use Rattle.groups.specs.Groups.{member, subset, disjoint}
use Rattle.groups.proofs.Sets.{subset_inserted, disjoint_inserted, subset_trans, disjoint_smaller, not_both}
use Rattle.rights.specs.Subjects.{Who, may}
use Rattle.rights.specs.Classes.{class_by, execute_of}
use Rattle.rights.specs.declared.directory.Directory.{Directory}
use Rattle.rights.specs.declared.execute.Execute.{Execute}
use Rattle.std.proofs.lemmas.List.Folds.{list_any-append}
use Rattle.lines.specs.declared.line.Line.{Line}
use Rattle.lines.specs.declared.line.UserLine.{UserLine}
use Rattle.lines.specs.declared.line.OpenLine.{OpenLine}
use Rattle.lines.specs.Lines.{line_admits, lines_admit, open_admits, shut_out, within}
use Rattle.lines.specs.Moves.{treated, treated_by, its_line, move_1, consistent, move_4_open, covered, move_4}
use Rattle.bounded.proofs.Bools.{and_same}
use Rattle.lines.proofs.Pieces.{piece}
use Rattle.disjunctive.specs.Tested.{any_kept_or}

-- whether a user line admits a subject
abbrev pub passes : Who → UserLine → Bool
passes w l = l.user == w.user && line_admits l.line w

-- whom a line that may be gone admits
abbrev pub rest_admits : Option Line → Who → Bool
rest_admits None w = false
rest_admits (Some l) w = line_admits l w

-- a treated line asks for the bit of the class in which another than the owner stands
pub treated_law : (group others : Bool) (g : ℕ) (l : Line) (w : Who) → g < 256
    → rest_admits (treated group others g l) w ≡ (line_admits l w && cond (member w.groups g) group others)
treated_law true true g l w h = grind arith
treated_law true false g l w h = grind (arith, subset_inserted l.wanted w.groups g l.full.0 h)
treated_law false true g l w h = grind (arith, disjoint_inserted l.barred w.groups g l.full.1 h)
treated_law false false g l w h = grind arith

its_line_law : (u : ℕ) (o : Option Line) (w : Who) → lines_admit (its_line u o) w ≡ (u == w.user && rest_admits o w)
its_line_law u None w = grind arith
its_line_law u (Some l) w = grind arith

-- the class rule, by whether the subject is the owner and whether it is in the group
pub class_rule : (e : Execute) (own ing : Bool) → execute_of e (class_by own ing) ≡ cond own e.owner (cond ing e.group e.others)
class_rule e true ing = refl
class_rule e false true = refl
class_rule e false false = refl

-- move 1 asks of each line what the directory asks of the line's user
module _ (d : Directory) (w : Who) where
  kept : (b : Bool) (l : UserLine) → lines_admit (cond b (l ∷ []) []) w ≡ (passes w l && b)
  kept b l = grind arith

  piece_law : (own : Bool) (l : UserLine)
      → lines_admit (piece d own l) w ≡ (passes w l && execute_of d.execute (class_by own (member w.groups d.group)))
  piece_law true l = kept d.execute.owner l
  piece_law false l =
      its_line_law l.user (treated_by d l.line) w
      ∙ ap (λ b. (l.user == w.user) && b) (treated_law d.execute.group d.execute.others d.group l.line w d.small)
      ∙ sym (and_assoc (l.user == w.user) (line_admits l.line w) _)
      ∙ ap (λ b. passes w l && b) (sym (class_rule d.execute false (member w.groups d.group)))

  pub move_1_law : (ls : List UserLine) → lines_admit (move_1 d ls) w ≡ (lines_admit ls w && may w d)
  move_1_law [] = refl
  move_1_law (l ∷ ls) =
      let own = nat_eq l.user d.owner in
      let rule : passes w l ≡ true → execute_of d.execute (class_by own (member w.groups d.group)) ≡ may w d =
      λ t. ap (λ u. execute_of d.execute (class_by (u == d.owner) (member w.groups d.group))) (eqb-true l.user w.user (and_parts (l.user == w.user) _ t).0) in
      list_any-append (passes w) (piece d own l) (move_1 d ls)
      ∙ ap₂ ◌||◌ (piece_law own l ∙ and_same (passes w l) _ (may w d) rule) (move_1_law ls)
      ∙ sym (and-or_distrib_right (passes w l) (lines_admit ls w) (may w d))

-- who passes a line shows that it is consistent
admits_consistent : (l : Line) (w : Who) → line_admits l w ≡ true → consistent l ≡ true
admits_consistent l w t =
    let k = and_parts (subset l.wanted w.groups) (disjoint l.barred w.groups) t in
    not_both l.wanted l.barred w.groups k.0 k.1

pub within_parts : (a b : Line) → within a b ≡ true → (subset a.wanted b.wanted ≡ true) × (subset a.barred b.barred ≡ true)
within_parts a b = and_parts (subset a.wanted b.wanted) (subset a.barred b.barred)

-- a line within another admits all that the other does
pub admits_within : (a b : Line) (w : Who) → within a b ≡ true → line_admits b w ≡ true → line_admits a w ≡ true
admits_within a b w i t = grind (arith, subset_trans a.wanted b.wanted w.groups, disjoint_smaller a.barred b.barred w.groups)

-- move 4 changes nobody's right
pub move_4_open_law : (p : Option OpenLine) (w : Who) → open_admits (move_4_open p) w ≡ open_admits p w
move_4_open_law None w = refl
move_4_open_law (Some o) w = grind (arith, admits_consistent o.line w)

covered_law : (p : Option OpenLine) (l : UserLine) (w : Who) → passes w l ≡ true → covered p l ≡ true → open_admits p w ≡ true
covered_law None l w t c = c
covered_law (Some o) l w t c =
    let k = and_parts (within o.line l.line) (not (shut_out o l.user)) c in
    let m = and_parts (l.user == w.user) (line_admits l.line w) t in
    and_from (not (shut_out o w.user)) (line_admits o.line w)
    (ap (λ u. not (shut_out o u)) (sym (eqb-true l.user w.user m.0)) ∙ k.1) (admits_within o.line l.line w k.0 m.1)

pub move_4_law : (p : Option OpenLine) (ls : List UserLine) (w : Who) → (lines_admit (move_4 p ls) w || open_admits p w) ≡ (lines_admit ls w || open_admits p w)
move_4_law p ls w = any_kept_or (λ l. consistent l.line && not (covered p l)) (passes w) (open_admits p w) ls stays
  where
    stays : (l : UserLine) → passes w l ≡ true → open_admits p w ≡ false → (consistent l.line && not (covered p l)) ≡ true
    stays l t none =
        and_from (consistent l.line) (not (covered p l)) (admits_consistent l.line w (and_parts (l.user == w.user) (line_admits l.line w) t).1)
        (not_from_false (covered p l) (false_from_ne_true (covered p l) (λ c. both_ways (open_admits p w) none (covered_law p l w t c))))
