-- The disjunctive record keeps the laws of a form.
use Rattle.std.specs.Prelude.{◌≡◌, ℕ, ◌<◌, true, not, ◌&&◌, ◌||◌, List, [], ◌∷◌, Some, None, Option, ◌==◌, nat_eq, refl}
use Rattle.std.proofs.Common.{ap₂, ◌∙◌}
use Rattle.std.proofs.lemmas.Bool.{and_from, and_parts, eqb-true, false≢true}
use Rattle.groups.proofs.Sets.{subset_none, disjoint_none}
use Rattle.rights.specs.Subjects.{Who, may}
use Rattle.rights.specs.Meaning.{Lawful}
use Rattle.rights.specs.declared.directory.Directory.{Directory}
use Rattle.bounded.specs.Lists.{listed}
use Rattle.std.specs.Cmp.Lexicographic.{pointwise}
use Rattle.lines.specs.declared.line.Line.{Line}
use Rattle.lines.specs.declared.line.UserLine.{UserLine}
use Rattle.lines.specs.declared.line.OpenLine.{OpenLine}
use Rattle.disjunctive.specs.declared.record.Disjunctive.{Disjunctive}
use Rattle.lines.specs.Lines.{line_admits, lines_admit, open_admits, has, within}
use Rattle.lines.specs.Lines.{same_sets, same_open, same_line}
use Rattle.disjunctive.specs.Requirement.{list_of, narrowed, disjunctions}
use Rattle.std.specs.Cmp.{both_ways}
use Rattle.disjunctive.specs.Admitting.{admits_within}
use Rattle.disjunctive.specs.Narrowing.{narrow_law}
use Rattle.disjunctive.specs.Narrowed.{narrowed_made}

-- lines that are the same admit the same
sets_equal : (a b : Line) (w : Who) → same_sets a b ≡ true → line_admits a w ≡ line_admits b w
sets_equal a b w e =
    let k = and_parts (within a b) (within b a) e in
    both_ways (line_admits a w) (line_admits b w) (admits_within b a w k.1) (admits_within a b w k.0)

lines_equal : (ks ls : List UserLine) (w : Who) → pointwise same_line ks ls ≡ true → lines_admit ks w ≡ lines_admit ls w
lines_equal [] [] w e = refl
lines_equal [] (l ∷ ls) w e = absurd (false≢true e)
lines_equal (k ∷ ks) [] w e = absurd (false≢true e)
lines_equal (k ∷ ks) (l ∷ ls) w e =
    let p = and_parts (same_line k l) (pointwise same_line ks ls) e in
    let q = and_parts (k.user == l.user) (same_sets k.line l.line) p.0 in
    ap₂ ◌||◌ (ap₂ (λ u b. (u == w.user) && b) (eqb-true k.user l.user q.0) (sets_equal k.line l.line w q.1)) (lines_equal ks ls w p.1)

users_equal : (us vs : List ℕ) → pointwise nat_eq us vs ≡ true → us ≡ vs
users_equal [] [] e = refl
users_equal [] (v ∷ vs) e = absurd (false≢true e)
users_equal (u ∷ us) [] e = absurd (false≢true e)
users_equal (u ∷ us) (v ∷ vs) e = let p = and_parts (u == v) (pointwise nat_eq us vs) e in ap₂ ◌∷◌ (eqb-true u v p.0) (users_equal us vs p.1)

open_equal : (o p : Option OpenLine) (w : Who) → same_open o p ≡ true → open_admits o w ≡ open_admits p w
open_equal None None w e = refl
open_equal None (Some p) w e = absurd (false≢true e)
open_equal (Some o) None w e = absurd (false≢true e)
open_equal (Some o) (Some p) w e =
    let k = and_parts (same_sets o.line p.line) (pointwise nat_eq (listed o.shut) (listed p.shut)) e in
    ap₂ (λ us b. not (has us w.user) && b) (users_equal (listed o.shut) (listed p.shut) k.1) (sets_equal o.line p.line w k.0)

narrower : (r : Disjunctive) (d : Directory) (w : Who) → r.level < 16
    → (lines_admit (list_of (narrowed r d)) w || open_admits (narrowed r d).others w) ≡ ((lines_admit (list_of r) w || open_admits r.others w) && may w d)
narrower r d w low =
    let k = narrowed_made r d low in
    ap₂ (λ ls o. lines_admit ls w || open_admits o w) k.1 k.2 ∙ narrow_law r.level d (list_of r) r.others w low r.ok.1

pub lawful : Lawful disjunctions
lawful = record {
  fresh = refl;
  whole = λ w. and_from _ _ (subset_none w.groups) (disjoint_none w.groups);
  bounded = λ r. r.ok.0;
  deeper = λ r d low. (narrowed_made r d low).0;
  narrower = narrower;
  equal = λ a b w e.
      let k = and_parts (pointwise same_line (list_of a) (list_of b)) (same_open a.others b.others) e in
      ap₂ ◌||◌ (lines_equal (list_of a) (list_of b) w k.0) (open_equal a.others b.others w k.1);
}
