-- What the four moves leave is tidy.
use Rattle.std.specs.Prelude.{◌≡◌, ℕ, ◌+◌, ◌<◌, ◌≤◌, Bool, true, false, cond, not, ◌&&◌, List, [], ◌∷◌, map, length, IfSome, Some, None, Option, ◌==◌, nat_eq, nat_le, refl}
use Rattle.std.proofs.Common.{sym, ap, subst, ◌∙◌, map-id, arith, length-append}
use Rattle.std.specs.List.{AllByRecursion, list_all}
use Rattle.std.proofs.ByRecursion.{all_kept_by}
use Rattle.std.proofs.lemmas.Bool.{and_from, and_parts, both_ways, cond_both, le-leb, leb-true, not_from_false, not-true, or_from}
use Rattle.std.proofs.lemmas.Bool.Decides.{nat_tests}
use Rattle.groups.proofs.Sets.{subset_refl, subset_grows, subset_gains}
use Rattle.rights.specs.declared.directory.Directory.{Directory}
use Rattle.bounded.specs.Lists.{listed}
use Rattle.lines.specs.declared.line.Line.{Line}
use Rattle.lines.specs.declared.line.UserLine.{UserLine}
use Rattle.lines.specs.declared.line.OpenLine.{OpenLine}
use Rattle.lines.specs.Lines.{has, shut_out, users, within, rising, tidy, open_tidy}
use Rattle.bounded.specs.Places.{placed}
use Rattle.lines.specs.Moves.{treated, treated_by, line_of, its_line, move_1, move_2, shut_with, reopened, consistent, covered, move_4, move_4_open, open_after, lines_after}
use Rattle.lines.specs.Sameness.{within_trans}
use Rattle.disjunctive.specs.Ordered.{length_kept, length_placed, all_placed, Below, Rises, rises_append, rises_kept, rises_placed, rises_from, rising_from}
use Rattle.lines.proofs.Pieces.{piece, piece_by, all_move_1, all_users, beside, given}
use Rattle.disjunctive.specs.Shutting.{shut_placed, shut_law}
use Rattle.disjunctive.specs.Admitting.{within_parts}

-- the user lines: how many, and in which order
abbrev user_of : UserLine → ℕ
user_of l = l.user

users_map : (ls : List UserLine) → users ls ≡ map user_of ls
users_map [] = refl
users_map (l ∷ ls) = ap (λ us. l.user ∷ us) (users_map ls)

pub length_move_1 : (d : Directory) (ls : List UserLine) → length (move_1 d ls) ≤ length ls
length_move_1 d [] = omega arith
length_move_1 d (l ∷ ls) =
    let own = nat_eq l.user d.owner in
    let one : length (piece d own l) ≤ 1 = piece_by d (λ ks. length ks ≤ 1) own l (omega arith) (λ k. omega arith) in
    omega (arith, length-append (piece d own l) (move_1 d ls), length_move_1 d ls)

rises_move_1 : (d : Directory) (ls : List UserLine) → Rises user_of ls → Rises user_of (move_1 d ls)
rises_move_1 d [] h = tt
rises_move_1 d (l ∷ ls) h =
    let own = nat_eq l.user d.owner in
    let after : Below user_of l (move_1 d ls) = all_users d (λ u. l.user < u) ls h.0 in
    rises_append user_of (piece d own l) (move_1 d ls) (piece_by d (Rises user_of) own l tt (λ k. (tt, tt))) (rises_move_1 d ls h.1)
    (piece_by d (AllByRecursion (λ k. Below user_of k (move_1 d ls))) own l tt (λ k. (after, tt)))

-- what holds with and without the line of move 2 holds after it
move_2_by : (P : List UserLine → Type 0) (d : Directory) (o : Option OpenLine) (ls : List UserLine) → P ls
    → ((o : OpenLine) → P (placed user_of (line_of d.owner o.line) ls)) → P (move_2 d o ls)
move_2_by P d None ls h f = h
move_2_by P d (Some o) ls h f = cond_both (given d o ls) (placed user_of (line_of d.owner o.line) ls) ls P (λ _. f o) (λ _. h)

pub length_move_2 : (d : Directory) (o : Option OpenLine) (ls : List UserLine) → length (move_2 d o ls) ≤ length ls + 1
length_move_2 d o ls = move_2_by (λ ks. length ks ≤ length ls + 1) d o ls (omega arith) (λ p. length_placed user_of (line_of d.owner p.line) ls)

-- lines within the open line
within_refl : (l : Line) → within l l ≡ true
within_refl l = and_from _ _ (subset_refl l.wanted) (subset_refl l.barred)

-- a treated line has no smaller sets
treated_grows : (group others : Bool) (g : ℕ) (l : Line) → g < 256 → IfSome (treated group others g l) (λ k. within l k ≡ true)
treated_grows true true g l h = within_refl l
treated_grows true false g l h = and_from _ _ (subset_grows l.wanted l.wanted g l.full.0 h (subset_refl l.wanted)) (subset_refl l.barred)
treated_grows false true g l h = and_from _ _ (subset_refl l.wanted) (subset_grows l.barred l.barred g l.full.1 h (subset_refl l.barred))
treated_grows false false g l h = tt

-- treated alike, a line stays within another
treated_within : (group others : Bool) (g u : ℕ) (a b : Line) → g < 256 → within a b ≡ true
    → IfSome (treated group others g b) (λ k. AllByRecursion (λ l. within l.line k ≡ true) (its_line u (treated group others g a)))
treated_within true true g u a b h i = (i, tt)
treated_within true false g u a b h i =
    let k = within_parts a b i in
    (and_from _ _ (subset_gains a.wanted b.wanted g a.full.0 b.full.0 h k.0) k.1, tt)
treated_within false true g u a b h i =
    let k = within_parts a b i in
    (and_from _ _ k.0 (subset_gains a.barred b.barred g a.full.1 b.full.1 h k.1), tt)
treated_within false false g u a b h i = tt

-- a user line fits an open line: within it, and of a user not shut out
abbrev Fits : OpenLine → UserLine → Type 0
Fits o l = (within l.line o.line ≡ true) × (shut_out o l.user ≡ false)

all_from : (o : OpenLine) (ls : List UserLine) → list_all (beside o) ls ≡ true → AllByRecursion (Fits o) ls
all_from o [] e = tt
all_from o (l ∷ ls) e =
    let k = and_parts (beside o l) (list_all (beside o) ls) e in
    let m = and_parts (within l.line o.line) (not (shut_out o l.user)) k.0 in
    ((m.0, not-true _ m.1), all_from o ls k.1)

from_all : (o : OpenLine) (ls : List UserLine) → AllByRecursion (Fits o) ls → list_all (beside o) ls ≡ true
from_all o [] h = refl
from_all o (l ∷ ls) h = and_from _ _ (and_from _ _ h.0.0 (not_from_false _ h.0.1)) (from_all o ls h.1)

its_weaker : (P Q : UserLine → Type 0) (u : ℕ) (o : Option Line) → ((l : Line) → P (line_of u l) → Q (line_of u l)) → AllByRecursion P (its_line u o) → AllByRecursion Q (its_line u o)
its_weaker P Q u None f h = tt
its_weaker P Q u (Some l) f h = (f l h.0, tt)

-- the open line after move 3, with its new sets
abbrev new : Directory → OpenLine → Line → OpenLine
new d o k = cond d.execute.owner (record { line = k; shut = o.shut }) (shut_with d.owner o k)

module _ (d : Directory) (o : OpenLine) (k : Line) (short : length (listed o.shut) < 16) (is : Some k ≡ treated_by d o.line) where
  grows : within o.line k ≡ true
  grows =
      subst (λ (m : Option Line). IfSome m (λ k. within o.line k ≡ true)) (sym is)
      (treated_grows d.execute.group d.execute.others d.group o.line d.small)

  -- a line within the new sets fits, where the open line did not shut out its user, who is not the owner if the owner bit is 0
  fits : (l : UserLine) → within l.line k ≡ true → shut_out o l.user ≡ false → (d.execute.owner ≡ false → (d.owner == l.user) ≡ false) → Fits (new d o k) l
  fits l i free other =
      cond_both d.execute.owner (record { line = k; shut = o.shut }) (shut_with d.owner o k) (λ p. Fits p l)
      (λ _. (i, free))
      (λ e. (i, shut_law o d.owner l.user k short ∙ or_from (d.owner == l.user) (shut_out o l.user) (other e) free))

  piece_fits : (own : Bool) (l : UserLine) → (l.user == d.owner) ≡ own → Fits o l → AllByRecursion (Fits (new d o k)) (piece d own l)
  piece_fits true l e f =
      cond_both d.execute.owner (l ∷ []) [] (AllByRecursion (Fits (new d o k)))
      (λ bit. (fits l (within_trans l.line o.line k f.0 grows) f.1 (λ none. absurd (both_ways d.execute.owner none bit)), tt))
      (λ _. tt)
  piece_fits false l e f =
      let alike = treated_within d.execute.group d.execute.others d.group l.user l.line o.line d.small f.0 in
      let Still : Option Line → Type 0 = λ m. IfSome m (λ k. AllByRecursion (λ j. within j.line k ≡ true) (its_line l.user (treated_by d l.line))) in
      its_weaker (λ j. within j.line k ≡ true) (Fits (new d o k)) l.user (treated_by d l.line)
      (λ j i. fits (line_of l.user j) i f.1 (λ _. turned)) (subst Still (sym is) alike)
    where
      turned : nat_eq d.owner l.user ≡ false
      turned = grind (arith, nat_tests)

  after_fits : (ls : List UserLine) → AllByRecursion (Fits o) ls → AllByRecursion (Fits (new d o k)) (move_2 d (Some o) (move_1 d ls))
  after_fits ls h =
      let moved = all_move_1 d (Fits o) (Fits (new d o k)) ls (λ l. piece_fits (l.user == d.owner) l refl) h in
      cond_both (given d o (move_1 d ls)) (placed user_of (line_of d.owner o.line) (move_1 d ls)) (move_1 d ls) (AllByRecursion (Fits (new d o k)))
      (λ t. all_placed user_of (Fits (new d o k)) (line_of d.owner o.line) (move_1 d ls) (owner_fits t) moved)
      (λ _. moved)
    where
      owner_fits : given d o (move_1 d ls) ≡ true → Fits (new d o k) (line_of d.owner o.line)
      owner_fits t =
          let p = and_parts d.execute.owner (not (shut_out o d.owner) && not (has (users (move_1 d ls)) d.owner)) t in
          fits (line_of d.owner o.line) grows
          (not-true _ (and_parts (not (shut_out o d.owner)) (not (has (users (move_1 d ls)) d.owner)) p.1).0)
          (λ none. absurd (both_ways d.execute.owner none p.0))

  -- the users shut out: at most one more, in rising order
  shut_tidy : (level : ℕ) → length (listed o.shut) ≤ level → rising (listed o.shut) ≡ true
      → (length (listed (new d o k).shut) ≤ level + 1) × (rising (listed (new d o k).shut) ≡ true)
  shut_tidy level few up =
      cond_both d.execute.owner (record { line = k; shut = o.shut }) (shut_with d.owner o k)
      (λ p. (length (listed p.shut) ≤ level + 1) × (rising (listed p.shut) ≡ true))
      (λ _. (omega arith, up))
      (λ _. (
        omega (arith, ap length (shut_placed o d.owner short), length_placed (λ v. v) d.owner (listed o.shut)),
        ap rising (shut_placed o d.owner short ∙ sym (map-id _))
            ∙ rising_from (λ v. v) (placed (λ v. v) d.owner (listed o.shut))
            (rises_placed (λ v. v) d.owner (listed o.shut) (rises_from (λ v. v) (listed o.shut) (ap rising (map-id (listed o.shut)) ∙ up))),
      ))

-- the open line after the moves, beside any lines that move 4 leaves
open_tidy_after : (level : ℕ) (d : Directory) (o : OpenLine) (ls : List UserLine) (p : Option OpenLine) → level < 16 → open_tidy level ls (Some o) ≡ true
    → open_tidy (level + 1) (move_4 p (move_2 d (Some o) (move_1 d ls))) (open_after d (Some o)) ≡ true
open_tidy_after level d o ls p low t = by (treated_by d o.line) refl
  where
    by : (m : Option Line) → m ≡ treated_by d o.line
        → open_tidy (level + 1) (move_4 p (move_2 d (Some o) (move_1 d ls))) (move_4_open (reopened d.execute.owner d.owner o m)) ≡ true
    by None e = refl
    by (Some k) e =
        let a = and_parts (nat_le (length (listed o.shut)) level) _ t in
        let b = and_parts (rising (listed o.shut)) _ a.1 in
        let few = leb-true _ _ a.0 in
        let short : length (listed o.shut) < 16 = omega arith in
        let shut = shut_tidy d o k short e level few b.0 in
        let lines = move_2 d (Some o) (move_1 d ls) in
        let fit = all_kept_by (λ l. consistent l.line && not (covered p l)) (Fits (new d o k)) lines (after_fits d o k short e ls (all_from o ls b.1)) in
        let up = and_from (rising (listed (new d o k).shut)) _ shut.1 (from_all (new d o k) (move_4 p lines) fit) in
        cond_both (consistent (new d o k).line) (Some (new d o k)) None (λ q. open_tidy (level + 1) (move_4 p lines) q ≡ true)
        (λ _. and_from (nat_le (length (listed (new d o k).shut)) (level + 1)) _ (le-leb _ _ shut.0) up)
        (λ _. refl)

pub tidy_after : (level : ℕ) (d : Directory) (ls : List UserLine) (o : Option OpenLine) → level < 16 → tidy level ls o ≡ true
    → tidy (level + 1) (lines_after d o ls) (open_after d o) ≡ true
tidy_after level d ls o low t =
    let a = and_parts (nat_le (length ls) level) (rising (users ls) && open_tidy level ls o) t in
    let b = and_parts (rising (users ls)) (open_tidy level ls o) a.1 in
    and_from _ _ (le-leb (length (lines_after d o ls)) (level + 1) (few (leb-true (length ls) level a.0)))
    (and_from _ _ (up b.0) (others o b.1))
  where
    few : length ls ≤ level → length (lines_after d o ls) ≤ level + 1
    few h =
        omega (arith, length_move_1 d ls, length_move_2 d o (move_1 d ls), length_kept (λ l. consistent l.line && not (covered (open_after d o) l)) (move_2 d o (move_1 d ls)))

    up : rising (users ls) ≡ true → rising (users (lines_after d o ls)) ≡ true
    up h =
        let one = rises_move_1 d ls (rises_from user_of ls (ap rising (sym (users_map ls)) ∙ h)) in
        let two = move_2_by (Rises user_of) d o (move_1 d ls) one (λ o. rises_placed user_of (line_of d.owner o.line) (move_1 d ls) one) in
        ap rising (users_map (lines_after d o ls))
        ∙ rising_from user_of (lines_after d o ls) (rises_kept user_of (λ l. consistent l.line && not (covered (open_after d o) l)) (move_2 d o (move_1 d ls)) two)

    others : (o : Option OpenLine) → open_tidy level ls o ≡ true → open_tidy (level + 1) (lines_after d o ls) (open_after d o) ≡ true
    others None e = refl
    others (Some p) e = open_tidy_after level d p ls (open_after d (Some p)) low e
