-- After the four moves, those pass who did and who may search the directory.
use Rattle.std.specs.Prelude.{◌≡◌, ℕ, ◌<◌, Bool, true, false, cond, not, ◌&&◌, ◌||◌, List, [], ◌∷◌, length, Some, None, Option, ◌==◌, nat_eq, nat_le, refl}
use Rattle.std.proofs.Common.{sym, ap, ap₂, ◌∙◌, arith}
use Rattle.std.proofs.Math.Bool.{or-false, and-false, and-true}
use Rattle.std.proofs.lemmas.Bool.{and_from, and_parts, both_ways, or_parts, leb-true, eqb-true, not-true, true_from_ne_false}
use Rattle.std.proofs.lemmas.Bool.Decides.{nat_tests}
use Rattle.groups.specs.Groups.{member}
use Rattle.rights.specs.Subjects.{Who, may}
use Rattle.rights.specs.declared.directory.Directory.{Directory}
use Rattle.bounded.specs.Lists.{listed}
use Rattle.std.specs.List.{list_all, list_any}
use Rattle.lines.specs.declared.line.Line.{Line}
use Rattle.lines.specs.declared.line.UserLine.{UserLine}
use Rattle.lines.specs.declared.line.OpenLine.{OpenLine}
use Rattle.lines.specs.Lines.{line_admits, lines_admit, open_admits, has, shut_out, users, within, rising, tidy, open_tidy}
use Rattle.bounded.specs.Places.{placed}
use Rattle.lines.specs.Moves.{treated_by, line_of, move_1, move_2, move_3, reopened, open_after, lines_after}
use Rattle.disjunctive.specs.Tested.{any_none, any_placed, any_where, none_any}
use Rattle.lines.proofs.Pieces.{all_users, beside, given}
use Rattle.disjunctive.specs.Shutting.{shut_law}
use Rattle.disjunctive.specs.Admitting.{passes, rest_admits, treated_law, move_1_law, move_4_open_law, move_4_law, admits_within, class_rule}

-- move 3 asks of the open line what the directory asks of another than the owner
reopened_law : (owner : Bool) (u : ℕ) (o : OpenLine) (rest : Option Line) (w : Who) → length (listed o.shut) < 16
    → open_admits (reopened owner u o rest) w ≡ ((not (shut_out o w.user) && (owner || not (u == w.user))) && rest_admits rest w)
reopened_law owner u o None w h = sym (and-false _)
reopened_law true u o (Some l) w h = ap (λ b. b && line_admits l w) (sym (and-true (not (shut_out o w.user))))
reopened_law false u o (Some l) w h = ap (λ b. not b && line_admits l w) (shut_law o u w.user l h) ∙ turn (u == w.user) (shut_out o w.user) (line_admits l w)
  where
    turn : (e s t : Bool) → (not (e || s) && t) ≡ ((not s && not e) && t)
    turn e s t = grind arith

has_users : (ls : List UserLine) (u : ℕ) → has (users ls) u ≡ list_any (λ l. nat_eq l.user u) ls
has_users [] u = refl
has_users (l ∷ ls) u = ap (λ b. (l.user == u) || b) (has_users ls u)

-- leaving out a user who has no line leaves out nothing
absent : (p : UserLine → Bool) (u : ℕ) (ls : List UserLine) → has (users ls) u ≡ false → list_any (λ l. not (l.user == u) && p l) ls ≡ list_any p ls
absent p u [] e = refl
absent p u (l ∷ ls) e =
    let k = or_parts (l.user == u) (has (users ls) u) e in
    ap₂ (λ a b. not a && p l || b) k.0 (absent p u ls k.1)

move_2_law : (d : Directory) (o : OpenLine) (ls : List UserLine) (w : Who)
    → lines_admit (move_2 d (Some o) ls) w ≡ (given d o ls && (d.owner == w.user && line_admits o.line w) || lines_admit ls w)
move_2_law d o ls w =
    by (given d o ls)
    (λ t. not-true _ (and_parts (not (shut_out o d.owner)) (not (has (users ls) d.owner)) (and_parts d.execute.owner _ t).1).1)
  where
    by : (t : Bool) → (t ≡ true → has (users ls) d.owner ≡ false)
        → lines_admit (cond t (placed (λ l. l.user) (line_of d.owner o.line) ls) ls) w ≡ (t && passes w (line_of d.owner o.line) || lines_admit ls w)
    by true f =
        any_placed (λ l. l.user) (passes w) (line_of d.owner o.line) ls
        ∙ ap (λ b. passes w (line_of d.owner o.line) || b) (absent (passes w) d.owner ls (f refl))
    by false f = refl

-- move 1 gives nobody a line
move_1_users : (d : Directory) (u : ℕ) (ls : List UserLine) → has (users ls) u ≡ false → has (users (move_1 d ls)) u ≡ false
move_1_users d u ls e =
    has_users (move_1 d ls) u
    ∙ any_none (λ l. nat_eq l.user u) (move_1 d ls) (all_users d (λ v. (v == u) ≡ false) ls (none_any (λ l. nat_eq l.user u) ls (sym (has_users ls u) ∙ e)))

-- the sum of the moves, as tests. own: the subject is the owner; bit, other: the owner bit, and the bit of the class of another; lines: a user line admits the
-- subject; free, sets: the open line does not shut the subject out, and its sets admit it; has, free-owner: the owner has a line, and is not shut out
moves_sum : (own bit other lines free sets has free_owner : Bool) → (own ≡ true → free_owner ≡ free)
    → (own ≡ true → has ≡ true → sets ≡ true → lines ≡ true)
    → (((bit && (free_owner && not has)) && (own && sets) || lines && cond own bit other) || (free && (bit || not own)) && (sets && other)) ≡ ((lines || free && sets) && cond own bit other)
moves_sum true true other lines free sets has s e f =
    let k : s ≡ free = e refl in
    let m : has ≡ true → sets ≡ true → lines ≡ true = f refl in
    grind arith
moves_sum true false other lines free sets has s e f = grind arith
moves_sum false bit other lines free sets has s e f = grind arith

-- where the owner has a line, it admits the owner if the open line's sets do
owner_law : (d : Directory) (o : OpenLine) (ls : List UserLine) (w : Who) → list_all (beside o) ls ≡ true
    → (w.user == d.owner) ≡ true → has (users (move_1 d ls)) d.owner ≡ true → line_admits o.line w ≡ true → lines_admit ls w ≡ true
owner_law d o ls w all own h t =
    let old = true_from_ne_false (has (users ls) d.owner) (λ e. both_ways (has (users (move_1 d ls)) d.owner) (move_1_users d d.owner ls e) h) in
    any_where (beside o) (λ l. nat_eq l.user w.user) (passes w) ls
    (λ l i e. and_from (l.user == w.user) (line_admits l.line w) e (admits_within l.line o.line w (and_parts (within l.line o.line) _ i).0 t))
    all (sym (has_users ls w.user) ∙ ap (has (users ls)) (eqb-true w.user d.owner own) ∙ old)

narrow_open : (d : Directory) (o : OpenLine) (ls : List UserLine) (w : Who) → length (listed o.shut) < 16 → list_all (beside o) ls ≡ true
    → (lines_admit (move_2 d (Some o) (move_1 d ls)) w || open_admits (move_3 d (Some o)) w) ≡ ((lines_admit ls w || open_admits (Some o) w) && may w d)
narrow_open d o ls w short all =
    let own = nat_eq w.user d.owner in
    let bit = d.execute.owner in
    let other = cond (member w.groups d.group) d.execute.group d.execute.others in
    let free = not (shut_out o w.user) in
    let sets = line_admits o.line w in
    let rule : may w d ≡ cond own bit other = class_rule d.execute own (member w.groups d.group) in
    let turned : nat_eq d.owner w.user ≡ own = grind (arith, nat_tests) in
    let lines = move_2_law d o (move_1 d ls) w ∙ ap₂ (λ e b. given d o (move_1 d ls) && (e && sets) || b) turned (move_1_law d w ls ∙ ap (λ b. lines_admit ls w && b) rule) in
    let rest = treated_law d.execute.group d.execute.others d.group o.line w d.small in
    let opened = reopened_law bit d.owner o (treated_by d o.line) w short ∙ ap₂ (λ e b. (free && (bit || not e)) && b) turned rest in
    ap₂ ◌||◌ lines opened
    ∙ moves_sum own bit other (lines_admit ls w) free sets (has (users (move_1 d ls)) d.owner) (not (shut_out o d.owner))
    (λ e. ap (λ u. not (shut_out o u)) (sym (eqb-true w.user d.owner e))) (owner_law d o ls w all)
    ∙ ap (λ b. (lines_admit ls w || free && sets) && b) (sym rule)

pub narrow_law : (level : ℕ) (d : Directory) (ls : List UserLine) (o : Option OpenLine) (w : Who) → level < 16 → tidy level ls o ≡ true
    → (lines_admit (lines_after d o ls) w || open_admits (open_after d o) w) ≡ ((lines_admit ls w || open_admits o w) && may w d)
narrow_law level d ls o w h t =
    move_4_law (open_after d o) (move_2 d o (move_1 d ls)) w
    ∙ ap (λ b. lines_admit (move_2 d o (move_1 d ls)) w || b) (move_4_open_law (move_3 d o) w)
    ∙ by o (and_parts (rising (users ls)) (open_tidy level ls o) (and_parts (nat_le (length ls) level) (rising (users ls) && open_tidy level ls o) t).1).1
  where
    by : (o : Option OpenLine) → open_tidy level ls o ≡ true
        → (lines_admit (move_2 d o (move_1 d ls)) w || open_admits (move_3 d o) w) ≡ ((lines_admit ls w || open_admits o w) && may w d)
    by None e = or-false _ ∙ move_1_law d w ls ∙ ap (λ b. b && may w d) (sym (or-false (lines_admit ls w)))
    by (Some o) e =
        let k = and_parts (nat_le (length (listed o.shut)) level) _ e in
        narrow_open d o ls w (omega (arith, leb-true _ _ k.0)) (and_parts (rising (listed o.shut)) _ k.1).1
