-- Sameness of lines is a partial equivalence.
use Rattle.std.specs.Prelude.{◌≡◌, true, Some, nat_eq}
use Rattle.std.specs.Cmp.{IsPartialEquivalence, and_per, on_per, partial_equiv_from_equiv, nat_eq_equiv}
use Rattle.std.specs.Cmp.Lexicographic.{lists_per}
use Rattle.std.proofs.lemmas.Bool.{and_parts, and_from}
use mathlib.Core.Bool.{and_comm}
use Rattle.groups.proofs.Sets.{subset_trans}
use Rattle.bounded.specs.Lists.{listed}
use Rattle.lines.specs.declared.line.Line.{Line}
use Rattle.lines.specs.declared.line.UserLine.{UserLine}
use Rattle.lines.specs.declared.line.OpenLine.{OpenLine}
use Rattle.lines.specs.Lines.{within, same_sets, same_line, same_open}

pub within_trans : (a b c : Line) → within a b ≡ true → within b c ≡ true → within a c ≡ true
within_trans a b c p q =
    let (wanted, barred) = and_parts _ _ p in
    let (wanted', barred') = and_parts _ _ q in
    and_from _ _ (subset_trans a.wanted b.wanted c.wanted wanted wanted') (subset_trans a.barred b.barred c.barred barred barred')

pub sets_laws : IsPartialEquivalence same_sets
sets_laws = record {
  symm = λ a b. and_comm (within a b) (within b a);
  trans = λ a b c p q.
      let (ab, ba) = and_parts _ _ p in
      let (bc, cb) = and_parts _ _ q in
      and_from _ _ (within_trans a b c ab bc) (within_trans c b a cb ba);
}

numbers_laws : IsPartialEquivalence nat_eq
numbers_laws = partial_equiv_from_equiv nat_eq_equiv

pub line_laws : IsPartialEquivalence same_line
line_laws = and_per (on_per (λ (l : UserLine). l.user) numbers_laws) (on_per (λ (l : UserLine). l.line) sets_laws)

pub open_laws : IsPartialEquivalence (λ o p. same_open (Some o) (Some p))
open_laws = and_per (on_per (λ (o : OpenLine). o.line) sets_laws) (on_per (λ (o : OpenLine). listed o.shut) (lists_per numbers_laws))
