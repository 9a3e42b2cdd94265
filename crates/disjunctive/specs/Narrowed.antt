-- What a narrowed record holds, and when a record is the narrowed one.
use Rattle.std.specs.Prelude.{◌≡◌, ℕ, ◌+◌, ◌<◌, min, true, length, Option, nat_le}
use Rattle.std.proofs.Math.Nat.{min-le_right}
use Rattle.std.proofs.Math.Path.{refl}
use Rattle.std.proofs.Common.{sym, ap, ap₂, ◌∙◌, arith}
use mathlib.Core.HLevel.{is_prop→PathP}
use denote.Struct.Props.{props}
use Rattle.std.proofs.lemmas.Bool.{and_parts, leb-true}
use Rattle.rights.specs.declared.directory.Directory.{Directory}
use Rattle.bounded.specs.Lists.{listed, packed}
use Rattle.bounded.proofs.Guards.{guarded_passes}
use Rattle.bounded.proofs.Packing.{packed_listed}
use Rattle.lines.specs.contracts.line.UserLine.{the_row}
use Rattle.lines.specs.declared.line.OpenLine.{OpenLine}
use Rattle.lines.specs.declared.table.Lines.{Lines}
use Rattle.disjunctive.specs.declared.record.Disjunctive.{Disjunctive, ok-type}
use Rattle.lines.specs.Lines.{tidy}
use Rattle.lines.specs.Moves.{lines_after, open_after}
use Rattle.disjunctive.specs.Requirement.{list_of, narrowed}
use Rattle.disjunctive.specs.Tidying.{tidy_after}

one_proof : (level : ℕ) (lines : Lines) (others : Option OpenLine) → IsProp (ok-type level lines others)
one_proof level lines others = hlevel props

pub same_record : (a b : Disjunctive) → a.level ≡ b.level → a.lines ≡ b.lines → a.others ≡ b.others → a ≡ b
same_record a b p q r = λ j. record {
  level = p j;
  lines = q j;
  others = r j;
  ok = is_prop→PathP (λ k. ok-type (p k) (q k) (r k)) (λ k. one_proof (p k) (q k) (r k)) a.ok b.ok j;
}

module _ (r : Disjunctive) (d : Directory) (low : r.level < 16) where
  -- the test of what a narrowing makes
  pub after : tidy (r.level + 1) (lines_after d r.others (list_of r)) (open_after d r.others) ≡ true
  after = tidy_after r.level d (list_of r) r.others low r.ok.1

  pub packs : listed (packed 16 r.lines.table.filler (lines_after d r.others (list_of r))) ≡ lines_after d r.others (list_of r)
  packs =
      packed_listed the_row.coded {n = 16} r.lines.table.filler (lines_after d r.others (list_of r))
      (omega (arith, leb-true _ _ (and_parts (nat_le (length (lines_after d r.others (list_of r))) (r.level + 1)) _ after).0))

  deep : min (r.level + 1) 16 ≡ r.level + 1
  deep = omega arith

  passes : tidy (min (r.level + 1) 16) (listed (packed 16 r.lines.table.filler (lines_after d r.others (list_of r)))) (open_after d r.others) ≡ true
  passes = ap₂ (λ n ls. tidy n ls (open_after d r.others)) deep packs ∙ after

  made : Disjunctive
  made = record {
    level = min (r.level + 1) 16;
    lines = record { table = packed 16 r.lines.table.filler (lines_after d r.others (list_of r)) };
    others = open_after d r.others;
    ok = (min-le_right (r.level + 1) 16, passes);
  }

  narrowed_passes : narrowed r d ≡ made
  unfolding made
  narrowed_passes = guarded_passes _ _ r passes ∙ same_record _ made refl refl refl

pub narrowed_made : (r : Disjunctive) (d : Directory) → r.level < 16
    → ((narrowed r d).level ≡ r.level + 1) × (list_of (narrowed r d) ≡ lines_after d r.others (list_of r)) × ((narrowed r d).others ≡ open_after d r.others)
unfolding made
narrowed_made r d low =
    let is = narrowed_passes r d low in
    (ap (λ s. s.level) is ∙ deep r d low, ap list_of is ∙ packs r d low, ap (λ s. s.others) is)

pub narrowed_is : (r s : Disjunctive) (d : Directory) → r.level < 16 → s.level ≡ r.level + 1
    → s.lines.table ≡ packed 16 r.lines.table.filler (lines_after d r.others (list_of r)) → s.others ≡ open_after d r.others → s ≡ narrowed r d
unfolding made
narrowed_is r s d low level table others =
    same_record s (made r d low) (level ∙ sym (deep r d low)) (λ j. record { table = table j }) others ∙ sym (narrowed_passes r d low)
