-- The moves one after another, each on the table that the one before left.
use Rattle.std.proofs.Common.{◌≡◌, ◌<◌, ◌≤◌, leb, length, Option, ap, ◌∙◌, ap₂, arith}
use Rattle.std.proofs.lemmas.Bool.{and_parts, leb-true}
use Rattle.rights.specs.declared.directory.Directory.{Directory}
use Rattle.bounded.specs.declared.list.Bounded.{Bounded}
use Rattle.bounded.specs.Lists.{listed, packed}
use Rattle.bounded.proofs.Packing.{packed_listed}
use Rattle.lines.specs.contracts.line.UserLine.{the_row}
use Rattle.lines.specs.declared.line.UserLine.{UserLine}
use Rattle.lines.specs.declared.line.OpenLine.{OpenLine}
use Rattle.disjunctive.specs.declared.record.Disjunctive.{Disjunctive}
use Rattle.lines.specs.Moves.{move_1, move_2, move_4, lines_after, open_after}
use Rattle.disjunctive.specs.Requirement.{list_of}
use Rattle.disjunctive.specs.Tidying.{length_move_1, length_move_2}

module _ (r : Disjunctive) (d : Directory) (low : r.level < 16) where
  few : length (list_of r) ≤ r.level
  few = leb-true (length (list_of r)) r.level (and_parts (leb (length (list_of r)) r.level) _ r.ok.1).0

  -- no move meets a full table
  pub table_after : (a b c : Bounded UserLine 16) (o : Option OpenLine)
      → a ≡ packed 16 r.lines.table.filler (move_1 d (list_of r))
      → b ≡ packed 16 a.filler (move_2 d r.others (listed a))
      → o ≡ open_after d r.others
      → c ≡ packed 16 b.filler (move_4 o (listed b))
      → c ≡ packed 16 r.lines.table.filler (lines_after d r.others (list_of r))
  table_after a b c o is_a is_b is_o is_c =
      let f = r.lines.table.filler in
      let one = move_1 d (list_of r) in
      let two = move_2 d r.others one in
      let short : length one ≤ 16 = omega (arith, few, length_move_1 d (list_of r)) in
      let room : length two ≤ 16 = omega (arith, few, length_move_1 d (list_of r), length_move_2 d r.others one) in
      let in_a : listed a ≡ one = ap listed is_a ∙ packed_listed the_row.coded {n = 16} f one short in
      let made : b ≡ packed 16 f two = is_b ∙ ap₂ (λ g ls. packed 16 g (move_2 d r.others ls)) (ap (λ t. t.filler) is_a) in_a in
      let in_b : listed b ≡ two = ap listed made ∙ packed_listed the_row.coded {n = 16} f two room in
      is_c ∙ ap₂ (λ g ls. packed 16 g (move_4 o ls)) (ap (λ t. t.filler) made) in_b ∙ ap (λ p. packed 16 f (move_4 p two)) is_o
