-- The disjunctive record as a flattened requirement.
use Rattle.std.specs.Prelude.{◌+◌, min, ◌&&◌, ◌||◌, List, [], Some, refl}
use Rattle.std.proofs.Common.{lit≤}
use Rattle.std.proofs.Math.Nat.{min-le_right}
use Rattle.rights.specs.declared.directory.Directory.{Directory}
use Rattle.rights.specs.Meaning.{Meaning}
use Rattle.bounded.specs.Lists.{listed, packed}
use Rattle.std.specs.Cmp.Lexicographic.{pointwise}
use Rattle.bounded.specs.Tests.{guarded}
use Rattle.lines.specs.declared.line.UserLine.{UserLine}
use Rattle.disjunctive.specs.declared.record.Disjunctive.{Disjunctive}
use Rattle.lines.specs.Lines.{free_line, same_line, same_open, lines_admit, open_admits, tidy}
use Rattle.lines.specs.Moves.{line_of, lines_after, open_after}

abbrev pub list_of : Disjunctive → List UserLine
list_of r = listed r.lines.table

-- everyone: an open line that asks nothing and shuts out nobody
abbrev pub everyone : Disjunctive
everyone = record {
  level = 0;
  lines = record { table = packed 16 (line_of 0 free_line) [] };
  others = Some (record { line = free_line; shut = packed 16 0 [] });
  ok = (lit≤ tt, refl);
}

-- the record after narrowing; the test that every record passes holds of what a narrowing makes
abbrev pub narrowed : Disjunctive → Directory → Disjunctive
narrowed r d =
    let level = min (r.level + 1) 16 in
    let table = packed 16 r.lines.table.filler (lines_after d r.others (list_of r)) in
    let others = open_after d r.others in
    guarded (tidy level (listed table) others) (λ e. record { level = level; lines = record { table = table }; others = others; ok = (min-le_right (r.level + 1) 16, e) }) r

abbrev pub disjunctions : Meaning Disjunctive
disjunctions = record {
  level = λ r. r.level;
  admits = λ r w. lines_admit (list_of r) w || open_admits r.others w;
  everyone = everyone;
  narrowed = narrowed;
  same = λ a b. pointwise same_line (list_of a) (list_of b) && same_open a.others b.others;
}
