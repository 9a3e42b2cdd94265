use Rattle.std.proofs.Common.{None, ◌≡◌, ◌+◌, ◌<◌, ◌≤◌, length, drop, get_or, sym, ap, ◌∙◌, arith}
use Rattle.std.proofs.lemmas.Grind.{common_steps}
use Rattle.std.proofs.lemmas.List.{at_drop_all}
use Rattle.bounded.specs.Lists.{listed, packed}
use Rattle.rights.specs.declared.pattern.Shape.{Shape}
use Rattle.conjunctive.proofs.Records.{from_clauses, unpacked, clause_count}
use Rattle.conjunctive.specs.declared.clause.Clause.{Clause}
use Rattle.conjunctive.specs.Adding.{added}
use Rattle.conjunctive.specs.Requirement.{clause_of, with_row, clauses_after}
use Rattle.conjunctive.specs.Lengths.{added_le}
use Rattle.conjunctive.specs.Rows.{past_clause, row_length}
use Rattle.conjunctive.proofs.clauses.Clauses.narrow.Goals as goal

pub loop-shape-preserved : goal.loop-shape-preserved
loop-shape-preserved c =
    let u = c.args.directory.now.owner in
    let g = c.args.directory.now.group in
    let s = c.loop-shape.self.list in
    let t = c.add.new.self.list in
    let row = c.clauses-shape-items.result.now in
    let i = c.loop-shape.shape-index in
    let within : i < length row = omega arith in
    let short : length row ≤ 2 = omega (arith, ap length c.clauses-shape-items.ensures.row, row_length c.args.directory.now.execute) in
    let shape : Shape = get_or row i (record { user = None; group = None }) in
    let clause : Clause = record { user = c.of.result; group = c.of-in-loop-shape.result } in
    let filled : clause ≡ clause_of u g shape = grind (arith, common_steps) in
    let few : length (added (listed s) clause) ≤ s.count + 1 = omega (arith, added_le (listed s) clause, clause_count s) in
    let is = unpacked t s.filler (added (listed s) clause) c.add.ensures (omega (arith, few, short, c.loop-shape.invariant.1)) in (
      is.2 ∙ c.loop-shape.invariant.0,
      omega (arith, is.1, few, c.loop-shape.invariant.1),
      ap (λ xs. with_row u g xs (drop (i + 1) row)) (is.0 ∙ ap (added (listed s)) filled)
          ∙ sym (past_clause u g (listed s) row i _ within) ∙ c.loop-shape.invariant.2,
    )

pub returns : goal.returns
returns c =
    let d = c.args.directory.now in
    let was = listed c.args.self.now.list in
    let s = c.loop-shape.self.list in
    let row = c.clauses-shape-items.result.now in
    let past = at_drop_all (with_row d.owner d.group (listed s)) row c.loop-shape.shape-index (omega arith) in
    from_clauses s (clauses_after d was) (sym past ∙ c.loop-shape.invariant.2 ∙ ap (with_row d.owner d.group was) c.clauses-shape-items.ensures.row)
    ∙ ap (λ f. packed 32 f (clauses_after d was)) c.loop-shape.invariant.0
