use Rattle.std.proofs.Common.{◌+◌, ◌*◌, ◌≤◌, length, sym, ap, ◌∙◌, arith, rules, lt-ltb}
use borrow.Author.Tests.{lt-true}
use Rattle.std.proofs.lemmas.Bool.{cond-true}
use Rattle.bounded.specs.Lists.{listed}
use Rattle.conjunctive.proofs.Records.{unpacked, clause_count}
use Rattle.conjunctive.specs.Clauses.{tidy}
use Rattle.conjunctive.specs.Requirement.{clauses_after, list_of, narrowed}
use Rattle.conjunctive.proofs.Anew.{begins_anew}
use Rattle.conjunctive.specs.Lawfulness.{same_record, narrowed_level, narrowed_list, narrowed_clauses}
use Rattle.conjunctive.specs.Rows.{after_le, after_tidy}
use Rattle.conjunctive.proofs.form.ConjunctiveForm.narrow.Goals as goal

pub invariant_of-self : goal.invariant_of-self
invariant_of-self c =
    let r = c.args.self.now in
    let d = c.args.directory.now in
    let few : length (clauses_after d (list_of r)) ≤ 2 * r.level + 2 = omega (arith, after_le d (list_of r), clause_count r.clauses.list, r.ok.1) in
    let is = unpacked c.narrow.new.self.list r.clauses.list.filler (clauses_after d (list_of r)) c.narrow.ensures (omega (arith, few)) in
    record { ok = (omega arith, omega (arith, few, is.1), ap tidy is.0 ∙ after_tidy d (list_of r) r.ok.2) }

pub returns-then-self-ge16 : goal.returns-then-self-ge16
returns-then-self-ge16 c = record { answer = search rules; after = search rules; list = search rules; anew = begins_anew }

pub returns : goal.returns
returns c =
    let r = c.args.self.now in
    let d = c.args.directory.now in
    let low = c.if-self-ge16.false in
    let below = lt-ltb _ _ low in
    record {
      answer = lt-true _ _ low;
      after = same_record _ _ (sym (narrowed_level r d low)) (c.narrow.ensures ∙ sym (narrowed_list r d low)) ∙ sym (cond-true _ (narrowed r d) r below);
      list = ap listed (c.narrow.ensures ∙ sym (narrowed_list r d low)) ∙ narrowed_clauses r d low ∙ sym (cond-true _ (clauses_after d (list_of r)) (list_of r) below);
      anew = begins_anew;
    }
