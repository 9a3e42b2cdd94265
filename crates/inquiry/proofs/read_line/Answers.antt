use Rattle.std.proofs.Common.{◌≡◌, List, ℕ, Result, sym, ◌∙◌, rules, tests}
use Rattle.std.proofs.lemmas.Bool.{cond-true, cond-false}
use Rattle.std.proofs.lemmas.Iterator.Splits.{YieldsList-from_slice_split}
use Rattle.inquiry.specs.declared.line.Line.{Line}
use Rattle.inquiry.specs.declared.line.BadLine.{BadLine}
use Rattle.inquiry.specs.Lines.{line_of}
use Rattle.inquiry.specs.Written.{ReadsBack}
use Rattle.inquiry.proofs.Back.{reads_back}
use Rattle.inquiry.proofs.Shapes.{said, line_of_four}
use Rattle.inquiry.proofs.read_line.Goals as goal
use Rattle.inquiry.proofs.read_line.Goals.{After-next-3}

-- the line by the fields that came
by_fields : (c : After-next-3) → line_of c.args.text.now ≡ said c.next.result c.next-2.result c.next-groups.result c.next-3.result
by_fields c =
    line_of_four _ _ _ _ _ _ _ _ _ _ _ c.next.ensures.steps c.next-2.ensures.steps c.next-groups.ensures.steps c.next-3.ensures.steps
    (YieldsList-from_slice_split _ _ c.args.text.now c.split-fields.ensures.rest c.split-fields.ensures.done c.split-fields.ensures.closure (λ x r q k. search (rules, tests)))

-- both clauses
both : (text : List ℕ) (read : Result Line BadLine) → line_of text ≡ read → record { line : read ≡ line_of text; written : ReadsBack text read }
both text read e = record { line = sym e; written = reads_back text read (sym e) }

-- a subject
pub returns-in-Some-Some-default-None : goal.returns-in-Some-Some-default-None
returns-in-Some-Some-default-None c =
    let e = by_fields (goal.at.returns-in-Some-Some-default-None c).After-next-3 in
    let m = c.in-Some-Some-default-None in
    both _ _ ((rw (m.is-0, m.is-1, m.is-3) at e) ∙ cond-true _ _ _ (sym c.is_who.ensures ∙ c.if-is_who.true) ∙ sym c.subject.ensures)

-- a directory
pub returns-in-Some-Some-Some-None : goal.returns-in-Some-Some-Some-None
returns-in-Some-Some-Some-None c =
    let e = by_fields (goal.at.returns-in-Some-Some-Some-None c).After-next-3 in
    let m = c.in-Some-Some-default-None in
    both _ _ ((rw (m.is-0, m.is-1, m.is-3, c.in-Some-Some-Some-None.is-2) at e) ∙ cond-false _ _ _ (sym c.is_who.ensures ∙ c.if-is_who.false) ∙ sym c.directory.ensures)

-- two fields, the first of which is another word
pub returns-in_default : goal.returns-in_default
returns-in_default c =
    let e = by_fields (goal.at.returns-in_default c).After-next-3 in
    let m = c.in-Some-Some-default-None in
    both _ _ ((rw (m.is-0, m.is-1, m.is-3, c.in_default.is-2) at e) ∙ cond-false _ _ _ (sym c.is_who.ensures ∙ c.if-is_who.false))

-- more than three fields
pub returns-in_default-2 : goal.returns-in_default-2
returns-in_default-2 c =
    let e = by_fields (goal.at.returns-in_default-2 c).After-next-3 in
    both _ _ (rw (c.in_default.is-0, c.in_default.is-1, c.in_default.is-3) at e)

-- one field
pub returns-in_default-3 : goal.returns-in_default-3
returns-in_default-3 c =
    let e = by_fields (goal.at.returns-in_default-3 c).After-next-3 in
    both _ _ (rw (c.in_default.is-0, c.in_default.is-1) at e)
