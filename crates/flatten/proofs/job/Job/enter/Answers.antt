use Rattle.std.proofs.Common.{◌++◌, [], ◌∷◌, length, Err, lt-ltb, refl, sym, ap, ◌∙◌, arith, length-append}
use Rattle.std.proofs.lemmas.Result.{err_from_is_err_and}
use borrow.Author.Tests.{true-ltb, false-ltb}
use Rattle.bounded.specs.Lists.{listed}
use Rattle.bounded.proofs.Packing.{length_listed, packed_listed, from_full}
use Rattle.rights.specs.contracts.directory.Directory.{the_row}
use Rattle.flatten.proofs.job.Job.enter.Goals as goal

-- where there is room
pub returns : goal.returns
returns c =
    let path = c.args.self.now.path in
    let room = true-ltb _ _ c.in_ok-push.ensures.room in
    rw (c.if-self.false, ← c.in_ok-push.ensures.room) (
      refl,
      record {
        directory = _;
        described = record { owner_is = c.into.ensures.0; group_is = c.into.ensures.1; execute_is = c.into.ensures.2 };
        path =
            ap listed c.push.ensures.list
            ∙ packed_listed the_row.coded {n = 16} path.filler (listed path ++ (_ ∷ [])) (simp length-append (omega arith));
        ended = refl;
      },
    )

-- where 16 directories are there
pub returns-in_err-push : goal.returns-in_err-push
returns-in_err-push c =
    let path = c.args.self.now.path in
    let room = c.in_err-push.ensures.room in
    let full = false-ltb _ _ room in
    let same = c.push.ensures.list ∙ sym (from_full the_row.coded path _ (omega (arith, length_listed the_row.coded path))) in
    let answer = err_from_is_err_and c.from_residual.result c.from_residual.ensures.1 in
    rw (c.if-self.false, ← room, answer.1) (
      ap Err answer.2,
      rw (same, lt-ltb 0 (length (listed path)) (omega arith)),
    )
