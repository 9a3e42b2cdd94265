use Rattle.std.proofs.Common.{◌≡◌, take}
use Rattle.rights.specs.Paths.{may_all, narrowed_by}
use Rattle.rights.specs.Subjects.{Who}
use Rattle.rights.proofs.path.flatten.Given as goal

abbrev pub invariant-loop-directory : goal.invariant-loop-directory
invariant-loop-directory g l =
    let m = g.F.Form.meaning in
    let before = take l.directory-index l.path in
    record {
      level : m.level l.form ≡ l.directory-index;
      narrowed : l.form ≡ narrowed_by m m.everyone before;
      admits : (w : Who) → m.admits l.form w ≡ may_all w before;
    }
