use Rattle.std.proofs.Common.{◌≡◌, length, replicate, drop}
use Rattle.inquiry.specs.Fields.{fields}
use Rattle.inquiry.specs.Lines.{with_groups}
use Rattle.inquiry.proofs.group_set.Given as goal

abbrev pub invariant-loop-field : goal.invariant-loop-field
invariant-loop-field l =
    with_groups l.set (drop (length l.yielded) (fields 44 l.list)) ≡ with_groups (replicate 32 0) (fields 44 l.list)
