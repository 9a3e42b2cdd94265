use Rattle.std.proofs.Common.{◌∷◌, decimal}
use Rattle.std.specs.Fmt.{IsPlainFormatter, HasWritten}
use Rattle.std.specs.List.{join_by}
use Rattle.wording.proofs.numbers.write_numbers.Given as goal

-- the first number and those yielded so far are written
abbrev pub invariant-loop-n : goal.invariant-loop-n
invariant-loop-n g l =
    (goal.iterator-loop-n g).can_next l.n-iterator
    × (goal.iterator-loop-n g).is_finite l.n-iterator
    × (IsPlainFormatter l.fn.f → HasWritten g.W.Write.write_str_gives l.fn.f (join_by decimal l.mark (l.first ∷ l.yielded)) l.f)
