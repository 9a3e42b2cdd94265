use Rattle.std.proofs.Common.{◌≡◌, ◌≤◌, drop}
use Rattle.inquiry.specs.Numbers.{number_of, read_on}
use Rattle.inquiry.proofs.number.number.Given as goal

abbrev pub invariant-loop-byte : goal.invariant-loop-byte
invariant-loop-byte l =
    (l.value ≤ l.largest)
    × (read_on l.base l.largest l.value (drop l.byte-index l.text) ≡ number_of l.base l.largest l.text)
