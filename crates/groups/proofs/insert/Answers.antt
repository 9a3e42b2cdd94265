use Rattle.std.proofs.Common.{◌-◌, ◌%◌, arith, rules}
use Rattle.std.proofs.lemmas.Nat.{one_shl}
use Rattle.groups.proofs.Sets.{member_inserted}
use Rattle.groups.proofs.insert.Goals as goal

pub returns-clause-members : goal.returns-clause-members
returns-clause-members c =
    let bit = one_shl (7 - c.args.group % 8) 8 (omega arith) in
    rw (bit, c.from.ensures) (λ h l. member_inserted c.args.set.now c.args.group h c.told-set (search rules))
