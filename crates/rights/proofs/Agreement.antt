-- The table of clauses agrees with the class rule.
use Rattle.std.proofs.Common.{[], get_or, arith}
use Rattle.rights.specs.declared.execute.Execute.{Execute}
use Rattle.rights.specs.Patterns.{place, rows, Agrees}

pub agrees : (e : Execute) → Agrees e (get_or rows (place e) [])
agrees e own ing = grind arith
