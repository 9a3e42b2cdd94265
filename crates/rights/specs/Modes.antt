-- Nine permission bits, three for each class: read 4, write 2, execute 1.
use Rattle.std.specs.Prelude.{ℕ, ◌/◌, ◌%◌, Bool, ◌==◌}
use Rattle.rights.specs.declared.class.Class.{Class}
use Rattle.rights.specs.declared.class.Class.TheVariants.{Owner, Group, Others}
use Rattle.rights.specs.declared.execute.Execute.{Execute}

abbrev pub class_bits : ℕ → Class → ℕ
class_bits mode Owner = mode / 64 % 8
class_bits mode Group = mode / 8 % 8
class_bits mode Others = mode % 8

abbrev pub executes : ℕ → Class → Bool
executes mode class = class_bits mode class % 2 == 1

abbrev pub execute_bits : ℕ → Execute
execute_bits mode = record { owner = executes mode Owner; group = executes mode Group; others = executes mode Others }
