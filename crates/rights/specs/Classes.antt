-- The class rule of POSIX.1: owner, otherwise group, otherwise others; only that class's bit counts.
use Rattle.std.specs.Prelude.{Bool, true, false}
use Rattle.rights.specs.declared.class.Class.{Class}
use Rattle.rights.specs.declared.class.Class.TheVariants.{Owner, Group, Others}
use Rattle.rights.specs.declared.execute.Execute.{Execute}

-- by whether the subject is the owner, and whether it is in the group
abbrev pub class_by : Bool → Bool → Class
class_by true member = Owner
class_by false true = Group
class_by false false = Others

abbrev pub execute_of : Execute → Class → Bool
execute_of e Owner = e.owner
execute_of e Group = e.group
execute_of e Others = e.others
