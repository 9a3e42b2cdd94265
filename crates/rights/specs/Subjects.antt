-- Subjects, and which directories they may search.
use Rattle.std.specs.Prelude.{ℕ, Bool, List, ◌==◌}
use Rattle.groups.specs.Groups.{member}
use Rattle.rights.specs.declared.class.Class.{Class}
use Rattle.rights.specs.declared.subject.Subject.{Subject}
use Rattle.rights.specs.declared.directory.Directory.{Directory}
use Rattle.rights.specs.Classes.{class_by, execute_of}

-- a subject as a value: its user number, and its set of groups as bytes
pub record Who : Type 0 where
  pub user : ℕ
  pub groups : List ℕ

abbrev pub who_of : Subject → Who
who_of s = record { user = s.user; groups = s.groups.now }

-- the class in which a subject meets what an owner and a group have
abbrev pub class_of : Who → ℕ → ℕ → Class
class_of w owner group = class_by (w.user == owner) (member w.groups group)

-- whether a subject may search a directory: its class has execute
abbrev pub may : Who → Directory → Bool
may w d = execute_of d.execute (class_of w d.owner d.group)
