-- Paths: lists of directories, root first.
use Rattle.std.specs.Prelude.{Bool, if◌then◌else◌, List, length, Ok, Err, Result, fold, nat_le}
use Rattle.std.specs.List.{list_all}
use Rattle.rights.specs.declared.directory.Directory.{Directory}
use Rattle.rights.specs.declared.form.TooDeep.{TooDeep}
use Rattle.rights.specs.Subjects.{Who, may}
use Rattle.rights.specs.Meaning.{Meaning}

-- whether a subject may search every directory of a path
abbrev pub may_all : Who → List Directory → Bool
may_all w path = list_all (may w) path

module _ {F : Type 0} (m : Meaning F) where
  -- a requirement narrowed by one directory after another
  abbrev pub narrowed_by : F → List Directory → F
  narrowed_by f path = fold m.narrowed f path

  -- the requirement of a path, or the refusal of one past 16 directories
  abbrev pub flattened : List Directory → Result F TooDeep
  flattened path = if nat_le (length path) 16 then Ok (narrowed_by m.everyone path) else Err (record {})
