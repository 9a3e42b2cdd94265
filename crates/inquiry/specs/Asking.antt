-- Who asks.
use Rattle.rights.specs.Subjects.{Who}
use Rattle.inquiry.specs.declared.line.Asker.{Asker}

-- the subject that asks
abbrev pub asker : Asker → Who
asker asked = record { user = asked.user; groups = asked.groups }
