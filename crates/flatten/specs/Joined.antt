-- The two records of a path, and whom they admit.
use Rattle.std.specs.Prelude.{◌≡◌, Bool, ◌&&◌, List, Ok, Err, Result}
use Rattle.rights.specs.declared.directory.Directory.{Directory}
use Rattle.rights.specs.declared.form.TooDeep.{TooDeep}
use Rattle.rights.specs.Subjects.{Who}
use Rattle.rights.specs.Paths.{flattened, may_all}
use Rattle.conjunctive.specs.declared.record.Conjunctive.{Conjunctive}
use Rattle.conjunctive.specs.Requirement.{conjunctions}
use Rattle.disjunctive.specs.declared.record.Disjunctive.{Disjunctive}
use Rattle.disjunctive.specs.Requirement.{disjunctions}
use Rattle.flatten.specs.declared.records.Records.{Records}

-- both records, or the first refusal
abbrev pub joined : Result Conjunctive TooDeep → Result Disjunctive TooDeep → Result Records TooDeep
joined (Err deep) d = Err deep
joined (Ok c) (Err deep) = Err deep
joined (Ok c) (Ok d) = Ok (record { conjunctive = c; disjunctive = d })

-- the records of a path, or the refusal of one past 16 directories
abbrev pub records_of : List Directory → Result Records TooDeep
records_of path = joined (flattened conjunctions path) (flattened disjunctions path)

-- whether both records admit a subject
abbrev pub admit : Records → Who → Bool
admit rs w = conjunctions.admits rs.conjunctive w && disjunctions.admits rs.disjunctive w

-- each record, and so both, admits exactly those who may search every directory of the path
pub record Exact (rs : Records) (path : List Directory) : Type 0 where
  pub conjunctive : (w : Who) → conjunctions.admits rs.conjunctive w ≡ may_all w path
  pub disjunctive : (w : Who) → disjunctions.admits rs.disjunctive w ≡ may_all w path
  pub both : (w : Who) → admit rs w ≡ may_all w path
