-- What a job takes in from a line.
use Rattle.std.specs.Prelude.{◌≡◌, ◌%◌, Bool, true, false, ◌||◌, List, [], ◌∷◌, ◌++◌, length, Some, None, Ok, Err, Option, Result, is_err, nat_lt, if◌then◌else◌}
use Rattle.bounded.specs.Lists.{listed}
use Rattle.rights.specs.declared.directory.Directory.{Directory}
use Rattle.rights.specs.Modes.{execute_bits}
use Rattle.inquiry.specs.declared.line.Asker.{Asker}
use Rattle.inquiry.specs.declared.line.BadLine.{BadLine}
use Rattle.inquiry.specs.declared.line.Description.{Description}
use Rattle.inquiry.specs.declared.line.Line as line
use Rattle.inquiry.specs.declared.line.Line.TheVariants as says
use Rattle.flatten.specs.declared.job.Job.{Job}
use Rattle.flatten.specs.declared.job.Wrong.{Wrong}
use Rattle.flatten.specs.declared.job.Wrong.TheVariants as wrong

-- the directories of the path so far
abbrev pub path_of : Job → List Directory
path_of job = listed job.path

-- the job with its path ended
abbrev pub over : Job → Job
over job = record { path = job.path; ended = true }

-- the job with its path ended if it has begun
abbrev pub over_if_begun : Job → Job
over_if_begun job = record { path = job.path; ended = job.ended || nat_lt 0 (length (path_of job)) }

-- the directory that a line describes
pub record Described (description : Description) (directory : Directory) : Type 0 where
  pub owner_is : directory.owner ≡ description.owner
  pub group_is : directory.group ≡ description.group
  pub execute_is : directory.execute ≡ execute_bits (description.mode % 512)

-- the path with that directory at its end
pub record Longer (description : Description) (before after : Job) : Type 0 where
  pub directory : Directory
  pub described : Described description directory
  pub path : path_of after ≡ path_of before ++ (directory ∷ [])
  pub ended : after.ended ≡ false

-- entering a directory, by whether the path has ended and whether there is room
abbrev pub entered_by : Bool → Bool → Description → Job → Result (Option Asker) Wrong → Job → Type 0
entered_by true room description before answer after = (answer ≡ Err wrong.PathEnded) × (after ≡ before)
entered_by false false description before answer after = (answer ≡ Err (wrong.TooDeep (record {}))) × (after ≡ over before)
entered_by false true description before answer after = (answer ≡ Ok None) × Longer description before after

-- a path takes directories until it has ended, and no more than 16
abbrev pub Entered : Description → Job → Result (Option Asker) Wrong → Job → Type 0
Entered description before answer after =
    entered_by before.ended (nat_lt (length (path_of before)) 16) description before answer after

-- the job, with a path that has begun ended where the line was wrong
abbrev pub ended_if_wrong : Result (Option Asker) Wrong → Job → Job
ended_if_wrong answer job = if is_err answer then over_if_begun job else job

-- what the job answers to a line, and the job after it
abbrev pub Taken : Result line.Line BadLine → Job → Result (Option Asker) Wrong → Job → Type 0
Taken (Err bad) before answer after = (answer ≡ Err (wrong.Line bad)) × (after ≡ over_if_begun before)
Taken (Ok (says.Subject asker)) before answer after = (answer ≡ Ok (Some asker)) × (after ≡ over before)
Taken (Ok (says.Directory description)) before answer after = Entered description before answer after
