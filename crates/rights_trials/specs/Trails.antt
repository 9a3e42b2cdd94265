-- A trail: the directories themselves.
use Rattle.std.specs.Prelude.{false, List, [], ◌∷◌, ◌++◌}
use Rattle.std.proofs.Common.{lit<}
use Rattle.rights.specs.declared.directory.Directory.{Directory}
use Rattle.rights.specs.Meaning.{Meaning}
use Rattle.rights.specs.Paths.{may_all}
use Rattle.bounded.specs.Lists.{listed, packed}
use Rattle.rights_trials.specs.declared.trail.Trail.{Trail}

abbrev pub no_directory : Directory
no_directory = record { owner = 0; group = 0; execute = record { owner = false; group = false; others = false }; small = lit< tt }

abbrev pub directories : Trail → List Directory
directories t = listed t.path

abbrev pub trails : Meaning Trail
trails = record {
  level = λ t. t.path.count;
  admits = λ t w. may_all w (directories t);
  everyone = record { path = packed 16 no_directory [] };
  narrowed = λ t d. record { path = packed 16 t.path.filler (directories t ++ (d ∷ [])) };
  same = λ t u. false;
}
