use Rattle.std.proofs.Common.{◌<◌, false, [], ap, ◌∙◌}
use native.Mathlib.Bridge.{le_prop}
use Rattle.rights.specs.declared.directory.Directory.{Directory}
use Rattle.bounded.specs.Lists.{packed}
use Rattle.rights_trials.proofs.form.TrailForm.everyone.Goals as goal

filler : 0 < 256 → Directory
filler small = record { owner = 0; group = 0; execute = record { owner = false; group = false; others = false }; small = small }

pub returns : goal.returns
unfolding filler
returns c = ap (λ p. record { path = p }) (c.new.ensures ∙ ap (λ s. packed 16 (filler s) []) (le_prop _ _))
