-- A trail keeps the laws of a form.
use Rattle.std.specs.Prelude.{◌≡◌, ◌<◌, ◌≤◌, ◌&&◌, List, [], ◌∷◌, ◌++◌, length, refl}
use Rattle.std.proofs.Common.{sym, ap, ◌∙◌, arith}
use Rattle.std.proofs.Math.Bool.{and-true, and_assoc}
use Rattle.std.proofs.lemmas.List.{length_push}
use Rattle.std.proofs.lemmas.Bool.{false≢true}
use Rattle.rights.specs.contracts.directory.Directory.{the_row}
use Rattle.rights.specs.declared.directory.Directory.{Directory}
use Rattle.rights.specs.Subjects.{Who, may}
use Rattle.rights.specs.Meaning.{Lawful}
use Rattle.rights.specs.Paths.{may_all}
use Rattle.bounded.proofs.Packing.{packed_listed, length_listed}
use Rattle.rights_trials.specs.declared.trail.Trail.{Trail}
use Rattle.rights_trials.specs.Trails.{directories, trails}

may_push : (w : Who) (ds : List Directory) (d : Directory) → may_all w (ds ++ (d ∷ [])) ≡ (may_all w ds && may w d)
may_push w [] d = and-true (may w d)
may_push w (e ∷ ds) d = ap (λ b. may w e && b) (may_push w ds d) ∙ sym (and_assoc (may w e) (may_all w ds) (may w d))

deeper_path : (t : Trail) (d : Directory) → t.path.count < 16 → directories (trails.narrowed t d) ≡ directories t ++ (d ∷ [])
deeper_path t d low =
    let room : length (directories t ++ (d ∷ [])) ≤ 16 = omega (arith, length_push (directories t) d, length_listed the_row.coded t.path) in
    packed_listed the_row.coded t.path.filler (directories t ++ (d ∷ [])) room

pub lawful : Lawful trails
lawful = record {
  fresh = refl;
  whole = λ w. refl;
  bounded = λ t. t.path.ok.0;
  deeper = λ t d low.
      omega (arith, ap length (deeper_path t d low), length_push (directories t) d, length_listed the_row.coded t.path, length_listed the_row.coded (trails.narrowed t d).path);
  narrower = λ t d w low. ap (may_all w) (deeper_path t d low) ∙ may_push w (directories t) d;
  equal = λ t u w e. absurd (false≢true e);
}
