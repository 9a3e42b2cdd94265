use Rattle.std.proofs.Common.{◌≡◌, ltb, sym, refl, ap, ◌∙◌}
use borrow.Author.Tests.{false-ltb}
use Rattle.std.proofs.lemmas.Bool.{cond_both}
use Rattle.bounded.proofs.Packing.{from_full}
use Rattle.rights.specs.contracts.directory.Directory.{the_row}
use Rattle.rights_trials.specs.Trails.{trails}
use Rattle.rights_trials.proofs.form.TrailForm.narrow.Goals as goal

-- a full trail takes no more
pub returns-clause-after : goal.returns-clause-after
returns-clause-after c =
    let t = c.args.self.now in
    let d = c.args.directory.now in
    ap (λ p. record { path = p }) c.push.ensures.list
    ∙ cond_both (ltb t.path.count 16) (trails.narrowed t d) t (λ u. trails.narrowed t d ≡ u) (λ low. refl)
    (λ full. ap (λ p. record { path = p }) (sym (from_full the_row.coded t.path d (false-ltb _ _ (sym full)))))
