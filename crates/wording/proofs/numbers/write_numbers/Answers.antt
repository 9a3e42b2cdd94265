use Rattle.std.proofs.Common.{◌≡◌, ◌∷◌, sym, ◌∙◌}
use Rattle.std.specs.Iterator.{Yields}
use Rattle.std.proofs.lemmas.Iterator.{items_from_drains}
use Rattle.std.proofs.lemmas.List.{map-id}
use Rattle.wording.proofs.numbers.write_numbers.Goals as goal

pub returns : goal.returns
returns g c ns yields plain _ =
    let rest : Yields g.I.Iterator.next_gives c.next.new.self c.loop-n.yielded c.loop-n.n-iterator = rw (← c.into_iter-n-iterator.ensures.into_iter_gives) c.loop-n.yielded_by in
    let all : c.in-Some.first ∷ c.loop-n.yielded ≡ ns = sym (map-id (c.in-Some.first ∷ c.loop-n.yielded)) ∙ items_from_drains (c.in-Some.first ∷ c.loop-n.yielded) (c.loop-n.n-iterator, (c.next.new.self, c.in-Some.ensures.steps, rest), λ _. (c.next-in-loop-n.new.self, c.in-None.ensures.steps)) yields in
    rw (← all) (c.loop-n.invariant.2 plain)
