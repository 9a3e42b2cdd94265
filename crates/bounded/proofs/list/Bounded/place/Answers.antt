use Rattle.std.proofs.Common.{rules, nat_lt, [], ◌∷◌, ◌++◌, filter, ap, ◌∙◌, ap₂}
use Rattle.std.proofs.lemmas.List.{append_assoc}
use Rattle.bounded.specs.Lists.{packed}
use Rattle.bounded.proofs.Loops.{pushed}
use Rattle.bounded.proofs.list.Bounded.place.Goals as goal

pub returns : goal.returns
returns g c =
    let K = g.row.T.coded in
    let n = g.row.N in
    let f = c.args.self.now.filler in
    let x = c.args.item in
    let key = g.T.Keyed.key in
    let k = c.key-key.result in
    let below = filter (λ y. nat_lt (key y) k) c.as_slice.result.now in
    let above = filter (λ y. nat_lt k (key y)) c.as_slice-2.result.now in
    let first = pushed K n f c.new-out.result c.extend.new.self [] below c.new-out.ensures (c.extend.ensures (λ y. nat_lt (key y) k) (λ y b h. search rules)) in
    let second = pushed K n f c.extend.new.self c.push.new.self below (x ∷ []) first c.push.ensures.list in
    pushed K n f c.push.new.self c.extend-2.new.self (below ++ (x ∷ [])) above second (c.extend-2.ensures (λ y. nat_lt k (key y)) (λ y b h. search rules))
    ∙ ap (packed n f)
    (append_assoc below (x ∷ []) above
    ∙ ap₂ (λ a b. a ++ (x ∷ b))
    (ap₂ (λ m ys. filter (λ y. nat_lt (key y) m) ys) c.key-key.ensures c.as_slice.ensures)
    (ap₂ (λ m ys. filter (λ y. nat_lt m (key y)) ys) c.key-key.ensures c.as_slice-2.ensures))
