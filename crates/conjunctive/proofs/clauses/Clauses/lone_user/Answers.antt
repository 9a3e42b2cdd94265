use Rattle.std.proofs.Common.{◌≡◌, ℕ, ◌-◌, ◌<◌, Some, None, Option, length, get_or, sym, refl, arith}
use Rattle.std.proofs.lemmas.Grind.{common_steps}
use Rattle.bounded.specs.Lists.{listed}
use Rattle.conjunctive.specs.declared.clause.Clause.{Clause}
use Rattle.conjunctive.specs.Clauses.{lone, lone_in}
use Rattle.conjunctive.proofs.Firsts.{first_none, first_some}
use Rattle.conjunctive.proofs.clauses.Clauses.lone_user.Goals as goal

pub returns : goal.returns
returns c =
    let xs = listed c.args.self.now.list in
    let r = c.find_map.result in
    let i = c.find_map.ensures.runs.0.len - 1 in
    let none : (k : ℕ) (d : Clause) → r ≡ None → k < length xs → lone (get_or xs k d) ≡ None = grind (arith, common_steps) in
    let within : (u : ℕ) → r ≡ Some u → i < length xs = grind (arith, common_steps) in
    let before : (u k : ℕ) (d : Clause) → r ≡ Some u → k < i → lone (get_or xs k d) ≡ None = grind (arith, common_steps) in
    let here : (u : ℕ) (d : Clause) → r ≡ Some u → lone (get_or xs i d) ≡ Some u = grind (arith, common_steps) in
    let P : Option ℕ → Type 0 = λ o. r ≡ o → o ≡ lone_in xs in
    let by : (o : Option ℕ) → P o = λ o. elim o as P [
      | None ↦ λ e. sym (first_none xs (λ k d h. none k d e h))
      | Some u ↦ λ e. sym (first_some xs i u (within u e) (λ k d h. before u k d e h) (λ d. here u d e))
    ] in
    by r refl
