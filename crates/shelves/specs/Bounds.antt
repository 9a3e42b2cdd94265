-- Tables, pairs and layers that renumber have at most 4,096 slots, and past their size an empty one.
use Rattle.std.specs.Prelude.{ℕ, Option, List}
use Rattle.std.proofs.Common.{arith}
use Rattle.std.proofs.lemmas.List.{get_or_past}
use Rattle.std.proofs.lemmas.Bool.Decides.{nat_tests}
use Rattle.shelves.specs.declared.slot.Node.{Node}
use Rattle.shelves.specs.Slots.{Slots, Proper}
use Rattle.shelves.specs.Layers.{tabled, paired, renumbered}

module _ {F : Type 0} where
  pub tabled_proper : (memory : List (Option (Node F))) → Proper (tabled memory)
  tabled_proper memory = record {
    bounded = omega arith;
    past = λ k h. grind (arith, nat_tests, get_or_past);
  }

  pub paired_proper : (l r : Slots F) → Proper l → Proper r → Proper (paired l r)
  paired_proper l r pl pr = record {
    bounded = omega arith;
    past = λ k h. grind (arith, nat_tests, pr.past);
  }

  pub renumbered_proper : (f : ℕ → ℕ) (s : Slots F) → Proper s → Proper (renumbered f s)
  renumbered_proper f s p = record { bounded = p.bounded; past = λ k h. grind (arith, nat_tests) }
