use Rattle.std.proofs.Common.{◌≡◌, ℕ, ◌<◌, min, Option, None, List, ◌++◌, length, get_or, take, sym, refl, ◌∙◌, arith}
use Rattle.std.proofs.lemmas.Bool.Decides.{nat_tests}
use Rattle.std.proofs.lemmas.List.FromFn.{fill_by_all, length-map-range_with_len, get_or-map-range_with_len}
use Rattle.std.proofs.lemmas.List.{length-take, length-append, get_or-take, get_or_append_left, get_or-append_right}
use Rattle.shelves.specs.declared.slot.Node.{Node}
use Rattle.shelves.specs.Slots.{Slots}
use Rattle.shelves.specs.Layers.{tabled, paired}
use Rattle.shelves.specs.Lists.{listed}
use Rattle.shelves.proofs.laws.layers_stand.Goals as goal

-- a shelf's list is the first n of another, where it has that size and those slots
listed_front : {F : Type 0} (s : Slots F) (n : ℕ) (xs : List (Option (Node F))) → s.size ≡ min (length xs) n →
    ((k : ℕ) → k < s.size → get_or xs k None ≡ s.at k) → listed s ≡ take n xs
listed_front s n xs size at = sym (fill_by_all s.at (take n xs) s.size None
    (omega (arith, length-take n xs))
    (λ k h. get_or-take n xs k None (omega arith) ∙ at k h))

pub returns : goal.returns
returns g c = record {
  table = λ memory. listed_front (tabled memory) 4096 memory refl (λ k h. grind (arith, nat_tests));
  pair = λ l r. listed_front (paired l r) 4096 (listed l ++ listed r)
      (simp (length-append, length-map-range_with_len))
      (λ k h. grind (arith, nat_tests, length-map-range_with_len, get_or_append_left, get_or-append_right, get_or-map-range_with_len));
  scatter = λ s size m h. grind (arith, nat_tests);
  passed_on = λ s p ne. record { size = refl; at = λ k. grind (arith, nat_tests, p.past) };
}
