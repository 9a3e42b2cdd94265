-- A record of clauses, and the list that it is packed from.
use Rattle.std.proofs.Common.{◌≡◌, ◌≤◌, List, [], ◌∷◌, length, sym, ap, ◌∙◌}
use Rattle.bounded.specs.declared.list.Bounded.{Bounded}
use Rattle.bounded.specs.Lists.{listed, packed}
use Rattle.bounded.proofs.Packing.{from_listed, packed_listed, length_listed}
use Rattle.conjunctive.specs.contracts.clause.Clause.{the_row}
use Rattle.conjunctive.specs.declared.clause.Clause.{Clause}
use Rattle.conjunctive.specs.Clauses.{empty}

pub from_clauses : (b : Bounded Clause 32) (xs : List Clause) → listed b ≡ xs → b ≡ packed 32 b.filler xs
from_clauses = from_listed the_row.coded

pub emptied : (b : Bounded Clause 32) (filler : Clause) (xs : List Clause) → b ≡ packed 32 filler (empty ∷ []) → xs ≡ empty ∷ [] → b ≡ packed 32 filler xs
emptied b filler xs p e = p ∙ ap (packed 32 filler) (sym e)

-- what the record has of a list that fits
pub unpacked : (b : Bounded Clause 32) (filler : Clause) (xs : List Clause) → b ≡ packed 32 filler xs → length xs ≤ 32
    → (listed b ≡ xs) × (b.count ≡ length xs) × (b.filler ≡ filler)
unpacked b filler xs e h =
    let holds : listed b ≡ xs = ap listed e ∙ packed_listed the_row.coded filler xs h in
    (holds, sym (length_listed the_row.coded b) ∙ ap length holds, ap (λ x. x.filler) e)

pub clause_count : (b : Bounded Clause 32) → length (listed b) ≡ b.count
clause_count = length_listed the_row.coded
