use Rattle.std.proofs.Common.{◌∙◌, not, ◌&&◌, eqb, rules, tests}
use lib.Bits.{bit_and}
use Rattle.std.proofs.lemmas.Iterator.{YieldsList-from_zip, YieldsList-from_slice}
use Rattle.std.proofs.lemmas.Iterator.Search.{all_from_yields_List}
use Rattle.groups.specs.Groups.{disjoint}
use Rattle.groups.proofs.Bits.{apart_tells}
use Rattle.groups.proofs.Bytes.{bytes_tell}
use Rattle.groups.proofs.is_disjoint.Goals as goal

pub returns : goal.returns
unfolding disjoint
returns c =
    all_from_yields_List (λ p. eqb (bit_and p.0 p.1) 0) c.all.new.self _ _ c.all.ensures.ran
    (YieldsList-from_zip (YieldsList-from_slice c.args.a.now cc) (YieldsList-from_slice c.args.b.now cc)) (λ x b q k. search (rules, tests))
    ∙ bytes_tell _ (λ s t. not (s && t)) _ _ c.told-a c.told-b (search rules) apart_tells
