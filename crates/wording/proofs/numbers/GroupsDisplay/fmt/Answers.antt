use Rattle.std.proofs.Common.{rules, refl}
use Rattle.std.proofs.lemmas.Iterator.{YieldsList-from_range}
use Rattle.std.proofs.lemmas.Iterator.Consumers.{YieldsList-from_filter}
use Rattle.groups.specs.Groups.{member}
use Rattle.wording.specs.Words.{groups_of}
use Rattle.wording.proofs.Listing.{number_words_written}
use Rattle.wording.proofs.numbers.GroupsDisplay.fmt.Goals as goal

pub returns-clause-writes : goal.returns-clause-writes
unfolding groups_of
returns-clause-writes g c =
    number_words_written _ (groups_of c.args.self.now.0.now)
    (c.write_numbers.ensures _ (YieldsList-from_filter _ (member c.args.self.now.0.now) (YieldsList-from_range 0 256 256 c.filter.ensures.source refl) c.filter.ensures.closure (λ x b q k. search rules)))
