use Rattle.std.proofs.lemmas.Iterator.{YieldsList-from_slice}
use Rattle.std.proofs.lemmas.Iterator.Consumers.{YieldsList-from_copied}
use Rattle.wording.proofs.Listing.{number_words_written}
use Rattle.wording.proofs.numbers.UsersDisplay.fmt.Goals as goal

pub returns-clause-writes : goal.returns-clause-writes
returns-clause-writes g c =
    number_words_written _ _ (c.write_numbers.ensures c.args.self.now.0.now (YieldsList-from_copied (YieldsList-from_slice c.args.self.now.0.now cc)))
