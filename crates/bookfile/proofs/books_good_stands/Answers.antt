use Rattle.bookfile.proofs.Good.{books_good}
use Rattle.bookfile.proofs.books_good_stands.Goals as goal

pub returns : goal.returns
returns c = books_good
