use Rattle.taps.proofs.Good.{book_is_good}
use Rattle.taps.proofs.good_book_stands.Goals as goal

pub returns : goal.returns
returns c = book_is_good c.args.book.now
