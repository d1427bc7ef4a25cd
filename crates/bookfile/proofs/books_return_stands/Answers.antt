use Rattle.bookfile.proofs.Return.{books_return}
use Rattle.bookfile.proofs.books_return_stands.Goals as goal

pub returns : goal.returns
returns c = books_return
