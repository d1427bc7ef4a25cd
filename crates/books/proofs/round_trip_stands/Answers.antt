use Rattle.books.proofs.Returns.{books_return}
use Rattle.books.proofs.round_trip_stands.Goals as goal

pub returns : goal.returns
returns c = books_return
