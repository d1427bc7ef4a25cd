use Rattle.books.proofs.Returns.{books_apart}
use Rattle.books.proofs.bytes_apart_stands.Goals as goal

pub returns : goal.returns
returns c = books_apart
