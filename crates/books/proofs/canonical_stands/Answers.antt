use Rattle.books.proofs.Only.{books_only}
use Rattle.books.proofs.canonical_stands.Goals as goal

pub returns : goal.returns
returns c = books_only
