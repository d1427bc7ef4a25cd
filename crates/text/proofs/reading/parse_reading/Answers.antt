use Rattle.taps.specs.Values.{book_of}
use Rattle.tokens.specs.Tokens.{tokens_in}
use Rattle.text.proofs.Within.{none_good, notes_of_book}
use Rattle.text.proofs.reading.parse_reading.Goals as goal

pub returns-then-is_none-clause-within : goal.returns-then-is_none-clause-within
returns-then-is_none-clause-within c = (none_good (book_of c.args.book.now)).0

pub returns-clause-within : goal.returns-clause-within
returns-clause-within c = notes_of_book (book_of c.args.book.now) (tokens_in c.args.line.now) c.parse_notes.result c.parse_notes.ensures
