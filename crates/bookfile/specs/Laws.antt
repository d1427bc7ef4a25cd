-- What is promised of books as lines. Assumes nothing: these are statements, each named by a function's contract.
--
-- BooksReturn: every good book can be written so, and reads back. BooksGood: only good books are read.
use Rattle.std.specs.Prelude.{◌≡◌, ℕ, List, Ok}
use Rattle.taps.specs.Readings.{Book}
use Rattle.taps.specs.Promise.{GoodBook}
use Rattle.bookfile.specs.Books.{book_in}
use Rattle.bookfile.specs.Written.{book_text}

abbrev pub BooksReturn : Type 0
BooksReturn = (b : Book) → GoodBook b → book_in (book_text b) ≡ Ok b

abbrev pub BooksGood : Type 0
BooksGood = (text : List ℕ) (b : Book) → book_in text ≡ Ok b → GoodBook b
