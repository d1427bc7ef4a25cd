-- What is promised of the format of books. Assumes nothing: these are statements, each named by a function's contract.
--
-- BooksReturn: what was written reads back as the same. BooksOnly: what is read as a book is just what that is written as. BooksApart: no two that differ are written alike.
use Rattle.std.specs.Prelude.{◌≡◌, ℕ, List, Some}
use Rattle.taps.specs.Readings.{Book}
use Rattle.taps.specs.Promise.{GoodBook}
use Rattle.octets.specs.Bytes.{Bytes}
use Rattle.books.specs.Books.{book_bytes, book_in}

abbrev pub BooksReturn : Type 0
BooksReturn = (b : Book) → GoodBook b → book_in (book_bytes b) ≡ Some b

abbrev pub BooksOnly : Type 0
BooksOnly = (bs : List ℕ) (b : Book) → Bytes bs → book_in bs ≡ Some b → bs ≡ book_bytes b

abbrev pub BooksApart : Type 0
BooksApart = (b c : Book) → GoodBook b → GoodBook c → book_bytes b ≡ book_bytes c → b ≡ c
