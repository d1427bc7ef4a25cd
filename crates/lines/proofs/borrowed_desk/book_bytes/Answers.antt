use Rattle.std.proofs.Common.{replicate, sym, ◌∙◌, arith}
use Rattle.std.proofs.lemmas.Bool.Decides.{nat_tests}
use Rattle.taps.specs.Values.{book_of}
use Rattle.taps.proofs.Good.{book_is_good}
use Rattle.books.proofs.Returns.{book_read}
use Rattle.books.proofs.Written.{size_book}
use Rattle.lines.proofs.borrowed_desk.book_bytes.Goals as goal

pub unwrap-size-requires : goal.unwrap-size-requires
unwrap-size-requires c = grind (arith, nat_tests, size_book (book_of c.args.book.now) (book_is_good c.args.book.now))

pub returns : goal.returns
returns c =
    let b = book_of c.args.book.now in
    let size = sym c.unwrap-size.ensures ∙ c.encode_book.ensures.value in
    record {
      few = grind (arith, nat_tests, size_book b (book_is_good c.args.book.now));
      read = book_read b (replicate 294 0) c.encode_book.new.out c.unwrap-size.result (book_is_good c.args.book.now) size c.encode_book.ensures.after;
    }
