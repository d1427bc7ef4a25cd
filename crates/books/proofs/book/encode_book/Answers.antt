use Rattle.std.proofs.Common.{◌≡◌, ◌+◌, ◌*◌, ◌++◌, length, ap, ◌∙◌, arith, rules}
use Rattle.std.specs.List.{flat_map}
use Rattle.std.proofs.lemmas.List.{length-map, map-id}
use Rattle.taps.specs.Values.{kinds_of, tempi_of, book_of}
use Rattle.octets.specs.Bytes.{two, four}
use Rattle.octets.proofs.Front.{written_front}
use Rattle.books.specs.Books.{kind_bytes, book_bytes}
use Rattle.books.proofs.Written.{length_book, book_written}
use Rattle.books.proofs.book.encode_book.Goals as goal

pub returns-in_err-out : goal.returns-in_err-out
returns-in_err-out c = grind (arith, length-map, length_book (book_of c.args.book.now))

pub returns-clause-value : goal.returns-clause-value
returns-clause-value c = grind (arith, length-map, length_book (book_of c.args.book.now))

pub returns-clause-after : goal.returns-clause-after
returns-clause-after c =
    let many : length (kinds_of c.args.book.now.kinds) ≡ length c.as_slice-kinds.result.now = grind (arith, length-map) in
    let few : length (tempi_of c.args.book.now.tempi) ≡ length c.as_slice-tempi.result.now = grind arith in
    let kinds : c.encode_all.new.out ≡ flat_map kind_bytes (kinds_of c.args.book.now.kinds) = grind arith in
    let tempi : c.encode_all-2.new.out ≡ flat_map two (tempi_of c.args.book.now.tempi) = grind (arith, map-id) in
    let change : c.copy_from_slice.new.self ≡ four c.args.book.now.change = search rules in
    let size : length (book_bytes (book_of c.args.book.now)) ≡ 1 + (1 + 5 * length c.as_slice-kinds.result.now) + 2 * length c.as_slice-tempi.result.now + 4 = grind (arith, length-map, length_book (book_of c.args.book.now)) in
    let front : length c.in_ok-out.front.now ≡ 1 + (1 + 5 * length c.as_slice-kinds.result.now) + 2 * length c.as_slice-tempi.result.now + 4 = grind arith in
    let whole = book_written c.in_ok-out.front.now (book_of c.args.book.now) _ _ _ _ _ many few kinds tempi change (omega arith) in
    ap (λ l. l ++ c.in_ok-out.field-0-1.now) whole
    ∙ written_front c.args.out.now (book_bytes (book_of c.args.book.now)) c.in_ok-out.front.now c.in_ok-out.field-0-1.now _ size (grind arith) (grind arith) (grind arith)
