use Rattle.std.proofs.Common.{rules, ◌≡◌, ◌/◌, length, replicate, map, Some, arith, sym, ap, ◌∙◌}
use Rattle.std.proofs.lemmas.Bool.Decides.{nat_tests}
use Rattle.std.proofs.lemmas.List.{map-id}
use Rattle.std.specs.Option.{option_map}
use Rattle.std.specs.Simd.{first_chunks}
use Rattle.taps.specs.Items.{items}
use Rattle.taps.specs.Values.{book_of}
use Rattle.taps.proofs.Good.{book_is_good}
use Rattle.octets.specs.Bytes.{written}
use Rattle.octets.proofs.Found.{found_is}
use Rattle.books.specs.Books.{book_bytes}
use Rattle.books.proofs.Written.{size_book}
use Rattle.session.proofs.Opening.{words_cut, head_written}
use Rattle.session.proofs.head.write_head.Goals as goal

pub unwrap-size-requires : goal.unwrap-size-requires
unwrap-size-requires c = grind (arith, nat_tests, size_book (book_of c.args.setup.now.book) (book_is_good c.args.setup.now.book))

pub returns : goal.returns
returns c =
    let b = book_of c.args.setup.now.book in
    let bytes : c.encode_book.new.out ≡ written (book_bytes b) (replicate 296 0) = search rules in
    let size = found_is _ c.unwrap-size.result (length (book_bytes b)) (sym c.unwrap-size.ensures ∙ c.encode_book.ensures.value) in
    let long : length c.encode_book.new.out ≡ 296 = search rules in
    let cut : c.as_chunks.result.0.now ≡ first_chunks 8 37 c.encode_book.new.out = c.as_chunks.ensures.front ∙ ap (λ n. first_chunks 8 (n / 8) c.encode_book.new.out) long in
    let made = ap Some (sym (map-id (items c.unwrap-book.result))) ∙ ap (option_map (λ l. map (λ x. x) (items l))) (sym c.unwrap-book.ensures) ∙ c.decode_all.ensures in
    let words = c.copy_from_slice.ensures.after ∙ c.as_slice.ensures ∙ words_cut 37 c.encode_book.new.out (items c.unwrap-book.result) c.as_chunks.result.0.now cut made in
    head_written b c.args.setup.now.limit c.unwrap-size.result c.args.words.now c.encode_book.new.out c.copy_from_slice.new.self size bytes words c.requires
