use Rattle.std.proofs.Common.{◌≤◌, replicate, take, refl, sym, ◌∙◌, subst, arith}
use Rattle.std.specs.Result.{IsOk}
use Rattle.std.proofs.lemmas.Bool.Decides.{nat_tests}
use Rattle.taps.specs.Values.{book_of}
use Rattle.taps.proofs.Good.{book_is_good}
use Rattle.books.proofs.Returns.{book_read}
use Rattle.books.proofs.Written.{size_book}
use Rattle.session.specs.Laws.{Spares}
use Rattle.session.specs.Layout.{half}
use Rattle.session.proofs.Parts.{spares}
use Rattle.session.proofs.Sent.{if_ok, opens}
use Rattle.lines.proofs.open_desk.OpenDesk.new.Goals as goal

pub unwrap-size-requires : goal.unwrap-size-requires
unwrap-size-requires c = grind (arith, nat_tests, size_book (book_of c.args.book) (book_is_good c.args.book))

pub unwrap-requires : goal.unwrap-requires
unfolding Spares
unwrap-requires c =
    let b = book_of c.args.book in
    let good = book_is_good c.args.book in
    let size = sym c.unwrap-size.ensures ∙ c.encode_book.ensures.value in
    let read = book_read b (replicate 294 0) c.encode_book.new.out c.unwrap-size.result good size c.encode_book.ensures.after in
    let fits : half b c.args.limit ≤ 33256 = (spares b c.args.limit good (omega arith)).1 in
    subst IsOk (sym (c.open.ensures.value ∙ opens (take c.unwrap-size.result c.encode_book.new.out) b c.args.limit 33256 33256 read (omega arith) fits fits)) refl

pub invariant_of-result : goal.invariant_of-result
invariant_of-result c =
    let b = book_of c.args.book in
    let good = book_is_good c.args.book in
    let size = sym c.unwrap-size.ensures ∙ c.encode_book.ensures.value in
    let read = book_read b (replicate 294 0) c.encode_book.new.out c.unwrap-size.result good size c.encode_book.ensures.after in
    record { desk = ((if_ok c.open.result _ _ c.unwrap.ensures c.open.ensures.opened) b read).3 }

pub returns-clause-opened : goal.returns-clause-opened
returns-clause-opened c =
    let b = book_of c.args.book in
    let good = book_is_good c.args.book in
    let size = sym c.unwrap-size.ensures ∙ c.encode_book.ensures.value in
    let read = book_read b (replicate 294 0) c.encode_book.new.out c.unwrap-size.result good size c.encode_book.ensures.after in
    ((if_ok c.open.result _ _ c.unwrap.ensures c.open.ensures.opened) b read).2
