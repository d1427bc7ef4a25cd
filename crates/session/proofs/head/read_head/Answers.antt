use Rattle.std.proofs.Common.{◌≡◌, ℕ, nat_le, Some, None, Option, ap, ◌∙◌}
use Rattle.std.specs.Option.{IfSome, is_some, option_map}
use Rattle.taps.specs.Readings.{pick}
use Rattle.taps.specs.Values.{book_of}
use Rattle.taps.specs.declared.book.Book.{Book}
use Rattle.session.specs.declared.setup.Setup.{Setup}
use Rattle.session.specs.Values.{setup_of}
use Rattle.session.proofs.Opening.{too_few, too_large, with_book}
use Rattle.session.proofs.head.read_head.Goals as goal

-- a setup is made where the limit is small enough
made : (r : Option Setup) (book : Book) (most : ℕ) → is_some r ≡ nat_le most 256 → IfSome r (λ s. (s.book ≡ book) × (s.limit ≡ most)) →
    option_map setup_of r ≡ pick (nat_le most 256) (Some (record { book = book_of book; limit = most })) None
made None book most test same = ap (λ t. pick t (Some (record { book = book_of book; limit = most })) None) test
made (Some s) book most test same = (λ j. Some (record { book = book_of (same.0 j); limit = same.1 j })) ∙ ap (λ t. pick t (Some (record { book = book_of book; limit = most })) None) test

pub returns-in_err-head : goal.returns-in_err-head
returns-in_err-head c = ap (option_map setup_of) c.from_residual.ensures ∙ too_few c.args.words.now c.in_err-head.ensures.cases

pub returns-in_err-book : goal.returns-in_err-book
returns-in_err-book c =
    let cut = c.in_ok-head.ensures.cases in
    ap (option_map setup_of) c.from_residual-in_err-book.ensures ∙ too_large c.args.words.now c.in_ok-head.head.now c.encode_all.new.out cut.0 cut.1 c.encode_all.ensures c.encode_all.auto.out c.in_err-book.ensures.cases

pub returns-in_err-ok : goal.returns-in_err-ok
returns-in_err-ok c =
    let cut = c.in_ok-head.ensures.cases in
    let part = c.in_ok-book.ensures.cases in
    let read = ap (option_map book_of) c.in_err-ok.ensures.value ∙ c.decode_book.ensures.value in
    ap (option_map setup_of) c.from_residual-in_err-ok.ensures ∙ with_book c.args.words.now c.in_ok-head.head.now c.encode_all.new.out cut.0 cut.1 c.encode_all.ensures c.encode_all.auto.out c.in_ok-book.book.now None part.0 part.1 read

pub returns : goal.returns
returns c =
    let cut = c.in_ok-head.ensures.cases in
    let part = c.in_ok-book.ensures.cases in
    let read = ap (option_map book_of) c.in_ok-ok.ensures.value ∙ c.decode_book.ensures.value in
    made c.new.result c.in_ok-ok.field-0 _ c.new.ensures.test c.new.ensures.value
    ∙ with_book c.args.words.now c.in_ok-head.head.now c.encode_all.new.out cut.0 cut.1 c.encode_all.ensures c.encode_all.auto.out c.in_ok-book.book.now (Some (book_of c.in_ok-ok.field-0)) part.0 part.1 read
