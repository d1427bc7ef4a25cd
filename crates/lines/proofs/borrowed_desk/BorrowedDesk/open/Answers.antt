use Rattle.std.proofs.Common.{drop, ap, ◌∙◌}
use Rattle.taps.specs.Values.{book_of}
use Rattle.taps.proofs.Good.{book_is_good}
use Rattle.session.specs.Layout.{half, left_opened, right_opened}
use Rattle.session.proofs.Opened.{size_left, size_right}
use Rattle.lines.proofs.Borrowed.{behind_written}
use Rattle.lines.proofs.borrowed_desk.BorrowedDesk.open.Goals as goal

pub invariant_of-result : goal.invariant_of-result
invariant_of-result c = record { desk = (c.in_ok-open.ensures.opened (book_of c.args.book.now) c.book_bytes-size.ensures.read).3 }

pub returns-clause-rest : goal.returns-clause-rest
returns-clause-rest c =
    let b = book_of c.args.book.now in
    let good = book_is_good c.args.book.now in
    let opened = c.in_ok-open.ensures.opened b c.book_bytes-size.ensures.read in
    let few = opened.2.1 in (
      ap (drop (half b c.args.limit)) opened.0 ∙ behind_written (left_opened b c.args.limit) c.args.left.now _ (size_left b c.args.limit good few),
      ap (drop (half b c.args.limit)) opened.1 ∙ behind_written (right_opened b c.args.limit) c.args.right.now _ (size_right b c.args.limit good few),
    )
