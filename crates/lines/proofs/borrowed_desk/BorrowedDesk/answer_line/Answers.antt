use Rattle.std.proofs.Common.{◌≡◌, ◌<◌, [], ◌∷◌, ◌++◌, sym, ap, ◌∙◌, subst}
use Rattle.taps.specs.Calls.{after, answer, ran, turned}
use Rattle.taps.specs.Values.{answer_of, book_of}
use Rattle.session.specs.Session.{taps_held}
use Rattle.session.proofs.Sent.{came_refused}
use Rattle.lines.specs.Borrowed.{IsAfter}
use Rattle.lines.specs.Lines.{call_at}
use Rattle.lines.proofs.Replies.{after_unheard, answer_unheard, heard, turned_unheard, unheard}
use Rattle.lines.proofs.borrowed_desk.BorrowedDesk.answer_line.Goals as goal

pub returns-in_default-clause-taps : goal.returns-in_default-clause-taps
returns-in_default-clause-taps c =
    let now = c.args.self.now in
    let ts = taps_held (book_of now.book.now) now.limit now.left.now in
    let is = unheard c.args.number c.args.line.now c.parse_call.result c.parse_call.ensures c.in_default.is in
    sym (ap (after now.limit ts) is ∙ after_unheard now.limit ts c.args.number)

pub returns-in_default-clause-value : goal.returns-in_default-clause-value
returns-in_default-clause-value c =
    let now = c.args.self.now in
    let b = book_of now.book.now in
    let ts = taps_held b now.limit now.left.now in
    let is = unheard c.args.number c.args.line.now c.parse_call.result c.parse_call.ensures c.in_default.is in
    sym (ap (answer b now.limit ts) is ∙ answer_unheard b now.limit ts c.args.number)

pub returns-in_default-clause-answers : goal.returns-in_default-clause-answers
returns-in_default-clause-answers c =
    let now = c.args.self.now in
    let b = book_of now.book.now in
    let is = unheard c.args.number c.args.line.now c.parse_call.result c.parse_call.ensures c.in_default.is in
    λ cs came.
    let ts = ran now.limit [] cs in
    let refused : 0 < turned now.limit ts (call_at c.args.number c.args.line.now) = subst (λ k. 0 < turned now.limit ts k) (sym is) (turned_unheard now.limit ts c.args.number) in
    (sym (ap (answer b now.limit ts) is ∙ answer_unheard b now.limit ts c.args.number), came_refused b now.limit cs now.left.now now.right.now _ came refused)

pub returns-clause-answers : goal.returns-clause-answers
returns-clause-answers c =
    let now = c.args.self.now in
    let b = book_of now.book.now in
    let is = heard c.args.number c.args.line.now c.parse_call.result c.in-Some.call c.parse_call.ensures c.in-Some.is in
    λ cs came. subst (λ k. (answer_of c.ask.result ≡ answer b now.limit (ran now.limit [] cs) k) × IsAfter (cs ++ k ∷ []) c.ask.new.self) (sym is) (c.ask.ensures.answers cs came)
