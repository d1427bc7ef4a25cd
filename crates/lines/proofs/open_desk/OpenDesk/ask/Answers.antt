use Rattle.std.proofs.Common.{[], ◌∷◌, ◌++◌, ap}
use Rattle.taps.specs.Values.{book_of, call_of}
use Rattle.session.specs.Session.{Came}
use Rattle.lines.proofs.Borrowed.{of_same}
use Rattle.lines.proofs.open_desk.OpenDesk.ask.Goals as goal

pub returns-clause-answers : goal.returns-clause-answers
returns-clause-answers c = λ cs came.
    let answered = c.ask.ensures.answers cs came in
    let same = c.ask.ensures.same in
    let words = c.ask.new.self in
    (answered.0, of_same (λ b m. Came b m (cs ++ call_of c.args.call ∷ []) words.left.now words.right.now) _ _ _ _ (ap book_of same.0) same.1 answered.1)
