use Rattle.std.proofs.Common.{◌≡◌, ◌+◌, ◌≤◌, [], ◌++◌, length, append-nil, IfNone, sym, ap, ◌∙◌, subst, arith}
use Rattle.std.specs.String.{string_bytes}
use Rattle.taps.specs.Values.{book_of}
use Rattle.tokens.specs.Tokens.{lines_in}
use Rattle.session.specs.Session.{taps_held}
use Rattle.session.proofs.Sent.{came_desk}
use Rattle.lines.specs.Lines.{calls_in}
use Rattle.lines.specs.Values.{reply_of}
use Rattle.lines.proofs.Borrowed.{answers_before, came_after, same_after, taps_before}
use Rattle.lines.proofs.Told.{Done, done_all, done_first, done_more, if_err, length_calls, told_none, told_of, told_step}
use Rattle.lines.proofs.borrowed_desk.BorrowedDesk.answer_lines.Goals as goal

pub returns-in_err-writeln-clause-untold : goal.returns-in_err-writeln-clause-untold
returns-in_err-writeln-clause-untold c =
    let first = c.args.self.now in
    let b = book_of first.book.now in
    let before = c.loop-line.self in
    let now = c.answer_line-reply.new.self in
    let kept = c.loop-line.invariant in
    let all = calls_in 0 (lines_in c.args.text.now) in
    let n = c.loop-line.number in
    let behind = c.in-Some.behind.now in
    let answers = answers_before before now c.answer_line-reply.ensures.same _ _ c.answer_line-reply.ensures.answers in
    let done = done_more b first.limit first.left.now first.right.now all (book_of before.book.now) before.limit (ap book_of kept.same.0) kept.same.1 n c.loop-line.rest.now c.in-Some.line.now behind before.left.now before.right.now now.left.now now.right.now (reply_of c.answer_line-reply.result) c.in-Some.ensures.lines answers kept.done in
    let firsts = done_first b first.limit first.left.now first.right.now all (n + 1) behind now.left.now now.right.now done in
    let few : n + 1 ≤ length (lines_in c.args.text.now) = omega (arith, firsts.0, length_calls 0 (lines_in c.args.text.now)) in
    if_err c.from_residual.result _ (λ cs came. (n + 1, omega arith, few, came_after first now (same_after first before now kept.same c.answer_line-reply.ensures.same) _ (firsts.1 cs came)))

pub loop-line-preserved : goal.loop-line-preserved
loop-line-preserved c =
    let first = c.args.self.now in
    let b = book_of first.book.now in
    let before = c.loop-line.self in
    let now = c.answer_line-reply.new.self in
    let kept = c.loop-line.invariant in
    let all = calls_in 0 (lines_in c.args.text.now) in
    let n = c.loop-line.number in
    let rest = c.loop-line.rest.now in
    let line = c.in-Some.line.now in
    let behind = c.in-Some.behind.now in
    let reply = reply_of c.answer_line-reply.result in
    let same : book_of before.book.now ≡ b = ap book_of kept.same.0 in
    record {
      same = same_after first before now kept.same c.answer_line-reply.ensures.same;
      few = omega (arith, kept.few, c.in-Some.ensures.less);
      told = told_step b (book_of before.book.now) first.limit before.limit same kept.same.1 before.left.now now.left.now n rest line behind c.in-Some.ensures.lines (string_bytes c.loop-line.told) (string_bytes c.writeln.new.self) reply c.in_ok-writeln.ensures.bytes c.answer_line-reply.ensures.value (taps_before before now c.answer_line-reply.ensures.same _ c.answer_line-reply.ensures.taps)
          ∙ kept.told;
      done = done_more b first.limit first.left.now first.right.now all (book_of before.book.now) before.limit same kept.same.1 n rest line behind before.left.now before.right.now now.left.now now.right.now reply c.in-Some.ensures.lines (answers_before before now c.answer_line-reply.ensures.same _ _ c.answer_line-reply.ensures.answers) kept.done;
    }

pub returns-clause-value : goal.returns-clause-value
returns-clause-value c =
    let kept = c.loop-line.invariant in
    let first = c.args.self.now in
    let b = book_of first.book.now in
    let none : c.loop-line.rest.now ≡ [] = subst (λ r. IfNone r (c.loop-line.rest.now ≡ [])) c.in_default.is c.split_line.ensures.none in
    let ts = taps_held b first.limit c.loop-line.self.left.now in
    sym (append-nil (string_bytes c.loop-line.told)) ∙ sym (ap (λ xs. string_bytes c.loop-line.told ++ told_of b first.limit ts c.loop-line.number xs) none ∙ ap (λ xs. string_bytes c.loop-line.told ++ xs) (told_none b first.limit ts c.loop-line.number)) ∙ kept.told

pub returns-clause-answers : goal.returns-clause-answers
returns-clause-answers c =
    let kept = c.loop-line.invariant in
    let first = c.args.self.now in
    let b = book_of first.book.now in
    let now = c.loop-line.self in
    let all = calls_in 0 (lines_in c.args.text.now) in
    let none : c.loop-line.rest.now ≡ [] = subst (λ r. IfNone r (c.loop-line.rest.now ≡ [])) c.in_default.is c.split_line.ensures.none in
    let ts = taps_held b first.limit now.left.now in
    let value : string_bytes c.loop-line.told ≡ told_of b first.limit (taps_held b first.limit first.left.now) 0 c.args.text.now =
    sym (append-nil (string_bytes c.loop-line.told)) ∙ sym (ap (λ xs. string_bytes c.loop-line.told ++ told_of b first.limit ts c.loop-line.number xs) none ∙ ap (λ xs. string_bytes c.loop-line.told ++ xs) (told_none b first.limit ts c.loop-line.number)) ∙ kept.told in
    λ cs came. (
      value ∙ ap (λ us. told_of b first.limit us 0 c.args.text.now) (came_desk b first.limit cs first.left.now first.right.now came).1,
      came_after first now kept.same _ (done_all b first.limit first.left.now first.right.now all c.loop-line.number now.left.now now.right.now (subst (λ xs. Done b first.limit first.left.now first.right.now all c.loop-line.number xs now.left.now now.right.now) none kept.done) cs came),
    )
