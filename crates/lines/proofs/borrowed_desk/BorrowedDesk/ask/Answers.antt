use Rattle.std.proofs.Common.{◌≡◌, replicate, take, Ok, Some, IfSome, refl, sym, ap, ◌∙◌, subst, arith}
use Rattle.std.specs.Option.{option_map}
use Rattle.std.specs.Result.{IsOk}
use Rattle.taps.specs.Calls.{answer}
use Rattle.taps.specs.Values.{answer_of, book_of, call_of}
use Rattle.wire.specs.Wire.{call_in}
use Rattle.answers.specs.Answered.{heard}
use Rattle.answers.specs.Laws.{Best}
use Rattle.answers.proofs.Promised.{held_sure}
use Rattle.session.specs.Session.{desk, memory, taps_held}
use Rattle.session.proofs.Called.{desk_reads}
use Rattle.session.proofs.Sent.{best_told, came_desk, came_more, mapped_some, says_answer, taps_told, told_back}
use Rattle.lines.proofs.borrowed_desk.BorrowedDesk.ask.Goals as goal

pub unwrap-requires : goal.unwrap-requires
unwrap-requires c =
    let now = c.args.self.now in
    let b = book_of now.book.now in
    let m = now.limit in
    let reads = desk_reads b m now.left.now now.right.now now.desk in
    let says = c.call-told.ensures.says b m reads (omega arith) (held_sure _ _ _ _ now.desk.held) in
    subst IsOk (sym says.0) refl

pub unwrap-requires-2 : goal.unwrap-requires-2
unwrap-requires-2 c =
    let now = c.args.self.now in
    let b = book_of now.book.now in
    let m = now.limit in
    let reads = desk_reads b m now.left.now now.right.now now.desk in
    let says = c.call-told.ensures.says b m reads (omega arith) (held_sure _ _ _ _ now.desk.held) in
    let is_heard = ap heard (subst (λ r. IfSome r (λ n. call_in (take n c.encode_call.new.out) ≡ Ok c.args.call)) c.unwrap-sent.ensures c.encode_call.ensures.back) in
    let told = told_back b m now.left.now now.right.now now.desk c.args.call (take c.unwrap-sent.result c.encode_call.new.out) (replicate 528 0) c.call-told.new.answer c.call-told.result c.unwrap.result is_heard (omega arith) c.unwrap.ensures says.0 says.1 in
    mapped_some answer_of _ _ (c.decode_answer.ensures ∙ told)

pub invariant_of-self : goal.invariant_of-self
invariant_of-self c =
    let now = c.args.self.now in
    let b = book_of now.book.now in
    let m = now.limit in
    record { desk = (c.call-told.ensures.next b m (desk_reads b m now.left.now now.right.now now.desk) (omega arith) now.desk).1 }

pub returns : goal.returns
returns c =
    let now = c.args.self.now in
    let b = book_of now.book.now in
    let m = now.limit in
    let left = now.left.now in
    let right = now.right.now in
    let reads = desk_reads b m left right now.desk in
    let says = c.call-told.ensures.says b m reads (omega arith) (held_sure _ _ _ _ now.desk.held) in
    let is_heard = ap heard (subst (λ r. IfSome r (λ n. call_in (take n c.encode_call.new.out) ≡ Ok c.args.call)) c.unwrap-sent.ensures c.encode_call.ensures.back) in
    let told = told_back b m left right now.desk c.args.call (take c.unwrap-sent.result c.encode_call.new.out) (replicate 528 0) c.call-told.new.answer c.call-told.result c.unwrap.result is_heard (omega arith) c.unwrap.ensures says.0 says.1 in
    let call = call_of c.args.call in
    let next = c.call-told.ensures.next b m reads (omega arith) now.desk in
    let read : Some (answer_of c.unwrap-2.result) ≡ Some (desk.says (memory b m left right) call) = sym (ap (option_map answer_of) c.unwrap-2.ensures) ∙ c.decode_answer.ensures ∙ told in
    let same : answer_of c.unwrap-2.result ≡ desk.says (memory b m left right) call = cc in
    record {
      same = (refl, refl, refl, refl, ((c.call-told.ensures.opened b m reads (omega arith)).1, (c.call-told.ensures.opened b m reads (omega arith)).2));
      step = (next.0 ∙ ap (desk.next (memory b m left right)) is_heard, same);
      taps = taps_told b m left right now.desk _ _ call is_heard (c.call-told.ensures.taps b m reads (omega arith));
      value = same ∙ says_answer b m left right now.desk call;
      answers = λ cs came.
          let found = came_desk b m cs left right came in (
            same ∙ says_answer b m left right now.desk call ∙ ap (λ ts. answer b m ts call) found.1,
            came_more b m cs left right _ _ call came (next.0 ∙ ap (desk.next (memory b m left right)) is_heard),
          );
      best = subst (Best b (taps_held b m left) call) (sym same) (best_told b m left right now.desk call);
    }
