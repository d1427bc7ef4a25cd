use Rattle.std.proofs.Common.{◌≡◌, ℕ, ◌<◌, ◌≤◌, ◌++◌, length, take, drop, Ok, Err, Some, Result, refl, sym, ap, ◌∙◌, subst, arith}
use Rattle.std.specs.Option.{ok_or}
use Rattle.std.proofs.lemmas.Option.{none-some}
use Rattle.taps.specs.Calls.{answer}
use Rattle.taps.specs.Values.{book_of}
use Rattle.std.proofs.lemmas.Bool.{le-leb}
use Rattle.taps.proofs.Picks.{picked}
use Rattle.octets.specs.Bytes.{written}
use Rattle.wire.specs.Wire.{answer_bytes, call_in}
use Rattle.onsets.specs.Onsets.{taps_in}
use Rattle.answers.specs.Answered.{Answerable, Held, heard}
use Rattle.answers.specs.Laws.{BestIn}
use Rattle.answers.proofs.Promised.{held_sure}
use Rattle.session.specs.Layout.{Opened, desk_in, half, kept_words, own, taps_words}
use Rattle.session.specs.Session.{answer_room, unanswered, left_after, right_after, said}
use Rattle.session.specs.declared.Unanswered.{Unanswered}
use Rattle.session.specs.declared.Unanswered.TheVariants.{AnswerTooSmall, NoDesk}
use Rattle.session.specs.Values.{setup_of}
use Rattle.session.proofs.Called.{Front, answered, let_be, room_lacks, too_small, all_same, desk_found, desk_reads, found_fits, head_same, kept_still, next_own, of_desk, rest_same, says_own, told_as, untold_as, words_taken}
use Rattle.session.proofs.Sent.{came_desk, came_more, says_answer}
use Rattle.session.proofs.call.Goals as goal

-- what is asked of the parts
pub split_at_mut-left-requires : goal.split_at_mut-left-requires
split_at_mut-left-requires c = (found_fits c.args.left.now c.args.right.now (setup_of c.in-Some.setup) c.half-half.result c.in-Some.ensures c.half-half.ensures).0

pub split_at_mut-right-requires : goal.split_at_mut-right-requires
split_at_mut-right-requires c = (found_fits c.args.left.now c.args.right.now (setup_of c.in-Some.setup) c.half-half.result c.in-Some.ensures c.half-half.ensures).1

pub answer_desk-requires-clause-left : goal.answer_desk-requires-clause-left
answer_desk-requires-clause-left c = c.split_at_mut-left.ensures.front_len ∙ c.half-half.ensures

pub answer_desk-requires-clause-right : goal.answer_desk-requires-clause-right
answer_desk-requires-clause-right c = c.split_at_mut-right.ensures.front_len ∙ c.half-half.ensures

-- what is read of the memory, and the words of each slice that are the desk's
reads : (c : goal.After-ok_or) → desk_in c.args.left.now c.args.right.now ≡ Some (setup_of c.in-Some.setup)
reads c = sym c.in-Some.ensures

entered_left : (c : goal.After-ok_or) → c.split_at_mut-left.result.0.now ≡ own (book_of c.in-Some.setup.book) c.in-Some.setup.limit c.args.left.now
entered_left c = c.split_at_mut-left.ensures.front ∙ ap (λ n. take n c.args.left.now) c.half-half.ensures

entered_right : (c : goal.After-ok_or) → c.split_at_mut-right.result.0.now ≡ own (book_of c.in-Some.setup.book) c.in-Some.setup.limit c.args.right.now
entered_right c = c.split_at_mut-right.ensures.front ∙ ap (λ n. take n c.args.right.now) c.half-half.ensures

-- and the slices after the call
on_left : (c : goal.After-ok_or) → Front (half (book_of c.in-Some.setup.book) c.in-Some.setup.limit) c.args.left.now (c.answer_desk.new.left ++ c.split_at_mut-left.result.1.now) c.answer_desk.new.left
on_left c =
    let size : c.half-half.result ≡ half (book_of c.in-Some.setup.book) c.in-Some.setup.limit = c.half-half.ensures in
    record { size = c.answer_desk.auto.left ∙ c.split_at_mut-left.ensures.front_len ∙ size; is = ap (λ ws. c.answer_desk.new.left ++ ws) (c.split_at_mut-left.ensures.back ∙ ap (λ n. drop n c.args.left.now) size) }

on_right : (c : goal.After-ok_or) → Front (half (book_of c.in-Some.setup.book) c.in-Some.setup.limit) c.args.right.now (c.answer_desk.new.right ++ c.split_at_mut-right.result.1.now) c.answer_desk.new.right
on_right c =
    let size : c.half-half.result ≡ half (book_of c.in-Some.setup.book) c.in-Some.setup.limit = c.half-half.ensures in
    record { size = c.answer_desk.auto.right ∙ c.split_at_mut-right.ensures.front_len ∙ size; is = ap (λ ws. c.answer_desk.new.right ++ ws) (c.split_at_mut-right.ensures.back ∙ ap (λ n. drop n c.args.right.now) size) }

pub returns-clause-bound : goal.returns-clause-bound
returns-clause-bound c = told_as c.answer_desk.result NoDesk _ _ _ c.ok_or.ensures.value (λ _ fits. fits) c.answer_desk.ensures.bound

pub returns-clause-untold : goal.returns-clause-untold
returns-clause-untold c = untold_as c.answer_desk.result NoDesk _ _ _ c.ok_or.ensures.value (λ same. (all_same (on_left c) (same.0 ∙ entered_left c), same.1)) c.answer_desk.ensures.untold

pub returns-clause-opened : goal.returns-clause-opened
returns-clause-opened c =
    let b = book_of c.in-Some.setup.book in
    let most = c.in-Some.setup.limit in
    of_desk c.args.left.now c.args.right.now _ (setup_of c.in-Some.setup) (reads c) _ (head_same b most _ _ _ _ (on_left c) (entered_left c) c.answer_desk.ensures.head, rest_same (on_left c), rest_same (on_right c))

pub returns-clause-taps : goal.returns-clause-taps
returns-clause-taps c =
    let b = book_of c.in-Some.setup.book in
    let most = c.in-Some.setup.limit in
    of_desk c.args.left.now c.args.right.now _ (setup_of c.in-Some.setup) (reads c) _ (words_taken b most _ _ _ _ (on_left c) (entered_left c) _ c.answer_desk.ensures.taps)

pub returns-clause-still : goal.returns-clause-still
returns-clause-still c =
    let b = book_of c.in-Some.setup.book in
    let most = c.in-Some.setup.limit in
    of_desk c.args.left.now c.args.right.now _ (setup_of c.in-Some.setup) (reads c) _ (kept_still b most _ _ _ _ (on_left c) (entered_left c) _ c.answer_desk.ensures.still)

pub returns-clause-unread : goal.returns-clause-unread
returns-clause-unread c = λ none. all_same (on_right c) (c.answer_desk.ensures.unread none ∙ entered_right c)

pub returns-clause-says : goal.returns-clause-says
returns-clause-says c =
    let left = c.args.left.now in
    let right = c.args.right.now in
    let h = heard (call_in c.args.request.now) in
    let b = book_of c.in-Some.setup.book in
    let most = c.in-Some.setup.limit in
    let found = desk_found left right (setup_of c.in-Some.setup) (reads c) in
    let bytes_are = ap (λ ws. answer_bytes (said b most ws h)) (entered_left c) ∙ ap answer_bytes (sym (says_own b most left right found.0 found.1 found.2 h)) in
    of_desk left right _ (setup_of c.in-Some.setup) (reads c) _ (
    λ sure.
    let told = c.answer_desk.ensures.says (subst (λ ws. Answerable b (taps_words most ws) (kept_words most ws) h) (sym (entered_left c)) sure) in
    (c.ok_or.ensures.value ∙ ap (λ r. ok_or r NoDesk) told.0 ∙ ap (λ bs. Ok (length bs)) bytes_are, told.1 ∙ ap (λ bs. written bs c.args.answer.now) bytes_are)
    )

pub returns-clause-next : goal.returns-clause-next
returns-clause-next c =
    let left = c.args.left.now in
    let right = c.args.right.now in
    let h = heard (call_in c.args.request.now) in
    let b = book_of c.in-Some.setup.book in
    let most = c.in-Some.setup.limit in
    let found = desk_found left right (setup_of c.in-Some.setup) (reads c) in
    of_desk left right _ (setup_of c.in-Some.setup) (reads c) _ (
    λ stands.
    let next = c.answer_desk.ensures.next (subst (λ ws. Held b (taps_words most ws) (kept_words most ws)) (sym (entered_left c)) stands.held) in
    next_own b most left right found.0 found.1 found.2 _ _ _ _ (on_left c) (on_right c) h stands
    (next.0 ∙ ap (λ ws. left_after b most ws h) (entered_left c)) (next.1 ∙ (λ j. right_after b most (entered_left c j) (entered_right c j) h))
    )

pub returns-clause-best : goal.returns-clause-best
returns-clause-best c =
    let left = c.args.left.now in
    let right = c.args.right.now in
    let h = heard (call_in c.args.request.now) in
    let b = book_of c.in-Some.setup.book in
    let most = c.in-Some.setup.limit in
    told_as c.answer_desk.result NoDesk _ _ _ c.ok_or.ensures.value (
    λ n told. of_desk left right _ (setup_of c.in-Some.setup) (reads c) _ (
    λ stands. subst (λ ws. BestIn b (taps_in (taps_words most ws)) h (take n c.answer_desk.new.out)) (entered_left c)
    (told (subst (λ ws. Held b (taps_words most ws) (kept_words most ws)) (sym (entered_left c)) stands.held))
    )
    ) c.answer_desk.ensures.best

pub returns-clause-answers : goal.returns-clause-answers
returns-clause-answers c =
    λ b most cs came room.
    let left = c.args.left.now in
    let right = c.args.right.now in
    let h = heard (call_in c.args.request.now) in
    let found = came_desk b most cs left right came in
    let reads = desk_reads b most left right found.0 in
    let bytes_are = ap answer_bytes (says_answer b most left right found.0 h ∙ ap (λ ts. answer b most ts h) found.1) in
    let says = returns-clause-says c b most reads room (held_sure _ _ _ h found.0.held) in
    let next = returns-clause-next c b most reads room found.0 in (
      says.0 ∙ ap (λ bs. Ok (length bs)) bytes_are,
      says.1 ∙ ap (λ bs. written bs c.args.answer.now) bytes_are,
      came_more b most cs left right _ _ h came next.0,
    )

pub returns-in_default : goal.returns-in_default
returns-in_default c =
    let told : Result ℕ Unanswered = Err NoDesk in
    let none : (s : Opened) → desk_in c.args.left.now c.args.right.now ≡ Some s → ⊥ = λ s is. none-some s (c.in_default.ensures ∙ is) in
    record {
      answers = λ b most cs came room. absurd (none _ (desk_reads b most c.args.left.now c.args.right.now (came_desk b most cs _ _ came).0));
      unanswered = let_be (desk_in c.args.left.now c.args.right.now) (length c.args.answer.now) NoDesk (λ e. (told ≡ Err e) × (c.args.left.now ≡ c.args.left.now) × (c.args.right.now ≡ c.args.right.now) × (c.args.answer.now ≡ c.args.answer.now)) (ap (λ o. unanswered o (length c.args.answer.now)) (sym c.in_default.ensures)) (refl, refl, refl, refl);
      bound = tt;
      untold = (refl, refl);
      opened = λ b most is room. absurd (none _ is);
      taps = λ b most is room. absurd (none _ is);
      still = λ b most is room. absurd (none _ is);
      unread = λ un. refl;
      says = λ b most is room. absurd (none _ is);
      next = λ b most is room. absurd (none _ is);
      best = tt;
    }

pub returns-then-answer-answer_size : goal.returns-then-answer-answer_size
returns-then-answer-answer_size c =
    let found : desk_in c.args.left.now c.args.right.now ≡ Some (setup_of c.in-Some.setup) = sym c.in-Some.ensures in
    let told : Result ℕ Unanswered = Err AnswerTooSmall in
    let small : length c.args.answer.now < answer_room c.in-Some.setup.limit = omega (arith, c.in-Some.setup.few, c.answer_size.ensures, c.if-answer-answer_size.true) in
    let none = too_small c.args.left.now c.args.right.now (setup_of c.in-Some.setup) (length c.args.answer.now) found small in
    record {
      answers = λ b most cs came room. absurd (none b most (desk_reads b most c.args.left.now c.args.right.now (came_desk b most cs _ _ came).0) room);
      unanswered = let_be (desk_in c.args.left.now c.args.right.now) (length c.args.answer.now) AnswerTooSmall (λ e. (told ≡ Err e) × (c.args.left.now ≡ c.args.left.now) × (c.args.right.now ≡ c.args.right.now) × (c.args.answer.now ≡ c.args.answer.now)) (ap (λ o. unanswered o (length c.args.answer.now)) found ∙ room_lacks c.in-Some.setup.limit (length c.args.answer.now) small) (refl, refl, refl, refl);
      bound = tt;
      untold = (refl, refl);
      opened = λ b most is room. absurd (none b most is room);
      taps = λ b most is room. absurd (none b most is room);
      still = λ b most is room. absurd (none b most is room);
      unread = λ un. refl;
      says = λ b most is room. absurd (none b most is room);
      next = λ b most is room. absurd (none b most is room);
      best = tt;
    }

pub returns-clause-unanswered : goal.returns-clause-unanswered
returns-clause-unanswered c =
    let found : desk_in c.args.left.now c.args.right.now ≡ Some (setup_of c.in-Some.setup) = sym c.in-Some.ensures in
    let fits : answer_room c.in-Some.setup.limit ≤ length c.args.answer.now = omega (arith, c.in-Some.setup.few, c.answer_size.ensures, c.if-answer-answer_size.false) in
    answered (desk_in c.args.left.now c.args.right.now) (length c.args.answer.now) _ (ap (λ o. unanswered o (length c.args.answer.now)) found ∙ picked _ _ _ (le-leb (answer_room c.in-Some.setup.limit) (length c.args.answer.now) fits))
