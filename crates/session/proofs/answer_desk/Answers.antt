use Rattle.std.proofs.Common.{rules, ◌≡◌, ◌+◌, ◌++◌, false, length, take, drop, Some, sym, ap, ◌∙◌, subst, arith}
use Rattle.std.specs.Option.{IfSome, is_some}
use Rattle.std.proofs.lemmas.List.{take-append-drop}
use Rattle.std.proofs.lemmas.Bool.{le-leb}
use Rattle.taps.specs.Calls.{answer}
use Rattle.taps.specs.Values.{book_of}
use Rattle.taps.proofs.Picks.{picked}
use Rattle.octets.specs.Bytes.{room, written}
use Rattle.wire.specs.Wire.{answer_bytes, call_in}
use Rattle.onsets.specs.Onsets.{limit_of, taps_in, words_after}
use Rattle.answers.specs.Answered.{Answerable, Held, adds, heard, is_answered, kept_after, kept_then, rows_then, told_of, left_of}
use Rattle.answers.specs.Laws.{BestIn}
use Rattle.answers.proofs.Promised.{held_sure}
use Rattle.session.specs.Layout.{kept_words, taps_words}
use Rattle.session.specs.Session.{said}
use Rattle.session.proofs.Parts.{all_answered, answer_fits_room, head_part, kept_part, limit_is, size_of_head, size_taps_after, taps_part, unanswered_asks}
use Rattle.session.proofs.answer_desk.Goals as goal

pub returns : goal.returns
unfolding told_of left_of
returns c =
    let b = book_of c.args.setup.now.book in
    let most = c.args.setup.now.limit in
    let left = c.args.left.now in
    let right = c.args.right.now in
    let h = heard (call_in c.args.request.now) in
    let told = c.answer_bytes in
    let front : c.split_at_mut-parts.result.0.now ≡ take 39 left = search rules in
    let words : c.split_at_mut-words.result.0.now ≡ taps_words most left = search rules in
    let kept : c.split_at_mut-words.result.1.now ≡ kept_words most left = search rules in
    let limit = limit_is b most left c.requires.left c.args.setup.now.few in
    let always = (λ j. is_answered b (words j) (kept j) right h) ∙ all_answered b most left c.requires.left right h c.args.setup.now.few c.requires.right in
    let words_is : told.new.words ≡ words_after (taps_words most left) h = told.ensures.after ∙ picked _ _ _ always ∙ ap (λ ws. words_after ws h) words in
    let size : length told.new.words ≡ most + 1 = ap length words_is ∙ size_taps_after b most left c.requires.left h in
    let size_front : length c.split_at_mut-parts.result.0.now ≡ 39 = ap length front ∙ size_of_head b most left c.requires.left in
    let bytes_are = (λ j. answer_bytes (answer b (limit_of (words j)) (taps_in (words j)) h)) ∙ ap (λ m. answer_bytes (answer b m (taps_in (taps_words most left)) h)) limit in
    let says : Answerable b (taps_words most left) (kept_words most left) h → (told.result ≡ Some (length (answer_bytes (said b most left h)))) × (told.new.out ≡ written (answer_bytes (said b most left h)) c.args.out.now) = λ sure.
    let is = subst (λ k. Answerable b c.split_at_mut-words.result.0.now k h) (sym kept) (subst (λ w. Answerable b w (kept_words most left) h) (sym words) sure) in
    let fits = le-leb (length (answer_bytes (said b most left h))) (length c.args.out.now) (omega (arith, c.requires.room, answer_fits_room b most left c.requires.left h c.args.setup.now.few)) in (
      told.ensures.value is ∙ picked _ _ _ always ∙ ap (λ bs. room bs c.args.out.now) bytes_are ∙ picked _ _ _ fits,
      told.ensures.left is ∙ picked _ _ _ always ∙ ap (λ bs. written bs c.args.out.now) bytes_are,
    ) in
    let kept_still : adds most (taps_in (taps_words most left)) h ≡ false → told.new.kept ≡ kept_words most left = λ same.
    told.ensures.still ((λ j. adds (limit_of (words j)) (taps_in (words j)) h) ∙ ap (λ m. adds m (taps_in (taps_words most left)) h) limit ∙ same) ∙ kept in
    record {
      bound = told.ensures.bound;
      head = head_part most _ told.new.words told.new.kept size_front size ∙ front;
      taps = taps_part most _ told.new.words told.new.kept size_front size ∙ words_is;
      untold =
          unanswered_asks b most left c.requires.left h told.result _ _ (λ sure. ap is_some (says sure).0)
          (λ is same. ((λ j. front j ++ ((words_is ∙ is.0) j ++ kept_still is.1 j)) ∙ ap (λ ws. take 39 left ++ ws) (take-append-drop (most + 1) (drop 39 left)) ∙ take-append-drop 39 left, same)) told.ensures.untold;
      still = λ same. kept_part most _ told.new.words told.new.kept size_front size ∙ kept_still same;
      unread = told.ensures.unread;
      next = λ held.
          let is = subst (λ k. Held b c.split_at_mut-words.result.0.now k) (sym kept) (subst (λ w. Held b w (kept_words most left)) (sym words) held) in
          let kept_is = told.ensures.kept is ∙ picked _ _ _ always ∙ (λ j. kept_then b (words j) h (kept j)) ∙ ap (λ m. kept_after b m (taps_in (taps_words most left)) h (kept_words most left)) limit in
          let rows_is = told.ensures.rows (held_sure _ _ _ h is) ∙ picked _ _ _ always ∙ ap (λ ws. rows_then b ws h right) words in
          (λ j. front j ++ (words_is j ++ kept_is j), rows_is);
      says = says;
      best =
          subst (λ w. IfSome told.result (λ n. Held b w (kept_words most left) → BestIn b (taps_in w) h (take n told.new.out))) words
          (subst (λ k. IfSome told.result (λ n. Held b c.split_at_mut-words.result.0.now k → BestIn b (taps_in c.split_at_mut-words.result.0.now) h (take n told.new.out))) kept told.ensures.best);
    }
