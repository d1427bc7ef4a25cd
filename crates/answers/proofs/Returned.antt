-- Calls and answers that go as bytes: a call is heard as it was sent, and its answer is read as it was told. Assumes nothing.
use Rattle.std.proofs.Common.{◌≡◌, ℕ, ◌+◌, ◌*◌, ◌^◌, ◌<◌, ◌≤◌, true, List, [], ◌∷◌, length, take, Some, None, Ok, Err, Option, Result, refl, ap, ◌∙◌, arith}
use Rattle.std.specs.Option.{IfSome}
use Rattle.std.proofs.lemmas.Bool.Decides.{nat_tests}
use Rattle.taps.specs.Readings.{Book, Read, in_book, reading}
use Rattle.taps.specs.Calls as calls
use Rattle.taps.specs.Calls.{gaps, turned, place, told, answer}
use Rattle.taps.specs.Promise.{GoodBook}
use Rattle.taps.specs.declared.call.Call.{Call}
use Rattle.taps.specs.declared.call.Call.TheVariants as call
use Rattle.taps.specs.declared.refusal.Refusal.{Refusal}
use Rattle.taps.proofs.Between.{length_gaps, length_reading}
use Rattle.statements.specs.Statements.{Least}
use Rattle.statements.proofs.Plain.{least_capped}
use Rattle.statements.proofs.Whole.{least_stands}
use Rattle.octets.specs.Bytes.{room, written}
use Rattle.octets.proofs.Chunks.{length_joined}
use Rattle.octets.proofs.Front.{read_back}
use Rattle.wire.specs.Wire.{call_in, answer_bytes, answer_in, read_bytes, all_in_place}
use Rattle.wire.specs.Laws.{AnswerFits}
use Rattle.wire.proofs.Returns.{answers_return}
use Rattle.wire.proofs.Told.{ByOne, refused_by_one}
use Rattle.onsets.specs.Laws.{Sound}
use Rattle.onsets.proofs.Sound.{gaps_small}
use Rattle.onsets.specs.Onsets.{limit_of, taps_in}
use Rattle.answers.specs.Answered.{Answerable, Held, heard, told_of, left_of}
use Rattle.answers.specs.Laws.{BestIn}
use Rattle.answers.proofs.Promised.{best, held_sure}

-- what is no call is so at one of the first places
pub placed : (r : Result Call Refusal) → ByOne r → place (heard r) < 2 ^ 32
unfolding place
placed (Ok (call.Tap t)) h = omega arith
placed (Ok call.Back) h = omega arith
placed (Ok call.Cost) h = omega arith
placed (Ok call.Read) h = omega arith
placed (Err e) h = omega (arith, h.1)

pub heard_placed : (bytes : List ℕ) → place (heard (call_in bytes)) < 2 ^ 32
heard_placed bytes = placed (call_in bytes) (refused_by_one bytes)

-- of a good book's readings each kind and each tempo has a place that a byte can tell
reads_in_place : (b : Book) (rs : List Read) → length b.kinds ≤ 32 → length b.tempi ≤ 64 → in_book b rs ≡ true → all_in_place rs ≡ true
unfolding in_book
reads_in_place b [] kinds tempi h = refl
reads_in_place b (r ∷ rs) kinds tempi h = grind (arith, nat_tests, reads_in_place b rs)

-- an answer takes two bytes for each tap, and 16 more, at most
pub answer_short : (b : Book) (most : ℕ) (ts : List ℕ) (h : calls.Call) → length ts ≤ most → length (answer_bytes (answer b most ts h)) ≤ 2 * most + 16
unfolding turned told place
answer_short b most ts (calls.taps t) few = grind (arith, nat_tests)
answer_short b most ts calls.back few = grind (arith, nat_tests)
answer_short b most ts calls.cost few = omega arith
answer_short b most ts calls.read few = omega (arith, length_joined read_bytes 2 (λ _. refl) (reading b 0 (gaps ts)), length_reading b (gaps ts) 0, length_gaps ts)
answer_short b most ts (calls.garbled p) few = omega arith

module _ (b : Book) (most : ℕ) (ts : List ℕ) (good : GoodBook b) (sound : Sound most ts) (few : most ≤ 256) where
  -- an answer fits its bytes
  pub answer_fits : (h : calls.Call) → place h < 2 ^ 32 → AnswerFits (answer b most ts h)
  unfolding turned told place Least
  answer_fits (calls.taps t) at = grind (arith, nat_tests, sound.few)
  answer_fits calls.back at = grind (arith, nat_tests, sound.few)
  answer_fits calls.cost at = grind (arith, nat_tests, least_capped b 0 (gaps ts))
  answer_fits calls.read at =
      let short : length (gaps ts) ≤ 255 = omega (arith, length_gaps ts, sound.few) in
      let is = least_stands.0 b (gaps ts) good (gaps_small ts sound.timely) short in
      (omega (arith, is.0, short), reads_in_place b (reading b 0 (gaps ts)) good.1 good.4 is.1)
  answer_fits (calls.garbled p) at = (refl, at)

  -- the bytes that are told are read as an answer that is right of all readings
  bytes_best : (kept rows : ℕ) (h : calls.Call) (old new : List ℕ) (n : ℕ) → place h < 2 ^ 32 → Some n ≡ told_of b most kept rows ts h old → new ≡ left_of b most kept rows ts h old → BestIn b ts h (take n new)
  unfolding told_of left_of
  bytes_best kept rows h old new n at is left =
      let roomy : Some n ≡ room (answer_bytes (answer b most ts h)) old = grind (arith, nat_tests) in
      let all : new ≡ written (answer_bytes (answer b most ts h)) old = grind (arith, nat_tests) in (
        answer b most ts h,
        ap answer_in (read_back (answer_bytes (answer b most ts h)) old new n roomy all) ∙ answers_return (answer b most ts h) (answer_fits h at),
        best b most ts h good sound few,
      )

-- the same where something is told at all, of words as a desk holds them
pub bytes_best_where_told : (b : Book) (words kept : List ℕ) (rows : ℕ) (h : calls.Call) (old new : List ℕ) (told : Option ℕ) → GoodBook b → limit_of words ≤ 256 → place h < 2 ^ 32 →
    (Answerable b words kept h → told ≡ told_of b (limit_of words) (length kept) rows (taps_in words) h old) → (Answerable b words kept h → new ≡ left_of b (limit_of words) (length kept) rows (taps_in words) h old) →
    IfSome told (λ n. Held b words kept → BestIn b (taps_in words) h (take n new))
bytes_best_where_told b words kept rows h old new None good few at is left = tt
bytes_best_where_told b words kept rows h old new (Some n) good few at is left =
    λ held.
    let sure = held_sure b words kept h held in
    bytes_best b (limit_of words) (taps_in words) good held.sound few (length kept) rows h old new n at (is sure) (left sure)
