-- What is told of the best reading, of taps as a desk holds them, is right of all readings. Assumes nothing.
use Rattle.std.proofs.Common.{ℕ, ◌≤◌, List, length, Some, None, Option, refl, sym, ◌∙◌, subst, arith}
use Rattle.std.specs.Option.{IfSome}
use Rattle.taps.specs.Readings.{Book, least, reading}
use Rattle.taps.specs.Calls as calls
use Rattle.taps.specs.Calls.{gaps, turned, told, answer}
use Rattle.taps.specs.Promise.{GoodBook}
use Rattle.taps.proofs.Between.{length_gaps}
use Rattle.statements.specs.Statements.{Least, First}
use Rattle.statements.proofs.Whole.{least_stands, first_stands}
use Rattle.onsets.specs.Laws.{Sound}
use Rattle.onsets.proofs.Sound.{gaps_small}
use Rattle.taps.specs.Values.{call_of, answer_of}
use Rattle.taps.specs.declared.answer.Answer.{Answer}
use Rattle.taps.specs.declared.call.Call.{Call}
use Rattle.onsets.specs.Onsets.{limit_of, taps_in}
use Rattle.answers.specs.Answered.{Answerable, Answered, Held}
use Rattle.answers.specs.Laws.{Best}

pub best : (b : Book) (most : ℕ) (ts : List ℕ) (c : calls.Call) → GoodBook b → Sound most ts → most ≤ 256 → Best b ts c (answer b most ts c)
unfolding turned told Least First
best b most ts (calls.taps t) good sound few = tt
best b most ts calls.back good sound few = tt
best b most ts calls.cost good sound few =
    let small = gaps_small ts sound.timely in
    let short : length (gaps ts) ≤ 255 = omega (arith, length_gaps ts, sound.few) in
    let told = least_stands.0 b (gaps ts) good small short in
    (least b 0 (gaps ts), refl, (reading b 0 (gaps ts), (told.0, told.1), told.2), λ rs is. least_stands.1 b (gaps ts) rs is.0 is.1)
best b most ts calls.read good sound few =
    let small = gaps_small ts sound.timely in
    let short : length (gaps ts) ≤ 255 = omega (arith, length_gaps ts, sound.few) in
    let told = least_stands.0 b (gaps ts) good small short in (
      reading b 0 (gaps ts),
      refl,
      (told.0, told.1),
      λ qs is. (omega (arith, told.2, least_stands.1 b (gaps ts) qs is.0 is.1), λ same. first_stands b (gaps ts) qs good small short is.0 is.1 (same ∙ told.2)),
    )
best b most ts (calls.garbled p) good sound few = tt

-- of words as a desk holds them every answer is the definitions'
pub held_sure : (b : Book) (words kept : List ℕ) (c : calls.Call) → Held b words kept → Answerable b words kept c
held_sure b words kept (calls.taps t) held = tt
held_sure b words kept calls.back held = tt
held_sure b words kept calls.cost held = held
held_sure b words kept calls.read held = held
held_sure b words kept (calls.garbled p) held = tt

-- so is an answer that is the definitions'
pub best_told : (b : Book) (words kept : List ℕ) (space : ℕ) (c : Call) (told : Option Answer) → GoodBook b → limit_of words ≤ 256 →
    (Answerable b words kept (call_of c) → Answered b (limit_of words) (length kept) space (taps_in words) c told) → IfSome told (λ a. Held b words kept → Best b (taps_in words) (call_of c) (answer_of a))
best_told b words kept space c None good few is = tt
best_told b words kept space c (Some a) good few is = λ held. subst (Best b (taps_in words) (call_of c)) (sym (is (held_sure b words kept (call_of c) held)).1) (best b (limit_of words) (taps_in words) (call_of c) good held.sound few)
