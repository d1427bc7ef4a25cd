-- What the values of the code stand for, by the definitions of readings and calls; and the list of refusals. Assumes nothing.
--
-- kind_of, read_of, reading_of, book_of, call_of, answer_of: what a value of the code's type of that name stands for.
-- number_of, place_of: what a refusal tells; refusal_text: the same as text. Tells: the refusal that tells a number and a place.
-- Told: the answer to a call that was taken, with a number, or refused. listed: that some refusal tells this number and place.
use Rattle.std.specs.Prelude.{◌≡◌, ℕ, Bool, true, false, ◌&&◌, ◌||◌, List, ◌++◌, map, codes, decimal, Ok, Err, Result, ◌==◌, nat_le, nat_lt}
use Rattle.taps.specs.Items.{items}
use Rattle.taps.specs.Readings as readings
use Rattle.taps.specs.Calls as calls
use Rattle.taps.specs.declared.kind.Kind.{Kind}
use Rattle.taps.specs.declared.read.Read.{Read}
use Rattle.taps.specs.declared.listed.Listed.{Listed}
use Rattle.taps.specs.declared.kinds.Kinds.{Kinds}
use Rattle.taps.specs.declared.tempi.Tempi.{Tempi}
use Rattle.taps.specs.declared.book.Book.{Book}
use Rattle.taps.specs.declared.call.Call.{Call}
use Rattle.taps.specs.declared.call.Call.TheVariants as call
use Rattle.taps.specs.declared.answer.Answer.{Answer}
use Rattle.taps.specs.declared.answer.Answer.TheVariants as answer
use Rattle.taps.specs.declared.refusal.Refusal.{Refusal}
use Rattle.taps.specs.declared.refusal.Unlisted.{Unlisted}
use Rattle.taps.specs.declared.refusal.Refusal.TheVariants.{Garbled, TooLate, NoBook, LimitTooLarge, MemoryTooSmall, NotLater, NoTap, TooManyTaps}

abbrev pub kind_of : Kind → readings.Kind
kind_of k = record { ticks = k.ticks; weight = k.weight }

abbrev pub read_of : Read → readings.Read
read_of r = record { kind = r.kind; tempo = r.tempo }

abbrev pub reading_of : Listed Read 255 → List readings.Read
reading_of rs = map read_of (items rs)

abbrev pub kinds_of : Kinds → List readings.Kind
kinds_of ks = map kind_of (items ks.list)

abbrev pub tempi_of : Tempi → List ℕ
tempi_of ts = items ts.list

abbrev pub book_of : Book → readings.Book
book_of b = record { kinds = kinds_of b.kinds; tempi = tempi_of b.tempi; change = b.change }

abbrev pub call_of : Call → calls.Call
call_of (call.Tap t) = calls.taps t
call_of call.Back = calls.back
call_of call.Cost = calls.cost
call_of call.Read = calls.read

abbrev pub number_of : Refusal → ℕ
number_of (Garbled p) = 1
number_of TooLate = 2
number_of NoBook = 3
number_of LimitTooLarge = 3
number_of MemoryTooSmall = 3
number_of NotLater = 4
number_of NoTap = 5
number_of TooManyTaps = 6

abbrev pub place_of : Refusal → ℕ
place_of (Garbled p) = p
place_of TooLate = 0
place_of NoBook = 0
place_of LimitTooLarge = 1
place_of MemoryTooSmall = 2
place_of NotLater = 0
place_of NoTap = 0
place_of TooManyTaps = 0

abbrev pub answer_of : Answer → calls.Answer
answer_of (answer.Refused r) = calls.refused (number_of r) (place_of r)
answer_of (answer.Number n) = calls.number n
answer_of (answer.Reads rs) = calls.reads (reading_of rs)

-- 1 at any place; 3 at 0, 1 and 2; 2, 4, 5 and 6 at 0
abbrev pub listed : ℕ → ℕ → Bool
listed n p = n == 1 || ((n == 3 && nat_lt p 3) || ((n == 2 || (nat_le 4 n && nat_le n 6)) && p == 0))

-- the answer to a call that was taken, or refused
abbrev pub Told : Result ℕ Refusal → Answer → Type 0
Told (Ok k) a = answer_of a ≡ calls.number k
Told (Err e) a = answer_of a ≡ calls.refused (number_of e) (place_of e)

-- a refusal as text, as in `refused 4 at 0`
abbrev pub refusal_text : Refusal → List ℕ
refusal_text r = codes "refused " ++ (decimal (number_of r) ++ (codes " at " ++ decimal (place_of r)))

-- the refusal that tells a number and a place, or that none does
abbrev pub Tells : ℕ × ℕ → Result Refusal Unlisted → Type 0
Tells p (Ok q) = (listed p.0 p.1 ≡ true) × (number_of q ≡ p.0) × (place_of q ≡ p.1)
Tells p (Err e) = listed p.0 p.1 ≡ false
