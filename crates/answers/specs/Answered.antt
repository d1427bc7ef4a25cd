-- What a call is answered over lent words, by the definitions of calls, and what it leaves in them. Assumes nothing.
--
-- b: the book. most: the limit of taps. ts: the taps that the words stand for. kept, rows: words that are lent for what is kept of the taps, and for the rows from the last gap on.
use Rattle.std.specs.Prelude.{◌≡◌, ℕ, ◌-◌, Bool, true, false, ◌&&◌, List, [], ◌∷◌, length, Some, None, Ok, Err, Option, Result, ◌==◌, nat_le}
use Rattle.taps.specs.Readings.{pick, Book}
use Rattle.taps.specs.Calls as calls
use Rattle.taps.specs.Calls.{gaps, turned, answer, after}
use Rattle.taps.specs.Values.{place_of, call_of, answer_of}
use Rattle.taps.specs.declared.answer.Answer.{Answer}
use Rattle.taps.specs.declared.call.Call.{Call}
use Rattle.taps.specs.declared.refusal.Refusal.{Refusal}
use Rattle.octets.specs.Bytes.{StartsWith, room, written}
use Rattle.wire.specs.Wire.{answer_bytes}
use Rattle.onsets.specs.Laws.{Sound}
use Rattle.onsets.specs.Onsets.{limit_of, taps_in}
use Rattle.plain.specs.Rows.{kept_rows, kept_size, rows, rows_size}

-- the call that was read, or that none was
abbrev pub heard : Result Call Refusal → calls.Call
heard (Ok c) = call_of c
heard (Err e) = calls.garbled (place_of e)

-- what is kept of taps: for each of them the prefix row of the gaps up to it, and before that row, but for the first, what the gap before it costs by itself
abbrev pub kept_of : Book → List ℕ → List ℕ
kept_of b [] = []
kept_of b (t ∷ ts) = kept_rows b (gaps (t ∷ ts))

-- words as a desk holds them: the taps came by calls, and just their rows are kept in front
pub record Held (b : Book) (words kept : List ℕ) : Type 0 where
  pub sound : Sound (limit_of words) (taps_in words)
  pub starts : StartsWith (kept_of b (taps_in words)) kept

-- the words that are lent have room for what is kept of as many taps as the limit, and for the rows of as many
abbrev pub roomy : Book → ℕ → ℕ → ℕ → Bool
roomy b most kept rows = nat_le (kept_size b (most - 1)) kept && nat_le (rows_size b (most - 1)) rows

-- a call is answered where they have; what is no call is always refused
abbrev pub answered : Book → ℕ → ℕ → ℕ → calls.Call → Bool
answered b most kept rows (calls.taps t) = roomy b most kept rows
answered b most kept rows calls.back = roomy b most kept rows
answered b most kept rows calls.cost = roomy b most kept rows
answered b most kept rows calls.read = roomy b most kept rows
answered b most kept rows (calls.garbled p) = true

-- what a call needs of the words so that its answer is that of the definitions: what the best reading costs, and which it is, is told by what is kept
abbrev pub Answerable : Book → List ℕ → List ℕ → calls.Call → Type 0
Answerable b words kept (calls.taps t) = Unit {0}
Answerable b words kept calls.back = Unit {0}
Answerable b words kept calls.cost = Held b words kept
Answerable b words kept calls.read = Held b words kept
Answerable b words kept (calls.garbled p) = Unit {0}

-- the call is a tap that is taken, of which a row is to be kept
abbrev pub adds : ℕ → List ℕ → calls.Call → Bool
adds most ts (calls.taps t) = turned most ts (calls.taps t) == 0
adds most ts calls.back = false
adds most ts calls.cost = false
adds most ts calls.read = false
adds most ts (calls.garbled p) = false

-- the call asks for the best reading, which is found by rows that are made anew
abbrev pub reads_rows : calls.Call → Bool
reads_rows (calls.taps t) = false
reads_rows calls.back = false
reads_rows calls.cost = false
reads_rows calls.read = true
reads_rows (calls.garbled p) = false

-- the answer of the definitions; or none, where it is not answered and only there
abbrev pub Answered : Book → ℕ → ℕ → ℕ → List ℕ → Call → Option Answer → Type 0
Answered b most kept rows ts c (Some a) = (answered b most kept rows (call_of c) ≡ true) × (answer_of a ≡ answer b most ts (call_of c))
Answered b most kept rows ts c None = answered b most kept rows (call_of c) ≡ false

-- what is kept after a call that is answered: just the rows of the taps after it in front, and the rest as it was
abbrev pub kept_after : Book → ℕ → List ℕ → calls.Call → List ℕ → List ℕ
kept_after b most ts c old = written (kept_of b (after most ts c)) old

-- what the words for rows hold after a call that is answered: where it asks for the best reading of a gap or more, the rows of all gaps in front, and the rest as it was
abbrev pub rows_left : Book → List ℕ → List ℕ → List ℕ
rows_left b [] old = old
rows_left b (g ∷ gs) old = written (rows b (g ∷ gs)) old

abbrev pub rows_after : Book → List ℕ → calls.Call → List ℕ → List ℕ
rows_after b ts (calls.taps t) old = old
rows_after b ts calls.back old = old
rows_after b ts calls.cost old = old
rows_after b ts calls.read old = rows_left b (gaps ts) old
rows_after b ts (calls.garbled p) old = old

-- the answer in bytes: how many are told, where they are written into `out`, a lent slice, and what is left in it
unfoldable pub told_of : Book → ℕ → ℕ → ℕ → List ℕ → calls.Call → List ℕ → Option ℕ
told_of b most kept rows ts c out = pick (answered b most kept rows c) (room (answer_bytes (answer b most ts c)) out) None

unfoldable pub left_of : Book → ℕ → ℕ → ℕ → List ℕ → calls.Call → List ℕ → List ℕ
left_of b most kept rows ts c out = pick (answered b most kept rows c) (written (answer_bytes (answer b most ts c)) out) out

-- the same over words: of the taps that they stand for, with the limit and the room that they have
abbrev pub is_answered : Book → List ℕ → List ℕ → List ℕ → calls.Call → Bool
is_answered b words kept rows c = answered b (limit_of words) (length kept) (length rows) c

abbrev pub IsAnswer : Book → List ℕ → List ℕ → List ℕ → Call → Option Answer → Type 0
IsAnswer b words kept rows c told = Answered b (limit_of words) (length kept) (length rows) (taps_in words) c told

abbrev pub kept_then : Book → List ℕ → calls.Call → List ℕ → List ℕ
kept_then b words c kept = kept_after b (limit_of words) (taps_in words) c kept

abbrev pub rows_then : Book → List ℕ → calls.Call → List ℕ → List ℕ
rows_then b words c rows = rows_after b (taps_in words) c rows

abbrev pub told_bytes : Book → List ℕ → List ℕ → List ℕ → calls.Call → List ℕ → Option ℕ
told_bytes b words kept rows c out = told_of b (limit_of words) (length kept) (length rows) (taps_in words) c out

abbrev pub left_bytes : Book → List ℕ → List ℕ → List ℕ → calls.Call → List ℕ → List ℕ
left_bytes b words kept rows c out = left_of b (limit_of words) (length kept) (length rows) (taps_in words) c out
