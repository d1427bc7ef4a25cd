-- What holds of answers. The last is a statement: a type, whose proof is owed by the function whose contract names it. Assumes nothing.
--
-- Best: what an answer about the best reading says of all readings.
use Rattle.std.specs.Prelude.{◌≡◌, ℕ, ◌≤◌, true, List, length, Some}
use Rattle.taps.specs.Readings.{Book, Read, all_cost, in_book}
use Rattle.taps.specs.Calls as calls
use Rattle.taps.specs.Calls.{Answer, number, reads, gaps}
use Rattle.taps.specs.Promise.{GoodBook}
use Rattle.statements.specs.Statements.{comes_first}
use Rattle.wire.specs.Wire.{answer_in}
use Rattle.answers.specs.Answered.{answered}

-- rs is a reading of the gaps of taps: one Read for each gap, of kinds and tempi of the book
abbrev pub IsReading : Book → List ℕ → List Read → Type 0
IsReading b ts rs = (length rs ≡ length (gaps ts)) × (in_book b rs ≡ true)

-- the cost that is told is what a reading costs, and no reading costs less
abbrev pub BestCost : Book → List ℕ → Answer → Type 0
BestCost b ts a =
    (n : ℕ) × (a ≡ number n) × ((rs : List Read) × IsReading b ts rs × (all_cost b 0 (gaps ts) rs ≡ n)) × ((rs : List Read) → IsReading b ts rs → n ≤ all_cost b 0 (gaps ts) rs)

-- what is told is a reading, no reading costs less, and of those that cost as much it comes first
abbrev pub FirstBest : Book → List ℕ → Answer → Type 0
FirstBest b ts a =
    (rs : List Read) × (a ≡ reads rs) × IsReading b ts rs
    × ((qs : List Read) → IsReading b ts qs → (all_cost b 0 (gaps ts) rs ≤ all_cost b 0 (gaps ts) qs) × (all_cost b 0 (gaps ts) qs ≡ all_cost b 0 (gaps ts) rs → comes_first rs qs ≡ true))

-- a tap or taking one back says nothing of readings, nor does what is no call
abbrev pub Best : Book → List ℕ → calls.Call → Answer → Type 0
Best b ts (calls.taps t) a = Unit {0}
Best b ts calls.back a = Unit {0}
Best b ts calls.cost a = BestCost b ts a
Best b ts calls.read a = FirstBest b ts a
Best b ts (calls.garbled p) a = Unit {0}

-- bytes are read as such an answer
abbrev pub BestIn : Book → List ℕ → calls.Call → List ℕ → Type 0
BestIn b ts c bytes = (a : Answer) × (answer_in bytes ≡ Some a) × Best b ts c a

-- every call is answered, where as many words are lent as any rows take
unfoldable pub AlwaysAnswered : Type 0
AlwaysAnswered = (b : Book) (most kept rows : ℕ) (c : calls.Call) → GoodBook b → most ≤ 256 → 32960 ≤ kept → 16640 ≤ rows → answered b most kept rows c ≡ true
