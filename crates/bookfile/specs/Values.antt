-- What the values of the code stand for, and what a fault is printed as. Assumes nothing: these are definitions.
--
-- numbers_of: what a kind's line tells. draft_of: what a draft stands for. told: what an `Ok` stands for, in front of the same `Err`.
-- reason_text, fault_text: a reason and a fault as text.
use Rattle.std.specs.Prelude.{ℕ, suc, List, ◌++◌, Ok, Err, Result, codes, decimal, map}
use Rattle.taps.specs.Items.{items}
use Rattle.taps.specs.Readings as readings
use Rattle.taps.specs.Values.{book_of, kind_of, kinds_of, tempi_of}
use Rattle.bookfile.specs.Books as books
use Rattle.bookfile.specs.declared.draft.Draft.{Draft}
use Rattle.bookfile.specs.declared.draft.Draft.TheVariants.{Listing, Timed, Whole}
use Rattle.bookfile.specs.declared.line.Numbers.{Numbers}
use Rattle.bookfile.specs.declared.fault.Fault.{Fault}
use Rattle.bookfile.specs.declared.fault.Reason.{Reason}
use Rattle.bookfile.specs.declared.fault.Reason.TheVariants.{NoKind, TooManyKinds, KindBounds, KindsMissing, BadTempi, BadChange, Behind, Unfinished}

abbrev pub numbers_of : Numbers → readings.Kind
numbers_of n = record { ticks = n.ticks; weight = n.weight }

abbrev pub draft_of : Draft → books.Draft
draft_of (Listing ks) = books.listing (map kind_of (items ks))
draft_of (Timed ks ts) = books.timed (kinds_of ks) (tempi_of ts)
draft_of (Whole b) = books.whole (book_of b)

abbrev pub told : {A B E : Type 0} → (A → B) → Result A E → Result B E
told f (Ok a) = Ok (f a)
told f (Err e) = Err e

abbrev pub reason_text : Reason → List ℕ
reason_text NoKind = codes "this line should be NAME TICKS, weight WEIGHT, or tempi T T .."
reason_text TooManyKinds = codes "a book has at most 32 kinds"
reason_text KindBounds = codes "a kind has 1 to 96 ticks and a weight below 16777216"
reason_text KindsMissing = codes "a kind should stand before the tempi"
reason_text BadTempi = codes "the tempi are 1 to 64 numbers from 100 to 4000, each larger than the one before"
reason_text BadChange = codes "this line should be change C, with C below 65536"
reason_text Behind = codes "nothing should stand behind the change"
reason_text Unfinished = codes "the book ends before its change"

-- lines are counted from 1, as editors do
abbrev pub fault_text : Fault → List ℕ
fault_text f = codes "line " ++ (decimal (suc f.line) ++ (codes ": " ++ reason_text f.reason))
