-- Calls and answers as lists of bytes: what each is written as, and what a list of bytes is read as. Assumes nothing: these are definitions.
--
-- call_bytes, answer_bytes: what is written.
-- call_in: the call that bytes are, or refusal 1 at the first byte that doesn't fit. answer_in: the answer that bytes are, or none.
use Rattle.std.specs.Prelude.{ℕ, ◌+◌, ◌*◌, min, Bool, true, ◌&&◌, List, [], ◌∷◌, ◌++◌, length, take, drop, Some, None, Ok, Err, Option, Result, ◌==◌, nat_le, nat_lt, slice_index}
use Rattle.std.specs.List.{flat_map}
use Rattle.taps.specs.Readings.{pick, Read}
use Rattle.taps.specs.Calls.{Answer, refused, number, reads}
use Rattle.taps.specs.Values.{listed}
use Rattle.taps.specs.declared.call.Call.{Call}
use Rattle.taps.specs.declared.call.Call.TheVariants as call
use Rattle.taps.specs.declared.refusal.Refusal.{Refusal}
use Rattle.taps.specs.declared.refusal.Refusal.TheVariants.{Garbled}
use Rattle.octets.specs.Bytes as bytes
use Rattle.octets.specs.Bytes.{two, four, eight, chunks}

-- a byte, 0 to 3, and for a tap its time in four bytes. Nothing follows
abbrev pub call_bytes : Call → List ℕ
call_bytes (call.Tap t) = 0 ∷ four t
call_bytes call.Back = 1 ∷ []
call_bytes call.Cost = 2 ∷ []
call_bytes call.Read = 3 ∷ []

-- what follows a tap's first byte: four bytes. Too few end where the next should be, and one too many stands at 5
abbrev pub tap_in : List ℕ → Result Call Refusal
tap_in rest = pick (length rest == 4) (Ok (call.Tap (bytes.number rest))) (Err (Garbled (1 + min (length rest) 4)))

-- a call that is one byte alone
abbrev pub alone : Call → List ℕ → Result Call Refusal
alone c rest = pick (length rest == 0) (Ok c) (Err (Garbled 1))

abbrev pub call_in : List ℕ → Result Call Refusal
call_in [] = Err (Garbled 0)
call_in (first ∷ rest) =
    pick (first == 0) (tap_in rest) (pick (first == 1) (alone call.Back rest) (pick (first == 2) (alone call.Cost rest) (pick (first == 3) (alone call.Read rest) (Err (Garbled 0)))))

-- how a gap is read: its kind and its tempo, a byte each
abbrev pub read_bytes : Read → List ℕ
read_bytes r = r.kind ∷ r.tempo ∷ []

abbrev pub read_in : List ℕ → Read
read_in pair = record { kind = slice_index pair 0; tempo = slice_index pair 1 }

-- 0 and a refusal's number and place; 1 and a number; 2, how many gaps there are, and how each is read. Nothing follows
abbrev pub answer_bytes : Answer → List ℕ
answer_bytes (refused n p) = 0 ∷ (four n ++ four p)
answer_bytes (number n) = 1 ∷ eight n
answer_bytes (reads rs) = 2 ∷ (two (length rs) ++ flat_map read_bytes rs)

-- a refusal that the list has
abbrev pub refused_in : List ℕ → Option Answer
refused_in rest =
    pick (length rest == 8 && listed (bytes.number (take 4 rest)) (bytes.number (drop 4 rest))) (Some (refused (bytes.number (take 4 rest)) (bytes.number (drop 4 rest)))) None

abbrev pub number_in : List ℕ → Option Answer
number_in rest = pick (length rest == 8) (Some (number (bytes.number rest))) None

-- the kind is the place of one of 32, and the tempo of one of 64
abbrev pub in_place : Read → Bool
in_place r = nat_lt r.kind 32 && nat_lt r.tempo 64

abbrev pub all_in_place : List Read → Bool
all_in_place [] = true
all_in_place (r ∷ rs) = in_place r && all_in_place rs

-- as many pairs as are counted, at most 255, each in place
abbrev pub reads_in : List ℕ → Option Answer
reads_in rest =
    let n : ℕ = bytes.number (take 2 rest) in
    let rs : List Read = chunks read_in 2 n (drop 2 rest) in
    pick ((length rest == 2 + 2 * n && nat_le n 255) && all_in_place rs) (Some (reads rs)) None

abbrev pub answer_in : List ℕ → Option Answer
answer_in [] = None
answer_in (first ∷ rest) = pick (first == 0) (refused_in rest) (pick (first == 1) (number_in rest) (pick (first == 2) (reads_in rest) None))
