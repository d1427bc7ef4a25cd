-- What is promised of the formats of calls and answers. Assumes nothing: these are statements, each named by a function's contract.
--
-- CallFits, AnswerFits: what can be written.
-- CallsReturn, AnswersReturn: what was written reads back as the same. CallsOnly, AnswersOnly: what is read as something is just what that is written as.
-- CallsApart, AnswersApart: no two that differ are written alike.
use Rattle.std.specs.Prelude.{◌≡◌, ℕ, ◌^◌, ◌<◌, ◌≤◌, true, List, length, Some, Ok}
use Rattle.taps.specs.Calls.{Answer, refused, number, reads}
use Rattle.taps.specs.Values.{listed}
use Rattle.taps.specs.declared.call.Call.{Call}
use Rattle.taps.specs.declared.call.Call.TheVariants as call
use Rattle.octets.specs.Bytes.{Bytes}
use Rattle.wire.specs.Wire.{call_bytes, call_in, answer_bytes, answer_in, all_in_place}

-- a tap's time has 32 bits
abbrev pub CallFits : Call → Type 0
CallFits (call.Tap t) = t < 2 ^ 32
CallFits call.Back = Unit {0}
CallFits call.Cost = Unit {0}
CallFits call.Read = Unit {0}

-- answers that a desk may give: a refusal of the list, at a place of 32 bits; a number of 64 bits; a reading of at most 255 gaps, by places of a book
abbrev pub AnswerFits : Answer → Type 0
AnswerFits (refused n p) = (listed n p ≡ true) × (p < 2 ^ 32)
AnswerFits (number n) = n < 2 ^ 64
AnswerFits (reads rs) = (length rs ≤ 255) × (all_in_place rs ≡ true)

abbrev pub CallsReturn : Type 0
CallsReturn = (c : Call) → CallFits c → call_in (call_bytes c) ≡ Ok c

abbrev pub AnswersReturn : Type 0
AnswersReturn = (a : Answer) → AnswerFits a → answer_in (answer_bytes a) ≡ Some a

abbrev pub CallsOnly : Type 0
CallsOnly = (bs : List ℕ) (c : Call) → Bytes bs → call_in bs ≡ Ok c → bs ≡ call_bytes c

abbrev pub AnswersOnly : Type 0
AnswersOnly = (bs : List ℕ) (a : Answer) → Bytes bs → answer_in bs ≡ Some a → bs ≡ answer_bytes a

abbrev pub CallsApart : Type 0
CallsApart = (c d : Call) → CallFits c → CallFits d → call_bytes c ≡ call_bytes d → c ≡ d

abbrev pub AnswersApart : Type 0
AnswersApart = (a b : Answer) → AnswerFits a → AnswerFits b → answer_bytes a ≡ answer_bytes b → a ≡ b
