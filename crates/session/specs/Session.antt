-- What a desk is answered, and what a call leaves in its memory. Assumes nothing: these are definitions.
--
-- b: the book. most: the limit of taps. left, right: the words of the two slices that are the desk's, or slices that may be longer. c: a call. cs: calls, one after another.
-- left_after, right_after, said: the words after a call, and its answer. desk: these, and the words after opening, as one desk of `taps`. memory: what that desk has of two slices.
-- Came: the memory after opening and any calls. Stands, IsDesk: what is so of it, whatever was called.
use Rattle.std.specs.Prelude.{◌≡◌, ℕ, ◌+◌, ◌*◌, ◌≤◌, true, List, [], ◌++◌, length, take, drop, Some, None, Option, nat_le}
use Rattle.taps.specs.Readings.{pick, Book}
use Rattle.taps.specs.Calls as calls
use Rattle.taps.specs.Calls.{Answer, refused, answer, ran}
use Rattle.taps.specs.Promise.{GoodBook, Memory, Desk, left_by}
use Rattle.wire.specs.Wire.{answer_bytes, call_in}
use Rattle.onsets.specs.Laws.{sound_words}
use Rattle.onsets.specs.Onsets.{taps_in, words_after}
use Rattle.answers.specs.Answered.{Held, heard, kept_after, rows_after}
use Rattle.session.specs.Layout.{Opened, desk_in, half, kept_words, left_opened, own, right_opened, setup_in, taps_words}
use Rattle.session.specs.declared.Unanswered.{Unanswered}
use Rattle.session.specs.declared.Unanswered.TheVariants.{NoDesk, AnswerTooSmall}

-- after a call: each part by itself. What was opened with stays
abbrev pub left_after : Book → ℕ → List ℕ → calls.Call → List ℕ
left_after b most left c =
    take 39 left ++ (words_after (taps_words most left) c ++ kept_after b most (taps_in (taps_words most left)) c (kept_words most left))

abbrev pub right_after : Book → ℕ → List ℕ → List ℕ → calls.Call → List ℕ
right_after b most left right c = rows_after b (taps_in (taps_words most left)) c right

-- a call is answered by the taps that the words hold
abbrev pub said : Book → ℕ → List ℕ → calls.Call → Answer
said b most left c = answer b most (taps_in (taps_words most left)) c

-- THE DESK of all this: its memory is the words of both slices, one behind the other. Words that were not opened stay as they are, and say nothing that is on the list of refusals
abbrev pub next_of : Option Opened → List ℕ → calls.Call → List ℕ
next_of None words c = words
next_of (Some s) words c =
    let left : List ℕ = own s.book s.limit words in
    let right : List ℕ = drop (half s.book s.limit) words in
    left_after s.book s.limit left c ++ right_after s.book s.limit left right c

abbrev pub says_of : Option Opened → List ℕ → calls.Call → Answer
says_of None words c = refused 0 0
says_of (Some s) words c = said s.book s.limit (own s.book s.limit words) c

abbrev pub desk : Desk
desk = record {
  opened = λ b most. record { words = left_opened b most ++ right_opened b most };
  next = λ m c. record { words = next_of (setup_in m.words) m.words c };
  says = λ m c. says_of (setup_in m.words) m.words c;
}

-- the memory of a desk that was opened with b and most, in slices that may be longer
abbrev pub memory : Book → ℕ → List ℕ → List ℕ → Memory
memory b most left right = record { words = own b most left ++ own b most right }

-- words of a desk, whatever was called: they are read so, and what is kept is that of the taps
pub record Stands (b : Book) (most : ℕ) (left right : List ℕ) : Type 0 where
  pub good : GoodBook b
  pub few : most ≤ 256
  pub setup : setup_in left ≡ Some (record { book = b; limit = most })
  pub left_size : length left ≡ half b most
  pub right_size : length right ≡ half b most
  pub sound : sound_words (taps_words most left) ≡ true
  pub held : Held b (taps_words most left) (kept_words most left)

-- slices that hold such words in front
abbrev pub IsDesk : Book → ℕ → List ℕ → List ℕ → Type 0
IsDesk b most left right = Stands b most (own b most left) (own b most right)

-- the parts of its left slice, and the taps that it holds
abbrev pub words_held : Book → ℕ → List ℕ → List ℕ
words_held b most left = taps_words most (own b most left)

abbrev pub kept_held : Book → ℕ → List ℕ → List ℕ
kept_held b most left = kept_words most (own b most left)

abbrev pub taps_held : Book → ℕ → List ℕ → List ℕ
taps_held b most left = taps_in (words_held b most left)

-- the call that bytes are heard as; and the bytes of what the desk says to one
abbrev pub sent : List ℕ → calls.Call
sent bytes = heard (call_in bytes)

abbrev pub bytes_said : Book → ℕ → List ℕ → List ℕ → calls.Call → List ℕ
bytes_said b most left right c = answer_bytes (desk.says (memory b most left right) c)

-- room for any answer of a desk with this limit
abbrev pub answer_room : ℕ → ℕ
answer_room most = 2 * most + 16

-- why a call is not answered, or that it is
abbrev pub unanswered : Option Opened → ℕ → Option Unanswered
unanswered None room = Some NoDesk
unanswered (Some s) room = pick (nat_le (answer_room s.limit) room) None (Some AnswerTooSmall)

-- of words that are read as a desk's, where there is room for its answers
abbrev pub OfDesk : List ℕ → List ℕ → ℕ → (Book → ℕ → Type 0) → Type 0
OfDesk left right room P = (b : Book) (most : ℕ) → desk_in left right ≡ Some (record { book = b; limit = most }) → answer_room most ≤ room → P b most

-- THE MEMORY OF A DESK that was opened with b and most, and was then called so, one call after another
abbrev pub Came : Book → ℕ → List calls.Call → List ℕ → List ℕ → Type 0
Came b most cs left right = GoodBook b × (most ≤ 256) × (memory b most left right ≡ left_by desk (desk.opened b most) cs)

-- of such words, where there is room for any answer
abbrev pub OfCalls : List ℕ → List ℕ → ℕ → (Book → ℕ → List calls.Call → Type 0) → Type 0
OfCalls left right room P = (b : Book) (most : ℕ) (cs : List calls.Call) → Came b most cs left right → answer_room most ≤ room → P b most cs

-- the bytes of what a call is answered behind others, by the definitions
abbrev pub bytes_answered : Book → ℕ → List calls.Call → calls.Call → List ℕ
bytes_answered b most cs c = answer_bytes (answer b most (ran most [] cs) c)
