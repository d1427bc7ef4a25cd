-- Calls and answers as lines. Assumes nothing: these are definitions.
--
-- call_in: the call that a line is; call_text: what a call is printed as. answer_text: what an answer is printed as, by the book that its reading is of.
use Rattle.std.specs.Prelude.{ℕ, List, [], ◌∷◌, ◌++◌, Some, None, Option, codes, decimal, bytes_eq, if◌then◌else◌}
use Rattle.std.specs.List.{flat_map}
use Rattle.std.specs.Option.{option_map}
use Rattle.taps.specs.Readings.{Book, Read, kind_at, tempo_at}
use Rattle.taps.specs.Calls.{Call, taps, back, cost, read, garbled, Answer, refused, number, reads}
use Rattle.tokens.specs.Tokens.{number_in, tokens_in}

-- the call that a single token is
abbrev pub word_in : List ℕ → Option Call
word_in w = if bytes_eq w (codes "back") then Some back else (if bytes_eq w (codes "cost") then Some cost else (if bytes_eq w (codes "read") then Some read else None))

-- the call that a line's tokens are: `tap` and a time, or a single one
abbrev pub call_of_tokens : List (List ℕ) → Option Call
call_of_tokens [] = None
call_of_tokens (w ∷ []) = word_in w
call_of_tokens (w ∷ (t ∷ [])) = if bytes_eq w (codes "tap") then option_map taps (number_in t) else None
call_of_tokens (w ∷ (t ∷ (u ∷ us))) = None

abbrev pub call_in : List ℕ → Option Call
call_in line = call_of_tokens (tokens_in line)

-- a call as such a line; what is no call has no text
abbrev pub call_text : Call → List ℕ
call_text (taps t) = codes "tap " ++ decimal t
call_text back = codes "back"
call_text cost = codes "cost"
call_text read = codes "read"
call_text (garbled n) = []

-- a note by its ticks and its tempo, as in `12@500`
abbrev pub note_text : Book → Read → List ℕ
note_text b r = decimal (kind_at b r.kind).ticks ++ (codes "@" ++ decimal (tempo_at b r.tempo))

-- a reading as its notes, with a blank between two; or `none` where there is no gap
abbrev pub reading_text : Book → List Read → List ℕ
reading_text b [] = codes "none"
reading_text b (r ∷ rs) = note_text b r ++ flat_map (λ q. codes " " ++ note_text b q) rs

-- a refusal by its number and place, as in `refused 4 at 0`, a number by its digits, and a reading by its notes
abbrev pub answer_text : Book → Answer → List ℕ
answer_text b (refused n p) = codes "refused " ++ (decimal n ++ (codes " at " ++ decimal p))
answer_text b (number n) = decimal n
answer_text b (reads rs) = reading_text b rs
