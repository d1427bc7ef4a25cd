-- The calls that the lines of a text are, and the text that their answers are. Assumes nothing: these are definitions.
use Rattle.std.specs.Prelude.{ℕ, ◌+◌, List, [], ◌∷◌, ◌++◌}
use Rattle.std.specs.List.{flat_map}
use Rattle.std.specs.Option.{unwrap_or}
use Rattle.taps.specs.Readings.{Book}
use Rattle.taps.specs.Calls.{Answer, Call, garbled}
use Rattle.text.specs.Lines.{answer_text, call_in}

-- the call that the line with the number n is; one that can't be read is told by that number
abbrev pub call_at : ℕ → List ℕ → Call
call_at n line = unwrap_or (call_in line) (garbled n)

-- the calls that lines are, of which the first has the number n
abbrev pub calls_in : ℕ → List (List ℕ) → List Call
calls_in n [] = []
calls_in n (l ∷ ls) = call_at n l ∷ calls_in (n + 1) ls

-- a line for each answer
abbrev pub answers_text : Book → List Answer → List ℕ
answers_text b told = flat_map (λ a. answer_text b a ++ 10 ∷ []) told
