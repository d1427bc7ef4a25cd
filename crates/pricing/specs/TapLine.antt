-- Which taps a line of times is, or which of them is not taken. Assumes nothing: these are definitions.
--
-- Why, Untaken: why a token is not taken as a tap, and which one it is. ts: the times of the taps that were taken before it.
-- taps_in_line: the taps that a line's tokens are, each a call to a desk with room for 256, up to the first that is not taken.
use Rattle.std.specs.Prelude.{ℕ, List, [], ◌∷◌, length, Some, None, Option, Ok, Err, Result, ◌==◌}
use Rattle.taps.specs.Readings.{pick}
use Rattle.taps.specs.Calls.{taps, after, turned}
use Rattle.tokens.specs.Tokens.{number_in, tokens_in}

pub data Why : Type 0 where
  no_number : Why
  refused : ℕ → Why  -- by the refusal with this number

-- `tap` counts the taps before it
pub record Untaken : Type 0 where
  pub tap : ℕ
  pub why : Why

-- the taps with one more, of a token that is this number or none
abbrev pub tap_then : List ℕ → Option ℕ → Result (List ℕ) Untaken
tap_then ts None = Err (record { tap = length ts; why = no_number })
tap_then ts (Some t) =
    pick (turned 256 ts (taps t) == 0) (Ok (after 256 ts (taps t))) (Err (record { tap = length ts; why = refused (turned 256 ts (taps t)) }))

-- what follows is done to the taps, where they were taken
abbrev pub if_taken : Result (List ℕ) Untaken → (List ℕ → Result (List ℕ) Untaken) → Result (List ℕ) Untaken
if_taken (Ok ts) next = next ts
if_taken (Err e) next = Err e

abbrev pub taps_then : List ℕ → List (List ℕ) → Result (List ℕ) Untaken
taps_then ts [] = Ok ts
taps_then ts (w ∷ ws) = if_taken (tap_then ts (number_in w)) (λ us. taps_then us ws)

abbrev pub taps_in_line : List ℕ → Result (List ℕ) Untaken
taps_in_line line = taps_then [] (tokens_in line)
