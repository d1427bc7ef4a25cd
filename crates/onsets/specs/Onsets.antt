-- Taps in words: which taps words stand for, and what a call leaves in every word. Assumes nothing: these are definitions.
--
-- ws: the words. The first has how many taps are held, those after it their times in ms, from the first tap on. The times past the count mean nothing.
-- limit_of: how many taps the words have room for. taps_in: the taps that they stand for.
-- words_after: the words after a call. Taken: what a call is answered that adds a tap or takes one back.
use Rattle.std.specs.Prelude.{◌≡◌, ℕ, suc, ◌-◌, min, Bool, ◌||◌, List, [], ◌∷◌, length, take, drop, Some, None, Ok, Err, Option, Result, ◌==◌, nat_lt, slice_index, slice_set}
use Rattle.taps.specs.Readings.{pick}
use Rattle.taps.specs.Calls.{Call, taps, back, cost, read, garbled, last_of, turned}
use Rattle.taps.specs.Values.{number_of, place_of}
use Rattle.taps.specs.declared.refusal.Refusal.{Refusal}

-- a word for each tap behind the first word, and never more than 256 taps
abbrev pub limit_of : List ℕ → ℕ
limit_of ws = min (length ws - 1) 256

-- as many times as the first word says, or as there is room for, if it says more: all words stand for some taps
abbrev pub taps_in : List ℕ → List ℕ
taps_in ws = take (min (slice_index ws 0) (limit_of ws)) (drop 1 ws)

-- the last tap's time, if there is a tap
abbrev pub last_in : List ℕ → Option ℕ
last_in [] = None
last_in (t ∷ ts) = Some (last_of t ts)

-- whether a tap at t may follow: it is the first, or later than the last
abbrev pub is_later : List ℕ → ℕ → Bool
is_later ts t = length ts == 0 || nat_lt (last_of 0 ts) t

-- the words after a call that is taken. A tap: its time goes behind the others, and is counted. Back: the last is no longer counted, and its word stays as it was
abbrev pub stored : List ℕ → Call → List ℕ
stored ws (taps t) = slice_set (slice_set ws (suc (length (taps_in ws))) t) 0 (suc (length (taps_in ws)))
stored ws back = slice_set ws 0 (length (taps_in ws) - 1)
stored ws cost = ws
stored ws read = ws
stored ws (garbled n) = ws

-- the words after any call: what is refused changes no word
abbrev pub words_after : List ℕ → Call → List ℕ
words_after ws c = pick (turned (limit_of ws) (taps_in ws) c == 0) (stored ws c) ws

-- the number n, where the call is taken, or else the refusal that comes first
abbrev pub Taken : ℕ → List ℕ → Call → ℕ → Result ℕ Refusal → Type 0
Taken most ts c n (Ok k) = (turned most ts c ≡ 0) × (k ≡ n)
Taken most ts c n (Err e) = (turned most ts c ≡ number_of e) × (place_of e ≡ 0)
