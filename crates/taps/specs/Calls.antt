-- What is asked of a desk while somebody taps, what it answers, and which taps it then holds. Assumes nothing: these are definitions.
--
-- Call: one thing asked. Answer: what the desk says to it.
-- ts: the times of the taps that the desk holds, in ms, from the first on. most: the limit, how many taps it may hold.
use Rattle.std.specs.Prelude.{ℕ, ◌-◌, ◌||◌, List, [], ◌∷◌, ◌++◌, length, ◌==◌, nat_lt}
use Rattle.taps.specs.Readings.{pick, Book, Read, least, reading}

pub data Call : Type 0 where
  taps : ℕ → Call  -- a tap at a time in ms
  back : Call  -- the last tap is taken back
  cost : Call  -- what does the best reading cost?
  read : Call  -- which is the first best reading?
  garbled : ℕ → Call  -- no call: what was sent ceases to be one at this byte

pub data Answer : Type 0 where
  refused : ℕ → ℕ → Answer  -- a refusal's number and its place
  number : ℕ → Answer
  reads : List Read → Answer

-- the last of t and the taps after it
unfoldable pub last_of : ℕ → List ℕ → ℕ
last_of t [] = t
last_of t (u ∷ us) = last_of u us

unfoldable pub gaps : List ℕ → List ℕ
gaps [] = []
gaps (t ∷ []) = []
gaps (t ∷ (u ∷ us)) = (u - t) ∷ gaps (u ∷ us)

unfoldable pub but_last : List ℕ → List ℕ
but_last [] = []
but_last (t ∷ []) = []
but_last (t ∷ (u ∷ us)) = t ∷ but_last (u ∷ us)

-- the number of the first refusal that applies, or 0 where the call is taken:
-- 1 no call; 2 a time of 2^24 ms or later; 4 a tap that isn't later than the last; 5 nothing to take back; 6 more taps than the limit.
-- (3 is told only where a desk can't be opened, and then there is none to call.)
unfoldable pub turned : ℕ → List ℕ → Call → ℕ
turned most ts (taps t) =
    pick (nat_lt t 16777216) (pick (length ts == 0 || nat_lt (last_of 0 ts) t) (pick (nat_lt (length ts) most) 0 6) 4) 2
turned most ts back = pick (length ts == 0) 5 0
turned most ts cost = 0
turned most ts read = 0
turned most ts (garbled n) = 1

-- the place that is told with a refusal
unfoldable pub place : Call → ℕ
place (garbled n) = n
place (taps t) = 0
place back = 0
place cost = 0
place read = 0

-- the taps after a call that is taken
unfoldable pub changed : List ℕ → Call → List ℕ
changed ts (taps t) = ts ++ (t ∷ [])
changed ts back = but_last ts
changed ts cost = ts
changed ts read = ts
changed ts (garbled n) = ts

-- the taps after any call: what is refused changes nothing
abbrev pub after : ℕ → List ℕ → Call → List ℕ
after most ts c = pick (turned most ts c == 0) (changed ts c) ts

-- what a call that is taken is answered: a tap by its number from 0, back by how many taps are left
unfoldable pub told : Book → List ℕ → Call → Answer
told b ts (taps t) = number (length ts)
told b ts back = number (length ts - 1)
told b ts cost = number (least b 0 (gaps ts))
told b ts read = reads (reading b 0 (gaps ts))
told b ts (garbled n) = number 0

abbrev pub answer : Book → ℕ → List ℕ → Call → Answer
answer b most ts c = pick (turned most ts c == 0) (told b ts c) (refused (turned most ts c) (place c))

-- what a list of calls is answered, one after another, and the taps that are held after it
unfoldable pub answers : Book → ℕ → List ℕ → List Call → List Answer
answers b most ts [] = []
answers b most ts (c ∷ cs) = answer b most ts c ∷ answers b most (after most ts c) cs

unfoldable pub ran : ℕ → List ℕ → List Call → List ℕ
ran most ts [] = ts
ran most ts (c ∷ cs) = ran most (after most ts c) cs
