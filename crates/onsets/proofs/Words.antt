-- The taps that words stand for, by their places, and after a call. Assumes nothing.
use Rattle.std.proofs.Common.{◌≡◌, ℕ, ◌+◌, ◌-◌, ◌<◌, ◌≤◌, min, List, [], ◌∷◌, length, get_or, Some, refl, ap, ◌∙◌, arith}
use Rattle.std.proofs.lemmas.Bool.Decides.{nat_tests}
use Rattle.std.proofs.lemmas.Grind.{common_steps}
use Rattle.taps.specs.Calls.{Call, taps, back, cost, read, garbled, last_of, gaps, turned, changed, after}
use Rattle.taps.proofs.Between.{length_gaps, gap_at}
use Rattle.taps.proofs.Ends.{last_is, but_last_is}
use Rattle.onsets.specs.Onsets.{limit_of, taps_in, last_in, stored, words_after}

-- how many taps there are
pub count_is : (ws : List ℕ) → length (taps_in ws) ≡ min (get_or ws 0 0) (limit_of ws)
count_is ws = grind (arith, common_steps)

-- and no more gaps than a reading may have
pub few_gaps : (ws : List ℕ) → length (gaps (taps_in ws)) ≤ 255
few_gaps ws = omega (arith, count_is ws, length_gaps (taps_in ws))

-- a tap's time is in the word whose place is one more than its number
time_at : (ws : List ℕ) (i : ℕ) → i < length (taps_in ws) → get_or (taps_in ws) i 0 ≡ get_or ws (i + 1) 0
time_at ws i inside = grind (arith, common_steps)

-- where there is a last tap, it is told
pub last_some : (ts : List ℕ) → 0 < length ts → last_in ts ≡ Some (last_of 0 ts)
unfolding last_of
last_some [] some = absurd (omega arith)
last_some (t ∷ ts) some = refl

-- and its time is in the word that has the count for its place
pub last_word : (ws : List ℕ) → 0 < length (taps_in ws) → last_in (taps_in ws) ≡ Some (get_or ws (length (taps_in ws)) 0)
last_word ws some = grind (arith, last_some, last_is, time_at)

-- a gap is between the times of two taps next to each other
pub gap_in : (ws : List ℕ) (i : ℕ) → i + 1 < length (taps_in ws) → get_or ws (i + 2) 0 - get_or ws (i + 1) 0 ≡ get_or (gaps (taps_in ws)) i 0
gap_in ws i inside = grind (arith, gap_at, time_at)

call_stored : (ws : List ℕ) (c : Call) → turned (limit_of ws) (taps_in ws) c ≡ 0 → taps_in (stored ws c) ≡ changed (taps_in ws) c
unfolding turned changed
call_stored ws (taps t) taken = grind (arith, nat_tests, common_steps, count_is)
call_stored ws back taken = grind (arith, nat_tests, common_steps, count_is, but_last_is)
call_stored ws cost taken = refl
call_stored ws read taken = refl
call_stored ws (garbled n) taken = refl

-- the words after a call stand for the taps after it
pub taps_after : (ws : List ℕ) (c : Call) → taps_in (words_after ws c) ≡ after (limit_of ws) (taps_in ws) c
taps_after ws c = grind (arith, nat_tests, call_stored)

pub stands : (ws out : List ℕ) (c : Call) → out ≡ words_after ws c → taps_in out ≡ after (limit_of ws) (taps_in ws) c
stands ws out c left = ap taps_in left ∙ taps_after ws c
