-- What holds of taps in words, whatever is called. Each is a statement: a type, whose proof is owed by the function whose contract names it. Assumes nothing.
--
-- words_ran: the words after a list of calls, one after another. rises: each tap is later than the one before.
-- Sound: taps as a desk holds them. sound_words: whether words hold such taps, and count no more than there is room for.
use Rattle.std.specs.Prelude.{◌≡◌, ℕ, ◌≤◌, Bool, true, ◌&&◌, List, [], ◌∷◌, length, nat_le, nat_lt, slice_index}
use Rattle.taps.specs.Calls.{Call, gaps, ran}
use Rattle.taps.specs.Promise.{small}
use Rattle.onsets.specs.Onsets.{limit_of, taps_in, words_after}

unfoldable pub words_ran : List ℕ → List Call → List ℕ
words_ran ws [] = ws
words_ran ws (c ∷ cs) = words_ran (words_after ws c) cs

unfoldable pub rises : List ℕ → Bool
rises [] = true
rises (t ∷ []) = true
rises (t ∷ u ∷ us) = nat_lt t u && rises (u ∷ us)

-- at most the limit, each later than the one before, and all before 2^24 ms
pub record Sound (most : ℕ) (ts : List ℕ) : Type 0 where
  pub few : length ts ≤ most
  pub rising : rises ts ≡ true
  pub timely : small ts ≡ true

-- whether words are as a desk leaves them: they count no more taps than there is room for, and the taps are sound. The times past the count may be any
abbrev pub sound_words : List ℕ → Bool
sound_words ws = nat_le (slice_index ws 0) (limit_of ws) && (rises (taps_in ws) && small (taps_in ws))

-- words and the definitions of calls go the same way: the words after any calls stand for the taps after them
unfoldable pub Follows : Type 0
Follows = (ws : List ℕ) (cs : List Call) → taps_in (words_ran ws cs) ≡ ran (limit_of ws) (taps_in ws) cs

-- no call makes more room for taps, or less
unfoldable pub KeepsLimit : Type 0
KeepsLimit = (ws : List ℕ) (cs : List Call) → limit_of (words_ran ws cs) ≡ limit_of ws

-- no taps are sound, and sound taps stay so
unfoldable pub StaysSound : Type 0
StaysSound = (most : ℕ) → Sound most [] × ((ts : List ℕ) (cs : List Call) → Sound most ts → Sound most (ran most ts cs))

-- the gaps of sound taps are below 2^24, so that what a reading of them costs is bounded
unfoldable pub SmallGaps : Type 0
SmallGaps = (most : ℕ) (ts : List ℕ) → Sound most ts → small (gaps ts) ≡ true
