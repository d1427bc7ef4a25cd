-- Taps stay sound as they are taken, and the gaps between them are below 2^24. Assumes nothing.
use Rattle.std.proofs.Common.{◌≡◌, ℕ, zero, suc, ◌<◌, true, List, [], ◌∷◌, length, Some, sym, subst, arith}
use Rattle.std.specs.List.{slice_get}
use Rattle.std.proofs.lemmas.Bool.Decides.{nat_tests}
use Rattle.taps.specs.Calls.{Call, gaps, after}
use Rattle.taps.specs.Promise.{small}
use Rattle.onsets.specs.Laws.{Sound}
use Rattle.onsets.specs.Onsets.{limit_of, taps_in, words_after}
use Rattle.onsets.proofs.Sound.{after_sound, gaps_small}
use Rattle.onsets.proofs.Words.{stands}

-- as many words as there are have room for 256
pub room_is : (ws : List ℕ) → length ws ≡ 257 → limit_of ws ≡ 256
room_is ws whole = omega arith

pub sound_after : (ws out : List ℕ) (c : Call) → length ws ≡ 257 → out ≡ words_after ws c → Sound 256 (taps_in ws) → Sound 256 (taps_in out)
sound_after ws out c whole left sound =
    let room = room_is ws whole in
    subst (Sound 256) (sym (stands ws out c left)) (subst (λ n. Sound 256 (after n (taps_in ws) c)) (sym room) (after_sound 256 (taps_in ws) c sound))

small_got : (gs : List ℕ) (i g : ℕ) → small gs ≡ true → slice_get gs i ≡ Some g → g < 16777216
unfolding small
small_got [] i g below here = grind arith
small_got (x ∷ xs) zero g below here = grind (arith, nat_tests)
small_got (x ∷ xs) (suc i) g below here = grind (arith, nat_tests, small_got xs i g)

pub gap_below : (ts : List ℕ) (i g : ℕ) → Sound 256 ts → slice_get (gaps ts) i ≡ Some g → g < 16777216
gap_below ts i g sound here = small_got (gaps ts) i g (gaps_small ts sound.timely) here
