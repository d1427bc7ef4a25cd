-- Taps stay sound, and words follow the definitions of calls, whatever is called; and which words are told to be sound. Assumes nothing.
use Rattle.std.proofs.Common.{◌≡◌, ℕ, ◌-◌, ◌+◌, ◌<◌, ◌≤◌, min, true, ◌&&◌, ◌||◌, ◌==◌, ltb, List, [], ◌∷◌, ◌++◌, length, get_or, take, refl, ap, ◌∙◌, arith}
use Rattle.std.proofs.lemmas.List.{length_push, length-set}
use Rattle.std.proofs.lemmas.Bool.{and_parts, ltb-true}
use Rattle.std.proofs.lemmas.Bool.Decides.{nat_tests}
use Rattle.std.proofs.lemmas.Grind.{common_steps}
use Rattle.taps.specs.Calls.{Call, taps, back, cost, read, garbled, last_of, gaps, but_last, turned, changed, after, ran}
use Rattle.taps.specs.Promise.{small}
use Rattle.taps.proofs.Ends.{last_is, but_last_is}
use Rattle.onsets.specs.Onsets.{limit_of, taps_in, stored, words_after}
use Rattle.onsets.specs.Laws.{words_ran, rises, Sound, sound_words, Follows, KeepsLimit, StaysSound, SmallGaps}
use Rattle.onsets.proofs.Words.{count_is, taps_after}

-- with one tap more, which is later than the last or not
rises_more : (ts : List ℕ) (t : ℕ) → rises (ts ++ t ∷ []) ≡ (rises ts && (length ts == 0 || ltb (last_of 0 ts) t))
unfolding rises last_of
rises_more [] t = refl
rises_more (u ∷ []) t = grind (arith, nat_tests)
rises_more (u ∷ v ∷ vs) t = grind (arith, nat_tests, rises_more (v ∷ vs) t)

pub small_more : (ts : List ℕ) (t : ℕ) → small ts ≡ true → t < 16777216 → small (ts ++ t ∷ []) ≡ true
unfolding small
small_more [] t below here = grind (arith, nat_tests)
small_more (u ∷ us) t below here = grind (arith, nat_tests, small_more us t)

-- the last taken back
rises_fewer : (ts : List ℕ) → rises ts ≡ true → rises (but_last ts) ≡ true
unfolding rises but_last
rises_fewer [] rising = refl
rises_fewer (t ∷ []) rising = refl
rises_fewer (t ∷ u ∷ []) rising = refl
rises_fewer (t ∷ u ∷ v ∷ vs) rising = grind (arith, nat_tests, rises_fewer (u ∷ v ∷ vs))

small_fewer : (ts : List ℕ) → small ts ≡ true → small (but_last ts) ≡ true
unfolding small but_last
small_fewer [] below = refl
small_fewer (t ∷ []) below = refl
small_fewer (t ∷ u ∷ us) below = grind (arith, nat_tests, small_fewer (u ∷ us))

length_fewer : (ts : List ℕ) → length (but_last ts) ≤ length ts
length_fewer ts = grind (arith, common_steps, but_last_is)

changed_sound : (most : ℕ) (ts : List ℕ) (c : Call) → turned most ts c ≡ 0 → Sound most ts → Sound most (changed ts c)
unfolding turned changed
changed_sound most ts (taps t) taken sound = grind (arith, nat_tests, length_push, rises_more ts t, small_more ts t sound.timely)
changed_sound most ts back taken sound =
    record { few = omega (arith, length_fewer ts, sound.few); rising = rises_fewer ts sound.rising; timely = small_fewer ts sound.timely }
changed_sound most ts cost taken sound = sound
changed_sound most ts read taken sound = sound
changed_sound most ts (garbled n) taken sound = sound

pub after_sound : (most : ℕ) (ts : List ℕ) (c : Call) → Sound most ts → Sound most (after most ts c)
after_sound most ts c sound = grind (arith, nat_tests, changed_sound)

ran_sound : (most : ℕ) (ts : List ℕ) (cs : List Call) → Sound most ts → Sound most (ran most ts cs)
unfolding ran
ran_sound most ts [] sound = sound
ran_sound most ts (c ∷ cs) sound = ran_sound most (after most ts c) cs (after_sound most ts c sound)

pub none_sound : (most : ℕ) → Sound most []
unfolding rises small
none_sound most = record { few = omega arith; rising = refl; timely = refl }

pub stays_sound : StaysSound
unfolding StaysSound
stays_sound most = (none_sound most, ran_sound most)

pub gaps_small : (ts : List ℕ) → small ts ≡ true → small (gaps ts) ≡ true
unfolding small gaps
gaps_small [] below = refl
gaps_small (t ∷ []) below = refl
gaps_small (t ∷ u ∷ us) below = grind (arith, nat_tests, gaps_small (u ∷ us))

pub small_gaps : SmallGaps
unfolding SmallGaps
small_gaps most ts sound = gaps_small ts sound.timely

-- no call makes the words more or fewer
stored_size : (ws : List ℕ) (c : Call) → length (stored ws c) ≡ length ws
stored_size ws (taps t) = grind (arith, length-set)
stored_size ws back = grind (arith, length-set)
stored_size ws cost = refl
stored_size ws read = refl
stored_size ws (garbled n) = refl

pub after_size : (ws : List ℕ) (c : Call) → length (words_after ws c) ≡ length ws
after_size ws c = grind (arith, stored_size)

pub after_limit : (ws : List ℕ) (c : Call) → limit_of (words_after ws c) ≡ limit_of ws
after_limit ws c = ap (λ n. min (n - 1) 256) (after_size ws c)

pub keeps_limit : KeepsLimit
unfolding KeepsLimit words_ran
keeps_limit ws [] = refl
keeps_limit ws (c ∷ cs) = keeps_limit (words_after ws c) cs ∙ after_limit ws c

pub follows : Follows
unfolding Follows words_ran ran
follows ws [] = refl
follows ws (c ∷ cs) = grind (arith, follows (words_after ws c) cs, after_limit, taps_after)

pub rises_first : (ts : List ℕ) → rises (take 1 ts) ≡ true
unfolding rises
rises_first [] = refl
rises_first (t ∷ ts) = refl

-- what a look at one time and the one before tells, after a look at those before it
pub rises_next : (ts : List ℕ) (i : ℕ) → 0 < i → i < length ts → rises (take (i + 1) ts) ≡ (rises (take i ts) && ltb (get_or ts (i - 1) 0) (get_or ts i 0))
rises_next ts i some below = grind (arith, nat_tests, common_steps, rises_more, last_is)

small_before : (t u : ℕ) (us : List ℕ) → t < u → small (t ∷ u ∷ us) ≡ small (u ∷ us)
unfolding small
small_before t u us earlier = grind (arith, nat_tests)

-- and where they rise, they are all below 2^24 if the last is
pub small_last : (ts : List ℕ) → rises ts ≡ true → small ts ≡ ltb (last_of 0 ts) 16777216
unfolding rises small last_of
small_last [] rising = refl
small_last (t ∷ []) rising = grind (arith, nat_tests)
small_last (t ∷ u ∷ us) rising =
    let both = and_parts (ltb t u) (rises (u ∷ us)) rising in
    small_before t u us (ltb-true t u both.0) ∙ small_last (u ∷ us) both.1

-- words that are told to be sound hold sound taps,
sound_from_words : (ws : List ℕ) → sound_words ws ≡ true → Sound (limit_of ws) (taps_in ws)
sound_from_words ws sound = grind (arith, nat_tests, count_is)

-- and those that hold sound taps are, if they count no more than there is room for
words_from_sound : (ws : List ℕ) → get_or ws 0 0 ≤ limit_of ws → Sound (limit_of ws) (taps_in ws) → sound_words ws ≡ true
words_from_sound ws fit sound = grind (arith, nat_tests)

stored_count : (ws : List ℕ) (c : Call) → turned (limit_of ws) (taps_in ws) c ≡ 0 → get_or ws 0 0 ≤ limit_of ws → get_or (stored ws c) 0 0 ≤ limit_of ws
unfolding turned
stored_count ws (taps t) taken fit = grind (arith, nat_tests, common_steps, count_is)
stored_count ws back taken fit = grind (arith, nat_tests, common_steps, count_is)
stored_count ws cost taken fit = fit
stored_count ws read taken fit = fit
stored_count ws (garbled n) taken fit = fit

-- no call counts more than there is room for, where words count no more
after_count : (ws : List ℕ) (c : Call) → get_or ws 0 0 ≤ limit_of ws → get_or (words_after ws c) 0 0 ≤ limit_of (words_after ws c)
after_count ws c fit = grind (arith, nat_tests, stored_count, after_limit)

-- so sound words stay sound, whatever is called
pub sound_words_after : (ws : List ℕ) (c : Call) → sound_words ws ≡ true → sound_words (words_after ws c) ≡ true
sound_words_after ws c sound =
    let taps_sound = after_sound (limit_of ws) (taps_in ws) c (sound_from_words ws sound) in
    grind (arith, nat_tests, after_count, after_limit, taps_after, words_from_sound)
