-- What is kept of taps, while they come and are taken back. Assumes nothing.
use Rattle.std.proofs.Common.{◌≡◌, ℕ, ◌+◌, ◌-◌, ◌<◌, ◌≤◌, true, ltb, nat_le, List, [], ◌∷◌, ◌++◌, length, Some, None, Option, refl, sym, ap, ◌∙◌, subst, arith}
use Rattle.std.specs.Option.{IsSome, is_some, MatchOption}
use Rattle.std.proofs.lemmas.Bool.{and_parts, both_ways, ltb-true}
use Rattle.std.proofs.lemmas.Bool.Decides.{nat_tests}
use Rattle.std.proofs.lemmas.List.Elements.{All-cons}
use Rattle.std.proofs.lemmas.Option.{none-some}
use Rattle.taps.specs.Readings.{pick, Book}
use Rattle.taps.specs.Calls as calls
use Rattle.taps.specs.Calls.{taps, back, garbled, gaps, last_of, but_last, turned, changed, after}
use Rattle.taps.specs.Promise.{small}
use Rattle.taps.proofs.Between.{length_gaps, gaps_more, gaps_fewer}
use Rattle.octets.specs.Bytes.{StartsWith, room, written}
use Rattle.octets.proofs.Front.{starts_same, starts_first, starts_written}
use Rattle.onsets.specs.Onsets.{limit_of, taps_in, last_in, words_after}
use Rattle.onsets.specs.Laws.{Sound}
use Rattle.onsets.proofs.Sound.{none_sound, after_limit, after_sound}
use Rattle.onsets.proofs.Words.{taps_after}
use Rattle.plain.specs.Restricted.{Short}
use Rattle.plain.specs.Rows.{kept_rows, kept_size, rows}
use Rattle.plain.proofs.Room as rooms
use Rattle.plain.proofs.Room.{kept_more, kept_sizes}
use Rattle.answers.specs.Answered.{Held, kept_of, kept_after, rows_left}

module _ (b : Book) where
  -- there is room for the rows of as many taps as the limit
  kept_room : (most : ℕ) (ts : List ℕ) → length ts ≤ most → length (kept_of b ts) ≤ kept_size b (most - 1)
  kept_room most [] few = omega arith
  kept_room most (t ∷ ts) few = rooms.kept_room b (gaps (t ∷ ts)) (most - 1) (omega (arith, length_gaps (t ∷ ts)))

  -- what is kept of all taps begins with what is kept of all but the last
  fewer_kept : (ts ws : List ℕ) → StartsWith (kept_of b ts) ws → StartsWith (kept_of b (but_last ts)) ws
  unfolding but_last
  fewer_kept [] ws h = h
  fewer_kept (t ∷ []) ws h = refl
  fewer_kept (t ∷ u ∷ us) ws h =
      let g = gaps_fewer t u us in
      starts_first (kept_of b (but_last (t ∷ u ∷ us))) _ ws (subst (λ xs. StartsWith xs ws) (ap (kept_rows b) g.1 ∙ kept_more b (gaps (but_last (t ∷ u ∷ us))) g.0) h)

  module _ (most : ℕ) (ts ws : List ℕ) (starts : StartsWith (kept_of b ts) ws) where
    -- a call that takes a tap back, or leaves the taps as they are, changes nothing of it
    pub kept_back : ws ≡ kept_after b most ts back ws
    unfolding changed
    kept_back = grind (arith, nat_tests, starts_same (kept_of b ts) ws starts, starts_same (kept_of b (but_last ts)) ws (fewer_kept ts ws starts))

    pub kept_asked : (c : calls.Call) → changed ts c ≡ ts → ws ≡ kept_after b most ts c ws
    kept_asked c same = grind (arith, nat_tests, starts_same (kept_of b ts) ws starts)

    pub kept_garbled : (p : ℕ) → ws ≡ kept_after b most ts (garbled p) ws
    unfolding changed
    kept_garbled p = kept_asked (garbled p) refl

    -- one row more is kept
    pub kept_tap : (t : ℕ) (new : List ℕ) → turned most ts (taps t) ≡ 0 → new ≡ written (kept_of b (ts ++ t ∷ [])) ws → new ≡ kept_after b most ts (taps t) ws
    unfolding changed
    kept_tap t new taken is = grind (arith, nat_tests)

pub some_taps : (ts : List ℕ) (last : ℕ) → last_in ts ≡ Some last → 0 < length ts
some_taps [] last e = absurd (none-some last e)
some_taps (t ∷ ts) last e = omega arith

-- of some taps, what is kept of their gaps
pub kept_some : (b : Book) (ts : List ℕ) → 0 < length ts → kept_of b ts ≡ kept_rows b (gaps ts)
kept_some b [] some = absurd (omega arith)
kept_some b (t ∷ ts) some = refl

pub rows_some : (b : Book) (gs old : List ℕ) → 0 < length gs → rows_left b gs old ≡ written (rows b gs) old
rows_some b [] old some = absurd (omega arith)
rows_some b (g ∷ gs) old some = refl

-- the gaps of a desk's taps are short
pub small_short : (gs : List ℕ) → small gs ≡ true → Short gs
unfolding small
small_short [] h = λ i d l. absurd (omega arith)
small_short (g ∷ gs) h = let p = and_parts (ltb g 16777216) (small gs) h in All-cons (λ h. h < 16777216) g gs (ltb-true g 16777216 p.0) (small_short gs p.1)

-- a tap that is taken has a row for which there is room
module _ (b : Book) (most : ℕ) (ts : List ℕ) (t : ℕ) (old : List ℕ) (taken : turned most ts (taps t) ≡ 0) (large : kept_size b (most - 1) ≤ length old) where
  below : length ts < most
  unfolding turned
  below = grind (arith, nat_tests)

  pub start_fits : (told : Option ℕ) → told ≡ room (kept_rows b []) old → IsSome told
  start_fits told is = let fits = rooms.kept_room b [] (most - 1) (omega arith) in grind (arith, nat_tests, is, fits, large)

  pub gap_fits : (told : Option ℕ) (done : ℕ) → done + 1 ≡ length ts → told ≡ pick (nat_le (kept_size b (done + 1)) (length old)) (Some (kept_size b (done + 1))) None → IsSome told
  gap_fits told done many is = let fits = kept_sizes b (done + 1) (most - 1) (omega (arith, below, many)) in grind (arith, nat_tests, is, fits, large)

no_taps : (b : Book) (t : ℕ) (ts : List ℕ) → last_in ts ≡ None → kept_of b (ts ++ t ∷ []) ≡ kept_rows b []
unfolding gaps
no_taps b t [] none = refl
no_taps b t (u ∷ us) none = absurd (none-some (last_of u us) (sym none))

one_more : (b : Book) (t : ℕ) (ts : List ℕ) (last gap : ℕ) → last_in ts ≡ Some last → gap ≡ t - last → kept_of b (ts ++ t ∷ []) ≡ kept_rows b (gaps ts ++ gap ∷ [])
one_more b t [] last gap some far = absurd (none-some last some)
one_more b t (u ∷ us) last gap some far =
    let same : last_of u us ≡ last = cc in
    ap (kept_rows b) (gaps_more u us t) ∙ ap (λ g. kept_rows b (gaps (u ∷ us) ++ g ∷ [])) (sym (far ∙ ap (λ l. t - l) (sym same)))

-- the row is that of the taps with the new one
module _ (b : Book) (ts : List ℕ) (t : ℕ) (old new : List ℕ) where
  pub start_kept : last_in ts ≡ None → new ≡ written (kept_rows b []) old → new ≡ written (kept_of b (ts ++ t ∷ [])) old
  start_kept none left = left ∙ ap (λ ws. written ws old) (sym (no_taps b t ts none))

  pub gap_kept : (last gap : ℕ) → last_in ts ≡ Some last → gap ≡ t - last → new ≡ written (kept_rows b (gaps ts ++ gap ∷ [])) old → new ≡ written (kept_of b (ts ++ t ∷ [])) old
  gap_kept last gap some far left = left ∙ ap (λ ws. written ws old) (sym (one_more b t ts last gap some far))

-- where something is told, what is promised then holds
pub told_then : (P : Type 0) (Q : ℕ → Type 0) (told : Option ℕ) → IsSome told → MatchOption told P Q → (n : ℕ) × Q n
told_then P Q None some m = absurd (both_ways (is_some {T = ℕ} None) refl some)
told_then P Q (Some n) some m = (n, m)

-- with no tap nothing is kept
pub held_none : (b : Book) (words kept : List ℕ) → taps_in words ≡ [] → Held b words kept
held_none b words kept none = record {
  sound = subst (Sound (limit_of words)) (sym none) (none_sound (limit_of words));
  starts = subst (λ ts. StartsWith (kept_of b ts) kept) (sym none) refl;
}

-- after a call the words are as a desk holds them
pub held_after : (b : Book) (words kept words_new kept_new : List ℕ) (c : calls.Call) → Held b words kept → kept_size b (limit_of words - 1) ≤ length kept → words_new ≡ words_after words c →
    kept_new ≡ kept_after b (limit_of words) (taps_in words) c kept → Held b words_new kept_new
held_after b words kept words_new kept_new c held large stored filled =
    let taps : taps_in words_new ≡ after (limit_of words) (taps_in words) c = ap taps_in stored ∙ taps_after words c in
    let limit : limit_of words_new ≡ limit_of words = ap limit_of stored ∙ after_limit words c in
    let sound : Sound (limit_of words) (after (limit_of words) (taps_in words) c) = after_sound (limit_of words) (taps_in words) c held.sound in
    let fits : length (kept_of b (after (limit_of words) (taps_in words) c)) ≤ length kept = omega (arith, kept_room b (limit_of words) (after (limit_of words) (taps_in words) c) sound.few, large) in
    record {
      sound = subst (λ m. Sound m (taps_in words_new)) (sym limit) (subst (Sound (limit_of words)) (sym taps) sound);
      starts = subst (StartsWith (kept_of b (taps_in words_new))) (sym filled) (subst (λ ts. StartsWith (kept_of b ts) (kept_after b (limit_of words) (taps_in words) c kept)) (sym taps) (starts_written _ kept fits));
    }
