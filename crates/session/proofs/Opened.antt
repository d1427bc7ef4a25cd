-- A desk that was just opened. Assumes nothing.
use Rattle.std.proofs.Common.{◌≡◌, ℕ, ◌+◌, ◌<◌, ◌≤◌, true, min, List, [], ◌++◌, length, take, drop, replicate, slice_index, refl, sym, ap, ◌∙◌, subst, arith}
use Rattle.std.proofs.lemmas.Bool.Decides.{nat_tests}
use Rattle.std.proofs.lemmas.Grind.{common_steps}
use Rattle.std.proofs.lemmas.List.{get_or-drop, get_or-take, take_at, drop_at, length-replicate}
use Rattle.taps.specs.Readings.{Book}
use Rattle.taps.specs.Promise.{GoodBook, small}
use Rattle.octets.specs.Bytes.{written}
use Rattle.octets.proofs.Front.{written_size}
use Rattle.onsets.specs.Laws.{rises, sound_words}
use Rattle.onsets.specs.Onsets.{limit_of, taps_in}
use Rattle.answers.proofs.Kept.{held_none}
use Rattle.session.specs.Layout.{half, head_of, kept_words, left_opened, own, right_opened, setup_in, taps_words}
use Rattle.session.specs.Session.{IsDesk, Stands, desk, memory}
use Rattle.session.proofs.Opening.{head_read, size_head, zero_at}

-- what is written into a slice that is long enough is there in front, and the rest is as it was
pub written_whole : (xs old rest : List ℕ) (n : ℕ) → length xs ≡ n → n ≤ length old → rest ≡ drop n old → xs ++ rest ≡ written xs old
written_whole xs old rest n size fits is = grind (arith, nat_tests, common_steps)

front_written : (xs old : List ℕ) (n : ℕ) → length xs ≡ n → n ≤ length old → take n (written xs old) ≡ xs
front_written xs old n size fits = ap (take n) (sym (written_whole xs old (drop n old) n size fits refl)) ∙ take_at xs (drop n old) n size

-- words whose count is 0 hold no taps, and are as a desk leaves them
none_held : (ws : List ℕ) → slice_index ws 0 ≡ 0 → taps_in ws ≡ []
none_held ws none =
    let few : min (slice_index ws 0) (limit_of ws) ≡ 0 = omega (arith, none) in
    ap (λ k. take k (drop 1 ws)) few

none_sound : (ws : List ℕ) → slice_index ws 0 ≡ 0 → sound_words ws ≡ true
unfolding rises small
none_sound ws none = grind (arith, nat_tests, none_held ws none)

module _ (b : Book) (most : ℕ) (good : GoodBook b) (few : most ≤ 256) where
  abbrev blank : List ℕ
  blank = replicate (half b most) 0

  long : 39 ≤ length blank
  long = omega (arith, length-replicate {A = ℕ} (half b most) 0)

  pub size_left : length (left_opened b most) ≡ half b most
  size_left = written_size (head_of b most) blank ∙ length-replicate (half b most) 0

  pub size_right : length (right_opened b most) ≡ half b most
  size_right = length-replicate (half b most) 0

  left_is : left_opened b most ≡ head_of b most ++ drop 39 blank
  left_is = sym (written_whole (head_of b most) blank (drop 39 blank) 39 (size_head b most) long refl)

  none : slice_index (taps_words most (left_opened b most)) 0 ≡ 0
  none =
      let behind : drop 39 (left_opened b most) ≡ drop 39 blank = ap (drop 39) left_is ∙ drop_at (head_of b most) (drop 39 blank) 39 (size_head b most) in
      let inside : 0 < most + 1 = omega arith in
      get_or-take (most + 1) (drop 39 (left_opened b most)) 0 0 inside ∙ ap (λ ws. slice_index ws 0) behind ∙ get_or-drop 39 blank 0 0 ∙ zero_at (half b most) 39

  pub opened_none : taps_in (taps_words most (left_opened b most)) ≡ []
  opened_none = none_held (taps_words most (left_opened b most)) none

  pub opened_stands : Stands b most (left_opened b most) (right_opened b most)
  opened_stands = record {
    good = good;
    few = few;
    setup = ap setup_in left_is ∙ head_read b most (drop 39 blank) good few;
    left_size = size_left;
    right_size = size_right;
    sound = none_sound (taps_words most (left_opened b most)) none;
    held = held_none b (taps_words most (left_opened b most)) (kept_words most (left_opened b most)) opened_none;
  }

  -- and so it is in slices that were longer
  pub opened_slices : (left right left_new right_new : List ℕ) → half b most ≤ length left → half b most ≤ length right →
      left_new ≡ written (left_opened b most) left → right_new ≡ written (right_opened b most) right → (memory b most left_new right_new ≡ desk.opened b most) × IsDesk b most left_new right_new
  opened_slices left right left_new right_new left_fits right_fits left_is right_is =
      let own_left : own b most left_new ≡ left_opened b most = ap (own b most) left_is ∙ front_written (left_opened b most) left (half b most) size_left left_fits in
      let own_right : own b most right_new ≡ right_opened b most = ap (own b most) right_is ∙ front_written (right_opened b most) right (half b most) size_right right_fits in (
        λ j. record { words = own_left j ++ own_right j },
        subst (λ l. Stands b most l (own b most right_new)) (sym own_left) (subst (Stands b most (left_opened b most)) (sym own_right) opened_stands),
      )
