-- The parts of a desk's words, and how many words they have. Assumes nothing.
use Rattle.std.proofs.Common.{◌≡◌, ℕ, ◌+◌, ◌*◌, ◌-◌, ◌≤◌, true, false, List, [], ◌∷◌, ◌++◌, length, take, drop, None, Some, Option, IfNone, mul-le-mul, refl, ap, ◌∙◌, arith}
use Rattle.std.proofs.lemmas.Bool.{and_from, both_ways, le-leb}
use Rattle.std.proofs.lemmas.List.{take_at, drop_at, length-append, length-take-le, length-drop}
use Rattle.std.specs.Option.{IsSome, is_some}
use Rattle.taps.specs.Readings.{Book}
use Rattle.taps.specs.Calls as calls
use Rattle.taps.specs.Calls.{gaps, turned}
use Rattle.wire.specs.Wire.{answer_bytes}
use Rattle.octets.proofs.Front.{written_size}
use Rattle.onsets.specs.Onsets.{limit_of, taps_in, words_after}
use Rattle.onsets.proofs.Sound.{after_size}
use Rattle.onsets.proofs.Words.{count_is}
use Rattle.plain.specs.Rows.{kept_size, rows_size}
use Rattle.plain.proofs.Room.{most_room, rows_fewer}
use Rattle.answers.specs.Answered.{Answerable, adds, is_answered, kept_of, roomy, rows_after, rows_left}
use Rattle.answers.proofs.Always.{where_roomy}
use Rattle.answers.proofs.Returned.{answer_short}
use Rattle.session.specs.Laws.{Spares}
use Rattle.session.specs.Layout.{half, kept_words, taps_words}
use Rattle.session.specs.Session.{answer_room, left_after, right_after, said}

-- parts that are put together are found again
module _ (most : ℕ) (head words kept : List ℕ) (size_head : length head ≡ 39) (size_words : length words ≡ most + 1) where
  behind : drop 39 (head ++ (words ++ kept)) ≡ words ++ kept
  behind = drop_at head (words ++ kept) 39 size_head

  pub head_part : take 39 (head ++ (words ++ kept)) ≡ head
  head_part = take_at head (words ++ kept) 39 size_head

  pub taps_part : taps_words most (head ++ (words ++ kept)) ≡ words
  taps_part = ap (take (most + 1)) behind ∙ take_at words kept (most + 1) size_words

  pub kept_part : kept_words most (head ++ (words ++ kept)) ≡ kept
  kept_part = ap (drop (most + 1)) behind ∙ drop_at words kept (most + 1) size_words

  size_of_parts : (k : ℕ) → length kept ≡ k → length (head ++ (words ++ kept)) ≡ 39 + (most + 1) + k
  size_of_parts k size_kept = omega (arith, length-append head (words ++ kept), length-append words kept, size_head, size_words, size_kept)

-- no call makes the words for rows more or fewer
left_size : (b : Book) (gs old : List ℕ) → length (rows_left b gs old) ≡ length old
left_size b [] old = refl
left_size b (g ∷ gs) old = written_size _ old

rows_length : (b : Book) (ts : List ℕ) (c : calls.Call) (old : List ℕ) → length (rows_after b ts c old) ≡ length old
rows_length b ts (calls.taps t) old = refl
rows_length b ts calls.back old = refl
rows_length b ts calls.cost old = refl
rows_length b ts calls.read old = left_size b (gaps ts) old
rows_length b ts (calls.garbled p) old = refl

none_told : IsSome {T = ℕ} None → ⊥
none_told some = both_ways (is_some {T = ℕ} None) refl some

-- of words that are just a desk's
module _ (b : Book) (most : ℕ) (left : List ℕ) (left_size : length left ≡ half b most) where
  pub size_of_head : length (take 39 left) ≡ 39
  size_of_head = length-take-le 39 left (omega (arith, left_size))

  size_of_taps : length (taps_words most left) ≡ most + 1
  size_of_taps = length-take-le (most + 1) (drop 39 left) (omega (arith, left_size, length-drop 39 left))

  pub size_of_kept : length (kept_words most left) ≡ kept_size b (most - 1)
  size_of_kept = omega (arith, left_size, length-drop 39 left, length-drop (most + 1) (drop 39 left))

  pub limit_is : most ≤ 256 → limit_of (taps_words most left) ≡ most
  limit_is few = omega (arith, size_of_taps, few)

  -- there is room for all rows, so that all calls are answered
  pub all_answered : (right : List ℕ) (c : calls.Call) → most ≤ 256 → length right ≡ half b most → is_answered b (taps_words most left) (kept_words most left) right c ≡ true
  all_answered right c few right_size =
      let kept : kept_size b (most - 1) ≤ length (kept_words most left) = omega (arith, size_of_kept) in
      let rows : rows_size b (most - 1) ≤ length right = omega (arith, right_size, rows_fewer b (most - 1)) in
      let room = and_from _ _ (le-leb (kept_size b (most - 1)) (length (kept_words most left)) kept) (le-leb (rows_size b (most - 1)) (length right) rows) in
      where_roomy b (limit_of (taps_words most left)) (length (kept_words most left)) (length right) c (ap (λ m. roomy b m (length (kept_words most left)) (length right)) (limit_is few) ∙ room)

  -- a call that is not answered asks for what is kept, and changes no word of the taps
  pub unanswered_asks : (c : calls.Call) (told : Option ℕ) (P Q : Type 0) → (Answerable b (taps_words most left) (kept_words most left) c → IsSome told) →
      ((words_after (taps_words most left) c ≡ taps_words most left) × (adds most (taps_in (taps_words most left)) c ≡ false) → P → Q) → IfNone told P → IfNone told Q
  unfolding turned
  unanswered_asks c (Some n) P Q sure then none = tt
  unanswered_asks (calls.taps t) None P Q sure then none = absurd (none_told (sure tt))
  unanswered_asks calls.back None P Q sure then none = absurd (none_told (sure tt))
  unanswered_asks calls.cost None P Q sure then none = then (refl, refl) none
  unanswered_asks calls.read None P Q sure then none = then (refl, refl) none
  unanswered_asks (calls.garbled p) None P Q sure then none = absurd (none_told (sure tt))

  -- the bytes that are lent have room for the answer
  pub answer_fits_room : (c : calls.Call) → most ≤ 256 → length (answer_bytes (said b most left c)) ≤ answer_room most
  answer_fits_room c few = answer_short b most (taps_in (taps_words most left)) c (omega (arith, count_is (taps_words most left), limit_is few))

  -- and no call makes the words more or fewer
  module _ (c : calls.Call) where
    pub size_taps_after : length (words_after (taps_words most left) c) ≡ most + 1
    size_taps_after = after_size (taps_words most left) c ∙ size_of_taps

    pub size_left_after : length (left_after b most left c) ≡ half b most
    size_left_after =
        let kept = written_size (kept_of b (calls.after most (taps_in (taps_words most left)) c)) (kept_words most left) ∙ size_of_kept in
        size_of_parts most (take 39 left) (words_after (taps_words most left) c) _ size_of_head size_taps_after (kept_size b (most - 1)) kept

    pub size_right_after : (right : List ℕ) → length right ≡ half b most → length (right_after b most left right c) ≡ half b most
    size_right_after right same = rows_length b (taps_in (taps_words most left)) c right ∙ same

-- what both slices take is bounded
pub spares : Spares
unfolding Spares
spares b most good few =
    let more : (most - 1) * (1 + length b.tempi + length b.tempi) ≤ most * (1 + length b.tempi + length b.tempi) = mul-le-mul (omega arith) (omega arith) in
    (omega (arith, more, few, good.4), omega (arith, (most_room b (most - 1) (omega (arith, few)) good.4).1, few))
