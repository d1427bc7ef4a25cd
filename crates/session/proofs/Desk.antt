-- The desk of the definitions: what its memory holds after opening and any calls, and what it tells. Assumes nothing.
use Rattle.std.proofs.Common.{◌≡◌, ℕ, ◌+◌, ◌-◌, ◌<◌, ◌≤◌, true, List, [], ◌∷◌, ◌++◌, length, take, drop, Some, refl, sym, ap, ◌∙◌, subst, arith}
use Rattle.std.proofs.lemmas.Bool.Decides.{nat_tests}
use Rattle.std.proofs.lemmas.List.{take_at, drop_at, take-append-drop, length-append}
use Rattle.taps.specs.Readings.{Book}
use Rattle.taps.specs.Calls as calls
use Rattle.taps.specs.Calls.{turned, after, answers, ran}
use Rattle.taps.specs.Promise.{GoodBook, Memory, Desk, told_by, left_by, Right, RefusalKeeps}
use Rattle.octets.specs.Bytes.{written}
use Rattle.octets.proofs.Front.{starts_same}
use Rattle.onsets.specs.Laws.{Sound, sound_words}
use Rattle.onsets.specs.Onsets.{limit_of, taps_in, words_after}
use Rattle.onsets.proofs.Sound.{after_sound, none_sound, sound_words_after}
use Rattle.onsets.proofs.Words.{taps_after}
use Rattle.answers.specs.Answered.{kept_after, kept_of, rows_after}
use Rattle.answers.proofs.Kept.{held_after}
use Rattle.answers.proofs.Promised.{best}
use Rattle.plain.specs.Rows.{kept_size}
use Rattle.session.specs.Laws.{AllBest, StaysDesk, TellsBest}
use Rattle.session.specs.Layout.{half, kept_words, left_opened, own, right_opened, setup_in, taps_words}
use Rattle.session.specs.Session.{Stands, desk, left_after, next_of, right_after, said, says_of}
use Rattle.session.proofs.Opened.{opened_stands, opened_none}
use Rattle.session.proofs.Opening.{head_front}
use Rattle.session.proofs.Parts.{head_part, kept_part, limit_is, size_left_after, size_of_head, size_of_kept, size_right_after, size_taps_after, taps_part}

abbrev pub mem : List ℕ → List ℕ → Memory
mem left right = record { words = left ++ right }

-- words that can be read as a desk's, in front of others
module _ (b : Book) (most : ℕ) (left right : List ℕ) (setup : setup_in left ≡ Some (record { book = b; limit = most })) (left_size : length left ≡ half b most) where
  own_left : own b most (left ++ right) ≡ left
  own_left = take_at left right (half b most) left_size

  own_right : drop (half b most) (left ++ right) ≡ right
  own_right = drop_at left right (half b most) left_size

  reads : setup_in (left ++ right) ≡ Some (record { book = b; limit = most })
  reads =
      let long : half b most ≤ length (left ++ right) = omega (arith, length-append left right, left_size) in
      sym (head_front (half b most) (left ++ right) (omega arith) long) ∙ ap setup_in own_left ∙ setup

  pub says_is : (c : calls.Call) → desk.says (mem left right) c ≡ said b most left c
  says_is c = (λ j. says_of (reads j) (left ++ right) c) ∙ ap (λ ws. said b most ws c) own_left

  pub next_is : (c : calls.Call) → desk.next (mem left right) c ≡ mem (left_after b most left c) (right_after b most left right c)
  next_is c =
      (λ j. record { words = next_of (reads j) (left ++ right) c })
      ∙ (λ j. record { words = left_after b most (own_left j) c ++ right_after b most (own_left j) (own_right j) c })

module _ (b : Book) (most : ℕ) (left right : List ℕ) (is : Stands b most left right) (c : calls.Call) where
  abbrev words : List ℕ
  words = taps_words most left

  abbrev ts : List ℕ
  ts = taps_in words

  limit : limit_of words ≡ most
  limit = limit_is b most left is.left_size is.few

  head_size : length (take 39 left) ≡ 39
  head_size = size_of_head b most left is.left_size

  words_size : length (words_after words c) ≡ most + 1
  words_size = size_taps_after b most left is.left_size c

  words_are : taps_words most (left_after b most left c) ≡ words_after words c
  words_are = taps_part most (take 39 left) (words_after words c) _ head_size words_size

  kept_are : kept_words most (left_after b most left c) ≡ kept_after b most ts c (kept_words most left)
  kept_are = kept_part most (take 39 left) (words_after words c) _ head_size words_size

  head_is : take 39 (left_after b most left c) ≡ take 39 left
  head_is = head_part most (take 39 left) (words_after words c) _ head_size words_size

  -- the taps after a call
  taps_are : taps_in (taps_words most (left_after b most left c)) ≡ after most ts c
  taps_are = ap taps_in words_are ∙ taps_after words c ∙ ap (λ m. after m ts c) limit

  -- and the words are as a desk leaves them again
  pub stands_after : Stands b most (left_after b most left c) (right_after b most left right c)
  stands_after =
      let size = size_left_after b most left is.left_size c in
      let fits : kept_size b (limit_of words - 1) ≤ length (kept_words most left) = omega (arith, ap (λ m. kept_size b (m - 1)) limit, size_of_kept b most left is.left_size) in
      let filled : kept_words most (left_after b most left c) ≡ kept_after b (limit_of words) ts c (kept_words most left) = kept_are ∙ ap (λ m. kept_after b m ts c (kept_words most left)) (sym limit) in
      record {
        good = is.good;
        few = is.few;
        setup = sym (head_front 39 (left_after b most left c) (omega arith) (omega (arith, size))) ∙ ap setup_in head_is ∙ head_front 39 left (omega arith) (omega (arith, is.left_size)) ∙ is.setup;
        left_size = size;
        right_size = size_right_after b most left is.left_size c right is.right_size;
        sound = subst (λ ws. sound_words ws ≡ true) (sym words_are) (sound_words_after words c is.sound);
        held = held_after b words (kept_words most left) _ _ c is.held fits words_are filled;
      }

  -- what is refused changes no word
  module _ (refused : 0 < turned most ts c) where
    same_taps : after most ts c ≡ ts
    same_taps = grind (arith, nat_tests)

    same_words : words_after words c ≡ words
    same_words = grind (arith, nat_tests, ap (λ m. turned m ts c) limit)

    same_kept : kept_after b most ts c (kept_words most left) ≡ kept_words most left
    same_kept = ap (λ us. written (kept_of b us) (kept_words most left)) same_taps ∙ sym (starts_same (kept_of b ts) (kept_words most left) is.held.starts)

    same_left : left_after b most left c ≡ left
    same_left =
        (λ j. take 39 left ++ (same_words j ++ same_kept j)) ∙ ap (λ ws. take 39 left ++ ws) (take-append-drop (most + 1) (drop 39 left)) ∙ take-append-drop 39 left

refused_rows : (b : Book) (most : ℕ) (ts : List ℕ) (c : calls.Call) (rows : List ℕ) → 0 < turned most ts c → rows_after b ts c rows ≡ rows
unfolding turned
refused_rows b most ts (calls.taps t) rows refused = refl
refused_rows b most ts calls.back rows refused = refl
refused_rows b most ts calls.cost rows refused = absurd (omega (arith, refused))
refused_rows b most ts calls.read rows refused = absurd (omega (arith, refused))
refused_rows b most ts (calls.garbled p) rows refused = refl

-- a list of calls: what is told, and what is left
told_is : (b : Book) (most : ℕ) (cs : List calls.Call) (left right : List ℕ) → Stands b most left right → told_by desk (mem left right) cs ≡ answers b most (taps_in (taps_words most left)) cs
unfolding told_by answers
told_is b most [] left right is = refl
told_is b most (c ∷ cs) left right is =
    let rest = ap (λ m. told_by desk m cs) (next_is b most left right is.setup is.left_size c) ∙ told_is b most cs _ _ (stands_after b most left right is c) ∙ ap (λ us. answers b most us cs) (taps_are b most left right is c) in
    λ j. says_is b most left right is.setup is.left_size c j ∷ rest j

-- the memory after calls is a desk's, and holds these taps
pub record Left (b : Book) (most : ℕ) (m : Memory) (ts : List ℕ) : Type 0 where
  pub left : List ℕ
  pub right : List ℕ
  pub is : m ≡ mem left right
  pub stands : Stands b most left right
  pub taps : taps_in (taps_words most left) ≡ ts

pub left_is : (b : Book) (most : ℕ) (cs : List calls.Call) (left right : List ℕ) → Stands b most left right → Left b most (left_by desk (mem left right) cs) (ran most (taps_in (taps_words most left)) cs)
unfolding left_by ran
left_is b most [] left right is = record { left = left; right = right; is = refl; stands = is; taps = refl }
left_is b most (c ∷ cs) left right is =
    let rest = left_is b most cs _ _ (stands_after b most left right is c) in
    record {
      left = rest.left;
      right = rest.right;
      is = ap (λ m. left_by desk m cs) (next_is b most left right is.setup is.left_size c) ∙ rest.is;
      stands = rest.stands;
      taps = rest.taps ∙ ap (λ us. ran most us cs) (taps_are b most left right is c);
    }

told_opened : (b : Book) (most : ℕ) (cs : List calls.Call) → GoodBook b → most ≤ 256 → told_by desk (desk.opened b most) cs ≡ answers b most [] cs
told_opened b most cs good few = told_is b most cs (left_opened b most) (right_opened b most) (opened_stands b most good few) ∙ ap (λ us. answers b most us cs) (opened_none b most good few)

pub desk_right : Right desk
unfolding Right
desk_right b most cs good few readable = told_opened b most cs good few

-- a call more
pub left_more : (d : Desk) (cs : List calls.Call) (m : Memory) (c : calls.Call) → d.next (left_by d m cs) c ≡ left_by d m (cs ++ c ∷ [])
unfolding left_by
left_more d [] m c = refl
left_more d (e ∷ cs) m c = left_more d cs (d.next m e) c

pub left_opened_is : (b : Book) (most : ℕ) (cs : List calls.Call) → GoodBook b → most ≤ 256 → Left b most (left_by desk (desk.opened b most) cs) (ran most [] cs)
left_opened_is b most cs good few = subst (λ us. Left b most (left_by desk (desk.opened b most) cs) (ran most us cs)) (opened_none b most good few) (left_is b most cs (left_opened b most) (right_opened b most) (opened_stands b most good few))

-- what is refused changes nothing
pub refused_stays : (b : Book) (most : ℕ) (cs : List calls.Call) (c : calls.Call) → GoodBook b → most ≤ 256 → 0 < turned most (ran most [] cs) c →
    desk.next (left_by desk (desk.opened b most) cs) c ≡ left_by desk (desk.opened b most) cs
refused_stays b most cs c good few refused =
    let done = left_opened_is b most cs good few in
    let is = done.stands in
    let number : 0 < turned most (taps_in (taps_words most done.left)) c = subst (λ us. 0 < turned most us c) (sym done.taps) refused in
    let rows = refused_rows b most (taps_in (taps_words most done.left)) c done.right number in
    ap (λ m. desk.next m c) done.is ∙ next_is b most done.left done.right is.setup is.left_size c ∙ (λ j. mem (same_left b most done.left done.right is c number j) (rows j)) ∙ sym done.is

pub desk_keeps : RefusalKeeps desk
unfolding RefusalKeeps
desk_keeps b most cs c good few readable refused = refused_stays b most cs c good few refused

pub desk_stays : StaysDesk
unfolding StaysDesk
desk_stays b most cs good few =
    let done = left_opened_is b most cs good few in
    let is = done.stands in
    let front = own_left b most done.left done.right is.setup is.left_size in
    let back = own_right b most done.left done.right is.setup is.left_size in
    subst (λ m. Stands b most (own b most m.words) (drop (half b most) m.words)) (sym done.is)
    (subst (λ ws. Stands b most ws (drop (half b most) (done.left ++ done.right))) (sym front) (subst (Stands b most done.left) (sym back) is))

-- all that the definitions answer is right of all readings
all_best : (b : Book) (most : ℕ) (us : List ℕ) (cs : List calls.Call) → GoodBook b → Sound most us → most ≤ 256 → AllBest b most us cs (answers b most us cs)
unfolding AllBest answers
all_best b most us [] good sound few = refl
all_best b most us (c ∷ cs) good sound few = (best b most us c good sound few, all_best b most (after most us c) cs good (after_sound most us c sound) few)

pub desk_best : TellsBest
unfolding TellsBest
desk_best b most cs good few = subst (AllBest b most [] cs) (sym (told_opened b most cs good few)) (all_best b most [] cs good (none_sound most) few)
