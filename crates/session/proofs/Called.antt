-- A call over slices that hold a desk in front. Assumes nothing.
use Rattle.std.proofs.Common.{◌≡◌, ℕ, ◌<◌, ◌≤◌, nat_le, Bool, false, ◌&&◌, List, ◌++◌, length, take, drop, Some, None, Option, Result, IfSome, IfNone, IfOk, IfErr, refl, sym, ap, ◌∙◌, subst, arith}
use Rattle.std.specs.Option.{ok_or}
use Rattle.std.proofs.lemmas.Bool.{and_from, and_parts, le-leb, leb-true}
use Rattle.std.proofs.lemmas.List.{take_at, drop_at, length-take, length-take-le, take-append-drop, take-take}
use Rattle.std.proofs.lemmas.Option.{none-some}
use Rattle.std.proofs.lemmas.Bool.Decides.{nat_tests}
use Rattle.taps.specs.Readings.{pick, Book}
use Rattle.taps.specs.Calls as calls
use Rattle.taps.proofs.Picks.{picked}
use Rattle.octets.proofs.Found.{found_is, found_test}
use Rattle.onsets.specs.Laws.{sound_words}
use Rattle.onsets.specs.Onsets.{taps_in, words_after}
use Rattle.answers.specs.Answered.{adds}
use Rattle.session.specs.Layout.{Opened, checked, desk_in, half, kept_words, own, setup_in, taps_words}
use Rattle.session.specs.Session.{IsDesk, answer_room, OfDesk, Stands, desk, kept_held, left_after, memory, right_after, said, taps_held, unanswered, words_held}
use Rattle.session.specs.declared.Unanswered.{Unanswered}
use Rattle.session.specs.declared.Unanswered.TheVariants.{AnswerTooSmall}
use Rattle.session.proofs.Desk.{mem, next_is, says_is, stands_after}
use Rattle.session.proofs.Opening.{head_front}

-- a slice has the words that are taken of it
owned : (n : ℕ) (words : List ℕ) → length (take n words) ≡ n → n ≤ length words
owned n words size = omega (arith, size, length-take n words)

-- what is read of slices that hold a desk
checked_is : (o : Option Opened) (left right : List ℕ) (s : Opened) → checked o left right ≡ Some s → (o ≡ Some s) × (half s.book s.limit ≤ length left) × (half s.book s.limit ≤ length right)
checked_is None left right s is = absurd (none-some s is)
checked_is (Some t) left right s is =
    let same : s ≡ t = found_is _ s t (sym is) in
    let n : ℕ = half t.book t.limit in
    let long = and_parts (nat_le n (length left)) (nat_le n (length right)) (and_parts _ _ (found_test _ s t (sym is))).0 in
    subst (λ u. (Some t ≡ Some u) × (half u.book u.limit ≤ length left) × (half u.book u.limit ≤ length right)) (sym same) (refl, leb-true n (length left) long.0, leb-true n (length right) long.1)

pub desk_found : (left right : List ℕ) (s : Opened) → desk_in left right ≡ Some s → (setup_in left ≡ Some s) × (half s.book s.limit ≤ length left) × (half s.book s.limit ≤ length right)
desk_found left right s is = checked_is (setup_in left) left right s is

pub found_fits : (left right : List ℕ) (s : Opened) (n : ℕ) → Some s ≡ desk_in left right → n ≡ half s.book s.limit → (n ≤ length left) × (n ≤ length right)
found_fits left right s n reads is =
    let found = desk_found left right s (sym reads) in
    (subst (λ m. m ≤ length left) (sym is) found.1, subst (λ m. m ≤ length right) (sym is) found.2)

-- what holds of what is read holds of any book and limit that are read
pub of_desk : (left right : List ℕ) (room : ℕ) (s : Opened) → desk_in left right ≡ Some s → (P : Book → ℕ → Type 0) → P s.book s.limit → OfDesk left right room P
of_desk left right room s is P holds b most reads fits =
    let same : s ≡ record { book = b; limit = most } = cc in
    subst (λ t. P t.book t.limit) same holds

-- where there is too little room for what is read, there is none for any book and limit that are read
pub too_small : (left right : List ℕ) (s : Opened) (room : ℕ) → desk_in left right ≡ Some s → room < answer_room s.limit → (b : Book) (most : ℕ) →
    desk_in left right ≡ Some (record { book = b; limit = most }) → answer_room most ≤ room → ⊥
too_small left right s room is small b most reads fits =
    let same : s ≡ record { book = b; limit = most } = cc in
    omega (arith, ap (λ t. t.limit) same, small, fits)

-- a call that is not answered, for the reason that there is
pub let_be : (o : Option Opened) (room : ℕ) (e : Unanswered) (P : Unanswered → Type 0) → unanswered o room ≡ Some e → P e → IfSome (unanswered o room) P
let_be o room e P is holds = subst (λ u. IfSome u P) (sym is) holds

-- and one for which there is none
pub answered : (o : Option Opened) (room : ℕ) (P : Unanswered → Type 0) → unanswered o room ≡ None → IfSome (unanswered o room) P
answered o room P is = subst (λ u. IfSome u P) (sym is) tt

pub room_lacks : (most room : ℕ) → room < answer_room most → pick (nat_le (answer_room most) room) None (Some AnswerTooSmall) ≡ Some AnswerTooSmall
room_lacks most room small = grind (arith, nat_tests)

-- slices that hold a desk are read so
pub desk_reads : (b : Book) (most : ℕ) (left right : List ℕ) → IsDesk b most left right → desk_in left right ≡ Some (record { book = b; limit = most })
desk_reads b most left right is =
    let left_fits = owned (half b most) left is.left_size in
    let right_fits = owned (half b most) right is.right_size in
    let some : 39 ≤ half b most = omega arith in
    let both = and_from _ _ (and_from _ _ (le-leb (half b most) (length left) left_fits) (le-leb (half b most) (length right) right_fits)) is.sound in
    ap (λ o. checked o left right) (sym (head_front (half b most) left some left_fits) ∙ is.setup) ∙ picked _ _ _ both

-- slices that are too short for what is read hold no desk
pub none_enough : (left right : List ℕ) (s : Opened) (n : ℕ) → Some s ≡ setup_in left → n ≡ half s.book s.limit → (nat_le n (length left) && nat_le n (length right)) ≡ false → None ≡ desk_in left right
none_enough left right s n reads is short =
    let sound : Bool = sound_words (taps_words s.limit (own s.book s.limit left)) in
    let enough : (nat_le (half s.book s.limit) (length left) && nat_le (half s.book s.limit) (length right)) ≡ false = ap (λ m. nat_le m (length left) && nat_le m (length right)) (sym is) ∙ short in
    sym (ap (λ t. pick (t && sound) (Some s) None) enough) ∙ ap (λ o. checked o left right) reads

-- of others it is told by the taps
pub enough_found : (left right : List ℕ) (s : Opened) → Some s ≡ setup_in left → half s.book s.limit ≤ length left → half s.book s.limit ≤ length right →
    pick (sound_words (taps_words s.limit (own s.book s.limit left))) (Some s) None ≡ desk_in left right
enough_found left right s reads left_fits right_fits =
    let sound : Bool = sound_words (taps_words s.limit (own s.book s.limit left)) in
    let enough = and_from _ _ (le-leb (half s.book s.limit) (length left) left_fits) (le-leb (half s.book s.limit) (length right) right_fits) in
    sym (ap (λ t. pick (t && sound) (Some s) None) enough) ∙ ap (λ o. checked o left right) reads

module _ (b : Book) (most : ℕ) (left right : List ℕ) (setup : setup_in left ≡ Some (record { book = b; limit = most })) (left_fits : half b most ≤ length left) (right_fits : half b most ≤ length right) where
  own_size : length (own b most left) ≡ half b most
  own_size = length-take-le (half b most) left left_fits

  own_setup : setup_in (own b most left) ≡ Some (record { book = b; limit = most })
  own_setup = head_front (half b most) left (omega arith) left_fits ∙ setup

  pub says_own : (c : calls.Call) → desk.says (memory b most left right) c ≡ said b most (own b most left) c
  says_own c = says_is b most (own b most left) (own b most right) own_setup own_size c

-- A SLICE AFTER A CALL: these words stand in front, and the rest is as it was
pub record Front (n : ℕ) (old new first : List ℕ) : Type 0 where
  pub size : length first ≡ n
  pub is : new ≡ first ++ drop n old

module _ {n : ℕ} {old new first : List ℕ} (on : Front n old new first) where
  taken : take n new ≡ first
  taken = ap (take n) on.is ∙ take_at first (drop n old) n on.size

  pub rest_same : drop n new ≡ drop n old
  rest_same = ap (drop n) on.is ∙ drop_at first (drop n old) n on.size

  pub all_same : first ≡ take n old → new ≡ old
  all_same same = on.is ∙ ap (λ ws. ws ++ drop n old) same ∙ take-append-drop n old

-- the parts of the left one: entered are the desk's words before the call
module _ (b : Book) (most : ℕ) (left left_new entered first : List ℕ) (on : Front (half b most) left left_new first) (is : entered ≡ own b most left) where
  pub head_same : take 39 first ≡ take 39 entered → take 39 left_new ≡ take 39 left
  head_same same =
      let some : 39 ≤ half b most = omega arith in
      sym (take-take 39 (half b most) left_new some) ∙ ap (take 39) (taken on) ∙ same ∙ ap (take 39) is ∙ take-take 39 (half b most) left some

  pub words_taken : (c : calls.Call) → taps_words most first ≡ words_after (taps_words most entered) c → words_held b most left_new ≡ words_after (words_held b most left) c
  words_taken c so = ap (taps_words most) (taken on) ∙ so ∙ ap (λ ws. words_after (taps_words most ws) c) is

  pub kept_still : (c : calls.Call) → (adds most (taps_in (taps_words most entered)) c ≡ false → kept_words most first ≡ kept_words most entered) →
      adds most (taps_held b most left) c ≡ false → kept_held b most left_new ≡ kept_held b most left
  kept_still c so none = ap (kept_words most) (taken on) ∙ so (ap (λ ws. adds most (taps_in (taps_words most ws)) c) is ∙ none) ∙ ap (kept_words most) is

module _ (b : Book) (most : ℕ) (left right : List ℕ) (setup : setup_in left ≡ Some (record { book = b; limit = most })) (left_fits : half b most ≤ length left) (right_fits : half b most ≤ length right)
    (left_new right_new first second : List ℕ) (on_left : Front (half b most) left left_new first) (on_right : Front (half b most) right right_new second) where
  pub next_own : (c : calls.Call) → IsDesk b most left right → first ≡ left_after b most (own b most left) c → second ≡ right_after b most (own b most left) (own b most right) c →
      (memory b most left_new right_new ≡ desk.next (memory b most left right) c) × IsDesk b most left_new right_new
  next_own c is first_is second_is =
      let left_now = taken on_left ∙ first_is in
      let right_now = taken on_right ∙ second_is in (
        (λ j. mem (left_now j) (right_now j)) ∙ sym (next_is b most (own b most left) (own b most right) (own_setup b most left right setup left_fits right_fits) (own_size b most left right setup left_fits right_fits) c),
        subst (λ ws. Stands b most ws (own b most right_new)) (sym left_now) (subst (Stands b most (left_after b most (own b most left) c)) (sym right_now) (stands_after b most (own b most left) (own b most right) is c)),
      )

-- what is told, or else that nothing is, said as a result with a reason
pub told_as : {T E : Type 0} (r : Option T) (e : E) (told : Result T E) (P Q : T → Type 0) → told ≡ ok_or r e → ((x : T) → P x → Q x) → IfSome r P → IfOk told Q
told_as None e told P Q is more holds = subst (λ t. IfOk t Q) (sym is) tt
told_as (Some x) e told P Q is more holds = subst (λ t. IfOk t Q) (sym is) (more x holds)

pub untold_as : {T E : Type 0} (r : Option T) (e : E) (told : Result T E) (P Q : Type 0) → told ≡ ok_or r e → (P → Q) → IfNone r P → IfErr told (λ _. Q)
untold_as None e told P Q is more holds = subst (λ t. IfErr t (λ _. Q)) (sym is) (more holds)
untold_as (Some x) e told P Q is more holds = subst (λ t. IfErr t (λ _. Q)) (sym is) tt
