-- A call that is sent to a desk by its bytes: its answer is what the bytes that are told are read as. Assumes nothing.
use Rattle.std.proofs.Common.{◌≡◌, ℕ, ◌<◌, ◌≤◌, List, [], ◌∷◌, ◌++◌, length, take, drop, Ok, Some, None, Option, Result, IfOk, refl, sym, ap, ◌∙◌, subst, arith}
use Rattle.std.specs.Option.{IsSome, option_map}
use Rattle.std.proofs.lemmas.Option.{none-some}
use Rattle.std.proofs.lemmas.Bool.{and_from, le-leb}
use Rattle.std.proofs.lemmas.List.{take_at, drop_at, length-append, length-take}
use Rattle.taps.specs.Readings.{Book}
use Rattle.taps.specs.Calls as calls
use Rattle.taps.specs.Calls.{after, answer, ran, turned}
use Rattle.taps.specs.Values.{call_of}
use Rattle.taps.specs.declared.call.Call.{Call}
use Rattle.taps.proofs.Picks.{picked}
use Rattle.octets.specs.Bytes.{room, written}
use Rattle.octets.proofs.Front.{read_back}
use Rattle.wire.specs.Wire.{answer_bytes, answer_in, call_in}
use Rattle.wire.proofs.Returns.{answers_return}
use Rattle.books.specs.Books.{book_in}
use Rattle.onsets.specs.Laws.{Sound}
use Rattle.onsets.specs.Onsets.{taps_in, words_after}
use Rattle.onsets.proofs.Words.{taps_after}
use Rattle.answers.specs.Answered.{heard}
use Rattle.answers.specs.Laws.{Best}
use Rattle.answers.proofs.Promised.{best}
use Rattle.answers.proofs.Returned.{answer_fits, answer_short, placed}
use Rattle.session.specs.Layout.{asked, half, own, room_for, taps_words}
use Rattle.session.specs.Session.{Came, IsDesk, Stands, answer_room, desk, memory, taps_held}
use Rattle.session.specs.declared.Unanswered.{Unanswered}
use Rattle.session.proofs.Called.{desk_found, desk_reads, says_own}
use Rattle.session.proofs.Desk.{left_more, left_opened_is, refused_stays}
use Rattle.session.proofs.Parts.{limit_is}

-- what holds where a result is a value, of one that is
pub if_ok : {T E : Type 0} (r : Result T E) (P : T → Type 0) (x : T) → r ≡ Ok x → IfOk r P → P x
if_ok r P x is holds = subst (λ q. IfOk q P) is holds

-- what stands for something is there
pub mapped_some : {A B : Type 0} (f : A → B) (r : Option A) (b : B) → option_map f r ≡ Some b → IsSome r
mapped_some f None b is = absurd (none-some b is)
mapped_some f (Some a) b is = refl

-- a desk is opened with a book that bytes are, where there is room
pub opens : (book : List ℕ) (b : Book) (most left right : ℕ) → book_in book ≡ Some b → most ≤ 256 → half b most ≤ left → half b most ≤ right → room_for (asked (book_in book) most) left right ≡ Ok tt
opens book b most left right is few left_fits right_fits =
    let room = and_from _ _ (le-leb (half b most) left left_fits) (le-leb (half b most) right right_fits) in
    ap (λ o. room_for (asked o most) left right) is ∙ ap (λ r. room_for r left right) (picked _ _ _ (le-leb most 256 few)) ∙ picked _ _ _ room

module _ (b : Book) (most : ℕ) (left right : List ℕ) (is : IsDesk b most left right) where
  abbrev ts : List ℕ
  ts = taps_held b most left

  sound : Sound most ts
  sound = subst (λ m. Sound m ts) (limit_is b most (own b most left) is.left_size is.few) is.held.sound

  -- what is told is what the definitions have, of the taps that the memory holds
  pub says_answer : (c : calls.Call) → desk.says (memory b most left right) c ≡ answer b most ts c
  says_answer c =
      let found = desk_found left right _ (desk_reads b most left right is) in
      says_own b most left right found.0 found.1 found.2 c

  -- which then holds the taps after the call
  pub taps_told : (left_new : List ℕ) (h c : calls.Call) → h ≡ c → taps_words most (own b most left_new) ≡ words_after (taps_words most (own b most left)) h → taps_held b most left_new ≡ after most ts c
  taps_told left_new h c hears stored =
      ap taps_in (stored ∙ ap (words_after (taps_words most (own b most left))) hears) ∙ taps_after (taps_words most (own b most left)) c ∙ ap (λ m. after m ts c) (limit_is b most (own b most left) is.left_size is.few)

  -- the answer is right of all readings
  pub best_told : (c : calls.Call) → Best b ts c (desk.says (memory b most left right) c)
  best_told c = subst (Best b ts c) (sym (says_answer c)) (best b most ts c is.good sound is.few)

  pub told_back : (c : Call) (request old new : List ℕ) (told : Result ℕ Unanswered) (n : ℕ) → heard (call_in request) ≡ call_of c → answer_room most ≤ length old → told ≡ Ok n →
      told ≡ Ok (length (answer_bytes (desk.says (memory b most left right) (heard (call_in request))))) →
      new ≡ written (answer_bytes (desk.says (memory b most left right) (heard (call_in request)))) old → answer_in (take n new) ≡ Some (desk.says (memory b most left right) (call_of c))
  told_back c request old new told n hears large as_told is_told left_is =
      let size : n ≡ length (answer_bytes (desk.says (memory b most left right) (heard (call_in request)))) = cc in
      let bytes : List ℕ = answer_bytes (answer b most ts (call_of c)) in
      let same = ap (λ h. answer_bytes (desk.says (memory b most left right) h)) hears ∙ ap answer_bytes (says_answer (call_of c)) in
      let fits : length bytes ≤ length old = omega (arith, answer_short b most ts (call_of c) sound.few, large) in
      let roomy : Some n ≡ room bytes old = ap Some (size ∙ ap length same) ∙ sym (picked _ _ _ (le-leb (length bytes) (length old) fits)) in
      ap answer_in (read_back bytes old new n roomy (left_is ∙ ap (λ bs. written bs old) same)) ∙ answers_return (answer b most ts (call_of c)) (answer_fits b most ts is.good sound is.few (call_of c) (placed (Ok c) tt)) ∙ ap Some (sym (says_answer (call_of c)))

-- memory that came by calls is a desk's, and holds the taps that the definitions have after them
pub came_desk : (b : Book) (most : ℕ) (cs : List calls.Call) (left right : List ℕ) → Came b most cs left right → IsDesk b most left right × (taps_held b most left ≡ ran most [] cs)
came_desk b most cs left right came =
    let done = left_opened_is b most cs came.0 came.1 in
    let first : List ℕ = own b most left in
    let second : List ℕ = own b most right in
    let words : first ++ second ≡ done.left ++ done.right = ap (λ m. m.words) (came.2 ∙ done.is) in
    let sum = ap length words in
    let first_size : length first ≡ half b most = omega (arith, sum, length-append first second, length-append done.left done.right, done.stands.left_size, done.stands.right_size, length-take (half b most) left, length-take (half b most) right) in
    let first_is : first ≡ done.left = sym (take_at first second (half b most) first_size) ∙ ap (take (half b most)) words ∙ take_at done.left done.right (half b most) done.stands.left_size in
    let second_is : second ≡ done.right = sym (drop_at first second (half b most) first_size) ∙ ap (drop (half b most)) words ∙ drop_at done.left done.right (half b most) done.stands.left_size in (
      subst (λ ws. Stands b most ws second) (sym first_is) (subst (Stands b most done.left) (sym second_is) done.stands),
      ap (λ ws. taps_in (taps_words most ws)) first_is ∙ done.taps,
    )

-- and so it is after a call more
pub came_more : (b : Book) (most : ℕ) (cs : List calls.Call) (left right left_new right_new : List ℕ) (c : calls.Call) → Came b most cs left right →
    memory b most left_new right_new ≡ desk.next (memory b most left right) c → Came b most (cs ++ c ∷ []) left_new right_new
came_more b most cs left right left_new right_new c came next = (came.0, came.1, next ∙ ap (λ m. desk.next m c) came.2 ∙ left_more desk cs (desk.opened b most) c)

-- nor does a refused one change anything
pub came_refused : (b : Book) (most : ℕ) (cs : List calls.Call) (left right : List ℕ) (c : calls.Call) → Came b most cs left right → 0 < turned most (ran most [] cs) c → Came b most (cs ++ c ∷ []) left right
came_refused b most cs left right c came refused =
    came_more b most cs left right left right c came (came.2 ∙ sym (ap (λ m. desk.next m c) came.2 ∙ refused_stays b most cs c came.0 came.1 refused))
