-- A desk over borrowed words after a call, by the book and the limit that it had before.
use Rattle.std.proofs.Common.{◌≡◌, ℕ, List, [], ◌∷◌, ◌++◌, length, drop, nat_le, refl, sym, ap, ◌∙◌, subst}
use Rattle.std.proofs.lemmas.List.{drop_at}
use Rattle.taps.specs.Readings.{Book, pick}
use Rattle.taps.specs.Calls as calls
use Rattle.taps.specs.Calls.{Answer, ran}
use Rattle.taps.specs.Values.{book_of}
use Rattle.taps.proofs.Picks.{pick_both}
use Rattle.session.specs.Layout.{half}
use Rattle.session.specs.Session.{Came, taps_held}
use Rattle.lines.specs.Borrowed.{Answers, IsAfter, IsSame, answer_to, taps_of}
use Rattle.lines.specs.declared.borrowed_desk.BorrowedDesk.{BorrowedDesk}

-- what holds of a book and a limit holds of those that they are
pub of_same : (P : Book → ℕ → Type 0) (b book : Book) (most limit : ℕ) → b ≡ book → most ≡ limit → P b most → P book limit
of_same P b book most limit same still p = subst (P book) still (subst (λ x. P x most) same p)

module _ (d e : BorrowedDesk) (same : IsSame d e) where
  before : (P : Book → ℕ → Type 0) → P (book_of e.book.now) e.limit → P (book_of d.book.now) d.limit
  before P p = of_same P _ _ _ _ (ap book_of same.0) same.1 p

  pub taps_before : (ts : List ℕ) → taps_of e ≡ ts → taps_held (book_of d.book.now) d.limit e.left.now ≡ ts
  taps_before ts is = before (λ b m. taps_held b m e.left.now ≡ ts) is

  pub answers_before : (c : calls.Call) (a : Answer) → Answers d c a e → (cs : List calls.Call) → IsAfter cs d → (a ≡ answer_to d (ran d.limit [] cs) c) × Came (book_of d.book.now) d.limit (cs ++ c ∷ []) e.left.now e.right.now
  answers_before c a answers cs came =
      let answered = answers cs came in
      (answered.0, before (λ b m. Came b m (cs ++ c ∷ []) e.left.now e.right.now) answered.1)

  pub came_after : (cs : List calls.Call) → Came (book_of d.book.now) d.limit cs e.left.now e.right.now → IsAfter cs e
  came_after cs came = of_same (λ b m. Came b m cs e.left.now e.right.now) _ _ _ _ (ap book_of (sym same.0)) (sym same.1) came

pub same_after : (d e f : BorrowedDesk) → IsSame d e → IsSame e f → IsSame d f
same_after d e f first then =
    let rest = of_same (λ b m. (drop (half b m) e.left.now ≡ drop (half b m) d.left.now) × (drop (half b m) e.right.now ≡ drop (half b m) d.right.now)) _ _ _ _ (ap book_of (sym then.0)) (sym then.1) first.4 in
    (then.0 ∙ first.0, then.1 ∙ first.1, then.2 ∙ first.2, then.3 ∙ first.3, (then.4.0 ∙ rest.0, then.4.1 ∙ rest.1))

-- numbers that are written over the first of others, where there are as many, leave those behind them
pub behind_written : (xs out : List ℕ) (n : ℕ) → length xs ≡ n → drop n (pick (nat_le (length xs) (length out)) (xs ++ drop (length xs) out) out) ≡ drop n out
behind_written xs out n is =
    pick_both (λ r. drop n r ≡ drop n out) _ _ _ (λ _. drop_at xs (drop (length xs) out) n is ∙ ap (λ k. drop k out) is) (λ _. refl)
