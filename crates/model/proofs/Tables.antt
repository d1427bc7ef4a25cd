-- Which numbers a table has: how many, and the rows one by one. Assumes nothing.
use Rattle.std.proofs.Common.{◌≡◌, ℕ, ◌+◌, ◌*◌, ◌≤◌, List, [], ◌∷◌, ◌++◌, length, take, drop, replicate, sym, refl, ap, ◌∙◌, arith}
use Rattle.std.proofs.Math.Nat.{add-mul}
use Rattle.std.proofs.lemmas.List.{length-append, take_at, drop_at, take_all, get_or-replicate, length-replicate}
use Rattle.least.specs.Readers.{Reader, States, suffix}
use Rattle.model.specs.Rows.{states_below, for_suffixes, suffix_row, suffix_rows, backward}
use Rattle.model.proofs.Numbers.{row_size, row_by}
use Rattle.model.proofs.Steps.{backward_row}

-- rows of n numbers each
module _ {G : Type 0} (row : List G → List ℕ) (n : ℕ) (wide : (gs : List G) → length (row gs) ≡ n) where
  suffixes_none : (gs : List G) → gs ≡ [] → length (for_suffixes row gs) ≡ n
  unfolding for_suffixes
  suffixes_none gs none = rw none (wide [])

  suffixes_more : (gs hs : List G) (g : G) → gs ≡ g ∷ hs → length (for_suffixes row gs) ≡ n + length (for_suffixes row hs)
  unfolding for_suffixes
  suffixes_more gs hs g more = rw more (omega (arith, length-append (row (g ∷ hs)) (for_suffixes row hs), wide (g ∷ hs)))

  pub suffixes_size : (gs : List G) → length (for_suffixes row gs) ≡ (length gs + 1) * n
  suffixes_size [] = omega (arith, suffixes_none [] refl)
  suffixes_size (g ∷ gs) = omega (arith, suffixes_more (g ∷ gs) gs g refl, suffixes_size gs, add-mul (length gs + 1) 1 n)

  -- there is one at least, and the first is that of the whole list
  suffixes_first : (gs : List G) → (n ≤ length (for_suffixes row gs)) × (take n (for_suffixes row gs) ≡ row gs)
  unfolding for_suffixes
  suffixes_first [] = (omega (arith, wide []), take_all n (row []) (omega (arith, wide [])))
  suffixes_first (g ∷ gs) = (omega (arith, suffixes_more (g ∷ gs) gs g refl), take_at (row (g ∷ gs)) (for_suffixes row gs) n (wide (g ∷ gs)))

module _ {G C : Type 0} (r : Reader G ℕ C) (n : ℕ) where
  wide : (gs : List G) → length (suffix_row r n gs) ≡ n
  wide gs = row_size n (λ s. suffix r s gs)

  pub rows_size : (gs : List G) → length (suffix_rows r n gs) ≡ (length gs + 1) * n
  rows_size = suffixes_size (suffix_row r n) n wide

  pub rows_first : (gs : List G) (words : List ℕ) → words ≡ suffix_rows r n gs → (n ≤ length words) × (take n words ≡ suffix_row r n gs)
  rows_first gs words e = rw e (suffixes_first (suffix_row r n) n wide gs)

  -- and behind it stand those of all but the first step
  pub rows_next : (g : G) (gs : List G) (words : List ℕ) → words ≡ suffix_rows r n (g ∷ gs) → drop n words ≡ suffix_rows r n gs
  unfolding for_suffixes
  rows_next g gs words e = ap (drop n) e ∙ drop_at (suffix_row r n (g ∷ gs)) (suffix_rows r n gs) n (wide (g ∷ gs))

  -- after all steps nothing is left to cost anything
  pub rows_last : (gs : List G) (words : List ℕ) → gs ≡ [] → words ≡ replicate n 0 → words ≡ suffix_rows r n gs
  unfolding suffix for_suffixes
  rows_last gs words none zeros = rw none (zeros ∙ row_by n (replicate n 0) (λ s. suffix r s []) (length-replicate n 0) (λ s h. get_or-replicate n s 0 0 h))

  -- the row before a step, and then the rows that there are
  pub rows_before : (st : States r) → st.all ≡ states_below n → (gs hs : List G) (g : G) (row rows : List ℕ) → gs ≡ g ∷ hs → row ≡ backward r n g (take n rows) →
      rows ≡ suffix_rows r n hs → row ++ rows ≡ suffix_rows r n gs
  unfolding for_suffixes
  rows_before st below gs hs g row rows more step e =
      let here : row ≡ suffix_row r n (g ∷ hs) =
      step ∙ ap (backward r n g) (rows_first hs rows e).1 ∙ sym (backward_row r st n below g hs) in
      rw more (λ i. here i ++ e i)
