-- What is kept of steps: how many numbers, and where each is. Assumes nothing.
use Rattle.std.proofs.Common.{◌≡◌, ℕ, ◌+◌, ◌-◌, ◌*◌, ◌≤◌, List, [], ◌∷◌, ◌++◌, append-nil, append_assoc, length, take, drop, sym, ap, ◌∙◌, arith}
use Rattle.std.proofs.Math.Nat.{add-mul}
use Rattle.std.proofs.Math.Seq.{drop-append-add}
use Rattle.std.proofs.lemmas.List.{length-append, take_at, drop_at}
use Rattle.least.specs.Readers.{Reader, States, onward, prefix}
use Rattle.octets.specs.Bytes.{StartsWith, written}
use Rattle.octets.proofs.Front.{starts_long, written_on}
use Rattle.model.specs.Rows.{states_below, costs_in, prefix_row, forward, for_prefixes, kept_rows, kept_number}
use Rattle.model.proofs.Numbers.{row_size}
use Rattle.model.proofs.Steps.{forward_row}

module _ {G : Type 0} (row : List G → List ℕ) (local : G → List ℕ) (n w : ℕ) (wide : (gs : List G) → length (row gs) ≡ n) (sized : (g : G) → length (local g) ≡ w) where
  pub prefixes_size : (done gs : List G) → length (for_prefixes row local done gs) ≡ kept_number n w (length gs)
  unfolding for_prefixes
  prefixes_size done [] = omega (arith, wide done)
  prefixes_size done (g ∷ gs) =
      let rest : List G = done ++ g ∷ [] in
      omega (
        arith,
        length-append (row done) (local g ++ for_prefixes row local rest gs),
        length-append (local g) (for_prefixes row local rest gs),
        wide done,
        sized g,
        prefixes_size rest gs,
        add-mul (length gs) 1 (n + w),
      )

  -- the parts behind the first row, as they are cut
  pub prefixes_behind : (done gs : List G) (g : G) (kept behind own left : List ℕ) (width size : ℕ) → kept ≡ for_prefixes row local done (g ∷ gs) → width ≡ n → size ≡ w → behind ≡ drop width kept →
      own ≡ take size behind → left ≡ drop size behind → (own ≡ local g) × (left ≡ for_prefixes row local (done ++ g ∷ []) gs)
  unfolding for_prefixes
  prefixes_behind done gs g kept behind own left width size e wide_is size_is cut front back =
      let rest : List ℕ = for_prefixes row local (done ++ g ∷ []) gs in
      let both : behind ≡ local g ++ rest = cut ∙ ap (drop width) e ∙ drop_at (row done) (local g ++ rest) width (wide done ∙ sym wide_is) in (
        front ∙ ap (take size) both ∙ take_at (local g) rest size (sized g ∙ sym size_is),
        back ∙ ap (drop size) both ∙ drop_at (local g) rest size (sized g ∙ sym size_is),
      )

  -- the last row is that of all steps
  prefixes_last : (done gs : List G) → drop (length gs * (n + w)) (for_prefixes row local done gs) ≡ row (done ++ gs)
  unfolding for_prefixes
  prefixes_last done [] =
      let none : 0 * (n + w) ≡ 0 = omega arith in
      ap (λ k. drop k (row done)) none ∙ ap row (sym (append-nil done))
  prefixes_last done (g ∷ gs) =
      let rest : List G = done ++ g ∷ [] in
      let size : length (row done ++ local g) + length gs * (n + w) ≡ length (g ∷ gs) * (n + w) = omega (arith, length-append (row done) (local g), wide done, sized g, add-mul (length gs) 1 (n + w)) in
      ap (drop (length (g ∷ gs) * (n + w))) (sym (append_assoc (row done) (local g) (for_prefixes row local rest gs)))
      ∙ ap (λ k. drop k ((row done ++ local g) ++ for_prefixes row local rest gs)) (sym size)
      ∙ drop-append-add (row done ++ local g) (for_prefixes row local rest gs) (length gs * (n + w))
      ∙ prefixes_last rest gs
      ∙ ap row (append_assoc done (g ∷ []) gs)

  -- one step more is kept behind the others
  pub prefixes_more : (done gs : List G) (g : G) → for_prefixes row local done (gs ++ g ∷ []) ≡ for_prefixes row local done gs ++ (local g ++ row ((done ++ gs) ++ g ∷ []))
  unfolding for_prefixes
  prefixes_more done [] g = ap (λ xs. row done ++ (local g ++ row (xs ++ g ∷ []))) (sym (append-nil done))
  prefixes_more done (h ∷ gs) g =
      let rest : List G = done ++ h ∷ [] in
      let more : List ℕ = local g ++ row ((done ++ h ∷ gs) ++ g ∷ []) in
      ap (λ xs. row done ++ (local h ++ xs)) (prefixes_more rest gs g ∙ ap (λ xs. for_prefixes row local rest gs ++ (local g ++ row (xs ++ g ∷ []))) (append_assoc done (h ∷ []) gs))
      ∙ ap (λ xs. row done ++ xs) (sym (append_assoc (local h) (for_prefixes row local rest gs) more))
      ∙ sym (append_assoc (row done) (local h ++ for_prefixes row local rest gs) more)

module _ {G C : Type 0} (r : Reader G ℕ C) (st : States r) (n : ℕ) (local : G → List ℕ) (w : ℕ) (sized : (g : G) → length (local g) ≡ w) where
  pub kept_many : (gs : List G) → length (kept_rows r st n local gs) ≡ kept_number n w (length gs)
  kept_many = prefixes_size (prefix_row r st n) local n w (λ hs. row_size n (prefix r st hs)) sized []

  module _ (gs : List G) (words : List ℕ) (done : ℕ) (many : length gs ≡ done) (starts : StartsWith (kept_rows r st n local gs) words) where
    pub kept_fits : kept_number n w done ≤ length words
    kept_fits = omega (arith, starts_long (kept_rows r st n local gs) words starts, kept_many gs, ap (λ k. k * (n + w)) many)

    -- the row after the last step is in front of the words' end
    pub kept_last : (front row : List ℕ) (end width : ℕ) → end ≡ kept_number n w done → width ≡ n → front ≡ take end words → row ≡ drop (end - width) front → row ≡ prefix_row r st n gs
    kept_last front row end width is wide first last =
        let size : length (kept_rows r st n local gs) ≡ end = omega (arith, kept_many gs, is, ap (λ k. k * (n + w)) many) in
        let place : end - width ≡ length gs * (n + w) = omega (arith, is, wide, ap (λ k. k * (n + w)) many) in
        let same : front ≡ kept_rows r st n local gs = first ∙ ap (λ k. take k words) (sym size) ∙ starts in
        last ∙ (λ i. drop (place i) (same i)) ∙ prefixes_last (prefix_row r st n) local n w (λ hs. row_size n (prefix r st hs)) sized [] gs

    -- a step more is kept
    pub kept_on : st.all ≡ states_below n → (g : G) (front before own row rest : List ℕ) (end more width : ℕ) → end ≡ kept_number n w done → more ≡ w + n → width ≡ n → front ≡ take end words →
        before ≡ drop (end - width) front → own ≡ local g → row ≡ forward r st n g before → end + more ≤ length words → rest ≡ drop more (drop end words) →
        front ++ ((own ++ row) ++ rest) ≡ written (kept_rows r st n local (gs ++ g ∷ [])) words
    kept_on below g front before own row rest end more width is both wide first last alone after fits behind =
        let all : kept_rows r st n local (gs ++ g ∷ []) ≡ kept_rows r st n local gs ++ (own ++ row) =
        prefixes_more (prefix_row r st n) local n w (λ hs. row_size n (prefix r st hs)) sized [] gs g
        ∙ (λ i. kept_rows r st n local gs ++ (sym alone i ++ (forward_row r st n below gs g ∙ ap (forward r st n g) (sym (kept_last front before end width is wide first last)) ∙ sym after) i)) in
        let size : length (own ++ row) ≡ more = omega (arith, length-append own row, ap length alone, sized g, ap length after, row_size n (onward r st (costs_in before) g), both) in
        rw all (written_on (kept_rows r st n local gs) (own ++ row) words front rest end more starts (omega (arith, kept_many gs, is, ap (λ k. k * (n + w)) many)) size fits first behind)
