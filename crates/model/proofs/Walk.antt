-- The walk over the rows, step by step, and that it reads what the general reader tells. Assumes nothing.
use Rattle.std.proofs.Common.{◌≡◌, ℕ, ◌+◌, ◌*◌, ◌<◌, ◌≤◌, min, List, [], ◌∷◌, ◌++◌, append-nil, append_assoc, length, take, drop, get_or, Some, None, Option, sym, refl, ap, ◌∙◌, subst, arith}
use Rattle.std.specs.Option.{option_map}
use Rattle.std.proofs.lemmas.Option.{none-some}
use Rattle.std.proofs.lemmas.Iterator.Adapters.{option_map_id}
use Rattle.std.proofs.Math.Nat.{add-mul}
use Rattle.std.proofs.lemmas.List.{drop_more, get_or-take, length-drop}
use Rattle.least.specs.Minima.{NoMore, capped, plus, over, and_then, cheapest, Among}
use Rattle.least.specs.Readers.{Reader, States, suffix, told}
use Rattle.least.proofs.Capped.{capped_some, capped_first}
use Rattle.least.proofs.Minimal.{plus_some, plus_none, over_under, first_to_none, cheapest_found}
use Rattle.taps.specs.Readings.{too_much}
use Rattle.model.specs.Rows.{states_below, suffix_row, suffix_rows}
use Rattle.model.specs.Walk.{first_met, walked}
use Rattle.model.specs.Laws.{Walked}
use Rattle.model.proofs.Numbers.{row_at}
use Rattle.model.proofs.Steps.{among_below, below_among}
use Rattle.model.proofs.Tables.{rows_first, rows_next}

-- a choice is put before what follows, or behind what was
prepended : {C : Type 0} (cs : List C) (c : C) (o : Option (List C)) → option_map (λ ds. (cs ++ c ∷ []) ++ ds) o ≡ option_map (λ ds. cs ++ ds) (option_map (λ ds. c ∷ ds) o)
prepended cs c None = refl
prepended cs c (Some ds) = ap Some (append_assoc cs (c ∷ []) ds)

-- the walk from a start over gs stands in the state s before the last steps, hs, with their rows, and has read those before as cs
pub record Reached {G C : Type 0} (r : Reader G ℕ C) (n start : ℕ) (gs hs : List G) (all rows : List ℕ) (cs : List C) (s : ℕ) : Type 0 where
  pub inside : s < n
  pub size : length rows ≡ (length hs + 1) * n
  pub told : option_map (λ ds. cs ++ ds) (walked r n s hs rows) ≡ walked r n start gs all

module _ {G C : Type 0} (r : Reader G ℕ C) (st : States r) (n : ℕ) (below : st.all ≡ states_below n) where
  -- the state after a choice is one of the states
  pub next_below : (s : ℕ) (g : G) (c : C) → s < n → Among c (r.choices s g) → r.next s g c < n
  next_below s g c h a = among_below r st n below (r.next s g c) (st.next_in s g c (below_among r st n below s h) a)

  -- what follows a choice
  abbrev after : ℕ → G → List G → C → Option ℕ
  after s g gs c = suffix r (r.next s g c) gs

  -- over the rows of the steps the walk goes by the row before a step and the row after it
  walked_rows : (s : ℕ) (g : G) (gs : List G) → s < n →
      walked r n s (g ∷ gs) (suffix_rows r n (g ∷ gs))
      ≡ and_then (first_met r s g (suffix_row r n gs) (capped too_much (suffix r s (g ∷ gs)))) (λ c. option_map (λ cs. c ∷ cs) (walked r n (r.next s g c) gs (suffix_rows r n gs)))
  unfolding walked
  walked_rows s g gs h =
      let behind : drop n (suffix_rows r n (g ∷ gs)) ≡ suffix_rows r n gs = rows_next r n g gs (suffix_rows r n (g ∷ gs)) refl in
      let row_after : take n (drop n (suffix_rows r n (g ∷ gs))) ≡ suffix_row r n gs = ap (take n) behind ∙ (rows_first r n gs (suffix_rows r n gs) refl).1 in
      let spent : get_or (suffix_rows r n (g ∷ gs)) s 0 ≡ capped too_much (suffix r s (g ∷ gs)) =
      sym (get_or-take n (suffix_rows r n (g ∷ gs)) s 0 h) ∙ ap (λ row. get_or row s 0) (rows_first r n (g ∷ gs) (suffix_rows r n (g ∷ gs)) refl).1 ∙ row_at n (λ t. suffix r t (g ∷ gs)) s h in
      λ i. and_then (first_met r s g (row_after i) (spent i)) (λ c. option_map (λ cs. c ∷ cs) (walked r n (r.next s g c) gs (behind i)))

  -- where the steps cost less than the cap from a state on
  walked_told : (s : ℕ) (gs : List G) → s < n → capped too_much (suffix r s gs) < too_much → walked r n s gs (suffix_rows r n gs) ≡ told r s gs
  unfolding walked told suffix
  walked_told s [] h low = refl
  walked_told s (g ∷ gs) h low =
      let xs : List C = r.choices s g in
      let f : C → Option ℕ = λ c. plus (r.cost s g c) (after s g gs c) in
      let m : ℕ = capped too_much (over f xs) in
      let e : over f xs ≡ Some m = capped_some too_much (over f xs) low in
      let c = cheapest_found f xs m e in
      let left = plus_some (r.cost s g c.0) (after s g gs c.0) m c.1.costs in
      let small : capped too_much (after s g gs c.0) < too_much = let is : capped too_much (after s g gs c.0) ≡ min left.0 too_much = ap (capped too_much) left.1 in omega (arith, left.2) in
      let met : first_met r s g (suffix_row r n gs) m ≡ cheapest f xs =
      capped_first (r.cost s g) (after s g gs) xs too_much _ (λ x a. row_at n (λ t. suffix r t gs) (r.next s g x) (next_below s g x h a)) m low e in
      walked_rows s g gs h
      ∙ ap (λ o. and_then o (λ x. option_map (λ cs. x ∷ cs) (walked r n (r.next s g x) gs (suffix_rows r n gs)))) (met ∙ c.1.is)
      ∙ ap (option_map (λ cs. c.0 ∷ cs)) (walked_told (r.next s g c.0) gs (next_below s g c.0 h c.1.among) small)
      ∙ sym (ap (λ o. and_then o (λ x. option_map (λ cs. x ∷ cs) (told r (r.next s g x) gs))) c.1.is)

  -- where there is no reading from a state on
  walked_none : (s : ℕ) (gs : List G) → s < n → suffix r s gs ≡ None → walked r n s gs (suffix_rows r n gs) ≡ None
  unfolding suffix
  walked_none s [] h e = absurd (none-some 0 (sym e))
  walked_none s (g ∷ gs) h e =
      walked_rows s g gs h
      ∙ first_to_none _ (r.choices s g) _
      (λ c a.
      let under = over_under (λ x. plus (r.cost s g x) (after s g gs x)) c (r.choices s g) a in
      ap (option_map (λ cs. c ∷ cs)) (walked_none (r.next s g c) gs (next_below s g c h a) (plus_none (r.cost s g c) (after s g gs c) (subst (λ o. NoMore o (plus (r.cost s g c) (after s g gs c))) e under))))

module _ {G C : Type 0} (r : Reader G ℕ C) (n : ℕ) where
  pub reached_start : (start : ℕ) (gs : List G) (rows : List ℕ) → start < n → length rows ≡ (length gs + 1) * n → Reached r n start gs gs rows rows [] start
  reached_start start gs rows h size = record { inside = h; size = size; told = option_map_id (walked r n start gs rows) }

  pub reached_end : (start s : ℕ) (gs hs : List G) (all rows : List ℕ) (cs : List C) → Reached r n start gs hs all rows cs s → hs ≡ [] → Some cs ≡ walked r n start gs all
  unfolding walked
  reached_end start s gs hs all rows cs h none = ap Some (sym (append-nil cs)) ∙ ap (λ xs. option_map (λ ds. cs ++ ds) (walked r n s xs rows)) (sym none) ∙ h.told

  module _ (start s i : ℕ) (gs : List G) (step : G) (all rows : List ℕ) (cs : List C) (h : Reached r n start gs (drop i gs) all rows cs s) (inside : i < length gs) (is : step ≡ get_or gs i step) where
    abbrev rest : List G
    rest = drop (i + 1) gs

    now : Reached r n start gs (step ∷ rest) all rows cs s
    now = subst (λ hs. Reached r n start gs hs all rows cs s) (drop_more gs i step inside ∙ ap (λ x. x ∷ rest) (sym is)) h

    -- there is a row before the step, of w numbers, and one after it
    pub row_there : (w : ℕ) → w ≡ n → w ≤ length rows
    row_there w size = omega (arith, now.size, add-mul (length rest + 1) 1 n, size)

    module _ (w : ℕ) (row back : List ℕ) (size : w ≡ n) (front : row ≡ take w rows) (behind : back ≡ drop w rows) where
      left : length back ≡ (length rest + 1) * n
      left = omega (arith, ap length behind, length-drop w rows, now.size, add-mul (length rest + 1) 1 n, size)

      pub row_behind : w ≤ length back
      row_behind = omega (arith, left, add-mul (length rest) 1 n, size)

      says : first_met r s step (take w back) (get_or row s 0) ≡ first_met r s step (take n (drop n rows)) (get_or rows s 0)
      says =
          let after : take w back ≡ take n (drop n rows) = (λ j. take (size j) (behind j)) ∙ ap (λ k. take n (drop k rows)) size in
          let spent : get_or row s 0 ≡ get_or rows s 0 = ap (λ xs. get_or xs s 0) front ∙ get_or-take w rows s 0 (omega (arith, now.inside, size)) in
          λ j. first_met r s step (after j) (spent j)

      pub reached_more : (c : C) (ds : List C) (t : ℕ) → first_met r s step (take w back) (get_or row s 0) ≡ Some c → ds ≡ cs ++ c ∷ [] → t ≡ r.next s step c → t < n →
          Reached r n start gs rest all back ds t
      unfolding walked
      reached_more c ds t met told on within =
          let found = sym says ∙ met in
          let behind_is : back ≡ drop n rows = behind ∙ ap (λ k. drop k rows) size in
          rw (told, on)
          (record {
            inside = rw (sym on) within;
            size = left;
            told = ap (λ ws. option_map (λ es. (cs ++ c ∷ []) ++ es) (walked r n (r.next s step c) rest ws)) behind_is
                ∙ prepended cs c (walked r n (r.next s step c) rest (drop n rows))
                ∙ sym (ap (λ o. option_map (λ ds. cs ++ ds) (and_then o (λ x. option_map (λ ds. x ∷ ds) (walked r n (r.next s step x) rest (drop n rows))))) found) ∙ now.told;
          })

      pub reached_none : first_met r s step (take w back) (get_or row s 0) ≡ None → walked r n start gs all ≡ None
      unfolding walked
      reached_none met =
          sym now.told ∙ ap (λ o. option_map (λ ds. cs ++ ds) (and_then o (λ c. option_map (λ ds. c ∷ ds) (walked r n (r.next s step c) rest (drop n rows))))) (sym says ∙ met)

pub walked_stands : (G C : Type 0) → Walked G C
unfolding Walked
walked_stands G C r st n below s h gs = (walked_told r st n below s gs h, walked_none r st n below s gs h)
