-- One step from row to row is one step of the general reader. Assumes nothing.
use Rattle.std.proofs.Common.{◌≡◌, ℕ, ◌+◌, ◌<◌, ◌≤◌, All, Bool, true, false, cond, List, [], ◌∷◌, ◌++◌, length, get_or, Some, None, Option, unwrap_or, sym, refl, ap, ◌∙◌, subst, arith}
use Rattle.std.proofs.lemmas.List.Elements.{All-get_or}
use Rattle.least.specs.Minima.{Least, Entry, capped, plus, both, over, Among}
use Rattle.least.specs.Readers.{Reader, States, suffix, along, onward, prefix, begin, least}
use Rattle.least.proofs.Folds.{from_same}
use Rattle.least.proofs.Minimal.{over_numbers}
use Rattle.least.proofs.Capped.{capped_least, capped_below, capped_over, capped_again, capped_both}
use Rattle.least.proofs.Lists.{numbers_within, numbers_have}
use Rattle.least.proofs.Meet.{least_last, meets}
use Rattle.taps.specs.Readings.{too_much}
use Rattle.model.specs.Rows.{states_below, row_of, costs_in, suffix_row, backward, starting, prefix_row, forward, ending, meeting}
use Rattle.model.specs.Laws.{Backward, Forward, Starting, Ending, Meeting}
use Rattle.model.proofs.Numbers.{row_at, row_same}

-- what is added to a row's number is added to its cost
added : (n : ℕ) (costs : ℕ → Option ℕ) (w s : ℕ) → s < n → capped too_much (plus w (costs s)) ≡ capped too_much (plus w (costs_in (row_of n costs) s))
added n costs w s h = sym (capped_again too_much w (costs s)) ∙ ap (λ v. capped too_much (Some (w + v))) (sym (row_at n costs s h))

added_where : (n : ℕ) (costs : ℕ → Option ℕ) (w s : ℕ) (t : Bool) → s < n → capped too_much (cond t (plus w (costs s)) None) ≡ capped too_much (cond t (plus w (costs_in (row_of n costs) s)) None)
added_where n costs w s true h = added n costs w s h
added_where n costs w s false h = refl

least_capped : (row : List ℕ) (m : Option ℕ) → Least (Entry row) m → All (λ v. v ≤ too_much) row → unwrap_or m too_much ≡ capped too_much m
least_capped row None least small = refl
least_capped row (Some m) least small = omega (arith, least.0.2, All-get_or (λ v. v ≤ too_much) row least.0.0 0 least.0.1 small)

-- the least number of a row
pub least_in : (n : ℕ) (row : List ℕ) (m : Option ℕ) → Least (Entry row) m → length row ≡ n → All (λ v. v ≤ too_much) row → unwrap_or m too_much ≡ ending n row
least_in n row m least size small =
    let numbers = capped_least too_much _ _ (over_numbers (λ s. get_or row s 0) (states_below n)) in
    least_capped row m least small
    ∙ from_same (Entry row) _ too_much (capped too_much m) (ending n row) (capped_least too_much (Entry row) m least) numbers
    (λ v e. (e.0, numbers_have e.0 0 n (omega arith) (omega (arith, size, e.1)), e.2))
    (λ v e. let inside = numbers_within e.0 0 n e.1 in (e.0, omega (arith, size, inside), e.2))

module _ {G C : Type 0} (r : Reader G ℕ C) (st : States r) (n : ℕ) (below : st.all ≡ states_below n) where
  within : (s : ℕ) → Among s (states_below n) → s < n
  within s a = let p = numbers_within s 0 n a in omega (arith, p.1)

  pub among_below : (s : ℕ) → Among s st.all → s < n
  among_below s a = within s (subst (Among s) below a)

  pub below_among : (s : ℕ) → s < n → Among s st.all
  below_among s h = subst (Among s) (sym below) (numbers_have s 0 n (omega arith) (omega arith))

  pub backward_row : (g : G) (gs : List G) → suffix_row r n (g ∷ gs) ≡ backward r n g (suffix_row r n gs)
  unfolding suffix
  backward_row g gs =
      let rest : ℕ → Option ℕ = λ t. suffix r t gs in
      row_same n _ _
      (λ s h.
      capped_over too_much (λ c. plus (r.cost s g c) (rest (r.next s g c))) (λ c. plus (r.cost s g c) (costs_in (row_of n rest) (r.next s g c))) (r.choices s g)
      (λ c a. added n rest (r.cost s g c) (r.next s g c) (among_below (r.next s g c) (st.next_in s g c (below_among s h) a))))

  starting_row : (gs : List G) → starting r (suffix_row r n gs) ≡ capped too_much (least r gs)
  starting_row gs =
      let rest : ℕ → Option ℕ = λ t. suffix r t gs in
      sym
      (capped_over too_much (λ s. plus (r.entry s) (rest s)) (λ s. plus (r.entry s) (costs_in (row_of n rest) s)) r.starts
      (λ s a. added n rest (r.entry s) s (among_below s (st.starts_in s a))))

  along_last : (row : ℕ → Option ℕ) (gs : List G) (g : G) (t : ℕ) → along r st row (gs ++ g ∷ []) t ≡ onward r st (along r st row gs) g t
  unfolding along
  along_last row [] g t = refl
  along_last row (h ∷ gs) g t = along_last (onward r st row h) gs g t

  pub forward_row : (gs : List G) (g : G) → prefix_row r st n (gs ++ g ∷ []) ≡ forward r st n g (prefix_row r st n gs)
  forward_row gs g =
      row_same n _ _
      (λ t h.
      ap (capped too_much) (along_last (begin r st) gs g t)
      ∙ capped_over too_much _ _ st.all
      (λ s a.
      capped_over too_much _ _ (r.choices s g) (λ c b. added_where n (prefix r st gs) (r.cost s g c) s (st.same (r.next s g c) t) (among_below s a))))

  -- what the states of two rows, or of one, cost is the least of all
  pub ending_row : (gs : List G) → ending n (prefix_row r st n gs) ≡ capped too_much (least r gs)
  ending_row gs =
      let costs : ℕ → Option ℕ = prefix r st gs in
      capped_over too_much (costs_in (row_of n costs)) costs (states_below n)
      (λ s a. let low = capped_below too_much (costs s) in omega (arith, row_at n costs s (within s a), low))
      ∙ ap (λ xs. capped too_much (over costs xs)) (sym below)
      ∙ ap (capped too_much) (sym (least_last r st gs))

  pub meeting_row : (gs hs : List G) → meeting n (prefix_row r st n gs) (suffix_row r n hs) ≡ capped too_much (least r (gs ++ hs))
  meeting_row gs hs =
      let before : ℕ → Option ℕ = prefix r st gs in
      let after : ℕ → Option ℕ = λ s. suffix r s hs in
      capped_over too_much (λ s. plus (get_or (row_of n before) s 0) (costs_in (row_of n after) s)) (λ s. both (before s) (after s)) (states_below n)
      (λ s a. (λ i. capped too_much (Some (row_at n before s (within s a) i + row_at n after s (within s a) i))) ∙ capped_both too_much (before s) (after s))
      ∙ ap (λ xs. capped too_much (over (λ s. both (before s) (after s)) xs)) (sym below)
      ∙ ap (capped too_much) (sym (meets r st gs hs))

pub backward_stands : (G C : Type 0) → Backward G C
unfolding Backward
backward_stands G C r st n below = backward_row r st n below

pub forward_stands : (G C : Type 0) → Forward G C
unfolding Forward
forward_stands G C r st n below = forward_row r st n below

pub starting_stands : (G C : Type 0) → Starting G C
unfolding Starting
starting_stands G C r st n below = starting_row r st n below

pub ending_stands : (G C : Type 0) → Ending G C
unfolding Ending
ending_stands G C r st n below = ending_row r st n below

pub meeting_stands : (G C : Type 0) → Meeting G C
unfolding Meeting
meeting_stands G C r st n below = meeting_row r st n below
