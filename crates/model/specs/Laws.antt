-- What a model owes, and what holds of its rows. Each but the first is a statement: a type, whose proof is owed by the function whose contract names it. Assumes nothing.
use Rattle.std.specs.Prelude.{◌≡◌, ℕ, suc, ◌*◌, ◌<◌, ◌≤◌, Bool, true, List, [], ◌∷◌, ◌++◌, length, Some, None}
use Rattle.std.specs.List.{list_all}
use Rattle.least.specs.Minima.{capped, Among}
use Rattle.least.specs.Readers.{Reader, States, suffix, told, least}
use Rattle.taps.specs.Readings.{too_much}
use Rattle.model.specs.Rows.{states_below, suffix_row, suffix_rows, backward, starting, prefix_row, forward, ending, meeting}
use Rattle.model.specs.Walk.{walked}

-- its states are the numbers below n; a reading can start for no more than `most`, and at each step that is fair it can go on for no more than that
pub record Lawful {G C : Type 0} (r : Reader G ℕ C) (st : States r) (n : ℕ) (fair : G → Bool) (most : ℕ) : Type 0 where
  pub below : st.all ≡ states_below n
  pub start : (s : ℕ) × Among s r.starts × (r.entry s ≤ most)
  pub little : (s : ℕ) (g : G) → fair g ≡ true → (c : C) × Among c (r.choices s g) × (r.cost s g c ≤ most)

-- one step from row to row is one step of the general reader, from the last step on and from the first step on
unfoldable pub Backward : (G C : Type 0) → Type 0
Backward G C =
    (r : Reader G ℕ C) (st : States r) (n : ℕ) → st.all ≡ states_below n → (g : G) (gs : List G) → suffix_row r n (g ∷ gs) ≡ backward r n g (suffix_row r n gs)

unfoldable pub Forward : (G C : Type 0) → Type 0
Forward G C =
    (r : Reader G ℕ C) (st : States r) (n : ℕ) → st.all ≡ states_below n → (gs : List G) (g : G) → prefix_row r st n (gs ++ g ∷ []) ≡ forward r st n g (prefix_row r st n gs)

-- the least of all is told by the row before the first step, by the row after the last, and by the two rows between any steps and those after them: one number
unfoldable pub Starting : (G C : Type 0) → Type 0
Starting G C = (r : Reader G ℕ C) (st : States r) (n : ℕ) → st.all ≡ states_below n → (gs : List G) → starting r (suffix_row r n gs) ≡ capped too_much (least r gs)

unfoldable pub Ending : (G C : Type 0) → Type 0
Ending G C = (r : Reader G ℕ C) (st : States r) (n : ℕ) → st.all ≡ states_below n → (gs : List G) → ending n (prefix_row r st n gs) ≡ capped too_much (least r gs)

unfoldable pub Meeting : (G C : Type 0) → Type 0
Meeting G C =
    (r : Reader G ℕ C) (st : States r) (n : ℕ) → st.all ≡ states_below n → (gs hs : List G) →
    meeting n (prefix_row r st n gs) (suffix_row r n hs) ≡ capped too_much (least r (gs ++ hs))

-- where each step is fair and they are not too many, the number told is the least itself, and not the cap
unfoldable pub Exact : (G C : Type 0) → Type 0
Exact G C =
    (r : Reader G ℕ C) (st : States r) (n : ℕ) (fair : G → Bool) (most : ℕ) → Lawful r st n fair most → (gs : List G) → list_all fair gs ≡ true →
    most * suc (length gs) < too_much → least r gs ≡ Some (capped too_much (least r gs))

-- from a state on, the walk over the rows reads what the general reader tells, the first best reading, where that costs less than `too_much`; and it reads nothing where
-- there is no reading
unfoldable pub Walked : (G C : Type 0) → Type 0
Walked G C =
    (r : Reader G ℕ C) (st : States r) (n : ℕ) → st.all ≡ states_below n → (s : ℕ) → s < n → (gs : List G) →
    (capped too_much (suffix r s gs) < too_much → walked r n s gs (suffix_rows r n gs) ≡ told r s gs) × (suffix r s gs ≡ None → walked r n s gs (suffix_rows r n gs) ≡ None)
