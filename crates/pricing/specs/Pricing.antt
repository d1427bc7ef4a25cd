-- What the gaps of taps cost, read so, as lines. Assumes nothing: these are definitions.
--
-- before: the tempo of the gap before, as one more than its place; 0 where there is no gap before. gs: the gaps; rs: how they are read.
-- gap_text: a gap's line, without its end. price_text: a line for each gap, and what all cost.
use Rattle.std.specs.Prelude.{ℕ, suc, List, [], ◌∷◌, ◌++◌, codes, decimal}
use Rattle.taps.specs.Readings.{Book, Read, costs, all_cost}
use Rattle.text.specs.Lines.{note_text}

-- a note and what its gap costs, as in `12@500 0`
abbrev pub gap_text : Book → ℕ → ℕ → Read → List ℕ
gap_text b before g r = note_text b r ++ (codes " " ++ decimal (costs b before g r))

-- a line for each gap
abbrev pub costs_text : Book → ℕ → List ℕ → List Read → List ℕ
costs_text b before [] rs = []
costs_text b before (g ∷ gs) [] = []
costs_text b before (g ∷ gs) (r ∷ rs) = gap_text b before g r ++ (10 ∷ costs_text b (suc r.tempo) gs rs)

-- and behind them what all cost, as in `all 2000`
abbrev pub price_text : Book → List ℕ → List Read → List ℕ
price_text b gs rs = costs_text b 0 gs rs ++ (codes "all " ++ decimal (all_cost b 0 gs rs))

-- how many notes and gaps there are, where the two differ
abbrev pub wrong_text : ℕ → ℕ → List ℕ
wrong_text notes gaps = decimal notes ++ (codes " notes for " ++ (decimal gaps ++ codes " gaps"))
