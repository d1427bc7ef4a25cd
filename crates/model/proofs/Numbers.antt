-- The numbers of a row: how many there are, which one stands where, and that none is above the cap. Assumes nothing.
use Rattle.std.proofs.Common.{◌≡◌, ℕ, ◌<◌, ◌≤◌, All, List, length, get_or, Option, ◌∙◌, arith}
use Rattle.std.proofs.lemmas.List.FromFn.{length-map-range_with_len, get_or-map-range_with_len, fill_by_all}
use Rattle.std.proofs.lemmas.List.Elements.{All-from_get_or}
use Rattle.least.specs.Minima.{capped}
use Rattle.least.proofs.Capped.{capped_below}
use Rattle.taps.specs.Readings.{too_much}
use Rattle.model.specs.Rows.{row_of}

module _ (n : ℕ) where
  pub row_size : (costs : ℕ → Option ℕ) → length (row_of n costs) ≡ n
  row_size costs = length-map-range_with_len (λ s. capped too_much (costs s)) 0 n

  pub row_at : (costs : ℕ → Option ℕ) (s : ℕ) → s < n → get_or (row_of n costs) s 0 ≡ capped too_much (costs s)
  row_at costs s h = get_or-map-range_with_len (λ t. capped too_much (costs t)) 0 n s s 0 h (omega arith)

  -- a row is fixed by its numbers
  pub row_by : (row : List ℕ) (costs : ℕ → Option ℕ) → length row ≡ n → ((s : ℕ) → s < n → get_or row s 0 ≡ capped too_much (costs s)) → row ≡ row_of n costs
  row_by row costs size each = fill_by_all (λ s. capped too_much (costs s)) row n 0 size each

  pub row_same : (f h : ℕ → Option ℕ) → ((s : ℕ) → s < n → capped too_much (f s) ≡ capped too_much (h s)) → row_of n f ≡ row_of n h
  row_same f h same = row_by (row_of n f) h (row_size f) (λ s l. row_at f s l ∙ same s l)

  pub row_small : (costs : ℕ → Option ℕ) → All (λ v. v ≤ too_much) (row_of n costs)
  row_small costs =
      All-from_get_or (λ v. v ≤ too_much) (row_of n costs) 0
      (λ s h. omega (arith, row_at costs s (omega (arith, row_size costs)), capped_below too_much (costs s)))
