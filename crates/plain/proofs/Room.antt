-- How many words the rows of a book take, and what is kept of gaps. Assumes nothing.
use Rattle.std.proofs.Common.{◌≡◌, ℕ, ◌+◌, ◌≤◌, List, [], ◌∷◌, ◌++◌, length, mul-le-mul, arith}
use Rattle.std.proofs.lemmas.List.FromFn.{length-map-range_with_len}
use Rattle.least.specs.Readers.{prefix}
use Rattle.taps.specs.Readings.{Book, least}
use Rattle.statements.specs.Plain.{plain}
use Rattle.model.proofs.Kept.{prefixes_size, prefixes_more}
use Rattle.model.proofs.Numbers.{row_size}
use Rattle.model.proofs.Tables.{suffixes_size}
use Rattle.plain.specs.Owed.{plain_states}
use Rattle.plain.specs.Restricted.{state_count, tempo_count}
use Rattle.plain.specs.Rows.{row, rows, prefix_row, local, kept_rows, kept_size, rows_size}

module _ (b : Book) where
  rows_many : (gs : List ℕ) → length (rows b gs) ≡ rows_size b (length gs)
  rows_many = suffixes_size (row b) (state_count b) (λ gs. length-map-range_with_len (λ before. least b before gs) 0 (state_count b))

  kept_wide : (gs : List ℕ) → length (prefix_row b gs) ≡ state_count b
  kept_wide gs = row_size (state_count b) (prefix (plain b) (plain_states b) gs)

  local_size : (g : ℕ) → length (local b g) ≡ tempo_count b
  local_size g = row_size (tempo_count b) _

  kept_many : (gs : List ℕ) → length (kept_rows b gs) ≡ kept_size b (length gs)
  kept_many = prefixes_size (prefix_row b) (local b) (state_count b) (tempo_count b) kept_wide local_size []

  -- what is kept of a gap more stands behind the others
  pub kept_more : (gs : List ℕ) (g : ℕ) → kept_rows b (gs ++ g ∷ []) ≡ kept_rows b gs ++ (local b g ++ prefix_row b (gs ++ g ∷ []))
  kept_more gs g = prefixes_more (prefix_row b) (local b) (state_count b) (tempo_count b) kept_wide local_size [] gs g

  -- those of fewer gaps have room where those of more have
  pub rows_room : (gs : List ℕ) (gaps : ℕ) → length gs ≤ gaps → length (rows b gs) ≤ rows_size b gaps
  rows_room gs gaps few =
      let fewer : length gs + 1 ≤ gaps + 1 = omega arith in
      let same : state_count b ≤ state_count b = omega arith in
      omega (arith, rows_many gs, mul-le-mul {n₂ = gaps + 1} {m₂ = state_count b} fewer same)

  -- and the rows take no more words than what is kept of as many
  pub rows_fewer : (gaps : ℕ) → rows_size b gaps ≤ kept_size b gaps
  rows_fewer gaps =
      let same : gaps ≤ gaps = omega arith in
      let wider : state_count b ≤ state_count b + tempo_count b = omega arith in
      omega (arith, mul-le-mul {n₂ = gaps} {m₂ = state_count b + tempo_count b} same wider)

  pub kept_sizes : (fewer more : ℕ) → fewer ≤ more → kept_size b fewer ≤ kept_size b more
  kept_sizes fewer more few =
      let same : state_count b + tempo_count b ≤ state_count b + tempo_count b = omega arith in
      omega (arith, mul-le-mul {n₂ = more} {m₂ = state_count b + tempo_count b} few same)

  pub kept_room : (gs : List ℕ) (gaps : ℕ) → length gs ≤ gaps → length (kept_rows b gs) ≤ kept_size b gaps
  kept_room gs gaps few = omega (arith, kept_many gs, kept_sizes (length gs) gaps few)

  -- those of 255 gaps and 64 tempi fit 256 times 65 words, and 255 times 129 and 65 more
  pub most_room : (gaps : ℕ) → gaps ≤ 255 → length b.tempi ≤ 64 → (rows_size b gaps ≤ 16640) × (kept_size b gaps ≤ 32960)
  most_room gaps few tempi =
      let states : state_count b ≤ 65 = omega arith in
      let both : state_count b + tempo_count b ≤ 129 = omega arith in
      let fewer : gaps + 1 ≤ 256 = omega arith in
      (omega (arith, mul-le-mul {n₂ = 256} {m₂ = 65} fewer states), omega (arith, mul-le-mul {n₂ = 255} {m₂ = 129} few both, states))
