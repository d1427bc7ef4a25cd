-- A row that is lowered by one kind after the other has the least over all. Assumes nothing.
use Rattle.std.proofs.Common.{◌≡◌, ℕ, ◌+◌, ◌*◌, ◌<◌, ◌≤◌, min, true, false, List, length, filter, get_or, eqb, Some, None, Option, refl, ap, ◌∙◌, arith}
use Rattle.std.proofs.lemmas.Bool.Decides.{nat_tests}
use Rattle.std.proofs.lemmas.List.FromFn.{fill_by_all}
use Rattle.bitset.specs.Members.{member}
use Rattle.least.specs.Minima.{capped, over}
use Rattle.least.proofs.Capped.{capped_below, capped_lower}
use Rattle.least.proofs.Minimal.{over_found}
use Rattle.taps.specs.Readings.{pick, Book, too_much}
use Rattle.taps.specs.Promise.{GoodBook}
use Rattle.statements.specs.Plain.{read}
use Rattle.statements.proofs.Bound.{costs_little, most_besides}
use Rattle.fit.specs.Fit.{fit, allowed, least_fit, fits}
use Rattle.fit.proofs.Left.{left, left_none, left_all, passing, failing}

module _ (b : Book) (set gap none : ℕ) where
  -- the least over some of the kinds
  abbrev among : List ℕ → ℕ → ℕ
  among ks t = capped none (over (λ k. Some (fit b gap k t)) (filter (member set) ks))

  -- the least over the kinds from k on
  abbrev still : ℕ → ℕ → ℕ
  still k = among (left (length b.kinds) k)

  -- with the kinds from k on, the row has the least over all
  abbrev pub Filled : List ℕ → ℕ → Type 0
  Filled row k = (t : ℕ) → t < length b.tempi → (get_or row t 0 ≤ none) × (min (get_or row t 0) (still k t) ≡ capped none (least_fit b set gap t))

  pub filled_none : (row : List ℕ) → ((t : ℕ) → t < length b.tempi → get_or row t 0 ≡ none) → Filled row 0
  filled_none row all t h =
      let same : still 0 t ≡ capped none (least_fit b set gap t) = ap (λ ks. among ks t) (left_all (length b.kinds)) in
      (omega (arith, all t h), omega (arith, all t h, capped_below none (least_fit b set gap t)))

  pub filled_past : (row : List ℕ) (k : ℕ) → k < length b.kinds → member set k ≡ false → Filled row k → Filled row (k + 1)
  filled_past row k h e old t i =
      let same : still k t ≡ still (k + 1) t = ap (λ ks. capped none (over (λ j. Some (fit b gap j t)) ks)) (failing (member set) (length b.kinds) k h e) in
      ((old t i).0, omega (arith, old t i))

  pub filled_lower : (row next : List ℕ) (k : ℕ) → k < length b.kinds → member set k ≡ true →
      ((t : ℕ) → t < length b.tempi → get_or next t 0 ≡ min (get_or row t 0) (fit b gap k t)) → Filled row k → Filled next (k + 1)
  filled_lower row next k h e is old t i =
      let one : still k t ≡ min (fit b gap k t) (still (k + 1) t) =
      ap (λ ks. capped none (over (λ j. Some (fit b gap j t)) ks)) (passing (member set) (length b.kinds) k h e) ∙ capped_lower none (fit b gap k t) _ in
      (omega (arith, old t i, is t i), omega (arith, old t i, is t i))

  filled_all : (row : List ℕ) (k : ℕ) → length b.kinds ≤ k → Filled row k → (t : ℕ) → t < length b.tempi → get_or row t 0 ≡ capped none (least_fit b set gap t)
  filled_all row k h old t i = let last : still k t ≡ none = ap (λ ks. among ks t) (left_none (length b.kinds) k h) in omega (arith, old t i)

  -- a cost is below what stands for none
  below_none : GoodBook b → 12 * gap + most_besides < none → (t v : ℕ) → least_fit b set gap t ≡ Some v → v < none
  below_none good low t v e =
      let f = over_found (λ k. Some (fit b gap k t)) (allowed b set) v e in
      let same : fit b gap f.0 t ≡ v = cc f.2 in
      omega (arith, same, costs_little b 0 gap (read f.0 t) good, low)

  widened : (m : Option ℕ) → ((v : ℕ) → m ≡ Some v → v < none) → none ≤ too_much → pick (eqb (capped none m) none) too_much (capped none m) ≡ capped too_much m
  widened None below few = grind (arith, nat_tests)
  widened (Some v) below few = let low = below v refl in grind (arith, nat_tests)

  -- with what stands for none in a row put in its place the row has the least over all kinds
  pub filled_wide : GoodBook b → 12 * gap + most_besides < none → none ≤ too_much → (least row : List ℕ) (k : ℕ) → length b.kinds ≤ k → Filled least k → length row ≡ length b.tempi →
      ((t : ℕ) → t < length b.tempi → get_or row t 0 ≡ pick (eqb (get_or least t 0) none) too_much (get_or least t 0)) → row ≡ fits b set gap
  filled_wide good low few least row k h old size wide =
      fill_by_all (λ t. capped too_much (least_fit b set gap t)) row (length b.tempi) 0 size
      (λ t i.
      wide t i
      ∙ ap (λ v. pick (eqb v none) too_much v) (filled_all least k h old t i)
      ∙ widened (least_fit b set gap t) (below_none good low t) few)
