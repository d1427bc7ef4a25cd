-- Good tempi as `is_sorted_by` and a look at the ends test them; and that what a book of the code stands for is a good book.
use Rattle.std.proofs.Common.{◌≡◌, ℕ, zero, suc, ◌+◌, Bool, true, false, ◌&&◌, ◌||◌, ◌==◌, ltb, leb, List, [], ◌∷◌, map, length, get_or, refl, sym, ◌∙◌, arith}
use Rattle.std.proofs.lemmas.List.{length-map, length-take-le}
use Rattle.std.proofs.lemmas.Bool.{and_from, and_parts, false_from_ne_true, le-leb, lt-ltb, ltb-true}
use Rattle.std.proofs.lemmas.Bool.Decides.{nat_tests}
use Rattle.std.proofs.lemmas.Grind.{get_or_tail}
use Rattle.std.specs.List.{IsAllAdjacentAnswer}
use Rattle.std.specs.List.Sorted.{IsStrictlyIncreasing}
use Rattle.taps.specs.Promise.{good_kinds, good_tempi, GoodBook}
use Rattle.taps.specs.Items.{items}
use Rattle.taps.specs.Calls.{last_of}
use Rattle.taps.specs.Values.{kind_of, kinds_of, tempi_of, book_of}
use Rattle.taps.specs.declared.kind.Kind.{Kind}
use Rattle.taps.specs.declared.book.Book.{Book}
use Rattle.taps.specs.declared.tempi.Tempi.{Tempi}

good_tempi_rise : (ts : List ℕ) → good_tempi ts ≡ true → IsStrictlyIncreasing ts
unfolding good_tempi
good_tempi_rise [] h k below = absurd (omega arith)
good_tempi_rise (t ∷ []) h k below = absurd (omega arith)
good_tempi_rise (t ∷ (u ∷ us)) h zero below = grind (arith, nat_tests)
good_tempi_rise (t ∷ (u ∷ us)) h (suc k) below =
    let next : suc k + 1 ≡ suc (k + 1) = omega arith in
    rw next (good_tempi_rise (u ∷ us) (and_parts (leb 100 t && ltb t u) (good_tempi (u ∷ us)) h).1 k (omega arith))

-- so a book's tempi rise, as a slice too
pub rising_tempi : (ts : Tempi) (slice : List ℕ) → slice ≡ tempi_of ts → IsStrictlyIncreasing slice
rising_tempi ts slice e = rw e (good_tempi_rise (tempi_of ts) ts.rising)

rising_tail : (t : ℕ) (ts : List ℕ) → IsStrictlyIncreasing (t ∷ ts) → IsStrictlyIncreasing ts
rising_tail t ts rising k below = grind (arith, get_or_tail, rising (k + 1) (omega (arith, below)))

-- where tempi rise, the first and the last tell whether all are within bounds
good_ends : (ts : List ℕ) → IsStrictlyIncreasing ts → good_tempi ts ≡ (length ts == 0 || (leb 100 (get_or ts 0 0) && leb (last_of 0 ts) 4000))
unfolding good_tempi last_of
good_ends [] rising = refl
good_ends (t ∷ []) rising = grind (arith, nat_tests)
good_ends (t ∷ (u ∷ us)) rising = grind (arith, nat_tests, rising 0 (omega arith), good_ends (u ∷ us) (rising_tail t (u ∷ us) rising))

-- good tempi are those that rise, as `is_sorted_by` tells it, and whose ends are within bounds
pub good_is_sorted : (ts : List ℕ) (r : Bool) → IsAllAdjacentAnswer (λ x y b. b ≡ ltb x y) ts r → good_tempi ts ≡ (r && (length ts == 0 || (leb 100 (get_or ts 0 0) && leb (last_of 0 ts) 4000)))
good_is_sorted ts true h = good_ends ts (λ k below. ltb-true _ _ (sym (h k 0 below)))
good_is_sorted ts false (k, below, by) =
    false_from_ne_true _ (λ good. let lower = good_tempi_rise ts good k below in let turned = by 0 in grind (arith, nat_tests))

-- a kind's bounds are in its type, so any list of them is good
good_each : (ks : List Kind) → good_kinds (map kind_of ks) ≡ true
unfolding good_kinds
good_each [] = refl
good_each (k ∷ ks) =
    and_from _ _ (and_from _ _ (and_from _ _ (le-leb 1 k.ticks k.some) (le-leb k.ticks 96 k.short)) (lt-ltb k.weight 16777216 k.light)) (good_each ks)

kind_count : (b : Book) → length (kinds_of b.kinds) ≡ b.kinds.list.count
kind_count b = length-map (items b.kinds.list) kind_of ∙ length-take-le _ b.kinds.list.all (omega (arith, b.kinds.list.whole, b.kinds.list.few))

tempo_count : (b : Book) → length (tempi_of b.tempi) ≡ b.tempi.list.count
tempo_count b = length-take-le _ b.tempi.list.all (omega (arith, b.tempi.list.whole, b.tempi.list.few))

pub book_is_good : (b : Book) → GoodBook (book_of b)
book_is_good b =
    let kinds = kind_count b in
    let tempi = tempo_count b in (
      omega (arith, kinds, b.kinds.some),
      omega (arith, kinds, b.kinds.list.few),
      good_each _,
      omega (arith, tempi, b.tempi.some),
      omega (arith, tempi, b.tempi.list.few),
      b.tempi.rising,
      b.cheap,
    )
