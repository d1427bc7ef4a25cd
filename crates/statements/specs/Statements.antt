-- What people want of the definitions of readings, and what therefore is promised of them. Each is a statement: a type, whose proof is owed by the function whose contract names it. Assumes nothing.
--
-- Least, First: the reading told is the best, and the first of those. AsWritten, Later, More, ALittleOff: how the least follows the taps and the book.
use Rattle.std.specs.Prelude.{◌≡◌, ℕ, zero, suc, ◌+◌, ◌*◌, ◌<◌, ◌≤◌, Bool, true, false, ◌&&◌, ◌||◌, List, [], ◌∷◌, length, ◌==◌, nat_lt}
use Rattle.taps.specs.Readings.{Kind, Book, Read, kind_at, tempo_at, all_cost, in_book, least, reading}
use Rattle.taps.specs.Calls.{gaps}
use Rattle.taps.specs.Promise.{GoodBook, small}

-- 1. Nobody reads better: the reading told is one and costs the least; and no reading of any book and gaps costs less
unfoldable pub Least : Type 0
Least =
    ((b : Book) (gs : List ℕ) → GoodBook b → small gs ≡ true → length gs ≤ 255 →
    (length (reading b 0 gs) ≡ length gs) × (in_book b (reading b 0 gs) ≡ true) × (all_cost b 0 gs (reading b 0 gs) ≡ least b 0 gs))
    × ((b : Book) (gs : List ℕ) (rs : List Read) → length rs ≡ length gs → in_book b rs ≡ true → least b 0 gs ≤ all_cost b 0 gs rs)

-- 2. And it is the first that costs so little: another one has, at the first gap where they differ, a later kind, or the same kind at a later tempo
unfoldable pub comes_first : List Read → List Read → Bool
comes_first [] ss = true
comes_first (r ∷ rs) [] = true
comes_first (r ∷ rs) (s ∷ ss) =
    nat_lt r.kind s.kind || (r.kind == s.kind && (nat_lt r.tempo s.tempo || (r.tempo == s.tempo && comes_first rs ss)))

unfoldable pub First : Type 0
First =
    (b : Book) (gs : List ℕ) (rs : List Read) → GoodBook b → small gs ≡ true → length gs ≤ 255 → length rs ≡ length gs → in_book b rs ≡ true → all_cost b 0 gs rs ≡ least b 0 gs →
    comes_first (reading b 0 gs) rs ≡ true

-- 3. What is played as written is read as written: with no weights, gaps that are kinds at one tempo, exactly, cost nothing
unfoldable pub no_weights : List Kind → Bool
no_weights [] = true
no_weights (k ∷ ks) = k.weight == 0 && no_weights ks

unfoldable pub played : Book → ℕ → List ℕ → List ℕ → Bool
played b t [] [] = true
played b t [] (g ∷ gs) = false
played b t (k ∷ ks) [] = false
played b t (k ∷ ks) (g ∷ gs) = (nat_lt k (length b.kinds) && 12 * g == (kind_at b k).ticks * tempo_at b t) && played b t ks gs

unfoldable pub AsWritten : Type 0
AsWritten = (b : Book) (t : ℕ) (ks gs : List ℕ) → no_weights b.kinds ≡ true → t < length b.tempi → played b t ks gs ≡ true → least b 0 gs ≡ 0

-- 4. All taps later by as much: the same reading, and the same least
unfoldable pub later : ℕ → List ℕ → List ℕ
later n [] = []
later n (t ∷ ts) = (t + n) ∷ later n ts

unfoldable pub Later : Type 0
Later = (b : Book) (ts : List ℕ) (n : ℕ) → (reading b 0 (gaps (later n ts)) ≡ reading b 0 (gaps ts)) × (least b 0 (gaps (later n ts)) ≡ least b 0 (gaps ts))

-- 5. A longer book is never worse: more kinds, or more tempi, cost no more; nor do lower weights and a lower change
unfoldable pub More : Type 0
More =
    (b c : Book) (gs : List ℕ) → c.change ≤ b.change →
    ((k : ℕ) → k < length b.kinds → (j : ℕ) × (j < length c.kinds) × ((kind_at c j).ticks ≡ (kind_at b k).ticks) × ((kind_at c j).weight ≤ (kind_at b k).weight)) →
    ((t : ℕ) → t < length b.tempi → (u : ℕ) × (u < length c.tempi) × (tempo_at c u ≡ tempo_at b t)) → least c 0 gs ≤ least b 0 gs

-- 6. A tap a little off costs little: if one tap comes x later, the least is at most 24 times x more or less
unfoldable pub moved : ℕ → ℕ → List ℕ → List ℕ
moved x i [] = []
moved x zero (t ∷ ts) = (t + x) ∷ ts
moved x (suc i) (t ∷ ts) = t ∷ moved x i ts

unfoldable pub ALittleOff : Type 0
ALittleOff =
    (b : Book) (ts : List ℕ) (i x : ℕ) →
    (least b 0 (gaps (moved x i ts)) ≤ least b 0 (gaps ts) + 24 * x) × (least b 0 (gaps ts) ≤ least b 0 (gaps (moved x i ts)) + 24 * x)
