-- In a good book no read of a small gap costs much, and all gaps together cost less than the least starts with. Assumes nothing.
use Rattle.std.proofs.Common.{◌≡◌, ℕ, zero, suc, ◌+◌, ◌-◌, ◌*◌, ◌<◌, ◌≤◌, true, ◌&&◌, eqb, ltb, leb, List, [], ◌∷◌, length, get_or, inl, inr, mul-le-mul, arith}
use Rattle.std.proofs.lemmas.Bool.{and_parts, leb-true, ltb-true}
use Rattle.least.specs.Minima.{Among}
use Rattle.least.proofs.Capped.{capped_within}
use Rattle.least.proofs.Best.{bounded}
use Rattle.taps.specs.Readings.{Kind, Book, Read, apart, kind_at, tempo_at, costs, too_much, least}
use Rattle.taps.specs.Promise.{good_kinds, good_tempi, GoodBook, small}
use Rattle.taps.proofs.Picks.{pick_both}
use Rattle.statements.specs.Plain.{read, plain}
use Rattle.statements.proofs.Gap.{reads_all}
use Rattle.statements.proofs.Plain.{same_least}

-- a kind and a tempo of a good book, or 0 where there is none
pub kind_good : (ks : List Kind) (i : ℕ) → good_kinds ks ≡ true → ((get_or ks i (record { ticks = 0; weight = 0 })).ticks ≤ 96) × ((get_or ks i (record { ticks = 0; weight = 0 })).weight < 16777216)
unfolding good_kinds
kind_good [] i h = omega arith
kind_good (k ∷ ks) zero h =
    let p = and_parts _ (good_kinds ks) h in
    let q = and_parts (leb 1 k.ticks && leb k.ticks 96) (ltb k.weight 16777216) p.0 in
    (leb-true k.ticks 96 (and_parts (leb 1 k.ticks) (leb k.ticks 96) q.0).1, ltb-true k.weight 16777216 q.1)
kind_good (k ∷ ks) (suc i) h = kind_good ks i (and_parts _ (good_kinds ks) h).1

pub tempo_good : (ts : List ℕ) (i : ℕ) → good_tempi ts ≡ true → get_or ts i 0 ≤ 4000
unfolding good_tempi
tempo_good [] i h = omega arith
tempo_good (t ∷ []) zero h = leb-true t 4000 (and_parts (leb 100 t) (leb t 4000) h).1
tempo_good (t ∷ []) (suc i) h = omega arith
tempo_good (t ∷ (u ∷ us)) zero h =
    let p = and_parts (leb 100 t && ltb t u) (good_tempi (u ∷ us)) h in
    omega (arith, tempo_good (u ∷ us) 0 p.1, ltb-true t u (and_parts (leb 100 t) (ltb t u) p.0).1)
tempo_good (t ∷ (u ∷ us)) (suc i) h = tempo_good (u ∷ us) i (and_parts (leb 100 t && ltb t u) (good_tempi (u ∷ us)) h).1

-- what a read costs at most, besides twelve times the gap
abbrev pub most_besides : ℕ
most_besides = 279301215

bound : (x y w v : ℕ) → y ≤ 384000 → w < 16777216 → v ≤ 262140000 → (apart (12 * x) y + w) + v ≤ 12 * x + most_besides
bound x y w v q r s = omega arith

pub costs_little : (b : Book) (before g : ℕ) (r : Read) → GoodBook b → costs b before g r ≤ 12 * g + most_besides
costs_little b before g r good =
    let k = kind_good b.kinds r.kind good.2 in
    let t = tempo_good b.tempi r.tempo good.5 in
    let u = tempo_good b.tempi (before - 1) good.5 in
    let c : b.change ≤ 65535 = omega (arith, good.6) in
    let off : apart (tempo_at b (before - 1)) (tempo_at b r.tempo) ≤ 4000 = omega arith in
    bound g ((kind_at b r.kind).ticks * tempo_at b r.tempo) (kind_at b r.kind).weight _ (mul-le-mul {n₂ = 96} {m₂ = 4000} k.0 t) k.1
    (pick_both (λ v. v ≤ 262140000) (eqb before 0) 0 (b.change * apart (tempo_at b (before - 1)) (tempo_at b r.tempo)) (λ _. omega arith) (λ _. mul-le-mul {n₂ = 65535} {m₂ = 4000} c off))

-- gaps below an end, so many of them that the least does not reach the cap
pub least_below : (b : Book) (before end : ℕ) (gs : List ℕ) → GoodBook b → ((g : ℕ) → Among g gs → g < end) → (12 * end + most_besides) * length gs < too_much → least b before gs < too_much
least_below b before end gs good short few =
    let little =
    bounded (plain b) (12 * end + most_besides) (λ g. g < end)
    (λ s g low. (read 0 0, reads_all b (read 0 0) (good.0, good.3), omega (arith, low, costs_little b s g (read 0 0) good))) before gs short in
    omega (arith, few, same_least b before gs, capped_within too_much _ ((12 * end + most_besides) * length gs) little)

small_each : (gs : List ℕ) → small gs ≡ true → (g : ℕ) → Among g gs → g < 16777216
unfolding small
small_each [] h g a = absurd a
small_each (x ∷ xs) h g (inl e) = rw e (ltb-true x 16777216 (and_parts (ltb x 16777216) (small xs) h).0)
small_each (x ∷ xs) h g (inr a) = small_each xs (and_parts (ltb x 16777216) (small xs) h).1 g a

pub least_little : (b : Book) (before : ℕ) (gs : List ℕ) → GoodBook b → small gs ≡ true → length gs ≤ 255 → least b before gs < too_much
least_little b before gs good h few = least_below b before 16777216 gs good (small_each gs h) (omega (arith, few))
