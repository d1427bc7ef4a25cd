-- All gaps: the reading told is one, costs the least, and is the first of those that do; and no reading costs less. Assumes nothing.
use Rattle.std.proofs.Common.{◌≡◌, ℕ, suc, ◌<◌, ◌≤◌, true, ◌⊎◌, List, [], ◌∷◌, length, Some, sym, refl, ap, ◌∙◌, subst, inl, inr, arith}
use Rattle.std.proofs.lemmas.Bool.{and_from, or_left, or_right, cases_lt, lt-ltb, eq-eqb}
use Rattle.least.specs.Readers.{Reads, total, suffix, told, ComesFirst}
use Rattle.least.proofs.Capped.{capped_some, capped_within}
use Rattle.least.proofs.Choice.{ToldBest}
use Rattle.least.proofs.Best as best
use Rattle.taps.specs.Readings.{Book, Read, all_cost, in_book, too_much, least, reading}
use Rattle.taps.specs.Promise.{small}
use Rattle.statements.specs.Plain.{plain}
use Rattle.statements.specs.Statements.{comes_first, Least, First}
use Rattle.statements.proofs.Gap.{reads_in, reads_sooner}
use Rattle.statements.proofs.Plain.{reads_book, book_reads, same_total, same_least, same_reading}
use Rattle.statements.proofs.Bound.{least_little}

pub none_better : (b : Book) (before : ℕ) (gs : List ℕ) (rs : List Read) → length rs ≡ length gs → in_book b rs ≡ true → least b before gs ≤ all_cost b before gs rs
none_better b before gs rs n i =
    omega (arith, same_least b before gs, same_total b before gs rs, capped_within too_much _ _ (best.none_better (plain b) before gs rs (book_reads b before gs rs n i)))

-- the general reader's first best reading is the one told
told_best : (b : Book) (before : ℕ) (gs : List ℕ) → least b before gs < too_much →
    ToldBest (told (plain b) before gs) (Reads (plain b) before gs) (total (plain b) before gs) (ComesFirst (plain b) before gs) (least b before gs) (reading b before gs)
told_best b before gs small =
    let same = same_least b before gs in
    let t = best.told_best (plain b) before gs (least b before gs) (capped_some too_much (suffix (plain b) before gs) (omega arith) ∙ ap Some (sym same)) in
    let is : t.0 ≡ reading b before gs = cc (t.1.told, same_reading b before gs small) in
    subst (ToldBest _ _ _ _ (least b before gs)) is t.1

pub least_stands : Least
unfolding Least
least_stands = (
  λ b gs good h few.
      let t = told_best b 0 gs (least_little b 0 gs good h few) in
      let r = reads_book b 0 gs (reading b 0 gs) t.is in
      (r.0, r.1, sym (same_total b 0 gs (reading b 0 gs)) ∙ t.costs),
  λ b gs rs n i. none_better b 0 gs rs n i,
)

-- met sooner gap by gap, a reading comes first by kinds and tempi
first_more : (r s : Read) (rs ss : List Read) → (r.kind < s.kind) ⊎ ((r.kind ≡ s.kind) × (r.tempo ≤ s.tempo)) → (r ≡ s → comes_first rs ss ≡ true) → comes_first (r ∷ rs) (s ∷ ss) ≡ true
unfolding comes_first
first_more r s rs ss (inl l) rest = or_left _ _ (lt-ltb _ _ l)
first_more r s rs ss (inr e) rest =
    or_right _ _
    (and_from _ _ (eq-eqb _ _ e.0)
    (elim (cases_lt r.tempo s.tempo) [
      | inl l ↦ or_left _ _ (lt-ltb _ _ l)
      | inr l ↦ let same : r.tempo ≡ s.tempo = omega (arith, e.1) in or_right _ _ (and_from _ _ (eq-eqb _ _ same) (rest (λ i. record { kind = e.0 i; tempo = same i })))
    ]))

comes_is : (b : Book) (before : ℕ) (gs : List ℕ) (rs ss : List Read) → Reads (plain b) before gs rs → Reads (plain b) before gs ss → ComesFirst (plain b) before gs rs ss → comes_first rs ss ≡ true
unfolding comes_first
comes_is b before [] [] ss i j p = refl
comes_is b before [] (r ∷ rs) ss i j p = absurd i
comes_is b before (g ∷ gs) [] ss i j p = refl
comes_is b before (g ∷ gs) (r ∷ rs) [] i j p = refl
comes_is b before (g ∷ gs) (r ∷ rs) (s ∷ ss) i j p =
    first_more r s rs ss (reads_sooner b r s (reads_in b s j.0) p.0)
    (λ same. comes_is b (suc r.tempo) gs rs ss i.1 (subst (λ x. Reads (plain b) (suc x.tempo) gs ss) (sym same) j.1) (p.1 same))

pub first_stands : First
unfolding First
first_stands b gs rs good h few n i e =
    let t = told_best b 0 gs (least_little b 0 gs good h few) in
    let reads = book_reads b 0 gs rs n i in
    comes_is b 0 gs (reading b 0 gs) rs t.is reads (t.first rs reads (same_total b 0 gs rs ∙ e))
