-- What is played as written costs nothing. Assumes nothing.
use Rattle.std.proofs.Common.{◌≡◌, ℕ, zero, suc, ◌-◌, ◌*◌, ◌<◌, true, eqb, ltb, ◌⊎◌, List, [], ◌∷◌, map, length, get_or, refl, ap, ◌∙◌, inl, inr, mul-zero, arith}
use Rattle.std.proofs.lemmas.Bool.{and_parts, eqb-true, eqb-false, ltb-true, false≢true}
use Rattle.taps.specs.Readings.{pick, Kind, Book, apart, kind_at, tempo_at, costs, all_cost, in_book}
use Rattle.taps.proofs.Picks.{pick_both}
use Rattle.statements.specs.Plain.{read}
use Rattle.statements.specs.Statements.{no_weights, played, AsWritten}
use Rattle.statements.proofs.Plain.{in_from}
use Rattle.statements.proofs.Whole.{none_better}

weightless : (ks : List Kind) (i : ℕ) → no_weights ks ≡ true → (get_or ks i (record { ticks = 0; weight = 0 })).weight ≡ 0
unfolding no_weights
weightless [] i h = refl
weightless (k ∷ ks) zero h = eqb-true k.weight 0 (and_parts (eqb k.weight 0) (no_weights ks) h).0
weightless (k ∷ ks) (suc i) h = weightless ks i (and_parts (eqb k.weight 0) (no_weights ks) h).1

played_parts : (b : Book) (t k g : ℕ) (ks gs : List ℕ) → played b t (k ∷ ks) (g ∷ gs) ≡ true → (k < length b.kinds) × (12 * g ≡ (kind_at b k).ticks * tempo_at b t) × (played b t ks gs ≡ true)
unfolding played
played_parts b t k g ks gs h =
    let p = and_parts _ (played b t ks gs) h in
    let q = and_parts (ltb k (length b.kinds)) (eqb (12 * g) ((kind_at b k).ticks * tempo_at b t)) p.0 in
    (ltb-true _ _ q.0, eqb-true _ _ q.1, p.1)

-- the tempo before is none, or the same
no_change : (b : Book) (before t : ℕ) → (before ≡ 0) ⊎ (before ≡ suc t) → pick (eqb before 0) 0 (b.change * apart (tempo_at b (before - 1)) (tempo_at b t)) ≡ 0
no_change b before t from =
    pick_both (λ v. v ≡ 0) (eqb before 0) 0 (b.change * apart (tempo_at b (before - 1)) (tempo_at b t)) (λ _. refl)
    (λ some. elim from [
      | inl z ↦ absurd (eqb-false before 0 some z)
      | inr z ↦
          let place : before - 1 ≡ t = omega arith in
          let none : apart (tempo_at b (before - 1)) (tempo_at b t) ≡ 0 = omega (arith, ap (tempo_at b) place) in
          ap (λ v. b.change * v) none ∙ mul-zero b.change
    ])

free : (b : Book) (before t k g : ℕ) → no_weights b.kinds ≡ true → (before ≡ 0) ⊎ (before ≡ suc t) → 12 * g ≡ (kind_at b k).ticks * tempo_at b t → costs b before g (read k t) ≡ 0
free b before t k g light from e = omega (arith, weightless b.kinds k light, no_change b before t from)

played_free : (b : Book) (before t : ℕ) (ks gs : List ℕ) → no_weights b.kinds ≡ true → t < length b.tempi → (before ≡ 0) ⊎ (before ≡ suc t) → played b t ks gs ≡ true →
    (length (map (λ k. read k t) ks) ≡ length gs) × (in_book b (map (λ k. read k t) ks) ≡ true) × (all_cost b before gs (map (λ k. read k t) ks) ≡ 0)
unfolding in_book all_cost played
played_free b before t [] [] light i from h = (refl, refl, refl)
played_free b before t [] (g ∷ gs) light i from h = absurd (false≢true h)
played_free b before t (k ∷ ks) [] light i from h = absurd (false≢true h)
played_free b before t (k ∷ ks) (g ∷ gs) light i from h =
    let p = played_parts b t k g ks gs h in
    let r = played_free b (suc t) t ks gs light i (inr refl) p.2 in
    (ap suc r.0, in_from b (read k t) (map (λ j. read j t) ks) (p.0, i) r.1, omega (arith, free b before t k g light from p.1, r.2))

pub as_written_stands : AsWritten
unfolding AsWritten
as_written_stands b t ks gs light i h =
    let p = played_free b 0 t ks gs light i (inl refl) h in
    omega (arith, p.2, none_better b 0 gs (map (λ k. read k t) ks) p.0 p.1)
