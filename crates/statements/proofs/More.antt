-- A longer book is never worse: it can read every gap as the shorter one does, for no more. Assumes nothing.
use Rattle.std.proofs.Common.{◌≡◌, ℕ, suc, ◌-◌, ◌*◌, ◌≤◌, eqb, ◌⊎◌, sym, refl, ap, ◌∙◌, inl, inr, mul-le-mul, arith}
use Rattle.std.proofs.lemmas.Bool.{ne_eqb}
use Rattle.least.specs.Readers.{suffix}
use Rattle.least.specs.Laws.{extras}
use Rattle.least.proofs.Capped.{capped_plus}
use Rattle.least.proofs.Imitation.{imitates_from, fitting_same, no_extras}
use Rattle.taps.specs.Readings.{pick, Book, Read, apart, kind_at, tempo_at, costs, too_much}
use Rattle.statements.specs.Plain.{read, plain}
use Rattle.statements.specs.Statements.{More}
use Rattle.statements.proofs.Gap.{reads_in, reads_all}
use Rattle.statements.proofs.Plain.{same_least}

-- the same tempo before in both books, or none
abbrev SameBefore : Book → Book → ℕ → ℕ → Type 0
SameBefore b c p q = ((p ≡ 0) × (q ≡ 0)) ⊎ ((t : ℕ) × (u : ℕ) × (p ≡ suc t) × (q ≡ suc u) × (tempo_at c u ≡ tempo_at b t))

no_more_change : (b c : Book) (p q t u : ℕ) → c.change ≤ b.change → SameBefore b c p q → tempo_at c u ≡ tempo_at b t →
    pick (eqb q 0) 0 (c.change * apart (tempo_at c (q - 1)) (tempo_at c u)) ≤ pick (eqb p 0) 0 (b.change * apart (tempo_at b (p - 1)) (tempo_at b t))
no_more_change b c p q t u less (inl f) same = rw (f.0, f.1) (omega arith)
no_more_change b c p q t u less (inr f) same =
    let places : (q - 1 ≡ f.1) × (p - 1 ≡ f.0) = omega arith in
    let before : tempo_at c (q - 1) ≡ tempo_at b (p - 1) = ap (tempo_at c) places.0 ∙ f.4 ∙ sym (ap (tempo_at b) places.1) in
    let far : apart (tempo_at c (q - 1)) (tempo_at c u) ≤ apart (tempo_at b (p - 1)) (tempo_at b t) = omega arith in
    rw (ne_eqb q 0 (λ z. omega arith), ne_eqb p 0 (λ z. omega arith)) (mul-le-mul less far)

no_more_costs : (b c : Book) (p q g : ℕ) (r s : Read) → c.change ≤ b.change → SameBefore b c p q → (kind_at c s.kind).ticks ≡ (kind_at b r.kind).ticks →
    (kind_at c s.kind).weight ≤ (kind_at b r.kind).weight → tempo_at c s.tempo ≡ tempo_at b r.tempo → costs c q g s ≤ costs b p g r
no_more_costs b c p q g r s less before ticks weight tempo =
    let same : (kind_at c s.kind).ticks * tempo_at c s.tempo ≡ (kind_at b r.kind).ticks * tempo_at b r.tempo = (λ i. ticks i * tempo i) in
    omega (arith, no_more_change b c p q r.tempo s.tempo less before tempo)

pub more_stands : More
unfolding More
more_stands b c gs less kinds tempi =
    let more =
    capped_plus too_much (extras (λ (_ _ : ℕ). 0) gs gs) (suffix (plain c) 0 gs) (suffix (plain b) 0 gs)
    (imitates_from (plain b) (plain c) (SameBefore b c) (λ g h. g ≡ h) (λ _ _. 0)
    (λ p q g h r before same i.
    let there = reads_in b r i in
    let k = kinds r.kind there.0 in
    let t = tempi r.tempo there.1 in
    let s : Read = read k.0 t.0 in
    (s, reads_all c s (k.1, t.1), inr (r.tempo, t.0, refl, refl, t.2), rw (sym same) (omega (arith, no_more_costs b c p q g r s less before k.2 k.3 t.2))))
    0 0 gs gs (inl (refl, refl)) (fitting_same gs)) in
    omega (arith, same_least b 0 gs, same_least c 0 gs, no_extras gs gs)
