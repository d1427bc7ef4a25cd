-- Gaps a little off cost little more: each can be read as the other. Assumes nothing.
use Rattle.std.proofs.Common.{◌≡◌, ℕ, zero, suc, ◌+◌, ◌-◌, ◌*◌, ◌≤◌, eqb, List, [], ◌∷◌, length, sym, refl, ap, arith}
use Rattle.least.specs.Readers.{suffix}
use Rattle.least.specs.Laws.{extras}
use Rattle.least.proofs.Capped.{capped_plus}
use Rattle.least.proofs.Imitation.{Fitting, imitates_from}
use Rattle.taps.specs.Readings.{pick, Book, Read, apart, kind_at, tempo_at, costs, too_much, least}
use Rattle.taps.specs.Calls.{gaps}
use Rattle.taps.proofs.Between.{length_gaps}
use Rattle.statements.specs.Plain.{plain}
use Rattle.statements.specs.Statements.{moved, ALittleOff}
use Rattle.statements.proofs.Plain.{same_least}

-- what a gap costs more where it is another
abbrev extra : ℕ → ℕ → ℕ
extra g h = 12 * apart g h

any_fit : (gs hs : List ℕ) → length hs ≡ length gs → Fitting (λ (_ _ : ℕ). Unit {0}) gs hs
any_fit [] [] n = tt
any_fit [] (h ∷ hs) n = absurd (omega arith)
any_fit (g ∷ gs) [] n = absurd (omega arith)
any_fit (g ∷ gs) (h ∷ hs) n = (tt, any_fit gs hs (omega arith))

costs_near : (b : Book) (before g h : ℕ) (r : Read) → costs b before h r ≤ costs b before g r + extra g h
costs_near b before g h r =
    near ((kind_at b r.kind).ticks * tempo_at b r.tempo) (kind_at b r.kind).weight (pick (eqb before 0) 0 (b.change * apart (tempo_at b (before - 1)) (tempo_at b r.tempo)))
  where
    near : (y w c : ℕ) → (apart (12 * h) y + w) + c ≤ ((apart (12 * g) y + w) + c) + 12 * apart g h
    near y w c = omega arith

least_near : (b : Book) (before : ℕ) (gs hs : List ℕ) → length hs ≡ length gs → least b before hs ≤ least b before gs + extras extra gs hs
least_near b before gs hs n =
    let more =
    capped_plus too_much (extras extra gs hs) (suffix (plain b) before hs) (suffix (plain b) before gs)
    (imitates_from (plain b) (plain b) (λ s t. s ≡ t) (λ _ _. Unit {0}) extra
    (λ s t g h c same fit i. (c, i, refl, rw same (costs_near b t g h c))) before before gs hs refl (any_fit gs hs n)) in
    omega (arith, same_least b before gs, same_least b before hs)

off_self : (gs : List ℕ) → extras extra gs gs ≡ 0
off_self [] = refl
off_self (g ∷ gs) = omega (arith, off_self gs)

off_sym : (gs hs : List ℕ) → extras extra gs hs ≡ extras extra hs gs
off_sym [] [] = refl
off_sym [] (h ∷ hs) = refl
off_sym (g ∷ gs) [] = refl
off_sym (g ∷ gs) (h ∷ hs) = omega (arith, off_sym gs hs)

moved_length : (x i : ℕ) (ts : List ℕ) → length (moved x i ts) ≡ length ts
unfolding moved
moved_length x i [] = refl
moved_length x zero (t ∷ ts) = refl
moved_length x (suc i) (t ∷ ts) = ap suc (moved_length x i ts)

first_off : (x t : ℕ) (ts : List ℕ) → extras extra (gaps (t ∷ ts)) (gaps ((t + x) ∷ ts)) ≤ 12 * x
unfolding gaps
first_off x t [] = omega arith
first_off x t (u ∷ us) = omega (arith, off_self (gaps (u ∷ us)))

-- the gap before the tap and the gap after it
moved_off : (x i : ℕ) (ts : List ℕ) → extras extra (gaps ts) (gaps (moved x i ts)) ≤ 24 * x
unfolding gaps moved
moved_off x i [] = omega arith
moved_off x zero (t ∷ ts) = omega (arith, first_off x t ts)
moved_off x (suc i) (t ∷ []) = omega arith
moved_off x (suc zero) (t ∷ (u ∷ us)) = omega (arith, first_off x u us)
moved_off x (suc (suc i)) (t ∷ (u ∷ us)) = omega (arith, moved_off x (suc i) (u ∷ us))

pub a_little_off_stands : ALittleOff
unfolding ALittleOff
a_little_off_stands b ts i x =
    let same : length (gaps (moved x i ts)) ≡ length (gaps ts) = omega (arith, length_gaps ts, length_gaps (moved x i ts), moved_length x i ts) in
    let off = moved_off x i ts in (
      omega (arith, least_near b 0 (gaps ts) (gaps (moved x i ts)) same),
      omega (arith, least_near b 0 (gaps (moved x i ts)) (gaps ts) (sym same), off_sym (gaps ts) (gaps (moved x i ts))),
    )
