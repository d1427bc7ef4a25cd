-- The row before a step, from the row after it. Assumes nothing.
use Rattle.std.proofs.Common.{◌≡◌, ℕ, zero, suc, ◌+◌, ◌<◌, ◌≤◌, min, All, List, [], ◌∷◌, ◌++◌, length, get_or, set, Some, None, Option, unwrap_or, refl, ap, ◌∙◌, inl, inr, arith}
use Rattle.std.proofs.lemmas.Bool.{cases_lt}
use Rattle.std.proofs.lemmas.List.Elements.{All-append, All-get_or, All-from_get_or}
use Rattle.least.specs.Minima.{Least, capped, plus, over, Among, Entry}
use Rattle.least.proofs.Capped.{capped_least}
use Rattle.least.proofs.Folds.{LeastFrom, Near, from_near}
use Rattle.least.proofs.Minimal.{over_numbers}
use Rattle.taps.specs.Readings.{Book, Read, costs, too_much}
use Rattle.statements.specs.Plain.{read, reads_of}
use Rattle.statements.proofs.Gap.{of_kinds, kinds_have}
use Rattle.shift.specs.Shift.{Shifted}
use Rattle.model.specs.Rows.{costs_in, backward}
use Rattle.model.specs.declared.Step.{Step}
use Rattle.model.proofs.Numbers.{row_by}
use Rattle.plain.specs.Restricted.{kinds_at, restricted, state_count}
use Rattle.plain.proofs.Alone.{one_set, alone, change, change_after, costs_split, alone_low, alone_found}

least_small : (row : List ℕ) (m : Option ℕ) → Least (Entry row) m → All (λ w. w ≤ too_much) row → unwrap_or m too_much ≤ too_much
least_small row None least small = omega arith
least_small row (Some m) least small = omega (arith, least.0.2, All-get_or (λ w. w ≤ too_much) row least.0.0 0 least.0.1 small)

module _ (b : Book) (g : Step) (after : List ℕ) where
  -- what the gap costs at a tempo, and what follows it
  abbrev pub arrived : ℕ → ℕ
  arrived t = min (alone b g t + get_or after (suc t) 0) too_much

  -- the same from a state before, at any tempo
  abbrev pub Arrived : ℕ → ℕ → Type 0
  Arrived s v = (t : ℕ) × (t < length b.tempi) × (v ≡ arrived t + change b g s t)

  -- and by any read
  abbrev ReadBefore : ℕ → ℕ → Type 0
  ReadBefore s v = (r : Read) × Among r (reads_of b (kinds_at b g)) × (v ≡ costs b s g.gap r + get_or after (suc r.tempo) 0)

  some_read : (s v : ℕ) → Arrived s v → Near (ReadBefore s) too_much v
  some_read s v (t, h, is) =
      elim (cases_lt (arrived t) too_much) [
        | inl l ↦
            let k = alone_found b g t (omega arith) in
            let among = kinds_have b (kinds_at b g) (read k.0 t) k.1 h in
            inr (costs b s g.gap (read k.0 t) + get_or after (suc t) 0, (read k.0 t, among, refl), omega (arith, is, k.2, costs_split b g s k.0 t))
        | inr l ↦ inl (omega (arith, is))
      ]

  its_tempo : (s v : ℕ) → ReadBefore s v → Near (Arrived s) too_much v
  its_tempo s v (r, a, is) =
      let p = of_kinds b (kinds_at b g) r a in
      inr (arrived r.tempo + change b g s r.tempo, (r.tempo, p.1, refl), omega (arith, is, alone_low b g r.kind r.tempo p.0, costs_split b g s r.kind r.tempo))

  before_entry : (s v : ℕ) → LeastFrom (Arrived s) too_much v → v ≡ capped too_much (over (λ r. plus (costs b s g.gap r) (costs_in after (suc r.tempo))) (reads_of b (kinds_at b g)))
  before_entry s v h =
      let reads = over_numbers (λ r. costs b s g.gap r + get_or after (suc r.tempo) 0) (reads_of b (kinds_at b g)) in
      from_near (Arrived s) (ReadBefore s) too_much v _ h (capped_least too_much (ReadBefore s) _ reads) (some_read s) (its_tempo s)

  before_row : (new : List ℕ) → length new ≡ state_count b → LeastFrom (Arrived 0) too_much (get_or new 0 0) →
      ((t : ℕ) → t < length b.tempi → LeastFrom (Arrived (suc t)) too_much (get_or new (suc t) 0)) → new ≡ backward (restricted b) (state_count b) g after
  before_row new size first rest =
      row_by (state_count b) new (λ s. over (λ r. plus (costs b s g.gap r) (costs_in after (suc r.tempo))) (reads_of b (kinds_at b g))) size
      (λ s. elim s as (λ n. n < state_count b → get_or new n 0 ≡ capped too_much (over (λ r. plus (costs b n g.gap r) (costs_in after (suc r.tempo))) (reads_of b (kinds_at b g)))) [
        | zero ↦ λ h. before_entry 0 (get_or new 0 0) first
        | suc t ↦ λ h. before_entry (suc t) (get_or new (suc t) 0) (rest t (omega arith))
      ])

  module _ (row : List ℕ) (size : length row ≡ length b.tempi) (each : (t : ℕ) → t < length b.tempi → get_or row t 0 ≡ arrived t) where
    -- with no tempo before it is the least at any tempo
    first_arrived : (m : Option ℕ) → Least (Entry row) m → LeastFrom (Arrived 0) too_much (unwrap_or m too_much)
    first_arrived None l =
        record { below = omega arith; under = λ v h. absurd (l (get_or row h.0 0) (h.0, omega (arith, size, h.1), refl)); found = inl refl }
    first_arrived (Some m) l =
        let t = l.0.0 in
        let inside : t < length b.tempi = omega (arith, size, l.0.1) in
        let is : m ≡ arrived t = l.0.2 ∙ each t inside in
        record {
          below = omega arith;
          under = λ v h. omega (arith, l.1 (get_or row h.0 0) (h.0, omega (arith, size, h.1), refl), each h.0 h.1, h.2);
          found = inr (t, inside, omega arith);
        }

    -- after a tempo it is the least that two passes leave
    later_arrived : (new : List ℕ) → Shifted b.change b.tempi row new → length new ≡ length b.tempi → (s : ℕ) → s < length b.tempi → get_or new s 0 ≤ get_or row s 0 →
        LeastFrom (Arrived (suc s)) too_much (get_or new s 0)
    later_arrived new shifted long s h kept =
        let l = shifted s (omega arith) in
        record {
          below = omega (arith, each s h);
          under = λ v p. omega (arith, l.1 _ (p.0, omega (arith, size, p.1), refl), each p.0 p.1, change_after b g s p.0, p.2);
          found = inr (l.0.0, omega (arith, size, l.0.1), omega (arith, l.0.2, each l.0.0 (omega (arith, size, l.0.1)), change_after b g s l.0.0));
        }

    -- so both are the row before the step
    pub before_whole : (start new : List ℕ) (m : Option ℕ) (v : ℕ) → length start ≡ 1 → Least (Entry row) m → v ≡ unwrap_or m too_much → Shifted b.change b.tempi row new →
        length new ≡ length row → ((s : ℕ) → s < length new → get_or new s 0 ≤ get_or row s 0) → set start 0 v ++ new ≡ backward (restricted b) (state_count b) g after
    before_whole start new m v one least first shifted long kept =
        ap (λ xs. xs ++ new) (one_set start v one)
        ∙ before_row (v ∷ new) (omega (arith, long, size)) (rw first (first_arrived m least))
        (λ t h. later_arrived new shifted (omega (arith, long, size)) t h (kept t (omega (arith, long, size))))

-- no number of such a row is above the cap
pub before_small : (start row new : List ℕ) (m : Option ℕ) (v : ℕ) → length start ≡ 1 → Least (Entry row) m → v ≡ unwrap_or m too_much → All (λ w. w ≤ too_much) row → length new ≡ length row →
    ((s : ℕ) → s < length new → get_or new s 0 ≤ get_or row s 0) → All (λ w. w ≤ too_much) (set start 0 v ++ new)
before_small start row new m v one least first small long kept =
    let low : v ≤ too_much = rw first (least_small row m least small) in
    let rest : All (λ w. w ≤ too_much) new =
    All-from_get_or (λ w. w ≤ too_much) new 0 (λ s h. omega (arith, kept s h, All-get_or (λ w. w ≤ too_much) row s 0 (omega (arith, long, h)) small)) in
    rw (one_set start v one) (All-append (λ w. w ≤ too_much) (v ∷ []) new (All-from_get_or (λ w. w ≤ too_much) (v ∷ []) 0 (λ s h. let none : s ≡ 0 = omega arith in rw none low)) rest)
