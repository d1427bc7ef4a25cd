-- The row after a step, from the row before it. Assumes nothing.
use Rattle.std.proofs.Common.{◌≡◌, ℕ, zero, suc, ◌+◌, ◌*◌, ◌<◌, ◌≤◌, min, List, ◌∷◌, ◌++◌, length, get_or, set, refl, sym, ap, ◌∙◌, inl, inr, arith}
use Rattle.std.proofs.lemmas.Bool.{cases_lt, eqb-true, eq-eqb}
use Rattle.least.specs.Minima.{capped}
use Rattle.least.specs.Readers.{onward}
use Rattle.least.proofs.Capped.{capped_least}
use Rattle.least.proofs.Folds.{LeastFrom, Near, from_near}
use Rattle.least.proofs.Lists.{numbers_within, numbers_have}
use Rattle.least.proofs.Meet.{StepCost, onward_least}
use Rattle.taps.specs.Readings.{Book, apart, costs, tempo_at, too_much}
use Rattle.statements.specs.Plain.{read}
use Rattle.statements.proofs.Gap.{of_kinds, kinds_have}
use Rattle.shift.specs.Shift.{Shifted}
use Rattle.model.specs.Rows.{costs_in, forward}
use Rattle.model.specs.declared.Step.{Step}
use Rattle.model.proofs.Numbers.{row_by}
use Rattle.plain.specs.Owed.{states}
use Rattle.plain.specs.Restricted.{kinds_at, restricted, state_count}
use Rattle.plain.proofs.Alone.{one_set, alone, change, change_after, costs_split, alone_low, alone_found}

module _ (b : Book) (g : Step) (before : List ℕ) where
  -- what it costs to come to a tempo from a state
  abbrev pub Reached : ℕ → ℕ → Type 0
  Reached t v = (s : ℕ) × (s < state_count b) × (v ≡ alone b g t + (get_or before s 0 + change b g s t))

  -- and by any read
  abbrev ReadAfter : ℕ → ℕ → Type 0
  ReadAfter t = StepCost (restricted b) (states b) (costs_in before) g t

  some_read : (t v : ℕ) → t < length b.tempi → Reached t v → Near (ReadAfter (suc t)) too_much v
  some_read t v inside (s, h, is) =
      elim (cases_lt (alone b g t) too_much) [
        | inl l ↦
            let k = alone_found b g t l in
            let state = numbers_have s 0 (state_count b) (omega arith) (omega arith) in
            let among = kinds_have b (kinds_at b g) (read k.0 t) k.1 inside in
            inr (
              costs b s g.gap (read k.0 t) + get_or before s 0,
              (s, state, (read k.0 t, among, (eq-eqb (suc t) (suc t) refl, (get_or before s 0, refl, refl)))),
              omega (arith, is, k.2, costs_split b g s k.0 t),
            )
        | inr l ↦ inl (omega (arith, is))
      ]

  its_state : (t v : ℕ) → ReadAfter (suc t) v → Near (Reached t) too_much v
  its_state t v (s, a, (r, c, (to, (x, e, is)))) =
      let p = of_kinds b (kinds_at b g) r c in
      let tempo : r.tempo ≡ t = omega (arith, eqb-true (suc r.tempo) (suc t) to) in
      let same : get_or before s 0 ≡ x = cc e in
      inr (
        alone b g t + (get_or before s 0 + change b g s t),
        (s, omega (arith, numbers_within s 0 (state_count b) a), refl),
        omega (arith, is, same, alone_low b g r.kind r.tempo p.0, costs_split b g s r.kind r.tempo, ap (λ u. alone b g u) tempo, ap (λ u. change b g s u) tempo),
      )

  after_entry : (t v : ℕ) → t < length b.tempi → LeastFrom (Reached t) too_much v → v ≡ capped too_much (onward (restricted b) (states b) (costs_in before) g (suc t))
  after_entry t v inside h =
      from_near (Reached t) (ReadAfter (suc t)) too_much v _ h
      (capped_least too_much (ReadAfter (suc t)) _ (onward_least (restricted b) (states b) (costs_in before) g (suc t))) (λ w. some_read t w inside) (its_state t)

  -- after a gap there is a tempo
  no_start : too_much ≡ capped too_much (onward (restricted b) (states b) (costs_in before) g 0)
  no_start =
      elim (capped_least too_much (ReadAfter 0) _ (onward_least (restricted b) (states b) (costs_in before) g 0)).found [
        | inl e ↦ sym e
        | inr h ↦ let none : suc h.2.0.tempo ≡ 0 = eqb-true (suc h.2.0.tempo) 0 h.2.2.0 in absurd (omega arith)
      ]

  after_row : (new : List ℕ) → length new ≡ state_count b → get_or new 0 0 ≡ too_much → ((t : ℕ) → t < length b.tempi → LeastFrom (Reached t) too_much (get_or new (suc t) 0)) →
      new ≡ forward (restricted b) (states b) (state_count b) g before
  after_row new size first rest =
      row_by (state_count b) new (onward (restricted b) (states b) (costs_in before) g) size
      (λ s. elim s as (λ n. n < state_count b → get_or new n 0 ≡ capped too_much (onward (restricted b) (states b) (costs_in before) g n)) [
        | zero ↦ λ h. first ∙ no_start
        | suc t ↦ λ h. after_entry t (get_or new (suc t) 0) (omega arith) (rest t (omega arith))
      ])

  -- a change costs the same in both directions
  either_way : (s t : ℕ) → change b g (suc s) t ≡ b.change * apart (tempo_at b t) (tempo_at b s)
  either_way s t = change_after b g s t ∙ (let same : apart (tempo_at b s) (tempo_at b t) ≡ apart (tempo_at b t) (tempo_at b s) = omega arith in ap (λ n. b.change * n) same)

  module _ (row moved new : List ℕ) (size : length row ≡ length b.tempi) (each : (s : ℕ) → s < length b.tempi → get_or row s 0 ≡ min (get_or before (suc s) 0) too_much) (shifted : Shifted b.change b.tempi row moved)
      (long : length moved ≡ length row) (is : (t : ℕ) → t < length b.tempi → get_or new t 0 ≡ min (min (get_or moved t 0) (get_or before 0 0) + alone b g t) too_much) where
    reached_least : (t : ℕ) → t < length b.tempi → LeastFrom (Reached t) too_much (get_or new t 0)
    reached_least t h =
        let l = shifted t (omega (arith, long, size)) in
        record {
          below = omega (arith, is t h);
          under = λ v p. elim p.0 as (λ s. s < state_count b → v ≡ alone b g t + (get_or before s 0 + change b g s t) → get_or new t 0 ≤ v) [
            | zero ↦ λ i e. omega (arith, is t h, e)
            | suc s ↦ λ i e. omega (arith, is t h, e, l.1 _ (s, omega (arith, size), refl), each s (omega arith), either_way s t)
          ] p.1 p.2;
          found = elim (cases_lt (min (get_or moved t 0) (get_or before 0 0) + alone b g t) too_much) [
            | inl under ↦ elim (cases_lt (get_or moved t 0) (get_or before 0 0)) [
              | inl lt ↦ inr (suc l.0.0, omega (arith, size, l.0.1), omega (arith, is t h, l.0.2, each l.0.0 (omega (arith, size, l.0.1)), either_way l.0.0 t))
              | inr ge ↦ inr (0, omega arith, omega (arith, is t h))
            ]
            | inr over ↦ inl (omega (arith, is t h))
          ];
        }

    pub after_whole : (start : List ℕ) → length start ≡ 1 → length new ≡ length row → set start 0 too_much ++ new ≡ forward (restricted b) (states b) (state_count b) g before
    after_whole start one wide =
        ap (λ xs. xs ++ new) (one_set start too_much one) ∙ after_row (too_much ∷ new) (omega (arith, wide, size)) refl reached_least
