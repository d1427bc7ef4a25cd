-- One gap: the loops over kinds and tempi find the least and the first of all reads of the book. Assumes nothing.
use Rattle.std.proofs.Common.{◌≡◌, ℕ, zero, suc, ◌+◌, ◌-◌, ◌<◌, ◌≤◌, min, Bool, true, false, cond, eqb, leb, ◌⊎◌, List, map, length, Some, None, Option, unwrap_or, sym, refl, ap, ◌∙◌, inl, inr, arith}
use lib.Dec.{eqb-suc-zero}
use Rattle.std.specs.Option.{option_or}
use Rattle.std.proofs.lemmas.Bool.{cases_lt, leb-true, leb-false}
use Rattle.least.specs.Minima.{Below, first, Among, Sooner}
use Rattle.least.proofs.Minimal.{first_from, first_append}
use Rattle.least.proofs.Folds.{LeastFrom, from_one, from_fold}
use Rattle.least.proofs.Lists.{map_from, numbers_within, numbers_have, numbers_sooner, pairs_from, pairs_have, pairs_first, pairs_second}
use Rattle.taps.specs.Readings.{pick, Book, Read, costs, lesser, over_tempi, over_kinds, first_tempo, first_read}
use Rattle.std.specs.List.{range_with_len}
use Rattle.taps.proofs.Picks.{pick_both}
use Rattle.statements.specs.Plain.{read, reads_of, all_reads}

-- ---- reads of the book
pub lesser_or_same : (j k : ℕ) (P : Type 0) → j ≤ k → (j ≡ k → P) → (j < k) ⊎ ((j ≡ k) × P)
lesser_or_same j k P h p = elim (cases_lt j k) [ inl l ↦ inl l | inr l ↦ let same : j ≡ k = omega arith in inr (same, p same) ]

same_kind : (j k t u : ℕ) → read j t ≡ read k u → j ≡ k
same_kind j k t u e = ap (λ r. r.kind) e

same_tempo : (j k t u : ℕ) → read j t ≡ read k u → t ≡ u
same_tempo j k t u e = ap (λ r. r.tempo) e

module _ (b : Book) (ks : List ℕ) where
  abbrev tempi : List ℕ
  tempi = range_with_len 0 (length b.tempi)

  tempo_there : (t : ℕ) → t < length b.tempi → Among t tempi
  tempo_there t h = numbers_have t 0 (length b.tempi) (omega arith) (omega arith)

  pub of_kinds : (r : Read) → Among r (reads_of b ks) → Among r.kind ks × (r.tempo < length b.tempi)
  of_kinds r a = let p = pairs_from read (λ _. tempi) r ks a in rw p.4 (p.2, omega (arith, numbers_within p.1 0 (length b.tempi) p.3))

  pub kinds_have : (r : Read) → Among r.kind ks → r.tempo < length b.tempi → Among r (reads_of b ks)
  kinds_have r a h = pairs_have read (λ _. tempi) r.kind r.tempo ks a (tempo_there r.tempo h)

  -- they are met by kind, and then by tempo
  pub kinds_sooner : (r s : Read) → s.tempo < length b.tempi → Sooner r s (reads_of b ks) → Sooner r.kind s.kind ks × (r.kind ≡ s.kind → r.tempo ≤ s.tempo)
  kinds_sooner r s h a = (
    pairs_first read (λ _. tempi) same_kind same_tempo r.kind s.kind r.tempo s.tempo (tempo_there s.tempo h) ks a,
    λ same.
        let by_tempo = pairs_second read (λ _. tempi) same_kind same_tempo r.kind s.kind r.tempo s.tempo (tempo_there s.tempo h) ks same a in
        numbers_sooner r.tempo s.tempo 0 (length b.tempi) (omega arith) by_tempo,
  )

module _ (b : Book) where
  abbrev kinds : List ℕ
  kinds = range_with_len 0 (length b.kinds)

  abbrev pub In : Read → Type 0
  In r = (r.kind < length b.kinds) × (r.tempo < length b.tempi)

  pub reads_in : (r : Read) → Among r (all_reads b) → In r
  reads_in r a = let p = of_kinds b kinds r a in (omega (arith, numbers_within r.kind 0 (length b.kinds) p.0), p.1)

  pub reads_all : (r : Read) → In r → Among r (all_reads b)
  reads_all r i = kinds_have b kinds r (numbers_have r.kind 0 (length b.kinds) (omega arith) (omega arith)) i.1

  pub reads_sooner : (r s : Read) → In s → Sooner r s (all_reads b) → (r.kind < s.kind) ⊎ ((r.kind ≡ s.kind) × (r.tempo ≤ s.tempo))
  reads_sooner r s i a =
      let p = kinds_sooner b kinds r s i.1 a in
      lesser_or_same r.kind s.kind (r.tempo ≤ s.tempo) (numbers_sooner r.kind s.kind 0 (length b.kinds) (omega arith) p.0) p.1

-- ---- the loops
lesser_min : (x a : ℕ) → lesser x a ≡ min a x
lesser_min x a = pick_both (λ m. m ≡ min a x) (leb x a) x a (λ e. omega (arith, leb-true x a e)) (λ e. omega (arith, leb-false x a e))

module _ (b : Book) (before g : ℕ) (rest : ℕ → ℕ) where
  -- a read, with the least that follows
  abbrev pub with : Read → ℕ
  with r = costs b before g r + rest (suc r.tempo)

  tempi_least : (k n a : ℕ) → LeastFrom (Below (λ t v. v ≡ with (read k t)) n) a (over_tempi b before g k n rest a)
  unfolding over_tempi
  tempi_least k n a =
      from_fold (λ t v. v ≡ with (read k t)) (λ t m. lesser (with (read k t)) m) (λ i m. over_tempi b before g k i rest m)
      (λ m. refl) (λ i m. refl) (λ t m. rw (lesser_min (with (read k t)) m) (from_one (with (read k t)) m)) n a

  pub kinds_least : (n a : ℕ) → LeastFrom (Below (λ k. Below (λ t v. v ≡ with (read k t)) (length b.tempi)) n) a (over_kinds b before g n rest a)
  unfolding over_kinds
  kinds_least n a =
      from_fold (λ k. Below (λ t v. v ≡ with (read k t)) (length b.tempi)) (λ k m. over_tempi b before g k (length b.tempi) rest m) (λ i m. over_kinds b before g i rest m)
      (λ m. refl) (λ i m. refl) (λ k m. tempi_least k (length b.tempi) m) n a

  module _ (cost : ℕ) where
    abbrev pub meets : Read → Bool
    meets r = eqb (with r) cost

    -- one more than the tempo of a read, or 0
    abbrev place : Option Read → ℕ
    place None = 0
    place (Some r) = suc r.tempo

    place_cond : (t : Bool) (r : Read) (n : ℕ) (o : Option Read) → n ≡ place o → pick t (suc r.tempo) n ≡ place (cond t (Some r) o)
    place_cond true r n o e = refl
    place_cond false r n o e = e

    tempo_first : (k n t : ℕ) → first_tempo b before g k n t rest cost ≡ place (first meets (map (read k) (range_with_len t n)))
    unfolding first_tempo
    tempo_first k zero t = refl
    tempo_first k (suc n) t =
        let next : suc t ≡ t + 1 = omega arith in
        place_cond (meets (read k t)) (read k t) _ (first meets (map (read k) (range_with_len (t + 1) n))) (ap (λ u. first_tempo b before g k n u rest cost) next ∙ tempo_first k n (t + 1))

    kind_either : (k : ℕ) (o p : Option Read) (d : Read) → ((r : Read) → o ≡ Some r → r.kind ≡ k) → pick (eqb (place o) 0) (unwrap_or p d) (read k (place o - 1)) ≡ unwrap_or (option_or o p) d
    kind_either k None p d h = refl
    kind_either k (Some r) p d h = rw (eqb-suc-zero r.tempo) (let back : suc r.tempo - 1 ≡ r.tempo = omega arith in λ i. read (sym (h r refl) i) (back i))

    pub read_first : (n k : ℕ) → first_read b before g n k rest cost ≡ unwrap_or (first meets (reads_of b (range_with_len k n))) (read 0 0)
    unfolding first_read
    read_first zero k = refl
    read_first (suc n) k =
        let here : List Read = map (read k) (range_with_len 0 (length b.tempi)) in
        let later : List Read = reads_of b (range_with_len (k + 1) n) in
        let next : suc k ≡ k + 1 = omega arith in
        let after = ap (λ j. first_read b before g n j rest cost) next ∙ read_first n (k + 1) in
        (λ i. pick (eqb (tempo_first k (length b.tempi) 0 i) 0) (after i) (read k (tempo_first k (length b.tempi) 0 i - 1)))
        ∙ kind_either k (first meets here) (first meets later) (read 0 0)
        (λ r e. let m = map_from (read k) r (range_with_len 0 (length b.tempi)) (first_from meets r here e).0 in ap (λ x. x.kind) m.2)
        ∙ ap (λ o. unwrap_or o (read 0 0)) (sym (first_append meets here later))
