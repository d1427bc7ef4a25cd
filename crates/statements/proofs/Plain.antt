-- The plain book is a general reader: readings, what they cost, the least and the reading told are the same. Assumes nothing.
use Rattle.std.proofs.Common.{◌≡◌, ℕ, suc, ◌+◌, ◌<◌, ◌≤◌, min, true, ltb, List, [], ◌∷◌, length, Some, Option, unwrap_or, sym, refl, ap, ◌∙◌, inl, inr, arith}
use Rattle.std.specs.Option.{option_map}
use Rattle.std.proofs.lemmas.Bool.{and_parts, and_from, ltb-true, lt-ltb}
use Rattle.least.specs.Minima.{capped, plus, over, and_then, cheapest}
use Rattle.least.specs.Readers.{Reads, total, suffix, told, readings}
use Rattle.least.proofs.Minimal.{plus_some, cheapest_found}
use Rattle.least.proofs.Folds.{from_same}
use Rattle.least.proofs.Capped.{capped_below, capped_some, capped_first, capped_from}
use Rattle.least.proofs.Trying.{suffix_tried, told_tried}
use Rattle.taps.specs.Readings.{Book, Read, costs, all_cost, in_book, too_much, least, first_read, reading}
use Rattle.statements.specs.Plain.{read, all_reads, plain, Plain, Finite, Tried}
use Rattle.least.proofs.Numbered.{numbered}
use Rattle.statements.proofs.Gap.{In, reads_in, reads_all, with, kinds_least, read_first}

module _ (b : Book) where
  in_parts : (r : Read) (rs : List Read) → in_book b (r ∷ rs) ≡ true → In b r × (in_book b rs ≡ true)
  unfolding in_book
  in_parts r rs h =
      let p = and_parts _ (in_book b rs) h in
      let q = and_parts (ltb r.kind (length b.kinds)) (ltb r.tempo (length b.tempi)) p.0 in
      ((ltb-true _ _ q.0, ltb-true _ _ q.1), p.1)

  pub in_from : (r : Read) (rs : List Read) → In b r → in_book b rs ≡ true → in_book b (r ∷ rs) ≡ true
  unfolding in_book
  in_from r rs i h = and_from _ _ (and_from _ _ (lt-ltb _ _ i.0) (lt-ltb _ _ i.1)) h

  pub reads_book : (before : ℕ) (gs : List ℕ) (rs : List Read) → Reads (plain b) before gs rs → (length rs ≡ length gs) × (in_book b rs ≡ true)
  unfolding in_book
  reads_book before [] [] i = (refl, refl)
  reads_book before [] (r ∷ rs) i = absurd i
  reads_book before (g ∷ gs) [] i = absurd i
  reads_book before (g ∷ gs) (r ∷ rs) i = let rest = reads_book (suc r.tempo) gs rs i.1 in (ap suc rest.0, in_from r rs (reads_in b r i.0) rest.1)

  pub book_reads : (before : ℕ) (gs : List ℕ) (rs : List Read) → length rs ≡ length gs → in_book b rs ≡ true → Reads (plain b) before gs rs
  book_reads before [] [] n i = tt
  book_reads before [] (r ∷ rs) n i = absurd (omega arith)
  book_reads before (g ∷ gs) [] n i = absurd (omega arith)
  book_reads before (g ∷ gs) (r ∷ rs) n i = let p = in_parts r rs i in (reads_all b r p.0, book_reads (suc r.tempo) gs rs (omega arith) p.1)

  pub same_total : (before : ℕ) (gs : List ℕ) (rs : List Read) → total (plain b) before gs rs ≡ all_cost b before gs rs
  unfolding all_cost
  same_total before [] rs = refl
  same_total before (g ∷ gs) [] = refl
  same_total before (g ∷ gs) (r ∷ rs) = ap (λ n. costs b before g r + n) (same_total (suc r.tempo) gs rs)

  -- what follows a read, as the general reader has it
  abbrev after : List ℕ → Read → Option ℕ
  after gs r = suffix (plain b) (suc r.tempo) gs

  pub same_least : (before : ℕ) (gs : List ℕ) → least b before gs ≡ capped too_much (suffix (plain b) before gs)
  unfolding least suffix
  same_least before [] = refl
  same_least before (g ∷ gs) =
      let rest : (r : Read) → with b before g (λ t. least b t gs) r ≡ costs b before g r + capped too_much (after gs r) = λ r. ap (λ n. costs b before g r + n) (same_least (suc r.tempo) gs) in
      from_same _ _ too_much _ _ (kinds_least b before g (λ t. least b t gs) (length b.kinds) too_much) (capped_from (costs b before g) (after gs) (all_reads b) too_much)
      (λ v h. let r : Read = read h.0 h.2.0 in (r, reads_all b r (h.1, h.2.1), h.2.2 ∙ rest r))
      (λ v h. let i = reads_in b h.0 h.1 in (h.0.kind, i.0, (h.0.tempo, i.1, h.2 ∙ sym (rest h.0))))

  pub least_capped : (before : ℕ) (gs : List ℕ) → least b before gs ≤ too_much
  least_capped before gs = omega (arith, same_least before gs, capped_below too_much (suffix (plain b) before gs))

  -- the read that is taken is the first of the cheapest
  taken : (before g : ℕ) (gs : List ℕ) (m : ℕ) → m < too_much → over (λ r. plus (costs b before g r) (after gs r)) (all_reads b) ≡ Some m →
      first_read b before g (length b.kinds) 0 (λ t. least b t gs) m ≡ unwrap_or (cheapest (λ r. plus (costs b before g r) (after gs r)) (all_reads b)) (read 0 0)
  taken before g gs m small e =
      read_first b before g (λ t. least b t gs) m (length b.kinds) 0
      ∙ ap (λ o. unwrap_or o (read 0 0))
      (capped_first (costs b before g) (after gs) (all_reads b) too_much (λ r. least b (suc r.tempo) gs) (λ r a. same_least (suc r.tempo) gs) m small e)

  -- what follows a read that is below the cap is below it, too
  rest_small : (w m : ℕ) (r : Read) (gs : List ℕ) → plus w (after gs r) ≡ Some m → m < too_much → least b (suc r.tempo) gs < too_much
  rest_small w m r gs e small =
      let left = plus_some w (after gs r) m e in
      let is : capped too_much (after gs r) ≡ min left.0 too_much = ap (capped too_much) left.1 in
      omega (arith, same_least (suc r.tempo) gs, left.2)

  pub same_reading : (before : ℕ) (gs : List ℕ) → least b before gs < too_much → told (plain b) before gs ≡ Some (reading b before gs)
  unfolding told reading suffix
  same_reading before [] small = refl
  same_reading before (g ∷ gs) small =
      let f : Read → Option ℕ = λ r. plus (costs b before g r) (after gs r) in
      let m : ℕ = least b before (g ∷ gs) in
      let same = same_least before (g ∷ gs) in
      let e : over f (all_reads b) ≡ Some m = capped_some too_much (over f (all_reads b)) (omega arith) ∙ ap Some (sym same) in
      let c = cheapest_found f (all_reads b) m e in
      let r : Read = c.0 in
      let is = taken before g gs m small e ∙ ap (λ o. unwrap_or o (read 0 0)) c.1.is in
      ap (λ o. and_then o (λ x. option_map (λ rs. x ∷ rs) (told (plain b) (suc x.tempo) gs))) c.1.is
      ∙ ap (option_map (λ rs. r ∷ rs)) (same_reading (suc r.tempo) gs (rest_small (costs b before g r) m r gs c.1.costs small))
      ∙ ap (λ x. Some (x ∷ reading b (suc x.tempo) gs)) (sym is)

pub plain_stands : Plain
unfolding Plain
plain_stands b before gs =
    record {
      reads_book = reads_book b before gs;
      book_reads = book_reads b before gs;
      same_total = same_total b before gs;
      same_least = same_least b before gs;
      same_reading = same_reading b before gs;
    }

pub finite_stands : Finite
unfolding Finite
finite_stands b = (
  numbered (plain b) (suc (length b.tempi)) (λ s a. elim a [ inl e ↦ omega arith | inr none ↦ absurd none ]) (λ s g r i. omega (arith, (reads_in b r i).1)),
  refl,
)

-- the costs of a list's members, by two names
over_same : {A : Type 0} (f h : A → ℕ) → ((x : A) → f x ≡ h x) → (xs : List A) → (over (λ x. Some (f x)) xs ≡ over (λ x. Some (h x)) xs) × (cheapest (λ x. Some (f x)) xs ≡ cheapest (λ x. Some (h x)) xs)
over_same f h e xs = (λ i. over (λ x. Some (e x i)) xs, λ i. cheapest (λ x. Some (e x i)) xs)

pub tried_stands : Tried
unfolding Tried
tried_stands b gs =
    let same = over_same (total (plain b) 0 gs) (all_cost b 0 gs) (same_total b 0 gs) (readings (plain b) 0 gs) in (
      same_least b 0 gs ∙ ap (capped too_much) (suffix_tried (plain b) 0 gs ∙ same.0),
      λ small. sym (same_reading b 0 gs small) ∙ told_tried (plain b) 0 gs ∙ same.1,
    )
