-- What holds of the least over the kinds that are allowed, and of the first read that meets a cost. Assumes nothing.
use Rattle.std.proofs.Common.{◌≡◌, ℕ, zero, suc, ◌+◌, ◌-◌, ◌<◌, ◌≤◌, Bool, true, false, ◌⊎◌, List, ◌∷◌, length, filter, get_or, eqb, Some, None, Option, unwrap_or, sym, refl, ap, ◌∙◌, arith}
use Rattle.std.specs.Option.{MatchOption}
use Rattle.std.specs.List.{range_with_len}
use Rattle.std.proofs.lemmas.Bool.{cond-true}
use Rattle.bitset.specs.Members.{member}
use Rattle.least.specs.Minima.{first, Among, Sooner}
use Rattle.least.proofs.Minimal.{First, first_is, first_same, least_more, over_numbers}
use Rattle.least.proofs.Lists.{filter_from, filter_has, filter_sooner, numbers_within, numbers_have, numbers_sooner}
use Rattle.taps.specs.Readings.{Book, Read, costs}
use Rattle.statements.specs.Plain.{read, reads_of}
use Rattle.statements.proofs.Gap.{lesser_or_same, of_kinds, kinds_have, kinds_sooner, read_first}
use Rattle.fit.specs.Fit.{fit, allowed, least_fit, meets, first_meeting}
use Rattle.fit.specs.Laws.{Allows, AllowsRead, Lowest, Earliest, Takes}

module _ (b : Book) (set : ℕ) where
  abbrev kinds : List ℕ
  kinds = range_with_len 0 (length b.kinds)

  allows : (k : ℕ) → Among k (allowed b set) → Allows b set k
  allows k a = let p = filter_from (member set) k kinds a in (omega (arith, numbers_within k 0 (length b.kinds) p.0), p.1)

  allowed_has : (k : ℕ) → Allows b set k → Among k (allowed b set)
  allowed_has k h = filter_has (member set) k kinds (numbers_have k 0 (length b.kinds) (omega arith) (omega (arith, h.0))) h.1

  read_allowed : (r : Read) → Among r (reads_of b (allowed b set)) → AllowsRead b set r
  read_allowed r a = let p = of_kinds b (allowed b set) r a in (allows r.kind p.0, p.1)

  allowed_read : (r : Read) → AllowsRead b set r → Among r (reads_of b (allowed b set))
  allowed_read r h = kinds_have b (allowed b set) r (allowed_has r.kind h.0) h.1

pub lowest : Lowest
unfolding Lowest
lowest b set gap t =
    least_more (λ v. (k : ℕ) × Among k (allowed b set) × (v ≡ fit b gap k t)) _ (least_fit b set gap t)
    (over_numbers (λ k. fit b gap k t) (allowed b set))
    (λ v h. (h.0, allows b set h.0 h.1, h.2))
    (λ v h. (v, (h.0, allowed_has b set h.0 h.1, h.2), omega arith))

-- what is found among the reads allowed is the first by kind and then by tempo
module _ (b : Book) (set : ℕ) (test : Read → Bool) where
  in_order : (r q : Read) → AllowsRead b set q → Sooner r q (reads_of b (allowed b set)) → (r.kind < q.kind) ⊎ ((r.kind ≡ q.kind) × (r.tempo ≤ q.tempo))
  in_order r q h s =
      let p = kinds_sooner b (allowed b set) r q h.1 s in
      lesser_or_same r.kind q.kind (r.tempo ≤ q.tempo)
      (numbers_sooner r.kind q.kind 0 (length b.kinds) (omega arith) (filter_sooner (member set) r.kind q.kind (range_with_len 0 (length b.kinds)) h.0.1 p.0)) p.1

  found : (o : Option Read) → MatchOption o ((r : Read) → Among r (reads_of b (allowed b set)) → test r ≡ false) (First test (reads_of b (allowed b set))) →
      MatchOption o ((r : Read) → AllowsRead b set r → test r ≡ false)
      (λ r. AllowsRead b set r × (test r ≡ true) × ((q : Read) → AllowsRead b set q → test q ≡ true → (r.kind < q.kind) ⊎ ((r.kind ≡ q.kind) × (r.tempo ≤ q.tempo))))
  found None none = λ r h. none r (allowed_read b set r h)
  found (Some r) f = (read_allowed b set r f.among, f.passes, λ q h met. in_order r q h (f.sooner q met (allowed_read b set q h)))

pub earliest : Earliest
unfolding Earliest
earliest b set before gap rest cost =
    found b set (meets b before gap rest cost) (first_meeting b set before gap rest cost) (first_is (meets b before gap rest cost) (reads_of b (allowed b set)) _ refl)

filter_all : (p : ℕ → Bool) (k n : ℕ) → ((i : ℕ) → i < k + n → p i ≡ true) → filter p (range_with_len k n) ≡ range_with_len k n
filter_all p k zero all = refl
filter_all p k (suc n) all =
    cond-true (p k) (k ∷ filter p (range_with_len (k + 1) n)) (filter p (range_with_len (k + 1) n)) (all k (omega arith))
    ∙ ap (λ ks. k ∷ ks) (filter_all p (k + 1) n (λ i h. all i (omega arith)))

pub allowed_all : (b : Book) (set : ℕ) → ((k : ℕ) → k < length b.kinds → member set k ≡ true) → allowed b set ≡ range_with_len 0 (length b.kinds)
allowed_all b set all = filter_all (member set) 0 (length b.kinds) (λ k h. all k (omega arith))

pub takes : Takes
unfolding Takes
takes b set before gap rest cost all =
    let every : allowed b set ≡ range_with_len 0 (length b.kinds) = allowed_all b set all in
    read_first b before gap (λ t. get_or rest (t - 1) 0) cost (length b.kinds) 0
    ∙ ap (λ o. unwrap_or o (read 0 0))
    (first_same _ (meets b before gap rest cost) (reads_of b (range_with_len 0 (length b.kinds)))
    (λ r a. let back : suc r.tempo - 1 ≡ r.tempo = omega arith in ap (λ t. eqb (costs b before gap r + get_or rest t 0) cost) back)
    ∙ ap (λ ks. first (meets b before gap rest cost) (reads_of b ks)) (sym every))
