-- Which read meets a cost first, as loops over kinds and then over tempi try them. Assumes nothing.
use Rattle.std.proofs.Common.{◌≡◌, ℕ, ◌+◌, ◌<◌, ◌≤◌, Bool, true, false, ◌&&◌, not, List, map, length, filter, get_or, Some, None, Option, eqb, sym, refl, ap, ◌∙◌, arith}
use Rattle.std.specs.Option.{option_or}
use Rattle.std.specs.List.{range_with_len}
use Rattle.std.proofs.lemmas.Bool.{cond-true, cond-false}
use Rattle.std.proofs.lemmas.List.Elements.{filter_agree}
use Rattle.bitset.specs.Members.{member}
use Rattle.least.specs.Minima.{first}
use Rattle.least.proofs.Minimal.{first_append}
use Rattle.taps.specs.Readings.{Book, Read, costs}
use Rattle.statements.specs.Plain.{read, reads_of}
use Rattle.fit.specs.Fit.{fit, meets, first_meeting, change_cost, Wanted}
use Rattle.fit.proofs.Left.{left, left_one, left_none, left_all}
use Rattle.fit.proofs.Smallest.{filter_none, filter_first}

module _ (b : Book) (before gap : ℕ) (rest : List ℕ) (cost : ℕ) where
  abbrev pub met : ℕ → ℕ → Bool
  met k t = meets b before gap rest cost (read k t)

  -- the code compares what the gap costs by itself with what it is to cost
  pub tested : (k t w v : ℕ) → v ≡ fit b gap k t → v < 536870912 → Wanted w cost (get_or rest t 0) (change_cost b before t) → eqb v w ≡ met k t
  tested k t w v is small wanted = wanted v small ∙ ap (λ x. eqb (x + get_or rest t 0) cost) (let split : v + change_cost b before t ≡ costs b before gap (read k t) = omega (arith, is) in split)

  -- the first read of some kinds, and of one kind at some tempi
  abbrev first_of_kinds : List ℕ → Option Read
  first_of_kinds ks = first (meets b before gap rest cost) (reads_of b ks)

  abbrev first_of_tempi : ℕ → List ℕ → Option Read
  first_of_tempi k ts = first (meets b before gap rest cost) (map (read k) ts)

  module _ (set : ℕ) where
    -- the first read of the kinds of the set but k; and of the kind k from the tempo t on, and then of the others
    unfoldable pub others : ℕ → Option Read
    others k = first_of_kinds (filter (λ i. member set i && not (eqb i k)) (range_with_len 0 (length b.kinds)))

    unfoldable pub here : ℕ → ℕ → Option Read
    here k t = option_or (first_of_tempi k (left (length b.tempi) t)) (others k)

    pub meeting_none : ((k : ℕ) → k < length b.kinds → member set k ≡ false) → first_meeting b set before gap rest cost ≡ None
    meeting_none none = ap first_of_kinds (filter_none (member set) 0 (length b.kinds) (λ i h. none i (omega arith)))

    pub meeting_has : (k : ℕ) → k < length b.kinds → member set k ≡ true → ((i : ℕ) → i < k → member set i ≡ false) → first_meeting b set before gap rest cost ≡ here k 0
    unfolding others here
    meeting_has k h has none =
        ap first_of_kinds (filter_first (member set) (λ i. member set i && not (eqb i k)) k none has (λ i. refl) 0 (length b.kinds) (omega arith) (omega arith))
        ∙ first_append (meets b before gap rest cost) (map (read k) (range_with_len 0 (length b.tempi))) _
        ∙ ap (λ ts. option_or (first_of_tempi k ts) (others k)) (sym (left_all (length b.tempi)))

    pub others_left : (k next : ℕ) → ((i : ℕ) → member next i ≡ (member set i && not (eqb i k))) → others k ≡ first_meeting b next before gap rest cost
    unfolding others
    others_left k next out = ap first_of_kinds (sym (filter_agree (member next) _ out (range_with_len 0 (length b.kinds))))

    pub here_none : (k t : ℕ) → length b.tempi ≤ t → here k t ≡ others k
    unfolding here
    here_none k t h = ap (λ ts. option_or (first_of_tempi k ts) (others k)) (left_none (length b.tempi) t h)

    pub here_met : (k t : ℕ) → t < length b.tempi → met k t ≡ true → here k t ≡ Some (read k t)
    unfolding here
    here_met k t h e =
        ap (λ ts. option_or (first_of_tempi k ts) (others k)) (left_one (length b.tempi) t h)
        ∙ ap (λ o. option_or o (others k)) (cond-true (met k t) (Some (read k t)) (first_of_tempi k (left (length b.tempi) (t + 1))) e)

    pub here_past : (k t : ℕ) → t < length b.tempi → met k t ≡ false → here k t ≡ here k (t + 1)
    unfolding here
    here_past k t h e =
        ap (λ ts. option_or (first_of_tempi k ts) (others k)) (left_one (length b.tempi) t h)
        ∙ ap (λ o. option_or o (others k)) (cond-false (met k t) (Some (read k t)) (first_of_tempi k (left (length b.tempi) (t + 1))) e)
