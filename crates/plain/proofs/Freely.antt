-- Where each gap may be read as any kind, readings are those of the definitions. Assumes nothing.
use Rattle.std.proofs.Common.{◌≡◌, ℕ, suc, ◌<◌, ◌≤◌, true, cond, eqb, eq-eqb, List, [], ◌∷◌, ◌++◌, map, length, Some, None, Option, sym, refl, ap, ◌∙◌, subst, inl, inr, arith}
use Rattle.std.specs.Option.{option_map, MatchOption}
use Rattle.std.specs.List.{range_with_len}
use Rattle.std.proofs.lemmas.List.{length-map, map-append}
use Rattle.std.proofs.lemmas.List.Elements.{All-head, All-tail, All-cons, All-append}
use Rattle.std.proofs.lemmas.Nat.Bits.{bit_at_ones}
use Rattle.bitset.specs.Members.{member}
use Rattle.least.specs.Minima.{capped, plus, lower, over, and_then, cheapest, Among}
use Rattle.least.specs.Readers.{suffix, told, begin, onward, along}
use Rattle.least.specs.Readers as readers
use Rattle.octets.specs.Bytes.{StartsWith, written}
use Rattle.taps.specs.Readings.{Book, Read, costs, too_much, least, reading}
use Rattle.taps.specs.Promise.{GoodBook}
use Rattle.statements.specs.Plain.{reads_of, all_reads, plain}
use Rattle.statements.proofs.Bound.{least_below}
use Rattle.statements.proofs.Plain.{same_least, same_reading}
use Rattle.fit.specs.Fit.{fit, fits}
use Rattle.fit.proofs.Sound.{allowed_all}
use Rattle.model.specs.Rows as models
use Rattle.model.specs.Rows.{states_below, row_of, for_suffixes, for_prefixes, suffix_row, suffix_rows}
use Rattle.model.specs.Walk.{walked}
use Rattle.model.specs.Laws.{Walked}
use Rattle.model.specs.declared.Step.{Step}
use Rattle.model.proofs.Walk.{walked_stands}
use Rattle.plain.specs.Owed.{states, plain_states}
use Rattle.plain.specs.Restricted.{restricted, state_count, gaps_of, Free, Short}
use Rattle.plain.specs.Rows.{row, rows, prefix_row, local, kept_rows}

-- a step's gap is below 2^24 ms
gaps_short : (gs : List Step) → (n : ℕ) → Among n (gaps_of gs) → n < 16777216
gaps_short [] n a = absurd a
gaps_short (g ∷ gs) n (inl e) = rw e g.short
gaps_short (g ∷ gs) n (inr a) = gaps_short gs n a

free_more : (gs : List Step) (g : Step) → Free gs → ((k : ℕ) → k < 32 → member g.kinds.bits k ≡ true) → Free (gs ++ g ∷ [])
free_more gs g free any =
    let Any : Step → Type 0 = λ h. (k : ℕ) → k < 32 → member h.kinds.bits k ≡ true in
    All-append Any gs (g ∷ []) free (All-cons Any g [] any (λ i d h. absurd (omega arith)))

-- short gaps are those of free steps
pub free_steps : (gs : List ℕ) → Short gs → (ss : List Step) × (gaps_of ss ≡ gs) × Free ss
free_steps [] short = ([], refl, λ i d h. absurd (omega arith))
free_steps (g ∷ gs) short =
    let rest = free_steps gs (All-tail (λ h. h < 16777216) g gs short) in
    let step : Step = record { gap = g; kinds = record { bits = 4294967295 }; short = All-head (λ h. h < 16777216) g gs short } in
    (step ∷ rest.0, ap (λ hs. g ∷ hs) rest.1, All-cons (λ h. (k : ℕ) → k < 32 → member h.kinds.bits k ≡ true) step rest.0 (λ k below. eq-eqb _ _ (bit_at_ones 32 k below)) rest.2)

-- there is one start, which costs nothing
one_start : (m : Option ℕ) → lower (plus 0 m) None ≡ m
one_start None = refl
one_start (Some m) = ap Some (omega arith)

-- the least, and a row, of the general reader and of the definitions
pub whole_least : (b : Book) (gs : List ℕ) → capped too_much (readers.least (plain b) gs) ≡ least b 0 gs
whole_least b gs = ap (capped too_much) (one_start (suffix (plain b) 0 gs)) ∙ sym (same_least b 0 gs)

pub same_row : (b : Book) (gs : List ℕ) → suffix_row (plain b) (state_count b) gs ≡ row b gs
same_row b gs = λ i. map (λ s. sym (same_least b s gs) i) (states_below (state_count b))

module _ (b : Book) (few : length b.kinds ≤ 32) where
  free_suffix : (gs : List Step) → Free gs → (s : ℕ) → suffix (restricted b) s gs ≡ suffix (plain b) s (gaps_of gs)
  unfolding suffix
  free_suffix [] free s = refl
  free_suffix (g ∷ gs) free s =
      let any = All-head (λ h. (k : ℕ) → k < 32 → member h.kinds.bits k ≡ true) g gs free in
      let rest = free_suffix gs (All-tail (λ h. (k : ℕ) → k < 32 → member h.kinds.bits k ≡ true) g gs free) in
      ap (λ ks. over (λ r. plus (costs b s g.gap r) (suffix (restricted b) (suc r.tempo) gs)) (reads_of b ks)) (allowed_all b g.kinds.bits (λ k h. any k (omega arith)))
      ∙ (λ i. over (λ r. plus (costs b s g.gap r) (rest (suc r.tempo) i)) (all_reads b))

  free_cost : (gs : List Step) → Free gs → (s : ℕ) → capped too_much (suffix (restricted b) s gs) ≡ least b s (gaps_of gs)
  free_cost gs free s = ap (capped too_much) (free_suffix gs free s) ∙ sym (same_least b s (gaps_of gs))

  free_told : (gs : List Step) → Free gs → (s : ℕ) → told (restricted b) s gs ≡ told (plain b) s (gaps_of gs)
  unfolding told
  free_told [] free s = refl
  free_told (g ∷ gs) free s =
      let any = All-head (λ h. (k : ℕ) → k < 32 → member h.kinds.bits k ≡ true) g gs free in
      let left = All-tail (λ h. (k : ℕ) → k < 32 → member h.kinds.bits k ≡ true) g gs free in
      ap (λ ks. and_then (cheapest (λ r. plus (costs b s g.gap r) (suffix (restricted b) (suc r.tempo) gs)) (reads_of b ks)) (λ r. option_map (λ rs. r ∷ rs) (told (restricted b) (suc r.tempo) gs)))
      (allowed_all b g.kinds.bits (λ k h. any k (omega arith)))
      ∙ (λ i. and_then (cheapest (λ r. plus (costs b s g.gap r) (free_suffix gs left (suc r.tempo) i)) (all_reads b)) (λ r. option_map (λ rs. r ∷ rs) (free_told gs left (suc r.tempo) i)))

  free_row : (gs : List Step) → Free gs → suffix_row (restricted b) (state_count b) gs ≡ row b (gaps_of gs)
  free_row gs free = λ i. map (λ s. free_cost gs free s i) (states_below (state_count b))

  free_rows : (gs : List Step) → Free gs → suffix_rows (restricted b) (state_count b) gs ≡ rows b (gaps_of gs)
  unfolding for_suffixes
  free_rows [] free = free_row [] free
  free_rows (g ∷ gs) free =
      let rest = free_rows gs (All-tail (λ h. (k : ℕ) → k < 32 → member h.kinds.bits k ≡ true) g gs free) in
      λ i. free_row (g ∷ gs) free i ++ rest i

  -- the walk over the rows reads as the definitions tell
  pub free_walked : GoodBook b → (gs : List Step) → Free gs → length gs ≤ 255 → (words : List ℕ) → words ≡ rows b (gaps_of gs) → walked (restricted b) (state_count b) 0 gs words ≡ Some (reading b 0 (gaps_of gs))
  unfolding Walked
  free_walked good gs free short words e =
      let low = least_below b 0 16777216 (gaps_of gs) good (gaps_short gs) (omega (arith, short, length-map gs (λ g. g.gap))) in
      ap (walked (restricted b) (state_count b) 0 gs) (e ∙ sym (free_rows gs free))
      ∙ (walked_stands Step Read (restricted b) (states b) (state_count b) refl 0 (omega arith) gs).0 (omega (arith, low, free_cost gs free 0))
      ∙ free_told gs free 0 ∙ same_reading b 0 (gaps_of gs) low

  -- what is kept of them is what is kept of their gaps
  free_local : (g : Step) → ((k : ℕ) → k < 32 → member g.kinds.bits k ≡ true) → fits b g.kinds.bits g.gap ≡ local b g.gap
  free_local g any = ap (λ ks. map (λ t. capped too_much (over (λ k. Some (fit b g.gap k t)) ks)) (range_with_len 0 (length b.tempi))) (allowed_all b g.kinds.bits (λ k h. any k (omega arith)))

  free_onward : (g : Step) → ((k : ℕ) → k < 32 → member g.kinds.bits k ≡ true) → (before : ℕ → Option ℕ) (t : ℕ) → onward (restricted b) (states b) before g t ≡ onward (plain b) (plain_states b) before g.gap t
  free_onward g any before t =
      ap (λ ks. over (λ s. over (λ r. cond (eqb (suc r.tempo) t) (plus (costs b s g.gap r) (before s)) None) (reads_of b ks)) (states_below (state_count b))) (allowed_all b g.kinds.bits (λ k h. any k (omega arith)))

  free_along : (gs : List Step) → Free gs → (before : ℕ → Option ℕ) (t : ℕ) → along (restricted b) (states b) before gs t ≡ along (plain b) (plain_states b) before (gaps_of gs) t
  unfolding along
  free_along [] free before t = refl
  free_along (g ∷ gs) free before t =
      let any = All-head (λ h. (k : ℕ) → k < 32 → member h.kinds.bits k ≡ true) g gs free in
      free_along gs (All-tail (λ h. (k : ℕ) → k < 32 → member h.kinds.bits k ≡ true) g gs free) (onward (restricted b) (states b) before g) t
      ∙ (λ i. along (plain b) (plain_states b) (λ s. free_onward g any before s i) (gaps_of gs) t)

  free_prefix_row : (gs : List Step) → Free gs → models.prefix_row (restricted b) (states b) (state_count b) gs ≡ prefix_row b (gaps_of gs)
  free_prefix_row gs free = λ i. row_of (state_count b) (λ t. free_along gs free (begin (plain b) (plain_states b)) t i)

  free_prefixes : (done gs : List Step) → Free done → Free gs →
      for_prefixes (models.prefix_row (restricted b) (states b) (state_count b)) (λ g. fits b g.kinds.bits g.gap) done gs ≡ for_prefixes (prefix_row b) (local b) (gaps_of done) (gaps_of gs)
  unfolding for_prefixes
  free_prefixes done [] free_done free = free_prefix_row done free_done
  free_prefixes done (g ∷ gs) free_done free =
      let any = All-head (λ h. (k : ℕ) → k < 32 → member h.kinds.bits k ≡ true) g gs free in
      let more = free_more done g free_done any in
      let rest = free_prefixes (done ++ g ∷ []) gs more (All-tail (λ h. (k : ℕ) → k < 32 → member h.kinds.bits k ≡ true) g gs free)
      ∙ ap (λ hs. for_prefixes (prefix_row b) (local b) hs (gaps_of gs)) (map-append (λ h. h.gap) done (g ∷ [])) in
      λ i. free_prefix_row done free_done i ++ (free_local g any i ++ rest i)

  pub free_kept : (gs : List Step) → Free gs → models.kept_rows (restricted b) (states b) (state_count b) (λ g. fits b g.kinds.bits g.gap) gs ≡ kept_rows b (gaps_of gs)
  free_kept gs free = free_prefixes [] gs (λ i d h. absurd (omega arith)) free

  -- of no step, and of one step more
  pub free_start : models.prefix_row (restricted b) (states b) (state_count b) [] ≡ kept_rows b []
  unfolding for_prefixes
  free_start = free_prefix_row [] (λ i d h. absurd (omega arith))

  free_kept_more : (ss : List Step) (step : Step) (gs : List ℕ) → gaps_of ss ≡ gs → Free ss → ((k : ℕ) → k < 32 → member step.kinds.bits k ≡ true) →
      models.kept_rows (restricted b) (states b) (state_count b) (λ g. fits b g.kinds.bits g.gap) (ss ++ step ∷ []) ≡ kept_rows b (gs ++ step.gap ∷ [])
  free_kept_more ss step gs same free any =
      free_kept (ss ++ step ∷ []) (free_more ss step free any) ∙ ap (kept_rows b) (map-append (λ g. g.gap) ss (step ∷ []) ∙ ap (λ xs. xs ++ step.gap ∷ []) same)

  pub free_least : (gs : List Step) → Free gs → capped too_much (readers.least (restricted b) gs) ≡ least b 0 (gaps_of gs)
  free_least gs free = ap (capped too_much) (one_start (suffix (restricted b) 0 gs)) ∙ free_cost gs free 0

  -- of steps in a slice
  pub free_slice : (steps slice : List Step) → slice ≡ steps → Free steps → (suffix_rows (restricted b) (state_count b) slice ≡ rows b (gaps_of steps))
      × (models.kept_rows (restricted b) (states b) (state_count b) (λ g. fits b g.kinds.bits g.gap) slice ≡ kept_rows b (gaps_of steps))
  free_slice steps slice same free = rw same (free_rows steps free, free_kept steps free)

  -- what is promised of free steps is promised of short gaps
  pub free_gap : (done : ℕ) (old new : List ℕ) (told : Option ℕ) (step : Step) → ((k : ℕ) → k < 32 → member step.kinds.bits k ≡ true) →
      MatchOption told (new ≡ old)
      (λ _. (ss : List Step) → length ss ≡ done → StartsWith (models.kept_rows (restricted b) (states b) (state_count b) (λ g. fits b g.kinds.bits g.gap) ss) old →
      new ≡ written (models.kept_rows (restricted b) (states b) (state_count b) (λ g. fits b g.kinds.bits g.gap) (ss ++ step ∷ [])) old) →
      MatchOption told (new ≡ old) (λ _. (gs : List ℕ) → length gs ≡ done → Short gs → StartsWith (kept_rows b gs) old → new ≡ written (kept_rows b (gs ++ step.gap ∷ [])) old)
  free_gap done old new None step any same = same
  free_gap done old new (Some n) step any kept =
      λ gs many short starts.
      let ss = free_steps gs short in
      let size = sym (length-map ss.0 (λ g. g.gap)) ∙ ap length ss.1 ∙ many in
      let before = free_kept ss.0 ss.2 ∙ ap (kept_rows b) ss.1 in
      kept ss.0 size (subst (λ ws. StartsWith ws old) (sym before) starts) ∙ ap (λ ws. written ws old) (free_kept_more ss.0 step gs ss.1 ss.2 any)
