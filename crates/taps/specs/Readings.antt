-- What a reading of gaps is, what it costs, which costs the least and which of those is told. Assumes nothing: these are definitions.
--
-- A tap is an onset, at a time in ms. A gap is the time between two taps next to each other.
-- Kind: a note value, `ticks` long, twelve ticks to a beat, with a prior cost, its `weight`.
-- Tempo: how many ms a beat takes.
-- Book: the kinds and tempi that a gap may be read as, and what a change of tempo costs for each ms.
-- Read: one gap's part of a reading: a kind and a tempo, by their places in the book.
-- Reading: a list of Reads, one for each gap, from the first gap on: a path through the book's tempi.
-- before: the tempo of the gap before, as one more than its place; 0 where there is no gap before.
use Rattle.std.specs.Prelude.{ℕ, zero, suc, ◌+◌, ◌-◌, ◌*◌, Bool, true, false, ◌&&◌, List, [], ◌∷◌, length, Some, None, Option, ◌==◌, nat_le, nat_lt, slice_index, slice_index_or}

-- the first of two where the test holds, else the second
abbrev pub pick : {A : Type 0} → Bool → A → A → A
pick true a b = a
pick false a b = b

pub record Kind : Type 0 where
  pub ticks : ℕ
  pub weight : ℕ

pub record Book : Type 0 where
  pub kinds : List Kind
  pub tempi : List ℕ
  pub change : ℕ

pub record Read : Type 0 where
  pub kind : ℕ
  pub tempo : ℕ

-- how far two numbers are from each other; `-` stops at 0
abbrev pub apart : ℕ → ℕ → ℕ
apart a b = (a - b) + (b - a)

abbrev pub kind_at : Book → ℕ → Kind
kind_at b i = slice_index_or b.kinds i (record { ticks = 0; weight = 0 })

abbrev pub tempo_at : Book → ℕ → ℕ
tempo_at b i = slice_index b.tempi i

-- the tempo before, if there is one, by its place
abbrev pub before_of : Option ℕ → ℕ
before_of None = 0
before_of (Some t) = suc t

-- what it costs to read a gap so: how far twelve times the gap is from the kind's ticks times the tempo, the kind's weight, and, but for the first gap, the change for each ms
-- by which the tempo differs from the one before
abbrev pub costs : Book → ℕ → ℕ → Read → ℕ
costs b before gap r =
    (apart (12 * gap) ((kind_at b r.kind).ticks * tempo_at b r.tempo) + (kind_at b r.kind).weight)
    + pick (before == 0) 0 (b.change * apart (tempo_at b (before - 1)) (tempo_at b r.tempo))

-- what a reading costs: all its gaps together
unfoldable pub all_cost : Book → ℕ → List ℕ → List Read → ℕ
all_cost b before [] rs = 0
all_cost b before (g ∷ gs) [] = 0
all_cost b before (g ∷ gs) (r ∷ rs) = costs b before g r + all_cost b (suc r.tempo) gs rs

-- each kind and each tempo of a reading is one of the book's
unfoldable pub in_book : Book → List Read → Bool
in_book b [] = true
in_book b (r ∷ rs) = (nat_lt r.kind (length b.kinds) && nat_lt r.tempo (length b.tempi)) && in_book b rs

abbrev pub lesser : ℕ → ℕ → ℕ
lesser x y = pick (nat_le x y) x y

-- the least that a gap g and all that follows it cost: with the kind k over the first n tempi, and then over the first k kinds with all tempi.
-- `rest` is what follows costs at least, by the tempo that it comes after; `least` is the least that was found before
unfoldable pub over_tempi : Book → ℕ → ℕ → ℕ → ℕ → (ℕ → ℕ) → ℕ → ℕ
over_tempi b before g k zero rest least = least
over_tempi b before g k (suc n) rest least =
    over_tempi b before g k n rest (lesser (costs b before g (record { kind = k; tempo = n }) + rest (suc n)) least)

unfoldable pub over_kinds : Book → ℕ → ℕ → ℕ → (ℕ → ℕ) → ℕ → ℕ
over_kinds b before g zero rest least = least
over_kinds b before g (suc k) rest least = over_kinds b before g k rest (over_tempi b before g k (length b.tempi) rest least)

-- more than any reading of 255 gaps costs: a start for the least
abbrev pub too_much : ℕ
too_much = 9223372036854775807

-- the least that all gaps cost: every kind and tempo is tried for each gap, all the way down
unfoldable pub least : Book → ℕ → List ℕ → ℕ
least b before [] = 0
least b before (g ∷ gs) = over_kinds b before g (length b.kinds) (λ t. least b t gs) too_much

-- of the n tempi from t on, one more than the place of the first with which the kind k meets the cost, or 0
unfoldable pub first_tempo : Book → ℕ → ℕ → ℕ → ℕ → ℕ → (ℕ → ℕ) → ℕ → ℕ
first_tempo b before g k zero t rest cost = 0
first_tempo b before g k (suc n) t rest cost =
    pick (costs b before g (record { kind = k; tempo = t }) + rest (suc t) == cost) (suc t) (first_tempo b before g k n (suc t) rest cost)

-- of the n kinds from k on, the first with which the cost is met, at the first tempo with which it is
unfoldable pub first_read : Book → ℕ → ℕ → ℕ → ℕ → (ℕ → ℕ) → ℕ → Read
first_read b before g zero k rest cost = record { kind = 0; tempo = 0 }
first_read b before g (suc n) k rest cost =
    let t : ℕ = first_tempo b before g k (length b.tempi) 0 rest cost in
    pick (t == 0) (first_read b before g n (suc k) rest cost) (record { kind = k; tempo = t - 1 })

-- the reading that is told, the first of those that cost the least: for each gap the first kind that one of them has there, of these the first tempo, and so on from gap to gap
unfoldable pub reading : Book → ℕ → List ℕ → List Read
reading b before [] = []
reading b before (g ∷ gs) =
    let r : Read = first_read b before g (length b.kinds) 0 (λ t. least b t gs) (least b before (g ∷ gs)) in
    r ∷ reading b (suc r.tempo) gs
