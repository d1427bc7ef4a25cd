-- What a desk is and owes, for the books that are taken. Each promise is a statement: a type, whose proof is owed by the function whose contract names it. Assumes nothing.
--
-- GoodBook: a book that is taken. Desk: what the contracts of a desk's open and call say of its memory and answers.
-- Right, RefusalKeeps: the main promise. small: gaps, or times, below 2^24.
use Rattle.std.specs.Prelude.{◌≡◌, ℕ, ◌<◌, ◌≤◌, Bool, true, ◌&&◌, List, [], ◌∷◌, ◌++◌, length, nat_le, nat_lt}
use Rattle.taps.specs.Readings.{Kind, Book}
use Rattle.taps.specs.Calls.{Call, Answer, turned, answers, ran}

-- a kind has 1 to 96 ticks and a weight below 2^24
abbrev pub good_kind : Kind → Bool
good_kind k = (nat_le 1 k.ticks && nat_le k.ticks 96) && nat_lt k.weight 16777216

-- and each does
unfoldable pub good_kinds : List Kind → Bool
good_kinds [] = true
good_kinds (k ∷ ks) = good_kind k && good_kinds ks

-- each tempo is from 100 to 4,000, and larger than the one before
unfoldable pub good_tempi : List ℕ → Bool
good_tempi [] = true
good_tempi (t ∷ []) = nat_le 100 t && nat_le t 4000
good_tempi (t ∷ (u ∷ us)) = (nat_le 100 t && nat_lt t u) && good_tempi (u ∷ us)

-- books that are taken: 1 to 32 kinds, 1 to 64 tempi, and a change below 2^16
abbrev pub GoodBook : Book → Type 0
GoodBook b =
    (0 < length b.kinds) × (length b.kinds ≤ 32) × (good_kinds b.kinds ≡ true) × (0 < length b.tempi) × (length b.tempi ≤ 64) × (good_tempi b.tempi ≡ true) × (b.change < 65536)

-- THE MAIN PROMISE. A desk is its memory's words after opening, the words after a call, and what a call is answered.
-- For every book and list of calls the answers are those of the definitions, which try all kinds and tempi for all gaps
pub record Memory : Type 0 where
  pub words : List ℕ

pub record Desk : Type 0 where
  pub opened : Book → ℕ → Memory
  pub next : Memory → Call → Memory
  pub says : Memory → Call → Answer

unfoldable pub told_by : Desk → Memory → List Call → List Answer
told_by d m [] = []
told_by d m (c ∷ cs) = d.says m c ∷ told_by d (d.next m c) cs

unfoldable pub left_by : Desk → Memory → List Call → Memory
left_by d m [] = m
left_by d m (c ∷ cs) = left_by d (d.next m c) cs

-- calls whose numbers fit the four bytes that they are sent in
unfoldable pub readable : Call → Bool
readable (Rattle.taps.specs.Calls.taps t) = nat_lt t 4294967296
readable Rattle.taps.specs.Calls.back = true
readable Rattle.taps.specs.Calls.cost = true
readable Rattle.taps.specs.Calls.read = true
readable (Rattle.taps.specs.Calls.garbled n) = nat_lt n 4294967296

unfoldable pub all_readable : List Call → Bool
all_readable [] = true
all_readable (c ∷ cs) = readable c && all_readable cs

unfoldable pub Right : Desk → Type 0
Right d = (b : Book) (most : ℕ) (cs : List Call) → GoodBook b → most ≤ 256 → all_readable cs ≡ true → told_by d (d.opened b most) cs ≡ answers b most [] cs

-- what is refused changes nothing, not one word
unfoldable pub RefusalKeeps : Desk → Type 0
RefusalKeeps d =
    (b : Book) (most : ℕ) (cs : List Call) (c : Call) → GoodBook b → most ≤ 256 → all_readable (cs ++ (c ∷ [])) ≡ true → 0 < turned most (ran most [] cs) c →
    d.next (left_by d (d.opened b most) cs) c ≡ left_by d (d.opened b most) cs

-- each gap, or each time, is below 2^24
unfoldable pub small : List ℕ → Bool
small [] = true
small (g ∷ gs) = nat_lt g 16777216 && small gs
