-- What a gap costs as each kind at each tempo, and the first read with which a cost is met. Assumes nothing: these are definitions.
--
-- set: the kinds that the gap may be read as, as the bits of a number. rest: what follows costs, by the tempo that it comes after.
-- fit: what a gap costs as a kind at a tempo, by their places in the book, but for the change of tempo: what it costs as the first gap.
-- fits: a row with the least such cost at each tempo. first_meeting: the first read, by kinds and then by tempi, with which the gap and what follows cost just so much.
-- change_cost: what the change of tempo costs. Wanted: what the gap is to cost by itself, so that a cost is met.
use Rattle.std.specs.Prelude.{◌≡◌, ℕ, ◌+◌, ◌-◌, ◌*◌, ◌<◌, Bool, List, map, length, filter, Some, Option, ◌==◌, slice_index}
use Rattle.std.specs.List.{range_with_len}
use Rattle.bitset.specs.Members.{member}
use Rattle.least.specs.Minima.{capped, over, first}
use Rattle.taps.specs.Readings.{pick, Book, Read, apart, tempo_at, costs, too_much}
use Rattle.statements.specs.Plain.{read, reads_of}

abbrev pub fit : Book → ℕ → ℕ → ℕ → ℕ
fit b gap k t = costs b 0 gap (read k t)

-- the kinds that the gap may be read as, in the order of the book
abbrev pub allowed : Book → ℕ → List ℕ
allowed b set = filter (member set) (range_with_len 0 (length b.kinds))

-- the least that the gap costs at a tempo; None where it may be read as no kind
abbrev pub least_fit : Book → ℕ → ℕ → ℕ → Option ℕ
least_fit b set gap t = over (λ k. Some (fit b gap k t)) (allowed b set)

-- where there is none, `too_much`
abbrev pub fits : Book → ℕ → ℕ → List ℕ
fits b set gap = map (λ t. capped too_much (least_fit b set gap t)) (range_with_len 0 (length b.tempi))

-- read so, the gap and what follows it cost just so much
abbrev pub meets : Book → ℕ → ℕ → List ℕ → ℕ → Read → Bool
meets b before gap rest cost r = costs b before gap r + slice_index rest r.tempo == cost

abbrev pub first_meeting : Book → ℕ → ℕ → ℕ → List ℕ → ℕ → Option Read
first_meeting b set before gap rest cost = first (meets b before gap rest cost) (reads_of b (allowed b set))

-- what the change costs from the tempo before, if there is one, to another
abbrev pub change_cost : Book → ℕ → ℕ → ℕ
change_cost b before t = pick (before == 0) 0 (b.change * apart (tempo_at b (before - 1)) (tempo_at b t))

-- w is what a gap is to cost by itself, so that it costs just so much with what follows and the change: of costs that fit 29 bits no other does
abbrev pub Wanted : ℕ → ℕ → ℕ → ℕ → Type 0
Wanted w cost rest changed = (fit : ℕ) → fit < 536870912 → (fit == w) ≡ ((fit + changed) + rest == cost)
