-- What holds of the costs of a gap. Each is a statement: a type, whose proof is owed by the function whose contract names it. Assumes nothing.
--
-- Lowest: an entry of a row is the least of the kinds that are allowed. Earliest: the read that is found meets the cost, and none that does comes before it.
-- Takes: with all kinds allowed it is the one that the definition of the reading told takes.
use Rattle.std.specs.Prelude.{◌≡◌, ℕ, ◌-◌, ◌<◌, ◌≤◌, true, false, ◌⊎◌, List, length, unwrap_or, MatchOption, slice_index}
use Rattle.bitset.specs.Members.{member}
use Rattle.least.specs.Minima.{Least}
use Rattle.taps.specs.Readings.{Book, Read, first_read}
use Rattle.statements.specs.Plain.{read}
use Rattle.fit.specs.Fit.{fit, least_fit, meets, first_meeting}

-- k is a kind of the book that the set allows; r is of such a kind, at a tempo of the book
abbrev pub Allows : Book → ℕ → ℕ → Type 0
Allows b set k = (k < length b.kinds) × (member set k ≡ true)

abbrev pub AllowsRead : Book → ℕ → Read → Type 0
AllowsRead b set r = Allows b set r.kind × (r.tempo < length b.tempi)

unfoldable pub Lowest : Type 0
Lowest = (b : Book) (set gap t : ℕ) → Least (λ v. (k : ℕ) × Allows b set k × (v ≡ fit b gap k t)) (least_fit b set gap t)

unfoldable pub Earliest : Type 0
Earliest =
    (b : Book) (set before gap : ℕ) (rest : List ℕ) (cost : ℕ) →
    MatchOption (first_meeting b set before gap rest cost) ((r : Read) → AllowsRead b set r → meets b before gap rest cost r ≡ false)
    (λ r. AllowsRead b set r × (meets b before gap rest cost r ≡ true)
    × ((q : Read) → AllowsRead b set q → meets b before gap rest cost q ≡ true → (r.kind < q.kind) ⊎ ((r.kind ≡ q.kind) × (r.tempo ≤ q.tempo))))

unfoldable pub Takes : Type 0
Takes =
    (b : Book) (set before gap : ℕ) (rest : List ℕ) (cost : ℕ) → ((k : ℕ) → k < length b.kinds → member set k ≡ true) →
    first_read b before gap (length b.kinds) 0 (λ t. slice_index rest (t - 1)) cost ≡ unwrap_or (first_meeting b set before gap rest cost) (read 0 0)
