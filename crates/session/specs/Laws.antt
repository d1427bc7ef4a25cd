-- What is promised of the desk. Each is a statement: a type, whose proof is owed by the function whose contract names it. Assumes nothing.
use Rattle.std.specs.Prelude.{◌≡◌, ℕ, ◌+◌, ◌*◌, ◌≤◌, List, [], ◌∷◌, length, drop}
use Rattle.taps.specs.Readings.{Book}
use Rattle.taps.specs.Calls.{Answer, Call, after}
use Rattle.taps.specs.Promise.{GoodBook, told_by, left_by}
use Rattle.answers.specs.Laws.{Best}
use Rattle.session.specs.Layout.{half, own}
use Rattle.session.specs.Session.{Stands, desk}

-- whatever is called, the memory stays as `call` needs it to answer
unfoldable pub StaysDesk : Type 0
StaysDesk =
    (b : Book) (most : ℕ) (cs : List Call) → GoodBook b → most ≤ 256 →
    let words : List ℕ = (left_by desk (desk.opened b most) cs).words in
    Stands b most (own b most words) (drop (half b most) words)

-- each answer to a list of calls, one after another, is right of all readings
unfoldable pub AllBest : Book → ℕ → List ℕ → List Call → List Answer → Type 0
AllBest b most ts [] told = told ≡ []
AllBest b most ts (c ∷ cs) [] = ⊥
AllBest b most ts (c ∷ cs) (a ∷ told) = Best b ts c a × AllBest b most (after most ts c) cs told

-- each cost that it tells is that of some reading, and none costs less; each reading that it tells is the first of those that cost so little
unfoldable pub TellsBest : Type 0
TellsBest = (b : Book) (most : ℕ) (cs : List Call) → GoodBook b → most ≤ 256 → AllBest b most [] cs (told_by desk (desk.opened b most) cs)

-- both slices, of eight bytes a word, take no more than 32 bytes for each tap of the limit at each tempo, 16 for each tap and each kind, and 65,536 besides; and no desk asks for more than 33,256 words of each
unfoldable pub Spares : Type 0
Spares =
    (b : Book) (most : ℕ) → GoodBook b → most ≤ 256 →
    (2 * (8 * half b most) ≤ 32 * (most * length b.tempi) + 16 * (most * length b.kinds) + 65536) × (half b most ≤ 33256)
