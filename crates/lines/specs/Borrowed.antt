-- What a desk over borrowed words holds, and what it is asked and answers.
--
-- d, e: a desk before a call and after it, or before a text and after it. c: a call. cs: calls, one after another. a: an answer.
use Rattle.std.specs.Prelude.{◌≡◌, ℕ, ◌<◌, ◌≤◌, List, [], ◌∷◌, ◌++◌, length, take, drop, Some, Result}
use Rattle.std.specs.Borrow.{MutBor}
use Rattle.taps.specs.Calls as calls
use Rattle.taps.specs.Calls.{Answer, after, answer, answers, ran}
use Rattle.taps.specs.Promise.{Memory}
use Rattle.taps.specs.Values.{book_of}
use Rattle.taps.specs.declared.book.Book.{Book}
use Rattle.taps.specs.declared.refusal.Refusal.{Refusal}
use Rattle.tokens.specs.Tokens.{lines_in}
use Rattle.answers.specs.Laws.{Best}
use Rattle.session.specs.Layout.{asked, half, room_for}
use Rattle.session.specs.Session.{Came, desk, memory, taps_held}
use Rattle.lines.specs.Lines.{answers_text, calls_in}
use Rattle.lines.specs.declared.borrowed_desk.BorrowedDesk.{BorrowedDesk}

-- whether a desk with a book and a limit can be opened over two slices, or why not
abbrev pub open_check : Book → ℕ → List ℕ → List ℕ → Result Unit Refusal
open_check book limit left right = room_for (asked (Some (book_of book)) limit) (length left) (length right)

-- its words are these slices
abbrev pub IsOver : BorrowedDesk → MutBor (List ℕ) → MutBor (List ℕ) → Type 0
IsOver d left right = (d.left.ghost_name ≡ left.ghost_name) × (d.right.ghost_name ≡ right.ghost_name)

-- behind the words that it needs, both slices are as these
abbrev pub KeepsRest : BorrowedDesk → List ℕ → List ℕ → Type 0
KeepsRest d left right =
    (drop (half (book_of d.book.now) d.limit) d.left.now ≡ drop (half (book_of d.book.now) d.limit) left) × (drop (half (book_of d.book.now) d.limit) d.right.now ≡ drop (half (book_of d.book.now) d.limit) right)

-- the book, the limit and the slices stay, and the words in these that it does not need
abbrev pub IsSame : BorrowedDesk → BorrowedDesk → Type 0
IsSame d e =
    (e.book.now ≡ d.book.now) × (e.limit ≡ d.limit) × (e.left.ghost_name ≡ d.left.ghost_name) × (e.right.ghost_name ≡ d.right.ghost_name) × KeepsRest e d.left.now d.right.now

-- its words, as the memory of the desk of `session`, and the taps in them
abbrev pub memory_of : BorrowedDesk → Memory
memory_of d = memory (book_of d.book.now) d.limit d.left.now d.right.now

abbrev pub taps_of : BorrowedDesk → List ℕ
taps_of d = taps_held (book_of d.book.now) d.limit d.left.now

-- its words are as that desk leaves them that was opened and asked these calls
abbrev pub IsAfter : List calls.Call → BorrowedDesk → Type 0
IsAfter cs d = Came (book_of d.book.now) d.limit cs d.left.now d.right.now

-- what the definitions answer after some taps: to a call, and to the lines of a text
abbrev pub answer_to : BorrowedDesk → List ℕ → calls.Call → Answer
answer_to d ts c = answer (book_of d.book.now) d.limit ts c

abbrev pub text_to : BorrowedDesk → List ℕ → List ℕ → List ℕ
text_to d ts text = answers_text (book_of d.book.now) (answers (book_of d.book.now) d.limit ts (calls_in 0 (lines_in text)))

-- the same of the taps that it holds, and which taps there are after a call
abbrev pub next_answer : BorrowedDesk → calls.Call → Answer
next_answer d c = answer_to d (taps_of d) c

abbrev pub next_text : BorrowedDesk → List ℕ → List ℕ
next_text d text = text_to d (taps_of d) text

abbrev pub next_taps : BorrowedDesk → calls.Call → List ℕ
next_taps d c = after d.limit (taps_of d) c

-- an answer is right of all readings of the taps that it holds
abbrev pub IsBest : BorrowedDesk → calls.Call → Answer → Type 0
IsBest d c a = Best (book_of d.book.now) (taps_of d) c a

-- a call is one step of the desk of `session`
abbrev pub IsStep : BorrowedDesk → calls.Call → Answer → BorrowedDesk → Type 0
IsStep d c a e = (memory_of e ≡ desk.next (memory_of d) c) × (a ≡ desk.says (memory_of d) c)

-- whatever was asked since it was opened, a call is answered by the definitions, and is one that was asked then
abbrev pub Answers : BorrowedDesk → calls.Call → Answer → BorrowedDesk → Type 0
Answers d c a e = (cs : List calls.Call) → IsAfter cs d → (a ≡ answer_to d (ran d.limit [] cs) c) × IsAfter (cs ++ c ∷ []) e

-- the same of all lines of a text, and what is told of them
abbrev pub TellsAll : BorrowedDesk → List ℕ → List ℕ → BorrowedDesk → Type 0
TellsAll d text told e = (cs : List calls.Call) → IsAfter cs d → (told ≡ text_to d (ran d.limit [] cs) text) × IsAfter (cs ++ calls_in 0 (lines_in text)) e

-- some of its lines were asked, from the first on: one at least
abbrev pub IsAfterFirst : BorrowedDesk → List ℕ → BorrowedDesk → Type 0
IsAfterFirst d text e = (cs : List calls.Call) → IsAfter cs d → (n : ℕ) × (0 < n) × (n ≤ length (lines_in text)) × IsAfter (cs ++ take n (calls_in 0 (lines_in text))) e
