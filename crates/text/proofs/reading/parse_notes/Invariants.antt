use Rattle.std.proofs.Common.{◌≡◌, ◌≤◌, [], map, take, length}
use Rattle.taps.specs.Values.{book_of, read_of}
use Rattle.tokens.specs.Tokens.{tokens_in}
use Rattle.text.specs.Notes.{notes_in}
use Rattle.text.proofs.reading.parse_notes.Given as goal

-- the notes so far, and what is left of the line
abbrev pub invariant-loop-word : goal.invariant-loop-word
invariant-loop-word l =
    (l.count ≤ 255) × (length l.all ≡ 255)
    × (notes_in (book_of l.book) (map read_of (take l.count l.all)) (tokens_in l.left) ≡ notes_in (book_of l.fn.book) [] (tokens_in l.fn.line))

abbrev pub decreases-loop-word : goal.decreases-loop-word
decreases-loop-word l = length l.left
