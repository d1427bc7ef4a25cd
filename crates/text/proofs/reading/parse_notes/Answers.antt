use Rattle.std.proofs.Common.{map, take, Ok, Err, sym, ap, ◌∙◌, arith}
use Rattle.std.proofs.lemmas.List.{length-set}
use Rattle.std.proofs.lemmas.Result.{err_from_is_err_and}
use Rattle.taps.specs.Values.{book_of, read_of}
use Rattle.tokens.specs.Tokens.{tokens_in}
use Rattle.text.specs.Notes.{notes_in}
use Rattle.text.proofs.Notes.{note_full, note_next, note_written}
use Rattle.text.proofs.reading.parse_notes.Goals as goal

pub returns-then-count-eq-MOST_GAPS : goal.returns-then-count-eq-MOST_GAPS
returns-then-count-eq-MOST_GAPS c =
    let i = c.loop-word.invariant in
    sym (note_full (book_of c.args.book.now) c.loop-word.all c.loop-word.count c.in-Some.word.now (tokens_in c.in-Some.rest.now) (tokens_in c.loop-word.left.now) i.1 c.if-count-eq-MOST_GAPS.true c.in-Some.ensures.tokens) ∙ i.2

pub returns-in_err-all : goal.returns-in_err-all
returns-in_err-all c =
    let p = err_from_is_err_and c.from_residual.result c.from_residual.ensures.1 in
    let i = c.loop-word.invariant in
    let next = note_next (book_of c.args.book.now) c.loop-word.all c.loop-word.count c.in-Some.word.now (tokens_in c.in-Some.rest.now) (tokens_in c.loop-word.left.now) (Err c.in_err-all.field-0.0) i.1 (omega arith) c.in-Some.ensures.tokens c.in_err-all.ensures in
    rw (p.1, p.2) (sym next ∙ i.2)

pub loop-word-preserved : goal.loop-word-preserved
loop-word-preserved c =
    let i = c.loop-word.invariant in
    let next = note_next (book_of c.args.book.now) c.loop-word.all c.loop-word.count c.in-Some.word.now (tokens_in c.in-Some.rest.now) (tokens_in c.loop-word.left.now) (Ok (read_of c.in_ok-all.field-0)) i.1 (omega arith) c.in-Some.ensures.tokens c.in_ok-all.ensures in
    let written = note_written c.loop-word.all c.loop-word.count c.in_ok-all.field-0 (omega arith) in
    (omega arith, simp length-set i.1, sym (ap (λ rs. notes_in (book_of c.args.book.now) rs (tokens_in c.in-Some.rest.now)) written) ∙ sym next ∙ i.2)

pub returns : goal.returns
returns c = sym (ap (notes_in (book_of c.args.book.now) (map read_of (take c.loop-word.count c.loop-word.all))) c.in_default.ensures.none) ∙ c.loop-word.invariant.2
