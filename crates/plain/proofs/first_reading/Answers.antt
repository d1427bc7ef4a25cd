use Rattle.std.proofs.Common.{◌≤◌, length, sym, ap, ◌∙◌, subst, arith}
use Rattle.std.specs.Option.{option_map}
use Rattle.std.proofs.lemmas.List.{length-take}
use Rattle.octets.specs.Bytes.{StartsWith, room, written}
use Rattle.octets.proofs.Front.{read_back}
use Rattle.taps.specs.Items.{items}
use Rattle.taps.specs.Readings.{reading}
use Rattle.taps.specs.Values.{book_of, reading_of}
use Rattle.taps.proofs.Good.{book_is_good}
use Rattle.plain.specs.Restricted.{gaps_of}
use Rattle.plain.proofs.Freely.{free_slice, free_walked}
use Rattle.plain.proofs.first_reading.Goals as goal

pub returns-in_err-size-clause-value : goal.returns-in_err-size-clause-value
returns-in_err-size-clause-value c =
    λ starts.
    let b = book_of c.args.book.now in
    let steps = items c.args.steps.now in
    let same = free_slice b (book_is_good c.args.book.now).1 steps c.as_slice.result.now c.as_slice.ensures c.requires in
    let told = c.write_suffix_rows.ensures.rows (subst (λ ws. StartsWith ws c.args.kept.now) (sym same.1) starts) in
    ap (option_map reading_of) c.from_residual.ensures ∙ ap (option_map (λ _. reading b 0 (gaps_of steps))) (sym c.in_err-size.was ∙ told.0 ∙ ap (λ ws. room ws c.args.words.now) same.0)

pub returns-in_err-size-clause-after : goal.returns-in_err-size-clause-after
returns-in_err-size-clause-after c =
    λ starts.
    let same = free_slice (book_of c.args.book.now) (book_is_good c.args.book.now).1 (items c.args.steps.now) c.as_slice.result.now c.as_slice.ensures c.requires in
    let told = c.write_suffix_rows.ensures.rows (subst (λ ws. StartsWith ws c.args.kept.now) (sym same.1) starts) in
    told.1 ∙ ap (λ ws. written ws c.args.words.now) same.0

pub returns-clause-value : goal.returns-clause-value
returns-clause-value c =
    λ starts.
    let b = book_of c.args.book.now in
    let good = book_is_good c.args.book.now in
    let steps = items c.args.steps.now in
    let same = free_slice b good.1 steps c.as_slice.result.now c.as_slice.ensures c.requires in
    let told = c.write_suffix_rows.ensures.rows (subst (λ ws. StartsWith ws c.args.kept.now) (sym same.1) starts) in
    let size = sym c.in_ok-size.was ∙ told.0 ∙ ap (λ ws. room ws c.args.words.now) same.0 in
    let rows = read_back _ c.args.words.now c.write_suffix_rows.new.words _ size (told.1 ∙ ap (λ ws. written ws c.args.words.now) same.0) in
    let short : length steps ≤ 255 = omega (arith, length-take c.args.steps.now.count c.args.steps.now.all, c.args.steps.now.few) in
    c.first_reading.ensures ∙ free_walked b good.1 good steps c.requires short _ rows ∙ ap (option_map (λ _. reading b 0 (gaps_of steps))) size

pub returns-clause-after : goal.returns-clause-after
returns-clause-after c =
    λ starts.
    let same = free_slice (book_of c.args.book.now) (book_is_good c.args.book.now).1 (items c.args.steps.now) c.as_slice.result.now c.as_slice.ensures c.requires in
    let told = c.write_suffix_rows.ensures.rows (subst (λ ws. StartsWith ws c.args.kept.now) (sym same.1) starts) in
    told.1 ∙ ap (λ ws. written ws c.args.words.now) same.0
