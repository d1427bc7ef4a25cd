use Rattle.std.proofs.Common.{◌≡◌, ◌+◌, ◌*◌, drop, ◌∙◌, arith}
use Rattle.std.proofs.lemmas.Grind.{common_steps}
use Rattle.octets.specs.Bytes.{number}
use Rattle.books.specs.Books.{kind_in}
use Rattle.books.proofs.Books.{part_pieces}
use Rattle.books.proofs.book.decode_book.Goals as goal

pub returns-in_default-clause-value : goal.returns-in_default-clause-value
returns-in_default-clause-value c =
    let kinds = part_pieces kind_in 5 c.count_at.result 1 c.args.bytes.now (omega arith) (omega arith) in
    grind (arith, kinds)

pub returns-in_default-decode_tempi-clause-value : goal.returns-in_default-decode_tempi-clause-value
returns-in_default-decode_tempi-clause-value c =
    let tempi = part_pieces number 2 c.count_at-2.result (1 + (1 + 5 * c.count_at.result)) c.args.bytes.now (omega arith) (omega arith) in
    grind (arith, tempi)

pub returns-clause-value : goal.returns-clause-value
returns-clause-value c =
    let kinds = part_pieces kind_in 5 c.count_at.result 1 c.args.bytes.now (omega arith) (omega arith) in
    let tempi = part_pieces number 2 c.count_at-2.result (1 + (1 + 5 * c.count_at.result)) c.args.bytes.now (omega arith) (omega arith) in
    let change : c.in-Some-first_chunk.change.now ≡ drop (1 + (1 + 5 * c.count_at.result) + 2 * c.count_at-2.result) c.args.bytes.now = c.in-Some-first_chunk.ensures.cases.same ∙ grind (arith, common_steps) in
    grind (arith, kinds, tempi, change)
