use Rattle.std.proofs.Common.{◌≡◌, ◌+◌, length, take, drop, ap, ◌∙◌, arith, rules}
use Rattle.std.specs.Option.{option_map}
use Rattle.taps.specs.Calls.{reads}
use Rattle.taps.specs.Values.{reading_of}
use Rattle.octets.specs.Bytes.{number}
use Rattle.wire.specs.Wire.{reads_in}
use Rattle.wire.proofs.Told.{reads_is}
use Rattle.wire.proofs.answer.decode_reads.Goals as goal

pub returns : goal.returns
returns c =
    let tail : c.in_ok-count.rest.now ≡ drop 2 c.args.counted.now = search rules in
    let front : c.in_ok-count.count.now ≡ take 2 c.args.counted.now = search rules in
    let size : length c.in_ok-count.rest.now + 2 ≡ length c.args.counted.now = search rules in
    let found : option_map reads (option_map reading_of c.decode_all.result) ≡ reads_in c.args.counted.now =
    reads_is c.args.counted.now c.in_ok-count.rest.now c.as_chunks.result.0.now c.decode.result _ tail (c.decode.ensures ∙ ap number front) (omega arith) c.as_chunks.ensures.front (omega arith) c.decode_all.ensures in
    search (rules, found)
