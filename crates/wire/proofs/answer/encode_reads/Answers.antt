use Rattle.std.proofs.Common.{refl, arith}
use Rattle.std.proofs.lemmas.List.{length-map}
use Rattle.taps.specs.Values.{reading_of}
use Rattle.wire.proofs.Written.{length_reads}
use Rattle.wire.proofs.answer.encode_reads.Goals as goal

pub returns-in_err-out-clause-value : goal.returns-in_err-out-clause-value
returns-in_err-out-clause-value c = grind (arith, length-map, length_reads (reading_of c.args.reading.now) _ refl)

pub returns-in_err-out-clause-after : goal.returns-in_err-out-clause-after
returns-in_err-out-clause-after c = grind (arith, length-map, length_reads (reading_of c.args.reading.now) _ refl)
