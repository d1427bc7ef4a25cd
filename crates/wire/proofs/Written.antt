-- How long a reading is as bytes.
use Rattle.std.proofs.Common.{◌≡◌, ℕ, ◌+◌, ◌*◌, List, length, refl, arith}
use Rattle.taps.specs.Readings.{Read}
use Rattle.taps.specs.Calls.{reads}
use Rattle.octets.proofs.Chunks.{length_joined}
use Rattle.wire.specs.Wire.{answer_bytes, read_bytes}

pub length_reads : (rs : List Read) (n : ℕ) → length rs ≡ n → length (answer_bytes (reads rs)) ≡ 3 + 2 * n
length_reads rs n count = omega (arith, length_joined read_bytes 2 (λ _. refl) rs)
