use Rattle.tokens.proofs.Numbers.{number_reads}
use Rattle.tokens.proofs.number_stands.Goals as goal

pub returns : goal.returns
returns c = number_reads
