use Rattle.std.proofs.Common.{length}
use Rattle.text.proofs.Again.{best_read, readings_read}
use Rattle.text.proofs.Meant.{kind_meant}
use Rattle.text.proofs.Within.{within_book}
use Rattle.text.proofs.readings_stand.Goals as goal

pub returns-clause-reads : goal.returns-clause-reads
returns-clause-reads c = readings_read

pub returns-clause-best : goal.returns-clause-best
returns-clause-best c = best_read

pub returns-clause-within : goal.returns-clause-within
returns-clause-within c = within_book

pub returns-clause-kind : goal.returns-clause-kind
returns-clause-kind c = λ b ticks. kind_meant b ticks (length b.kinds)
