use Rattle.std.proofs.Common.{◌<◌, take, arith, tests}
use Rattle.std.proofs.lemmas.Grind.{common_steps}
use Rattle.tokens.specs.Tokens.{tokens_in}
use Rattle.bookfile.specs.Books.{numbers_in}
use Rattle.bookfile.proofs.Tempi.{slow_refused}
use Rattle.bookfile.proofs.line.parse_tempi.Goals as goal

-- a number that is no tempo
pub returns-in_err-all : goal.returns-in_err-all
returns-in_err-all c =
    let n = c.in_ok-parse_number.field-0 in
    let slow : 4000 < n = grind (arith, common_steps, tests) in
    let refused = slow_refused (take c.loop-word.count c.loop-word.all) n (numbers_in (tokens_in c.in-Some.behind.now)) slow in
    grind (arith, common_steps)
