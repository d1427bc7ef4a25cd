use Rattle.std.proofs.Common.{rules, arith}
use Rattle.std.proofs.lemmas.Bool.Decides.{nat_tests}
use Rattle.taps.specs.Calls.{taps, turned}
use Rattle.onsets.proofs.Words.{stands}
use Rattle.onsets.proofs.append.Goals as goal

pub bounds-words-number : goal.bounds-words-number
unfolding turned
bounds-words-number c = grind (arith, nat_tests)

pub bounds-words-0 : goal.bounds-words-0
bounds-words-0 c = search (rules, bounds-words-number c)

pub returns-clause-after : goal.returns-clause-after
unfolding turned
returns-clause-after c = grind (arith, nat_tests)

pub returns-clause-taps : goal.returns-clause-taps
returns-clause-taps c = stands _ _ (taps c.args.time) (returns-clause-after c)
