use Rattle.std.proofs.Common.{map}
use Rattle.std.specs.String.{string_bytes}
use Rattle.options.proofs.Limits.{asked_given, limit_fixed, limit_most}
use Rattle.options.proofs.read_options.Goals as goal

pub returns-clause-asked : goal.returns-clause-asked
returns-clause-asked c = asked_given c.args.takes_limit (map string_bytes c.as_slice.result.now) c.options_of.result c.options_of.ensures.asked

pub returns-clause-limit : goal.returns-clause-limit
returns-clause-limit c = limit_most c.args.takes_limit (map string_bytes c.as_slice.result.now) c.options_of.result c.options_of.ensures.asked

pub returns-clause-unlimited : goal.returns-clause-unlimited
returns-clause-unlimited c = limit_fixed c.args.takes_limit (map string_bytes c.as_slice.result.now) c.options_of.result c.options_of.ensures.asked
