-- What a reply stands for. Assumes nothing.
use Rattle.taps.specs.Calls as calls
use Rattle.taps.specs.Values.{answer_of}
use Rattle.lines.specs.declared.reply.Reply.{Reply}
use Rattle.lines.specs.declared.reply.Reply.TheVariants.{Unreadable, Answered}

abbrev pub reply_of : Reply → calls.Answer
reply_of (Unreadable n) = calls.refused 1 n
reply_of (Answered a) = answer_of a
