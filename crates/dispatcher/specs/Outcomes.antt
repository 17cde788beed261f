-- The results of calls whose reply has no message.
use Rattle.std.specs.Prelude.{Result, Ok, Err}
use Rattle.std.specs.declared.alloc.AllocError.{AllocError}
use Rattle.dispatch_calls.specs.declared.reply.Reply.{Reply}
use Rattle.dispatcher.specs.declared.outcome.Outcome.{Outcome}

-- the reply with this result
abbrev pub reply_of : Outcome → Reply
reply_of Outcome.Taken = Reply.Taken
reply_of (Outcome.Inconsistent pointers key_down) = Reply.Inconsistent pointers key_down
reply_of Outcome.Dispatched = Reply.Dispatched
reply_of Outcome.Repeated = Reply.Repeated
reply_of Outcome.Idle = Reply.Idle
reply_of Outcome.Gone = Reply.Gone
reply_of Outcome.Done = Reply.Done
reply_of Outcome.UnknownSeq = Reply.UnknownSeq

-- the same if memory may have run out
abbrev pub replied : Result Outcome AllocError → Result Reply AllocError
replied (Ok outcome) = Ok (reply_of outcome)
replied (Err error) = Err error
