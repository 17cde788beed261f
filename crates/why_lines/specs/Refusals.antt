-- Why a pilfer is refused.
use Rattle.dispatch_calls.specs.declared.reply.Reply.{Reply}
use Rattle.dispatch_calls.specs.declared.reply.Reply.TheVariants.{Gone, NotSpy, NothingHeld}
use Rattle.why_lines.specs.declared.lines.channels.PilferRefused.{PilferRefused}
use Rattle.why_lines.specs.declared.lines.channels.PilferRefused.TheVariants.{Gone as IsGone, NotSpy as IsNotSpy, NothingHeld as HoldsNothing}

-- the reply to the call
abbrev pub answer_of : PilferRefused → Reply
answer_of IsGone = Gone
answer_of IsNotSpy = NotSpy
answer_of HoldsNothing = NothingHeld
