-- The call is answered.
use Rattle.std.proofs.Common.{sym}
use Rattle.std.proofs.lemmas.Bool.{true≢false}
use Rattle.dispatcher.proofs.Laws.Standing.{after_of}
use Rattle.live_input.proofs.live.Live.make_counted.Goals as goal

pub returns-in-Ok-clause-after : goal.returns-in-Ok-clause-after
returns-in-Ok-clause-after c = λ ds es h easy may. c.in-Ok.ensures.after ds es h easy.plain easy.own

pub returns-in-Err-clause-after : goal.returns-in-Err-clause-after
returns-in-Err-clause-after c = λ ds es h easy may.
    absurd (true≢false (sym (c.in-Err.ensures.calm es (after_of es _ h.stands) may (easy.calm es))))
