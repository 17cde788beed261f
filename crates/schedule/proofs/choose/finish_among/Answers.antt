-- The channel of this number, or none.
use Rattle.std.proofs.Common.{◌-◌, ◌∙◌, length, refl, sym, ap}
use Rattle.std.proofs.lemmas.Bool.{eqb-true}
use Rattle.std.proofs.lemmas.Option.{slice_get_past, slice_get_read}
use Rattle.schedule.specs.Next.{finish_of}
use Rattle.schedule.specs.Planned.{channel_of}
use Rattle.schedule.proofs.Idle.{at_once_due}
use Rattle.schedule.proofs.choose.finish_among.Goals as goal

pub returns-then-is_some-clause-finish : goal.returns-then-is_some-clause-finish
returns-then-is_some-clause-finish c = λ es s lives.
    let cs = c.args.channels.now in
    let is = rw c.in-Some.is at c.get.ensures.lookup in
    let at = slice_get_read cs (length cs) (c.args.number - 1) c.in-Some.channel.now refl is.3.0 is.1 in
    c.next_finish-finish.ensures es s lives ∙ ap (finish_of es c.args.number) (sym at)

pub returns-else-is_some-clause-finish : goal.returns-else-is_some-clause-finish
returns-else-is_some-clause-finish c = λ es s lives.
    let cs = c.args.channels.now in
    let is = rw c.in-Some.is at c.get.ensures.lookup in
    let at = slice_get_read cs (length cs) (c.args.number - 1) c.in-Some.channel.now refl is.3.0 is.1 in
    c.next_finish-finish.ensures es s lives ∙ ap (finish_of es c.args.number) (sym at)

pub returns-then-is_some-clause-at_once : goal.returns-then-is_some-clause-at_once
returns-then-is_some-clause-at_once c = λ es s lives at_once.
    at_once_due c.args.dispatcher.now.displays es c.args.number (channel_of c.in-Some.channel.now) c.next_finish-finish.result s.lawful
    (c.next_finish-finish.ensures es s lives) (sym c.is_some.ensures ∙ c.if-is_some.true) (eqb-true c.in-Some.channel.now.finish_after 0 at_once)

pub returns-in-None-clause-finish : goal.returns-in-None-clause-finish
returns-in-None-clause-finish c = λ es s lives.
    let cs = c.args.channels.now in
    let is = rw c.in-None.is at c.get.ensures.lookup in
    let at = slice_get_past cs (c.args.number - 1) is.3 in
    ap (finish_of es c.args.number) (sym at)
