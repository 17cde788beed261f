use Rattle.std.proofs.Common.{not, ap, ◌∙◌}
use Rattle.dispatch_history.specs.Effect.{stream}
use Rattle.dispatcher.specs.Access.{gone, is_opened}
use Rattle.dispatcher.proofs.Laws.Reading.{some_left, none_left}
use Rattle.dispatcher.proofs.dispatcher.Dispatcher.has_messages.Goals as goal

pub returns-in-Some : goal.returns-in-Some
returns-in-Some c =
    λ es s.
    ap not c.is_empty.ensures
    ∙ some_left (is_opened es c.args.channel) (gone c.args.self.now c.args.channel) c.in-Some.messages.now (stream es c.args.channel) (c.in-Some.ensures.value es s)

pub returns-in-None : goal.returns-in-None
returns-in-None c =
    λ es s. none_left (is_opened es c.args.channel) (gone c.args.self.now c.args.channel) (stream es c.args.channel) (c.in-None.ensures.value es s)
