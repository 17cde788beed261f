-- What is kept says what is down by the args that were accepted.
use Rattle.std.proofs.Common.{sym, subst}
use Rattle.input_types.specs.DeviceRule.{DeviceState}
use Rattle.dispatch_history.specs.Effect.{past_of}
use Rattle.dispatch_history.specs.Queue.{accepted}
use Rattle.dispatcher.specs.Dispatching.{IsAfter}
use Rattle.dispatcher.specs.Down.{IsFirstDown}
use Rattle.dispatcher.proofs.InboundArgs.Accepting.{says_down}
use Rattle.dispatcher.proofs.dispatcher.Dispatcher.first_key.Goals as goal

pub returns : goal.returns
returns c =
    λ es s.
    let stands = subst (IsAfter es) (sym c.self.view_is) s in
    let device = c.first_key.ensures.device in
    subst (λ (st : DeviceState). IsFirstDown st.keys c.args.from c.first_key.result)
    (sym (says_down (accepted (past_of es)) _ c.args.device stands.knows.queue.down_is device.0 device.1))
    c.first_key.ensures.key
