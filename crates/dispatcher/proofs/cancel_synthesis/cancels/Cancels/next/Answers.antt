use Rattle.std.proofs.Common.{◌≡◌, ◌+◌, ◌<◌, List, drop, get_or, length, sym, ap, ◌∙◌, arith}
use Rattle.input_types.specs.declared.pointer.Pointer.{Pointer}
use Rattle.dispatcher.specs.CancelSynthesis.Cancelling.{still_sent, sent_from}
use Rattle.dispatcher.proofs.CancelSynthesis.CancelSteps.{up_left}
use Rattle.dispatcher.proofs.cancel_synthesis.cancels.Cancels.next.Goals as goal

pub returns-clause-others : goal.returns-clause-others
returns-clause-others c =
    let i = c.self.inside in
    let p = c.index-as_slice-self.result in
    let within : i.outgoing < length i.gone = omega (arith, c.if-count-self.false, c.len-count.ensures.value) in
    let at : p ≡ get_or i.gone i.outgoing p = c.index-as_slice-self.is ∙ ap (λ (ps : List Pointer). get_or ps i.outgoing p) c.as_slice.ensures.value in
    ap (λ (ps : List Pointer). sent_from i.device i.ends ps (drop (i.outgoing + 1) i.gone)) c.without-self-inside.ensures
    ∙ sym (ap (drop 1) (sym (ap still_sent c.self.view_is) ∙ up_left i.device i.ends i.left i.gone i.outgoing p c.if-self.false within at))
