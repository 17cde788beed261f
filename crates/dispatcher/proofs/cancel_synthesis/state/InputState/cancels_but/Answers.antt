use Rattle.std.proofs.Common.{not, sym, ap, ap₂, ◌∙◌}
use Rattle.bits32.specs.Set.{is_in}
use Rattle.routing_rules.specs.Outgoing.{cancels_of}
use Rattle.dispatcher.specs.CancelSynthesis.Ends.{pointers_cancelled}
use Rattle.dispatcher.specs.CancelSynthesis.Tracked.{pointers_of}
use Rattle.dispatcher.proofs.CancelSynthesis.CancelSteps.{as_kept}
use Rattle.dispatcher.proofs.cancel_synthesis.state.InputState.cancels_but.Goals as goal

pub returns : goal.returns
returns c =
    let d = c.args.device in
    let had = c.pointers_at-had.result.now in
    c.new.ensures
    ∙ ap₂ (cancels_of d had) c.part.ensures c.part_but.ensures
    ∙ sym (as_kept d (λ i. is_in i c.args.kept) had)
    ∙ ap (pointers_cancelled d (λ i. not (is_in i c.args.kept))) (c.pointers_at-had.ensures ∙ ap (λ t. pointers_of t d) c.self.view_is)
