use Rattle.std.proofs.Common.{ℕ, Bool, sym, ap, ap₂, ◌∙◌}
use Rattle.bits32.specs.Set.{is_in}
use Rattle.routing_rules.specs.Outgoing.{cancels_of}
use Rattle.dispatcher.specs.CancelSynthesis.Ends.{pointers_cancelled}
use Rattle.dispatcher.specs.CancelSynthesis.Tracked.{pointers_of}
use Rattle.dispatcher.proofs.CancelSynthesis.PointerEnds.{as_cases}
use Rattle.dispatcher.proofs.cancel_synthesis.state.InputState.cancels.Goals as goal

pub returns : goal.returns
returns c =
    let d = c.args.device in
    let had = c.pointers_at-had.result.now in
    let lost : ℕ → Bool = λ i. is_in i c.args.lost in
    c.new.ensures
    ∙ ap₂ (cancels_of d had) c.part_but.ensures c.part.ensures
    ∙ sym (as_cases d lost had)
    ∙ ap (pointers_cancelled d lost) (c.pointers_at-had.ensures ∙ ap (λ t. pointers_of t d) c.self.view_is)
