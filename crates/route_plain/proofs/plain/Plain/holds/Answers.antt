use Rattle.std.proofs.Common.{ap, ◌∙◌, List}
use Rattle.routing_rules.specs.Pairs.{has}
use Rattle.route_plain.specs.declared.hold.Hold.{Hold}
use Rattle.route_plain.specs.Holds.{pairs_of}
use Rattle.route_plain.specs.State.{State}
use Rattle.route_plain.proofs.IdSets.{in-ids}
use Rattle.route_plain.proofs.plain.Plain.holds.Goals as goal

pub returns : goal.returns
returns c =
    λ i. rw (c.bits.ensures, c.ids_with.ensures, c.empty.ensures)
    (in-ids c.deref.result.now c.args.channel c.args.device i
    ∙ ap (λ (hs : List Hold). has (pairs_of hs) c.args.channel c.args.device i) (c.deref.ensures.value ∙ ap (λ (s : State). s.holds) c.self.view_is))
