use Rattle.std.proofs.Common.{◌≡◌, ℕ, Bool, ◌++◌, ◌&&◌, not, drop}
use Rattle.bits32.specs.Set.{is_in}
use Rattle.routing_rules.specs.Outgoing.{listing, cancelled_ups}
use Rattle.route_plain.specs.Route.{to_channel}
use Rattle.route_plain.proofs.sending.send_ups.Given as goal

abbrev pub invariant-loop-pointer : goal.invariant-loop-pointer
invariant-loop-pointer l =
    let lost : ℕ → Bool = λ i. is_in i l.held.before && not (is_in i l.held.later) in
    l.out.items ++ to_channel l.channel (cancelled_ups l.device (listing (λ i. is_in i l.ids) l.last) (listing lost (drop l.pointer-index l.last)))
    ≡ l.initial.out.items ++ to_channel l.channel (cancelled_ups l.device (listing (λ i. is_in i l.held.before) l.last) (listing lost l.last))
