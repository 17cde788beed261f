-- What a race prints is what follows the printed order.
use Rattle.std.proofs.Common.{◌++◌, ◌∙◌, ap, sym, subst}
use Rattle.dispatch_history.specs.Effects.{effects}
use Rattle.dispatch_history.specs.Settled.{Settled}
use Rattle.dispatch_core.specs.Recorded.{history_of}
use Rattle.replay_actors.proofs.Orders.{history_same}
use Rattle.replay_actors.proofs.Spelled.{order_law}
use Rattle.stream_text.specs.Order.{order_spelling}
use Rattle.stream_text.specs.OrderHistory.{order_of_history}
use Rattle.stream_text.specs.StreamsHistory.{streams_text}
use Rattle.replay_actors.specs.Laws.{PrintsLaw}

pub prints_law : PrintsLaw
prints_law plan finishing names seats r same race =
    let o = order_law plan finishing seats r.entries race in
    record {
      calls = o.0;
      given_is = o.1;
      text_is =
          ap (λ es. order_spelling (order_of_history seats r.entries) ++ streams_text names es)
          (ap (λ ds. effects ds (history_of r.entries)) same ∙ sym o.3);
      settled =
          subst (λ h. Settled plan.displays h finishing) (sym o.2)
          (subst (λ h. Settled plan.displays h finishing) (history_same r.entries) race.race.settled);
    }
