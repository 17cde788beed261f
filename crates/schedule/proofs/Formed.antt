-- The streams of a run are well-formed.
use Rattle.std.proofs.Common.{◌≡◌, true, Some, IsTrue, subst}
use Rattle.input_types.specs.StreamRule.{stream_state, is_well_formed}
use Rattle.dispatch_history.specs.Effect.{past_of, stream}
use Rattle.dispatch_history.specs.History.{live}
use Rattle.dispatch_history.specs.Known.{known_state}
use Rattle.dispatch_history.proofs.WholeLaws.{well_formed_law, whole_law}
use Rattle.schedule.specs.Laws.{StreamsLaw}

pub streams_law : StreamsLaw
streams_law how plan es s c r =
    let k = r.has.stands in (
      subst (λ xs. IsTrue (is_well_formed (stream xs c))) k.lawful.whole (well_formed_law s.dispatcher.displays (past_of es) c k.lawful.legal k.rise),
      subst (λ xs. live (past_of es) c ≡ true → stream_state (stream xs c) ≡ Some (known_state xs c)) k.lawful.whole
          (whole_law s.dispatcher.displays (past_of es) c k.lawful.legal k.rise),
    )
