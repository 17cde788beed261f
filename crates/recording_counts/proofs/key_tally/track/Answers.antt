-- A key event moves its key.
use Rattle.std.specs.Prelude.{◌≡◌, true}
use Rattle.std.proofs.Common.{sym, ◌∙◌, arith, eq-eqb}
use Rattle.device_reader.specs.Packets.{is_key, key_events, since_drop}
use Rattle.device_reader.proofs.All.{on_ok}
use Rattle.recording_counts.proofs.KeySteps.{key_step}
use Rattle.recording_counts.proofs.key_tally.track.Goals as goal

pub returns-clause-down : goal.returns-clause-down
returns-clause-down c = λ past v d.
    let key : is_key c.args.event.now ≡ true = eq-eqb c.args.event.now.kind 1 (omega (arith, c.if-event-ne-EV_KEY.false)) in
    on_ok c.move_key.result
    (λ moved scan. moved scan ∙ key_step past c.args.event.now scan (sym v ∙ c.if-void.false) (sym c.is_drop.ensures ∙ c.if-is_drop.false) key)
    (c.move_key.ensures (key_events (since_drop past)) d)
