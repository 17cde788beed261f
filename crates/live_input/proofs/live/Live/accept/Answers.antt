-- The windows are counted, and no channel stands twice.
use Rattle.std.proofs.Common.{◌≤◌, None, map, length, sym, ap, ◌∙◌, arith}
use Rattle.std.proofs.lemmas.List.{length-map}
use Rattle.live_input.specs.State.{LiveState}
use Rattle.live_input.specs.Windows.{first_stale, window_of}
use Rattle.live_input.proofs.Accepted.{few_enough}
use Rattle.live_input.proofs.live.Live.accept.Goals as goal

pub returns-in-None : goal.returns-in-None
returns-in-None c =
    let ws = c.args.windows.now in
    let few : length (map window_of ws) ≤ 64 = omega (arith, length-map ws window_of, c.if-windows-gt-MAX_WINDOWS.false) in (
      ap (λ (s : LiveState). first_stale s.seats ws) (sym c.self.view_is) ∙ sym c.first_stale.ensures ∙ c.in_default.is,
      few_enough (map window_of ws) None few (sym c.first_twice.ensures ∙ c.in-None.is),
    )
