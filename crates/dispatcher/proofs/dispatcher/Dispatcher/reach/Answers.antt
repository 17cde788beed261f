use Rattle.std.proofs.Common.{◌≡◌, ◌&&◌, ℕ, sym, ap, ◌∙◌, subst, bit_and}
use Rattle.input_types.specs.Displays.{device_display}
use Rattle.window_snapshot.specs.Mask.{mask_has}
use Rattle.window_snapshot.specs.Named.{is_shown_on}
use Rattle.window_snapshot.specs.Walls.{reaches}
use Rattle.dispatch_history.specs.Step.{reach}
use Rattle.dispatcher.specs.Dispatching.{Dispatching, IsAfter}
use Rattle.dispatcher.specs.RoundLaws.{reach_on}
use Rattle.dispatcher.proofs.Rounds.Motioning.{on_display}
use Rattle.dispatcher.proofs.Room.Rooms.{stands_raw}
use Rattle.dispatcher.proofs.Laws.Stepping.{sees_law}
use Rattle.dispatcher.proofs.dispatcher.Dispatcher.reach.Goals as goal

pub returns : goal.returns
returns c =
    λ es s k.
    let r = c.self.inside.tables.routing in
    let d = c.args.device in
    let live = c.live.result in
    let shown = c.on.result in
    let mask = bit_and live shown in
    let stands =
    stands_raw r.displays es c.self.inside.tables.queueing r.shown r.touches r.covers r.channels r.focus r.repeat
    (subst (IsAfter es) (sym c.self.view_is) s) in
    let has : (j : ℕ) → mask_has mask j ≡ (mask_has r.channels.live j && is_shown_on r.shown.windows (device_display r.displays d) j) =
    λ j.
    on_display live shown c.windows.result.now c.of-display.result j (c.on.ensures j)
    ∙ ap (λ n. mask_has n j && is_shown_on c.windows.result.now c.of-display.result j) c.live.ensures.value
    ∙ ap (λ ws. mask_has r.channels.live j && is_shown_on ws c.of-display.result j) c.windows.ensures
    ∙ ap (λ y. mask_has r.channels.live j && is_shown_on r.shown.windows y j) c.of-display.ensures in
    ap (λ y. reaches (reach_on mask y) k) c.of-display.ensures
    ∙ sym (ap (λ f. f k) (sees_law r.displays es _ d mask stands has).reach_is) ∙ ap (λ (x : Dispatching). reach x.displays es d k) c.self.view_is
