-- The windows are shown with the walls.
use Rattle.std.proofs.Common.{map, ap, ap₂, ◌∙◌, subst}
use Rattle.dispatch_calls.specs.declared.call.Call.TheVariants.{Windows}
use Rattle.live_input.specs.Answers.{Makes}
use Rattle.live_input.specs.Limit.{walled}
use Rattle.live_input.specs.State.{LiveState, latest}
use Rattle.live_input.specs.Windows.{window_of}
use Rattle.live_input.specs.Wanted.{Wanted}
use Rattle.live_input.proofs.limit.Limited.show_walled.Goals as goal

pub returns-in-Ok-clause-after : goal.returns-in-Ok-clause-after
returns-in-Ok-clause-after c = λ ds es h.
    let rows = c.in_ok-rows.ensures ∙ ap₂ walled c.choked.ensures c.deref.ensures.value in
    subst (λ ws. Makes ds es (Windows (latest c.args.now c.args.self.now.live) (map window_of ws)) c.windows.new.self) rows
    (c.in-Ok.ensures.after ds es h).2

pub returns-in-Err-clause-err : goal.returns-in-Err-clause-err
returns-in-Err-clause-err c = ap (λ (l : LiveState). record c.args.self.now { live = l }) c.in-Err.ensures.err

pub returns-in-Ok-clause-choked : goal.returns-in-Ok-clause-choked
returns-in-Ok-clause-choked c = ap (λ (w : Wanted). w.choked) c.show.ensures
