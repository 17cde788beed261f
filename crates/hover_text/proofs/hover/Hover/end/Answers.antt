use Rattle.std.proofs.Common.{◌≡◌, ◌++◌, ◌∙◌, List, map, length, ap, sym, subst}
use Rattle.std.proofs.lemmas.List.{length-map}
use Rattle.session_plan.specs.declared.plan.ChannelPlan.{ChannelPlan}
use Rattle.session_plan.specs.declared.plan.Step.{Step}
use Rattle.session_plan.specs.View.{channel_view, plan_view}
use Rattle.cursor_core.specs.Cursor.{CursorStandsFor}
use Rattle.cursor_core.specs.Packets.{latest}
use Rattle.cursor_core.specs.Told.{stream}
use Rattle.hover_text.specs.Running.{HasMade}
use Rattle.hover_text.specs.Schedule.{calls_of}
use Rattle.hover_text.specs.Screen.{screen_of}
use Rattle.hover_text.specs.State.{HoverState}
use Rattle.hover_text.specs.Text.{sections_from}
use Rattle.hover_text.proofs.Running.{channels_on}
use Rattle.hover_text.proofs.hover.Hover.end.Goals as goal

pub returns : goal.returns
returns c = λ past run.
    let plan = plan_view c.args.plan.now in
    let d = screen_of plan in
    let all = calls_of plan.steps past in
    let made : HasMade d c.deref.result.now all (latest past) c.args.self =
    subst (λ (ss : List Step). HasMade d ss all (latest past) c.args.self) (sym c.deref.ensures.value) run.made in
    let stands : CursorStandsFor d all c.self.inside.cursor =
    subst (λ (s : HoverState). CursorStandsFor d all s.cursor) (sym c.self.view_is) (c.in_ok-make_rest.ensures d all (latest past) made) in
    let few : d.channels ≡ length c.deref-2.result.now =
    channels_on plan.displays (length plan.channels) ∙ length-map c.args.plan.now.channels.items channel_view
    ∙ ap (λ (cs : List ChannelPlan). length cs) (sym c.deref-2.ensures.value) in
    c.in_ok-add_sections.ensures d all stands few
    ∙ ap (λ text. text ++ sections_from 1 (map channel_view c.deref-2.result.now) (stream d all)) c.new-text.ensures.items
    ∙ ap (λ (cs : List ChannelPlan). sections_from 1 (map channel_view cs) (stream d all)) c.deref-2.ensures.value
