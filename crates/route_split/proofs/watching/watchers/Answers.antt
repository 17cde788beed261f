use Rattle.std.proofs.Common.{◌≡◌, ◌&&◌, true, sym, ap, ap₂, ◌∙◌}
use Rattle.window_snapshot.specs.Hits.{is_watcher_at}
use Rattle.routing_rules.specs.Outgoing.{is_first}
use Rattle.touch_state.proofs.Steps.{mask_has-and}
use Rattle.routing_rules.specs.Watching.{is_watching}
use Rattle.route_split.proofs.watching.watchers.Goals as goal

pub returns-in-Some : goal.returns-in-Some
returns-in-Some c s e w =
    let m = c.args.motion.now in
    let p = c.in-Some.pointer in
    let first : is_first m.action ≡ true = sym c.is_first.ensures ∙ c.if-not-is_first.false in
    mask_has-and c.args.able c.watchers_at.result w
    ∙ ap₂ (λ x y. x && y) (sym (ap (λ f. f w) e.able_is))
    (c.watchers_at.ensures w ∙ ap₂ (λ ws r. is_watcher_at ws r p.at.x p.at.y w) (sym e.windows_are) (sym e.reach_is))
    ∙ ap (λ b. b && s.able w && is_watcher_at s.windows (s.reach m.device) p.at.x p.at.y w) (sym first)
    ∙ sym (ap (λ o. is_watching s m o w) (sym c.changed.ensures ∙ c.in-Some.is))
