use Rattle.std.proofs.Common.{Bool, true, false, ◌≡◌, List, not, ◌&&◌, map, filter, refl, ap, ◌∙◌, option_map}
use mathlib.Core.Path.{fun_ext}
use Rattle.std.specs.List.{find}
use Rattle.window_snapshot.specs.Mask.{mask_has}
use Rattle.window_snapshot.specs.Window.{is_spy, prevents_splitting}
use Rattle.window_snapshot.specs.declared.window.Window.{Window}
use Rattle.window_snapshot.proofs.Masks.{mask_has-mask_of}
use Rattle.routing_rules.specs.Choice.{earliest}
use Rattle.touch_state.specs.Touches.{any}
use Rattle.route_split.specs.Seen.{scene_at}
use Rattle.route_split.proofs.Firsts.{front_is}
use Rattle.route_split.proofs.choice.earliest_whole_holder.Goals as goal

swap : (a b c : Bool) → (a && b && c) ≡ (a && c && b)
swap true true true = refl
swap true true false = refl
swap true false true = refl
swap true false false = refl
swap false b c = refl

pub returns : goal.returns
returns c =
    let n = c.args.seen.now in
    let ws : List Window = n.windows.now in
    let p : Window → Bool = λ v. not (is_spy v) && prevents_splitting v in
    c.channel_of.ensures
    ∙ ap (option_map (λ v. v.channel)) (c.front_whole.ensures ∙ ap (find (λ v. p v && mask_has c.earliest-earliest.result v.channel)) c.windows.ensures.windows)
    ∙ front_is n.table.now ws ws n.reach.now n.able c.args.device c.whole_windows.result c.earliest-earliest.result p c.earliest-earliest.ensures
    (λ w. ap (λ m. mask_has m w) c.whole_windows.ensures ∙ mask_has-mask_of (filter p ws) w)
    ∙ ap (λ (q : Window → Bool). earliest (scene_at n) c.args.device (map (λ v. v.channel) (filter q ws)))
    (fun_ext (λ (v : Window). swap (not (is_spy v)) (prevents_splitting v) (any n.table.now v.channel)))
