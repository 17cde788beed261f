use Rattle.std.proofs.Common.{Bool, List, not, ◌&&◌, ap, ◌∙◌, option_map}
use Rattle.std.specs.List.{find}
use Rattle.std.proofs.Common.{filter}
use Rattle.window_snapshot.specs.Mask.{mask_has}
use Rattle.window_snapshot.specs.Window.{is_spy}
use Rattle.window_snapshot.specs.declared.window.Window.{Window}
use Rattle.window_snapshot.proofs.Masks.{mask_has-mask_of}
use Rattle.route_split.proofs.Firsts.{front_is}
use Rattle.route_split.proofs.choice.earliest_holder.Goals as goal

pub returns : goal.returns
returns c =
    let n = c.args.seen.now in
    let ws : List Window = n.windows.now in
    let p : Window → Bool = λ v. not (is_spy v) in
    c.channel_of.ensures
    ∙ ap (option_map (λ v. v.channel)) (c.front_plain.ensures ∙ ap (find (λ v. p v && mask_has c.earliest-earliest.result v.channel)) c.windows.ensures.windows)
    ∙ front_is n.table.now ws ws n.reach.now n.able c.args.device c.plain_windows.result c.earliest-earliest.result p c.earliest-earliest.ensures
    (λ w. ap (λ m. mask_has m w) c.plain_windows.ensures ∙ mask_has-mask_of (filter p ws) w)
