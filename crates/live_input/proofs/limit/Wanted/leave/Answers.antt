-- Its window and its requests go.
use Rattle.std.proofs.Common.{◌≡◌, ◌&&◌, not, length, ap, ◌∙◌, arith}
use Rattle.live_input.specs.Limit.{has_window, without_client}
use Rattle.live_input.specs.Wanted.{Wanted}
use Rattle.live_input.proofs.Gone.{left_is}
use Rattle.live_input.proofs.limit.Wanted.leave.Goals as goal

pub returns : goal.returns
returns c =
    let k = c.args.channel in
    let s = c.self.inside in
    let was : Wanted = record { most = s.most; windows = s.windows.items; requested = s.requested; choked = s.choked; is_shown = s.is_shown } in
    let four : length s.requested ≡ 4 = omega arith in
    left_is k was c.drop_window.new.windows.items _ _ _ _ _ c.drop_window.ensures four c.unless_of.ensures c.unless_of-2.ensures c.unless_of-3.ensures
    c.unless_of-4.ensures (c.shown_without-self-inside.ensures ∙ ap (λ b. s.is_shown && not b) (c.has_window-has.ensures ∙ ap (has_window k) c.deref.ensures.value))
    ∙ ap (without_client k) c.self.view_is
