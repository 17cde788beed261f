-- What the masks say of a channel.
use Rattle.std.proofs.Common.{◌≡◌, ◌∙◌, ◌&&◌, not, true, false, None, sym, ap}
use Rattle.dispatcher.specs.InputChannel.State.{oldest_of}
use Rattle.window_snapshot.specs.Mask.{mask_has}
use Rattle.dispatcher.specs.DispatchTables.Dues.{due_in}
use Rattle.dispatcher.specs.DispatchChannels.Table.{Table, channel_in, channel_of}
use Rattle.dispatcher.proofs.DispatchChannels.Pending.{none_oldest, left_out, within}
use Rattle.dispatcher.proofs.dispatch_channels.channels.Channels.unfinished.Goals as goal

pub returns-clause-live : goal.returns-clause-live
returns-clause-live c = λ k has.
    ap (λ (t : Table). mask_has t.live k) (sym c.self.view_is)
    ∙ within (not (mask_has c.mask_less.result k)) (mask_has c.self.inside.live k) (sym (c.mask_less-2.ensures.channels k) ∙ has)

pub returns-clause-none : goal.returns-clause-none
returns-clause-none c = λ k y out.
    let live = mask_has c.self.inside.live k in
    let able = mask_has c.self.inside.able k in
    let kept = channel_in c.self.inside.channels.items k in
    let lives : live ≡ true = ap (λ (t : Table). mask_has t.live k) c.self.view_is ∙ y in
    let both : (not (not (mask_has c.pending.result k) && able) && live) ≡ false =
    sym (c.mask_less-2.ensures.channels k ∙ ap (λ b. not b && live) (c.mask_less.ensures.channels k)) ∙ out in
    let parts = left_out (mask_has c.pending.result k) able live lives both in
    let none : due_in able kept ≡ None = sym (c.self.invariant.dues_are k) ∙ c.pending.ensures k parts.0 in
    ap (λ (t : Table). oldest_of (channel_of t k)) (sym c.self.view_is) ∙ none_oldest able kept parts.1 none
