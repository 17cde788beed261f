use Rattle.std.proofs.Common.{◌≡◌, length, cond, refl, sym, ap, ◌∙◌, arith}
use Rattle.std.specs.Prelude.{bit_and}
use Rattle.std.proofs.lemmas.Bool.{and_parts}
use Rattle.std.proofs.lemmas.List.{with_items_is}
use Rattle.dispatcher.specs.InputChannel.State.{published_at}
use Rattle.window_snapshot.specs.Mask.{mask_has}
use Rattle.dispatcher.specs.DispatchChannels.Table.{channel_in}
use Rattle.dispatcher.proofs.DispatchChannels.Picking.{mask_has-and}
use Rattle.dispatcher.proofs.dispatch_channels.channels.Channels.publish.Goals as goal

pub publish_all-requires-clause-opened : goal.publish_all-requires-clause-opened
publish_all-requires-clause-opened c = λ k has.
    let both =
    and_parts (mask_has c.args.mask k) (mask_has c.self.inside.live k) (sym (mask_has-and c.args.mask c.self.inside.live k) ∙ has) in
    rw c.deref_mut.ensures.value (c.self.invariant.opened_live k both.1)

pub publish_all-requires-clause-may : goal.publish_all-requires-clause-may
publish_all-requires-clause-may c = λ k has.
    let both =
    and_parts (mask_has c.args.mask k) (mask_has c.self.inside.live k) (sym (mask_has-and c.args.mask c.self.inside.live k) ∙ has) in
    let may = rw (← c.self.view_is) at c.requires in
    rw c.deref_mut.ensures.value (may k both.0 both.1)

pub returns : goal.returns
returns c =
    let size : length c.publish_all.new.channels ≡ length c.self.inside.channels.items =
    c.publish_all.auto.channels ∙ ap length c.deref_mut.ensures.value in
    let same = with_items_is c.self.inside.channels c.publish_all.new.channels (omega (arith, size, c.self.inside.channels.ok.0)) in
    rw (← c.self.view_is) (record {
      channels_are = λ k from.
          ap (λ ss. channel_in ss k) same
          ∙ c.publish_all.ensures.channels k from
          ∙ ap
          (λ ss. cond (mask_has (bit_and c.args.mask c.self.inside.live) k) (published_at c.args.clock (channel_in ss k)) (channel_in ss k))
          c.deref_mut.ensures.value
          ∙ ap
          (λ b. cond b (published_at c.args.clock (channel_in c.self.inside.channels.items k)) (channel_in c.self.inside.channels.items k))
          (mask_has-and c.args.mask c.self.inside.live k);
      as_many = ap length same ∙ size;
      inputs_are = refl;
      live_is = refl;
      able_is = refl;
      anrs_are = refl;
    })
