use Rattle.std.proofs.Common.{List, refl, ap, subst}
use Rattle.input_types.specs.declared.axis.Pixel.{Pixel}
use Rattle.dispatcher.specs.Carrying.{SendsRound}
use Rattle.dispatcher.proofs.carry.carry_out.Goals as goal

pub returns-clause-carries : goal.returns-clause-carries
returns-clause-carries c =
    let old = c.args.routing.now in
    record {
      touches = c.send_all.ensures.changes;
      covers = c.give.ensures;
      channels = subst (λ (os : List Pixel). SendsRound c.args.round.now old.touches c.give.new.covers os c.args.clock old.channels c.send_all.new.channels) c.origins.ensures
          (record { changed = c.args.outgoing; sends = c.send_all.ensures.outgoing });
      gone_are = record { of_channels = c.send_all.ensures.gone; of_anrs = ap (λ n. n.gone) c.send_all.ensures.anrs };
      repeat_is = c.remember.ensures;
      displays_are = refl;
      shown_is = refl;
      focus_is = refl;
    }

pub returns-clause-room : goal.returns-clause-room
returns-clause-room c = record { spends = c.send_all.ensures.spends; left = c.send_all.ensures.left; live_is = c.send_all.ensures.live }
