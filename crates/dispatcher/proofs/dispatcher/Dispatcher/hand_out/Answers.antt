use Rattle.std.proofs.Common.{sym, ◌∙◌, subst}
use Rattle.dispatch_calls.specs.declared.call.Call.TheVariants.{Receive}
use Rattle.dispatcher.specs.Dispatching.{StandsFor}
use Rattle.dispatcher.specs.Tables.{kept}
use Rattle.dispatcher.proofs.Made.Applying.{may_hand, raw, seen}
use Rattle.dispatcher.proofs.Laws.Replies.{reply_law}
use Rattle.dispatcher.proofs.Laws.Standing.{after_of}
use Rattle.dispatcher.proofs.dispatcher.Dispatcher.hand_out.Goals as goal

pub returns-clause-ok : goal.returns-clause-ok
returns-clause-ok c =
    let t = c.self.inside.tables in
    record {
      goes = c.in_ok-receive.ensures.ok;
      reply_is = λ es s.
          let stands = subst (StandsFor es) (sym c.self.view_is) s in
          c.next_reply-reply.ensures
          ∙ sym (reply_law t.routing.displays es (kept t.queueing t.routing) (Receive c.args.channel) (raw es t (after_of es (seen t) stands)) tt
          (may_hand es t (Receive c.args.channel) stands));
    }
