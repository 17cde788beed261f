-- The line of the last Move comes to those of its channel.
use Rattle.std.proofs.Common.{◌≡◌, ◌++◌, ◌∙◌, Bool, true, false, cond, Some, None, sym, ap, arith}
use Rattle.std.proofs.lemmas.Bool.{and_parts, leb-true}
use Rattle.dispatch_calls.specs.declared.counts.Counts.{Counts}
use Rattle.dispatch_history.specs.Effect.{past_of}
use Rattle.dispatch_history.specs.History.{clock, origin}
use Rattle.input_types.specs.declared.message.Message.{Message}
use Rattle.routing_rules.specs.Cover.{flags_of}
use Rattle.dispatcher.specs.Access.{gone}
use Rattle.dispatcher.specs.CancelSynthesis.Tracked.{pointers_of}
use Rattle.dispatcher.specs.DispatchChannels.Table.{input_of}
use Rattle.dispatcher.specs.InputChannel.Moves.{moves_from}
use Rattle.dispatcher.specs.MovedOn.{last_moved}
use Rattle.dispatcher.specs.WindowCovers.Covers.{cover_in}
use Rattle.dispatcher.proofs.Room.Oks.{on_ok}
use Rattle.stream_text.specs.Spelling.{message_line}
use Rattle.schedule.proofs.EachMoved.{put_more}
use Rattle.schedule.proofs.stream.drain_moved.Goals as goal

same_some : (k x : Counts) (b : Bool) → Some k ≡ cond b (Some x) None → k ≡ x
same_some k x true e = cc
same_some k x false e = absurd (cc e)

pub returns : goal.returns
returns c = λ es s there all.
    let d = c.args.dispatcher.now in
    let k = c.args.channel in
    let dev = c.args.device in
    let seq : c.in-Some.counts.sent ≡ gone d k = ap (λ (x : Counts). x.sent) (same_some c.in-Some.counts _ _ (c.in-Some.ensures es s)) ∙ sym all in
    let moment : c.clock.result ≡ clock (past_of es) = c.clock.ensures es s in
    let from : c.origin.result ≡ origin (past_of es) k = c.origin.ensures es s in
    let flags : c.flags.result ≡ flags_of (cover_in d.covers k dev) = c.flags.ensures ∙ ap (λ t. flags_of (cover_in t k dev)) c.covers.ensures.value in
    let listed : c.pointers.result.now ≡ pointers_of (input_of d.channels k) dev = c.pointers.ensures ∙ c.in-Some-input.ensures.pointers dev in
    let sent : Message = record { seq = c.in-Some.counts.sent; moment = c.clock.result; body = moves_from c.origin.result dev c.flags.result c.pointers.result.now } in
    let same : sent ≡ last_moved es dev d k = λ i. record { seq = seq i; moment = moment i; body = moves_from (from i) dev (flags i) (listed i) } in
    on_ok _ _ c.drain_moves.result c.drain_moves.ensures.ok
    (λ more.
    put_more (message_line (last_moved es dev d k)) c.index_mut.result.now c.drain_moves.new.self _ c.args.streams.now.items k
    (leb-true 1 k (and_parts _ _ c.requires).0) (omega (arith, c.if-len-place.false, c.len.ensures)) c.index_mut.ensures.value
    (more ∙ ap (λ m. c.index_mut.result.now ++ message_line m) same))
