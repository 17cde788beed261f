-- The messages that were not released come to the lines.
use Rattle.std.proofs.Common.{◌≡◌, ◌∙◌, Bool, true, List, cond, length, Some, None, drop, reverse, ap, subst, arith, length-drop}
use Rattle.std.proofs.lemmas.List.{length-reverse}
use Rattle.input_types.specs.declared.message.Message.{Message}
use Rattle.dispatch_history.specs.Effect.{stream}
use Rattle.dispatcher.specs.Access.{gone, is_opened}
use Rattle.stream_text.specs.Spelling.{message_lines}
use Rattle.schedule.specs.Draining.{WithMore}
use Rattle.schedule.proofs.stream.drain_left.Goals as goal

same_some : (ms ns : List Message) (b : Bool) → Some ms ≡ cond b (Some ns) None → b ≡ true → ms ≡ ns
same_some ms ns b e there = let both : Some ms ≡ Some ns = e ∙ ap (λ x. cond x (Some ns) None) there in cc

pub returns-in_ok-drain_all-in-Some-clause-lines : goal.returns-in_ok-drain_all-in-Some-clause-lines
returns-in_ok-drain_all-in-Some-clause-lines c = λ es s there.
    let outgoing = reverse (stream es c.args.channel) in
    let n = gone c.args.dispatcher.now c.args.channel in
    let are : c.in-Some.messages.now ≡ drop n outgoing =
    same_some c.in-Some.messages.now (drop n outgoing) (is_opened es c.args.channel) (c.in-Some.ensures.value es s) there in
    subst (λ ms. WithMore (message_lines ms) c.args.channel c.args.streams.now.items c.drain_all.new.streams.items) are c.in_ok-drain_all-in-Some.ensures

pub returns-in_ok-drain_all-in-Some-clause-count : goal.returns-in_ok-drain_all-in-Some-clause-count
returns-in_ok-drain_all-in-Some-clause-count c = λ es s there.
    let outgoing : List Message = reverse (stream es c.args.channel) in
    let are : c.in-Some.messages.now ≡ drop (gone c.args.dispatcher.now c.args.channel) outgoing =
    same_some c.in-Some.messages.now (drop (gone c.args.dispatcher.now c.args.channel) outgoing) (is_opened es c.args.channel) (c.in-Some.ensures.value es s) there in
    let long : length c.in-Some.messages.now ≡ length (drop (gone c.args.dispatcher.now c.args.channel) (reverse (stream es c.args.channel))) = ap length are in
    omega (arith, long, length-drop (gone c.args.dispatcher.now c.args.channel) (reverse (stream es c.args.channel)), length-reverse (stream es c.args.channel))
