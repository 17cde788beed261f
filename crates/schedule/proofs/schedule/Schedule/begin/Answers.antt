-- One channel more, and all of them.
use Rattle.std.proofs.Common.{◌≡◌, ◌∙◌, ◌<◌, ◌≤◌, List, length, get_or, ap, subst, arith}
use Rattle.schedule.specs.declared.plan.Channel.{Channel}
use Rattle.std.proofs.lemmas.List.{length-map}
use Rattle.schedule.specs.Planned.{plan_of, channel_of}
use Rattle.schedule.specs.State.{HasWith}
use Rattle.schedule.proofs.Beginning.{opened_first, none_scripted, one_opened, all_opened, none_counted}
use Rattle.schedule.proofs.schedule.Schedule.begin.Goals as goal

pub loop-channel-preserved : goal.loop-channel-preserved
loop-channel-preserved c =
    let ds = c.args.plan.now.displays in
    let cs : List Channel = c.args.plan.now.channels.items in
    let i = c.loop-channel.channel-index in
    let within : c.loop-channel.channel-index < length c.args.plan.now.channels.items =
    subst (λ (xs : List Channel). c.loop-channel.channel-index < length xs) c.deref-channel-items.ensures.value c.loop-channel-test.true in
    let is : c.channel-item.result ≡ get_or c.args.plan.now.channels.items c.loop-channel.channel-index c.channel-item.result =
    subst (λ (xs : List Channel). c.channel-item.result ≡ get_or xs c.loop-channel.channel-index c.channel-item.result) c.deref-channel-items.ensures.value c.channel-item.is in
    record {
      has = subst (λ fs. HasWith c.args.lines (plan_of c.args.plan.now) fs c.open.new.self) (one_opened c.args.plan.now.displays c.args.plan.now.channels.items c.loop-channel.channel-index c.channel-item.result within is)
          (c.in_ok-open.ensures.after c.args.lines (plan_of c.args.plan.now) (opened_first c.args.plan.now.displays c.args.plan.now.channels.items c.loop-channel.channel-index) c.loop-channel.invariant.has
          (none_scripted c.args.plan.now.displays c.args.plan.now.channels.items c.loop-channel.channel-index (omega (arith, within)) c.requires.few));
      latest = c.open.ensures.latest ∙ c.loop-channel.invariant.latest;
    }

pub returns-clause-has : goal.returns-clause-has
returns-clause-has c =
    let past : length c.args.plan.now.channels.items ≤ c.loop-channel.channel-index =
    subst (λ (xs : List Channel). length xs ≤ c.loop-channel.channel-index) c.deref-channel-items.ensures.value c.loop-channel-test.false in
    let within : c.loop-channel.channel-index ≤ length c.args.plan.now.channels.items =
    subst (λ (xs : List Channel). c.loop-channel.channel-index ≤ length xs) c.deref-channel-items.ensures.value c.loop-channel.auto.channel-index-end in
    let all : c.loop-channel.channel-index ≡ length c.args.plan.now.channels.items = omega (arith, past, within) in
    subst (λ fs. HasWith c.args.lines (plan_of c.args.plan.now) fs c.loop-channel.run)
    (ap (opened_first c.args.plan.now.displays c.args.plan.now.channels.items) all ∙ all_opened c.args.plan.now.displays c.args.plan.now.channels.items)
    c.loop-channel.invariant.has

pub returns-clause-messages : goal.returns-clause-messages
returns-clause-messages c =
    none_counted c.args.lines (plan_of c.args.plan.now) c.loop-channel.run (omega (arith, length-map c.args.plan.now.channels.items channel_of, c.requires.few)) (returns-clause-has c)
