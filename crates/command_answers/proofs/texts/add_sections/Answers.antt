-- One section more.
use Rattle.std.proofs.Common.{◌≡◌, ◌+◌, ◌++◌, ◌∙◌, List, map, ap, sym, string_bytes, arith}
use Rattle.std.proofs.lemmas.List.{append-nil, drop_all}
use Rattle.session_plan.specs.View.{channel_view}
use Rattle.session_plan.specs.declared.plan.ChannelPlan.{ChannelPlan}
use Rattle.stream_text.specs.StreamsHistory.{sections_of}
use Rattle.command_answers.proofs.NextSection.{opened_at, section_next}
use Rattle.command_answers.proofs.texts.add_sections.Goals as goal

pub loop-place-preserved : goal.loop-place-preserved
loop-place-preserved c = λ plan es has opened many.
    let before = c.loop-place.invariant plan es has opened many
    in let there = opened_at es c.loop-place.place (omega (arith, opened, many, c.loop-place-test.true))
    in let name : c.as_str.result.now ≡ string_bytes c.index-channels-place.result.name = c.as_str.ensures.value
    in (
      c.in_ok-take_section.ensures.after plan es before.0,
      section_next es c.args.channels.now c.loop-place.place c.index-channels-place.result c.loop-place.text c.take_section.new.text _
          c.loop-place-test.true c.index-channels-place.is
          (rw (← name) (c.in_ok-take_section.ensures.section plan es before.0 there (omega (arith, many, c.loop-place-test.true)))) before.1,
    )

pub returns : goal.returns
returns c = λ plan es has opened many.
    let text = c.loop-place.text
    in sym (append-nil text)
    ∙ ap (λ (cs : List ChannelPlan). text ++ sections_of (c.loop-place.place + 1) (map (λ d. d.name) (map channel_view cs)) es)
    (sym (drop_all c.loop-place.place c.args.channels.now c.loop-place-test.false))
    ∙ (c.loop-place.invariant plan es has opened many).1
