-- One more ANR, after what was there.
use Rattle.std.proofs.Common.{◌∙◌, length, take, refl}
use Rattle.stream_text.specs.StreamsHistory.{anr_lines}
use Rattle.schedule.proofs.Written.{anr_more, taken_back}
use Rattle.schedule.proofs.text.append_anrs.Goals as goal

pub loop-anr-preserved : goal.loop-anr-preserved
loop-anr-preserved c =
    anr_more c.args.text.now.items c.loop-anr.text.items c.anr_text.new.out.items c.args.anrs.now c.loop-anr.anr-index c.anr-item.result
    c.loop-anr-test.true c.anr-item.is c.loop-anr.invariant c.in_ok-anr_text.ensures.ok

pub returns-in_err-anr_text-clause-front : goal.returns-in_err-anr_text-clause-front
returns-in_err-anr_text-clause-front c =
    taken_back c.args.text.now.items (anr_lines (take c.loop-anr.anr-index c.args.anrs.now)) c.anr_text.new.out.items (length c.args.text.now.items)
    (c.in_err-anr_text.ensures.err ∙ c.loop-anr.invariant) refl

pub returns-clause-front : goal.returns-clause-front
returns-clause-front c =
    taken_back c.args.text.now.items (anr_lines (take c.loop-anr.anr-index c.args.anrs.now)) c.loop-anr.text.items (length c.args.text.now.items) c.loop-anr.invariant refl
