use Rattle.std.proofs.Common.{◌≡◌, ◌++◌, sym, ap, subst, ◌∙◌}
use Rattle.std.proofs.lemmas.List.{take-append-drop}
use Rattle.raw_events.specs.Line.{known}
use Rattle.raw_events.specs.Front.{HeadSays}
use Rattle.raw_events.proofs.Heads.{head_says}
use Rattle.raw_events.proofs.front.renew.Goals as goal

pub returns-clause-front : goal.returns-clause-front
returns-clause-front c =
    let devices = known c.args.devices.now in
    let to_point = c.split_at.result.0.now in
    let digits = c.split_at-2.result.0.now in
    let part = c.split_at-2.result.1.now in
    let behind : digits ++ part ≡ c.split_at.result.1.now = rw (c.split_at-2.ensures.front, c.split_at-2.ensures.back) (take-append-drop 7 c.split_at.result.1.now) in
    let all : to_point ++ c.split_at.result.1.now ≡ c.args.head.now = rw (c.split_at.ensures.front, c.split_at.ensures.back) (take-append-drop _ _) in
    let whole = sym (ap (λ rest. to_point ++ rest) behind ∙ all) in (
      c.in_ok-seconds.ensures,
      c.in_ok-device.ensures,
      subst (λ moment. HeadSays devices c.args.head.now c.in_ok-device.device moment) (sym c.moment_of-front.ensures)
          (head_says devices to_point digits part c.in_ok-seconds.seconds c.in_ok-micros.micros c.in_ok-device.device c.args.head.now whole
          c.in_ok-seconds.ensures c.in_ok-micros.ensures.value c.in_ok-device.ensures c.in_ok-micros.ensures.unended c.requires.short),
    )
