use Rattle.std.proofs.Common.{◌≡◌, [], length, sym, eqb-true}
use Rattle.std.proofs.lemmas.List.{nil_from_length}
use Rattle.raw_events.proofs.Heads.{seconds_are}
use Rattle.raw_events.proofs.front.seconds_say.Goals as goal

pub returns : goal.returns
returns c =
    let none : c.in_ok-behind.behind.now ≡ [] = nil_from_length c.in_ok-behind.behind.now (eqb-true (length c.in_ok-behind.behind.now) 0 (sym c.if-not-is_empty.ensures)) in
    seconds_are c.args.to_point.now c.in_ok-past_byte.field-0.now c.in_ok-seconds.rest.now c.in_ok-seconds.seconds (sym c.in_ok-past_byte.ensures)
    (rw (c.skip_blanks.ensures) at (sym c.in_ok-seconds.ensures.value)) (rw none at (sym c.in_ok-behind.ensures)) c.in_ok-seconds.ensures.bound
    (c.is_unended.ensures c.if-not-is_unended.false)
