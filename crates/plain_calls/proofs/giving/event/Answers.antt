-- The value is a 32-bit number, so the event has it unchanged.
use Rattle.std.proofs.Common.{◌≡◌, ◌∙◌, Err, w32, sym, ap, subst}
use Rattle.std.proofs.lemmas.Int.{to_z-of_z}
use Rattle.live_input.specs.declared.refused.ArgsRefused.TheVariants.{Memory}
use Rattle.live_input.specs.Easing.{EasedFirst}
use Rattle.live_input.specs.Giving.{GivesEvent}
use Rattle.live_input.specs.Room.{GivesAtOnce}
use Rattle.live_input.specs.State.{latest}
use Rattle.plain_calls.specs.Driving.{Happened, event}
use Rattle.plain_calls.proofs.Reading.{read_as}
use Rattle.plain_calls.proofs.giving.event.Goals as goal

pub returns : goal.returns
returns c =
    let now = c.in-Some.now in let d = c.in-Some-device_of.device in let old = c.args.live.now in let new = c.event.new.self in
    let at = latest now old.live in
    let same = ap (event at d c.args.kind c.args.code) (to_z-of_z w32 c.args.value c.ranges.value) in
    let happened : Happened now d c.args.kind c.args.code c.args.value old new c.event.result = record {
      none = c.event.ensures.none;
      after = λ ds es plan past h st.
          subst (λ e. EasedFirst ds at es old new (c.event.result ≡ Err Memory)
          (λ fs eased. GivesEvent ds at fs plan past e c.event.result eased.live new.live × (new.wanted ≡ eased.wanted)))
          same (c.event.ensures.after ds es plan past h st);
      fits = c.event.ensures.fits;
      reserved = λ n ds es plan past h calm st quiet.
          subst (λ e. GivesAtOnce n es plan past e c.event.result old.live new.live) same (c.event.ensures.reserved n ds es plan past h calm st quiet);
      others = c.event.ensures.others;
      seats = c.event.ensures.seats;
      named = c.event.ensures.named;
      reports = c.event.ensures.reports;
    } in
    read_as _ now _ _ _ (sym c.moment_of.ensures ∙ c.in-Some.is)
    (read_as _ d _ _ _ (sym c.device_of.ensures ∙ c.in-Some-device_of.is) (c.event.result, (c.args_status.ensures, happened)))
