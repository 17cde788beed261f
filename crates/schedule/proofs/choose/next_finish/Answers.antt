-- A channel without such a message has no next finish.
use Rattle.std.proofs.Common.{◌≡◌, ◌∙◌, None, sym, ap}
use Rattle.std.specs.Prelude.{option_map}
use Rattle.dispatcher.specs.Access.{oldest_delivery}
use Rattle.schedule.specs.DueView.{candidate_of}
use Rattle.schedule.specs.Planned.{channel_of}
use Rattle.schedule.proofs.Counting.{live_opened}
use Rattle.schedule.proofs.Idle.{no_finish, none_oldest}
use Rattle.schedule.proofs.choose.next_finish.Goals as goal

pub returns-in_err-seq : goal.returns-in_err-seq
returns-in_err-seq c = λ es s lives.
    let opened = live_opened c.args.dispatcher.now.displays es c.args.number s.lawful lives in
    let none : oldest_delivery es c.args.number ≡ None = sym (c.oldest.ensures.value es s opened) ∙ c.in_err-seq.was in
    ap (option_map candidate_of) c.from_residual.ensures
    ∙ sym (no_finish es c.args.number (channel_of c.args.channel.now) (none_oldest es c.args.number none))
