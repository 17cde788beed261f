-- Commands that start no threads.
use Rattle.std.proofs.Common.{◌≡◌, List, Option, Some, None, true, false, refl}
use Rattle.outside_io.specs.Outside.{Entry}
use Rattle.command_words.specs.declared.command.Alone.{Alone}
use Rattle.command_words.specs.declared.command.Alone.TheVariants.{Replay}
use Rattle.command_words.specs.Command.{Command, race, check, verify, work, batch, emit, judge, show}
use Rattle.command_words.specs.CommandView.{alone_view}
use Rattle.command_answers.specs.Program.{IsAlone}
use Rattle.replay_engine.specs.Outcome.{LendsNames}
use Rattle.plain_run.specs.Running.{is_race}

pub alone_is_no_race : (c : Alone) → is_race (Some (alone_view c)) ≡ false
alone_is_no_race (Replay recorded) = refl
alone_is_no_race command = refl

pub is_alone : (c : Option Command) → is_race c ≡ false → IsAlone c
is_alone (Some (race files)) h = absurd (cc h)
is_alone command h = tt

-- files that lend each name lend those of a command
pub lends_all : (told : Option (List Entry)) (c : Option Command) → LendsNames told (λ name. true) c
lends_all told None = tt
lends_all told (Some (check files order)) = (refl, λ h. refl, λ h. refl)
lends_all told (Some (verify stream)) = refl
lends_all told (Some (work seed packets)) = tt
lends_all told (Some (batch stream frame)) = refl
lends_all told (Some (emit stream channel device)) = refl
lends_all told (Some (judge stream)) = refl
lends_all told (Some (show page)) = tt
lends_all told (Some command) = (refl, λ h. refl)
