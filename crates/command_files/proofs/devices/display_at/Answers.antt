-- A display of a plan is one of its list.
use Rattle.std.proofs.Common.{◌<◌, length, arith}
use Rattle.std.proofs.lemmas.List.Elements.{All-get_or}
use Rattle.session_plan.specs.Valid.{IsDisplay}
use Rattle.command_files.proofs.devices.display_at.Goals as goal

pub returns-clause-valid : goal.returns-clause-valid
returns-clause-valid c =
    let within : c.from.result < length c.args.displays.now = omega (arith, c.requires.within, c.from.ensures, c.get.ensures.value)
    in All-get_or IsDisplay c.args.displays.now c.from.result _ within c.requires.valid
