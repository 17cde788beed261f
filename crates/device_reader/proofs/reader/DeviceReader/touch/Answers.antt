use Rattle.device_reader.specs.Cooked.{Touches}
use Rattle.device_reader.proofs.Rule.{args_fit}
use Rattle.device_reader.proofs.reader.DeviceReader.touch.Goals as goal

pub returns-clause-rule : goal.returns-clause-rule
returns-clause-rule c = λ past. args_fit (Touches (record { device = c.args.device; slots = c.args.slots; cook = c.args.cook })) past
