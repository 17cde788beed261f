use Rattle.device_reader.specs.Cooked.{Keys}
use Rattle.device_reader.proofs.Rule.{args_fit}
use Rattle.device_reader.proofs.reader.DeviceReader.keys.Goals as goal

pub returns-clause-rule : goal.returns-clause-rule
returns-clause-rule c = λ past. args_fit (Keys (record { device = c.args.device; layout = c.args.layout })) past
