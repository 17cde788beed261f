-- The plans are in the order of their numbers, as the readers are.
use Rattle.std.specs.Prelude.{Option, is_some, IsTrue}
use Rattle.std.proofs.Common.{sym, subst, refl}
use Rattle.input_types.specs.DeviceRule.{DeviceState}
use Rattle.device_reader.proofs.All.{plans_in_order}
use Rattle.device_reader.proofs.Rule.{all_fit}
use Rattle.device_reader.proofs.readers.Readers.new.Goals as goal

pub returns-clause-rule : goal.returns-clause-rule
returns-clause-rule c = λ plans past h d.
    subst (λ (o : Option DeviceState). IsTrue (is_some o)) (sym (all_fit plans past d (plans_in_order plans c.args.readers.items c.requires h))) refl
