use Rattle.std.specs.Prelude.{◌≡◌, ℤ, pos, IfOk}
use Rattle.std.proofs.Common.{sym, subst, rules}
use Rattle.key_mapper.specs.Key.{key_args_of}
use Rattle.key_mapper.proofs.keys.Keys.take.Goals as goal

pub returns-in-1-clause-ok : goal.returns-in-1-clause-ok
returns-in-1-clause-ok c = λ past h.
    let one : c.args.value ≡ pos 1 = search rules in
    subst (λ (v : ℤ). IfOk c.press.result (λ key. key ≡ key_args_of c.args.self.now.device c.args.self.now.layout past (record { scan = c.args.scan; value = v }))) (sym one) (c.press.ensures.ok past h)
