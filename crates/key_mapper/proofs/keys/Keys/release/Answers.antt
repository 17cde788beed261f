use Rattle.std.specs.Prelude.{◌≡◌, true, false, pos, ◌∷◌, Some, if◌then◌else◌}
use Rattle.std.proofs.Common.{sym, ◌∙◌, ap, subst}
use Rattle.key_layout.specs.Layout.{code_at}
use Rattle.input_types.specs.declared.key.KeyArgs.{KeyArgs}
use Rattle.key_mapper.specs.declared.modifiers.Modifiers.{Modifiers}
use Rattle.key_mapper.specs.Key.{is_down, key_args_of, meta_of}
use Rattle.key_mapper.specs.Held.{Held, KeysStandFor, without_key, counts, bits, sets_meta}
use Rattle.key_mapper.proofs.Counts.{counts_fewer}
use Rattle.key_mapper.proofs.Down.{is_held, release_gives, stands_release}
use Rattle.key_mapper.proofs.Meta.{meta_is, bits_fewer}
use Rattle.key_mapper.proofs.keys.Keys.release.Goals as goal

pub invariant_of-self-2 : goal.invariant_of-self-2
invariant_of-self-2 c = record {
  ordered = c.remove.ensures.ordered;
  counted = c.remove-2.ensures ∙ ap (λ (m : Modifiers). without_key m c.in_ok-code.code) c.self.invariant.counted
      ∙ counts_fewer c.self.inside.down.entries c.args.scan c.in_ok-code.code (sym c.remove.ensures.value ∙ c.in_ok-code.was)
      ∙ ap (λ es. counts es) (sym c.remove.ensures.entries);
  told = c.bits_after-self-inside.ensures
      ∙ ap (λ (m : Modifiers). if sets_meta c.in_ok-code.code then bits m else c.self.inside.meta) c.remove-2.ensures
      ∙ bits_fewer c.self.inside.modifiers c.in_ok-code.code c.self.inside.meta c.self.invariant.told
      ∙ ap (λ (m : Modifiers). bits m) (sym c.remove-2.ensures);
}

pub returns-clause-after : goal.returns-clause-after
returns-clause-after c = λ past h.
    let stands : KeysStandFor past (record { device = c.self.inside.device; layout = c.self.inside.layout; down = c.self.inside.down.entries }) =
    subst (λ (k : Held). KeysStandFor past k) (sym c.self.view_is) h in
    stands_release c.self.inside.layout c.self.inside.down.entries c.remove.new.self.entries past c.args.scan stands (λ s. c.remove.ensures.updates.0 s)

pub returns-clause-ok : goal.returns-clause-ok
returns-clause-ok c = λ past h.
    let stands : KeysStandFor past (record { device = c.self.inside.device; layout = c.self.inside.layout; down = c.self.inside.down.entries }) =
    subst (λ (k : Held). KeysStandFor past k) (sym c.self.view_is) h in
    let after : KeysStandFor (record { scan = c.args.scan; value = pos 0 } ∷ past) (record { device = c.self.inside.device; layout = c.self.inside.layout; down = c.remove.new.self.entries }) =
    returns-clause-after c past h in
    let held : (is_down c.args.scan past ≡ true) × (c.in_ok-code.code ≡ code_at c.self.inside.layout c.args.scan) =
    is_held (record { device = c.self.inside.device; layout = c.self.inside.layout; down = c.self.inside.down.entries }) past c.args.scan c.in_ok-code.code stands (sym c.remove.ensures.value ∙ c.in_ok-code.was) in
    let meta : bits (counts c.remove.new.self.entries) ≡ meta_of c.self.inside.layout (record { scan = c.args.scan; value = pos 0 } ∷ past) =
    meta_is (record { device = c.self.inside.device; layout = c.self.inside.layout; down = c.remove.new.self.entries }) (record { scan = c.args.scan; value = pos 0 } ∷ past) after c.remove.ensures.ordered in
    ap (λ (k : KeyArgs). Some k) c.moved.ensures
    ∙ ap (λ m. Some (record { device = c.self.inside.device; scan = c.args.scan; code = c.in_ok-code.code; meta = m; down = false })) meta
    ∙ ap (λ n. Some (record { device = c.self.inside.device; scan = c.args.scan; code = n; meta = meta_of c.self.inside.layout (record { scan = c.args.scan; value = pos 0 } ∷ past); down = false })) held.1
    ∙ release_gives c.self.inside.device c.self.inside.layout past c.args.scan held.0
    ∙ ap (λ (k : Held). key_args_of k.device k.layout past (record { scan = c.args.scan; value = pos 0 })) c.self.view_is
