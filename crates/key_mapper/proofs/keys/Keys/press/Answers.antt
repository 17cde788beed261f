use Rattle.std.specs.Prelude.{◌≡◌, ◌^◌, true, cond, pos, ◌∷◌, Some, None, if◌then◌else◌}
use Rattle.std.specs.BTreeMap.{is_at}
use Rattle.std.specs.Ordering.{nat_cmp}
use Rattle.std.proofs.Common.{sym, ◌∙◌, ap, subst, arith}
use Rattle.key_layout.specs.Layout.{found_at}
use Rattle.key_mapper.specs.declared.modifiers.Modifiers.{Modifiers}
use Rattle.input_types.specs.declared.key.KeyArgs.{KeyArgs}
use Rattle.key_mapper.specs.Key.{key_args_of, meta_of}
use Rattle.key_mapper.specs.Held.{Held, KeysStandFor, with_key, AreBelow, counts, bits, sets_meta}
use Rattle.key_mapper.proofs.Counts.{counts_more, counts_below}
use Rattle.key_mapper.proofs.Down.{none_of, is_up, press_gives, stands_press}
use Rattle.key_mapper.proofs.Meta.{meta_is, bits_more}
use Rattle.key_mapper.proofs.keys.Keys.press.Goals as goal

pub add-requires : goal.add-requires
add-requires c =
    subst (λ (m : Modifiers). AreBelow (2 ^ 63) m) (sym c.self.invariant.counted)
    (counts_below c.self.inside.down.entries (2 ^ 63) (omega (arith, c.len-others.ensures.len, c.len-others.ensures.small)))

pub invariant_of-self-2 : goal.invariant_of-self-2
invariant_of-self-2 c =
    let none : found_at c.self.inside.down.entries c.args.scan ≡ None = none_of (found_at c.self.inside.down.entries c.args.scan) (sym c.contains_key.ensures ∙ c.if-contains_key.false) in
    record {
      ordered = c.insert.ensures.ordered;
      counted = c.add.ensures ∙ ap (λ (m : Modifiers). with_key m c.code_of-code.result) c.self.invariant.counted
          ∙ counts_more c.self.inside.down.entries c.args.scan c.code_of-code.result c.insert.ensures.was_ordered none
          ∙ ap (λ es. counts es) (sym c.in_ok-insert.ensures.entries);
      told = c.bits_after-self-inside.ensures
          ∙ ap (λ (m : Modifiers). if sets_meta c.code_of-code.result then bits m else c.self.inside.meta) c.add.ensures
          ∙ bits_more c.self.inside.modifiers c.code_of-code.result c.self.inside.meta c.self.invariant.told
          ∙ ap (λ (m : Modifiers). bits m) (sym c.add.ensures);
    }

pub returns-clause-after : goal.returns-clause-after
returns-clause-after c = λ past h.
    let stands : KeysStandFor past (record { device = c.self.inside.device; layout = c.self.inside.layout; down = c.self.inside.down.entries }) =
    subst (λ (k : Held). KeysStandFor past k) (sym c.self.view_is) h in
    stands_press c.self.inside.layout c.self.inside.down.entries c.insert.new.self.entries past c.args.scan stands
    (λ s. c.in_ok-insert.ensures.updates.0 s ∙ ap (λ n. cond (is_at (nat_cmp c.args.scan) s) (Some n) (found_at c.self.inside.down.entries s)) c.code_of-code.ensures)

pub returns-clause-ok : goal.returns-clause-ok
returns-clause-ok c = λ past h.
    let stands : KeysStandFor past (record { device = c.self.inside.device; layout = c.self.inside.layout; down = c.self.inside.down.entries }) =
    subst (λ (k : Held). KeysStandFor past k) (sym c.self.view_is) h in
    let after : KeysStandFor (record { scan = c.args.scan; value = pos 1 } ∷ past) (record { device = c.self.inside.device; layout = c.self.inside.layout; down = c.insert.new.self.entries }) =
    returns-clause-after c past h in
    let none : found_at c.self.inside.down.entries c.args.scan ≡ None = none_of (found_at c.self.inside.down.entries c.args.scan) (sym c.contains_key.ensures ∙ c.if-contains_key.false) in
    let meta : bits (counts c.insert.new.self.entries) ≡ meta_of c.self.inside.layout (record { scan = c.args.scan; value = pos 1 } ∷ past) =
    meta_is (record { device = c.self.inside.device; layout = c.self.inside.layout; down = c.insert.new.self.entries }) (record { scan = c.args.scan; value = pos 1 } ∷ past) after c.insert.ensures.ordered in
    ap (λ (k : KeyArgs). Some k) c.moved.ensures
    ∙ ap (λ m. Some (record { device = c.self.inside.device; scan = c.args.scan; code = c.code_of-code.result; meta = m; down = true })) meta
    ∙ ap (λ n. Some (record { device = c.self.inside.device; scan = c.args.scan; code = n; meta = meta_of c.self.inside.layout (record { scan = c.args.scan; value = pos 1 } ∷ past); down = true })) c.code_of-code.ensures
    ∙ press_gives c.self.inside.device c.self.inside.layout past c.args.scan
    (is_up (record { device = c.self.inside.device; layout = c.self.inside.layout; down = c.self.inside.down.entries }) past c.args.scan stands none)
    ∙ ap (λ (k : Held). key_args_of k.device k.layout past (record { scan = c.args.scan; value = pos 1 })) c.self.view_is
