-- The free id is marked.
use Rattle.std.specs.Prelude.{nat_eq, ◌||◌}
use Rattle.std.proofs.Common.{sym, ◌∙◌, ap}
use Rattle.bits32.specs.Set.{is_in}
use Rattle.device_reader.proofs.PointerIds.Naming.{taken_new}
use Rattle.device_reader.proofs.PointerIds.Taken.{one_more}
use Rattle.device_reader.proofs.pointer_ids.ids.id_for.Goals as goal

pub returns-in-None-clause-taken : goal.returns-in-None-clause-taken
returns-in-None-clause-taken c = λ k.
    c.mark.ensures.has k
    ∙ ap (λ n. nat_eq k n || is_in k c.args.taken.now) (c.get.ensures.value ∙ c.free_id-id.ensures)
    ∙ sym (taken_new c.args.before.now (λ i. is_in i c.args.taken.now) c.args.contact.now.tracking (sym c.kept_id.ensures ∙ c.in-None.is) k)

pub returns-in-None-clause-few : goal.returns-in-None-clause-few
returns-in-None-clause-few c = one_more 32 c.get.result c.args.taken.now c.mark.new.self c.mark.ensures.has
