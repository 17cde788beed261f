-- Where no slot can hold a palm, none is noted.
use Rattle.std.specs.Prelude.{◌≡◌, ◌&&◌, not, true, false, length, nat_eq}
use Rattle.std.proofs.Common.{arith, sym, ◌∙◌}
use Rattle.std.proofs.lemmas.Bool.{eqb-true}
use Rattle.device_reader.specs.SlotAccumulator.Table.{is_kept}
use Rattle.device_reader.proofs.SlotAccumulator.Listing.{and_first, and_second, none_kept, none_palm}
use Rattle.device_reader.proofs.slot_accumulator.palm_slots.note_palms.Goals as goal

pub returns-then-no_palm-clause-noted : goal.returns-then-no_palm-clause-noted
returns-then-no_palm-clause-noted c = λ t.
    let both : (nat_eq (length c.args.noted.now) 0 && not c.args.palm_tool) ≡ true = sym c.no_palm.ensures ∙ c.if-no_palm.true in
    let kept : is_kept c.args.noted.now t ≡ false =
    none_kept c.args.noted.now t (eqb-true (length c.args.noted.now) 0 (and_first (nat_eq (length c.args.noted.now) 0) (not c.args.palm_tool) both)) in
    kept
    ∙ sym (none_palm c.args.rows.now (λ i. is_kept c.args.noted.now i) (length c.args.rows.now) t (omega arith)
    (c.requires.tool (and_second (nat_eq (length c.args.noted.now) 0) c.args.palm_tool both)) kept)
