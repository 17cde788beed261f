-- The row of the current slot is written, and the contact of the slot goes where it says.
use Rattle.std.specs.Prelude.{set}
use Rattle.std.proofs.Common.{arith, refl, ◌∙◌, subst, length-set, ne_eqb}
use Rattle.device_reader.specs.declared.slot_accumulator.slots.Row.{Row}
use Rattle.device_reader.specs.declared.slot_accumulator.change.Change.TheVariants.{Position}
use Rattle.device_reader.specs.SlotAccumulator.Changes.{Changes}
use Rattle.device_reader.specs.SlotAccumulator.Table.{Table}
use Rattle.device_reader.proofs.SlotAccumulator.Moving.{written_changes}
use Rattle.device_reader.proofs.SlotAccumulator.ToolTypes.{tool_written}
use Rattle.device_reader.proofs.slot_accumulator.slots.Slots.write.Goals as goal

pub invariant_of-self-then-event-eq-ABS_MT_TRACKING_ID :
    goal.invariant_of-self-then-event-eq-ABS_MT_TRACKING_ID
invariant_of-self-then-event-eq-ABS_MT_TRACKING_ID c = (
  record {
    some = c.self.invariant.0.some;
    within = c.self.invariant.0.within;
    whole = length-set c.self.inside.rows c.in-Some.at c.written-row.result ∙ c.self.invariant.0.whole;
  },
  tool_written c.self.inside.rows c.in-Some.at c.written-row.result c.args.event.now.code c.args.event.now.value c.self.inside.palm_tool c.tool_after-self-inside.result
      (omega (arith, c.in-Some.ensures.0, c.self.invariant.0.whole)) c.written-row.ensures c.self.invariant.1 c.tool_after-self-inside.ensures,
)

pub invariant_of-self-in-Some : goal.invariant_of-self-in-Some
invariant_of-self-in-Some c = (
  record {
    some = c.self.invariant.0.some;
    within = c.self.invariant.0.within;
    whole = length-set c.self.inside.rows c.in-Some.at c.written-row.result ∙ c.self.invariant.0.whole;
  },
  tool_written c.self.inside.rows c.in-Some.at c.written-row.result c.args.event.now.code c.args.event.now.value c.self.inside.palm_tool c.tool_after-self-inside.result
      (omega (arith, c.in-Some.ensures.0, c.self.invariant.0.whole)) c.written-row.ensures c.self.invariant.1 c.tool_after-self-inside.ensures,
)

pub returns-in-Some-clause-change : goal.returns-in-Some-clause-change
returns-in-Some-clause-change c =
    let at = c.in-Some.at in
    let r : Row = c.written-row.result in
    subst
    (λ (t : Table). Changes (Position at) t
    (record { slots = c.self.inside.slots; current = c.self.inside.current; rows = set c.self.inside.rows at r; palms = c.self.inside.palms }))
    c.self.view_is
    (written_changes c.self.inside.slots c.self.inside.current c.self.inside.rows c.self.inside.palms at r c.args.event.now.code c.args.event.now.value c.in-Some.ensures.0
    c.self.invariant.0.whole (ne_eqb c.args.event.now.code 57 c.if-event-eq-ABS_MT_TRACKING_ID.false) c.written-row.ensures)

pub invariant_of-self-then-event-eq-ABS_MT_POSITION_X :
    goal.invariant_of-self-then-event-eq-ABS_MT_POSITION_X
invariant_of-self-then-event-eq-ABS_MT_POSITION_X c = (
  record {
    some = c.self.invariant.0.some;
    within = c.self.invariant.0.within;
    whole = length-set c.self.inside.rows c.in-Some.at c.with_x-row.result ∙ c.self.invariant.0.whole;
  },
  tool_written c.self.inside.rows c.in-Some.at c.with_x-row.result c.args.event.now.code c.args.event.now.value c.self.inside.palm_tool c.self.inside.palm_tool
      (omega (arith, c.in-Some.ensures.0, c.self.invariant.0.whole)) c.with_x-row.ensures c.self.invariant.1 (rw c.if-event-eq-ABS_MT_POSITION_X.true refl),
)

pub returns-then-event-eq-ABS_MT_POSITION_X-clause-change :
    goal.returns-then-event-eq-ABS_MT_POSITION_X-clause-change
returns-then-event-eq-ABS_MT_POSITION_X-clause-change c =
    let at = c.in-Some.at in
    let r : Row = c.with_x-row.result in
    subst
    (λ (t : Table). Changes (Position at) t
    (record { slots = c.self.inside.slots; current = c.self.inside.current; rows = set c.self.inside.rows at r; palms = c.self.inside.palms }))
    c.self.view_is
    (written_changes c.self.inside.slots c.self.inside.current c.self.inside.rows c.self.inside.palms at r c.args.event.now.code c.args.event.now.value c.in-Some.ensures.0
    c.self.invariant.0.whole (rw c.if-event-eq-ABS_MT_POSITION_X.true refl) c.with_x-row.ensures)

pub invariant_of-self-then-event-eq-ABS_MT_POSITION_Y :
    goal.invariant_of-self-then-event-eq-ABS_MT_POSITION_Y
invariant_of-self-then-event-eq-ABS_MT_POSITION_Y c = (
  record {
    some = c.self.invariant.0.some;
    within = c.self.invariant.0.within;
    whole = length-set c.self.inside.rows c.in-Some.at c.with_y-row.result ∙ c.self.invariant.0.whole;
  },
  tool_written c.self.inside.rows c.in-Some.at c.with_y-row.result c.args.event.now.code c.args.event.now.value c.self.inside.palm_tool c.self.inside.palm_tool
      (omega (arith, c.in-Some.ensures.0, c.self.invariant.0.whole)) c.with_y-row.ensures c.self.invariant.1 (rw c.if-event-eq-ABS_MT_POSITION_Y.true refl),
)

pub returns-then-event-eq-ABS_MT_POSITION_Y-clause-change :
    goal.returns-then-event-eq-ABS_MT_POSITION_Y-clause-change
returns-then-event-eq-ABS_MT_POSITION_Y-clause-change c =
    let at = c.in-Some.at in
    let r : Row = c.with_y-row.result in
    subst
    (λ (t : Table). Changes (Position at) t
    (record { slots = c.self.inside.slots; current = c.self.inside.current; rows = set c.self.inside.rows at r; palms = c.self.inside.palms }))
    c.self.view_is
    (written_changes c.self.inside.slots c.self.inside.current c.self.inside.rows c.self.inside.palms at r c.args.event.now.code c.args.event.now.value c.in-Some.ensures.0
    c.self.invariant.0.whole (rw c.if-event-eq-ABS_MT_POSITION_Y.true refl) c.with_y-row.ensures)
