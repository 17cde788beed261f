-- The next pointer comes behind those with lower ids, of which there are fewer than fingers.
use Rattle.std.specs.Prelude.{◌≡◌, length}
use Rattle.std.proofs.Common.{arith, sym, ◌∙◌, ap}
use Rattle.device_reader.specs.PointerIds.PointerIds.{by_id, assigned}
use Rattle.device_reader.proofs.PointerIds.RisingId.{all_listed, room_next, rises_next}
use Rattle.device_reader.proofs.pointer_ids.ids.put_by_id.Goals as goal

pub push-requires-clause-room : goal.push-requires-clause-room
push-requires-clause-room c =
    rw c.loop-id.invariant.listed (room_next c.loop-id.id c.args.named.now c.in-Some.finger c.requires.few (sym c.with_id.ensures ∙ c.in-Some.is))

pub push-requires-clause-rises : goal.push-requires-clause-rises
push-requires-clause-rises c =
    rw (c.loop-id.invariant.listed, c.pointer.ensures) (rises_next c.loop-id.id c.args.named.now c.in-Some.finger (sym c.with_id.ensures ∙ c.in-Some.is))

pub returns-clause-pointers : goal.returns-clause-pointers
unfolding assigned
returns-clause-pointers c =
    let last : c.loop-id.id ≡ 32 = omega arith in c.loop-id.invariant.listed ∙ ap (λ i. by_id i c.args.named.now) last

pub returns-then-len-named-clause-pointers : goal.returns-then-len-named-clause-pointers
unfolding assigned
returns-then-len-named-clause-pointers c =
    c.loop-id.invariant.listed ∙ all_listed c.loop-id.id c.args.named.now (omega arith)
    (ap (λ hs. length hs) (sym c.loop-id.invariant.listed) ∙ sym c.len.ensures.value ∙ c.if-len-named.true)
