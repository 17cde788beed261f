-- A slot is said where it is another one than the current slot, and has changes.
use mir.Val.{to_z}
use mir.Syntax.{w32}
use Rattle.std.specs.Prelude.{◌≡◌, ℕ, ◌+◌, ◌<◌, pos, List, ◌∷◌, length, drop}
use Rattle.std.proofs.Common.{sym, ◌∙◌, ap, refl, arith}
use Rattle.std.proofs.lemmas.Int.{to_z_pos}
use Rattle.touch_writer.specs.declared.place.Place.{Place}
use Rattle.touch_writer.specs.Packet.{last_slot, others}
use Rattle.touch_writer.specs.Draft.{with_changes}
use Rattle.touch_writer.proofs.Lists.{drop_item, same_item, nothing_left}
use Rattle.touch_writer.proofs.Said.{said_step, said_room, pushed_room, unsaid, last_stays, last_moves, none_left, last_left}
use Rattle.touch_writer.proofs.packet.say_others.Goals.{then-has_turn, else-has_turn}
use Rattle.touch_writer.proofs.packet.say_others.Goals as goal

pub loop-slot-init : goal.loop-slot-init
loop-slot-init c = record { events = refl; last = refl; room = omega arith }

pub push-requires : goal.push-requires
push-requires c = omega (arith, c.loop-slot.invariant.room, c.requires.room, c.loop-slot-test.true)

pub say_changes-requires : goal.say_changes-requires
say_changes-requires c =
    omega (arith, pushed_room c.loop-slot.draft c.push.new.self (to_z w32 c.loop-slot.slot) c.push.ensures, c.loop-slot.invariant.room, c.requires.room, c.loop-slot-test.true)

pub loop-slot-preserved : goal.loop-slot-preserved
loop-slot-preserved c =
    let s : ℕ = c.loop-slot.slot in
    let p : Place = c.index-old-slot.result in
    let q : Place = c.index-new-slot.result in
    let ps : List Place = drop (s + 1) c.args.old.now in
    let qs : List Place = drop (s + 1) c.args.new.now in
    let in_new : s < length c.args.new.now = omega (arith, c.loop-slot-test.true, c.requires.slots) in
    let old : drop s c.args.old.now ≡ p ∷ ps = drop_item c.args.old.now s p c.loop-slot-test.true c.index-old-slot.is in
    let new : drop s c.args.new.now ≡ q ∷ qs = drop_item c.args.new.now s q in_new c.index-new-slot.is in
    let events : with_changes c.loop-slot.draft (others c.args.current s (p ∷ ps) (q ∷ qs)) ≡ with_changes c.args.draft.now (others c.args.current 0 c.args.old.now c.args.new.now)
    = ap (λ xs. with_changes c.loop-slot.draft (others c.args.current s xs (q ∷ qs))) (sym old)
    ∙ ap (λ xs. with_changes c.loop-slot.draft (others c.args.current s (drop s c.args.old.now) xs)) (sym new)
    ∙ c.loop-slot.invariant.events in
    let last : last_slot c.loop-slot.last c.args.current s (p ∷ ps) (q ∷ qs) ≡ last_slot c.args.current c.args.current 0 c.args.old.now c.args.new.now
    = ap (λ xs. last_slot c.loop-slot.last c.args.current s xs (q ∷ qs)) (sym old)
    ∙ ap (λ xs. last_slot c.loop-slot.last c.args.current s (drop s c.args.old.now) xs) (sym new)
    ∙ c.loop-slot.invariant.last in
    elim c.if-has_turn.branch [
      | then-has_turn w ↦
          let low : to_z w32 s ≡ pos s = to_z_pos w32 s (omega (arith, c.requires.room, c.loop-slot-test.true)) in
          let p2 : Place = w.index-old-slot-then-has_turn.result in
          let q2 : Place = w.index-new-slot-then-has_turn.result in
          let same_p : p2 ≡ p = same_item c.args.old.now s p2 p c.loop-slot-test.true w.index-old-slot-then-has_turn.is c.index-old-slot.is in
          let same_q : q2 ≡ q = same_item c.args.new.now s q2 q in_new w.index-new-slot-then-has_turn.is c.index-new-slot.is in
          rw (w.draft-is, w.last-is) (record {
            events = said_step c.loop-slot.draft w.push.new.self w.say_changes.new.draft c.args.current s (to_z w32 s) p q p2 q2 ps qs low same_p same_q
                (sym c.has_turn.ensures ∙ w.if-has_turn.true) w.push.ensures w.say_changes.ensures ∙ events;
            last = sym (last_moves c.loop-slot.last c.args.current s p q ps qs (sym c.has_turn.ensures ∙ w.if-has_turn.true)) ∙ last;
            room = omega (arith, said_room c.loop-slot.draft w.push.new.self w.say_changes.new.draft (to_z w32 s) p2 q2 w.push.ensures w.say_changes.ensures, c.loop-slot.invariant.room);
          })
      | else-has_turn w ↦
          rw (w.draft-is, w.last-is) (record {
            events = sym (unsaid c.loop-slot.draft c.args.current s p q ps qs (sym c.has_turn.ensures ∙ w.if-has_turn.false)) ∙ events;
            last = sym (last_stays c.loop-slot.last c.args.current s p q ps qs (sym c.has_turn.ensures ∙ w.if-has_turn.false)) ∙ last;
            room = omega (arith, c.loop-slot.invariant.room);
          })
    ]

pub returns-clause-events : goal.returns-clause-events
returns-clause-events c =
    sym (none_left c.loop-slot.draft c.args.current c.loop-slot.slot (drop c.loop-slot.slot c.args.old.now) (drop c.loop-slot.slot c.args.new.now)
    (nothing_left c.args.old.now c.loop-slot.slot c.loop-slot-test.false))
    ∙ c.loop-slot.invariant.events

pub returns-clause-last : goal.returns-clause-last
returns-clause-last c =
    sym (last_left c.loop-slot.last c.args.current c.loop-slot.slot (drop c.loop-slot.slot c.args.old.now) (drop c.loop-slot.slot c.args.new.now)
    (nothing_left c.args.old.now c.loop-slot.slot c.loop-slot-test.false))
    ∙ c.loop-slot.invariant.last
