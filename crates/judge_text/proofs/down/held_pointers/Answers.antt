use Rattle.std.proofs.Common.{arith, ap, ◌∙◌, Vec, Global}
use Rattle.std.proofs.lemmas.Bool.{false≢true}
use Rattle.judge_text.specs.declared.down.HeldIds.{HeldIds}
use Rattle.gesture_verifier.specs.Told.{state_of}
use Rattle.judge_text.proofs.Downs.{none_more, one_more}
use Rattle.judge_text.proofs.down.held_pointers.Goals as goal
use Rattle.judge_text.proofs.down.held_pointers.Goals.{in-Some+then-count-gt0+in_ok-push, in-Some+else-count-gt0, in_default}

pub loop-number-preserved : goal.loop-number-preserved
loop-number-preserved c =
    elim c.match-new.branch [
      | in-Some+then-count-gt0+in_ok-push w ↦ one_more (state_of c.args.verifier.now).ids c.loop-number.number w.in-Some.device w.ids_down-ids.result c.loop-number.held.items _ w.in-Some.ensures.value w.ids_down-ids.ensures (omega (arith, w.count.ensures, w.if-count-gt0.true)) c.loop-number.invariant (ap (λ (v : Vec HeldIds Global). v.items) w.held-is ∙ w.in_ok-push.ensures.items)
      | in-Some+else-count-gt0 w ↦ none_more (state_of c.args.verifier.now).ids c.loop-number.number w.in-Some.device w.ids_down-ids.result c.loop-number.held.items _ w.in-Some.ensures.value w.ids_down-ids.ensures (omega (arith, w.count.ensures, w.if-count-gt0.false)) c.loop-number.invariant (ap (λ (v : Vec HeldIds Global). v.items) w.held-is)
      | in_default w ↦ absurd (false≢true (w.in_default.ensures.variant.1 (omega arith, omega (arith, c.loop-number-test.true))))
    ]
