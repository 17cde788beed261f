use Rattle.std.proofs.Common.{◌≡◌, ◌<◌, ℕ, Bool, not, ◌&&◌, ◌==◌, arith, ap, sym, ◌∙◌, ◌++◌, List, length}
use Rattle.std.proofs.Math.Path.{fun_ext}
use Rattle.input_types.specs.declared.motion.Motion.{Motion}
use Rattle.input_types.specs.declared.pointer.Pointer.{Pointer}
use Rattle.bits32.specs.Set.{is_in}
use Rattle.routing_rules.specs.Outgoing.{listing, cancelled_ups}
use Rattle.route_plain.specs.Route.{to_channel}
use Rattle.route_plain.proofs.Left.{and_comm}
use Rattle.route_plain.proofs.Sayings.{up_sent, up_passed, say_more}
use Rattle.route_plain.proofs.sending.send_ups.Goals as goal
use Rattle.route_plain.proofs.sending.send_ups.Goals.{then-is_lost+in_ok-say, else-is_lost}

pub loop-pointer-preserved : goal.loop-pointer-preserved
loop-pointer-preserved c =
    let lost : ℕ → Bool = λ i. is_in i c.args.held.now.before && not (is_in i c.args.held.now.later) in
    let last : List Pointer = c.args.last.now in
    let ids : ℕ → Bool = λ i. is_in i c.loop-pointer.ids in
    let k = c.loop-pointer.pointer-index in
    let p : Pointer = c.pointer-item.result in
    let lt : k < length last = omega (arith, c.loop-pointer-test.true, ap length c.as_slice-pointer-items.ensures.value) in
    let here = rw c.as_slice-pointer-items.ensures.value at c.pointer-item.is in
    let out = c.loop-pointer.out.items in
    elim c.if-is_lost.branch [
      | then-is_lost+in_ok-say w ↦
          let left : ℕ → Bool = λ i. is_in i w.clear.new.self in
          let less : left ≡ (λ j. ids j && not (j == p.id)) =
          fun_ext (λ j. w.clear.ensures.has j ∙ ap (λ (n : ℕ). not (j == n) && ids j) w.get.ensures.value ∙ and_comm (not (j == p.id)) (ids j)) in
          rw (w.out-is, w.ids-is, w.in_ok-say.ensures, w.about-up.ensures, w.listing-left.ensures)
          (say_more out c.args.channel _ _
          ∙ ap (λ (ms : List Motion). out ++ to_channel c.args.channel ms)
          (sym (up_sent c.args.device ids left lost last k p lt here (sym c.is_lost.ensures ∙ w.if-is_lost.true) less))
          ∙ c.loop-pointer.invariant)
      | else-is_lost w ↦
          rw (w.out-is, w.ids-is)
          (ap (λ (xs : List Pointer). out ++ to_channel c.args.channel (cancelled_ups c.args.device (listing ids last) xs))
          (sym (up_passed lost last k p lt here (sym c.is_lost.ensures ∙ w.if-is_lost.false)))
          ∙ c.loop-pointer.invariant)
    ]
