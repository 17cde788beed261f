-- One channel more, and all of them.
use Rattle.std.proofs.Common.{◌≡◌, ◌+◌, ◌∙◌, length, sym, ap, subst, inl, inr, arith}
use Rattle.std.proofs.lemmas.Bool.{cases_eq, ne_eqb}
use Rattle.dispatch_history.specs.Effect.{past_of, stream}
use Rattle.dispatch_history.specs.History.{opened}
use Rattle.dispatcher.specs.Access.{gone}
use Rattle.schedule.specs.State.{HasWith, counted}
use Rattle.schedule.proofs.Counting.{opened_between}
use Rattle.schedule.proofs.More.{goes_twice}
use Rattle.schedule.proofs.Released.{sum_low}
use Rattle.schedule.proofs.schedule.Schedule.drain_sent.Goals as goal

pub loop-place-preserved : goal.loop-place-preserved
loop-place-preserved c =
    record {
      has = λ how plan es h. c.in_ok-drain.ensures.after how plan es (c.loop-place.invariant.has how plan es h);
      all = λ how plan es h k low high.
          let start = subst (HasWith how plan es) (sym c.self.view_is) h in
          let count = c.opened-place-end.ensures.value es start.stands in
          let there_is = opened_between es (c.loop-place.place + 1) (omega arith) (omega (arith, count, c.loop-place-test.true)) in
          elim (cases_eq k (c.loop-place.place + 1)) [
            | inl e ↦ subst (λ n. gone c.drain.new.self.dispatcher n ≡ length (stream es n)) (sym e)
                (c.in_ok-drain.ensures.all how plan es (c.loop-place.invariant.has how plan es h) there_is)
            | inr ne ↦ c.drain.ensures.others k low (ne_eqb k (c.loop-place.place + 1) ne)
                ∙ c.loop-place.invariant.all how plan es h k low (omega (arith, high, ne))
          ];
      calls = c.drain.ensures.calls ∙ c.loop-place.invariant.calls;
      messages = omega (arith, c.loop-place.invariant.messages, c.drain.ensures.messages);
      more = goes_twice c.drain.ensures.more c.loop-place.invariant.more;
    }

pub returns-clause-counted : goal.returns-clause-counted
returns-clause-counted c = λ how plan es h.
    let start = subst (HasWith how plan es) (sym c.self.view_is) h in
    let count = c.opened-place-end.ensures.value es start.stands in
    let done : c.loop-place.place ≡ c.opened-place-end.result = omega (arith, c.loop-place-test.false, c.loop-place.auto.place-end) in
    let has = c.loop-place.invariant.has how plan es h in
    has.released_are
    ∙ ap counted
    (sum_low (gone c.loop-place.self.dispatcher) (λ k. length (stream es k)) (opened (past_of es))
    (λ k low high. c.loop-place.invariant.all how plan es h k low (omega (arith, high, done, count))))
