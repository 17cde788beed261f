-- What is due was done.
use Rattle.std.proofs.Common.{◌≡◌, ◌∙◌, ◌≤◌, Some, sym, ap, subst, arith}
use Rattle.std.specs.Prelude.{option_map}
use Rattle.dispatch_history.specs.History.{moment_of}
use Rattle.dispatch_history.specs.Ordered.{soonest, round}
use Rattle.schedule.specs.DueView.{call_of, candidate_of}
use Rattle.schedule.specs.Handing.{single}
use Rattle.schedule.specs.Next.{fore}
use Rattle.schedule.specs.State.{ReadyWith}
use Rattle.schedule.proofs.Advancing.{due_plain, due_single, advances}
use Rattle.schedule.proofs.schedule.Schedule.advance_due.Goals as goal

pub returns-clause-after : goal.returns-clause-after
returns-clause-after c = λ how plan es r first.
    let t = c.in-Some.due.moment in
    let what = c.in-Some.due.what in
    let at : c.unwrap-at.result ≡ c.in-Some.due.moment = rw c.unwrap-at.ensures at c.new.ensures.value in
    let due : soonest (fore plan es) ≡ Some (single (call_of t what)) = first ∙ ap (option_map candidate_of) c.in-Some.is ∙ ap Some (sym (due_single t what)) in
    let moment : moment_of (call_of t what) ≡ t = ap (λ k. k.moment) (due_single t what) in
    let le : moment_of (call_of t what) ≤ c.args.until = omega (arith, moment, c.if-get-due.false, c.get.ensures.value) in
    advances how plan es _ _ c.args.until (call_of t what) r (due_plain t what) due le
    (subst (λ m. ReadyWith how plan (round plan es (single (call_of m what))) c.due_round.new.self) at (c.in_ok-due_round.ensures.after how plan es r))
