-- One more event, and all events.
use Rattle.std.proofs.Common.{◌≡◌, ◌∙◌, List, ◌∷◌, ◌++◌, ap, sym, subst, length, reverse, arith, []}
use Rattle.std.proofs.lemmas.List.{append-nil, append_assoc, reverse-append, reverse-reverse}
use Rattle.raw_events.specs.declared.event.RawEvent.{RawEvent}
use Rattle.schedule.specs.declared.keeping.Lines.TheVariants.{Counted}
use Rattle.schedule.specs.State.{RanWith, counted}
use Rattle.workload_maker.specs.Making.{left_of}
use Rattle.command_files.specs.Planned.{given, script_of}
use Rattle.command_answers.proofs.work.run_events.Goals as goal

pub loop-event-preserved : goal.loop-event-preserved
loop-event-preserved c =
    let h = c.loop-event.invariant in
    let event : RawEvent = c.in-Some.event in
    let left : left_of c.loop-event.event-iterator ≡ event ∷ left_of c.next.new.self = c.in-Some.ensures.steps in
    record {
      past = event ∷ h.past;
      all = ap (λ (es : List RawEvent). es ++ left_of c.next.new.self) (reverse-append (event ∷ []) h.past)
          ∙ append_assoc (reverse h.past) (event ∷ []) (left_of c.next.new.self)
          ∙ ap (λ (es : List RawEvent). reverse h.past ++ es) (sym left)
          ∙ h.all;
      runs = λ p run stand ran.
          let before = h.runs p run stand ran in
          let after = c.in_ok-run_event.ensures.ran Counted p h.past run before.0 before.1 in
          let count = c.in_ok-run_event.ensures.count p h.past before.0 in
          (after.0, after.1, omega (arith, c.saturating_add-count.ensures, c.len.ensures, count, before.2));
    }

pub returns-clause-ran : goal.returns-clause-ran
returns-clause-ran c = λ p run stand ran.
    let h = c.loop-event.invariant in
    let past : h.past ≡ reverse (left_of c.args.events) =
    sym (reverse-reverse h.past) ∙ ap reverse (sym (append-nil (reverse h.past)) ∙ ap (λ (es : List RawEvent). reverse h.past ++ es) (sym c.in-None.ensures.steps.0) ∙ h.all) in
    subst (λ (es : List RawEvent). RanWith Counted (script_of p) (given p es) c.loop-event.schedule) past (h.runs p run stand ran).1

pub returns-clause-count : goal.returns-clause-count
returns-clause-count c = λ p run stand ran.
    let h = c.loop-event.invariant in
    let past : h.past ≡ reverse (left_of c.args.events) =
    sym (reverse-reverse h.past) ∙ ap reverse (sym (append-nil (reverse h.past)) ∙ ap (λ (es : List RawEvent). reverse h.past ++ es) (sym c.in-None.ensures.steps.0) ∙ h.all) in
    subst (λ (es : List RawEvent). c.loop-event.count ≡ counted (length (given p es))) past (h.runs p run stand ran).2
