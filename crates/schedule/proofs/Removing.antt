-- A run that drains a channel: its lines grow, its messages are released and counted.
use Rattle.std.proofs.Common.{◌≡◌, ◌⊎◌, ℕ, ◌+◌, ◌-◌, ◌≤◌, ◌==◌, min, true, false, cond, List, ◌++◌, length, reverse, drop, sym, ap, ◌∙◌, subst, inl, inr, arith}
use Rattle.std.proofs.lemmas.Bool.{cases_eq, eq-eqb, ne_eqb}
use Rattle.std.proofs.lemmas.List.{length-reverse, take_all}
use Rattle.input_types.specs.declared.message.Message.{Message}
use Rattle.dispatch_history.specs.History.{opened}
use Rattle.dispatch_history.specs.Effect.{Effect, past_of, stream}
use Rattle.dispatch_history.specs.Plan.{Plan}
use Rattle.dispatcher.specs.Access.{gone, anrs_released, is_opened}
use Rattle.dispatcher.specs.Dispatching.{Dispatching, IsAfter}
use Rattle.stream_text.specs.Spelling.{message_lines}
use Rattle.schedule.specs.declared.keeping.Lines.{Lines}
use Rattle.schedule.specs.Draining.{WithMore}
use Rattle.schedule.specs.Lines.{lines_at, lines_first}
use Rattle.schedule.specs.Released.{released}
use Rattle.schedule.specs.State.{ScheduleState, HasWith}
use Rattle.schedule.proofs.Counting.{opened_bounds}
use Rattle.schedule.proofs.Released.{sum_one}
use Rattle.schedule.proofs.Releases.{gone_few}
use Rattle.schedule.proofs.Written.{lines_split}

-- all of a channel whose lines are all there
pub drains : (how : Lines) (plan : Plan) (es : List Effect) (s : ScheduleState) (d : Dispatching) (lines : List (List ℕ)) (c count messages : ℕ) → HasWith how plan es s
    → is_opened es c ≡ true
    → count ≡ length (stream es c) - gone s.dispatcher c
    → messages ≡ min (s.messages + count) 18446744073709551615
    → WithMore (message_lines (drop (gone s.dispatcher c) (reverse (stream es c)))) c s.lines lines
    → IsAfter es d → d.displays ≡ s.dispatcher.displays
    → gone d c ≡ length (stream es c)
    → ((k : ℕ) → 1 ≤ k → (k == c) ≡ false → gone d k ≡ gone s.dispatcher k)
    → anrs_released d ≡ anrs_released s.dispatcher
    → HasWith how plan es (record s { dispatcher = d; lines = lines; messages = messages })
drains how plan es s d lines c count messages h there_is left total more after same own others named =
    record {
      stands = after;
      displays_are = same ∙ h.displays_are;
      noted = named ∙ h.noted;
      drained = λ k low high. by_number k low (subst (λ n. k ≤ n) more.0 high) (cases_eq k c);
      as_many = more.0 ∙ h.as_many;
      causes_are = h.causes_are;
      next_is = h.next_is;
      calls_are = h.calls_are;
      released_are = omega (arith, total, h.released_are, all_counted);
    }
  where
    all_counted : released es d ≡ released es s.dispatcher + count
    all_counted =
        let at = opened_bounds es c there_is in
        let few = gone_few es s.dispatcher c h.stands at.0 in
        sum_one (gone s.dispatcher) (gone d) c count (opened (past_of es)) at.0 at.1 (omega (arith, own, left, few)) (λ k low ne. others k low (ne_eqb k c ne))

    outgoing : List Message
    outgoing = reverse (stream es c)

    g : ℕ
    g = gone s.dispatcher c

    -- its lines are those of the whole stream
    here : 1 ≤ c → c ≤ length s.lines → lines_at s.lines c ++ message_lines (drop g outgoing) ≡ lines_first es c (gone d c)
    here low high =
        let all : length (reverse (stream es c)) ≤ gone d c = omega (arith, own, length-reverse (stream es c)) in
        ap (λ ls. ls ++ message_lines (drop g outgoing)) (h.drained c low high)
        ∙ lines_split g outgoing
        ∙ ap message_lines (sym (take_all (gone d c) outgoing all))

    by_number : (k : ℕ) → 1 ≤ k → k ≤ length s.lines → (k ≡ c) ⊎ (k ≡ c → ⊥) → lines_at lines k ≡ lines_first es k (gone d k)
    by_number k low high (inl e) =
        more.1 k low high
        ∙ ap (λ b. cond b (lines_at s.lines k ++ message_lines (drop g outgoing)) (lines_at s.lines k)) (eq-eqb k c e)
        ∙ subst (λ n. 1 ≤ n → n ≤ length s.lines → lines_at s.lines n ++ message_lines (drop g outgoing) ≡ lines_first es n (gone d n)) (sym e) here low high
    by_number k low high (inr ne) =
        more.1 k low high
        ∙ ap (λ b. cond b (lines_at s.lines k ++ message_lines (drop g outgoing)) (lines_at s.lines k)) (ne_eqb k c ne)
        ∙ h.drained k low high
        ∙ ap (λ n. lines_first es k n) (sym (others k low (ne_eqb k c ne)))
