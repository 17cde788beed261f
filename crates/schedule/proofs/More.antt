-- What a run comes to with one call more, and once messages are released.
use Rattle.std.proofs.Common.{◌≡◌, ◌≤◌, ℕ, List, [], ◌∷◌, ◌++◌, Result, refl, sym, ap, ◌∙◌, subst}
use Rattle.dispatch_calls.specs.declared.call.Call.{Call}
use Rattle.dispatch_calls.specs.declared.reply.Reply.{Reply}
use Rattle.dispatch_history.specs.Effect.{Effect}
use Rattle.dispatch_history.specs.Effects.{step}
use Rattle.dispatch_history.specs.Ordered.{extend}
use Rattle.dispatcher.specs.Dispatching.{Dispatching, IsAfter}
use Rattle.dispatcher.specs.DispatchTables.Lawful.{Lawful}
use Rattle.dispatcher.proofs.DispatchTables.Lawfuls.{lawful_last}
use Rattle.why_lines.specs.Explaining.{MakesAsSaid}
use Rattle.why_lines.specs.declared.error.OutOfMemory.{OutOfMemory}
use Rattle.why_lines.proofs.Making.{as_said}
use Rattle.dispatcher.specs.Access.{anrs_released, gone}
use Rattle.dispatcher.specs.Answered.{StepsOn}
use Rattle.dispatcher.proofs.Made.Following.{known_so}
use Rattle.schedule.specs.More.{ComesTo}
use Rattle.schedule.specs.Making.{GoesOnAt, KeepsMessages}
use Rattle.schedule.specs.State.{ScheduleState}
use Rattle.schedule.proofs.Receiving.{extend_append}

pub one_more : (es : List Effect) (d later : Dispatching) (call : Call) → later.displays ≡ d.displays
    → ((fs : List Effect) → IsAfter fs d → (answer : Reply) × IsAfter (step d.displays call answer fs) later) → ComesTo es d → ComesTo es later
one_more es d later call same goes k =
    let there = goes (extend d.displays es k.calls) k.stands in
    let answer = there.0 in
    let stands = there.1 in
    let l : Lawful d.displays (step d.displays call answer (extend d.displays es k.calls)) =
    subst (λ ds. Lawful ds (step d.displays call answer (extend d.displays es k.calls))) same stands.lawful in
    record {
      calls = k.calls ++ call ∷ [];
      stands =
          subst (λ gs. IsAfter gs later)
          (ap (λ a. step d.displays call a (extend d.displays es k.calls)) (lawful_last d.displays call answer (extend d.displays es k.calls) l).0
          ∙ sym (extend_append d.displays es k.calls (call ∷ []))
          ∙ ap (λ ds. extend ds es (k.calls ++ call ∷ [])) (sym same))
          stands;
    }

pub same_more : (es : List Effect) (d later : Dispatching) → later.displays ≡ d.displays
    → ((fs : List Effect) → IsAfter fs d → IsAfter fs later) → ComesTo es d → ComesTo es later
same_more es d later same goes k =
    record {
      calls = k.calls;
      stands = subst (λ ds. IsAfter (extend ds es k.calls) later) (sym same) (goes (extend d.displays es k.calls) k.stands);
    }

-- a call that was made, or was not
pub made_more : {A : Type 0} (r : Result A OutOfMemory) (es : List Effect) (d later : Dispatching) (call : Call) → MakesAsSaid r call d later → ComesTo es d → ComesTo es later
made_more r es d later call made k =
    as_said r call d later (ComesTo es) made k (λ steps. one_more es d later call steps.displays_are (known_so call d later steps) k)

-- made or not, a call keeps the displays, what each channel released, and the ANRs
pub displays_stay : {A : Type 0} (r : Result A OutOfMemory) (call : Call) (old new : Dispatching) → MakesAsSaid r call old new → new.displays ≡ old.displays
displays_stay r call old new made = as_said r call old new (λ d. d.displays ≡ old.displays) made refl (λ s. s.displays_are)

pub gone_stays : {A : Type 0} (r : Result A OutOfMemory) (call : Call) (old new : Dispatching) → MakesAsSaid r call old new
    → (c : ℕ) → 1 ≤ c → gone new c ≡ gone old c
gone_stays r call old new made = as_said r call old new (λ d. (c : ℕ) → 1 ≤ c → gone d c ≡ gone old c) made (λ c low. refl) (λ s. s.gone_are)

pub anrs_stay : {A : Type 0} (r : Result A OutOfMemory) (call : Call) (old new : Dispatching) → MakesAsSaid r call old new
    → anrs_released new ≡ anrs_released old
anrs_stay r call old new made = as_said r call old new (λ d. anrs_released d ≡ anrs_released old) made refl (λ s. s.anrs_are)

-- a run that goes on twice goes on
pub goes_twice : {a b d : ScheduleState} → GoesOnAt b d → GoesOnAt a b → GoesOnAt a d
goes_twice g f = record { on = λ es k. g.on es (f.on es k); latest = g.latest ∙ f.latest }

-- the dispatcher of a run answered a call
pub stepped : (call : Call) (inside old new : ScheduleState) → inside ≡ old → new.latest ≡ inside.latest → StepsOn call inside.dispatcher new.dispatcher
    → KeepsMessages old new
stepped call inside old new is same made =
    record {
      gone = λ c low. made.gone_are c low ∙ ap (λ (s : ScheduleState). gone s.dispatcher c) is;
      more = record {
        on = λ es k.
            one_more es inside.dispatcher new.dispatcher call made.displays_are (known_so call inside.dispatcher new.dispatcher made)
            (subst (λ (s : ScheduleState). ComesTo es s.dispatcher) (sym is) k);
        latest = same ∙ ap (λ (s : ScheduleState). s.latest) is;
      };
    }

-- the dispatcher of a run stayed as it was
pub stayed : (inside old new : ScheduleState) → inside ≡ old → new.latest ≡ inside.latest → new.dispatcher ≡ inside.dispatcher → KeepsMessages old new
stayed inside old new is same stays =
    record {
      gone = λ c low. ap (λ d. gone d c) stays ∙ ap (λ (s : ScheduleState). gone s.dispatcher c) is;
      more = record {
        on = λ es k. subst (ComesTo es) (sym stays) (subst (λ (s : ScheduleState). ComesTo es s.dispatcher) (sym is) k);
        latest = same ∙ ap (λ (s : ScheduleState). s.latest) is;
      };
    }
