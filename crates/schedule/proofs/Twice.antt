-- A run that explains no causes, with two calls more.
use Rattle.std.proofs.Common.{◌≡◌, ℕ, ◌+◌, false, List, Option, Some, None, is_some, refl, ◌∙◌, arith}
use Rattle.std.specs.Prelude.{option_map}
use Rattle.dispatch_calls.specs.declared.call.Call.{Call}
use Rattle.dispatch_calls.specs.declared.reply.Reply.{Reply}
use Rattle.dispatch_history.specs.Effect.{Effect, past_of}
use Rattle.dispatch_history.specs.Effects.{step}
use Rattle.dispatch_history.specs.Legal.{answered}
use Rattle.dispatch_history.specs.Ordered.{is_scripted, scripted}
use Rattle.dispatch_history.specs.Plan.{Plan}
use Rattle.dispatcher.specs.Answered.{StepsTwice}
use Rattle.dispatcher.specs.Dispatching.{Dispatching, IsAfter}
use Rattle.dispatcher.proofs.Made.Following.{known_so}
use Rattle.schedule.specs.declared.keeping.Lines.{Lines}
use Rattle.schedule.specs.Causes.{Applies, and_more}
use Rattle.schedule.specs.Kinds.{is_receiving}
use Rattle.schedule.specs.More.{ComesTo}
use Rattle.schedule.specs.State.{ScheduleState, HasWith, counted}
use Rattle.schedule.proofs.More.{one_more}
use Rattle.schedule.proofs.Stepping.{has_step}

-- no text is none
pub none_mapped : {X Y : Type 0} (o : Option X) (f : X → Y) → is_some o ≡ false → option_map f o ≡ None
none_mapped None f e = refl
none_mapped (Some x) f e = absurd (cc e)

pub no_more : (o : Option (List ℕ)) (more : List ℕ) → o ≡ None → o ≡ and_more more o
no_more None more e = refl
no_more (Some text) more e = absurd (cc e)

-- a call is answered where there is no text of causes
pub quietly : (call : Call) (es : List Effect) (ds : List ℕ) (old new : Option (List ℕ)) (d : Dispatching) → old ≡ None → new ≡ old
    → (answer : Reply) × IsAfter (step ds call answer es) d → Applies call es ds old new d
quietly call es ds old new d none same there = record { answer = there.0; stands = there.1; causes = same ∙ no_more old _ none }

pub has_two : (how : Lines) (plan : Plan) (es : List Effect) (s t : ScheduleState) (first second : Call)
    → HasWith how plan es s → StepsTwice first second s.dispatcher t.dispatcher → s.causes ≡ None
    → is_receiving first ≡ false → is_receiving second ≡ false → is_scripted first ≡ 0 → is_scripted second ≡ 0
    → t.causes ≡ s.causes → t.lines ≡ s.lines → t.next ≡ s.next → t.messages ≡ s.messages → t.calls ≡ counted (s.calls + 2)
    → HasWith how plan (answered plan.displays second (answered plan.displays first es)) t
has_two how plan es s t first second h two none takes takes_then made made_then causes lines next messages calls =
    let one = answered plan.displays first es in
    let mid : ScheduleState = record s { dispatcher = two.between; calls = counted (s.calls + 1) } in
    let next_mid : s.next ≡ is_scripted first + scripted (past_of es) = omega (arith, h.next_is, made) in
    let has : HasWith how plan one mid =
    has_step how plan es s mid h two.first_made.displays_are two.first_made.gone_are two.first_made.anrs_are refl first
    (quietly first es s.dispatcher.displays s.causes s.causes two.between none refl (known_so first s.dispatcher two.between two.first_made es h.stands)) takes
    refl next_mid
    refl in
    let next_then : t.next ≡ is_scripted second + scripted (past_of one) = omega (arith, next, has.next_is, made_then) in
    let calls_then : t.calls ≡ counted (counted (s.calls + 1) + 1) = omega (arith, calls) in
    has_step how plan one mid t has two.second_made.displays_are two.second_made.gone_are two.second_made.anrs_are messages second
    (quietly second one two.between.displays s.causes t.causes t.dispatcher none causes (known_so second two.between t.dispatcher two.second_made one has.stands))
    takes_then lines next_then
    calls_then

-- nothing that was done is lost
pub two_more : (es : List Effect) (d later : Dispatching) (first second : Call) → StepsTwice first second d later → ComesTo es d → ComesTo es later
two_more es d later first second two k =
    one_more es two.between later second two.second_made.displays_are (known_so second two.between later two.second_made)
    (one_more es d two.between first two.first_made.displays_are (known_so first d two.between two.first_made) k)
