-- Args that are handed in and dispatched at once: between the two steps they would have waited alone.
use Rattle.std.proofs.Common.{◌≡◌, ◌≤◌, ◌-◌, ◌+◌, ℕ, suc, max, true, false, cond, is_some, List, [], ◌∷◌, ◌++◌, slice_get, Option, Some, None, Ok, Err, refl, sym, ap, subst, ◌∙◌, arith}
use Rattle.std.proofs.lemmas.Bool.{true≢false}
use Rattle.input_types.specs.declared.message.Args.{Args}
use Rattle.input_types.specs.DeviceRule.{device_of}
use Rattle.dispatcher.specs.declared.inbound.change.Change.{Change}
use Rattle.dispatcher.specs.declared.inbound.change.Inconsistent.{Inconsistent as Refusal}
use Rattle.dispatcher.specs.InboundArgs.Down.{PlansAt, state_at}
use Rattle.dispatcher.proofs.InboundArgs.Accepting.{says_down}
use Rattle.dispatch_calls.specs.declared.call.Call.TheVariants.{Notify, Pump}
use Rattle.dispatch_calls.specs.declared.reply.Reply.TheVariants.{Taken, Inconsistent, Dispatched}
use Rattle.dispatch_history.specs.Effect.{Effect, past_of}
use Rattle.dispatch_history.specs.PointerOf.{RisesIn}
use Rattle.dispatch_history.specs.Queue.{accepted}
use Rattle.dispatch_history.specs.Reply.{notify_reply, id_bits, is_down}
use Rattle.dispatcher.specs.Access.{any_waits}
use Rattle.dispatcher.specs.Answered.{NeedNotWait, StepsTwice}
use Rattle.dispatcher.specs.Dispatching.{Dispatching, IsOfHistory}
use Rattle.dispatcher.specs.Queue.{Queue, QueueGoes, Passes}
use Rattle.dispatcher.specs.Queueing.{dispatched, with_pumps}
use Rattle.dispatcher.specs.Tables.{GoesOn, GoesThrough, Pumps, TablesStandFor}
use Rattle.dispatcher.specs.declared.tables.Routing.{Routing}
use Rattle.dispatcher.specs.declared.tables.Tables.{Tables}
use Rattle.dispatcher.proofs.Made.Answered.{history_on, makes, steps_on}
use Rattle.dispatcher.proofs.Laws.Answering.{taken_law}
use Rattle.dispatcher.proofs.Made.Applying.{seen}
use Rattle.dispatcher.proofs.Made.Notifying.{accepted_on}
use Rattle.dispatcher.proofs.Laws.Stepped.{dispatched_on, other_pumps}

-- the queue between the two steps
abbrev pub queue_between : (now : ℕ) → Args → (k later : Queue) → Queue
queue_between now a k later = record k { clock = max now k.clock; place = suc k.place; waiting = a ∷ []; down = later.down }

pub none_waits : (ws : List Args) → slice_get ws 0 ≡ None → ws ≡ []
none_waits [] e = refl
none_waits (w ∷ ws) e = absurd (cc e)

-- after the second step it is the later one
pub passes_is : (now : ℕ) (a : Args) (c : Change) (k later : Queue) → Passes now c k later → k.waiting ≡ []
    → with_pumps (k.pumps - 1) (dispatched now (queue_between now a k later)) ≡ later
passes_is now a c k later p none =
    let raised : max now (max now k.clock) ≡ max now k.clock = omega arith in
    let same : with_pumps (k.pumps - 1) (dispatched now (queue_between now a k later))
    ≡ record k { clock = max now k.clock; place = suc (suc k.place); pumps = k.pumps - 1; down = later.down } =
    λ i. record { clock = raised i; place = suc (suc k.place); waiting = sym none i; spare = k.spare; pumps = k.pumps - 1; down = later.down } in
    same ∙ sym p.is

pub through_on : (old : Tables) (later : Queue) (new : Routing) (a : Args) (c : Change) (now place clk : ℕ)
    → slice_get old.queueing.waiting 0 ≡ None → PlansAt old.queueing.down a (Ok c) → (1 ≤ device_of a) × (device_of a ≤ 8) → RisesIn (Notify now a)
    → Passes now c old.queueing later → clk ≡ max now old.queueing.clock → place ≡ old.queueing.place + 1
    → Pumps (Some a) Dispatched place clk old.routing new
    → GoesThrough now a old (record { queueing = later; routing = new })
through_on old later new a c now place clk none plan device rises p time at g =
    let k = old.queueing in
    let mid = queue_between now a k later in
    let empty : k.waiting ≡ [] = none_waits k.waiting none in
    let taken : QueueGoes (Notify now a) Taken k mid =
    record { clock_is = refl; place_is = refl; waiting_is = ap (λ ws. ws ++ a ∷ []) (sym empty); down_is = (c, plan, p.changes) } in
    let time_then : clk ≡ max now mid.clock = omega (arith, time) in
    let at_then : place ≡ mid.place = omega (arith, at) in
    record {
      between = mid;
      notified = accepted_on old mid now a c plan device.0 device.1 rises taken (omega arith);
      pumped =
          subst (λ q. GoesOn (Pump now) Dispatched (record old { queueing = mid }) (record { queueing = q; routing = new }))
          (passes_is now a c k later p empty)
          (other_pumps (Pump now) Dispatched (record old { queueing = mid }) (dispatched now mid) new (k.pumps - 1)
          (dispatched_on (record old { queueing = mid }) (dispatched now mid) new a now place clk refl time_then at_then refl g));
    }

-- the dispatcher made both calls
pub steps_twice : (old new : Tables) (d : Dispatching) (now : ℕ) (a : Args) → seen old ≡ d → GoesThrough now a old new
    → StepsTwice (Notify now a) (Pump now) d (seen new)
steps_twice old new d now a is g =
    let mid : Tables = record old { queueing = g.between } in
    record {
      between = seen mid;
      first_made = steps_on (Notify now a) old mid d is (makes (Notify now a) Taken old mid g.notified);
      second_made = steps_on (Pump now) mid new (seen mid) refl (makes (Pump now) Dispatched mid new g.pumped);
    }

pub history_through : (old new : Tables) (now : ℕ) (a : Args) → GoesThrough now a old new → IsOfHistory (seen old) → IsOfHistory (seen new)
history_through old new now a g h =
    let mid : Tables = record old { queueing = g.between } in
    history_on (Pump now) mid new (makes (Pump now) Dispatched mid new g.pumped)
    (history_on (Notify now a) old mid (makes (Notify now a) Taken old mid g.notified) h)

-- ---- which args need not wait

-- nothing waits, and the args may come
pub need_not_wait : (es : List Effect) (t : Tables) (now : ℕ) (a : Args) (c : Change) → TablesStandFor es t → slice_get t.queueing.waiting 0 ≡ None
    → PlansAt t.queueing.down a (Ok c) → (1 ≤ device_of a) × (device_of a ≤ 8) → NeedNotWait es now a
need_not_wait es t now a c s none plan device = (
  ap any_waits (sym s.knows.queue.waiting_is ∙ none_waits t.queueing.waiting none),
  taken_law es t.queueing now a c s.knows.queue device.0 device.1 plan,
)

-- some wait
pub some_wait : (es : List Effect) (t : Tables) (now : ℕ) (a : Args) → TablesStandFor es t → is_some (slice_get t.queueing.waiting 0) ≡ true
    → ¬ NeedNotWait es now a
some_wait es t now a s some need = by_waiting t.queueing.waiting some (ap any_waits s.knows.queue.waiting_is ∙ need.0)
  where
    by_waiting : (ws : List Args) → is_some (slice_get ws 0) ≡ true → any_waits ws ≡ false → ⊥
    by_waiting [] there none = absurd (true≢false (sym there))
    by_waiting (w ∷ ws) there none = absurd (true≢false none)

-- the args may not come
pub may_not_come : (es : List Effect) (t : Tables) (now : ℕ) (a : Args) (e : Refusal) → TablesStandFor es t
    → PlansAt t.queueing.down a (Err e) → (1 ≤ device_of a) × (device_of a ≤ 8) → ¬ NeedNotWait es now a
may_not_come es t now a e s plan device need =
    let here = state_at t.queueing.down (device_of a) in
    let refused : notify_reply here a ≡ Inconsistent (id_bits here.ids) (is_down here a) =
    ap (λ o. cond (is_some o) Taken (Inconsistent (id_bits here.ids) (is_down here a))) plan.0 in
    let taken : notify_reply here a ≡ Taken =
    sym (ap (λ d. notify_reply d a) (says_down (accepted (past_of es)) t.queueing.down (device_of a) s.knows.queue.down_is device.0 device.1)) ∙ need.1 in
    absurd (cc (sym refused ∙ taken))

-- no first args are none
pub nothing_first : (ws : List Args) (first : Option Args) → first ≡ slice_get ws 0 → is_some first ≡ false → slice_get ws 0 ≡ None
nothing_first ws None e h = sym e
nothing_first ws (Some a) e h = absurd (true≢false h)
