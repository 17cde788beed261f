-- What the tables made of a call, as contracts see it.
use Rattle.std.proofs.Common.{◌≡◌, ◌+◌, ◌-◌, ◌≤◌, ◌<◌, ◌^◌, ℕ, max, true, is_some, slice_get, List, [], ◌∷◌, Result, Ok, Err, IfOk, OnErr, refl, sym, ap, ◌∙◌, subst, arith}
use Rattle.std.proofs.lemmas.Bool.{true≢false}
use Rattle.input_types.specs.declared.message.Args.{Args}
use Rattle.dispatch_calls.specs.declared.call.Call.{Call}
use Rattle.dispatch_calls.specs.declared.call.Call.TheVariants.{Pump, Receive}
use Rattle.dispatch_calls.specs.declared.reply.Reply.{Reply}
use Rattle.dispatch_calls.specs.declared.reply.Reply.TheVariants.{Idle}
use Rattle.dispatch_history.specs.Effect.{Effect, past_of}
use Rattle.dispatch_history.specs.Effects.{step}
use Rattle.dispatch_history.specs.History.{clock, moment_of}
use Rattle.dispatch_history.specs.KeySent.{repeat_due}
use Rattle.dispatch_history.specs.Legal.{answered}
use Rattle.dispatch_history.specs.Reply.{pump_reply, reply_to}
use Rattle.dispatch_history.specs.Queue.{inbound}
use Rattle.dispatcher.specs.DispatchTables.Lawful.{Lawful}
use Rattle.dispatcher.proofs.DispatchTables.Lawfuls.{lawful_last}
use Rattle.dispatcher.specs.declared.tables.Routing.{Routing}
use Rattle.dispatcher.specs.declared.tables.Tables.{Tables}
use Rattle.dispatcher.specs.Access.{gone}
use Rattle.dispatcher.specs.Answered.{Answers, StepsOn}
use Rattle.dispatcher.specs.Dispatching.{Dispatching, IsAfter, IsOfHistory}
use Rattle.dispatcher.specs.Memory.{MayCount}
use Rattle.dispatcher.specs.Queue.{Queue}
use Rattle.dispatcher.specs.Queueing.{args_in, stepped, with_pumps}
use Rattle.dispatcher.specs.Roomy.{HasPumpRoom, KeepsPromise}
use Rattle.dispatcher.specs.Tables.{TablesStandFor, ReleasesNone, Goes, GoesOn, HandsOn, MayStep, SameAll, SameButRoom, is_routed}
use Rattle.dispatcher.proofs.Made.Applying.{seen, raw, bare, seen_same}
use Rattle.dispatcher.proofs.Room.Rooms.{channel_bare}
use Rattle.dispatcher.proofs.Room.Roomy.{same_room}
use Rattle.dispatcher.proofs.Laws.Standing.{after_of, stands_on}
use Rattle.dispatcher.proofs.Laws.Stepped.{handed_after, passed_on}

-- the tables made the call: whatever they stood for, they stand for it with the call answered as it says
pub record Makes (call : Call) (old new : Tables) : Type 0 where
  pub after : (es : List Effect) → TablesStandFor es old → TablesStandFor (answered old.routing.displays call es) new
  pub displays_are : new.routing.displays ≡ old.routing.displays
  pub gone_are : ReleasesNone old.routing.channels new.routing.channels
  pub room_is : old.queueing.spare ≤ new.queueing.spare + args_in call

-- a call is answered as the history says
reply_is : (call : Call) (answer : Reply) (old new : Tables) → GoesOn call answer old new → (es : List Effect) → TablesStandFor es old
    → answer ≡ reply_to es call
reply_is call answer old new g es s =
    (lawful_last old.routing.displays call answer es
    (subst (λ ds. Lawful ds (step old.routing.displays call answer es)) g.displays_are (g.after es s).lawful)).0

pub makes : (call : Call) (answer : Reply) (old new : Tables) → GoesOn call answer old new → Makes call old new
makes call answer old new g =
    record {
      after = λ es s.
          subst (λ a. TablesStandFor (step old.routing.displays call a es) new) (reply_is call answer old new g es s) (g.after es s);
      displays_are = g.displays_are;
      gone_are = g.gone_are;
      room_is = g.room_is;
    }

-- the owner of a channel has its next message
pub handed : (old : Tables) (later : Queue) (new : Routing) (c n : ℕ) → n ≡ 0 → later ≡ with_pumps 0 (stepped n old.queueing)
    → HandsOn c old.routing new → Makes (Receive c) old (record { queueing = later; routing = new })
handed old later new c n zero_is is g =
    record {
      after = handed_after old later new c n zero_is is g;
      displays_are = g.displays_are;
      gone_are = g.gone_are;
      room_is = omega (arith, ap (λ q. q.spare) is);
    }

-- of each channel as many messages were released, seen with its room or without
gone_seen : (old new : Tables) → ReleasesNone old.routing.channels new.routing.channels
    → (c : ℕ) → 1 ≤ c → gone (seen new) c ≡ gone (seen old) c
gone_seen old new none c low =
    ap (λ s. s.gone) (channel_bare new.routing.channels c)
    ∙ none.of_channels c low
    ∙ sym (ap (λ s. s.gone) (channel_bare old.routing.channels c))

steps_seen : (call : Call) (old new : Tables) → Makes call old new → StepsOn call (seen old) (seen new)
steps_seen call old new m =
    let ds = old.routing.displays in
    let known : (es : List Effect) → IsAfter es (seen old) → IsAfter (answered ds call es) (seen new) =
    λ es s. bare (answered ds call es) new (m.after es (raw es old s)) in
    record {
      known = known;
      after = λ es s.
          stands_on call (reply_to es call) es (seen old) (seen new) s m.displays_are (gone_seen old new m.gone_are)
          (known es (after_of es (seen old) s));
      displays_are = m.displays_are;
      gone_are = gone_seen old new m.gone_are;
      anrs_are = m.gone_are.of_anrs;
      room_is = m.room_is;
    }

-- the dispatcher went one step on
pub steps_on : (call : Call) (old new : Tables) (now : Dispatching) → seen old ≡ now → Makes call old new → StepsOn call now (seen new)
steps_on call old new now is m = subst (λ d. StepsOn call d (seen new)) is (steps_seen call old new m)

-- and answered
pub answers_on : (call : Call) (answer : Reply) (old new : Tables) (now : Dispatching) → seen old ≡ now → GoesOn call answer old new
    → Answers call answer now (seen new)
answers_on call answer old new now is g =
    subst (λ d. Answers call answer d (seen new)) is
    (record {
      goes = steps_seen call old new (makes call answer old new g);
      reply_is = λ es s. reply_is call answer old new g es (raw es old (after_of es (seen old) s));
    })

-- it is as after some history still
pub history_on : (call : Call) (old new : Tables) → Makes call old new → IsOfHistory (seen old) → IsOfHistory (seen new)
history_on call old new m h =
    (answered old.routing.displays call h.0, bare (answered old.routing.displays call h.0) new (m.after h.0 (raw h.0 old h.1)))

-- a dispatcher whose next step can be counted
pub may_step : (old : Tables) → IsOfHistory (seen old) → old.queueing.place < 2 ^ 64 - 1 → MayStep old
may_step old h place = record { history = h.0; stands = raw h.0 old h.1; place = place }

pub counted : (es : List Effect) (old : Tables) (now : Dispatching) → seen old ≡ now → IsAfter es now → MayCount es
    → old.queueing.place < 2 ^ 64 - 1
counted es old now is s few =
    let stands = raw es old (subst (IsAfter es) (sym is) s) in omega (arith, stands.knows.queue.place_is, few)

-- no room for pumps is promised
pub no_promise : (t : Tables) → t.queueing.pumps ≡ 0 → KeepsPromise t
no_promise t none some = absurd (omega (arith, none, some))

-- room is promised for as many pumps as before
pub as_promised : (n m : ℕ) (r : Routing) → m ≡ n → (1 ≤ n → HasPumpRoom n r) → 1 ≤ m → HasPumpRoom m r
as_promised n m r is keeps some = subst (λ k. HasPumpRoom k r) (sym is) (keeps (subst (λ k. 1 ≤ k) is some))

-- A call that hands in no args and dispatches none was answered, ..
pub passed : (old : Tables) (later : Queue) (new : Routing) (d : Dispatching) → seen old ≡ d → (call : ℕ → Call) (answer : Reply) (now place clk : ℕ)
    → is_routed (call now) ≡ true → now ≡ moment_of (call now) → clk ≡ max now old.queueing.clock → place ≡ old.queueing.place
    → later ≡ with_pumps 0 (stepped now old.queueing) → Goes call answer place clk old.routing new
    → Answers (call now) answer d (seen (record { queueing = later; routing = new }))
passed old later new d is call answer now place clk routed moment time at goes g =
    answers_on (call now) answer old (record { queueing = later; routing = new }) d is
    (passed_on old later new call answer now place clk routed moment time at goes g)

-- .. and the dispatcher holds what it always does.
pub passed_holds : (old : Tables) (later : Queue) (new : Routing) → IsOfHistory (seen old) → (call : ℕ → Call) (answer : Reply) (now place clk : ℕ)
    → is_routed (call now) ≡ true → now ≡ moment_of (call now) → clk ≡ max now old.queueing.clock → place ≡ old.queueing.place
    → later ≡ with_pumps 0 (stepped now old.queueing) → Goes call answer place clk old.routing new
    → IsOfHistory (seen (record { queueing = later; routing = new })) × KeepsPromise (record { queueing = later; routing = new })
passed_holds old later new h call answer now place clk routed moment time at goes g = (
  history_on (call now) old (record { queueing = later; routing = new })
      (makes (call now) answer old (record { queueing = later; routing = new })
      (passed_on old later new call answer now place clk routed moment time at goes g))
      h,
  no_promise (record { queueing = later; routing = new }) (ap (λ q. q.pumps) goes),
)

-- where there was no memory, the dispatcher is as it was
pub same_seen : (old : Tables) (new : Routing) (d : Dispatching) → seen old ≡ d → SameButRoom old.routing new → seen (record old { routing = new }) ≡ d
same_seen old new d is same = seen_same old (record old { routing = new }) (record { queueing_is = refl; routing_is = same }) ∙ is

pub same_holds : (old : Tables) (new : Routing) → SameButRoom old.routing new → IsOfHistory (seen old) → KeepsPromise old
    → IsOfHistory (seen (record old { routing = new })) × KeepsPromise (record old { routing = new })
same_holds old new same h keeps = (
  subst IsOfHistory (sym (same_seen old new (seen old) refl same)) h,
  λ some. same_room _ old.routing new same (keeps some),
)

-- by what a function over the tables answered
pub answers_if : {A E : Type 0} (f : A → Reply) (call : Call) (r : Result A E) (old new : Tables) (d : Dispatching) → seen old ≡ d
    → IfOk r (λ a. GoesOn call (f a) old new) → IfOk r (λ a. Answers call (f a) d (seen new))
answers_if f call (Ok a) old new d is g = answers_on call (f a) old new d is g
answers_if f call (Err e) old new d is g = tt

pub stays_if : {A E : Type 0} (r : Result A E) (old new : Tables) (d : Dispatching) → seen old ≡ d → OnErr r (SameAll old new)
    → OnErr r (seen new ≡ d)
stays_if (Ok a) old new d is same = tt
stays_if (Err e) old new d is same = seen_same old new same ∙ is

pub history_if : {A E : Type 0} (f : A → Reply) (call : Call) (r : Result A E) (old new : Tables)
    → IfOk r (λ a. GoesOn call (f a) old new) → OnErr r (SameAll old new) → IsOfHistory (seen old) → IsOfHistory (seen new)
history_if f call (Ok a) old new g same h = history_on call old new (makes call (f a) old new g) h
history_if f call (Err e) old new g same h = subst IsOfHistory (sym (seen_same old new same)) h

-- a pump for which something waits is not idle
pub not_idle : (es : List Effect) (waiting : List Args) (now : ℕ) → waiting ≡ inbound (past_of es) → is_some (slice_get waiting 0) ≡ true
    → reply_to es (Pump now) ≡ Idle → ⊥
not_idle es waiting now is there idle =
    by_waiting (inbound (past_of es)) (subst (λ ws. is_some (slice_get ws 0) ≡ true) is there) idle
  where
    by_waiting : (ws : List Args) → is_some (slice_get ws 0) ≡ true → pump_reply ws (repeat_due es) (max now (clock (past_of es))) ≡ Idle → ⊥
    by_waiting [] there idle = true≢false (sym there)
    by_waiting (a ∷ later) there idle = cc idle
