-- All tables go one step on.
use Rattle.std.proofs.Common.{◌≡◌, ℕ, max, ◌<◌, Bool, true, false, cond, List, slice_get, Option, Some, None, refl, sym, ap, ◌∙◌, subst, arith}
use Rattle.std.proofs.lemmas.Bool.{true≢false}
use Rattle.window_snapshot.specs.Mask.{mask_has}
use Rattle.window_snapshot.proofs.Masks.{mask_has-zero}
use Rattle.input_types.specs.declared.message.Args.{Args}
use Rattle.focus_resolver.specs.Resolver.{FocusState, after_request}
use Rattle.dispatcher.proofs.KeyTables.Focusing.{focus_read, focus_requested}
use Rattle.dispatch_calls.specs.declared.call.Call.{Call}
use Rattle.dispatch_calls.specs.declared.call.Call.TheVariants.{Open, Windows, FocusOn, Notify, Pump, Tick, Receive, Finish, Pilfer, Remove}
use Rattle.dispatch_calls.specs.declared.reply.Reply.{Reply}
use Rattle.dispatch_calls.specs.declared.reply.Reply.TheVariants.{Dispatched, Done, Repeated, Idle}
use Rattle.dispatch_history.specs.Due.{mask_of}
use Rattle.dispatch_history.specs.Effect.{Effect, past_of}
use Rattle.dispatch_history.specs.Effects.{step}
use Rattle.dispatch_history.specs.History.{moment_of, clock}
use Rattle.dispatch_history.specs.Legal.{answered}
use Rattle.dispatch_history.specs.Reply.{reply_to, is_due}
use Rattle.dispatcher.proofs.DispatchTables.Duties.{named_law}
use Rattle.dispatcher.proofs.DispatchTables.Going.{delivery_due}
use Rattle.dispatcher.specs.DispatchChannels.Table.{due_moment}
use Rattle.dispatcher.specs.Queue.{Queue, QueueGoes}
use Rattle.dispatcher.specs.Knows.{KeptStandsFor}
use Rattle.dispatcher.specs.declared.tables.Routing.{Routing}
use Rattle.dispatcher.specs.declared.tables.Tables.{Tables}
use Rattle.dispatcher.specs.Memory.{IsCalm}
use Rattle.dispatcher.specs.Needing.{LeavesFocus}
use Rattle.dispatcher.specs.Queueing.{stepped, dispatched, with_pumps}
use Rattle.dispatcher.specs.Tables.{TablesStandFor, due_repeat, kept, Goes, Pumps, GoesOn, HandsOn, is_routed}
use Rattle.dispatcher.proofs.Rounds.KeySteps.{idle_reply}

-- the queue where a call hands in no args and dispatches none
stepped_goes : (call : Call) (answer : Reply) (q : Queue) → is_routed call ≡ true → QueueGoes call answer q (stepped (moment_of call) q)
stepped_goes (Open terms) answer q r = record { clock_is = refl; place_is = refl; waiting_is = refl; down_is = refl }
stepped_goes (Windows now shown) answer q r = record { clock_is = refl; place_is = refl; waiting_is = refl; down_is = refl }
stepped_goes (FocusOn now display channel keys) answer q r = record { clock_is = refl; place_is = refl; waiting_is = refl; down_is = refl }
stepped_goes (Notify now args) answer q r = absurd (true≢false (sym r))
stepped_goes (Pump now) answer q r = absurd (true≢false (sym r))
stepped_goes (Tick now) answer q r = record { clock_is = refl; place_is = refl; waiting_is = refl; down_is = refl }
stepped_goes (Receive c) answer q r = record { clock_is = refl; place_is = refl; waiting_is = refl; down_is = refl }
stepped_goes (Finish now c seq) answer q r = record { clock_is = refl; place_is = refl; waiting_is = refl; down_is = refl }
stepped_goes (Pilfer now c d) answer q r = record { clock_is = refl; place_is = refl; waiting_is = refl; down_is = refl }
stepped_goes (Remove now c) answer q r = record { clock_is = refl; place_is = refl; waiting_is = refl; down_is = refl }

-- a pump
pumped_on : (old : Tables) (later : Queue) (new : Routing) (answer : Reply) (first : Option Args) (now place clk : ℕ)
    → slice_get old.queueing.waiting 0 ≡ first → clk ≡ max now old.queueing.clock → place ≡ old.queueing.place
    → QueueGoes (Pump now) answer old.queueing later → later.spare ≡ old.queueing.spare → Pumps first answer place clk old.routing new
    → GoesOn (Pump now) answer old (record { queueing = later; routing = new })
pumped_on old later new answer first now place clk waits time at goes same g =
    record {
      after = λ es s.
          subst (λ d. KeptStandsFor d (step old.routing.displays (Pump now) answer es) (kept later new)) (sym g.displays_are)
          (g.after es now old.queueing later waits (sym at) (sym time) s goes);
      displays_are = g.displays_are;
      gone_are = g.gone_are;
      room_is = omega (arith, same);
    }

-- one that dispatches
pub dispatched_on : (old : Tables) (later : Queue) (new : Routing) (a : Args) (now place clk : ℕ)
    → slice_get old.queueing.waiting 0 ≡ Some a → clk ≡ max now old.queueing.clock → place ≡ old.queueing.place
    → later ≡ dispatched now old.queueing → Pumps (Some a) Dispatched place clk old.routing new
    → GoesOn (Pump now) Dispatched old (record { queueing = later; routing = new })
dispatched_on old later new a now place clk waits time at is g =
    pumped_on old later new Dispatched (Some a) now place clk waits time at
    (subst (λ q. QueueGoes (Pump now) Dispatched old.queueing q) (sym is) (record { clock_is = refl; place_is = refl; waiting_is = refl; down_is = refl }))
    (ap (λ q. q.spare) is)
    g

idle_goes : (b : Bool) (now : ℕ) (q : Queue) → QueueGoes (Pump now) (cond b Repeated Idle) q (stepped now q)
idle_goes true now q = record { clock_is = refl; place_is = refl; waiting_is = refl; down_is = refl }
idle_goes false now q = record { clock_is = refl; place_is = refl; waiting_is = refl; down_is = refl }

-- one for which nothing waits
pub idle_on : (old : Tables) (later : Queue) (new : Routing) (b : Bool) (answer : Reply) (now place clk : ℕ)
    → slice_get old.queueing.waiting 0 ≡ None → clk ≡ max now old.queueing.clock → place ≡ old.queueing.place
    → later ≡ stepped now old.queueing → answer ≡ cond b Repeated Idle → Pumps None (cond b Repeated Idle) place clk old.routing new
    → GoesOn (Pump now) answer old (record { queueing = later; routing = new })
idle_on old later new b answer now place clk waits time at is reply g =
    subst (λ a. GoesOn (Pump now) a old (record { queueing = later; routing = new })) (sym reply)
    (pumped_on old later new (cond b Repeated Idle) None now place clk waits time at
    (subst (λ q. QueueGoes (Pump now) (cond b Repeated Idle) old.queueing q) (sym is) (idle_goes b now old.queueing))
    (ap (λ q. q.spare) is)
    g)

-- a pump that is idle is due nothing
pub not_idle : (es : List Effect) (q : Queue) (r : Routing) (now clk : ℕ) → KeptStandsFor r.displays es (kept q r) → slice_get q.waiting 0 ≡ None
    → clk ≡ max now q.clock → is_due (due_repeat r) clk ≡ true → IsCalm es (Pump now) → ⊥
not_idle es q r now clk s none time due calm =
    let same : Repeated ≡ Idle = idle_reply es now q clk r true none (sym time) s due ∙ calm in absurd (cc same)

-- for how many pumps there is room says nothing of a history
pumps_free : (es : List Effect) (q : Queue) (r : Routing) (n : ℕ) → KeptStandsFor r.displays es (kept q r) → KeptStandsFor r.displays es (kept (with_pumps n q) r)
pumps_free es q r n s =
    let i = s.knows.queue in
    record {
      lawful = s.lawful;
      rise = s.rise;
      knows =
          record {
            queue = record { clock_is = i.clock_is; place_is = i.place_is; waiting_is = i.waiting_is; down_is = i.down_is };
            shown = s.knows.shown;
            touches = s.knows.touches;
            covers = s.knows.covers;
            delivery = s.knows.delivery;
            inputs = s.knows.inputs;
            keying = s.knows.keying;
          };
    }

pub other_pumps : (call : Call) (answer : Reply) (old : Tables) (q : Queue) (r : Routing) (n : ℕ)
    → GoesOn call answer old (record { queueing = q; routing = r }) → GoesOn call answer old (record { queueing = with_pumps n q; routing = r })
other_pumps call answer old q r n h =
    record {
      after = λ es s. pumps_free (step old.routing.displays call answer es) q r n (h.after es s);
      displays_are = h.displays_are;
      gone_are = h.gone_are;
      room_is = h.room_is;
    }

-- a call that hands in no args and dispatches none: no room for pumps is left
pub passed_on : (old : Tables) (later : Queue) (new : Routing) (call : ℕ → Call) (answer : Reply) (now place clk : ℕ)
    → is_routed (call now) ≡ true → now ≡ moment_of (call now) → clk ≡ max now old.queueing.clock → place ≡ old.queueing.place
    → later ≡ with_pumps 0 (stepped now old.queueing) → Goes call answer place clk old.routing new
    → GoesOn (call now) answer old (record { queueing = later; routing = new })
passed_on old later new call answer now place clk routed moment time at is g =
    let ds = old.routing.displays in
    let q = old.queueing in
    subst (λ x. GoesOn (call now) answer old (record { queueing = x; routing = new })) (sym is)
    (other_pumps (call now) answer old (stepped now q) new 0
    (record {
      after = λ es s.
          subst (λ d. KeptStandsFor d (step ds (call now) answer es) (kept (stepped now q) new)) (sym g.displays_are)
          (g.after es now q (stepped now q) (sym at) (ap (λ n. max n q.clock) (sym moment) ∙ sym time) s
          (subst (λ n. QueueGoes (call now) answer q (stepped n q)) (sym moment) (stepped_goes (call now) answer q routed)));
      displays_are = g.displays_are;
      gone_are = g.gone_are;
      room_is = omega arith;
    }))

-- what a request leaves of the focus in the history it leaves in the tables
pub calm_request : (es : List Effect) (q : Queue) (r : Routing) (now display : ℕ) (channel : Option ℕ) (keys : Bool) → KeptStandsFor r.displays es (kept q r)
    → IsCalm es (FocusOn now display channel keys) → display < 4 → LeavesFocus display channel keys r.focus
calm_request es q r now display channel keys s calm lt =
    let g : FocusState = after_request display channel keys r.focus in
    let was = focus_read es r.focus s.knows.keying.focus_is in
    let is = focus_read (step r.displays (FocusOn now display channel keys) Done es) g
    (focus_requested r.displays now display channel keys Done es r.focus lt s.knows.keying.focus_is) in
    (λ w. is.1 w ∙ calm.focus_is w ∙ sym (was.1 w), is.2 ∙ calm.target_is ∙ sym was.2)

-- where a tick reports no ANR, no channel is due
pub calm_tick : (es : List Effect) (q : Queue) (r : Routing) (now clk : ℕ) → KeptStandsFor r.displays es (kept q r)
    → clk ≡ max now q.clock → IsCalm es (Tick now) → (c : ℕ) → is_due (due_moment r.channels c) clk ≡ false
calm_tick es q r now clk s time calm c =
    let at = max now (clock (past_of es)) in
    let same : clk ≡ at = time ∙ ap (λ x. max now x) s.knows.queue.clock_is in
    ap (λ x. is_due (due_moment r.channels c) x) same
    ∙ ap (λ f. is_due (f c) at) (delivery_due r.displays es (kept q r).delivery s.lawful s.knows.delivery)
    ∙ sym ((named_law r.displays es now s.lawful).1 c)
    ∙ ap (λ cs. mask_has (mask_of cs) c) calm
    ∙ mask_has-zero c

-- the owner of a channel has its next message, whether it was released or not
pub handed_after : (old : Tables) (later : Queue) (new : Routing) (c n : ℕ) → n ≡ 0 → later ≡ with_pumps 0 (stepped n old.queueing)
    → HandsOn c old.routing new
    → (es : List Effect) → TablesStandFor es old
    → TablesStandFor (answered old.routing.displays (Receive c) es) (record { queueing = later; routing = new })
handed_after old later new c n zero_is is g es s =
    let ds = old.routing.displays in
    let answer = reply_to es (Receive c) in
    let made : later ≡ with_pumps 0 (stepped 0 old.queueing) = is ∙ ap (λ m. with_pumps 0 (stepped m old.queueing)) zero_is in
    subst (λ d. KeptStandsFor d (step ds (Receive c) answer es) (kept later new)) (sym g.displays_are)
    (g.after es answer old.queueing later s refl
    (subst (λ q. QueueGoes (Receive c) answer old.queueing q) (sym made)
    (record { clock_is = refl; place_is = refl; waiting_is = refl; down_is = refl })))
