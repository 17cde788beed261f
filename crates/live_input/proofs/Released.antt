-- What is released, with one more step.
use Rattle.std.proofs.Common.{◌≡◌, ℕ, suc, ◌+◌, ◌≤◌, ◌==◌, ◌&&◌, Bool, true, false, not, cond, max, List, [], ◌∷◌, length, reverse, Option, Some, None, refl, sym, ap, ◌∙◌, subst, inl, inr}
use Rattle.std.specs.Prelude.{nat_lt, nat_le, is_some, slice_get}
use Rattle.std.proofs.lemmas.Bool.{cases_eq, ne_eqb}
use Rattle.input_types.specs.declared.message.Args.{Args}
use Rattle.input_types.specs.declared.message.Message.{Message}
use Rattle.dispatch_calls.specs.declared.call.Call.{Call}
use Rattle.dispatch_calls.specs.declared.call.Call.TheVariants.{Open, Windows, FocusOn, Notify, Pump, Tick, Receive, Finish, Pilfer, Remove}
use Rattle.dispatch_calls.specs.declared.reply.Reply.{Reply}
use Rattle.dispatch_calls.specs.declared.reply.Reply.TheVariants.{Done, Empty, Full, Gone, Got, Idle, Inconsistent, NotSpy, NothingHeld, Opened, Repeated, Taken, UnknownSeq}
use Rattle.dispatch_history.specs.Due.{anrs}
use Rattle.dispatch_history.specs.Effect.{Effect, past_of, stream}
use Rattle.dispatch_history.specs.History.{clock, live, opened, received, received_after, snapshot}
use Rattle.dispatch_history.specs.KeySent.{repeat_due}
use Rattle.dispatch_history.specs.Delivery.{is_finished, published}
use Rattle.dispatch_history.specs.Queue.{down_on, inbound}
use Rattle.dispatch_history.specs.Step.{marks}
use Rattle.routing_rules.specs.Marks.{held}
use Rattle.routing_rules.specs.Pairs.{has_any}
use Rattle.window_snapshot.specs.Window.{is_spy}
use Rattle.input_types.specs.DeviceRule.{after_args, device_of}
use Rattle.std.specs.List.{list_any}
use Rattle.dispatch_history.specs.Legal.{answered}
use Rattle.dispatch_history.specs.Reply.{got_reply, id_bits, is_down, is_due, pump_reply, reply_to}
use Rattle.dispatcher.specs.DispatchTables.Dues.{is_named as names_some}
use Rattle.dispatcher.proofs.DispatchTables.Duties.{anrs_kept_law}
use Rattle.dispatcher.specs.Access.{gone, anrs_released}
use Rattle.dispatcher.specs.Dispatching.{Dispatching}
use Rattle.focus_resolver.specs.Resolver.{is_at}
use Rattle.live_input.specs.declared.client.Seat.{Seat}
use Rattle.live_input.specs.Releases.{AreReleasedBut, IsLiveChannel, is_tick, receives_from}
use Rattle.live_input.specs.Standing.{AreReleased, AreSeated, IsOfHeld}
use Rattle.live_input.proofs.Opened.{opened_at}

-- only the reply to a tick has a mask
named_cond : (b : Bool) (x y : Reply) → names_some x ≡ false → names_some y ≡ false → names_some (cond b x y) ≡ false
named_cond true x y e f = e
named_cond false x y e f = f

named_got : (o : Option Message) → names_some (got_reply o) ≡ false
named_got None = refl
named_got (Some m) = refl

named_pump : (waiting : List Args) (due : Option ℕ) (now : ℕ) → names_some (pump_reply waiting due now) ≡ false
named_pump (a ∷ later) due now = refl
named_pump [] due now = named_cond (is_due due now) Repeated Idle refl refl

names_gone : (a : Bool) (answer : Reply) → names_some answer ≡ false → names_some (cond (not a) Gone answer) ≡ false
names_gone a answer e = named_cond (not a) Gone answer refl e

names_none : (es : List Effect) (call : Call) → is_tick call ≡ false → names_some (reply_to es call) ≡ false
names_none es (Open terms) e = named_cond (nat_lt (opened (past_of es)) 64) (Opened (opened (past_of es) + 1)) Full refl refl
names_none es (Windows now ws) e = refl
names_none es (FocusOn now y c keys) e = refl
names_none es (Notify now args) e =
    let s = down_on (past_of es) (device_of args) in
    named_cond (is_some (after_args s args)) Taken (Inconsistent (id_bits s.ids) (is_down s args)) refl refl
names_none es (Pump now) e = named_pump (inbound (past_of es)) (repeat_due es) (max now (clock (past_of es)))
names_none es (Tick now) e = absurd cc
names_none es (Receive c) e =
    let n = received (past_of es) c in
    let o = slice_get (reverse (stream es c)) n in
    names_gone (live (past_of es) c) (cond (nat_lt n (published es c)) (got_reply o) Empty)
    (named_cond (nat_lt n (published es c)) (got_reply o) Empty (named_got o) refl)
names_none es (Finish now c seq) e =
    let b = nat_le 1 seq && nat_le seq (received (past_of es) c) && not (is_finished (past_of es) c seq) in
    names_gone (live (past_of es) c) (cond b Done UnknownSeq) (named_cond b Done UnknownSeq refl refl)
names_none es (Pilfer now c d) e =
    let spies = list_any (λ v. v.channel == c && is_spy v) (snapshot (past_of es)) in
    let any = has_any (held (marks es)) c d in
    names_gone (live (past_of es) c) (cond (not spies) NotSpy (cond any Done NothingHeld))
    (named_cond (not spies) NotSpy (cond any Done NothingHeld) refl (named_cond any Done NothingHeld refl refl))
names_none es (Remove now c) e = named_cond (live (past_of es) c) Done Gone refl refl

received_by : (call : Call) (answer : Reply) (c n : ℕ) → is_at (receives_from call) c ≡ false → received_after call answer c n ≡ n
received_by (Receive k) (Got m) c n e = ap (λ b. cond b (suc n) n) e
received_by call answer c n e = refl

-- everything is released as before, except what the step receives and reports
pub release_but : (ds : List ℕ) (es : List Effect) (call : Call) (d later : Dispatching) → AreReleased es d
    → ((c : ℕ) → 1 ≤ c → gone later c ≡ gone d c) → anrs_released later ≡ anrs_released d
    → AreReleasedBut (receives_from call) (is_tick call) (answered ds call es) later
release_but ds es call d later g messages anrs =
    record {
      messages_are = λ c low other. messages c low ∙ g.messages_are c low ∙ sym (received_by call (reply_to es call) c (received (past_of es) c) other);
      anrs_are = λ none. anrs ∙ g.anrs_are ∙ sym (ap length (anrs_kept_law ds call (reply_to es call) es (names_none es call none)));
    }

-- if it receives nothing and is no tick, everything is
pub release_all : (from : Option ℕ) (ticks : Bool) (es : List Effect) (d : Dispatching) → from ≡ None → ticks ≡ false
    → AreReleasedBut from ticks es d → AreReleased es d
release_all from ticks es d none no_tick g =
    record { messages_are = λ c low. g.messages_are c low (ap (λ o. is_at o c) none); anrs_are = g.anrs_are no_tick }

pub release_same : (ds : List ℕ) (es : List Effect) (call : Call) (d later : Dispatching) → receives_from call ≡ None → is_tick call ≡ false
    → AreReleased es d → ((c : ℕ) → 1 ≤ c → gone later c ≡ gone d c) → anrs_released later ≡ anrs_released d → AreReleased (answered ds call es) later
release_same ds es call d later none no_tick g messages anrs =
    release_all (receives_from call) (is_tick call) _ later none no_tick (release_but ds es call d later g messages anrs)

-- what the call received is released
pub received_go : (from : Option ℕ) (ticks : Bool) (k : ℕ) (es : List Effect) (d later : Dispatching) → from ≡ Some k → ticks ≡ false
    → gone later k ≡ received (past_of es) k → ((c : ℕ) → 1 ≤ c → (c == k) ≡ false → gone later c ≡ gone d c)
    → anrs_released later ≡ anrs_released d → AreReleasedBut from ticks es d → AreReleased es later
received_go from ticks k es d later some no_tick here others anrs g =
    record {
      messages_are = λ c low. elim (cases_eq c k) [
        | inl e ↦ subst (λ n. gone later n ≡ received (past_of es) n) (sym e) here
        | inr ne ↦ others c low (ne_eqb c k ne) ∙ g.messages_are c low (ap (λ o. is_at o c) some ∙ ne_eqb c k ne)
      ];
      anrs_are = anrs ∙ g.anrs_are no_tick;
    }

-- and so is what it recorded
pub anrs_go : (from : Option ℕ) (ticks : Bool) (es : List Effect) (d later : Dispatching) → from ≡ None
    → ((c : ℕ) → 1 ≤ c → gone later c ≡ gone d c) → anrs_released later ≡ length (anrs es) → AreReleasedBut from ticks es d → AreReleased es later
anrs_go from ticks es d later none messages anrs g =
    record { messages_are = λ c low. messages c low ∙ g.messages_are c low (ap (λ o. is_at o c) none); anrs_are = anrs }

-- a call that receives is no tick
pub no_tick : (call : Call) (k : ℕ) → receives_from call ≡ Some k → is_tick call ≡ false
no_tick (Tick now) k e = absurd cc
no_tick call k e = refl

-- a channel from which a client receives is live, also after the call
pub from_live : (ds : List ℕ) (es : List Effect) (seats : List Seat) (call : Call) → AreSeated (past_of es) seats → IsOfHeld seats call
    → IsLiveChannel (receives_from call) (answered ds call es)
from_live ds es seats (Receive c) a h =
    let high = a.held c h.0 h.1 h.2 in (h.0, opened_at es c h.0 high, a.lives c h.0 high)
from_live ds es seats call a h = tt
