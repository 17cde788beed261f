-- Calls that hand in nothing refuse nothing, and args that keep the rule of their device are accepted.
use Rattle.std.proofs.Common.{◌≡◌, ℕ, ◌+◌, ◌==◌, ◌&&◌, not, nat_lt, nat_le, Bool, true, false, cond, is_some, List, [], ◌∷◌, ◌++◌, length, reverse, map, Option, Some, None, refl, sym, ap, ◌∙◌, subst, option_and_then, unwrap_or, arith, append_assoc, length-append, max}
use Rattle.std.specs.Prelude.{slice_get}
use Rattle.std.specs.List.{list_any}
use Rattle.input_types.specs.declared.message.Message.{Message}
use Rattle.window_snapshot.specs.Window.{is_spy}
use Rattle.routing_rules.specs.Pairs.{has_any}
use Rattle.routing_rules.specs.Marks.{held}
use Rattle.dispatch_history.specs.KeySent.{repeat_due}
use Rattle.dispatch_history.specs.Step.{marks}
use Rattle.std.proofs.lemmas.Bool.{true≢false, eq-eqb}
use Rattle.std.proofs.lemmas.List.{reverse-append, map-append}
use Rattle.input_types.specs.declared.message.Args.{Args}
use Rattle.input_types.specs.DeviceRule.{DeviceState, after_args, device_of, device_state, nothing_down}
use Rattle.dispatch_calls.specs.declared.call.Call.{Call}
use Rattle.dispatch_calls.specs.declared.call.Call.TheVariants.{Open, Windows, FocusOn, Notify, Pump, Tick, Receive, Finish, Pilfer, Remove}
use Rattle.dispatch_calls.specs.declared.reply.Reply.{Reply}
use Rattle.dispatch_calls.specs.declared.reply.Reply.TheVariants.{Taken, Inconsistent, Opened, Full, Done, Repeated, Idle, Empty, Gone, UnknownSeq, NotSpy, NothingHeld}
use Rattle.dispatch_history.specs.Effect.{Effect, past_of, stream}
use Rattle.dispatch_history.specs.History.{History, clock, opened, live, received, snapshot}
use Rattle.dispatch_history.specs.Delivery.{published, is_finished}
use Rattle.dispatch_history.specs.Legal.{answered}
use Rattle.dispatch_history.specs.Ordered.{is_notified, notified, extend}
use Rattle.dispatch_history.specs.Given.{opens}
use Rattle.dispatch_history.specs.Plan.{ChannelOf, Cooked}
use Rattle.dispatch_history.specs.Queue.{accepted, accepted_after, down_on, inbound}
use Rattle.dispatch_history.specs.Reply.{reply_to, pump_reply, receive_reply, got_reply, notify_reply, is_due, id_bits, is_down}
use Rattle.dispatch_history.proofs.QueueLaws.{older_kept}
use Rattle.run_laws.specs.Fitting.{KeepRule, NoneRefused, refuses}

either : (b : Bool) (x y : Reply) → refuses x ≡ false → refuses y ≡ false → refuses (cond b x y) ≡ false
either true x y p q = p
either false x y p q = q

pumped : (waiting : List Args) (due : Option ℕ) (now : ℕ) → refuses (pump_reply waiting due now) ≡ false
pumped (a ∷ waiting) due now = refl
pumped [] due now = either (is_due due now) Repeated Idle refl refl

got : (o : Option Message) → refuses (got_reply o) ≡ false
got None = refl
got (Some m) = refl

received_one : (es : List Effect) (c : ℕ) → refuses (receive_reply es c) ≡ false
received_one es c =
    let n = received (past_of es) c in
    either (not (live (past_of es) c)) Gone (cond (nat_lt n (published es c)) (got_reply (slice_get (reverse (stream es c)) n)) Empty) refl
    (either (nat_lt n (published es c)) (got_reply (slice_get (reverse (stream es c)) n)) Empty (got (slice_get (reverse (stream es c)) n)) refl)

-- a call that hands in nothing refuses nothing
quiet_reply : (es : List Effect) (call : Call) → is_notified call ≡ 0 → refuses (reply_to es call) ≡ false
quiet_reply es (Open terms) e = either (nat_lt (opened (past_of es)) 64) (Opened (opened (past_of es) + 1)) Full refl refl
quiet_reply es (Windows now shown) e = refl
quiet_reply es (FocusOn now d channel keys) e = refl
quiet_reply es (Notify now a) e = absurd (omega (arith, e))
quiet_reply es (Pump now) e = pumped (inbound (past_of es)) (repeat_due es) (max now (clock (past_of es)))
quiet_reply es (Tick now) e = refl
quiet_reply es (Receive channel) e = received_one es channel
quiet_reply es (Finish now channel seq) e =
    let c = channel in
    either (not (live (past_of es) channel)) Gone
    (cond (nat_le 1 seq && nat_le seq (received (past_of es) channel) && not (is_finished (past_of es) channel seq)) Done UnknownSeq) refl
    (either (nat_le 1 seq && nat_le seq (received (past_of es) channel) && not (is_finished (past_of es) channel seq)) Done UnknownSeq refl refl)
quiet_reply es (Pilfer now channel device) e =
    let spies = not (list_any (λ v. v.channel == channel && is_spy v) (snapshot (past_of es))) in
    let holds = has_any (held (marks es)) channel device in
    either (not (live (past_of es) channel)) Gone (cond spies NotSpy (cond holds Done NothingHeld)) refl
    (either spies NotSpy (cond holds Done NothingHeld) refl (either holds Done NothingHeld refl refl))
quiet_reply es (Remove now channel) e = either (live (past_of es) channel) Done Gone refl refl

quiet_accepts : (call : Call) (answer : Reply) (before : List Args) → is_notified call ≡ 0 → accepted_after call answer before ≡ before
quiet_accepts (Open terms) answer before e = refl
quiet_accepts (Windows now shown) answer before e = refl
quiet_accepts (FocusOn now d channel keys) answer before e = refl
quiet_accepts (Notify now a) answer before e = absurd (omega (arith, e))
quiet_accepts (Pump now) answer before e = refl
quiet_accepts (Tick now) answer before e = refl
quiet_accepts (Receive channel) answer before e = refl
quiet_accepts (Finish now channel seq) answer before e = refl
quiet_accepts (Pilfer now channel device) answer before e = refl
quiet_accepts (Remove now channel) answer before e = refl

abbrev pub args_in : List Cooked → List Args
args_in cs = map (λ (a : Cooked). a.args) cs

-- No args were refused so far; those in front were handed in and accepted, and the others are left.
pub record Keeps (front left : List Cooked) (h : History) : Type 0 where
  pub none : NoneRefused h
  pub accepted_is : accepted h ≡ reverse (args_in front)
  pub count : notified h ≡ length front

-- a call that hands in nothing
pub quiet_call : (ds : List ℕ) (es : List Effect) (call : Call) (front left : List Cooked) → is_notified call ≡ 0
    → Keeps front left (past_of es) → Keeps front left (past_of (answered ds call es))
quiet_call ds es call front left e k =
    record {
      none = (quiet_reply es call e, k.none);
      accepted_is = quiet_accepts call (reply_to es call) (accepted (past_of es)) e ∙ k.accepted_is;
      count = (let n : is_notified call + notified (past_of es) ≡ notified (past_of es) = omega (arith, e) in n) ∙ k.count;
    }

-- all of these calls hand in nothing
abbrev pub AllQuiet : List Call → Type 0
AllQuiet [] = Unit {0}
AllQuiet (call ∷ calls) = (is_notified call ≡ 0) × AllQuiet calls

pub quiet_calls : (ds : List ℕ) (es : List Effect) (calls : List Call) (front left : List Cooked) → AllQuiet calls
    → Keeps front left (past_of es) → Keeps front left (past_of (extend ds es calls))
quiet_calls ds es [] front left q k = k
quiet_calls ds es (call ∷ calls) front left q k =
    quiet_calls ds (answered ds call es) calls front left q.1 (quiet_call ds es call front left q.0 k)

-- args that may come are accepted
fits : (front left : List Cooked) (a : Cooked) → KeepRule (front ++ a ∷ left) → (d : ℕ) → is_some (device_state d (a.args ∷ reverse (args_in front))) ≡ true
fits front left a rule d =
    older_kept d (reverse (args_in left)) (a.args ∷ reverse (args_in front))
    (subst (λ xs. is_some (device_state d xs) ≡ true)
    (ap reverse (map-append (λ (b : Cooked). b.args) front (a ∷ left))
    ∙ reverse-append (args_in front) (a.args ∷ args_in left)
    ∙ ap (λ xs. xs ++ reverse (args_in front)) (reverse-append (a.args ∷ []) (args_in left))
    ∙ append_assoc (reverse (args_in left)) (a.args ∷ []) (reverse (args_in front)))
    (rule d))

may_come : (acc : List Args) (a : Args) → is_some (device_state (device_of a) (a ∷ acc)) ≡ true
    → is_some (after_args (unwrap_or (device_state (device_of a) acc) nothing_down) a) ≡ true
may_come acc a e =
    known (device_state (device_of a) acc)
    (subst (λ b. is_some (cond b (option_and_then (λ s. after_args s a) (device_state (device_of a) acc)) (device_state (device_of a) acc)) ≡ true) (eq-eqb (device_of a) (device_of a) refl) e)
  where
    known : (o : Option DeviceState) → is_some (option_and_then (λ s. after_args s a) o) ≡ true → is_some (after_args (unwrap_or o nothing_down) a) ≡ true
    known None e = absurd (true≢false (sym e))
    known (Some s) e = e

taken_reply : (h : History) (a : Args) → is_some (device_state (device_of a) (a ∷ accepted h)) ≡ true → notify_reply (down_on h (device_of a)) a ≡ Taken
taken_reply h a e =
    ap (λ b. cond b Taken (Inconsistent (id_bits (down_on h (device_of a)).ids) (is_down (down_on h (device_of a)) a))) (may_come (accepted h) a e)

-- the next args are handed in
pub next_call : (ds : List ℕ) (es : List Effect) (a : Cooked) (front left : List Cooked) → KeepRule (front ++ a ∷ left)
    → Keeps front (a ∷ left) (past_of es) → Keeps (front ++ a ∷ []) left (past_of (answered ds (Notify a.moment a.args) es))
next_call ds es a front left rule k =
    let h = past_of es in
    let t : notify_reply (down_on (past_of es) (device_of a.args)) a.args ≡ Taken =
    taken_reply (past_of es) a.args
    (subst (λ xs. is_some (device_state (device_of a.args) (a.args ∷ xs)) ≡ true) (sym k.accepted_is) (fits front left a rule (device_of a.args))) in
    record {
      none = (ap refuses t, k.none);
      accepted_is =
          ap (λ r. accepted_after (Notify a.moment a.args) r (accepted (past_of es))) t
          ∙ ap (λ xs. a.args ∷ xs) k.accepted_is
          ∙ sym (ap reverse (map-append (λ (b : Cooked). b.args) front (a ∷ [])) ∙ reverse-append (args_in front) (a.args ∷ []));
      count = omega (arith, k.count, length-append front (a ∷ []));
    }

pub quiet_opens : (cs : List ChannelOf) → AllQuiet (opens cs)
quiet_opens [] = tt
quiet_opens (c ∷ cs) = (refl, quiet_opens cs)

pub nothing_yet : (cs : List Cooked) → Keeps [] cs []
nothing_yet cs = record { none = tt; accepted_is = refl; count = refl }
