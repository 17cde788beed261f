-- What is left of room for args and pumps.
use Rattle.std.proofs.Common.{◌≡◌, ℕ, suc, ◌+◌, ◌-◌, ◌≤◌, max, arith, Bool, true, false, cond, ◌||◌, List, [], ◌∷◌, length, reverse, Option, Some, None, refl, sym, ap, ◌∙◌, subst}
use Rattle.std.proofs.Math.Nat.{le-max_left}
use Rattle.std.proofs.lemmas.Bool.{true≢false}
use Rattle.std.proofs.lemmas.List.{length-drop, length-reverse}
use Rattle.input_types.specs.declared.message.Args.{Args}
use Rattle.dispatch_calls.specs.declared.call.Call.{Call}
use Rattle.dispatch_calls.specs.declared.call.Call.TheVariants.{Notify, Pump}
use Rattle.dispatch_calls.specs.declared.reply.Reply.{Reply}
use Rattle.dispatch_calls.specs.declared.reply.Reply.TheVariants.{Taken, Dispatched}
use Rattle.dispatch_history.specs.Effect.{Effect, past_of}
use Rattle.dispatch_history.specs.History.{History, clock}
use Rattle.dispatch_history.specs.KeySent.{repeat_due}
use Rattle.dispatch_history.specs.Legal.{answered}
use Rattle.dispatch_history.specs.Queue.{accepted, dispatches, inbound}
use Rattle.dispatch_history.specs.Reply.{pump_reply, reply_to}
use Rattle.dispatcher.specs.Access.{any_waits, is_waiting}
use Rattle.dispatcher.specs.Dispatching.{Dispatching, StandsFor, with_room}
use Rattle.live_input.specs.Room.{HandsOver, HasRoom, MayCountMore, PumpsOver}
use Rattle.live_input.specs.Settling.{next_waiting}
use Rattle.live_input.specs.Standing.{LiveIs}
use Rattle.live_input.specs.State.{LiveState}

-- ---- how many args wait

how_many : (h : History) → length (inbound h) ≡ length (accepted h) - dispatches h
how_many h =
    length-drop (dispatches h) (reverse (accepted h)) ∙ ap (λ n. n - dispatches h) (length-reverse (accepted h))

-- args that are handed in wait, or do not
after_notify : (now : ℕ) (a : Args) (answer : Reply) (h : History) → length (inbound ((Notify now a, answer) ∷ h)) ≤ suc (length (inbound h))
after_notify now a Taken h =
    let n = how_many h in
    let m : length (inbound ((Notify now a, Taken) ∷ h)) ≡ suc (length (accepted h)) - dispatches h = how_many ((Notify now a, Taken) ∷ h) in
    omega (arith, n, m)
after_notify now a answer h =
    let n = how_many h in
    let m : length (inbound ((Notify now a, answer) ∷ h)) ≡ length (accepted h) - dispatches h = how_many ((Notify now a, answer) ∷ h) in
    omega (arith, n, m)

-- where some wait, a pump dispatches the first of them
after_pump : (now : ℕ) (answer : Reply) (h : History) (ws : List Args) → inbound h ≡ ws → any_waits ws ≡ true → answer ≡ Dispatched
    → suc (length (inbound ((Pump now, answer) ∷ h))) ≡ length (inbound h)
after_pump now answer h [] is some e = absurd (true≢false (sym some))
after_pump now answer h (w ∷ ws) is some e =
    let n = how_many h in
    let k : length (inbound h) ≡ suc (length ws) = ap length is in
    let P : Reply → Type 0 = λ r. suc (length (inbound ((Pump now, r) ∷ h))) ≡ length (inbound h) in
    let m : length (inbound ((Pump now, Dispatched) ∷ h)) ≡ length (accepted h) - suc (dispatches h) = how_many ((Pump now, Dispatched) ∷ h) in
    let there : P Dispatched = omega (arith, n, k, m) in
    subst P (sym e) there

answer_waiting : (ws : List Args) (due : Option ℕ) (now : ℕ) → any_waits ws ≡ true → pump_reply ws due now ≡ Dispatched
answer_waiting [] due now some = absurd (true≢false (sym some))
answer_waiting (w ∷ ws) due now some = refl

pub one_less : (ds : List ℕ) (now : ℕ) (es : List Effect) → is_waiting es ≡ true
    → suc (length (inbound (past_of (answered ds (Pump now) es)))) ≡ length (inbound (past_of es))
one_less ds now es some =
    after_pump now (reply_to es (Pump now)) (past_of es) (inbound (past_of es)) refl some
    (answer_waiting (inbound (past_of es)) (repeat_due es) (max now (clock (past_of es))) some)

none_long : (ws : List Args) → any_waits ws ≡ false → length ws ≡ 0
none_long [] e = refl
none_long (w ∷ ws) e = absurd (true≢false e)

some_long : (ws : List Args) → any_waits ws ≡ true → 1 ≤ length ws
some_long [] e = absurd (true≢false (sym e))
some_long (w ∷ ws) e = omega (arith)

-- the next call, where one waits
pub waiting_call : (now : ℕ) (es : List Effect) (call : Call) → next_waiting now es ≡ Some call → (is_waiting es ≡ true) × (call ≡ Pump now)
waiting_call now es call e = by_test (is_waiting es) refl e
  where
    by_test : (b : Bool) → is_waiting es ≡ b → cond b (Some (Pump now)) None ≡ Some call → (is_waiting es ≡ true) × (call ≡ Pump now)
    by_test true is e = (is, cc)
    by_test false is e = absurd cc

pub no_call : (now : ℕ) (es : List Effect) → next_waiting now es ≡ None → is_waiting es ≡ false
no_call now es e = by_test (is_waiting es) refl e
  where
    by_test : (b : Bool) → is_waiting es ≡ b → cond b (Some (Pump now)) None ≡ None → is_waiting es ≡ false
    by_test true is e = absurd cc
    by_test false is e = is

-- ---- what a service keeps of its history

module _ (ds : List ℕ) (es : List Effect) (s : LiveState) (h : LiveIs ds es s) where
  pub counted : s.dispatcher.queue.place ≡ length es
  counted = h.stands.knows.queue.place_is

  pub long : length s.dispatcher.queue.waiting ≡ length (inbound (past_of es))
  long = ap length h.stands.knows.queue.waiting_is

  pub idle : is_waiting es ≡ false → length s.dispatcher.queue.waiting ≡ 0
  idle none = long ∙ none_long (inbound (past_of es)) none

  pub busy : is_waiting es ≡ true → 1 ≤ length s.dispatcher.queue.waiting
  busy some = subst (λ n. 1 ≤ n) (sym long) (some_long (inbound (past_of es)) some)

-- ---- one more call

pub hands_over_first : (s : LiveState) → HandsOver s s
hands_over_first s = record { spare_is = omega (arith); pumps_are = refl; waiting_is = omega (arith); place_is = refl }

pub hands_over_more : (ds : List ℕ) (now : ℕ) (es : List Effect) (a : Args) (left : List Args) (old s t : LiveState) → LiveIs ds es s
    → LiveIs ds (answered ds (Notify now a) es) t → s.pending ≡ a ∷ left → t.pending ≡ left
    → s.dispatcher.queue.spare ≤ t.dispatcher.queue.spare + 1 → t.dispatcher.queue.pumps ≡ s.dispatcher.queue.pumps
    → HandsOver old s → HandsOver old t
hands_over_more ds now es a left old s t h k was is spare pumps x =
    let p : length s.pending ≡ suc (length left) = ap length was in
    let q : length t.pending ≡ length left = ap length is in
    let ns = counted ds es s h in
    let nt : t.dispatcher.queue.place ≡ suc (length es) = counted ds (answered ds (Notify now a) es) t k in
    let ws = long ds es s h in
    let wt = long ds (answered ds (Notify now a) es) t k in
    let more : length (inbound (past_of (answered ds (Notify now a) es))) ≤ suc (length (inbound (past_of es))) =
    after_notify now a (reply_to es (Notify now a)) (past_of es) in
    let xs = x.spare_is in let xw = x.waiting_is in let xp = x.place_is in
    record {
      spare_is = omega (arith, p, q, spare, xs);
      pumps_are = pumps ∙ x.pumps_are;
      waiting_is = omega (arith, p, q, ws, wt, more, xw);
      place_is = omega (arith, p, q, ns, nt, xp);
    }

pub pumps_over_first : (s : LiveState) → PumpsOver s s
pumps_over_first s = record { spare_is = omega (arith); pumps_are = omega (arith); place_is = refl }

pub pumps_over_more : (ds : List ℕ) (now : ℕ) (es : List Effect) (old s t : LiveState) → LiveIs ds es s
    → LiveIs ds (answered ds (Pump now) es) t → is_waiting es ≡ true
    → s.dispatcher.queue.spare ≤ t.dispatcher.queue.spare → s.dispatcher.queue.pumps ≤ t.dispatcher.queue.pumps + 1
    → PumpsOver old s → PumpsOver old t
pumps_over_more ds now es old s t h k some spare pumps x =
    let ns = counted ds es s h in
    let nt : t.dispatcher.queue.place ≡ suc (length es) = counted ds (answered ds (Pump now) es) t k in
    let ws = long ds es s h in
    let wt = long ds (answered ds (Pump now) es) t k in
    let less = one_less ds now es some in
    let xs = x.spare_is in let xm = x.pumps_are in let xp = x.place_is in
    record {
      spare_is = omega (arith, spare, xs);
      pumps_are = omega (arith, ws, wt, less, pumps, xm);
      place_is = omega (arith, ns, nt, ws, wt, less, xp);
    }

-- a call that hands in no args takes no room for them
pub plus_none : (a b k : ℕ) → k ≡ 0 → a ≤ b + k → a ≤ b
plus_none a b k e h = omega (arith, e, h)

-- ---- all of it

-- what was handed in and dispatched left the rest of the room
pub room_left : (n : ℕ) (old mid new : LiveState) → length old.dispatcher.queue.waiting ≡ 0 → length mid.pending ≡ 0
    → HasRoom (length old.pending + n) old → HandsOver old mid → PumpsOver mid new → HasRoom n new
room_left n old mid new none all room x y =
    let a = room.spare in let b = room.pumps in
    let xs = x.spare_is in let xm = x.pumps_are in let xw = x.waiting_is in
    let ys = y.spare_is in let ym = y.pumps_are in
    record { spare = omega (arith, all, a, xs, ys); pumps = omega (arith, none, all, b, xm, xw, ym) }

pub less_room : (k n : ℕ) (s : LiveState) → HasRoom (k + n) s → HasRoom n s
less_room k n s r = let a = r.spare in let b = r.pumps in record { spare = omega (arith, a); pumps = omega (arith, b) }

-- the room is that of the dispatcher
pub same_room : (n : ℕ) (s t : LiveState) → t.dispatcher ≡ s.dispatcher → HasRoom n s → HasRoom n t
same_room n s t same r =
    record {
      spare = subst (λ (d : Dispatching). n ≤ d.queue.spare) (sym same) r.spare;
      pumps = subst (λ (d : Dispatching). n ≤ d.queue.pumps) (sym same) r.pumps;
    }

pub with_args : (all args : List Args) (n : ℕ) (s t : LiveState) → all ≡ args → t.dispatcher ≡ s.dispatcher
    → HasRoom (length args + n) s → HasRoom (length all + n) t
with_args all args n s t e same r = same_room (length all + n) s t same (subst (λ xs. HasRoom (length xs + n) s) (sym e) r)

pub count_args : (all args : List Args) (es : List Effect) → all ≡ args → MayCountMore (length args + length args) es
    → MayCountMore (length all + length all) es
count_args all args es e few = subst (λ xs. MayCountMore (length xs + length xs) es) (sym e) few

-- nothing waits
pub no_wait : (b : Bool) (ps : List Args) → (b || any_waits ps) ≡ false → (b ≡ false) × (ps ≡ [])
no_wait true ps e = absurd (true≢false e)
no_wait false [] e = (refl, refl)
no_wait false (p ∷ ps) e = absurd (true≢false e)

-- a service whose dispatcher has more room
pub live_roomy : (ds : List ℕ) (es : List Effect) (s : LiveState) (n : ℕ) (d : Dispatching) → LiveIs ds es s → d ≡ with_room n s.dispatcher
    → StandsFor es d → LiveIs ds es (record s { dispatcher = d })
live_roomy ds es s n d h same stands =
    let P : Dispatching → Type 0 = λ x. StandsFor es x → LiveIs ds es (record s { dispatcher = x }) in
    subst P (sym same) there stands
  where
    there : StandsFor es (with_room n s.dispatcher) → LiveIs ds es (record s { dispatcher = with_room n s.dispatcher })
    there stands =
        record {
          stands = stands;
          displays_are = h.displays_are;
          windows_are = h.windows_are;
          requests_are = h.requests_are;
          seats_are = h.seats_are;
          tenants_are = h.tenants_are;
          reported_are = h.reported_are;
          release = record { messages_are = h.release.messages_are; anrs_are = h.release.anrs_are };
          steps_are = h.steps_are;
        }

-- it has it then
pub has_room : (n : ℕ) (s : LiveState) (d : Dispatching) → s.dispatcher ≡ with_room n d → HasRoom n s
has_room n s d same =
    record {
      spare = subst (λ (x : Dispatching). n ≤ x.queue.spare) (sym same) (le-max_left n d.queue.spare);
      pumps = subst (λ (x : Dispatching). n ≤ x.queue.pumps) (sym same) (le-max_left n d.queue.pumps);
    }

-- or it is as it was
pub live_same : (ds : List ℕ) (es : List Effect) (s : LiveState) (d : Dispatching) → LiveIs ds es s → d ≡ s.dispatcher
    → LiveIs ds es (record s { dispatcher = d })
live_same ds es s d h same = subst (λ (x : Dispatching). LiveIs ds es (record s { dispatcher = x })) (sym same) h
