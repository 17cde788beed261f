-- Calls made one after another.
use Rattle.std.proofs.Common.{◌≡◌, ℕ, ◌||◌, Bool, true, false, cond, List, [], ◌∷◌, ◌++◌, length, Option, Some, None, refl, sym, ap, ◌∙◌, subst}
use Rattle.std.specs.Prelude.{nat_le, nat_lt, option_map}
use Rattle.dispatch_calls.specs.declared.call.Call.{Call}
use Rattle.dispatch_calls.specs.declared.call.Call.TheVariants.{Pump, Tick, Receive, Finish}
use Rattle.dispatch_history.specs.Delivery.{is_reported_by, oldest}
use Rattle.dispatch_history.specs.Effect.{Effect, past_of, stream}
use Rattle.dispatch_history.specs.History.{received}
use Rattle.dispatch_history.specs.KeySent.{repeat_due}
use Rattle.dispatch_history.specs.Legal.{answered}
use Rattle.dispatch_history.specs.Ordered.{extend}
use Rattle.dispatch_history.specs.Reply.{reply_to}
use Rattle.dispatcher.specs.Access.{is_waiting}
use Rattle.window_snapshot.specs.Mask.{mask_has}
use Rattle.live_input.specs.Advancing.{Advances, Advanced}
use Rattle.live_input.specs.Settling.{Follows, Reaches, is_reported_in, next_waiting, next_left, next_due, left_call, tick_by, repeat_by, sooner_call, timeout}
use Rattle.live_input.specs.declared.client.Seat.{Seat}
use Rattle.live_input.specs.Seats.{IsHeld}
use Rattle.live_input.specs.Standing.{IsMaskOfHeld, IsOfHeld, LiveIs, is_plain}
use Rattle.live_input.specs.State.{LiveState}

-- one call after others
pub extend_last : (ds : List ℕ) (es : List Effect) (calls : List Call) (call : Call)
    → extend ds es (calls ++ call ∷ []) ≡ answered ds call (extend ds es calls)
extend_last ds es [] call = refl
extend_last ds es (c ∷ cs) call = extend_last ds (answered ds c es) cs call

-- it is the next one then
pub follows_last : (next : List Effect → Option Call) (ds : List ℕ) (es : List Effect) (calls : List Call) (call : Call)
    → Follows next ds es calls → next (extend ds es calls) ≡ Some call → Follows next ds es (calls ++ call ∷ [])
follows_last next ds es [] call f e = (e, tt)
follows_last next ds es (c ∷ cs) call f e = (f.0, follows_last next ds (answered ds c es) cs call f.1 e)

-- where nothing is next, nothing was made, so nothing is next after it
pub none_follows : (next : List Effect → Option Call) (ds : List ℕ) (es : List Effect) (calls : List Call) (call : Call)
    → Follows next ds es calls → next es ≡ None → next (extend ds es calls) ≡ Some call → ⊥
none_follows next ds es [] call f none e = none≢some call (sym none ∙ e)
  where
    none≢some : (k : Call) → None ≡ Some k → ⊥
    none≢some k e = cc
none_follows next ds es (c ∷ cs) call f none e = none≢some c (sym none ∙ f.0)
  where
    none≢some : (k : Call) → None ≡ Some k → ⊥
    none≢some k e = cc

-- the channels that one more call reports
pub named_last : (ds : List ℕ) (es : List Effect) (calls : List Call) (call : Call) (c : ℕ)
    → is_reported_in ds es (calls ++ call ∷ []) c ≡ (is_reported_in ds es calls c || is_reported_by call (reply_to (extend ds es calls) call) c)
named_last ds es [] call c = or_false (is_reported_by call (reply_to es call) c)
  where
    or_false : (b : Bool) → (b || false) ≡ b
    or_false true = refl
    or_false false = refl
named_last ds es (k ∷ ks) call c =
    ap (λ b. is_reported_by k (reply_to es k) c || b) (named_last ds (answered ds k es) ks call c)
    ∙ sym (or_more (is_reported_by k (reply_to es k) c) (is_reported_in ds (answered ds k es) ks c) (is_reported_by call (reply_to (extend ds (answered ds k es) ks) call) c))
  where
    or_more : (a b c : Bool) → ((a || b) || c) ≡ (a || (b || c))
    or_more true b c = refl
    or_more false b c = refl

-- nothing was done yet
pub reaches_first : (ds : List ℕ) (next : List Effect → Option Call) (es : List Effect) (s : LiveState) → LiveIs ds es s → Reaches ds next es s
reaches_first ds next es s h = record { calls = []; follows = tt; is = h }

-- one more call is made, which is the next one
pub reaches_more : (ds : List ℕ) (next : List Effect → Option Call) (es : List Effect) (s t : LiveState) (call : Call)
    → (r : Reaches ds next es s) → next (extend ds es r.calls) ≡ Some call → LiveIs ds (answered ds call (extend ds es r.calls)) t
    → Reaches ds next es t
reaches_more ds next es s t call r e h =
    record {
      calls = r.calls ++ call ∷ [];
      follows = follows_last next ds es r.calls call r.follows e;
      is = subst (λ fs. LiveIs ds fs t) (sym (extend_last ds es r.calls call)) h;
    }

-- the next call is a plain one, and not for a channel on which no client is open
plain_of : List Seat → Option Call → Type 0
plain_of seats None = Unit {0}
plain_of seats (Some call) = (is_plain call ≡ true) × IsOfHeld seats call

module _ (seats : List Seat) where
  plain_some : (o : Option Call) (call : Call) → plain_of seats o → o ≡ Some call → (is_plain call ≡ true) × IsOfHeld seats call
  unfolding plain_of
  plain_some o call p e = let P : Option Call → Type 0 = plain_of seats in subst P e p

  plain_cond : (b : Bool) (x y : Option Call) → plain_of seats x → plain_of seats y → plain_of seats (cond b x y)
  plain_cond true x y p q = p
  plain_cond false x y p q = q

  pub plain_waiting : (now : ℕ) (es : List Effect) (call : Call) → next_waiting now es ≡ Some call → (is_plain call ≡ true) × IsOfHeld seats call
  unfolding plain_of
  plain_waiting now es call e = plain_some (next_waiting now es) call (plain_cond (is_waiting es) (Some (Pump now)) None (refl, tt) tt) e

  left_plain : (now c received sent : ℕ) (o : Option ℕ) → IsHeld c seats → plain_of seats (left_call now c received sent o)
  unfolding plain_of
  left_plain now c received sent None held = plain_cond (nat_lt received sent) (Some (Receive c)) None (refl, held) tt
  left_plain now c received sent (Some seq) held =
      plain_cond (nat_le seq received) (Some (Finish now c seq)) (cond (nat_lt received sent) (Some (Receive c)) None) (refl, held)
      (plain_cond (nat_lt received sent) (Some (Receive c)) None (refl, held) tt)

  pub plain_left : (now c : ℕ) (es : List Effect) (call : Call) → IsHeld c seats → next_left now c es ≡ Some call
      → (is_plain call ≡ true) × IsOfHeld seats call
  plain_left now c es call held e =
      plain_some (next_left now c es) call
      (left_plain now c (received (past_of es) c) (length (stream es c)) (option_map (λ m. m.seq) (oldest es c)) held)
      e

  tick_plain : (now : ℕ) (o : Option ℕ) → plain_of seats (tick_by now o)
  unfolding plain_of
  tick_plain now None = tt
  tick_plain now (Some t) = plain_cond (nat_le t now) (Some (Tick t)) None (refl, tt) tt

  repeat_plain : (now : ℕ) (o : Option ℕ) → plain_of seats (repeat_by now o)
  unfolding plain_of
  repeat_plain now None = tt
  repeat_plain now (Some t) = plain_cond (nat_le t now) (Some (Pump t)) None (refl, tt) tt

  sooner_plain : (now : ℕ) (a b : Option ℕ) → plain_of seats (sooner_call now a b)
  sooner_plain now None b = repeat_plain now b
  sooner_plain now (Some t) None = tick_plain now (Some t)
  sooner_plain now (Some t) (Some r) =
      plain_cond (nat_lt r t) (repeat_by now (Some r)) (tick_by now (Some t)) (repeat_plain now (Some r)) (tick_plain now (Some t))

  pub plain_due : (now : ℕ) (es : List Effect) (call : Call) → next_due now es ≡ Some call → (is_plain call ≡ true) × IsOfHeld seats call
  unfolding plain_of
  plain_due now es call e =
      plain_some (next_due now es) call
      (plain_cond (is_waiting es) (Some (Pump now)) (sooner_call now (timeout es) (repeat_due es)) (refl, tt) (sooner_plain now (timeout es) (repeat_due es)))
      e

-- a service that stands for the same reaches the same
abbrev pub reaches_same : (ds : List ℕ) (next : List Effect → Option Call) (es : List Effect) (s t : LiveState) → (r : Reaches ds next es s)
    → LiveIs ds (extend ds es r.calls) t → Reaches ds next es t
reaches_same ds next es s t r h = record { calls = r.calls; follows = r.follows; is = h }

pub or_none : (b : Bool) → b ≡ (b || false)
or_none true = refl
or_none false = refl

pub or_more : (a b c : Bool) → ((a || b) || c) ≡ (a || (b || c))
or_more true b c = refl
or_more false b c = refl

-- other clients that are open are reported
pub live_noted : (ds : List ℕ) (es : List Effect) (s : LiveState) (n : ℕ) → LiveIs ds es s → IsMaskOfHeld n s.seats
    → LiveIs ds es (record s { reported = n })
live_noted ds es s n h named =
    record { stands = h.stands; displays_are = h.displays_are; windows_are = h.windows_are; requests_are = h.requests_are; seats_are = h.seats_are; tenants_are = h.tenants_are; reported_are = named; release = h.release; steps_are = h.steps_are }

-- nothing that is due has been done yet
pub advances_first : (ds : List ℕ) (now : ℕ) (es : List Effect) (s : LiveState) → LiveIs ds es s → Advances ds now es s s
advances_first ds now es s h = record { calls = []; follows = tt; is = h; reported_are = λ c. or_none (mask_has s.reported c) }

-- one more call
pub advances_more : (ds : List ℕ) (now : ℕ) (es : List Effect) (old s t : LiveState) (call : Call) → (a : Advances ds now es old s)
    → next_due now (extend ds es a.calls) ≡ Some call
    → LiveIs ds (answered ds call (extend ds es a.calls)) t
    → ((c : ℕ) → mask_has t.reported c ≡ (mask_has s.reported c || is_reported_by call (reply_to (extend ds es a.calls) call) c))
    → Advances ds now es old t
advances_more ds now es old s t call a e h n =
    record {
      calls = a.calls ++ call ∷ [];
      follows = follows_last (next_due now) ds es a.calls call a.follows e;
      is = subst (λ fs. LiveIs ds fs t) (sym (extend_last ds es a.calls call)) h;
      reported_are = λ c.
          n c
          ∙ ap (λ b. b || is_reported_by call (reply_to (extend ds es a.calls) call) c) (a.reported_are c)
          ∙ or_more (mask_has old.reported c) (is_reported_in ds es a.calls c) (is_reported_by call (reply_to (extend ds es a.calls) call) c)
          ∙ ap (λ b. mask_has old.reported c || b) (sym (named_last ds es a.calls call c));
    }

-- everything was done, and the reports are returned
pub advanced : (ds : List ℕ) (now : ℕ) (es : List Effect) (old s t : LiveState) (mask : ℕ) → (a : Advances ds now es old s)
    → next_due now (extend ds es a.calls) ≡ None → mask ≡ s.reported → LiveIs ds (extend ds es a.calls) t → t.reported ≡ 0
    → Advanced ds now es mask old t
advanced ds now es old s t mask a e m h z =
    record {
      calls = a.calls;
      follows = a.follows;
      done = e;
      is = h;
      reported_are = λ c. ap (λ n. mask_has n c) m ∙ a.reported_are c;
      outgoing = z;
    }
