-- A client is closed in part.
use Rattle.std.proofs.Common.{◌≡◌, ℕ, Bool, true, false, cond, List, [], ◌∷◌, ◌++◌, length, Option, Some, None, refl, sym, subst}
use Rattle.std.specs.Prelude.{nat_le, nat_lt, option_map}
use Rattle.focus_resolver.specs.Resolver.{is_at}
use Rattle.window_snapshot.specs.Named.{is_named}
use Rattle.dispatch_calls.specs.declared.call.Call.{Call}
use Rattle.dispatch_calls.specs.declared.call.Call.TheVariants.{Windows, FocusOn, Receive, Finish}
use Rattle.dispatch_history.specs.Delivery.{oldest}
use Rattle.dispatch_history.specs.Effect.{Effect, past_of, stream}
use Rattle.dispatch_history.specs.Focus.{requested}
use Rattle.dispatch_history.specs.History.{received, snapshot}
use Rattle.dispatch_history.specs.Legal.{answered}
use Rattle.dispatch_history.specs.Ordered.{extend}
use Rattle.live_input.specs.Closing.{forgotten_on, hidden, without}
use Rattle.live_input.specs.Settling.{Follows, Reaches, left_call, next_left}
use Rattle.live_input.specs.Standing.{LiveIs}
use Rattle.live_input.specs.State.{LiveState}
use Rattle.live_input.specs.Taking.{TakeAll, TakenInPart, Takes}

-- more calls after some
extend_more : (ds : List ℕ) (es : List Effect) (calls more : List Call) → extend ds es (calls ++ more) ≡ extend ds (extend ds es calls) more
extend_more ds es [] more = refl
extend_more ds es (c ∷ cs) more = extend_more ds (answered ds c es) cs more

module _ (ds : List ℕ) (now c : ℕ) where
  take_more : (es : List Effect) (calls more : List Call) → TakeAll ds now c es calls → TakeAll ds now c (extend ds es calls) more
      → TakeAll ds now c es (calls ++ more)
  take_more es [] more a b = b
  take_more es (k ∷ ks) more a b = (a.0, take_more (answered ds k es) ks more a.1 b)

  -- nothing was taken
  abbrev pub taken_none : (es : List Effect) (s : LiveState) → LiveIs ds es s → TakenInPart ds now c es s
  taken_none es s h = record { calls = []; take = tt; is = h }

  -- something more
  pub taken_then : (es : List Effect) (s t : LiveState) (r : TakenInPart ds now c es s) (more : List Call)
      → TakeAll ds now c (extend ds es r.calls) more → LiveIs ds (extend ds (extend ds es r.calls) more) t → TakenInPart ds now c es t
  taken_then es s t r more take h =
      record {
        calls = r.calls ++ more;
        take = take_more es r.calls more r.take take;
        is = subst (λ fs. LiveIs ds fs t) (sym (extend_more ds es r.calls more)) h;
      }

  -- a state that is the same
  pub taken_same : (es : List Effect) (s t : LiveState) → t ≡ s → TakenInPart ds now c es s → TakenInPart ds now c es t
  taken_same es s t e r = subst (TakenInPart ds now c es) (sym e) r

  -- a request for the channel, if there is one
  pub taken_request : (es : List Effect) (s t : LiveState) (r : TakenInPart ds now c es s) (z : ℕ)
      → LiveIs ds (forgotten_on ds now c z (extend ds es r.calls)) t → TakenInPart ds now c es t
  taken_request es s t r z h = by_test (is_at (requested (past_of (extend ds es r.calls)) z) c) refl h
    where
      by_test : (b : Bool) → is_at (requested (past_of (extend ds es r.calls)) z) c ≡ b
          → LiveIs ds (cond b (answered ds (FocusOn now z None false) (extend ds es r.calls)) (extend ds es r.calls)) t → TakenInPart ds now c es t
      by_test true e k = taken_then es s t r (FocusOn now z None false ∷ []) ((refl, refl, refl, e), tt) k
      by_test false e k = record { calls = r.calls; take = r.take; is = k }

  -- messages
  takes_of : List Effect → Option Call → Type 0
  takes_of es None = Unit {0}
  takes_of es (Some call) = Takes now c es call

  takes_cond : (es : List Effect) (b : Bool) (call : Call) (o : Option Call) → Takes now c es call → takes_of es o → takes_of es (cond b (Some call) o)
  unfolding takes_of
  takes_cond es true call o p q = p
  takes_cond es false call o p q = q

  takes_left : (es : List Effect) (r n : ℕ) (o : Option ℕ) → takes_of es (left_call now c r n o)
  unfolding takes_of
  takes_left es r n None = takes_cond es (nat_lt r n) (Receive c) None refl tt
  takes_left es r n (Some seq) =
      takes_cond es (nat_le seq r) (Finish now c seq) (cond (nat_lt r n) (Some (Receive c)) None) (refl, refl)
      (takes_cond es (nat_lt r n) (Receive c) None refl tt)

  next_takes : (es : List Effect) (call : Call) → next_left now c es ≡ Some call → Takes now c es call
  unfolding takes_of
  next_takes es call e =
      let P : Option Call → Type 0 = takes_of es in
      subst P e (takes_left es (received (past_of es) c) (length (stream es c)) (option_map (λ m. m.seq) (oldest es c)))

  pub all_left : (es : List Effect) (calls : List Call) → Follows (next_left now c) ds es calls → TakeAll ds now c es calls
  all_left es [] f = tt
  all_left es (k ∷ ks) f = (next_takes es k f.0, all_left (answered ds k es) ks f.1)

  pub taken_left : (es : List Effect) (s t : LiveState) (r : TakenInPart ds now c es s) → Reaches ds (next_left now c) (extend ds es r.calls) t
      → TakenInPart ds now c es t
  taken_left es s t r x = taken_then es s t r x.calls (all_left (extend ds es r.calls) x.calls x.follows) x.is

-- the window, if there is one, before the rest
shown_without : Bool → List ℕ → (now channel : ℕ) → List Effect → List Effect
shown_without b ds now c es = cond b (answered ds (Windows now (without c (snapshot (past_of es)))) es) es

taken_before : (b : Bool) (ds : List ℕ) (now c : ℕ) (es : List Effect) (t : LiveState) → TakenInPart ds now c (shown_without b ds now c es) t
    → TakenInPart ds now c es t
unfolding shown_without
taken_before true ds now c es t x =
    record { calls = Windows now (without c (snapshot (past_of es))) ∷ x.calls; take = ((refl, refl), x.take); is = x.is }
taken_before false ds now c es t x = x

pub taken_hidden : (ds : List ℕ) (now c : ℕ) (es : List Effect) (t : LiveState) → TakenInPart ds now c (hidden ds now c es) t → TakenInPart ds now c es t
unfolding shown_without
taken_hidden ds now c es t r = taken_before (is_named (snapshot (past_of es)) c) ds now c es t r
