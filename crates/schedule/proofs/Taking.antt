-- The receives of the channels of a mask, one channel after another.
use Rattle.std.proofs.Common.{◌≡◌, ◌⊎◌, ℕ, zero, suc, ◌-◌, ◌<◌, ◌≤◌, ◌==◌, not, ◌&&◌, Bool, true, false, cond, List, [], ◌++◌, length, replicate, refl, sym, ap, ap₂, ◌∙◌, subst, inl, inr, arith, append_assoc, append-nil, None}
use Rattle.std.proofs.lemmas.Bool.{cases_eq, eq-eqb, ne_eqb, true≢false}
use Rattle.window_snapshot.specs.Mask.{mask_has}
use Rattle.dispatch_calls.specs.declared.call.Call.{Call}
use Rattle.dispatch_calls.specs.declared.call.Call.TheVariants.{Receive}
use Rattle.dispatch_history.specs.History.{live, opened, received}
use Rattle.dispatch_history.specs.Effect.{Effect, past_of, stream}
use Rattle.dispatch_history.specs.Delivery.{published, oldest}
use Rattle.dispatch_history.specs.Plan.{Plan}
use Rattle.dispatch_history.specs.Ordered.{extend, received_all}
use Rattle.dispatcher.specs.DispatchTables.Lawful.{Lawful}
use Rattle.dispatcher.proofs.DispatchTables.Ables.{live_number}
use Rattle.dispatcher.specs.Access.{gone, is_opened}
use Rattle.dispatcher.specs.Dispatching.{Dispatching}
use Rattle.schedule.specs.declared.keeping.Lines.{Lines}
use Rattle.schedule.specs.Receives.{receives_of, receives_to}
use Rattle.schedule.specs.Released.{AllReleased, KeepsUnfinished}
use Rattle.schedule.specs.State.{ScheduleState, HasWith}
use Rattle.schedule.proofs.Counting.{live_opened}
use Rattle.schedule.proofs.Receiving.{Later, later_refl, later_trans, published_later, extend_append, receiving_of, receives_next}
use Rattle.schedule.proofs.Released.{nothing_left}
use Rattle.schedule.proofs.Stepping.{lawful_of}

-- what is still to be received of those of the channels 1 to n that are in a mask
abbrev pub receives_in : List Effect → (mask : ℕ) → ℕ → List Call
receives_in es mask zero = []
receives_in es mask (suc n) = receives_in es mask n ++ cond (mask_has mask (suc n)) (receives_of es (suc n)) []

-- of a mask out of which nothing is to be received, that is all
all_in : (es : List Effect) (mask n : ℕ) → ((c : ℕ) → mask_has mask c ≡ false → receives_of es c ≡ []) → receives_in es mask n ≡ receives_to es n
all_in es mask zero none = refl
all_in es mask (suc n) none = ap₂ (λ xs ys. xs ++ ys) (all_in es mask n none) (by_mask (mask_has mask (suc n)) refl) ∙ sym (receives_next es n)
  where
    by_mask : (b : Bool) → mask_has mask (suc n) ≡ b → cond b (receives_of es (suc n)) [] ≡ receives_of es (suc n)
    by_mask true e = refl
    by_mask false e = sym (none (suc n) e)

-- where no channel is in the mask, nothing is
none_in : (es : List Effect) (mask n : ℕ) → ((c : ℕ) → c ≤ n → mask_has mask c ≡ false) → receives_in es mask n ≡ []
none_in es mask zero none = refl
none_in es mask (suc n) none =
    ap₂ (λ xs b. xs ++ cond b (receives_of es (suc n)) []) (none_in es mask n (λ c le. none c (omega (arith, le)))) (none (suc n) (omega arith))

-- the first channel of the mask comes first
first_in : (es : List Effect) (rest later k n : ℕ) → 1 ≤ k → k ≤ n → mask_has rest k ≡ true → ((d : ℕ) → d < k → mask_has rest d ≡ false)
    → ((d : ℕ) → mask_has later d ≡ (not (d == k) && mask_has rest d)) → receives_in es rest n ≡ receives_of es k ++ receives_in es later n
first_in es rest later k zero low high has below out = absurd (omega (arith, low, high))
first_in es rest later k (suc n) low high has below out = by_place (λ le. first_in es rest later k n low le has below out) (cases_eq k (suc n))
  where
    no : (b : Bool) → (b && false) ≡ false
    no true = refl
    no false = refl

    both : Bool → List Call → List Call
    both b xs = xs ++ cond b (receives_of es (suc n)) []

    by_place : (k ≤ n → receives_in es rest n ≡ receives_of es k ++ receives_in es later n) → (k ≡ suc n) ⊎ (k ≡ suc n → ⊥)
        → receives_in es rest (suc n) ≡ receives_of es k ++ receives_in es later (suc n)
    by_place before (inl e) =
        let here : mask_has rest (suc n) ≡ true = subst (λ m. mask_has rest m ≡ true) e has in
        let gone_out : mask_has later (suc n) ≡ false = out (suc n) ∙ ap (λ b. not b && mask_has rest (suc n)) (eq-eqb (suc n) k (sym e)) in
        let no_rest : receives_in es rest n ≡ [] = none_in es rest n (λ c le. below c (omega (arith, e, le))) in
        let no_later : receives_in es later n ≡ [] =
        none_in es later n (λ c le. out c ∙ ap (λ b. not (c == k) && b) (below c (omega (arith, e, le))) ∙ no (not (c == k))) in
        ap₂ both here no_rest
        ∙ ap (receives_of es) (sym e)
        ∙ sym (append-nil (receives_of es k))
        ∙ ap (λ xs. receives_of es k ++ xs) (sym (ap₂ both gone_out no_later))
    by_place before (inr ne) =
        let same : mask_has later (suc n) ≡ mask_has rest (suc n) =
        out (suc n) ∙ ap (λ b. not b && mask_has rest (suc n)) (ne_eqb (suc n) k (λ at. ne (sym at))) in
        ap₂ both (sym same) (before (omega (arith, high, ne)))
        ∙ append_assoc (receives_of es k) (receives_in es later n) (cond (mask_has later (suc n)) (receives_of es (suc n)) [])

-- what is to be received of the channels of a mask, where that of each of them is as it was
same_in : (es fs : List Effect) (mask n : ℕ) → ((d : ℕ) → mask_has mask d ≡ true → receives_of fs d ≡ receives_of es d) → receives_in fs mask n ≡ receives_in es mask n
same_in es fs mask zero same = refl
same_in es fs mask (suc n) same = ap₂ (λ xs ys. xs ++ ys) (same_in es fs mask n same) (by_mask (mask_has mask (suc n)) refl)
  where
    by_mask : (b : Bool) → mask_has mask (suc n) ≡ b → cond b (receives_of fs (suc n)) [] ≡ cond b (receives_of es (suc n)) []
    by_mask true e = same (suc n) e
    by_mask false e = refl

-- The owners of some channels have received all since these effects, and what those channels were sent is released; those of a mask are left.
pub record Midway (how : Lines) (plan : Plan) (es : List Effect) (d : Dispatching) (rest : ℕ) (s : ScheduleState) : Type 0 where
  pub fs : List Effect
  pub has : HasWith how plan fs s
  pub later_is : Later plan.displays es fs
  pub ends : extend plan.displays fs (receives_in fs rest (opened (past_of fs))) ≡ received_all plan.displays es
  pub live_in : (c : ℕ) → mask_has rest c ≡ true → live (past_of es) c ≡ true
  pub released_out : KeepsUnfinished es d → (c : ℕ) → 1 ≤ c → mask_has rest c ≡ false → gone s.dispatcher c ≡ length (stream es c)

-- so it is before the first
pub starts : (how : Lines) (plan : Plan) (es : List Effect) (s : ScheduleState) (mask : ℕ) → HasWith how plan es s
    → ((c : ℕ) → mask_has mask c ≡ true → live (past_of es) c ≡ true)
    → ((c : ℕ) → live (past_of es) c ≡ true → mask_has mask c ≡ false → oldest es c ≡ None) → Midway how plan es s.dispatcher mask s
starts how plan es s mask h there none =
    let l = lawful_of how plan es s h in
    record {
      fs = es;
      has = h;
      later_is = later_refl plan.displays es l;
      ends =
          ap (extend plan.displays es)
          (all_in es mask (opened (past_of es)) (λ c out. nothing_left plan.displays es c l (λ y. none c y out)));
      live_in = there;
      released_out = λ left c low out. left c low (λ y. none c y out);
    }

-- the next channel was opened
pub opened_there : (how : Lines) (plan : Plan) (es : List Effect) (d : Dispatching) (rest k : ℕ) (s : ScheduleState) (m : Midway how plan es d rest s)
    → mask_has rest k ≡ true → is_opened (extend plan.displays m.fs (receives_of m.fs k)) k ≡ true
opened_there how plan es d rest k s m has =
    let after = receiving_of plan.displays m.fs k (lawful_of how plan m.fs s m.has) in
    live_opened plan.displays (extend plan.displays m.fs (receives_of m.fs k)) k after.0.lawful (after.0.live_is k ∙ m.later_is.live_is k ∙ m.live_in k has)

-- and so after one more
pub goes_on : (how : Lines) (plan : Plan) (es : List Effect) (d : Dispatching) (rest later k : ℕ) (s t : ScheduleState) (m : Midway how plan es d rest s)
    → 1 ≤ k → mask_has rest k ≡ true → ((c : ℕ) → mask_has rest c ≡ true → k ≤ c) → ((c : ℕ) → mask_has later c ≡ (not (c == k) && mask_has rest c))
    → HasWith how plan (extend plan.displays m.fs (receives_of m.fs k)) t
    → gone t.dispatcher k ≡ length (stream (extend plan.displays m.fs (receives_of m.fs k)) k)
    → ((c : ℕ) → 1 ≤ c → (c == k) ≡ false → gone t.dispatcher c ≡ gone s.dispatcher c) → Midway how plan es d later t
goes_on how plan es d rest later k s t m low has first out h own others =
    record {
      fs = extend plan.displays m.fs (receives_of m.fs k);
      has = h;
      later_is = later_trans plan.displays es m.fs (extend plan.displays m.fs (receives_of m.fs k)) m.later_is after.0;
      ends =
          ap (λ n. extend plan.displays (extend plan.displays m.fs (receives_of m.fs k)) (receives_in (extend plan.displays m.fs (receives_of m.fs k)) later n)) after.0.opened_is
          ∙ ap (extend plan.displays (extend plan.displays m.fs (receives_of m.fs k)))
          (same_in m.fs (extend plan.displays m.fs (receives_of m.fs k)) later (opened (past_of m.fs)) (λ c there. left_same c (apart c there)))
          ∙ sym (extend_append plan.displays m.fs (receives_of m.fs k) (receives_in m.fs later (opened (past_of m.fs))))
          ∙ ap (extend plan.displays m.fs)
          (sym (first_in m.fs rest later k (opened (past_of m.fs)) low (live_number plan.displays m.fs k l (m.later_is.live_is k ∙ m.live_in k has)).1 has none_below out))
          ∙ m.ends;
      live_in = λ c there. m.live_in c (was c there (apart c there));
      released_out = λ left c one away. by_channel left c one away (cases_eq c k);
    }
  where
    l : Lawful plan.displays m.fs
    l = lawful_of how plan m.fs s m.has

    after : Later plan.displays m.fs (extend plan.displays m.fs (receives_of m.fs k))
        × (live (past_of m.fs) k ≡ true → received (past_of (extend plan.displays m.fs (receives_of m.fs k))) k ≡ published m.fs k)
        × ((c : ℕ) → (c ≡ k → ⊥) → received (past_of (extend plan.displays m.fs (receives_of m.fs k))) c ≡ received (past_of m.fs) c)
    after = receiving_of plan.displays m.fs k l

    none_below : (c : ℕ) → c < k → mask_has rest c ≡ false
    none_below c lt = by_bit (mask_has rest c) refl
      where
        by_bit : (b : Bool) → mask_has rest c ≡ b → b ≡ false
        by_bit true e = absurd (omega (arith, first c e, lt))
        by_bit false e = refl

    apart : (c : ℕ) → mask_has later c ≡ true → c ≡ k → ⊥
    apart c there e = true≢false (sym there ∙ out c ∙ ap (λ b. not b && mask_has rest c) (eq-eqb c k e))

    was : (c : ℕ) → mask_has later c ≡ true → (c ≡ k → ⊥) → mask_has rest c ≡ true
    was c there ne = sym (out c ∙ ap (λ b. not b && mask_has rest c) (ne_eqb c k ne)) ∙ there

    left_same : (c : ℕ) → (c ≡ k → ⊥) → receives_of (extend plan.displays m.fs (receives_of m.fs k)) c ≡ receives_of m.fs c
    left_same c ne =
        ap₂ (λ (v : Bool) (n : ℕ). cond v (replicate n (Receive c)) []) (after.0.live_is c)
        (ap₂ (λ (p r : ℕ). p - r) (published_later plan.displays m.fs (extend plan.displays m.fs (receives_of m.fs k)) after.0 c) (after.2 c ne))

    by_channel : KeepsUnfinished es d → (c : ℕ) → 1 ≤ c → mask_has later c ≡ false → (c ≡ k) ⊎ (c ≡ k → ⊥) → gone t.dispatcher c ≡ length (stream es c)
    by_channel left c one away (inl e) =
        subst (λ n. gone t.dispatcher n ≡ length (stream es n)) (sym e) (own ∙ ap length (after.0.stream_is k ∙ m.later_is.stream_is k))
    by_channel left c one away (inr ne) =
        others c one (ne_eqb c k ne)
        ∙ m.released_out left c one (sym (out c ∙ ap (λ b. not b && mask_has rest c) (ne_eqb c k ne)) ∙ away)

-- where none is left, all is received
pub all_received : (how : Lines) (plan : Plan) (es : List Effect) (d : Dispatching) (rest : ℕ) (s : ScheduleState) → Midway how plan es d rest s
    → ((c : ℕ) → mask_has rest c ≡ false) → HasWith how plan (received_all plan.displays es) s
all_received how plan es d rest s m none =
    subst (λ gs. HasWith how plan gs s)
    (ap (extend plan.displays m.fs) (sym (none_in m.fs rest (opened (past_of m.fs)) (λ c le. none c))) ∙ m.ends) m.has

-- and released
pub all_released : (how : Lines) (plan : Plan) (es : List Effect) (d : Dispatching) (rest : ℕ) (s : ScheduleState) → Midway how plan es d rest s
    → ((c : ℕ) → mask_has rest c ≡ false) → KeepsUnfinished es d → AllReleased es s.dispatcher
all_released how plan es d rest s m none left = λ c low. m.released_out left c low (none c)
