-- A channel without an unfinished message has no next finish; that of an owner who finishes at once is due by the clock.
use Rattle.std.proofs.Common.{◌≡◌, ℕ, ◌+◌, ◌≤◌, ◌&&◌, Bool, true, false, cond, List, [], ◌∷◌, map, Option, Some, None, refl, sym, ap, ◌∙◌, arith}
use Rattle.std.specs.Prelude.{is_some, option_map, slice_get}
use Rattle.std.proofs.lemmas.Bool.Decides.{nat_tests}
use Rattle.input_types.specs.declared.message.Message.{Message}
use Rattle.dispatcher.specs.InputChannel.Order.{NoneAfter}
use Rattle.dispatch_calls.specs.declared.call.Call.TheVariants.{Finish}
use Rattle.dispatch_history.specs.Delivery.{delivery, oldest, unfinished}
use Rattle.dispatch_history.specs.Effect.{Effect, past_of}
use Rattle.dispatch_history.specs.History.{clock, live}
use Rattle.dispatch_history.specs.Ordered.{Candidate}
use Rattle.dispatch_history.specs.Plan.{ChannelOf}
use Rattle.dispatcher.specs.Access.{oldest_delivery}
use Rattle.dispatcher.specs.DispatchTables.Lawful.{Lawful}
use Rattle.dispatcher.proofs.DispatchTables.Kept.{none_after_clock}
use Rattle.schedule.specs.declared.due.Due.{Due}
use Rattle.schedule.specs.Choosing.{is_due_by}
use Rattle.schedule.specs.DueView.{candidate_of}
use Rattle.schedule.specs.Handing.{single}
use Rattle.schedule.specs.Next.{finish_at, next_finish, oldest_pair}

-- a channel without a pair of a number and a delivery has no such message
pub none_oldest : (es : List Effect) (c : ℕ) → oldest_delivery es c ≡ None → oldest es c ≡ None
none_oldest es c e = by_oldest (oldest es c) refl
  where
    by_oldest : (o : Option Message) → oldest es c ≡ o → o ≡ None
    by_oldest None q = refl
    by_oldest (Some m) q =
        let here : oldest_delivery es c ≡ Some (m.seq, delivery es c m.seq) = rw q refl in
        let not_there : Some (m.seq, delivery es c m.seq) ≡ None = sym here ∙ e in
        absurd (cc not_there)

-- nor has it a next finish
pub no_finish : (es : List Effect) (c : ℕ) (p : ChannelOf) → oldest es c ≡ None → next_finish es c p ≡ None
no_finish es c p e =
    ap (λ (o : Option Message). cond (live (past_of es) c && p.finishes) (option_map (finish_at c p.finish_after) (option_map {U = ℕ × ℕ} (λ m. (m.seq, delivery es c m.seq)) o)) None) e
    ∙ same (live (past_of es) c && p.finishes) None
  where
    same : (b : Bool) (o : Option Candidate) → cond b o o ≡ o
    same true o = refl
    same false o = refl

-- a finish at the delivery of the oldest message is due by a moment after which nothing was delivered
delivered_by : (es : List Effect) (c t after : ℕ) (ms : List Message) (x : Candidate) → after ≡ 0
    → NoneAfter t (map (λ m. record { seq = m.seq; delivery = delivery es c m.seq }) ms)
    → option_map (finish_at c after) (option_map {U = ℕ × ℕ} (λ m. (m.seq, delivery es c m.seq)) (slice_get ms 0)) ≡ Some x → x.moment ≤ t
delivered_by es c t after [] x none h e = absurd (cc e)
delivered_by es c t after (m ∷ ms) x none h e =
    let same : finish_at c after (m.seq, delivery es c m.seq) ≡ x = cc in
    let at : delivery es c m.seq + after ≡ x.moment = ap (λ (y : Candidate). y.moment) same in
    omega (arith, none, h.0, at)

-- so the next finish of a channel whose owner finishes at once is due by the clock
pub at_once_due : (ds : List ℕ) (es : List Effect) (c : ℕ) (p : ChannelOf) (found : Option Due) → Lawful ds es
    → option_map candidate_of found ≡ next_finish es c p → is_some found ≡ true → p.finish_after ≡ 0
    → is_due_by (option_map candidate_of found) (clock (past_of es)) ≡ true
at_once_due ds es c p None l is some none = absurd (cc some)
at_once_due ds es c p (Some d) l is some none =
    let low : d.moment ≤ clock (past_of es) = by_live (live (past_of es) c && p.finishes) (sym is) in
    grind (arith, nat_tests)
  where
    by_live : (b : Bool)
        → cond b (option_map (finish_at c p.finish_after) (oldest_pair es c)) None ≡ Some (candidate_of d)
        → d.moment ≤ clock (past_of es)
    by_live true e =
        delivered_by es c (clock (past_of es)) p.finish_after (unfinished es c) (candidate_of d) none
        (none_after_clock ds es c 0 0 (clock (past_of es)) l (omega arith)) e
    by_live false e = absurd (cc e)

-- no time later is the same moment
plus_zero : (t : ℕ) → t + 0 ≡ t
plus_zero t = omega arith

-- the next finish of a channel whose owner finishes at once is at the delivery of its oldest message
pub at_once_is : (es : List Effect) (c : ℕ) (p : ChannelOf) (seq t : ℕ) → live (past_of es) c ≡ true → p.finishes ≡ true → p.finish_after ≡ 0
    → oldest_delivery es c ≡ Some (seq, t) → next_finish es c p ≡ Some (single (Finish t c seq))
at_once_is es c p seq t y f none e = by_oldest (oldest es c) refl
  where
    by_oldest : (o : Option Message) → oldest es c ≡ o → next_finish es c p ≡ Some (single (Finish t c seq))
    by_oldest None q =
        let here : oldest_delivery es c ≡ None = rw q refl in
        let not_there : None ≡ Some (seq, t) = sym here ∙ e in
        absurd (cc not_there)
    by_oldest (Some m) q =
        let here : oldest_delivery es c ≡ Some (m.seq, delivery es c m.seq) = rw q refl in
        let pair : Some (m.seq, delivery es c m.seq) ≡ Some (seq, t) = sym here ∙ e in
        rw (y, f, none, q) (ap (option_map {U = Candidate} (finish_at c 0)) pair ∙ ap (λ u. Some (single (Finish u c seq))) (plus_zero t))
