-- What holds when nothing is left to do.
use Rattle.std.proofs.Common.{◌≡◌, ℕ, ◌<◌, ◌||◌, min, Bool, true, false, cond, List, [], Option, Some, None, refl, sym, ap, ◌∙◌, subst, arith}
use Rattle.std.specs.Prelude.{nat_le, nat_lt}
use Rattle.std.proofs.lemmas.Bool.{leb-false, ltb-true, ltb-false}
use Rattle.input_types.specs.declared.message.Args.{Args}
use Rattle.dispatch_calls.specs.declared.call.Call.{Call}
use Rattle.dispatch_calls.specs.declared.call.Call.TheVariants.{Pump, Tick}
use Rattle.dispatch_history.specs.Effect.{Effect}
use Rattle.dispatch_history.specs.KeySent.{repeat_due}
use Rattle.dispatcher.specs.Access.{any_waits, is_waiting}
use Rattle.live_input.specs.Laws.{DoneLaw, LaterLaw}
use Rattle.live_input.specs.Settling.{repeat_by, sooner, sooner_call, tick_by, timeout}
use Rattle.live_input.specs.State.{LiveState}
use Rattle.live_input.proofs.Emptied.{left_none}
use Rattle.live_input.proofs.Outgoing.{live_lawful}

some_inj : (a b : ℕ) → Some a ≡ Some b → a ≡ b
some_inj a b e = cc

-- nothing is made of a moment that is later
not_yet : (now t : ℕ) (call : Call) → cond (nat_le t now) (Some call) None ≡ None → now < t
not_yet now t call e = by_test (nat_le t now) refl e
  where
    by_test : (b : Bool) → nat_le t now ≡ b → cond b (Some call) None ≡ None → now < t
    by_test true is k = absurd cc
    by_test false is k = leb-false t now is

later_of : (now : ℕ) (a b : Option ℕ) (t : ℕ) → sooner_call now a b ≡ None → sooner a b ≡ Some t → now < t
later_of now None None t none e = absurd cc
later_of now None (Some r) t none e = subst (λ n. now < n) (some_inj r t e) (not_yet now r (Pump r) none)
later_of now (Some u) None t none e = subst (λ n. now < n) (some_inj u t e) (not_yet now u (Tick u) none)
later_of now (Some u) (Some r) t none e = subst (λ n. now < n) (some_inj (min u r) t e) (by_test (nat_lt r u) refl none)
  where
    by_test : (b : Bool) → nat_lt r u ≡ b → cond b (repeat_by now (Some r)) (tick_by now (Some u)) ≡ None → now < min u r
    by_test true is k = let lt = ltb-true r u is in let later = not_yet now r (Pump r) k in omega (arith, lt, later)
    by_test false is k = let le = ltb-false r u is in let later = not_yet now u (Tick u) k in omega (arith, le, later)

due_with : Bool → List Args → List Effect → LiveState → Option ℕ
due_with b ps es s = cond (b || any_waits ps) (Some s.clock) (sooner (timeout es) (cond b None (repeat_due es)))

later_by : (b : Bool) (now : ℕ) (es : List Effect) (s : LiveState) (t : ℕ)
    → cond b (Some (Pump now)) (sooner_call now (timeout es) (repeat_due es)) ≡ None → due_with b [] es s ≡ Some t → now < t
unfolding due_with
later_by true now es s t k e = absurd cc
later_by false now es s t k e = later_of now (timeout es) (repeat_due es) t k e

pub later_law : LaterLaw
unfolding due_with
later_law now es s t none empty due = later_by (is_waiting es) now es s t none (ap (λ ps. due_with (is_waiting es) ps es s) (sym empty) ∙ due)

pub done_law : DoneLaw
done_law ds now es s c h none = left_none ds es now c (live_lawful ds es s h) none
