-- Which channels are due, and which one is first.
use Rattle.std.proofs.Common.{◌≡◌, ◌≢◌, ℕ, ◌+◌, ◌<◌, nat_le, Bool, true, false, ◌&&◌, ◌||◌, cond, ◌⊎◌, Option, Some, None, refl, sym, ap, ap₂, ◌∙◌, arith, inl, inr}
use Rattle.std.proofs.lemmas.Bool.{cases_eq, eq-eqb, and_from, lt-ltb, le-leb}
use Rattle.std.proofs.lemmas.Bool.Decides.{nat_tests}
use Rattle.dispatcher.specs.AnrTracker.Due.{IsFirst, is_before}
use Rattle.window_snapshot.specs.Mask.{is_channel, mask_has, mask_with}
use Rattle.window_snapshot.proofs.Masks.{mask_has-with, mask_has-zero}
use Rattle.dispatch_history.specs.Reply.{is_due}
use Rattle.dispatcher.proofs.DispatchChannels.Wholes.{with_other}

-- what comes first of one map comes first of a map that is the same
pub first_as : (f g : ℕ → Option ℕ) → ((c : ℕ) → f c ≡ g c) → (r : Option (ℕ × ℕ)) → IsFirst f r → IsFirst g r
first_as f g e None h = λ c. sym (e c) ∙ h c
first_as f g e (Some p) h = (sym (e p.1) ∙ h.0, λ q at. h.1 q (e q.1 ∙ at))

-- nobody is due where nothing comes first
pub nobody_due : (f : ℕ → Option ℕ) (now c : ℕ) → IsFirst f None → mask_has 0 c ≡ is_due (f c) now
nobody_due f now c h = mask_has-zero c ∙ sym (ap (λ d. is_due d now) (h c))

-- nobody is due before the first one is
pub none_due_yet : (f : ℕ → Option ℕ) (now c : ℕ) (p : ℕ × ℕ) → IsFirst f (Some p) → now < p.0 → mask_has 0 c ≡ is_due (f c) now
none_due_yet f now c p h early = mask_has-zero c ∙ sym (at (f c) refl)
  where
    not_yet : (m o j : ℕ) → is_before (m, c) (o, j) ≡ false → now < o → nat_le m now ≡ false
    not_yet m o j b lt = grind (arith, nat_tests)

    at : (d : Option ℕ) → f c ≡ d → is_due d now ≡ false
    at None e = refl
    at (Some m) e = not_yet m p.0 p.1 (h.1 (m, c) e) early

-- the mask of the channels up to a place that pass a test, with one channel more
pub due_next : (f : ℕ → Bool) (mask place : ℕ) → place < 64 → ((c : ℕ) → mask_has mask c ≡ (nat_le c place && f c))
    → (c : ℕ) → mask_has (cond (f (place + 1)) (mask_with mask (place + 1)) mask) c ≡ (nat_le c (place + 1) && f c)
due_next f mask place lt h c = by_test (f (place + 1)) refl (cases_eq c (place + 1))
  where
    past : c ≡ place + 1 → nat_le c place ≡ false
    past e = grind (arith, nat_tests)

    up_to : c ≡ place + 1 → nat_le c (place + 1) ≡ true
    up_to e = grind (arith, nat_tests)

    same : c ≢ place + 1 → nat_le c place ≡ nat_le c (place + 1)
    same ne = grind (arith, nat_tests)

    of_one : is_channel (place + 1) ≡ true
    of_one = and_from _ _ (lt-ltb 0 (place + 1) (omega arith)) (le-leb (place + 1) 64 (omega (arith, lt)))

    or_true : (b : Bool) → (b || true) ≡ true
    or_true true = refl
    or_true false = refl

    by_test : (b : Bool) → f (place + 1) ≡ b → (c ≡ place + 1) ⊎ (c ≢ place + 1)
        → mask_has (cond b (mask_with mask (place + 1)) mask) c ≡ (nat_le c (place + 1) && f c)
    by_test true e (inl here) =
        mask_has-with mask (place + 1) c
        ∙ ap₂ (λ k t. mask_has mask c || (k && t)) (ap is_channel here ∙ of_one) (eq-eqb (place + 1) c (sym here))
        ∙ or_true (mask_has mask c)
        ∙ sym (ap₂ (λ a t. a && t) (up_to here) (ap f here ∙ e))
    by_test true e (inr ne) = with_other mask (place + 1) c ne ∙ h c ∙ ap (λ a. a && f c) (same ne)
    by_test false e (inl here) =
        h c ∙ ap (λ a. a && f c) (past here) ∙ sym (ap₂ (λ a t. a && t) (up_to here) (ap f here ∙ e))
    by_test false e (inr ne) = h c ∙ ap (λ a. a && f c) (same ne)
