-- The rounds of the ordered run, where the args come one by one.
use Rattle.std.proofs.Common.{◌≡◌, ℕ, zero, suc, ◌≤◌, nat_lt, nat_le, max, true, false, cond, List, [], ◌∷◌, ◌++◌, length, Option, Some, None, refl, sym, ap, ◌∙◌, subst, arith, append_assoc, append-nil, length-append}
use Rattle.std.specs.Prelude.{fold, slice_get}
use Rattle.std.proofs.lemmas.Bool.Decides.{nat_tests}
use Rattle.dispatch_history.specs.Effect.{Effect, past_of}
use Rattle.dispatch_history.specs.Plan.{Plan, Cooked}
use Rattle.dispatch_history.specs.Ordered.{Candidate, sooner_of, soonest, candidates, next_cooked, end_of, chosen, round, Rounds, start, next, Ordered, notified, begun}
use Rattle.schedule.specs.Handing.{handing}
use Rattle.schedule.specs.Next.{fore, up_to}
use Rattle.schedule.specs.Run.{with_cooked}
use Rattle.schedule.proofs.Soonest.{soonest_up_to, soonest_more}

-- the moment up to which args come is none below that of any of them
above_start : (t : ℕ) (cs : List Cooked) → t ≤ fold (λ u (a : Cooked). max u a.moment) t cs
above_start t [] = omega arith
above_start t (a ∷ cs) = omega (arith, above_start (max t a.moment) cs)

above_each : (t : ℕ) (cs : List Cooked) (i : ℕ) (a : Cooked) → slice_get cs i ≡ Some a → a.moment ≤ fold (λ u (b : Cooked). max u b.moment) t cs
above_each t [] zero a e = absurd (cc e)
above_each t [] (suc i) a e = absurd (cc e)
above_each t (b ∷ cs) zero a e = let same : b ≡ a = cc in let m : b.moment ≡ a.moment = ap (λ (x : Cooked). x.moment) same in omega (arith, above_start (max t b.moment) cs, m)
above_each t (b ∷ cs) (suc i) a e = above_each (max t b.moment) cs i a e

-- args behind others
pub at_end : (given : List Cooked) (a : Cooked) (later : List Cooked) → slice_get ((given ++ a ∷ []) ++ later) (length given) ≡ Some a
at_end [] a later = refl
at_end (b ∷ given) a later = at_end given a later

past_end : (given : List Cooked) → slice_get given (length given) ≡ None
past_end [] = refl
past_end (b ∷ given) = past_end given

-- what is chosen, with the next args
chosen_with : (plan : Plan) (cooked : List Cooked) (es : List Effect) (o : Option Cooked) → slice_get cooked (notified (past_of es)) ≡ o
    → chosen (with_cooked plan cooked) es ≡ up_to (end_of (with_cooked plan cooked)) (fold sooner_of (soonest (fore plan es)) (next_cooked o))
chosen_with plan cooked es o e =
    soonest_up_to (end_of (with_cooked plan cooked)) (candidates (with_cooked plan cooked) es)
    ∙ ap (up_to (end_of (with_cooked plan cooked))) (soonest_more (fore plan es) (next_cooked (slice_get cooked (notified (past_of es)))))
    ∙ ap (λ p. up_to (end_of (with_cooked plan cooked)) (fold sooner_of (soonest (fore plan es)) (next_cooked p))) e

pub within : (t : ℕ) (c : Candidate) → c.moment ≤ t → up_to t (Some c) ≡ Some c
within t c le = let yes' : nat_le c.moment t ≡ true = grind (arith, nat_tests) in rw yes' refl

-- a candidate that is due before the args goes first
earlier : (t : ℕ) (a : Cooked) (o : Option Candidate) (c : Candidate) → a.moment ≤ t → up_to a.moment o ≡ Some c → up_to t (fold sooner_of o (handing a ∷ [])) ≡ Some c
earlier t a None c le e = absurd (cc e)
earlier t a (Some d) c le e =
    (elim (nat_le d.moment a.moment) as (λ v. nat_le d.moment a.moment ≡ v → cond v (Some d) None ≡ Some c → up_to t (Some (cond (nat_lt a.moment d.moment) (handing a) d)) ≡ Some c) [
      | true ↦
          λ f g.
          let stays : nat_lt a.moment d.moment ≡ false = grind (arith, nat_tests) in
          let low : d.moment ≤ a.moment = grind (arith, nat_tests) in
          rw stays (within t d (omega (arith, low, le)) ∙ g)
      | false ↦ λ f g. absurd (cc g)
    ]) refl e

-- where there is none, the args are next
handed : (t : ℕ) (a : Cooked) (o : Option Candidate) → a.moment ≤ t → up_to a.moment o ≡ None → up_to t (fold sooner_of o (handing a ∷ [])) ≡ Some (handing a)
handed t a None le e = within t (handing a) le
handed t a (Some d) le e =
    (elim (nat_le d.moment a.moment) as (λ v. nat_le d.moment a.moment ≡ v → cond v (Some d) None ≡ None → up_to t (Some (cond (nat_lt a.moment d.moment) (handing a) d)) ≡ Some (handing a)) [
      | true ↦ λ f g. absurd (cc g)
      | false ↦ λ f g. let less : nat_lt a.moment d.moment ≡ true = grind (arith, nat_tests) in rw less (within t (handing a) le)
    ]) refl e

-- so far the run is that of each plan whose args begin so, and so many of these were handed in
pub record Going (plan : Plan) (front : List Cooked) (n : ℕ) (es : List Effect) : Type 0 where
  pub rounds : (later : List Cooked) → Rounds (with_cooked plan (front ++ later)) es
  pub taken : notified (past_of es) ≡ n

pub going_start : (plan : Plan) → notified (past_of (begun plan)) ≡ 0 → Going plan [] 0 (begun plan)
going_start plan e = record { rounds = λ later. start; taken = e }

-- the next args are known
pub going_with : (plan : Plan) (given : List Cooked) (a : Cooked) (n : ℕ) (es : List Effect) → Going plan given n es → Going plan (given ++ a ∷ []) n es
going_with plan given a n es h =
    record { rounds = λ later. subst (λ cs. Rounds (with_cooked plan cs) es) (sym (append_assoc given (a ∷ []) later)) (h.rounds (a ∷ later)); taken = h.taken }

end_above : (plan : Plan) (given : List Cooked) (a : Cooked) (later : List Cooked) → a.moment ≤ end_of (with_cooked plan ((given ++ a ∷ []) ++ later))
end_above plan given a later = omega (arith, above_each 0 ((given ++ a ∷ []) ++ later) (length given) a (at_end given a later))

next_is : (plan : Plan) (given : List Cooked) (a : Cooked) (es : List Effect) → Going plan (given ++ a ∷ []) (length given) es → (later : List Cooked)
    → slice_get ((given ++ a ∷ []) ++ later) (notified (past_of es)) ≡ Some a
next_is plan given a es h later = ap (slice_get ((given ++ a ∷ []) ++ later)) h.taken ∙ at_end given a later

-- a round before these args
pub going_before : (plan : Plan) (given : List Cooked) (a : Cooked) (es : List Effect) (c : Candidate) → Going plan (given ++ a ∷ []) (length given) es
    → up_to a.moment (soonest (fore plan es)) ≡ Some c → notified (past_of (round plan es c)) ≡ notified (past_of es)
    → Going plan (given ++ a ∷ []) (length given) (round plan es c)
going_before plan given a es c h e same =
    record {
      rounds =
          λ later.
          next (h.rounds later)
          (chosen_with plan ((given ++ a ∷ []) ++ later) es (Some a) (next_is plan given a es h later)
          ∙ earlier (end_of (with_cooked plan ((given ++ a ∷ []) ++ later))) a (soonest (fore plan es)) c (end_above plan given a later) e);
      taken = same ∙ h.taken;
    }

-- the round of these args
pub going_on : (plan : Plan) (given : List Cooked) (a : Cooked) (es : List Effect) → Going plan (given ++ a ∷ []) (length given) es
    → up_to a.moment (soonest (fore plan es)) ≡ None → notified (past_of (round plan es (handing a))) ≡ suc (notified (past_of es))
    → Going plan (given ++ a ∷ []) (length (given ++ a ∷ [])) (round plan es (handing a))
going_on plan given a es h e more =
    record {
      rounds =
          λ later.
          next (h.rounds later)
          (chosen_with plan ((given ++ a ∷ []) ++ later) es (Some a) (next_is plan given a es h later)
          ∙ handed (end_of (with_cooked plan ((given ++ a ∷ []) ++ later))) a (soonest (fore plan es)) (end_above plan given a later) e);
      taken = more ∙ ap suc h.taken ∙ (let n : suc (length given) ≡ length (given ++ a ∷ []) = omega (arith, length-append given (a ∷ [])) in n);
    }

-- so far the run is that of this plan, and all of its args were handed in
pub record Ending (plan : Plan) (given : List Cooked) (es : List Effect) : Type 0 where
  pub rounds : Rounds (with_cooked plan given) es
  pub taken : notified (past_of es) ≡ length given

pub ending : (plan : Plan) (given : List Cooked) (es : List Effect) → Going plan given (length given) es → Ending plan given es
ending plan given es h = record { rounds = subst (λ cs. Rounds (with_cooked plan cs) es) (append-nil given) (h.rounds []); taken = h.taken }

chosen_last : (plan : Plan) (given : List Cooked) (es : List Effect) → Ending plan given es
    → chosen (with_cooked plan given) es ≡ up_to (end_of (with_cooked plan given)) (soonest (fore plan es))
chosen_last plan given es h = chosen_with plan given es None (ap (slice_get given) h.taken ∙ past_end given)

pub ending_next : (plan : Plan) (given : List Cooked) (es : List Effect) (c : Candidate) → Ending plan given es
    → up_to (end_of (with_cooked plan given)) (soonest (fore plan es)) ≡ Some c → notified (past_of (round plan es c)) ≡ notified (past_of es)
    → Ending plan given (round plan es c)
ending_next plan given es c h e same = record { rounds = next h.rounds (chosen_last plan given es h ∙ e); taken = same ∙ h.taken }

pub ended : (plan : Plan) (given : List Cooked) (es : List Effect) → Ending plan given es
    → up_to (end_of (with_cooked plan given)) (soonest (fore plan es)) ≡ None → Ordered (with_cooked plan given) es
ended plan given es h e = (h.rounds, chosen_last plan given es h ∙ e)
