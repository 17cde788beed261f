-- The next finish of all channels, found among those of a mask.
use Rattle.std.proofs.Common.{◌≡◌, ◌⊎◌, ℕ, zero, suc, ◌+◌, ◌-◌, ◌<◌, ◌≤◌, nat_lt, nat_le, ◌==◌, ◌&&◌, not, Bool, true, false, cond, List, [], ◌∷◌, map, Option, Some, None, refl, sym, ap, ◌∙◌, subst, inl, inr, arith}
use Rattle.std.specs.Prelude.{option_map, slice_get}
use Rattle.std.proofs.lemmas.Bool.{cases_eq, eq-eqb, ne_eqb, true≢false}
use Rattle.std.proofs.lemmas.Bool.Decides.{nat_tests}
use Rattle.std.proofs.lemmas.Nat.{and_le_l}
use Rattle.std.specs.Int.{bit_not, w64}
use Rattle.window_snapshot.specs.Mask.{mask_has, mask_less}
use Rattle.dispatch_history.specs.Delivery.{oldest}
use Rattle.dispatch_history.specs.Effect.{Effect, past_of}
use Rattle.dispatch_history.specs.History.{live}
use Rattle.dispatch_history.specs.Ordered.{Candidate}
use Rattle.dispatch_history.specs.Plan.{ChannelOf}
use Rattle.schedule.specs.declared.plan.Channel.{Channel}
use Rattle.schedule.specs.Choosing.{NotBefore, is_due_by, next_finishes}
use Rattle.schedule.specs.declared.due.Due.{Due}
use Rattle.schedule.specs.DueView.{candidate_of, sooner_due}
use Rattle.schedule.specs.Next.{finish_of, next_finish, sooner_with}
use Rattle.schedule.specs.Planned.{channel_of}
use Rattle.schedule.proofs.Choosing.{sooner_found}
use Rattle.schedule.proofs.Idle.{no_finish}

-- the next finish of those channels of a mask, the first of which has number c, against the soonest so far
abbrev pub finishes_in : List Effect → (mask : ℕ) → ℕ → List ChannelOf → Option Candidate → Option Candidate
finishes_in es mask c [] best = best
finishes_in es mask c (p ∷ ps) best = finishes_in es mask (c + 1) ps (cond (mask_has mask c) (sooner_with best (next_finish es c p)) best)

-- masks that have the same channels from c on
agree : (es : List Effect) (m n c : ℕ) (ps : List ChannelOf) (best : Option Candidate) → ((d : ℕ) → c ≤ d → mask_has m d ≡ mask_has n d)
    → finishes_in es m c ps best ≡ finishes_in es n c ps best
agree es m n c [] best same = refl
agree es m n c (p ∷ ps) best same =
    ap (λ b. finishes_in es m (c + 1) ps (cond b (sooner_with best (next_finish es c p)) best)) (same c (omega arith))
    ∙ agree es m n (c + 1) ps (cond (mask_has n c) (sooner_with best (next_finish es c p)) best) (λ d le. same d (omega (arith, le)))

-- the first channel of a mask is looked at, and leaves it
pub one_less : (es : List Effect) (rest later : ℕ) (cs : List Channel) (i c n : ℕ) (best : Option Candidate) → n ≡ c + i
    → mask_has rest n ≡ true
    → ((d : ℕ) → d < n → mask_has rest d ≡ false)
    → ((d : ℕ) → mask_has later d ≡ (not (d == n) && mask_has rest d))
    → finishes_in es rest c (map channel_of cs) best ≡ finishes_in es later c (map channel_of cs) (sooner_with best (finish_of es n (slice_get cs i)))
one_less es rest later [] i c n best e has below out = refl
one_less es rest later (x ∷ cs) zero c n best e has below out =
    let here : n ≡ c = omega (arith, e) in
    let one : mask_has rest c ≡ true = ap (mask_has rest) (sym here) ∙ has in
    let two : mask_has later c ≡ false = out c ∙ ap (λ b. not b && mask_has rest c) (eq-eqb c n (sym here)) in
    let best_here : Option Candidate = sooner_with best (next_finish es n (channel_of x)) in
    ap (λ b. finishes_in es rest (c + 1) (map channel_of cs) (cond b (sooner_with best (next_finish es c (channel_of x))) best)) one
    ∙ ap (λ k. finishes_in es rest (c + 1) (map channel_of cs) (sooner_with best (next_finish es k (channel_of x)))) (sym here)
    ∙ agree es rest later (c + 1) (map channel_of cs) best_here
    (λ d le. sym (out d ∙ ap (λ b. not b && mask_has rest d) (ne_eqb d n (λ same. absurd (omega (arith, same, here, le))))))
    ∙ ap (λ b. finishes_in es later (c + 1) (map channel_of cs) (cond b (sooner_with best_here (next_finish es c (channel_of x))) best_here)) (sym two)
one_less es rest later (x ∷ cs) (suc i) c n best e has below out =
    let one : mask_has rest c ≡ false = below c (omega (arith, e)) in
    let two : mask_has later c ≡ false = out c ∙ ap (λ b. not (c == n) && b) one ∙ no (not (c == n)) in
    let best_here : Option Candidate = sooner_with best (finish_of es n (slice_get cs i)) in
    ap (λ b. finishes_in es rest (c + 1) (map channel_of cs) (cond b (sooner_with best (next_finish es c (channel_of x))) best)) one
    ∙ one_less es rest later cs i (c + 1) n best (omega (arith, e)) has below out
    ∙ ap (λ b. finishes_in es later (c + 1) (map channel_of cs) (cond b (sooner_with best_here (next_finish es c (channel_of x))) best_here)) (sym two)
  where
    no : (b : Bool) → (b && false) ≡ false
    no true = refl
    no false = refl

-- a channel that is out of the mask has none
out_none : (es : List Effect) (mask c : ℕ) (p : ChannelOf) → ((d : ℕ) → live (past_of es) d ≡ true → mask_has mask d ≡ false → oldest es d ≡ None)
    → mask_has mask c ≡ false → next_finish es c p ≡ None
out_none es mask c p none out = by_live (live (past_of es) c) refl
  where
    by_live : (b : Bool) → live (past_of es) c ≡ b → next_finish es c p ≡ None
    by_live true y = no_finish es c p (none c y out)
    by_live false y = rw y refl

-- the channels of a mask are enough
pub enough : (es : List Effect) (mask c : ℕ) (ps : List ChannelOf) (best : Option Candidate)
    → ((d : ℕ) → live (past_of es) d ≡ true → mask_has mask d ≡ false → oldest es d ≡ None)
    → finishes_in es mask c ps best ≡ next_finishes es c ps best
enough es mask c [] best none = refl
enough es mask c (p ∷ ps) best none = by_mask (λ b. enough es mask (c + 1) ps b none) (mask_has mask c) refl
  where
    by_mask : ((b : Option Candidate) → finishes_in es mask (c + 1) ps b ≡ next_finishes es (c + 1) ps b) → (b : Bool) → mask_has mask c ≡ b
        → finishes_in es mask (c + 1) ps (cond b (sooner_with best (next_finish es c p)) best) ≡ next_finishes es (c + 1) ps (sooner_with best (next_finish es c p))
    by_mask rest true e = rest (sooner_with best (next_finish es c p))
    by_mask rest false e = rest best ∙ ap (λ o. next_finishes es (c + 1) ps (sooner_with best o)) (sym (out_none es mask c p none e))

-- nothing is found in the mask that has no channel
pub none_left : (es : List Effect) (c : ℕ) (ps : List ChannelOf) (best : Option Candidate) → ((d : ℕ) → mask_has 0 d ≡ false) → finishes_in es 0 c ps best ≡ best
none_left es c [] best none = refl
none_left es c (p ∷ ps) best none =
    ap (λ b. finishes_in es 0 (c + 1) ps (cond b (sooner_with best (next_finish es c p)) best)) (none c) ∙ none_left es (c + 1) ps best none

-- the soonest is still the same, or one that is due before it
abbrev Ends : Candidate → Option Candidate → Type 0
Ends b o = (o ≡ Some b) ⊎ ((x : Candidate) × (o ≡ Some x) × (x.moment < b.moment))

-- so it is after more channels
sooner_in : (es : List Effect) (mask c : ℕ) (ps : List ChannelOf) (b : Candidate) → Ends b (finishes_in es mask c ps (Some b))
sooner_in es mask c [] b = inl refl
sooner_in es mask c (p ∷ ps) b = by_mask (λ d. sooner_in es mask (c + 1) ps d) (mask_has mask c) (next_finish es c p)
  where
    by_test : ((d : Candidate) → Ends d (finishes_in es mask (c + 1) ps (Some d))) → (d : Candidate) (v : Bool) → nat_lt d.moment b.moment ≡ v
        → Ends b (finishes_in es mask (c + 1) ps (Some (cond v d b)))
    by_test later d true e =
        let less : d.moment < b.moment = grind (arith, nat_tests) in
        elim (later d) [
          | inl same ↦ inr (d, same, less)
          | inr x ↦ inr (x.0, x.1, omega (arith, x.2, less))
        ]
    by_test later d false e = later b

    by_mask : ((d : Candidate) → Ends d (finishes_in es mask (c + 1) ps (Some d))) → (v : Bool) (o : Option Candidate)
        → Ends b (finishes_in es mask (c + 1) ps (cond v (sooner_with (Some b) o) (Some b)))
    by_mask later true None = later b
    by_mask later true (Some d) = by_test later d (nat_lt d.moment b.moment) refl
    by_mask later false o = later b

-- where none is due before a moment, what is due by then is the soonest of all
pub due_by_now : (es : List Effect) (mask c : ℕ) (ps : List ChannelOf) (best : Option Candidate) (t : ℕ) → is_due_by best t ≡ true
    → NotBefore t (finishes_in es mask c ps best) → finishes_in es mask c ps best ≡ best
due_by_now es mask c ps None t due late = absurd (true≢false (sym due))
due_by_now es mask c ps (Some b) t due late =
    elim (sooner_in es mask c ps b) [
      | inl same ↦ same
      | inr x ↦
          let low : t ≤ x.0.moment = subst (NotBefore t) x.1 late in
          let by : b.moment ≤ t = grind (arith, nat_tests) in
          absurd (omega (arith, low, by, x.2))
    ]

-- so where the first channel of a mask has a finish that is due by then, it is the next of all
pub first_now : (es : List Effect) (mask : ℕ) (cs : List Channel) (i c n : ℕ) (b : Candidate) (t : ℕ) → n ≡ c + i
    → mask_has mask n ≡ true
    → ((d : ℕ) → d < n → mask_has mask d ≡ false)
    → finish_of es n (slice_get cs i) ≡ Some b → is_due_by (Some b) t ≡ true
    → NotBefore t (finishes_in es mask c (map channel_of cs) None) → finishes_in es mask c (map channel_of cs) None ≡ Some b
first_now es mask [] i c n b t e has below is due late = absurd (cc is)
first_now es mask (x ∷ cs) zero c n b t e has below is due late =
    let here : n ≡ c = omega (arith, e) in
    let one : mask_has mask c ≡ true = ap (mask_has mask) (sym here) ∙ has in
    let found : next_finish es c (channel_of x) ≡ Some b = ap (λ k. next_finish es k (channel_of x)) (sym here) ∙ is in
    let same : finishes_in es mask c (map channel_of (x ∷ cs)) None ≡ finishes_in es mask (c + 1) (map channel_of cs) (Some b) =
    ap (λ v. finishes_in es mask (c + 1) (map channel_of cs) (cond v (sooner_with None (next_finish es c (channel_of x))) None)) one
    ∙ ap (λ o. finishes_in es mask (c + 1) (map channel_of cs) (sooner_with None o)) found in
    same ∙ due_by_now es mask (c + 1) (map channel_of cs) (Some b) t due (subst (NotBefore t) same late)
first_now es mask (x ∷ cs) (suc i) c n b t e has below is due late =
    let none : mask_has mask c ≡ false = below c (omega (arith, e)) in
    let same : finishes_in es mask c (map channel_of (x ∷ cs)) None ≡ finishes_in es mask (c + 1) (map channel_of cs) None =
    ap (λ v. finishes_in es mask (c + 1) (map channel_of cs) (cond v (sooner_with None (next_finish es c (channel_of x))) None)) none in
    same ∙ first_now es mask cs i (c + 1) n b t (omega (arith, e)) has below is due (subst (NotBefore t) same late)

-- below the first channel of a mask there is none
pub none_below : (mask n : ℕ) → ((c : ℕ) → mask_has mask c ≡ true → n ≤ c) → (d : ℕ) → d < n → mask_has mask d ≡ false
none_below mask n first d lt = by_bit (mask_has mask d) refl
  where
    by_bit : (b : Bool) → mask_has mask d ≡ b → b ≡ false
    by_bit true e = absurd (omega (arith, first d e, lt))
    by_bit false e = refl

-- a mask without one of its channels is a lesser number
pub fewer : (mask other later n : ℕ) → mask_has mask n ≡ true → later ≡ mask_less mask other
    → ((d : ℕ) → mask_has later d ≡ (not (d == n) && mask_has mask d)) → later < mask
fewer mask other later n has is out =
    let le : mask_less mask other ≤ mask = and_le_l mask (bit_not w64 other) in
    elim (cases_eq later mask) [
      | inl same ↦
          let gone : mask_has later n ≡ false = out n ∙ ap (λ b. not b && mask_has mask n) (eq-eqb n n refl) in
          absurd (true≢false (sym has ∙ ap (λ m. mask_has m n) (sym same) ∙ gone))
      | inr ne ↦ omega (arith, le, is, ne)
    ]

-- the first channel of a mask is looked at, and what is found for it is compared with the best so far
pub one_looked_at : (es : List Effect) (rest later : ℕ) (cs : List Channel) (n : ℕ) (best found : Option Due) → 1 ≤ n
    → mask_has rest n ≡ true
    → ((c : ℕ) → mask_has rest c ≡ true → n ≤ c)
    → ((d : ℕ) → mask_has later d ≡ (not (d == n) && mask_has rest d))
    → option_map candidate_of found ≡ finish_of es n (slice_get cs (n - 1))
    → (sooner : Option Due) → sooner ≡ sooner_due best found
    → finishes_in es later 1 (map channel_of cs) (option_map candidate_of sooner) ≡ finishes_in es rest 1 (map channel_of cs) (option_map candidate_of best)
one_looked_at es rest later cs n best found low has first out is sooner e =
    let place : n ≡ 1 + (n - 1) = omega (arith, low) in
    ap (λ o. finishes_in es later 1 (map channel_of cs) (option_map candidate_of o)) e
    ∙ ap (finishes_in es later 1 (map channel_of cs)) (sym (sooner_found best found) ∙ ap (sooner_with (option_map candidate_of best)) is)
    ∙ sym (one_less es rest later cs (n - 1) 1 n (option_map candidate_of best) place has (none_below rest n first) out)

-- the sooner of two is due by a moment by which the second one is
pub found_due_by : (best found sooner : Option Due) (t : ℕ) → sooner ≡ sooner_due best found → is_due_by (option_map candidate_of found) t ≡ true
    → is_due_by (option_map candidate_of sooner) t ≡ true
found_due_by best found sooner t e due = subst (λ o. is_due_by (option_map candidate_of o) t ≡ true) (sym e) (by_best best found due)
  where
    by_test : (b d : Due) (v : Bool) → nat_lt d.moment b.moment ≡ v → nat_le d.moment t ≡ true → is_due_by (option_map candidate_of (cond v (Some d) (Some b))) t ≡ true
    by_test b d true e y = y
    by_test b d false e y = grind (arith, nat_tests)

    by_best : (a f : Option Due) → is_due_by (option_map candidate_of f) t ≡ true → is_due_by (option_map candidate_of (sooner_due a f)) t ≡ true
    by_best a None y = absurd (true≢false (sym y))
    by_best None (Some d) y = y
    by_best (Some b) (Some d) y = by_test b d (nat_lt d.moment b.moment) refl y
