-- When channels are due to be reported, which one is first, and what a tick records.
use Rattle.std.proofs.Common.{◌≡◌, ◌≢◌, ◌⊎◌, ℕ, zero, suc, ◌+◌, ◌≤◌, ◌<◌, nat_lt, nat_le, nat_eq, max, Bool, true, false, not, ◌&&◌, ◌||◌, cond, List, [], ◌∷◌, ◌++◌, filter, Option, Some, None, refl, sym, ap, ap₂, ◌∙◌, subst, inl, inr, arith, append-nil}
use Rattle.std.specs.Prelude.{fold, filter_map, option_map}
use Rattle.std.specs.List.{cons_option}
use Rattle.std.proofs.Math.Path.{fun_ext}
use Rattle.std.proofs.lemmas.List.Elements.{filter-append, filter_map-append, filter_agree}
use Rattle.std.proofs.lemmas.List.Sums.{fold-append}
use Rattle.std.proofs.lemmas.Bool.{cases_Bool, cases_eq, leb-true, le-leb}
use Rattle.std.proofs.lemmas.Bool.Decides.{nat_tests}
use Rattle.input_types.specs.declared.message.Message.{Message}
use Rattle.dispatcher.specs.AnrTracker.Due.{IsFirst, is_before, sooner_of, is_put_off}
use Rattle.dispatcher.proofs.AnrTracker.Firsts.{first_with, one_first}
use Rattle.dispatcher.specs.InputChannel.State.{ChannelState, oldest_of}
use Rattle.dispatch_calls.specs.declared.counts.Anr.{Anr}
use Rattle.dispatch_calls.specs.declared.reply.Reply.{Reply}
use Rattle.dispatch_calls.specs.declared.reply.Reply.TheVariants.{Named}
use Rattle.window_snapshot.specs.Mask.{mask_has}
use Rattle.window_snapshot.proofs.Masks.{same_mask}
use Rattle.dispatch_history.specs.History.{clock, limit_of, live, opened}
use Rattle.dispatch_history.specs.Effect.{Effect, past_of}
use Rattle.dispatch_history.specs.Effects.{channels, step}
use Rattle.dispatch_history.specs.Delivery.{able, unresponsive, delivery, oldest}
use Rattle.dispatch_history.specs.Due.{Due, due_at, sooner_due, first_due, is_late_at, mask_of, named, anr_of, anrs, anrs_by}
use Rattle.dispatch_history.specs.Reply.{is_due}
use Rattle.dispatcher.specs.DispatchTables.Lawful.{Lawful}
use Rattle.dispatcher.specs.DispatchTables.Channel.{channel_at}
use Rattle.dispatcher.specs.DispatchTables.Dues.{due_moment, due_in, due_pair, anr_in, is_named}
use Rattle.dispatcher.specs.DispatchTables.Laws.{QuietDueLaw, NotLiveDueLaw, FirstDueLaw, NamedLaw, AnrsLaw, AnrsKeptLaw}
use Rattle.dispatcher.proofs.DispatchTables.Kept.{quiet_law}
use Rattle.dispatcher.proofs.DispatchTables.Answering.{oldest_law}
use Rattle.dispatcher.proofs.DispatchTables.Unopened.{unopened_not_live}
use Rattle.dispatcher.proofs.DispatchTables.Masking.{mask_of-low}
use Rattle.dispatcher.proofs.DispatchTables.Ables.{live_number, named_mask}

pub due_law : (es : List Effect) (c gone spare : ℕ) → due_moment es c ≡ due_in (able es c) (channel_at es c gone spare)
due_law es c gone spare =
    ap (λ o. cond (able es c) o None)
    (twice (oldest es c) ∙ ap (option_map (λ p. p.1 + limit_of (past_of es) c)) (sym (oldest_law es c gone spare)))
  where
    twice : (o : Option Message)
        → option_map (λ m. delivery es c m.seq + limit_of (past_of es) c) o
        ≡ option_map (λ (p : ℕ × ℕ). p.1 + limit_of (past_of es) c) (option_map {U = ℕ × ℕ} (λ m. (m.seq, delivery es c m.seq)) o)
    twice None = refl
    twice (Some m) = refl

pub quiet_due_law : QuietDueLaw
quiet_due_law ds call answer es c l none untouched same =
    let later = step ds call answer es in
    due_law later c 0 0
    ∙ ap₂ due_in same (quiet_law ds call answer es c 0 0 l (omega arith) none untouched)
    ∙ sym (due_law es c 0 0)

pub not_live_due_law : NotLiveDueLaw
not_live_due_law es c n = ap (λ b. cond (b && not (unresponsive es c)) (option_map (λ m. delivery es c m.seq + limit_of (past_of es) c) (oldest es c)) None) n

-- a due as a pair of moment and channel
abbrev pair_of : Due → ℕ × ℕ
pair_of d = (d.moment, d.channel)

-- the dues of channels that pass a test, by their moments
abbrev due_by : (ℕ → Option ℕ) → ℕ → Option Due
due_by k c = option_map (λ m. record { moment = m; channel = c }) (k c)

abbrev best_of : (ℕ → Bool) → (ℕ → Option ℕ) → ℕ → Option Due
best_of p k n = fold sooner_due None (filter_map (due_by k) (filter p (channels n)))

best_more : (p : ℕ → Bool) (k : ℕ → Option ℕ) (n : ℕ)
    → best_of p k (suc n) ≡ fold sooner_due (best_of p k n) (cond (p (suc n)) (cons_option (due_by k (suc n)) []) [])
best_more p k n =
    ap (λ cs. fold sooner_due None (filter_map (due_by k) cs)) (filter-append p (channels n) (suc n ∷ []))
    ∙ ap (fold sooner_due None) (filter_map-append (due_by k) (filter p (channels n)) (filter p (suc n ∷ [])))
    ∙ fold-append sooner_due None (filter_map (due_by k) (filter p (channels n))) (filter_map (due_by k) (filter p (suc n ∷ [])))
    ∙ ap (fold sooner_due (best_of p k n)) (one (p (suc n)))
  where
    one : (b : Bool) → filter_map (due_by k) (cond b (suc n ∷ []) []) ≡ cond b (cons_option (due_by k (suc n)) []) []
    one true = refl
    one false = refl

-- the pair with the earlier moment comes first, if the channel of the other one is lower
sooner_is : (m n : ℕ) (best : Option Due) → ((d : Due) → best ≡ Some d → d.channel ≤ n)
    → Some (sooner_of (option_map pair_of best) (m, suc n))
    ≡ option_map pair_of (sooner_due best (record { moment = m; channel = suc n }))
sooner_is m n None low = refl
sooner_is m n (Some d) low = by_moment (nat_lt m d.moment) (only (low d refl))
  where
    only : d.channel ≤ n → is_before (m, suc n) (d.moment, d.channel) ≡ nat_lt m d.moment
    only le = let later : nat_lt (suc n) d.channel ≡ false = grind (arith, nat_tests) in
        ap (λ b. nat_lt m d.moment || (nat_eq m d.moment && b)) later ∙ tests (nat_lt m d.moment) (nat_eq m d.moment)
      where
        tests : (a b : Bool) → (a || (b && false)) ≡ a
        tests true b = refl
        tests false true = refl
        tests false false = refl

    by_moment : (b : Bool) → is_before (m, suc n) (d.moment, d.channel) ≡ b
        → Some (cond (is_before (m, suc n) (d.moment, d.channel)) (m, suc n) (d.moment, d.channel))
        ≡ option_map pair_of (Some (cond b (record { moment = m; channel = suc n }) d))
    by_moment true e = rw e refl
    by_moment false e = rw e refl

-- the map with the channels up to a number
abbrev due_up_to : ℕ → (ℕ → Option ℕ) → ℕ → Option ℕ
due_up_to n due c = cond (nat_le c n) (due c) None

within_up : (due : ℕ → Option ℕ) (n c m : ℕ) → due_up_to n due c ≡ Some m → c ≤ n
within_up due n c m e = by_test (nat_le c n) refl e
  where
    by_test : (b : Bool) → nat_le c n ≡ b → cond b (due c) None ≡ Some m → c ≤ n
    by_test true f g = leb-true c n f
    by_test false f g = absurd (cc g)

-- one channel more, which is due or not
first_more : (f g : ℕ → Option ℕ) (n : ℕ) (best : Option Due) (o : Option ℕ)
    → ((c : ℕ) → c ≢ suc n → g c ≡ f c) → ((c m : ℕ) → f c ≡ Some m → c ≤ n) → f (suc n) ≡ None → g (suc n) ≡ o
    → IsFirst f (option_map pair_of best)
    → IsFirst g (option_map pair_of (fold sooner_due best (cons_option (option_map (λ m. record { moment = m; channel = suc n }) o) [])))
first_more f g n best None others low none here first =
    subst (λ due. IsFirst due (option_map pair_of best)) (fun_ext same) first
  where
    same : (c : ℕ) → f c ≡ g c
    same c = elim (cases_eq c (suc n)) [
      | inl e ↦ ap f e ∙ none ∙ sym here ∙ ap g (sym e)
      | inr ne ↦ sym (others c ne)
    ]
first_more f g n best (Some m) others low none here first =
    subst (IsFirst g) (sooner_is m n best below)
    (first_with f g m (suc n) (option_map pair_of best) here others first (stays best below))
  where
    below : (d : Due) → best ≡ Some d → d.channel ≤ n
    below d e = low d.channel d.moment (is_due_here (option_map pair_of best) (ap (option_map pair_of) e) first)
      where
        is_due_here : (o : Option (ℕ × ℕ)) → o ≡ Some (d.moment, d.channel) → IsFirst f o → f d.channel ≡ Some d.moment
        is_due_here None e h = absurd (cc e)
        is_due_here (Some p) e h =
            let channels : p.1 ≡ d.channel = ap (second p) e in
            let moments : p.0 ≡ d.moment = ap (first_part p) e in
            ap f (sym channels) ∙ h.0 ∙ ap (λ x. Some x) moments
          where
            second : ℕ × ℕ → Option (ℕ × ℕ) → ℕ
            second p None = p.1
            second p (Some q) = q.1

            first_part : ℕ × ℕ → Option (ℕ × ℕ) → ℕ
            first_part p None = p.0
            first_part p (Some q) = q.0

    stays : (best : Option Due) → ((d : Due) → best ≡ Some d → d.channel ≤ n)
        → is_put_off (option_map pair_of best) (m, suc n) ≡ false
    stays None low = refl
    stays (Some d) low = apart d.channel d.moment (low d refl)
      where
        apart : (c o : ℕ) → c ≤ n → (nat_eq c (suc n) && nat_lt o m) ≡ false
        apart c o le = grind (arith, nat_tests)

abbrev due_if : (ℕ → Bool) → (ℕ → Option ℕ) → ℕ → Option ℕ
due_if p k c = cond (p c) (k c) None

-- the best due of the channels 1 to n is what comes first among them
best_first : (p : ℕ → Bool) (k : ℕ → Option ℕ) → due_if p k 0 ≡ None → (n : ℕ)
    → IsFirst (due_up_to n (due_if p k)) (option_map pair_of (best_of p k n))
best_first p k none zero = λ c. at c (cases_eq c 0)
  where
    at : (c : ℕ) → (c ≡ 0) ⊎ (c ≢ 0) → due_up_to 0 (due_if p k) c ≡ None
    at c (inl e) = subst (λ d. due_up_to 0 (due_if p k) d ≡ None) (sym e) none
    at c (inr ne) = let above : nat_le c 0 ≡ false = grind (arith, nat_tests) in ap (λ b. cond b (due_if p k c) None) above
best_first p k none (suc n) =
    subst (λ best. IsFirst (due_up_to (suc n) (due_if p k)) (option_map pair_of best)) (sym (best_more p k n))
    (by_test (p (suc n)) refl (best_first p k none n))
  where
    due : ℕ → Option ℕ
    due = due_if p k

    others : (c : ℕ) → c ≢ suc n → due_up_to (suc n) (due_if p k) c ≡ due_up_to n (due_if p k) c
    others c ne = let same : nat_le c (suc n) ≡ nat_le c n = grind (arith, nat_tests) in ap (λ b. cond b (due_if p k c) None) same

    above : due_up_to n (due_if p k) (suc n) ≡ None
    above = let far : nat_le (suc n) n ≡ false = grind (arith, nat_tests) in ap (λ b. cond b (due_if p k (suc n)) None) far

    here : (b : Bool) → p (suc n) ≡ b → due_up_to (suc n) (due_if p k) (suc n) ≡ cond b (k (suc n)) None
    here b e = let near : nat_le (suc n) (suc n) ≡ true = le-leb (suc n) (suc n) (omega arith) in
        ap₂ (λ x y. cond x (cond y (k (suc n)) None) None) near e

    by_test : (b : Bool) → p (suc n) ≡ b → IsFirst (due_up_to n (due_if p k)) (option_map pair_of (best_of p k n))
        → IsFirst (due_up_to (suc n) (due_if p k)) (option_map pair_of (fold sooner_due (best_of p k n) (cond b (cons_option (due_by k (suc n)) []) [])))
    by_test true e first =
        first_more (due_up_to n (due_if p k)) (due_up_to (suc n) (due_if p k)) n (best_of p k n) (k (suc n)) others
        (within_up (due_if p k) n) above (here true e) first
    by_test false e first =
        first_more (due_up_to n (due_if p k)) (due_up_to (suc n) (due_if p k)) n (best_of p k n) None others
        (within_up (due_if p k) n) above (here false e) first

-- the moments of the oldest messages
abbrev pub oldest_due : List Effect → ℕ → Option ℕ
oldest_due es c = option_map (λ m. delivery es c m.seq + limit_of (past_of es) c) (oldest es c)

first_due_is : (es : List Effect) → first_due es ≡ best_of (able es) (oldest_due es) (opened (past_of es))
first_due_is es = ap (λ h. fold sooner_due None (filter_map h (filter (able es) (channels (opened (past_of es)))))) (fun_ext (λ c. same c (oldest es c)))
  where
    same : (c : ℕ) (o : Option Message)
        → due_at es c o
        ≡ option_map (λ m. record { moment = m; channel = c }) (option_map (λ m. delivery es c m.seq + limit_of (past_of es) c) o)
    same c None = refl
    same c (Some m) = refl

-- no channel past the last one is due
up_to_all : (ds : List ℕ) (es : List Effect) (c : ℕ) → Lawful ds es
    → due_up_to (opened (past_of es)) (due_moment es) c ≡ due_moment es c
up_to_all ds es c l = by_test (nat_le c (opened (past_of es))) refl
  where
    by_test : (b : Bool) → nat_le c (opened (past_of es)) ≡ b
        → cond (nat_le c (opened (past_of es))) (due_moment es c) None ≡ due_moment es c
    by_test true e = ap (λ b. cond b (due_moment es c) None) e
    by_test false e =
        let far : opened (past_of es) < c = grind (arith, nat_tests) in
        ap (λ b. cond b (due_moment es c) None) e ∙ sym (not_live_due_law es c (unopened_not_live ds es c l far))

zero_not_live : (ds : List ℕ) (es : List Effect) → Lawful ds es → live (past_of es) 0 ≡ false
zero_not_live ds es l =
    elim (cases_Bool (live (past_of es) 0)) [
      | inl y ↦ absurd (omega (arith, (live_number ds es 0 l y).0))
      | inr n ↦ n
    ]

pub first_due_law : FirstDueLaw
first_due_law ds es first l is =
    again (first_due es)
    ∙ ap (option_map due_pair)
    (one_first (due_moment es) (option_map pair_of (first_due es)) first
    (subst (λ best. IsFirst (due_moment es) (option_map pair_of best)) (sym (first_due_is es))
    (subst (λ due. IsFirst due (option_map pair_of (best_of (able es) (oldest_due es) (opened (past_of es))))) (fun_ext (λ c. up_to_all ds es c l))
    (best_first (able es) (oldest_due es) (not_live_due_law es 0 (zero_not_live ds es l)) (opened (past_of es)))))
    is)
  where
    again : (o : Option Due) → o ≡ option_map due_pair (option_map pair_of o)
    again None = refl
    again (Some d) = refl

late_is_due : (es : List Effect) (c at : ℕ) (b : Bool) (o : Option Message)
    → (b && is_late_at es c at o)
    ≡ is_due (cond b (option_map (λ m. delivery es c m.seq + limit_of (past_of es) c) o) None) at
late_is_due es c at true None = refl
late_is_due es c at true (Some m) = refl
late_is_due es c at false o = refl

pub named_law : NamedLaw
named_law ds es now l = (
  filter_agree (λ c. able es c && is_late_at es c (max now (clock (past_of es))) (oldest es c)) (λ c. is_due (due_moment es c) (max now (clock (past_of es))))
      (λ c. late_is_due es c (max now (clock (past_of es))) (able es c) (oldest es c)) (channels (opened (past_of es))),
  λ c. named_mask ds es now c l ∙ late_is_due es c (max now (clock (past_of es))) (able es c) (oldest es c),
  λ mask low same.
      same_mask mask (mask_of (named es now)) low (mask_of-low (named es now))
      (λ c. same c ∙ sym (late_is_due es c (max now (clock (past_of es))) (able es c) (oldest es c)) ∙ sym (named_mask ds es now c l)),
)

anr_is : (es : List Effect) (at c : ℕ) (s : ChannelState) → oldest_of s ≡ oldest_of (channel_at es c 0 0)
    → anr_of es at c (oldest es c) ≡ anr_in at c s
anr_is es at c s e =
    by_oldest (oldest es c) ∙ ap (option_map (λ (p : ℕ × ℕ). record { clock = at; channel = c; seq = p.0 })) (sym (e ∙ oldest_law es c 0 0))
  where
    by_oldest : (o : Option Message)
        → anr_of es at c o
        ≡ option_map (λ (p : ℕ × ℕ). record { clock = at; channel = c; seq = p.0 }) (option_map {U = ℕ × ℕ} (λ m. (m.seq, delivery es c m.seq)) o)
    by_oldest None = refl
    by_oldest (Some m) = refl

-- the records of the channels 1 to n depend on these alone
among_same : (f g : ℕ → Option Anr) (p : ℕ → Bool) (n : ℕ) → ((c : ℕ) → 1 ≤ c → c ≤ n → f c ≡ g c)
    → filter_map f (filter p (channels n)) ≡ filter_map g (filter p (channels n))
among_same f g p zero same = refl
among_same f g p (suc n) same =
    cut f
    ∙ ap₂ (λ xs ys. xs ++ ys) (among_same f g p n (λ c from to. same c from (omega (arith, to)))) (one (p (suc n)))
    ∙ sym (cut g)
  where
    cut : (h : ℕ → Option Anr)
        → filter_map h (filter p (channels n ++ suc n ∷ []))
        ≡ filter_map h (filter p (channels n)) ++ filter_map h (filter p (suc n ∷ []))
    cut h = ap (filter_map h) (filter-append p (channels n) (suc n ∷ [])) ∙ filter_map-append h (filter p (channels n)) (filter p (suc n ∷ []))

    one : (b : Bool) → filter_map f (cond b (suc n ∷ []) []) ≡ filter_map g (cond b (suc n ∷ []) [])
    one true = ap (λ o. cons_option o []) (same (suc n) (omega arith) (omega arith))
    one false = refl

pub anrs_law : AnrsLaw
anrs_law ds call mask es kept keeps =
    let at = clock (past_of (step ds call (Named mask) es)) in
    ap (λ xs. anrs es ++ xs)
    (among_same (λ c. anr_of es at c (oldest es c)) (λ c. anr_in at c (kept c)) (mask_has mask) (opened (past_of es))
    (λ c from to. anr_is es at c (kept c) (ap oldest_of (keeps c from to).is)))

pub anrs_kept_law : AnrsKeptLaw
anrs_kept_law ds call answer es e = kept answer (clock (past_of (step ds call answer es))) e
  where
    kept : (answer : Reply) (at : ℕ) → is_named answer ≡ false → anrs es ++ anrs_by answer at es ≡ anrs es
    kept (Named mask) at f = absurd (cc f)
    kept answer at f = append-nil (anrs es)
