-- Which channels can take input after a step, as a function and as a mask.
use Rattle.std.proofs.Common.{◌≡◌, ℕ, ◌+◌, ◌^◌, ◌≤◌, ◌<◌, ◌==◌, nat_lt, nat_le, max, Bool, true, false, not, ◌&&◌, ◌||◌, cond, List, refl, sym, ap, ◌∙◌, subst, inl, inr, arith}
use Rattle.std.proofs.Math.Path.{fun_ext}
use Rattle.std.proofs.lemmas.Bool.{cases_Bool, cases_cond, eqb-true, and_from, le-leb, lt-ltb, ltb-true}
use Rattle.window_snapshot.specs.Mask.{is_channel, mask_has}
use Rattle.dispatch_calls.specs.declared.call.Call.{Call}
use Rattle.dispatch_calls.specs.declared.call.Call.TheVariants.{Open, Tick, Finish, Remove}
use Rattle.dispatch_calls.specs.declared.reply.Reply.{Reply}
use Rattle.dispatch_calls.specs.declared.reply.Reply.TheVariants.{Opened, Full, Done, Gone, Named}
use Rattle.dispatch_history.specs.History.{clock, live, live_after, opened, opened_after}
use Rattle.dispatch_history.specs.Effect.{Effect, past_of}
use Rattle.dispatch_history.specs.Effects.{effect_of, step}
use Rattle.dispatch_history.specs.Queue.{args_of, inbound}
use Rattle.dispatch_history.specs.Delivery.{able, unresponsive, is_reported_by, is_finish_of, has_late, oldest}
use Rattle.dispatch_history.specs.Due.{is_late_at, named, mask_of}
use Rattle.dispatch_history.specs.Reply.{reply_to}
use Rattle.dispatch_history.proofs.AbleLaws.{unresponsive_step}
use Rattle.dispatch_history.proofs.MotionLaws.{opened_mono}
use Rattle.dispatch_history.proofs.StreamLaws.{live_law}
use Rattle.dispatcher.specs.DispatchTables.Lawful.{Lawful}
use Rattle.dispatcher.specs.DispatchTables.Masks.{able_after, live_mask_after, able_mask_after}
use Rattle.dispatcher.specs.DispatchTables.Laws.{OpenedFew, AbleLaw, LiveMaskLaw, AbleMaskLaw}
use Rattle.dispatcher.proofs.DispatchTables.Lawfuls.{lawful_last, lawful_always}
use Rattle.dispatcher.proofs.DispatchTables.Masking.{mask_has-mask_of, mask_of-low, among}
use Rattle.dispatcher.proofs.DispatchTables.Unopened.{unopened_not_live, done_live}
use Rattle.dispatcher.proofs.DispatchTables.AbleMasks.{with_one, less_one, less_named, finished_mask}
use Rattle.dispatch_calls.specs.declared.terms.Terms.{Terms}

few_step : (call : Call) (answer : Reply) (es : List Effect) → answer ≡ reply_to es call → opened (past_of es) ≤ 64
    → opened_after call answer (opened (past_of es)) ≤ 64
few_step (Open terms) answer es r le =
    elim (cases_cond (nat_lt (opened (past_of es)) 64) (Opened (opened (past_of es) + 1)) Full answer r) [
      | inl e ↦ by_count (nat_lt (opened (past_of es)) 64) refl r
      | inr e ↦ rw e le
    ]
  where
    by_count : (b : Bool) → nat_lt (opened (past_of es)) 64 ≡ b
        → answer ≡ cond b (Opened (opened (past_of es) + 1)) Full
        → opened_after (Open terms) answer (opened (past_of es)) ≤ 64
    by_count true e q = rw q (ltb-true (opened (past_of es)) 64 e)
    by_count false e q = rw q le
few_step _ answer es r le = le

pub opened_few : OpenedFew
opened_few ds es l =
    lawful_always ds (λ xs. opened (past_of xs) ≤ 64) (omega arith)
    (λ call answer xs m h. few_step call answer xs (lawful_last ds call answer xs m).0 h) es l

-- a channel that is live has a number of a channel
pub live_number : (ds : List ℕ) (es : List Effect) (c : ℕ) → Lawful ds es → live (past_of es) c ≡ true
    → (1 ≤ c) × (c ≤ opened (past_of es)) × (c ≤ 64)
live_number ds es c l y =
    let r = live_law ds (past_of es) c l.legal y in
    (r.0, r.1, omega (arith, r.1, opened_few ds es l))

-- a channel that the first n and the mask's bits have, where it is live
pub with_number : (ds : List ℕ) (es : List Effect) (c : ℕ) (late : Bool) → Lawful ds es
    → (is_channel c && (nat_le 1 c && nat_le c (opened (past_of es)) && (able es c && late))) ≡ (able es c && late)
with_number ds es c late l =
    elim (cases_Bool (live (past_of es) c)) [
      | inl y ↦
          let r = live_number ds es c l y in
          let of_c : is_channel c ≡ true = and_from (nat_lt 0 c) (nat_le c 64) (lt-ltb 0 c (omega (arith, r.0))) (le-leb c 64 r.2) in
          tests (is_channel c) (nat_le 1 c) (nat_le c (opened (past_of es))) (able es c && late) of_c (le-leb 1 c r.0) (le-leb c (opened (past_of es)) r.1)
      | inr n ↦
          let dead : (able es c && late) ≡ false = ap (λ b. b && not (unresponsive es c) && late) n in
          ap (λ b. is_channel c && (nat_le 1 c && nat_le c (opened (past_of es)) && b)) dead
          ∙ none (is_channel c) (nat_le 1 c && nat_le c (opened (past_of es)))
          ∙ sym dead
    ]
  where
    tests : (a b d x : Bool) → a ≡ true → b ≡ true → d ≡ true → (a && (b && d && x)) ≡ x
    tests a b d x e f g = rw (e, f, g) refl

    none : (a b : Bool) → (a && (b && false)) ≡ false
    none true true = refl
    none true false = refl
    none false b = refl

-- which channels a tick reports
pub named_mask : (ds : List ℕ) (es : List Effect) (now c : ℕ) → Lawful ds es
    → mask_has (mask_of (named es now)) c ≡ (able es c && is_late_at es c (max now (clock (past_of es))) (oldest es c))
named_mask ds es now c l =
    let late : ℕ → Bool = λ d. is_late_at es d (max now (clock (past_of es))) (oldest es d) in
    mask_has-mask_of (named es now) c
    ∙ ap (λ b. is_channel c && b) (among (λ d. able es d && late d) (opened (past_of es)) c)
    ∙ with_number ds es c (late c) l

same_named : (a b : ℕ) → Named a ≡ Named b → a ≡ b
same_named a b e = cc

-- a channel that was never opened is not reported, and so not unresponsive
not_named : (ds : List ℕ) (es : List Effect) (c : ℕ) (call : Call) (answer : Reply) → Lawful ds es
    → answer ≡ reply_to es call → opened (past_of es) < c → is_reported_by call answer c ≡ false
not_named ds es c (Tick now) (Named mask) l r lt =
    ap (λ m. mask_has m c) (same_named mask (mask_of (named es now)) r)
    ∙ named_mask ds es now c l
    ∙ ap (λ b. b && not (unresponsive es c) && is_late_at es c (max now (clock (past_of es))) (oldest es c)) (unopened_not_live ds es c l lt)
not_named ds es c call answer l r lt = refl

quietly : (n u f l : Bool) → n ≡ false → u ≡ false → (n || u && not (f && not l)) ≡ false
quietly n u f l e g = rw (e, g) refl

pub unopened_responds : (ds : List ℕ) (es : List Effect) (c : ℕ) → Lawful ds es → opened (past_of es) < c
    → unresponsive es c ≡ false
unopened_responds ds es c l lt =
    lawful_always ds (λ xs. opened (past_of xs) < c → unresponsive xs c ≡ false) (λ x. refl)
    (λ call answer xs m h x.
    let last = lawful_last ds call answer xs m in
    let before : opened (past_of xs) < c = omega (arith, x, opened_mono call answer (opened (past_of xs))) in
    unresponsive_step (effect_of ds call answer (args_of call answer (inbound (past_of xs))) xs) xs c
    ∙ quietly (is_reported_by call answer c) (unresponsive xs c) (is_finish_of call answer c) (has_late (step ds call answer xs) c)
    (not_named ds xs c call answer last.1 last.0 before) (h before))
    es l lt

-- who is able, by tests
opens : (e lv u : Bool) → (e ≡ true → u ≡ false) → ((e || lv) && not (u && true)) ≡ (e || lv && not u)
opens true lv true h = sym (h refl)
opens true lv false h = refl
opens false true true h = refl
opens false true false h = refl
opens false false u h = refl

removes : (e lv u : Bool) → (not e && lv && not (u && true)) ≡ (not e && (lv && not u))
removes true lv u = refl
removes false lv true = refl
removes false lv false = refl

mutes : (n lv u : Bool) → (lv && not (n || u && true)) ≡ (not n && (lv && not u))
mutes true true u = refl
mutes true false u = refl
mutes false lv true = refl
mutes false lv false = refl

finishing : (e lv u l : Bool) → (e ≡ true → lv ≡ true)
    → (lv && not (u && not (e && not l))) ≡ cond e ((lv && not u) || not l) (lv && not u)
finishing true lv true true h = rw (h refl) refl
finishing true lv true false h = rw (h refl) refl
finishing true lv false l h = rw (h refl) refl
finishing false lv true l h = refl
finishing false lv false l h = refl

stays : (lv u : Bool) → (lv && not (u && true)) ≡ (lv && not u)
stays lv true = refl
stays lv false = refl

next_opened : (n k : ℕ) → Opened k ≡ cond (nat_lt n 64) (Opened (n + 1)) Full → n < k
next_opened n k r =
    elim (cases_cond (nat_lt n 64) (Opened (n + 1)) Full (Opened k) r) [
      | inl e ↦ let same : k ≡ n + 1 = cc in omega (arith, same)
      | inr e ↦ absurd (cc e)
    ]

by_call : (ds : List ℕ) (es : List Effect) (c : ℕ) (call : Call) (answer : Reply) (late : Bool) → Lawful ds es
    → answer ≡ reply_to es call
    → (live_after call answer c (live (past_of es) c) && not (is_reported_by call answer c || unresponsive es c && not (is_finish_of call answer c && not late)))
    ≡ able_after call answer late c (live (past_of es) c && not (unresponsive es c))
by_call ds es c (Open terms) (Opened k) late l r =
    opens (c == k) (live (past_of es) c) (unresponsive es c)
    (λ e. unopened_responds ds es c l (let same : c ≡ k = eqb-true c k e in let lt = next_opened (opened (past_of es)) k r in omega (arith, same, lt)))
by_call ds es c (Remove now k) Done late l r = removes (c == k) (live (past_of es) c) (unresponsive es c)
by_call ds es c (Tick now) (Named mask) late l r = mutes (mask_has mask c) (live (past_of es) c) (unresponsive es c)
by_call ds es c (Finish now k seq) Done late l r =
    finishing (c == k) (live (past_of es) c) (unresponsive es c) late
    (λ e. ap (live (past_of es)) (eqb-true c k e) ∙ done_live (live (past_of es) k) _ r)
by_call ds es c call answer late l r = stays (live (past_of es) c) (unresponsive es c)

pub able_law : AbleLaw
able_law ds call answer es c l =
    let last = lawful_last ds call answer es l in
    ap (λ u. live_after call answer c (live (past_of es) c) && not u)
    (unresponsive_step (effect_of ds call answer (args_of call answer (inbound (past_of es))) es) es c)
    ∙ by_call ds es c call answer (has_late (step ds call answer es) c) last.1 last.0

-- masks
from_to : (k : ℕ) → 1 ≤ k → k ≤ 64 → is_channel k ≡ true
from_to k from to = and_from (nat_lt 0 k) (nat_le k 64) (lt-ltb 0 k (omega (arith, from))) (le-leb k 64 to)

-- a channel that is opened, removed or finished has a number of a channel
opened_number : (ds : List ℕ) (es : List Effect) (terms : Terms) (k : ℕ) → Lawful ds es → Opened k ≡ reply_to es (Open terms)
    → is_channel k ≡ true
opened_number ds es terms k l r =
    by_count (nat_lt (opened (past_of es)) 64) refl r
  where
    by_count : (b : Bool) → nat_lt (opened (past_of es)) 64 ≡ b
        → Opened k ≡ cond b (Opened (opened (past_of es) + 1)) Full → is_channel k ≡ true
    by_count true e q =
        let same : k ≡ opened (past_of es) + 1 = cc in
        let lt : opened (past_of es) < 64 = ltb-true (opened (past_of es)) 64 e in
        from_to k (omega (arith, same)) (omega (arith, same, lt))
    by_count false e q = absurd (cc q)

live_channel : (ds : List ℕ) (es : List Effect) (k : ℕ) → Lawful ds es → live (past_of es) k ≡ true
    → is_channel k ≡ true
live_channel ds es k l y = let r = live_number ds es k l y in from_to k r.0 r.2

was_live : (b : Bool) → Done ≡ cond b Done Gone → b ≡ true
was_live true e = refl
was_live false e = absurd (cc e)

live_mask : (ds : List ℕ) (es : List Effect) (mask c : ℕ) (call : Call) (answer : Reply) → Lawful ds es
    → answer ≡ reply_to es call
    → mask_has (live_mask_after call answer mask) c ≡ live_after call answer c (mask_has mask c)
live_mask ds es mask c (Open terms) (Opened k) l r = with_one mask k c (opened_number ds es terms k l r)
live_mask ds es mask c (Remove now k) Done l r = less_one mask k c (live_channel ds es k l (was_live (live (past_of es) k) r))
live_mask ds es mask c call answer l r = refl

pub live_mask_law : LiveMaskLaw
live_mask_law ds call answer es mask l e =
    let last = lawful_last ds call answer es l in
    fun_ext (λ c. live_mask ds es mask c call answer last.1 last.0 ∙ ap (λ f. live_after call answer c (f c)) e)

able_mask : (ds : List ℕ) (es : List Effect) (mask c : ℕ) (call : Call) (answer : Reply) (late : ℕ → Bool)
    → Lawful ds es → answer ≡ reply_to es call
    → mask_has (able_mask_after call answer late mask) c ≡ able_after call answer (late c) c (mask_has mask c)
able_mask ds es mask c (Open terms) (Opened k) late l r = with_one mask k c (opened_number ds es terms k l r)
able_mask ds es mask c (Remove now k) Done late l r = less_one mask k c (live_channel ds es k l (was_live (live (past_of es) k) r))
able_mask ds es mask c (Tick now) (Named other) late l r =
    let same : other ≡ mask_of (named es now) = same_named other (mask_of (named es now)) r in
    less_named mask other c (subst (λ n. n < 2 ^ 64) (sym same) (mask_of-low (named es now)))
able_mask ds es mask c (Finish now k seq) Done late l r =
    finished_mask late mask k c (live_channel ds es k l (done_live (live (past_of es) k) _ r))
able_mask ds es mask c call answer late l r = refl

pub able_mask_law : AbleMaskLaw
able_mask_law ds call answer es mask l e =
    let last = lawful_last ds call answer es l in
    let late = has_late (step ds call answer es) in
    fun_ext (λ c.
    able_mask ds es mask c call answer late last.1 last.0
    ∙ ap (λ f. able_after call answer (late c) c (f c)) e
    ∙ sym (able_law ds call answer es c l))
