-- What is kept of all channels goes one step on with any step.
use Rattle.std.proofs.Common.{◌≡◌, ◌≢◌, ◌⊎◌, ℕ, suc, ◌+◌, ◌≤◌, nat_lt, Bool, true, false, cond, List, ◌++◌, None, refl, sym, ap, ◌∙◌, subst, inl, inr, arith}
use Rattle.std.proofs.Math.Path.{fun_ext}
use Rattle.std.proofs.lemmas.Bool.{cases_cond, cases_eq, eq-eqb, and_parts}
use Rattle.window_snapshot.specs.Mask.{mask_has, mask_with}
use Rattle.window_snapshot.proofs.Masks.{mask_has-zero}
use Rattle.dispatcher.specs.InputChannel.State.{has_late as late_at}
use Rattle.dispatch_calls.specs.declared.call.Call.{Call}
use Rattle.dispatch_calls.specs.declared.call.Call.TheVariants.{Open, Tick, Finish, Remove}
use Rattle.dispatch_calls.specs.declared.reply.Reply.{Reply}
use Rattle.dispatch_calls.specs.declared.reply.Reply.TheVariants.{Opened, Full, Done, Named}
use Rattle.dispatch_history.specs.History.{clock, live, opened, opened_after}
use Rattle.dispatch_history.specs.Effect.{Effect, past_of}
use Rattle.dispatch_history.specs.Effects.{step}
use Rattle.dispatch_history.specs.Delivery.{able, has_late}
use Rattle.dispatch_history.specs.Due.{anrs}
use Rattle.dispatch_history.specs.Reply.{reply_to}
use Rattle.dispatcher.specs.DispatchTables.Lawful.{Lawful}
use Rattle.dispatcher.specs.DispatchTables.Channel.{Holds, Opens, Untouched, part_of}
use Rattle.dispatcher.specs.DispatchTables.Masks.{able_mask_after}
use Rattle.dispatcher.specs.DispatchTables.Dues.{due_moment, due_in, anrs_in}
use Rattle.dispatcher.specs.DispatchTables.Delivery.{Delivery, DeliveryIs, NotedIs, noted_after, noted_with}
use Rattle.dispatch_history.proofs.MotionLaws.{opened_mono}
use Rattle.dispatcher.specs.DispatchTables.Laws.{DeliveryStart, DeliveryLaw, DeliveryDue}
use Rattle.dispatcher.proofs.DispatchTables.Lawfuls.{lawful_last}
use Rattle.dispatcher.proofs.DispatchTables.Unopened.{done_live}
use Rattle.dispatcher.proofs.DispatchTables.Ables.{live_number, live_mask_law, able_mask_law}
use Rattle.dispatcher.proofs.DispatchTables.Duties.{oldest_due, anrs_law, anrs_kept_law}
use Rattle.dispatcher.proofs.DispatchTables.Noting.{noted_more}
use Rattle.dispatcher.proofs.DispatchTables.Keeping.{kept_step, kept_quiet, kept_late, kept_due}

pub delivery_start : DeliveryStart
delivery_start channel =
    record {
      count_is = refl;
      keeps = λ c from to. absurd (omega (arith, from, to));
      live_is = fun_ext mask_has-zero;
      able_is = fun_ext mask_has-zero;
      noted_is = record { few = omega arith; left_is = refl };
    }

next_number : (n k : ℕ) → Opened k ≡ cond (nat_lt n 64) (Opened (n + 1)) Full → k ≡ suc n
next_number n k r =
    elim (cases_cond (nat_lt n 64) (Opened (n + 1)) Full (Opened k) r) [
      | inl e ↦ let same : k ≡ n + 1 = cc in omega (arith, same)
      | inr e ↦ absurd (cc e)
    ]

-- a channel after a step was there before, or has a part in it
there_or_part : (es : List Effect) (c : ℕ) (call : Call) (answer : Reply) → answer ≡ reply_to es call
    → c ≤ opened_after call answer (opened (past_of es))
    → (c ≤ opened (past_of es)) ⊎ (part_of call answer c ≡ Untouched → ⊥)
there_or_part es c (Open terms) (Opened k) r le =
    let next : k ≡ suc (opened (past_of es)) = next_number (opened (past_of es)) k r in
    elim (cases_eq c k) [
      | inl e ↦ inr (λ u. let none : Opens terms ≡ Untouched = sym (ap (λ b. cond b (Opens terms) Untouched) (eq-eqb c k e)) ∙ u in absurd (cc none))
      | inr ne ↦ inl (below (opened (past_of es)) k next ne le)
    ]
  where
    below : (n k : ℕ) → k ≡ suc n → c ≢ k → c ≤ suc n → c ≤ n
    below n k e ne le = omega (arith, e, ne, le)
there_or_part es c (Open terms) _ r le = inl le
there_or_part es c _ answer r le = inl le

-- whose late messages matter
same_late : (call : Call) (answer : Reply) (f g : ℕ → Bool) (mask : ℕ)
    → ((now k seq : ℕ) → call ≡ Finish now k seq → answer ≡ Done → f k ≡ g k)
    → able_mask_after call answer f mask ≡ able_mask_after call answer g mask
same_late (Finish now k seq) Done f g mask same = ap (λ b. cond b mask (mask_with mask k)) (same now k seq refl refl)
same_late (Open terms) (Opened k) f g mask same = refl
same_late (Remove now k) Done f g mask same = refl
same_late (Tick now) (Named other) f g mask same = refl
same_late call answer f g mask same = refl

-- what is recorded
notes : (ds : List ℕ) (call : Call) (answer : Reply) (es : List Effect) (k : Delivery) → DeliveryIs es k
    → NotedIs (anrs (step ds call answer es)) (noted_after answer (clock (past_of (step ds call answer es))) k)
notes ds call (Named mask) es k h =
    let now = clock (past_of (step ds call (Named mask) es)) in
    let same : anrs (step ds call (Named mask) es) ≡ anrs es ++ anrs_in now mask k.channel k.count =
    anrs_law ds call mask es k.channel (λ c from to. h.keeps c from (subst (λ n. c ≤ n) (sym h.count_is) to))
    ∙ ap (λ n. anrs es ++ anrs_in now mask k.channel n) (sym h.count_is) in
    subst (λ xs. NotedIs xs (noted_with (anrs_in now mask k.channel k.count) k.noted)) (sym same)
    (noted_more (anrs es) (anrs_in now mask k.channel k.count) k.noted h.noted_is)
notes ds call answer es k h = subst (λ xs. NotedIs xs k.noted) (sym (anrs_kept_law ds call answer es refl)) h.noted_is

-- all that goes on
pub delivery_law : DeliveryLaw
delivery_law ds call answer es changed k later l h g =
    record {
      count_is = g.count_is ∙ ap (opened_after call answer) h.count_is;
      keeps = keeps;
      live_is = ap mask_has g.live_is ∙ live_mask_law ds call answer es k.live l h.live_is;
      able_is = able_is;
      noted_is = subst (NotedIs (anrs (step ds call answer es))) (sym g.noted_is) (notes ds call answer es k h);
    }
  where
    reply_is : answer ≡ reply_to es call
    reply_is = (lawful_last ds call answer es l).0

    was : Lawful ds es
    was = (lawful_last ds call answer es l).1

    all : later.count ≡ opened_after call answer (opened (past_of es))
    all = g.count_is ∙ ap (opened_after call answer) h.count_is

    keeps_by : (c : ℕ) (b : Bool) → changed c ≡ b → 1 ≤ c → c ≤ later.count
        → Holds (step ds call answer es) c (later.channel c)
    keeps_by c true e from to =
        let x = g.changes c e from to in
        subst (Holds (step ds call answer es) c) (sym x.2) (kept_step ds call answer es c x.0 l x.1)
    keeps_by c false e from to =
        let x = g.stays c e from to in
        elim (there_or_part es c call answer reply_is (subst (λ n. c ≤ n) all to)) [
          | inl le ↦
              subst (Holds (step ds call answer es) c) (sym x.0)
              (kept_quiet ds call answer es c (k.channel c) l (h.keeps c from (subst (λ n. c ≤ n) (sym h.count_is) le)) x.1 x.2)
          | inr has ↦ absurd (has x.2)
        ]

    keeps : (c : ℕ) → 1 ≤ c → c ≤ later.count → Holds (step ds call answer es) c (later.channel c)
    keeps c from to = keeps_by c (changed c) refl from to

    late_is : (now c seq : ℕ) → call ≡ Finish now c seq → answer ≡ Done
        → late_at (clock (past_of (step ds call answer es))) (later.channel c) ≡ has_late (step ds call answer es) c
    late_is now c seq e f =
        let done : Done ≡ reply_to es (Finish now c seq) = sym f ∙ reply_is ∙ ap (reply_to es) e in
        let number = live_number ds es c was (done_live (live (past_of es) c) _ done) in
        let to : c ≤ later.count = omega (arith, all, number.1, opened_mono call answer (opened (past_of es))) in
        kept_late (step ds call answer es) c (later.channel c) (keeps c number.0 to)

    able_is : mask_has later.able ≡ able (step ds call answer es)
    able_is =
        ap mask_has
        (g.able_is
        ∙ same_late call answer (λ c. late_at (clock (past_of (step ds call answer es))) (later.channel c)) (has_late (step ds call answer es)) k.able late_is)
        ∙ able_mask_law ds call answer es k.able l h.able_is

-- the channels are due as by what is kept
pub delivery_due : DeliveryDue
delivery_due ds es k l h = fun_ext (λ c. ap (λ f. due_in (f c) (k.channel c)) h.able_is ∙ by_able c (able es c) refl)
  where
    by_able : (c : ℕ) (b : Bool) → able es c ≡ b → due_in (able es c) (k.channel c) ≡ due_moment es c
    by_able c true e =
        let number = live_number ds es c l (and_parts (live (past_of es) c) _ e).0 in
        sym (kept_due es c (k.channel c) (h.keeps c number.0 (subst (λ n. c ≤ n) (sym h.count_is) number.1)))
    by_able c false e =
        ap (λ b. due_in b (k.channel c)) e ∙ sym (ap (λ b. cond b (oldest_due es c) None) e)
