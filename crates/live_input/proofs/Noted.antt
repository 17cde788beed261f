-- The steps at which messages were published, with one step more.
use Rattle.std.proofs.Common.{◌≡◌, ℕ, zero, suc, ◌+◌, ◌-◌, ◌%◌, ◌^◌, ◌≤◌, ◌<◌, ◌==◌, min, max, Bool, true, false, cond, List, [], ◌∷◌, length, replicate, slice_index_or, slice_set, refl, sym, ap, ap₂, ◌∙◌, subst, inl, inr, arith}
use Rattle.std.proofs.lemmas.Bool.{cases_eq, cases_lt, le-leb, lt-leb}
use Rattle.std.proofs.lemmas.List.{get_or-set_same, get_or-set_other, length-set}
use Rattle.input_types.specs.declared.message.Message.{Message}
use Rattle.dispatch_calls.specs.declared.call.Call.{Call}
use Rattle.dispatch_calls.specs.declared.call.Call.TheVariants.{Finish}
use Rattle.dispatch_calls.specs.declared.reply.Reply.{Reply}
use Rattle.dispatch_calls.specs.declared.reply.Reply.TheVariants.{Done}
use Rattle.dispatch_history.specs.Delivery.{published}
use Rattle.dispatch_history.specs.Effect.{Effect, past_of, sent_on, sent_to, stream}
use Rattle.dispatch_history.specs.Effects.{effect_of}
use Rattle.dispatch_history.specs.Queue.{args_of, inbound}
use Rattle.dispatch_history.specs.History.{clock, finished, finished_after, opened}
use Rattle.dispatch_history.specs.Legal.{answered}
use Rattle.dispatch_history.specs.Reply.{reply_to}
use Rattle.dispatch_history.proofs.MotionLaws.{unopened}
use Rattle.dispatcher.specs.DispatchTables.Lawful.{Lawful}
use Rattle.dispatcher.specs.DispatchTables.Silent.{is_silent}
use Rattle.dispatcher.proofs.DispatchTables.Channels.{sound, stepped}
use Rattle.dispatcher.proofs.DispatchTables.Lawfuls.{lawful_last}
use Rattle.dispatcher.proofs.DispatchTables.Numbering.{length-sent_on}
use Rattle.dispatcher.proofs.DispatchTables.Silence.{silent_calls}
use Rattle.live_input.specs.declared.steps.Recent.{Recent}
use Rattle.live_input.specs.declared.steps.Steps.{Steps}
use Rattle.live_input.specs.Steps.{Notes, Remembers, StepsAre, at_or, counted, no_step, published_at, recent_of}

pub same_at : {X : Type 0} (x : X) (n i : ℕ) → slice_index_or (replicate n x) i x ≡ x
same_at x zero i = refl
same_at x (suc n) zero = refl
same_at x (suc n) (suc i) = same_at x n i

-- before the first step
pub steps_first : (s : Steps) → s.made ≡ 0 → s.channels ≡ replicate 64 no_step → StepsAre [] s
steps_first s none empty =
    record {
      made_is = none;
      all = ap length empty;
      published_are = λ c low high. ap (λ (r : Recent). r.published) (nothing c);
      steps_are = λ few c low high. subst (Remembers (λ k. 0)) (sym (nothing c)) (record { all = refl; steps_are = λ k le lt. same_at 0 64 (k % 64) });
    }
  where
    nothing : (c : ℕ) → recent_of s c ≡ no_step
    nothing c = ap (λ rs. slice_index_or rs (c - 1) no_step) empty ∙ same_at no_step 64 (c - 1)

-- a value for the numbers up to n, and one for all others
pub at_below : (at : ℕ → ℕ) (n other k : ℕ) → k ≤ n → at_or at n other k ≡ at k
at_below at n other k le = ap (λ b. cond b (at k) other) (le-leb k n le)

pub at_above : (at : ℕ → ℕ) (n other k : ℕ) → n < k → at_or at n other k ≡ other
at_above at n other k lt = ap (λ b. cond b (at k) other) (lt-leb k n lt)

-- what is remembered is so for any later step
pub remembers_on : (at : ℕ → ℕ) (step : ℕ) (r : Recent) → Remembers at r → Remembers (at_or at r.published step) r
remembers_on at step r m =
    record { all = m.all; steps_are = λ k le lt. m.steps_are k le lt ∙ sym (at_below at r.published step k le) }

-- one message more is published
pub remembers_more : (at : ℕ → ℕ) (step : ℕ) (r t : Recent) → Remembers at r → at (r.published + 1) ≡ step → t.published ≡ r.published + 1
    → t.steps ≡ slice_set r.steps ((r.published + 1) % 64) step → Remembers at t
remembers_more at step r t m is count set =
    record {
      all = ap length set ∙ length-set r.steps ((r.published + 1) % 64) step ∙ m.all;
      steps_are = λ k le lt. elim (cases_eq k (r.published + 1)) [
        | inl e ↦
            let here : (r.published + 1) % 64 < length r.steps = omega (arith, m.all) in
            ap (λ n. slice_index_or t.steps (n % 64) 0) e
            ∙ ap (λ ns. slice_index_or ns ((r.published + 1) % 64) 0) set
            ∙ get_or-set_same r.steps ((r.published + 1) % 64) step 0 here
            ∙ sym (ap at e ∙ is)
        | inr ne ↦
            let below = less k r.published (subst (λ n. k ≤ n) count le) ne in
            let near : r.published + 1 < k + 64 = subst (λ n. n < k + 64) count lt in
            ap (λ ns. slice_index_or ns (k % 64) 0) set
            ∙ get_or-set_other r.steps ((r.published + 1) % 64) (k % 64) step 0 (λ e. apart k r.published below near e)
            ∙ m.steps_are k below (omega (arith, near))
      ];
    }
  where
    less : (k n : ℕ) → k ≤ n + 1 → (k ≡ n + 1 → ⊥) → k ≤ n
    less k n le ne = elim (cases_lt n k) [ inl gt ↦ absurd (ne (omega (arith, le, gt))) | inr ok ↦ ok ]

    apart : (k n : ℕ) → k ≤ n → n + 1 < k + 64 → k % 64 ≡ (n + 1) % 64 → ⊥
    apart k n le lt e = absurd (omega (arith, le, lt, e))

-- nothing is recorded where nothing is published
pub notes_nothing : (es : List Effect) (c : ℕ) (old new : Steps) → recent_of new c ≡ recent_of old c
    → published es c ≤ (recent_of old c).published → Notes es c old new
notes_nothing es c old new same le =
    record {
      published_is = ap (λ (r : Recent). r.published) same ∙ omega (arith, le);
      steps_are = λ at m.
          subst (Remembers (at_or at (recent_of old c).published old.made)) (sym same) (remembers_on at old.made (recent_of old c) m);
    }

-- a channel that was not opened has published nothing
pub none_published : (ds : List ℕ) (es : List Effect) (c : ℕ) → Lawful ds es → opened (past_of es) < c → published es c ≡ 0
none_published ds es c l lt =
    let none : stream es c ≡ [] = subst (λ xs. stream xs c ≡ []) l.whole (unopened ds (past_of es) c l.legal lt) in
    least (length (stream es c)) (length (finished (past_of es) c)) (ap length none)
  where
    least : (a n : ℕ) → a ≡ 0 → min a (n + 64) ≡ 0
    least a n e = omega (arith, e)

-- with a step, no less is published
more_finished : (call : Call) (answer : Reply) (c : ℕ) (ns : List ℕ) → length ns ≤ length (finished_after call answer c ns)
more_finished (Finish now k seq) Done c ns = by_channel (c == k)
  where
    by_channel : (b : Bool) → length ns ≤ length (cond b (seq ∷ ns) ns)
    by_channel true = omega arith
    by_channel false = omega arith
more_finished call answer c ns = omega arith

grows : (a b n m : ℕ) → a ≤ b → n ≤ m → min a (n + 64) ≤ min b (m + 64)
grows a b n m le less = omega (arith, le, less)

grows_by : (x : Effect) (es : List Effect) (c : ℕ) → length (finished (past_of es) c) ≤ length (finished x.past c)
    → published es c ≤ published (x ∷ es) c
grows_by x es c more =
    let longer = length-sent_on (clock x.past) (sent_to x.outgoing c) (stream es c) in
    grows (length (stream es c)) (length (sent_on (clock x.past) (sent_to x.outgoing c) (stream es c))) (length (finished (past_of es) c))
    (length (finished x.past c)) (omega (arith, longer)) more

-- the effect of a call
abbrev pub effect : List ℕ → Call → List Effect → Effect
effect ds call es = effect_of ds call (reply_to es call) (args_of call (reply_to es call) (inbound (past_of es))) es

pub published_grows : (ds : List ℕ) (call : Call) (es : List Effect) (c : ℕ) → published es c ≤ published (answered ds call es) c
published_grows ds call es c = grows_by (effect ds call es) es c (more_finished call (reply_to es call) c (finished (past_of es) c))

-- the call finishes no message of the channel
same_finished : (call : Call) (answer : Reply) (c : ℕ) (ns : List ℕ) → ((now k seq : ℕ) → call ≡ Finish now k seq → (c == k) ≡ false)
    → finished_after call answer c ns ≡ ns
same_finished (Finish now k seq) Done c ns other = ap (λ b. cond b (seq ∷ ns) ns) (other now k seq refl)
same_finished call answer c ns other = refl

-- a call that sends nothing and finishes no message of the channel publishes none of it
pub same_published : (ds : List ℕ) (call : Call) (es : List Effect) (c : ℕ) → Lawful ds (answered ds call es)
    → is_silent call (reply_to es call) c ≡ true → ((now k seq : ℕ) → call ≡ Finish now k seq → (c == k) ≡ false)
    → published (answered ds call es) c ≡ published es c
same_published ds call es c l silent other =
    let answer = reply_to es call in
    let sent = (stepped ds call answer es c l (sound ds es c (lawful_last ds call answer es l).1)).stream_is in
    ap₂ (λ (ms : List Message) (ns : List ℕ). min (length ms) (length ns + 64))
    (sent ∙ ap (λ bs. sent_on (clock (past_of (answered ds call es))) bs (stream es c)) (silent_calls ds call answer es c silent))
    (same_finished call answer c (finished (past_of es) c) other)

-- all together
pub steps_go : (es : List Effect) (x : Effect) (old new : Steps) → StepsAre es old → new.made ≡ (counted old).made → length new.channels ≡ 64
    → ((c : ℕ) → published es c ≤ published (x ∷ es) c) → ((c : ℕ) → 1 ≤ c → c ≤ 64 → Notes (x ∷ es) c (counted old) new)
    → StepsAre (x ∷ es) new
steps_go es x old new h made all more notes =
    record {
      made_is = made ∙ next old.made (length es) h.made_is;
      all = all;
      published_are = λ c low high.
          (notes c low high).published_is
          ∙ ap (λ p. max p (published (x ∷ es) c)) (h.published_are c low high)
          ∙ upper (published es c) (published (x ∷ es) c) (more c);
      steps_are = λ few c low high.
          let before = h.steps_are (omega (arith, few)) c low high in
          let n = (notes c low high).steps_are (published_at es c) before in
          subst (λ p. Remembers (at_or (published_at es c) p (suc (length es))) (recent_of new c)) (h.published_are c low high)
          (subst (λ m. Remembers (at_or (published_at es c) (recent_of old c).published m) (recent_of new c)) (exact old.made (length es) h.made_is few) n);
    }
  where
    next : (m n : ℕ) → m ≡ min n (2 ^ 64 - 1) → min (m + 1) (2 ^ 64 - 1) ≡ min (suc n) (2 ^ 64 - 1)
    next m n e = omega (arith, e)

    exact : (m n : ℕ) → m ≡ min n (2 ^ 64 - 1) → suc n < 2 ^ 64 → min (m + 1) (2 ^ 64 - 1) ≡ suc n
    exact m n e few = omega (arith, e, few)

    upper : (a b : ℕ) → a ≤ b → max a b ≡ b
    upper a b le = omega (arith, le)

-- a call that publishes nothing
pub steps_pass : (ds : List ℕ) (call : Call) (es : List Effect) (old : Steps) → Lawful ds (answered ds call es)
    → ((c : ℕ) → is_silent call (reply_to es call) c ≡ true) → ((now k seq : ℕ) → call ≡ Finish now k seq → ⊥)
    → StepsAre es old → StepsAre (answered ds call es) (counted old)
steps_pass ds call es old l silent never h =
    steps_go es (effect ds call es) old (counted old) h refl h.all (published_grows ds call es)
    (λ c low high. notes_nothing (answered ds call es) c (counted old) (counted old) refl (still c low high))
  where
    still : (c : ℕ) → 1 ≤ c → c ≤ 64 → published (answered ds call es) c ≤ (recent_of old c).published
    still c low high =
        let same = same_published ds call es c l (silent c) (λ now k seq e. absurd (never now k seq e)) in
        let was = h.published_are c low high in
        omega (arith, same, was)
