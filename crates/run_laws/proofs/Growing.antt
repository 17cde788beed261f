-- A run grows round by round, so one that is within the limits has no part that is too long.
use Rattle.std.proofs.Common.{◌≡◌, ℕ, zero, suc, ◌+◌, ◌-◌, ◌≤◌, List, [], ◌∷◌, length, Option, Some, None, refl, sym, ap, ◌∙◌, subst, arith}
use Rattle.std.specs.Prelude.{sum_by}
use Rattle.std.proofs.lemmas.List.Sums.{sum_by-append}
use Rattle.dispatch_calls.specs.declared.call.Call.{Call}
use Rattle.dispatch_calls.specs.declared.call.Call.TheVariants.{Open, Windows, FocusOn, Notify, Pump, Tick, Receive, Finish, Pilfer, Remove}
use Rattle.dispatch_calls.specs.declared.reply.Reply.{Reply}
use Rattle.dispatch_calls.specs.declared.reply.Reply.TheVariants.{Opened}
use Rattle.dispatch_history.specs.Effect.{Effect, past_of, stream, sent_to}
use Rattle.dispatch_history.specs.Effects.{channels, effect_of}
use Rattle.dispatch_history.specs.History.{clock, opened, opened_after}
use Rattle.dispatch_history.specs.Legal.{answered}
use Rattle.dispatch_history.specs.Reply.{reply_to}
use Rattle.dispatch_history.specs.Queue.{args_of, inbound}
use Rattle.dispatch_history.specs.Plan.{Plan}
use Rattle.dispatch_history.specs.Ordered.{Candidate, chosen, extend, receives, round, Rounds, rounds_with, rounds, ordered, Ordered}
use Rattle.dispatcher.proofs.DispatchTables.Numbering.{length-sent_on}
use Rattle.schedule.specs.Run.{messages_in}
use Rattle.run_laws.specs.Laws.{OneOutcome}
use Rattle.dispatch_history.proofs.OrderedLaws.{reached, stays}

opened_more : (call : Call) (answer : Reply) (n : ℕ) → n ≤ opened_after call answer n
opened_more (Open terms) (Opened k) n = omega arith
opened_more (Open terms) _ n = omega arith
opened_more (Windows now shown) answer n = omega arith
opened_more (FocusOn now d channel keys) answer n = omega arith
opened_more (Notify now a) answer n = omega arith
opened_more (Pump now) answer n = omega arith
opened_more (Tick now) answer n = omega arith
opened_more (Receive channel) answer n = omega arith
opened_more (Finish now channel seq) answer n = omega arith
opened_more (Pilfer now channel device) answer n = omega arith
opened_more (Remove now channel) answer n = omega arith

-- Some effects have as many steps and channels as others at least, and as many messages on each channel.
record Grown (es fs : List Effect) : Type 0 where
  calls : length es ≤ length fs
  opened_is : opened (past_of es) ≤ opened (past_of fs)
  messages : (c : ℕ) → length (stream es c) ≤ length (stream fs c)

same : (es : List Effect) → Grown es es
same es = record { calls = omega arith; opened_is = omega arith; messages = λ c. omega arith }

then : (es fs gs : List Effect) → Grown es fs → Grown fs gs → Grown es gs
then es fs gs g h =
    record {
      calls = omega (arith, g.calls, h.calls);
      opened_is = omega (arith, g.opened_is, h.opened_is);
      messages = λ c. omega (arith, g.messages c, h.messages c);
    }

one_step : (x : Effect) (es : List Effect) (c : ℕ) → length (stream es c) ≤ length (stream (x ∷ es) c)
one_step x es c = omega (arith, length-sent_on (clock x.past) (sent_to x.outgoing c) (stream es c))

one_call : (ds : List ℕ) (es : List Effect) (call : Call) → Grown es (answered ds call es)
one_call ds es call =
    record {
      calls = omega arith;
      opened_is = opened_more call (reply_to es call) (opened (past_of es));
      messages = λ c. one_step (effect_of ds call (reply_to es call) (args_of call (reply_to es call) (inbound (past_of es))) es) es c;
    }

all_calls : (ds : List ℕ) (es : List Effect) (calls : List Call) → Grown es (extend ds es calls)
all_calls ds es [] = same es
all_calls ds es (call ∷ calls) = then es (answered ds call es) (extend ds (answered ds call es) calls) (one_call ds es call) (all_calls ds (answered ds call es) calls)

one_round : (plan : Plan) (es : List Effect) (c : Candidate) → Grown es (round plan es c)
one_round plan es c =
    then es (extend plan.displays es c.calls) (round plan es c) (all_calls plan.displays es c.calls)
    (all_calls plan.displays (extend plan.displays es c.calls) (receives (extend plan.displays es c.calls)))

more_rounds : (n : ℕ) (plan : Plan) (es : List Effect) → Grown es (rounds n plan es)
more_rounds zero plan es = same es
more_rounds (suc n) plan es = by_chosen (λ later. rounds n plan later) (chosen plan es) (λ fs. more_rounds n plan fs)
  where
    by_chosen : (more : List Effect → List Effect) (o : Option Candidate) → ((fs : List Effect) → Grown fs (more fs)) → Grown es (rounds_with plan more es o)
    by_chosen more None grows = same es
    by_chosen more (Some c) grows = then es (round plan es c) (more (round plan es c)) (one_round plan es c) (grows (round plan es c))

last_apart : (f : ℕ → ℕ) (n : ℕ) → sum_by f (channels (suc n)) ≡ sum_by f (channels n) + f (suc n)
last_apart f n = sum_by-append f (channels n) (suc n ∷ []) ∙ (let one : sum_by f (channels n) + sum_by f (suc n ∷ []) ≡ sum_by f (channels n) + f (suc n) = omega arith in one)

sum_same : (f g : ℕ → ℕ) (n : ℕ) → ((c : ℕ) → f c ≤ g c) → sum_by f (channels n) ≤ sum_by g (channels n)
sum_same f g zero le = omega arith
sum_same f g (suc n) le = omega (arith, last_apart f n, last_apart g n, le (suc n), sum_same f g n le)

sum_longer : (f : ℕ → ℕ) (n d m : ℕ) → m ≡ n + d → sum_by f (channels n) ≤ sum_by f (channels m)
sum_longer f n zero m e = let same : n ≡ m = omega (arith, e) in subst (λ k. sum_by f (channels n) ≤ sum_by f (channels k)) same (omega arith)
sum_longer f n (suc d) m e =
    let one : suc (n + d) ≡ m = omega (arith, e) in
    subst (λ k. sum_by f (channels n) ≤ sum_by f (channels k)) one (omega (arith, last_apart f (n + d), sum_longer f n d (n + d) refl))

grown_messages : (es fs : List Effect) → Grown es fs → messages_in es ≤ messages_in fs
grown_messages es fs g =
    let n = opened (past_of es) in
    let m = opened (past_of fs) in
    let more : opened (past_of fs) ≡ opened (past_of es) + (opened (past_of fs) - opened (past_of es)) = omega (arith, g.opened_is) in
    omega (
      arith,
      sum_same (λ c. length (stream es c)) (λ c. length (stream fs c)) (opened (past_of es)) g.messages,
      sum_longer (λ c. length (stream fs c)) (opened (past_of es)) (opened (past_of fs) - opened (past_of es)) (opened (past_of fs)) more,
    )

-- the ordered run is reached from each of its parts
ends_at : (plan : Plan) (es fs : List Effect) → Ordered plan es → Rounds plan fs → (n : ℕ) × (rounds n plan fs ≡ es)
ends_at plan es fs o r =
    let k = reached plan fs r in
    let l = reached plan es o.0 in (
      l.0,
      sym (k.1 l.0) ∙ ap (λ j. ordered j plan) (omega arith) ∙ l.1 k.0 ∙ stays k.0 plan es o.1,
    )

pub one_outcome : OneOutcome
one_outcome plan es fs o within r long =
    let n = ends_at plan es fs o r in
    let g : Grown fs es = subst (Grown fs) n.1 (more_rounds n.0 plan fs) in
    long (omega (arith, g.calls, within.0), omega (arith, grown_messages fs es g, within.1))
