-- How many of the first messages of a channel may be released.
use Rattle.std.proofs.Common.{◌≡◌, ℕ, ◌+◌, ◌≤◌, ◌<◌, ◌==◌, ◌||◌, nat_lt, max, Bool, true, false, not, cond, List, length, refl, sym, ap, ◌∙◌, subst, inl, inr, arith}
use Rattle.std.proofs.lemmas.Bool.{cases_Bool, and_parts, eqb-true, true≢false}
use Rattle.std.proofs.lemmas.List.{length-reverse}
use Rattle.dispatch_calls.specs.declared.call.Call.{Call}
use Rattle.dispatch_calls.specs.declared.call.Call.TheVariants.{Open, Remove}
use Rattle.dispatch_calls.specs.declared.reply.Reply.{Reply}
use Rattle.dispatch_calls.specs.declared.reply.Reply.TheVariants.{Opened, Full, Done}
use Rattle.dispatch_history.specs.History.{clock, live, live_after, opened, received}
use Rattle.dispatch_history.specs.Effect.{Effect, past_of, stream}
use Rattle.dispatch_history.specs.Effects.{step, said_at}
use Rattle.dispatch_history.specs.Delivery.{published}
use Rattle.dispatch_history.specs.Reply.{reply_to}
use Rattle.dispatcher.specs.DispatchTables.Lawful.{Lawful}
use Rattle.dispatcher.specs.DispatchTables.Channel.{MayGo, part_of}
use Rattle.dispatcher.proofs.DispatchTables.Lawfuls.{lawful_last}
use Rattle.dispatcher.proofs.DispatchTables.Numbering.{length-sent_on}
use Rattle.dispatcher.proofs.DispatchTables.Stepping.{received_more}
use Rattle.dispatcher.proofs.DispatchTables.Channels.{sound, stepped}
use Rattle.dispatcher.proofs.DispatchTables.Unopened.{unopened_law}

number_is : (b : Bool) (n k : ℕ) → Opened k ≡ cond b (Opened (n + 1)) Full → k ≡ n + 1
number_is true n k e = cc e
number_is false n k e = absurd (cc e)

or_none : (b : Bool) → (b || false) ≡ true → b ≡ true
or_none true e = refl
or_none false e = e

-- a channel that is live after a step and was not before it is opened by it
fresh_live : (es : List Effect) (call : Call) (answer : Reply) (c : ℕ) → answer ≡ reply_to es call
    → live_after call answer c false ≡ true → opened (past_of es) < c
fresh_live es (Open terms) (Opened k) c r e =
    let same : c ≡ k = eqb-true c k (or_none (c == k) e) in
    let next : k ≡ opened (past_of es) + 1 = number_is (nat_lt (opened (past_of es)) 64) (opened (past_of es)) k r in
    omega arith
fresh_live es (Remove now k) Done c r e = absurd (true≢false (sym (and_parts (not (c == k)) false e).1))
fresh_live es call answer c r e = absurd (true≢false (sym e))

-- a channel that was not opened was sent nothing
pub unopened_stream : (ds : List ℕ) (es : List Effect) (c : ℕ) → Lawful ds es → opened (past_of es) < c
    → length (stream es c) ≡ 0
unopened_stream ds es c l lt =
    sym (length-reverse (stream es c)) ∙ ap (λ s. length s.messages) (unopened_law ds es c l lt)

pub received_grows : (ds : List ℕ) (call : Call) (answer : Reply) (es : List Effect) (c : ℕ)
    → Lawful ds (step ds call answer es)
    → received (past_of es) c ≤ received (past_of (step ds call answer es)) c
received_grows ds call answer es c l =
    let h = stepped ds call answer es c l (sound ds es c (lawful_last ds call answer es l).1) in
    subst (λ n. received (past_of es) c ≤ n) (sym h.received_is) (received_more (part_of call answer c) (received (past_of es) c))

stream_grows : (ds : List ℕ) (call : Call) (answer : Reply) (es : List Effect) (c : ℕ)
    → Lawful ds (step ds call answer es) → length (stream es c) ≤ length (stream (step ds call answer es) c)
stream_grows ds call answer es c l =
    let h = stepped ds call answer es c l (sound ds es c (lawful_last ds call answer es l).1) in
    let outgoing = said_at ds call answer es c in
    let longer : length (stream (step ds call answer es) c) ≡ length (stream es c) + length outgoing =
    ap length h.stream_is ∙ length-sent_on (clock (past_of (step ds call answer es))) outgoing (stream es c) in
    omega (arith, longer)

-- no more are released than there are after the step
pub most_on : (ds : List ℕ) (call : Call) (answer : Reply) (es : List Effect) (c gone : ℕ)
    → Lawful ds (step ds call answer es) → gone ≤ length (stream es c) → gone ≤ length (stream (step ds call answer es) c)
most_on ds call answer es c gone l most = omega (arith, most, stream_grows ds call answer es c l)

-- what may be released before a step may be released after it
pub may_go_on : (ds : List ℕ) (call : Call) (answer : Reply) (es : List Effect) (c gone : ℕ)
    → Lawful ds (step ds call answer es) → MayGo es c gone → MayGo (step ds call answer es) c gone
may_go_on ds call answer es c gone l may =
    let last = lawful_last ds call answer es l in
    record {
      of_all = omega (arith, may.of_all, stream_grows ds call answer es c l);
      of_live =
          λ lives.
          elim (cases_Bool (live (past_of es) c)) [
            | inl was ↦ omega (arith, may.of_live was, received_grows ds call answer es c l)
            | inr not_yet ↦
                let lt = fresh_live es call answer c last.0 (subst (λ b. live_after call answer c b ≡ true) not_yet lives) in
                omega (arith, may.of_all, unopened_stream ds es c last.1 lt)
          ];
    }

pub none_may_go : (es : List Effect) (c : ℕ) → MayGo es c 0
none_may_go es c = record { of_all = omega arith; of_live = λ lives. omega arith }

-- those that were received may be released
pub received_may_go : (ds : List ℕ) (es : List Effect) (c gone : ℕ) → Lawful ds es → MayGo es c gone
    → MayGo es c (max gone (received (past_of es) c))
received_may_go ds es c gone l may =
    let few : received (past_of es) c ≤ published es c = (sound ds es c l).received_published in
    let most : published es c ≤ length (stream es c) = omega arith in
    record { of_all = omega (arith, may.of_all, few, most); of_live = λ lives. omega (arith, may.of_live lives) }

pub received_most : (ds : List ℕ) (es : List Effect) (c gone : ℕ) → Lawful ds es → gone ≤ length (stream es c)
    → max gone (received (past_of es) c) ≤ length (stream es c)
received_most ds es c gone l le =
    let few : received (past_of es) c ≤ published es c = (sound ds es c l).received_published in
    let most : published es c ≤ length (stream es c) = omega arith in
    omega (arith, le, few, most)

-- all messages of a channel that is not live may be released
pub all_may_go : (es : List Effect) (c : ℕ) → live (past_of es) c ≡ false → MayGo es c (length (stream es c))
all_may_go es c dead = record { of_all = omega arith; of_live = λ lives. absurd (true≢false (sym lives ∙ dead)) }
