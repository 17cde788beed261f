-- How many messages are released, and that a channel with unreleased ones after a call is live and has an unfinished one.
use Rattle.std.proofs.Common.{◌≡◌, ◌⊎◌, ℕ, zero, suc, ◌+◌, ◌-◌, ◌≤◌, nat_le, not, ◌&&◌, min, Bool, true, false, cond, List, [], ◌∷◌, length, map, replicate, None, refl, sym, ap, ◌∙◌, subst, inl, inr, arith}
use Rattle.std.specs.Prelude.{sum_by, slice_get}
use Rattle.std.proofs.lemmas.Bool.{cases_eq, le-leb, true≢false}
use Rattle.std.proofs.lemmas.List.Sums.{sum_by-append}
use Rattle.input_types.specs.declared.message.Body.{Body}
use Rattle.input_types.specs.declared.message.Message.{Message}
use Rattle.dispatcher.specs.InputChannel.Order.{has_seq}
use Rattle.dispatch_calls.specs.declared.call.Call.{Call}
use Rattle.dispatch_calls.specs.declared.call.Call.TheVariants.{Open, Windows, FocusOn, Notify, Pump, Tick, Receive, Finish, Pilfer, Remove}
use Rattle.dispatch_calls.specs.declared.reply.Reply.{Reply}
use Rattle.dispatch_calls.specs.declared.reply.Reply.TheVariants.{Opened}
use Rattle.dispatch_history.specs.History.{History, clock, live, opened, opened_after, received, finished}
use Rattle.dispatch_history.specs.Effect.{Effect, past_of, stream, sent_on}
use Rattle.dispatch_history.specs.Effects.{step, channels, said_at}
use Rattle.dispatch_history.specs.Delivery.{published, delivery, oldest, unfinished, is_finished}
use Rattle.dispatch_history.specs.Legal.{answered}
use Rattle.dispatch_history.specs.Reply.{reply_to}
use Rattle.dispatcher.specs.DispatchTables.Lawful.{Lawful}
use Rattle.dispatcher.specs.DispatchTables.Silent.{is_silent}
use Rattle.dispatcher.proofs.DispatchTables.Channels.{sound, stepped}
use Rattle.dispatcher.proofs.DispatchTables.Kept.{channel_law}
use Rattle.dispatcher.proofs.DispatchTables.Lawfuls.{lawful_step}
use Rattle.dispatcher.proofs.DispatchTables.Numbering.{length-sent_on}
use Rattle.dispatcher.proofs.DispatchTables.Silence.{silent_calls}
use Rattle.dispatcher.proofs.DispatchTables.Unfinished.{has_seq_law}
use Rattle.dispatcher.proofs.DispatchTables.Unopened.{not_live_said}
use Rattle.dispatcher.proofs.DispatchTables.Waiting.{with_delivery}
use Rattle.dispatcher.specs.Access.{gone}
use Rattle.dispatcher.specs.Dispatching.{Dispatching, IsAfter}
use Rattle.schedule.specs.Kinds.{is_finishing}
use Rattle.schedule.specs.Receives.{receives_of}
use Rattle.schedule.specs.Released.{released, AllReleased, KeepsUnfinished}
use Rattle.schedule.specs.Run.{messages_in}
use Rattle.schedule.proofs.Releases.{none_gone}

-- a sum over the channels, with one channel more
pub sum_next : (f : ℕ → ℕ) (n : ℕ) → sum_by f (channels (suc n)) ≡ sum_by f (channels n) + f (suc n)
sum_next f n = sum_by-append f (channels n) (suc n ∷ []) ∙ ap (λ m. sum_by f (channels n) + m) (one (suc n))
  where
    one : (m : ℕ) → sum_by f (m ∷ []) ≡ f m
    one m = omega arith

-- of equal numbers
pub sum_low : (f g : ℕ → ℕ) (n : ℕ) → ((c : ℕ) → 1 ≤ c → c ≤ n → f c ≡ g c) → sum_by f (channels n) ≡ sum_by g (channels n)
sum_low f g zero same = refl
sum_low f g (suc n) same =
    let before = sum_low f g n (λ c low high. same c low (omega (arith, high))) in
    let here = same (suc n) (omega arith) (omega arith) in
    omega (arith, sum_next f n, sum_next g n, before, here)

-- where one of them is greater by so much
pub sum_one : (f g : ℕ → ℕ) (c k n : ℕ) → 1 ≤ c → c ≤ n → g c ≡ f c + k → ((d : ℕ) → 1 ≤ d → (d ≡ c → ⊥) → g d ≡ f d)
    → sum_by g (channels n) ≡ sum_by f (channels n) + k
sum_one f g c k zero low high here others = absurd (omega (arith, low, high))
sum_one f g c k (suc n) low high here others = by_place (λ le. sum_one f g c k n low le here others) (cases_eq c (suc n))
  where
    by_place : (c ≤ n → sum_by g (channels n) ≡ sum_by f (channels n) + k) → (c ≡ suc n) ⊎ (c ≡ suc n → ⊥)
        → sum_by g (channels (suc n)) ≡ sum_by f (channels (suc n)) + k
    by_place below (inl e) =
        let same : sum_by g (channels n) ≡ sum_by f (channels n) =
        sum_low g f n (λ d one le. others d one (λ at. absurd (omega (arith, at, e, le)))) in
        let there : g (suc n) ≡ f (suc n) + k = subst (λ m. g m ≡ f m + k) e here in
        omega (arith, sum_next f n, sum_next g n, same, there)
    by_place below (inr ne) =
        let before = below (omega (arith, high, ne)) in
        let there : g (suc n) ≡ f (suc n) = others (suc n) (omega arith) (λ at. ne (sym at)) in
        omega (arith, sum_next f n, sum_next g n, before, there)

-- a step opens one channel, or none
opened_or : (call : Call) (answer : Reply) (n : ℕ) → (opened_after call answer n ≡ n) ⊎ (opened_after call answer n ≡ suc n)
opened_or (Open terms) (Opened k) n = inr refl
opened_or call answer n = inl refl

-- a step releases nothing
pub released_step : (ds : List ℕ) (call : Call) (answer : Reply) (es : List Effect) (d later : Dispatching) → IsAfter es d
    → ((c : ℕ) → 1 ≤ c → gone later c ≡ gone d c) → released (step ds call answer es) later ≡ released es d
released_step ds call answer es d later after kept = by_opened (opened_or call answer (opened (past_of es)))
  where
    same : sum_by (gone later) (channels (opened (past_of es))) ≡ released es d
    same = sum_low (gone later) (gone d) (opened (past_of es)) (λ c low high. kept c low)

    by_opened : (opened_after call answer (opened (past_of es)) ≡ opened (past_of es)) ⊎ (opened_after call answer (opened (past_of es)) ≡ suc (opened (past_of es)))
        → released (step ds call answer es) later ≡ released es d
    by_opened (inl e) = ap (λ m. sum_by (gone later) (channels m)) e ∙ same
    by_opened (inr e) =
        let none : gone later (suc (opened (past_of es))) ≡ 0 =
        kept (suc (opened (past_of es))) (omega arith) ∙ none_gone es d (suc (opened (past_of es))) after (omega arith) in
        ap (λ m. sum_by (gone later) (channels m)) e ∙ omega (arith, sum_next (gone later) (opened (past_of es)), none, same)

-- where all is released, as many are as there are
pub released_all : (es : List Effect) (d : Dispatching) → AllReleased es d → released es d ≡ messages_in es
released_all es d all = sum_low (gone d) (λ c. length (stream es c)) (opened (past_of es)) (λ c low high. all c low)

-- the same streams are released as well as before
pub released_stay : (es later : List Effect) (d e : Dispatching) → ((c : ℕ) → stream later c ≡ stream es c)
    → ((c : ℕ) → 1 ≤ c → gone e c ≡ gone d c) → AllReleased es d → AllReleased later e
released_stay es later d e same kept all = λ c low. kept c low ∙ all c low ∙ ap length (sym (same c))

-- a step that sends a channel nothing leaves its stream
pub silent_stream : (ds : List ℕ) (call : Call) (es : List Effect) (c : ℕ) → Lawful ds es → is_silent call (reply_to es call) c ≡ true
    → stream (answered ds call es) c ≡ stream es c
silent_stream ds call es c l e =
    (stepped ds call (reply_to es call) es c (lawful_step ds call (reply_to es call) es l refl) (sound ds es c l)).stream_is
    ∙ ap outgoing (silent_calls ds call (reply_to es call) es c e)
  where
    outgoing : List Body → List Message
    outgoing bs = sent_on (clock (past_of (answered ds call es))) bs (stream es c)

-- a channel without an unfinished message
none_there : (ms : List Message) → slice_get ms 0 ≡ None → ms ≡ []
none_there [] e = refl
none_there (m ∷ ms) e = absurd (cc e)

module _ (ds : List ℕ) (es : List Effect) (c : ℕ) (l : Lawful ds es) (none : oldest es c ≡ None) where
  no_unfinished : unfinished es c ≡ []
  no_unfinished = none_there (unfinished es c) none

  -- has no message but finished ones
  pub all_finished : length (stream es c) ≡ length (finished (past_of es) c)
  all_finished =
      let counted : min (length (stream es c)) (length (finished (past_of es) c) + 64) ≡ length (finished (past_of es) c) + length (map (with_delivery (delivery es c)) (unfinished es c)) =
      (channel_law ds es c 0 0 l (omega arith)).0.counted in
      let left : length (map (with_delivery (delivery es c)) (unfinished es c)) ≡ 0 =
      ap (λ (ms : List Message). length (map (with_delivery (delivery es c)) ms)) no_unfinished in
      omega (arith, counted, left)

  -- and its owner has received all that is published
  pub all_had : received (past_of es) c ≡ published es c
  all_had =
      let s = sound ds es c l in
      let few : received (past_of es) c ≤ published es c = s.received_published in
      by_count few (cases_eq (published es c) 0)
    where
      by_done : 1 ≤ published es c → received (past_of es) c ≤ published es c → (b : Bool) → is_finished (past_of es) c (published es c) ≡ b
          → received (past_of es) c ≡ published es c
      by_done low few true e = omega (arith, few, ((sound ds es c l).done_received (published es c) e).1)
      by_done low few false e =
          let tests : (nat_le 1 (published es c) && nat_le (published es c) (published es c) && not (is_finished (past_of es) c (published es c))) ≡ true =
          rw (le-leb 1 (published es c) low, le-leb (published es c) (published es c) (omega arith), e) refl in
          let nowhere : has_seq (published es c) (map (with_delivery (delivery es c)) (unfinished es c)) ≡ false =
          ap (λ (ms : List Message). has_seq (published es c) (map (with_delivery (delivery es c)) ms)) no_unfinished in
          absurd (true≢false (sym tests ∙ sym (has_seq_law ds es c (published es c) l) ∙ nowhere))

      by_count : received (past_of es) c ≤ published es c → (published es c ≡ 0) ⊎ (published es c ≡ 0 → ⊥) → received (past_of es) c ≡ published es c
      by_count few (inl e) = omega (arith, few, e)
      by_count few (inr ne) = by_done (omega (arith, ne)) few (is_finished (past_of es) c (published es c)) refl

-- so of a channel that is not live, or has none, nothing is to be received
pub nothing_left : (ds : List ℕ) (es : List Effect) (c : ℕ) → Lawful ds es → (live (past_of es) c ≡ true → oldest es c ≡ None) → receives_of es c ≡ []
nothing_left ds es c l none = by_live (live (past_of es) c) refl
  where
    by_live : (b : Bool) → live (past_of es) c ≡ b → cond b (replicate (published es c - received (past_of es) c) (Receive c)) [] ≡ []
    by_live true y =
        let left : published es c - received (past_of es) c ≡ 0 = omega (arith, all_had ds es c l (none y)) in
        ap (λ n. replicate n (Receive c)) left
    by_live false y = refl

-- who finishes nothing leaves as many messages finished
finished_same : (call : Call) (answer : Reply) (h : History) (c : ℕ) → is_finishing call ≡ false → finished ((call, answer) ∷ h) c ≡ finished h c
finished_same (Finish now channel seq) answer h c e = absurd (true≢false e)
finished_same (Open terms) answer h c e = refl
finished_same (Windows now shown) answer h c e = refl
finished_same (FocusOn now d channel keys) answer h c e = refl
finished_same (Notify now a) answer h c e = refl
finished_same (Pump now) answer h c e = refl
finished_same (Tick now) answer h c e = refl
finished_same (Receive channel) answer h c e = refl
finished_same (Pilfer now channel device) answer h c e = refl
finished_same (Remove now channel) answer h c e = refl

-- after a call that finishes nothing, what is not released was sent by it, and so is unfinished, on a live channel
pub left_by : (ds : List ℕ) (call : Call) (es : List Effect) (d later : Dispatching) → Lawful ds es → is_finishing call ≡ false
    → ((c : ℕ) → 1 ≤ c → gone later c ≡ gone d c) → AllReleased es d → KeepsUnfinished (answered ds call es) later
left_by ds call es d later l never kept all c low idle = kept c low ∙ all c low ∙ sym (by_live (live (past_of (answered ds call es)) c) refl)
  where
    mid : Lawful ds (answered ds call es)
    mid = lawful_step ds call (reply_to es call) es l refl

    outgoing : List Body → List Message
    outgoing bs = sent_on (clock (past_of (answered ds call es))) bs (stream es c)

    stream_is : stream (answered ds call es) c ≡ outgoing (said_at ds call (reply_to es call) es c)
    stream_is = (stepped ds call (reply_to es call) es c mid (sound ds es c l)).stream_is

    by_live : (b : Bool) → live (past_of (answered ds call es)) c ≡ b → length (stream (answered ds call es) c) ≡ length (stream es c)
    by_live false n = ap length (stream_is ∙ ap outgoing (not_live_said ds call (reply_to es call) es c n))
    by_live true y =
        let more : length (stream (answered ds call es) c) ≡ length (stream es c) + length (said_at ds call (reply_to es call) es c) =
        ap length stream_is ∙ length-sent_on (clock (past_of (answered ds call es))) (said_at ds call (reply_to es call) es c) (stream es c) in
        let done : length (stream (answered ds call es) c) ≡ length (finished (past_of (answered ds call es)) c) =
        all_finished ds (answered ds call es) c mid (idle y) in
        let as_many : length (finished (past_of (answered ds call es)) c) ≡ length (finished (past_of es) c) =
        ap length (finished_same call (reply_to es call) (past_of es) c never) in
        let law = channel_law ds es c 0 0 l (omega arith) in
        let counted : min (length (stream es c)) (length (finished (past_of es) c) + 64) ≡ length (finished (past_of es) c) + length (map (with_delivery (delivery es c)) (unfinished es c)) = law.0.counted in
        omega (arith, more, done, as_many, counted)
