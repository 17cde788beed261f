-- A channel after one step more.
use Rattle.std.proofs.Common.{◌≡◌, ℕ, ◌+◌, ◌-◌, ◌≤◌, ◌<◌, ◌==◌, nat_le, min, Bool, true, false, cond, List, ◌++◌, length, reverse, take, drop, refl, sym, ap, ap₂, ◌∙◌, subst, inl, inr, arith, length-append, length-drop}
use Rattle.std.proofs.lemmas.List.{drop-append-le, length-reverse}
use Rattle.std.proofs.lemmas.Bool.{or_cases, eqb-true, false_from_ne_true}
use Rattle.std.proofs.Math.Dec.{leb}
use Rattle.std.proofs.lemmas.Bool.{le-leb}
use Rattle.std.proofs.lemmas.Bool.Decides.{nat_tests}
use Rattle.std.specs.List.{list_any}
use Rattle.input_types.specs.declared.message.Body.{Body}
use Rattle.input_types.specs.declared.message.Message.{Message}
use Rattle.dispatcher.specs.InputChannel.Order.{delivered}
use Rattle.dispatcher.specs.InputChannel.State.{ChannelState, published_at}
use Rattle.dispatch_history.specs.History.{clock, terms_of, received, finished}
use Rattle.dispatch_history.specs.Effect.{Effect, past_of, stream, sent_on}
use Rattle.dispatch_history.specs.Delivery.{published, delivery, is_finished}
use Rattle.dispatcher.specs.DispatchTables.Channel.{Part, Opens, Receives, Finishes, Untouched, with_part, channel_at, enqueued_all, NumberedFrom}
use Rattle.dispatcher.proofs.DispatchTables.Numbering.{messages_from, length-messages, length-sent_on, reverse_sent, enqueued_is}
use Rattle.dispatcher.proofs.DispatchTables.Waiting.{waiting, waiting-more, waiting-without}
use Rattle.dispatcher.proofs.DispatchTables.Parts.{terms_by, received_by, finished_by, count_by, unfinished_by, by_part, part_fields, count_part, CanBe}

-- what holds of each channel after a legal history
pub record Sound (es : List Effect) (c : ℕ) : Type 0 where
  pub received_published : received (past_of es) c ≤ published es c
  pub done_received : (k : ℕ) → is_finished (past_of es) c k ≡ true → (1 ≤ k) × (k ≤ received (past_of es) c)

-- what is published grows
published-grows : (a b n m k : ℕ) → a ≤ b → n ≤ m → min a (n + k) ≤ min b (m + k)
published-grows a b n m k le less = omega arith

more_finished : (p : Part) (ns : List ℕ) → length ns ≤ length (finished_by p ns)
more_finished (Finishes seq) ns = omega arith
more_finished (Opens terms) ns = omega arith
more_finished Receives ns = omega arith
more_finished Untouched ns = omega arith

-- a number that is finished after a part is received before it
done_by : (es : List Effect) (c : ℕ) (p : Part) → Sound es c → CanBe es c p → (k : ℕ)
    → list_any (λ n. n == k) (finished_by p (finished (past_of es) c)) ≡ true
    → (1 ≤ k) × (k ≤ received (past_of es) c)
done_by es c (Finishes seq) h can k d =
    elim (or_cases (seq == k) (is_finished (past_of es) c k) d) [
      | inl e ↦ let same : seq ≡ k = eqb-true seq k e in (omega (arith, same, can.0), omega (arith, same, can.1))
      | inr e ↦ h.done_received k e
    ]
done_by es c (Opens terms) h can k d = h.done_received k d
done_by es c Receives h can k d = h.done_received k d
done_by es c Untouched h can k d = h.done_received k d

-- the messages that wait after a part
waiting-part : (p : Part) (ns : List ℕ) (at : ℕ → ℕ) (ms : List Message)
    → waiting (λ k. list_any (λ n. n == k) (finished_by p ns)) at ms
    ≡ unfinished_by p (waiting (λ k. list_any (λ n. n == k) ns) at ms)
waiting-part (Finishes seq) ns at ms = waiting-without (λ k. list_any (λ n. n == k) ns) at seq ms
waiting-part (Opens terms) ns at ms = refl
waiting-part Receives ns at ms = refl
waiting-part Untouched ns at ms = refl

-- effects with one step more, as they are for a channel: its part in the step, and what it is sent
pub record Stepped (es later : List Effect) (c : ℕ) (p : Part) (outgoing : List Body) : Type 0 where
  pub sound : Sound es c
  pub can : CanBe es c p
  pub terms_is : terms_of (past_of later) c ≡ terms_by p (terms_of (past_of es) c)
  pub received_is : received (past_of later) c ≡ received_by p (received (past_of es) c)
  pub finished_is : finished (past_of later) c ≡ finished_by p (finished (past_of es) c)
  pub stream_is : stream later c ≡ sent_on (clock (past_of later)) outgoing (stream es c)
  pub delivery_is : (k : ℕ)
      → delivery later c k ≡ cond (nat_le k (published es c)) (delivery es c k) (clock (past_of later))
  pub numbered : NumberedFrom 0 (reverse (stream later c))

pub stepped_published : (es later : List Effect) (c : ℕ) (p : Part) (outgoing : List Body) → Stepped es later c p outgoing
    → published es c ≤ published later c
stepped_published es later c p outgoing h =
    let longer : length (stream later c) ≡ length (stream es c) + length outgoing =
    ap length h.stream_is ∙ length-sent_on (clock (past_of later)) outgoing (stream es c) in
    let more : length (finished (past_of es) c) ≤ length (finished (past_of later) c) =
    subst (λ ns. length (finished (past_of es) c) ≤ length ns) (sym h.finished_is) (more_finished p (finished (past_of es) c)) in
    published-grows (length (stream es c)) (length (stream later c)) (length (finished (past_of es) c)) (length (finished (past_of later) c)) 64
    (omega (arith, longer)) more

received_few : (es : List Effect) (c : ℕ) (p : Part) → Sound es c → CanBe es c p
    → received_by p (received (past_of es) c) ≤ published es c
received_few es c Receives h can = can
received_few es c (Opens terms) h can = h.received_published
received_few es c (Finishes seq) h can = h.received_published
received_few es c Untouched h can = h.received_published

pub received_more : (p : Part) (n : ℕ) → n ≤ received_by p n
received_more Receives n = omega arith
received_more (Opens terms) n = omega arith
received_more (Finishes seq) n = omega arith
received_more Untouched n = omega arith

pub stepped_sound : (es later : List Effect) (c : ℕ) (p : Part) (outgoing : List Body) → Stepped es later c p outgoing
    → Sound later c
stepped_sound es later c p outgoing h =
    let few : received (past_of later) c ≤ published es c = subst (λ n. n ≤ published es c) (sym h.received_is) (received_few es c p h.sound h.can) in
    let more : received (past_of es) c ≤ received (past_of later) c =
    subst (λ n. received (past_of es) c ≤ n) (sym h.received_is) (received_more p (received (past_of es) c)) in
    record {
      received_published = omega (arith, few, stepped_published es later c p outgoing h);
      done_received =
          λ k d.
          let was = done_by es c p h.sound h.can k (subst (λ ns. list_any (λ n. n == k) ns ≡ true) h.finished_is d) in
          (was.0, omega (arith, was.1, more));
    }

-- what waits after the step: what waited, without what is finished, and behind it what is delivered
stepped_unfinished : (es later : List Effect) (c : ℕ) (p : Part) (outgoing : List Body) → Stepped es later c p outgoing
    → waiting (is_finished (past_of later) c) (delivery later c) (take (published later c) (reverse (stream later c)))
    ≡ unfinished_by p (waiting (is_finished (past_of es) c) (delivery es c) (take (published es c) (reverse (stream es c))))
    ++ delivered (clock (past_of later)) (published es c) (published later c - published es c)
stepped_unfinished es later c p outgoing h =
    ap (λ ms. waiting done (delivery later c) (take (published later c) ms)) whole
    ∙ waiting-more done (delivery later c) (delivery es c) now (published es c) (published later c) old new
    (subst (λ ms. NumberedFrom 0 ms) whole h.numbered) (omega (arith, length-reverse (stream es c)))
    (stepped_published es later c p outgoing h)
    (omega (arith, ap length whole, length-reverse (stream later c)))
    (λ k le. h.delivery_is k ∙ ap (λ b. cond b (delivery es c k) now) (le-leb k (published es c) le))
    (λ k lt. (fresh k lt, h.delivery_is k ∙ ap (λ b. cond b (delivery es c k) now) (above k lt)))
    ∙ ap (λ us. us ++ delivered now (published es c) (published later c - published es c)) finishes
  where
    now : ℕ
    now = clock (past_of later)

    done : ℕ → Bool
    done = is_finished (past_of later) c

    old : List Message
    old = reverse (stream es c)

    new : List Message
    new = messages_from (clock (past_of later)) (length (stream es c)) outgoing

    whole : reverse (stream later c) ≡ reverse (stream es c) ++ messages_from (clock (past_of later)) (length (stream es c)) outgoing
    whole = ap reverse h.stream_is ∙ reverse_sent (clock (past_of later)) outgoing (stream es c)

    above : (k : ℕ) → published es c < k → nat_le k (published es c) ≡ false
    above k lt = grind (arith, nat_tests)

    fresh : (k : ℕ) → published es c < k → is_finished (past_of later) c k ≡ false
    fresh k lt =
        false_from_ne_true (is_finished (past_of later) c k)
        (λ d.
        let was = done_by es c p h.sound h.can k (subst (λ ns. list_any (λ n. n == k) ns ≡ true) h.finished_is d) in
        absurd (omega (arith, was.1, h.sound.received_published, lt)))

    finishes : waiting (is_finished (past_of later) c) (delivery es c) (take (published es c) (reverse (stream es c)))
        ≡ unfinished_by p (waiting (is_finished (past_of es) c) (delivery es c) (take (published es c) (reverse (stream es c))))
    finishes =
        ap (λ ns. waiting (λ k. list_any (λ n. n == k) ns) (delivery es c) (take (published es c) (reverse (stream es c)))) h.finished_is
        ∙ waiting-part p (finished (past_of es) c) (delivery es c) (take (published es c) (reverse (stream es c)))

-- the channel after the step
pub stepped_channel : (es later : List Effect) (c : ℕ) (p : Part) (outgoing : List Body) (gone spare : ℕ)
    → Stepped es later c p outgoing → gone ≤ length (stream es c)
    → channel_at later c gone (spare - length outgoing)
    ≡ published_at (clock (past_of later)) (enqueued_all outgoing (clock (past_of later)) (with_part p (channel_at es c gone spare)))
stepped_channel es later c p outgoing gone spare h le =
    (λ i. record {
      terms = h.terms_is i;
      gone = gone;
      messages = messages i;
      published = far i;
      received = h.received_is i;
      finished = count i;
      unfinished = unfinished i;
      spare = spare - length outgoing;
    })
    ∙ sym (ap (published_at now) (ap (enqueued_all outgoing now) (part_fields p s) ∙ enqueued_is now outgoing (by_part p s) (length (stream es c)) all))
  where
    now : ℕ
    now = clock (past_of later)

    s : ChannelState
    s = channel_at es c gone spare

    more : List Message
    more = messages_from (clock (past_of later)) (length (stream es c)) outgoing

    kept : gone ≤ length (reverse (stream es c))
    kept = omega (arith, le, length-reverse (stream es c))

    all : gone + length (drop gone (reverse (stream es c))) ≡ length (stream es c)
    all = omega (arith, kept, length-drop gone (reverse (stream es c)), length-reverse (stream es c))

    messages : drop gone (reverse (stream later c)) ≡ drop gone (reverse (stream es c)) ++ messages_from (clock (past_of later)) (length (stream es c)) outgoing
    messages =
        ap (λ ms. drop gone (reverse ms)) h.stream_is
        ∙ ap (drop gone) (reverse_sent (clock (past_of later)) outgoing (stream es c))
        ∙ drop-append-le gone (reverse (stream es c)) (messages_from (clock (past_of later)) (length (stream es c)) outgoing) kept

    count : length (finished (past_of later) c) ≡ count_by p (length (finished (past_of es) c))
    count = ap length h.finished_is ∙ count_part p (finished (past_of es) c)

    far : published later c
        ≡ min (gone + length (drop gone (reverse (stream es c)) ++ messages_from (clock (past_of later)) (length (stream es c)) outgoing))
        (count_by p (length (finished (past_of es) c)) + 64)
    far =
        let longer : length (stream later c) ≡ length (stream es c) + length outgoing =
        ap length h.stream_is ∙ length-sent_on (clock (past_of later)) outgoing (stream es c) in
        let same : length (stream later c) ≡ gone + length (drop gone (reverse (stream es c)) ++ messages_from (clock (past_of later)) (length (stream es c)) outgoing) =
        omega (
          arith,
          longer,
          all,
          length-append (drop gone (reverse (stream es c))) (messages_from (clock (past_of later)) (length (stream es c)) outgoing),
          length-messages (clock (past_of later)) (length (stream es c)) outgoing,
        ) in
        ap₂ (λ n k. min n (k + 64)) same count

    unfinished : waiting (is_finished (past_of later) c) (delivery later c) (take (published later c) (reverse (stream later c)))
        ≡ unfinished_by p (waiting (is_finished (past_of es) c) (delivery es c) (take (published es c) (reverse (stream es c))))
        ++ delivered (clock (past_of later)) (published es c)
        (min (gone + length (drop gone (reverse (stream es c)) ++ messages_from (clock (past_of later)) (length (stream es c)) outgoing))
        (count_by p (length (finished (past_of es) c)) + 64)
        - published es c)
    unfinished =
        stepped_unfinished es later c p outgoing h
        ∙ ap (λ n. unfinished_by p (waiting (is_finished (past_of es) c) (delivery es c) (take (published es c) (reverse (stream es c))))
        ++ delivered (clock (past_of later)) (published es c) (n - published es c)) far
