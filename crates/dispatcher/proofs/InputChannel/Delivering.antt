-- Messages that are delivered come behind those that were.
use Rattle.std.specs.Prelude.{◌≡◌, ℕ, zero, suc, ◌+◌, ◌-◌, ◌<◌, ◌≤◌, min, List, [], ◌∷◌, ◌++◌, length}
use Rattle.std.proofs.Common.{refl, ◌∙◌, ap, arith, append_assoc, append-nil, length-append, add-zero, add-suc}
use Rattle.dispatcher.specs.declared.input_channel.unfinished.Unfinished.{Unfinished}
use Rattle.dispatcher.specs.InputChannel.Order.{delivered, NoneAfter, Within, Follow, IsInOrder}
use Rattle.dispatcher.specs.InputChannel.State.{ChannelState, IsChannel, sent, publishable, published_at}

pub length-delivered : (clock from n : ℕ) → length (delivered clock from n) ≡ n
length-delivered clock from zero = refl
length-delivered clock from (suc n) =
    length-append (delivered clock from n) (record { seq = from + suc n; delivery = clock } ∷ [])
    ∙ ap (λ k. k + 1) (length-delivered clock from n)
    ∙ omega arith

-- unfinished messages with numbers up to this, of which none was delivered after this clock
pub record Waits (n clock : ℕ) (us : List Unfinished) : Type 0 where
  pub order : IsInOrder us
  pub within : Within n us
  pub after : NoneAfter clock us

none_after-push : (clock : ℕ) (us : List Unfinished) (seq : ℕ) → NoneAfter clock us
    → NoneAfter clock (us ++ record { seq = seq; delivery = clock } ∷ [])
none_after-push clock [] seq h = (omega arith, tt)
none_after-push clock (u ∷ us) seq h = (h.0, none_after-push clock us seq h.1)

within-push : (n clock : ℕ) (us : List Unfinished) → Within n us
    → Within (suc n) (us ++ record { seq = suc n; delivery = clock } ∷ [])
within-push n clock [] h = (omega arith, omega arith, tt)
within-push n clock (u ∷ us) h = (h.0, omega (arith, h.1), within-push n clock us h.2)

follow-push : (u : Unfinished) (us : List Unfinished) (seq clock : ℕ) → u.seq < seq → u.delivery ≤ clock → Follow u us
    → Follow u (us ++ record { seq = seq; delivery = clock } ∷ [])
follow-push u [] seq clock lt le h = (lt, le, tt)
follow-push u (v ∷ vs) seq clock lt le h = (h.0, h.1, follow-push u vs seq clock lt le h.2)

in_order-push : (n clock : ℕ) (us : List Unfinished) → IsInOrder us → Within n us → NoneAfter clock us
    → IsInOrder (us ++ record { seq = suc n; delivery = clock } ∷ [])
in_order-push n clock [] order within after = (tt, tt)
in_order-push n clock (u ∷ us) order within after = (
  follow-push u us (suc n) clock (omega (arith, within.1)) after.0 order.0,
  in_order-push n clock us order.1 within.2 after.1,
)

waits-push : (n clock : ℕ) (us : List Unfinished) → Waits n clock us
    → Waits (suc n) clock (us ++ record { seq = suc n; delivery = clock } ∷ [])
waits-push n clock us h = record {
  order = in_order-push n clock us h.order h.within h.after;
  within = within-push n clock us h.within;
  after = none_after-push clock us (suc n) h.after;
}

pub waits-delivered : (k n clock : ℕ) (us : List Unfinished) → Waits n clock us
    → Waits (n + k) clock (us ++ delivered clock n k)
waits-delivered zero n clock us h = rw (append-nil, add-zero) h
waits-delivered (suc k) n clock us h =
    rw (← append_assoc us (delivered clock n k) (record { seq = n + suc k; delivery = clock } ∷ []), add-suc)
    (waits-push (n + k) clock (us ++ delivered clock n k) (waits-delivered k n clock us h))

-- the next messages are delivered
abbrev pub with_delivered : ℕ → ℕ → ChannelState → ChannelState
with_delivered clock count s =
    record s {
      published = s.published + count;
      unfinished = s.unfinished ++ delivered clock s.published count;
    }

-- a channel once all messages that have room are delivered
pub published_channel : (s : ChannelState) (clock count : ℕ) → IsChannel s → NoneAfter clock s.unfinished
    → count ≡ min (64 - length s.unfinished) (sent s - s.published)
    → IsChannel (with_delivered clock count s)
published_channel s clock count h after is =
    let start : Waits s.published clock s.unfinished =
    record { order = h.in_order; within = h.numbered; after = after }
    in
    let all = waits-delivered count s.published clock s.unfinished start in
    let longer : length (s.unfinished ++ delivered clock s.published count) ≡ length s.unfinished + count =
    length-append s.unfinished (delivered clock s.published count)
    ∙ ap (λ n. length s.unfinished + n) (length-delivered clock s.published count)
    in record {
      received_published = omega (arith, h.received_published);
      published_sent = omega (arith, is, h.published_sent);
      counted = omega (arith, h.counted, longer);
      few = omega (arith, is, h.few, longer);
      numbered = all.within;
      in_order = all.order;
    }

-- these are the messages that a publishing delivers
pub published_is : (s : ChannelState) (clock count : ℕ) → IsChannel s
    → count ≡ min (64 - length s.unfinished) (sent s - s.published)
    → with_delivered clock count s ≡ published_at clock s
published_is s clock count h is =
    let far : s.published + count ≡ publishable s = omega (arith, is, h.counted, h.few, h.published_sent) in
    let many : count ≡ publishable s - s.published = omega arith in
    λ i. record s { published = far i; unfinished = s.unfinished ++ delivered clock s.published (many i) }
