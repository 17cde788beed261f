-- What is kept of a channel is a channel.
use Rattle.std.proofs.Common.{◌≡◌, ℕ, ◌+◌, ◌-◌, ◌≤◌, ◌==◌, nat_le, min, max, Bool, true, false, not, ◌&&◌, cond, List, [], ◌∷◌, ◌++◌, length, reverse, take, drop, map, filter, refl, sym, ap, ◌∙◌, subst, arith, length-append, length-drop, append-nil, drop-drop}
use Rattle.std.proofs.Math.ListN.{drop_of_length-le}
use Rattle.std.proofs.lemmas.List.{length-reverse}
use Rattle.std.proofs.lemmas.Bool.{le-leb}
use Rattle.input_types.specs.declared.message.Body.{Body}
use Rattle.input_types.specs.declared.message.Message.{Message}
use Rattle.dispatcher.specs.declared.input_channel.unfinished.Unfinished.{Unfinished}
use Rattle.dispatcher.specs.InputChannel.Order.{delivered, without, NoneAfter}
use Rattle.dispatcher.specs.InputChannel.State.{ChannelState, IsChannel, sent, publishable, published_at, release_of, each_released, all_released}
use Rattle.dispatcher.proofs.InputChannel.Delivering.{published_channel, published_is}
use Rattle.dispatcher.proofs.InputChannel.Finishing.{finished_channel}
use Rattle.dispatch_calls.specs.declared.call.Call.{Call}
use Rattle.dispatch_calls.specs.declared.reply.Reply.{Reply}
use Rattle.dispatch_history.specs.History.{clock, received, finished, moment_of}
use Rattle.dispatch_history.specs.Effect.{Effect, past_of, stream}
use Rattle.dispatch_history.specs.Effects.{step, said_at}
use Rattle.dispatch_history.specs.Delivery.{published, delivery, is_finished}
use Rattle.dispatcher.specs.DispatchTables.Lawful.{Lawful}
use Rattle.dispatcher.specs.DispatchTables.Channel.{Part, Opens, Receives, Finishes, Untouched, part_of, with_part, channel_at, enqueued_all}
use Rattle.dispatcher.specs.DispatchTables.Laws.{NumberedLaw}
use Rattle.dispatcher.proofs.DispatchTables.Lawfuls.{lawful_last, lawful_always}
use Rattle.dispatcher.proofs.DispatchTables.Numbering.{messages_from, enqueued_is}
use Rattle.dispatcher.proofs.DispatchTables.Waiting.{waiting, with_delivery}
use Rattle.dispatcher.proofs.DispatchTables.Parts.{CanBe, can_be}
use Rattle.dispatcher.proofs.DispatchTables.Channels.{numbered, sound, channel_step}
use Rattle.dispatcher.proofs.DispatchTables.Unfinished.{shorter, has_seq_law}

-- no message was delivered after the clock
delivery_law : (ds : List ℕ) (es : List Effect) → Lawful ds es → (c k : ℕ) → delivery es c k ≤ clock (past_of es)
delivery_law ds es l =
    lawful_always ds (λ xs. (c k : ℕ) → delivery xs c k ≤ clock (past_of xs)) (λ c k. omega arith)
    (λ call answer xs m h c k. later (nat_le k (published xs c)) (delivery xs c k) (moment_of call) (clock (past_of xs)) (h c k)) es l
  where
    later : (b : Bool) (at moment now : ℕ) → at ≤ now → cond b at (max moment now) ≤ max moment now
    later true at moment now le = omega arith
    later false at moment now le = omega arith

none_after : (done : ℕ → Bool) (at : ℕ → ℕ) (now : ℕ) (ms : List Message) → ((k : ℕ) → at k ≤ now)
    → NoneAfter now (waiting done at ms)
none_after done at now [] le = tt
none_after done at now (m ∷ ms) le = first (not (done m.seq)) (none_after done at now ms le)
  where
    first : (b : Bool) → NoneAfter now (map (with_delivery at) (filter (λ m. not (done m.seq)) ms))
        → NoneAfter now (map (with_delivery at) (cond b (m ∷ filter (λ m. not (done m.seq)) ms) (filter (λ m. not (done m.seq)) ms)))
    first true h = (le m.seq, h)
    first false h = h

none_after-without : (now seq : ℕ) (us : List Unfinished) → NoneAfter now us → NoneAfter now (without seq us)
none_after-without now seq [] h = tt
none_after-without now seq (u ∷ us) h = first (not (u.seq == seq)) (none_after-without now seq us h.1)
  where
    first : (b : Bool) → NoneAfter now (without seq us) → NoneAfter now (cond b (u ∷ without seq us) (without seq us))
    first true k = (h.0, k)
    first false k = k

pub none_after_clock : (ds : List ℕ) (es : List Effect) (c gone spare now : ℕ) → Lawful ds es → clock (past_of es) ≤ now
    → NoneAfter now (channel_at es c gone spare).unfinished
none_after_clock ds es c gone spare now l le =
    none_after (is_finished (past_of es) c) (delivery es c) now (take (published es c) (reverse (stream es c)))
    (λ k. omega (arith, delivery_law ds es l c k, le))

part_after : (now : ℕ) (p : Part) (s : ChannelState) → NoneAfter now s.unfinished
    → NoneAfter now (with_part p s).unfinished
part_after now (Opens terms) s h = h
part_after now Receives s h = h
part_after now (Finishes seq) s h = none_after-without now seq s.unfinished h
part_after now Untouched s h = h

sent_after : (now : ℕ) (bs : List Body) (s : ChannelState) → NoneAfter now s.unfinished
    → NoneAfter now (enqueued_all bs now s).unfinished
sent_after now bs s h = subst (λ t. NoneAfter now t.unfinished) (sym (enqueued_is now bs s (sent s) refl)) h

-- a channel with other messages and other room
other_messages : (s : ChannelState) (gone spare : ℕ) (messages : List Message) → IsChannel s
    → sent s ≤ gone + length messages
    → IsChannel (record s { gone = gone; messages = messages; spare = spare })
other_messages s gone spare messages h le =
    record {
      received_published = h.received_published;
      published_sent = omega (arith, h.published_sent, le);
      counted = h.counted;
      few = h.few;
      numbered = h.numbered;
      in_order = h.in_order;
    }

-- a channel after its part
part_channel : (ds : List ℕ) (es : List Effect) (c : ℕ) (p : Part) → Lawful ds es → CanBe es c p
    → IsChannel (channel_at es c 0 0) → IsChannel (with_part p (channel_at es c 0 0))
part_channel ds es c (Opens terms) l can h =
    record {
      received_published = h.received_published;
      published_sent = h.published_sent;
      counted = h.counted;
      few = h.few;
      numbered = h.numbered;
      in_order = h.in_order;
    }
part_channel ds es c Receives l can h =
    record {
      received_published = omega (arith, can);
      published_sent = h.published_sent;
      counted = h.counted;
      few = h.few;
      numbered = h.numbered;
      in_order = h.in_order;
    }
part_channel ds es c (Finishes seq) l can h =
    let s = channel_at es c 0 0 in
    finished_channel s seq (without seq s.unfinished) h refl
    (shorter seq s.unfinished h.in_order
    (has_seq_law ds es c seq l
    ∙ tests (nat_le 1 seq) (nat_le seq (published es c)) (is_finished (past_of es) c seq) (le-leb 1 seq can.0)
    (le-leb seq (published es c) (omega (arith, can.1, (sound ds es c l).received_published))) can.2))
  where
    tests : (x y z : Bool) → x ≡ true → y ≡ true → z ≡ false → (x && y && not z) ≡ true
    tests x y z e f g = rw (e, f, g) refl
part_channel ds es c Untouched l can h = h

-- a channel once everything that can be is published
published_ok : (now : ℕ) (s : ChannelState) → IsChannel s → NoneAfter now s.unfinished → IsChannel (published_at now s)
published_ok now s h after =
    subst IsChannel (published_is s now (min (64 - length s.unfinished) (sent s - s.published)) h refl)
    (published_channel s now (min (64 - length s.unfinished) (sent s - s.published)) h after refl)

sent_ok : (now : ℕ) (bs : List Body) (s : ChannelState) → IsChannel s → IsChannel (enqueued_all bs now s)
sent_ok now bs s h =
    subst IsChannel (sym (enqueued_is now bs s (sent s) refl))
    (other_messages s s.gone (s.spare - length bs) (s.messages ++ messages_from now (sent s) bs) h
    (omega (arith, length-append s.messages (messages_from now (sent s) bs))))

channel_start : (c : ℕ) → IsChannel (channel_at [] c 0 0)
channel_start c =
    record {
      received_published = omega arith;
      published_sent = omega arith;
      counted = refl;
      few = omega arith;
      numbered = tt;
      in_order = tt;
    }

whole_channel : (ds : List ℕ) (es : List Effect) (c : ℕ) → Lawful ds es → IsChannel (channel_at es c 0 0)
whole_channel ds es c l =
    lawful_always ds (λ xs. IsChannel (channel_at xs c 0 0)) (channel_start c)
    (λ call answer xs m h.
    let last = lawful_last ds call answer xs m in
    let now = clock (past_of (step ds call answer xs)) in
    let bs = said_at ds call answer xs c in
    let p = part_of call answer c in
    let s = with_part p (channel_at xs c 0 0) in
    let old : clock (past_of xs) ≤ now = omega arith in
    let all : IsChannel (channel_at (step ds call answer xs) c 0 (0 - length bs)) =
    subst IsChannel (sym (channel_step ds call answer xs c 0 0 m (omega arith)))
    (published_ok now (enqueued_all bs now s)
    (sent_ok now bs s (part_channel ds xs c p last.1 (can_be xs c call answer last.0) h))
    (sent_after now bs s (part_after now p (channel_at xs c 0 0) (none_after_clock ds xs c 0 0 now last.1 old)))) in
    let t = channel_at (step ds call answer xs) c 0 (0 - length bs) in
    other_messages t 0 0 t.messages all (omega arith))
    es l

-- with its first messages released
pub channel_law :
    (ds : List ℕ) (es : List Effect) (c gone spare : ℕ)
    → Lawful ds es
    → gone ≤ length (stream es c)
    → IsChannel (channel_at es c gone spare)
    × (sent (channel_at es c gone spare) ≡ length (stream es c))
    × (publishable (channel_at es c gone spare) ≡ published es c)
channel_law ds es c gone spare l le =
    let h = whole_channel ds es c l in
    let s = channel_at es c 0 0 in
    let kept : gone ≤ length (reverse (stream es c)) = omega (arith, le, length-reverse (stream es c)) in
    let all : gone + length (drop gone (reverse (stream es c))) ≡ length (stream es c) =
    omega (arith, kept, length-drop gone (reverse (stream es c)), length-reverse (stream es c)) in (
      other_messages s gone spare (drop gone (reverse (stream es c))) h
          (omega (arith, all, length-reverse (stream es c))),
      all,
      ap (λ n. min n (length (finished (past_of es) c) + 64)) all,
    )

pub numbered_law : NumberedLaw
numbered_law = numbered

pub ready_law : (ds : List ℕ) (call : Call) (answer : Reply) (es : List Effect) (c gone spare : ℕ) (bodies : List Body)
    → Lawful ds (step ds call answer es)
    → let now = clock (past_of (step ds call answer es)) in NoneAfter now (enqueued_all bodies now (with_part (part_of call answer c) (channel_at es c gone spare))).unfinished
ready_law ds call answer es c gone spare bodies l =
    let now = clock (past_of (step ds call answer es)) in
    let s = channel_at es c gone spare in
    let old : clock (past_of es) ≤ now = omega arith in
    sent_after now bodies (with_part (part_of call answer c) s)
    (part_after now (part_of call answer c) s (none_after_clock ds es c gone spare now (lawful_last ds call answer es l).1 old))

-- publishing again changes nothing
pub all_published : (now : ℕ) (s : ChannelState) → publishable s ≡ s.published → published_at now s ≡ s
all_published now s e =
    let none : publishable s - s.published ≡ 0 = omega (arith, e) in
    λ i. record s {
      published = e i;
      unfinished = (ap (λ n. s.unfinished ++ delivered now s.published n) none ∙ append-nil s.unfinished) i;
    }

pub quiet_law : (ds : List ℕ) (call : Call) (answer : Reply) (es : List Effect) (c gone spare : ℕ)
    → Lawful ds (step ds call answer es) → gone ≤ length (stream es c) → said_at ds call answer es c ≡ []
    → part_of call answer c ≡ Untouched → channel_at (step ds call answer es) c gone spare ≡ channel_at es c gone spare
quiet_law ds call answer es c gone spare l le none untouched =
    let now = clock (past_of (step ds call answer es)) in
    let s = channel_at es c gone spare in
    let same : spare ≡ spare - length (said_at ds call answer es c) = omega (arith, ap length none) in
    ap (λ n. channel_at (step ds call answer es) c gone n) same
    ∙ channel_step ds call answer es c gone spare l le
    ∙ (λ i. published_at now (enqueued_all (none i) now (with_part (untouched i) s)))
    ∙ all_published now s (channel_law ds es c gone spare (lawful_last ds call answer es l).1 le).2

pub release_law : (es : List Effect) (c gone spare : ℕ)
    → release_of (channel_at es c gone spare) ≡ channel_at es c (max gone (received (past_of es) c)) spare
release_law es c gone spare =
    let rest : gone + (received (past_of es) c - gone) ≡ max gone (received (past_of es) c) = omega arith in
    λ i. record (channel_at es c (max gone (received (past_of es) c)) spare) {
      messages = (drop-drop (received (past_of es) c - gone) gone (reverse (stream es c)) ∙ ap (λ n. drop n (reverse (stream es c))) rest) i;
    }

pub each_gone_law : (ds : List ℕ) (es : List Effect) (c gone spare : ℕ) → Lawful ds es → gone ≤ length (stream es c)
    → each_released (channel_at es c gone spare) ≡ channel_at es c (length (stream es c)) spare
each_gone_law ds es c gone spare l le =
    let none : drop (length (stream es c)) (reverse (stream es c)) ≡ [] =
    drop_of_length-le (reverse (stream es c)) (omega (arith, length-reverse (stream es c))) in
    λ i. record (channel_at es c gone spare) { gone = (channel_law ds es c gone spare l le).1 i; messages = sym none i }

pub all_gone_law : (ds : List ℕ) (es : List Effect) (c gone spare : ℕ) → Lawful ds es → gone ≤ length (stream es c)
    → all_released (channel_at es c gone spare) ≡ channel_at es c (length (stream es c)) 0
all_gone_law ds es c gone spare l le =
    let none : drop (length (stream es c)) (reverse (stream es c)) ≡ [] =
    drop_of_length-le (reverse (stream es c)) (omega (arith, length-reverse (stream es c))) in
    λ i. record (channel_at es c gone 0) { gone = (channel_law ds es c gone spare l le).1 i; messages = sym none i }
