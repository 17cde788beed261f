-- The next finish of a channel is that of its oldest unfinished message.
use Rattle.std.proofs.Common.{◌≡◌, ℕ, zero, suc, ◌+◌, ◌≤◌, not, Bool, true, false, ◌&&◌, cond, List, [], ◌∷◌, ◌++◌, length, reverse, take, map, filter, Option, None, refl, sym, ap, ap₂, ◌∙◌, arith}
use Rattle.std.specs.Prelude.{fold, slice_get, option_map}
use Rattle.std.proofs.lemmas.List.{length-reverse, length-take, map-append}
use Rattle.std.proofs.lemmas.List.Elements.{filter-append}
use Rattle.std.proofs.lemmas.List.Sums.{fold-append}
use Rattle.input_types.specs.declared.message.Message.{Message}
use Rattle.dispatcher.specs.declared.input_channel.unfinished.Unfinished.{Unfinished}
use Rattle.dispatcher.specs.InputChannel.Order.{Follow, IsInOrder}
use Rattle.dispatch_history.specs.History.{live, received}
use Rattle.dispatch_history.specs.Effect.{Effect, past_of, stream}
use Rattle.dispatch_history.specs.Effects.{channels}
use Rattle.dispatch_history.specs.Delivery.{published, delivery, is_finished, unfinished}
use Rattle.dispatch_history.specs.Plan.{ChannelOf}
use Rattle.dispatch_history.specs.Ordered.{Candidate, sooner_of, received_at, finishes_of, all_finishes}
use Rattle.dispatcher.specs.DispatchTables.Lawful.{Lawful}
use Rattle.dispatcher.specs.DispatchTables.Channel.{NumberedFrom, channel_at}
use Rattle.dispatcher.proofs.DispatchTables.Channels.{numbered}
use Rattle.dispatcher.proofs.DispatchTables.Numbering.{numbered-take}
use Rattle.dispatcher.proofs.DispatchTables.Kept.{channel_law}
use Rattle.schedule.specs.Choosing.{next_finishes}
use Rattle.schedule.specs.Next.{sooner_with, finish_at, oldest_pair, next_finish}
use Rattle.schedule.specs.State.{Caught}
use Rattle.schedule.proofs.Soonest.{NoneSooner, first_counts}

-- two functions that agree on the numbers 1 to n
agree_to : {X : Type 0} (f g : ℕ → X) (p : ℕ → Bool) (n : ℕ) → ((k : ℕ) → 1 ≤ k → k ≤ n → f k ≡ g k)
    → map f (filter p (channels n)) ≡ map g (filter p (channels n))
agree_to f g p zero h = refl
agree_to f g p (suc n) h =
    ap (map f) (filter-append p (channels n) (suc n ∷ []))
    ∙ map-append f (filter p (channels n)) (filter p (suc n ∷ []))
    ∙ ap₂ (λ xs ys. xs ++ ys) (agree_to f g p n (λ k low high. h k low (omega arith))) (last (p (suc n)))
    ∙ sym (map-append g (filter p (channels n)) (filter p (suc n ∷ [])))
    ∙ ap (map g) (sym (filter-append p (channels n) (suc n ∷ [])))
  where
    last : (b : Bool) → map f (cond b (suc n ∷ []) []) ≡ map g (cond b (suc n ∷ []) [])
    last true = ap (λ x. x ∷ []) (h (suc n) (omega arith) (omega arith))
    last false = refl

-- the numbers above n, so many
abbrev above : ℕ → ℕ → List ℕ
above n zero = []
above n (suc k) = suc n ∷ above (suc n) k

above_last : (n k m : ℕ) → m ≡ n + k → above n (suc k) ≡ above n k ++ suc m ∷ []
above_last n zero m e = ap (λ j. suc j ∷ []) (omega (arith, e))
above_last n (suc k) m e = ap (λ xs. suc n ∷ xs) (above_last (suc n) k m (omega (arith, e)))

channels_above : (n : ℕ) → channels n ≡ above 0 n
channels_above zero = refl
channels_above (suc n) = ap (λ xs. xs ++ suc n ∷ []) (channels_above n) ∙ sym (above_last 0 n n (omega arith))

numbers_above : (n : ℕ) (ms : List Message) → NumberedFrom n ms → above n (length ms) ≡ map (λ m. m.seq) ms
numbers_above n [] h = refl
numbers_above n (m ∷ ms) h = ap₂ (λ x xs. x ∷ xs) (sym h.0) (numbers_above (suc n) ms h.1)

-- a test of numbers is a test of messages
one_number : {X : Type 0} (g : ℕ → X) (b : Bool) (m : Message) (ns : List ℕ) (ms : List Message) → map g ns ≡ map (λ k. g k.seq) ms
    → map g (cond b (m.seq ∷ ns) ns) ≡ map (λ k. g k.seq) (cond b (m ∷ ms) ms)
one_number g true m ns ms rest = ap (λ xs. g m.seq ∷ xs) rest
one_number g false m ns ms rest = rest

filter_numbers : {X : Type 0} (g : ℕ → X) (p : ℕ → Bool) (ms : List Message) → map g (filter p (map (λ m. m.seq) ms)) ≡ map (λ m. g m.seq) (filter (λ m. p m.seq) ms)
filter_numbers g p [] = refl
filter_numbers g p (m ∷ ms) = one_number g (p m.seq) m (filter p (map (λ k. k.seq) ms)) (filter (λ k. p k.seq) ms) (filter_numbers g p ms)

-- the finish of an unfinished message
abbrev finish_of : ℕ → ℕ → Unfinished → Candidate
finish_of c after u = finish_at c after (u.seq, u.delivery)

twice : (es : List Effect) (c after : ℕ) (ms : List Message)
    → map (λ m. finish_at c after (m.seq, delivery es c m.seq)) ms
    ≡ map (finish_of c after) (map (λ m. record { seq = m.seq; delivery = delivery es c m.seq }) ms)
twice es c after [] = refl
twice es c after (m ∷ ms) = ap (λ xs. finish_at c after (m.seq, delivery es c m.seq) ∷ xs) (twice es c after ms)

-- the finishes of a live channel that finishes messages, of which all are received that are published
finishes_are : (ds : List ℕ) (es : List Effect) (c : ℕ) (p : ChannelOf) → Lawful ds es → Caught es → live (past_of es) c ≡ true → p.finishes ≡ true
    → finishes_of (past_of es) c p ≡ map (finish_of c p.finish_after) (channel_at es c 0 0).unfinished
finishes_are ds es c p l h y f =
    rw (y, f)
    (agree_to at done_at (λ k. not (is_finished (past_of es) c k)) (received (past_of es) c) (λ k low high. ap (λ t. finish_at c p.finish_after (k, t)) ((h.behind c y).taken k low high))
    ∙ ap (λ ns. map done_at (filter (λ k. not (is_finished (past_of es) c k)) ns)) numbers
    ∙ filter_numbers done_at (λ k. not (is_finished (past_of es) c k)) (take (published es c) (reverse (stream es c)))
    ∙ twice es c p.finish_after (unfinished es c))
  where
    at : ℕ → Candidate
    at k = finish_at c p.finish_after (k, received_at (past_of es) c k)

    done_at : ℕ → Candidate
    done_at k = finish_at c p.finish_after (k, delivery es c k)

    numbers : channels (received (past_of es) c) ≡ map (λ m. m.seq) (take (published es c) (reverse (stream es c)))
    numbers =
        ap channels
        (h.all c y
        ∙ let n : length (take (published es c) (reverse (stream es c))) ≡ published es c = omega (arith, length-take (published es c) (reverse (stream es c)), length-reverse (stream es c)) in sym n)
        ∙ channels_above (length (take (published es c) (reverse (stream es c))))
        ∙ numbers_above 0 (take (published es c) (reverse (stream es c)))
        (numbered-take 0 (published es c) (reverse (stream es c)) (numbered ds es c l))

none_sooner : (c after : ℕ) (u : Unfinished) (us : List Unfinished) → Follow u us → NoneSooner (u.delivery + after) (map (finish_of c after) us)
none_sooner c after u [] h = tt
none_sooner c after u (v ∷ vs) h = (omega (arith, h.1), none_sooner c after u vs h.2)

first_of_order : (c after : ℕ) (o : Option Candidate) (us : List Unfinished) → IsInOrder us
    → fold sooner_of o (map (finish_of c after) us) ≡ sooner_with o (option_map (finish_of c after) (slice_get us 0))
first_of_order c after o [] h = refl
first_of_order c after o (u ∷ us) h = first_counts o (finish_of c after u) (map (finish_of c after) us) (none_sooner c after u us h.0)

first_mapped : (es : List Effect) (c after : ℕ) (ms : List Message)
    → option_map (finish_of c after) (slice_get (map (λ m. record { seq = m.seq; delivery = delivery es c m.seq }) ms) 0)
    ≡ option_map (finish_at c after) (option_map {U = ℕ × ℕ} (λ m. (m.seq, delivery es c m.seq)) (slice_get ms 0))
first_mapped es c after [] = refl
first_mapped es c after (m ∷ ms) = refl

pub finishes_first : (ds : List ℕ) (es : List Effect) (c : ℕ) (p : ChannelOf) (o : Option Candidate) → Lawful ds es → Caught es
    → fold sooner_of o (finishes_of (past_of es) c p) ≡ sooner_with o (next_finish es c p)
finishes_first ds es c p o l h = by_both (live (past_of es) c) p.finishes refl refl
  where
    by_both : (v w : Bool) → live (past_of es) c ≡ v → p.finishes ≡ w → fold sooner_of o (finishes_of (past_of es) c p) ≡ sooner_with o (next_finish es c p)
    by_both true true y f =
        ap (fold sooner_of o) (finishes_are ds es c p l h y f)
        ∙ first_of_order c p.finish_after o (channel_at es c 0 0).unfinished (channel_law ds es c 0 0 l (omega arith)).0.in_order
        ∙ ap (sooner_with o) (first_mapped es c p.finish_after (unfinished es c))
        ∙ ap₂ (λ v w. sooner_with o (cond (v && w) (option_map (finish_at c p.finish_after) (oldest_pair es c)) None)) (sym y) (sym f)
    by_both true false y f = rw (y, f) refl
    by_both false w n f = rw n refl

-- those of all channels
pub all_first : (ds : List ℕ) (es : List Effect) (c : ℕ) (ps : List ChannelOf) (o : Option Candidate) → Lawful ds es → Caught es
    → fold sooner_of o (all_finishes (past_of es) c ps) ≡ next_finishes es c ps o
all_first ds es c [] o l h = refl
all_first ds es c (p ∷ ps) o l h =
    fold-append sooner_of o (finishes_of (past_of es) c p) (all_finishes (past_of es) (c + 1) ps)
    ∙ ap (λ b. fold sooner_of b (all_finishes (past_of es) (c + 1) ps)) (finishes_first ds es c p o l h)
    ∙ all_first ds es (c + 1) ps (sooner_with o (next_finish es c p)) l h
