-- What a Move that bypasses the channels is made of: each channel by its number, what is sent of the Move, and what comes on a stream.
use Rattle.std.proofs.Common.{◌≡◌, ◌⊎◌, ℕ, suc, ◌+◌, ◌-◌, ◌≤◌, ◌<◌, nat_le, true, false, cond, List, [], ◌∷◌, ◌++◌, length, drop, reverse, Some, None, refl, sym, ap, ap₂, ◌∙◌, subst, arith, inl, inr, length-drop, zero, ◌==◌, min, Bool, map, get_or, append-nil}
use Rattle.std.proofs.lemmas.Bool.{cases_Bool, leb-true, leb-false}
use Rattle.std.proofs.lemmas.List.{get_or_past, length-reverse}
use Rattle.input_types.specs.declared.axis.Pixel.{Pixel}
use Rattle.input_types.specs.declared.message.Body.{Body}
use Rattle.input_types.specs.declared.message.Message.{Message}
use Rattle.input_types.specs.declared.motion.Motion.{Motion}
use Rattle.input_types.specs.declared.motion.MotionAction.TheVariants.{Move}
use Rattle.input_types.specs.declared.pointer.Pointer.{Pointer}
use Rattle.routing_rules.specs.Cover.{flags_of, with_flags}
use Rattle.routing_rules.specs.Outgoing.{plain}
use Rattle.routing_rules.specs.Scene.{Scene, Step}
use Rattle.route_split.specs.Marking.{IsChanged}
use Rattle.dispatch_history.specs.Effect.{Effect, sent_on}
use Rattle.dispatcher.specs.InputChannel.Moves.{moves_from}
use Rattle.dispatcher.specs.InputChannel.State.{ChannelState, opened_with, sent, each_released, published_at}
use Rattle.dispatcher.specs.WindowCovers.Covers.{cover_in, CoverTable}
use Rattle.dispatcher.specs.DispatchTables.Channel.{Holds}
use Rattle.dispatcher.specs.DispatchChannels.Table.{Table, opened, channel_of, input_of, channel_in}
use Rattle.dispatcher.specs.DispatchChannels.FromOrigin.{body_from}
use Rattle.dispatcher.specs.declared.dispatch_round.round.Round.{Round}
use Rattle.dispatcher.specs.DispatchRound.Bodies.{keys_to, told}
use Rattle.dispatcher.specs.DispatchRound.Steady.{IsSteady, moved, SpendsSteady, most_steady, most_moves}
use Rattle.dispatcher.specs.DispatchRound.Past.{SpendsOne}
use Rattle.dispatcher.specs.DispatchRound.Rounds.{IsRound, sent_in}
use Rattle.dispatcher.proofs.DispatchRound.Steadily.{moves_by_rules, no_change}
use Rattle.dispatcher.proofs.DispatchRound.Telling.{told_one, no_flags}
use Rattle.dispatcher.specs.Knows.{KeptStandsFor, Kept}
use Rattle.input_types.specs.declared.message.Body.TheVariants.{Motion as MotionBody, Key}
use Rattle.dispatcher.specs.DispatchTables.Lawful.{Lawful}
use Rattle.dispatcher.proofs.DispatchTables.Keeping.{held_less}
use Rattle.std.specs.Option.{option_copied}
use Rattle.std.proofs.Math.Seq.{drop-append_seam}
use Rattle.input_types.specs.declared.key.KeyMsg.{KeyMsg}
use Rattle.touch_state.specs.Touches.{Touches}
use Rattle.dispatcher.specs.InputChannel.Order.{delivered}
use Rattle.dispatcher.specs.KeyTables.Held.{bodies_tracked}
use Rattle.dispatcher.specs.KeyTables.Focused.{change_of, change_sent}
use Rattle.dispatcher.specs.DispatchTables.Delivery.{DeliveryIs}
use Rattle.dispatcher.proofs.DispatchTables.Numbering.{messages_from, length-sent_on, reverse_sent}
use Rattle.dispatcher.proofs.DispatchTables.Unopened.{unopened_law}
use Rattle.dispatcher.specs.Staying.{delivery_of}
use Rattle.dispatch_history.specs.History.{no_terms}

-- ---- the table

-- each channel of a list by its number, from a number on
abbrev pub by_number : (ℕ → ChannelState → ChannelState) → ℕ → List ChannelState → List ChannelState
by_number f n [] = []
by_number f n (s ∷ ss) = f n s ∷ by_number f (suc n) ss

pub count_by : (f : ℕ → ChannelState → ChannelState) (n : ℕ) (ss : List ChannelState) → length (by_number f n ss) ≡ length ss
count_by f n [] = refl
count_by f n (s ∷ ss) = ap suc (count_by f (suc n) ss)

place_by : (f : ℕ → ChannelState → ChannelState) (n : ℕ) (ss : List ChannelState) (k : ℕ) (d : ChannelState) → k < length ss
    → get_or (by_number f n ss) k d ≡ f (n + k) (get_or ss k d)
place_by f n [] k d lt = absurd (omega (arith, lt))
place_by f n (s ∷ ss) zero d lt = let same : n ≡ n + 0 = omega arith in ap (λ m. f m s) same
place_by f n (s ∷ ss) (suc k) d lt =
    let same : suc n + k ≡ n + suc k = omega arith in
    place_by f (suc n) ss k d (omega (arith, lt)) ∙ ap (λ m. f m (get_or ss k d)) same

pub number_at : (f : ℕ → ChannelState → ChannelState) (ss : List ChannelState) (c : ℕ) → 1 ≤ c → c ≤ length ss
    → channel_in (by_number f 1 ss) c ≡ f c (channel_in ss c)
number_at f ss c from to =
    let number : 1 + (c - 1) ≡ c = omega (arith, from) in
    place_by f 1 ss (c - 1) (opened_with no_terms) (omega (arith, from, to)) ∙ ap (λ n. f n (channel_in ss c)) number

pub number_past : (f : ℕ → ChannelState → ChannelState) (ss : List ChannelState) (c : ℕ) → length ss < c
    → channel_in (by_number f 1 ss) c ≡ channel_in ss c
number_past f ss c past =
    get_or_past (by_number f 1 ss) (c - 1) (opened_with no_terms) (omega (arith, past, count_by f 1 ss))
    ∙ sym (get_or_past ss (c - 1) (opened_with no_terms) (omega (arith, past)))

-- it makes no difference when messages are released
pub released_now : (clk : ℕ) (s : ChannelState) → published_at clk (each_released s) ≡ each_released (published_at clk s)
released_now clk s =
    let same : sent (each_released s) ≡ sent s = omega arith in
    λ i. record s {
      gone = sent s;
      messages = [];
      published = min (same i) (s.finished + 64);
      unfinished = s.unfinished ++ delivered clk s.published (min (same i) (s.finished + 64) - s.published);
    }

-- ---- what is sent

-- nobody is sent keys
no_keys : (r : Round) (c : ℕ) → r.keys.now ≡ [] → keys_to r.target r.keys.now c ≡ []
no_keys r c none = by_test (c == r.target) r.keys.now none
  where
    by_test : (b : Bool) (ks : List KeyMsg) → ks ≡ [] → cond b ks [] ≡ []
    by_test true ks e = e
    by_test false ks e = refl

-- of a Move with which no pointer changes hands, and no keys, the rules say only that pointers move
pub sent_moved : (covers : CoverTable) (ts : List Touches) (m : Motion) (r : Round) (s : Scene) (e : Step) (c : ℕ) → IsSteady r
    → option_copied r.motion ≡ Some m → r.keys.now ≡ [] → 1 ≤ m.device → m.device ≤ 8 → IsChanged ts ts r.mark None → IsRound s e ts r
    → sent_in covers r s e c ≡ moved covers ts m c
sent_moved covers ts m r s e c steady opt none low high by h =
    ap₂ (λ (ms : List Motion) (ks : List KeyMsg). told covers c ms ++ map Key ks ++ change_sent (change_of r.lost r.gained c))
    (sym (moves_by_rules m r ts ts s e c steady opt low high by h)) (no_keys r c none)
    ∙ ap (λ bs. bs ++ change_sent (change_of r.lost r.gained c)) (append-nil (moved covers ts m c))
    ∙ ap (λ o. moved covers ts m c ++ change_sent o) (no_change r.lost r.gained c steady.lost_is steady.gained_is)
    ∙ append-nil (moved covers ts m c)

-- and it takes room for one message at most
pub spends_past : (r : Round) (m : Motion) (t u : Table) (c : ℕ) → option_copied r.motion ≡ Some m → r.keys.now ≡ [] → SpendsOne t u c
    → SpendsSteady r t u c
spends_past r m t u c opt none h =
    let one : 1 ≤ most_steady r c = subst (λ o. 1 ≤ most_moves o + length (keys_to r.target r.keys.now c)) (sym opt) (omega arith) in
    record {
      room = omega (arith, h.room, one);
      track_room = omega (arith, h.track_room, one);
      keys_are = h.keys_are ∙ sym (ap (λ (ks : List KeyMsg). bodies_tracked (map Key ks) (input_of t c).keys) (no_keys r c none));
    }

-- ---- streams

-- what comes on a stream is seen from its end on
no_bodies : (bs : List Body) → length bs ≡ 0 → bs ≡ []
no_bodies [] e = refl
no_bodies (b ∷ bs) e = absurd (omega (arith, e))

pub stream_same : (now g : ℕ) (bs : List Body) (ms : List Message) → g ≤ length ms
    → length (drop g (reverse (sent_on now bs ms))) ≡ length (drop g (reverse ms)) → sent_on now bs ms ≡ ms
stream_same now g bs ms le same =
    let none : length bs ≡ 0 =
    omega (arith, le, same, length-drop g (reverse (sent_on now bs ms)), length-reverse (sent_on now bs ms), length-sent_on now bs ms, length-drop g (reverse ms), length-reverse ms) in
    ap (λ xs. sent_on now xs ms) (no_bodies bs none)

abbrev front_or : Message → List Message → Message
front_or d [] = d
front_or d (m ∷ ms) = m

pub stream_more : (now g : ℕ) (bs : List Body) (ms : List Message) (m : Message) → g ≡ length ms
    → drop g (reverse (sent_on now bs ms)) ≡ m ∷ [] → sent_on now bs ms ≡ m ∷ ms
stream_more now g bs ms m at e = by_bodies bs new
  where
    front : g ≡ length (reverse ms)
    front = at ∙ sym (length-reverse ms)

    new : messages_from now (length ms) bs ≡ m ∷ []
    new =
        sym (ap₂ (λ n xs. drop n xs) front (reverse_sent now bs ms) ∙ drop-append_seam (reverse ms) (messages_from now (length ms) bs))
        ∙ e

    by_bodies : (xs : List Body) → messages_from now (length ms) xs ≡ m ∷ [] → sent_on now xs ms ≡ m ∷ ms
    by_bodies [] f = let none : 0 ≡ 1 = ap length f in absurd (omega (arith, none))
    by_bodies (x ∷ []) f = ap (λ xs. front_or m xs ∷ ms) f
    by_bodies (x ∷ y ∷ xs) f = let none : suc (suc (length (messages_from now (suc (suc (length ms))) xs))) ≡ 1 = ap length f in absurd (omega (arith, none))

-- each channel holds what it is to hold, opened or not
pub holds_all : (ds : List ℕ) (es : List Effect) (k : Kept) (t : Table) (c : ℕ) → KeptStandsFor ds es k → k.delivery ≡ delivery_of t → 1 ≤ c
    → Holds es c (channel_of t c)
holds_all ds es k t c s e low =
    let is : DeliveryIs es (delivery_of t) = subst (DeliveryIs es) e s.knows.delivery in
    elim (cases_Bool (nat_le c (opened t))) [
      | inl y ↦ is.keeps c low (leb-true c (opened t) y)
      | inr n ↦
          let past : opened t < c = leb-false c (opened t) n in
          subst (Holds es c)
          (unopened_law ds es c s.lawful (omega (arith, past, is.count_is)) ∙ sym (get_or_past t.channels (c - 1) (opened_with no_terms) (omega (arith, past))))
          (record { is = refl; most = omega arith })
    ]

-- and so does one that released all of it
pub still_held : (ds : List ℕ) (es : List Effect) (c : ℕ) (s t : ChannelState) → Lawful ds es → Holds es c s → (t ≡ each_released s) ⊎ (t ≡ s) → Holds es c t
still_held ds es c s t l h (inl e) = subst (Holds es c) (sym e) (held_less ds es c s l h).2
still_held ds es c s t l h (inr e) = subst (Holds es c) (sym e) h

-- what the owner of a channel reads of pointers that move
pub says_moves : (covers : CoverTable) (o : Pixel) (d c : ℕ) (ps : List Pointer)
    → body_from o (told_one covers c (plain d Move ps)) ≡ moves_from o d (flags_of (cover_in covers c d)) ps
says_moves covers o d c ps = sym (ap (λ f. body_from o (MotionBody (with_flags f (plain d Move ps)))) (no_flags (cover_in covers c d)))
