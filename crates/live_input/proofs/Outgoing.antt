-- What a client was sent is a complete stream by itself; what is kept of its channel.
use Rattle.std.proofs.Common.{◌≡◌, ℕ, zero, ◌+◌, ◌-◌, suc, ◌≤◌, Bool, true, false, not, cond, List, [], ◌∷◌, ◌++◌, length, map, take, drop, reverse, Option, Some, None, refl, sym, ap, ◌∙◌, subst, inl, inr, arith, length-append}
use Rattle.std.specs.Prelude.{nat_lt, option_map, slice_get, IfSome}
use Rattle.std.specs.Option.{option_and_then}
use Rattle.std.proofs.Math.ListN.{drop_of_length-le}
use Rattle.std.proofs.lemmas.Bool.{cases_lt}
use Rattle.std.proofs.lemmas.List.{length-map, length-reverse, map-append, reverse-append}
use Rattle.std.proofs.lemmas.Option.{slice_get-map}
use Rattle.input_types.specs.declared.message.Message.{Message}
use Rattle.input_types.specs.StreamRule.{stream_state, after_body}
use Rattle.dispatch_calls.specs.declared.reply.Reply.TheVariants.{Gone, Empty}
use Rattle.dispatch_history.specs.Effect.{Effect, past_of, stream, sent_on}
use Rattle.dispatch_history.specs.Effects.{said_at}
use Rattle.dispatch_history.specs.Focus.{requested}
use Rattle.dispatch_history.specs.History.{clock, live, opened, received, snapshot, windows_after}
use Rattle.dispatch_history.specs.Delivery.{delivery, published, unfinished}
use Rattle.dispatch_history.specs.Due.{anrs}
use Rattle.dispatch_history.specs.Known.{IsNumbered, NeverFalls}
use Rattle.dispatch_history.specs.Legal.{answered}
use Rattle.dispatch_history.specs.Reply.{got_reply, receive_reply, reply_to}
use Rattle.dispatch_history.proofs.WholeLaws.{numbers_law}
use Rattle.dispatcher.specs.DispatchTables.Channel.{NumberedFrom}
use Rattle.dispatcher.specs.DispatchTables.Lawful.{Lawful}
use Rattle.dispatcher.proofs.DispatchTables.Ables.{opened_few}
use Rattle.dispatcher.proofs.DispatchTables.Channels.{numbered, sound, stepped}
use Rattle.dispatcher.proofs.DispatchTables.Kept.{channel_law}
use Rattle.dispatcher.proofs.DispatchTables.Lawfuls.{lawful_last}
use Rattle.dispatcher.proofs.DispatchTables.Unopened.{not_live_law, unopened_not_live}
use Rattle.dispatcher.proofs.DispatchTables.Waiting.{with_delivery}
use Rattle.dispatcher.specs.Access.{gone, got, messages_of}
use Rattle.live_input.specs.declared.client.Seat.{Seat}
use Rattle.live_input.specs.Answers.{for_client, handed}
use Rattle.live_input.specs.Laws.{ClosedLaw, KeptLaw, AnrsLaw, NextLaw, OwnLaw, OwnNumbersLaw, VacantLaw}
use Rattle.live_input.specs.Seats.{seat_of}
use Rattle.live_input.specs.Standing.{LiveIs}
use Rattle.live_input.specs.State.{LiveState}
use Rattle.live_input.specs.Outgoing.{since, taken, sent_since}
use Rattle.live_input.proofs.Opened.{open_held, opened_at}
use Rattle.live_input.proofs.Silence.{sent_nothing}
use Rattle.live_input.proofs.Tenants.{not_asked, not_shown}
use Rattle.live_input.proofs.Unsent.{knows_all, state_alone}

pub live_lawful : (ds : List ℕ) (es : List Effect) (s : LiveState) → LiveIs ds es s → Lawful ds es
live_lawful ds es s h = subst (λ ys. Lawful ys es) h.displays_are h.stands.lawful

take_first : (newer older : List Message) → take (length newer) (newer ++ older) ≡ newer
take_first [] older = refl
take_first (m ∷ ms) older = ap (λ xs. m ∷ xs) (take_first ms older)

-- what came after the first messages
since_is : (newer older all : List Message) (n : ℕ) → all ≡ newer ++ older → length older ≡ n → since n all ≡ newer
since_is newer older all n e few =
    let many : length (newer ++ older) - n ≡ length newer = omega (arith, few, length-append newer older) in
    ap (since n) e ∙ ap (λ k. take k (newer ++ older)) many ∙ take_first newer older

-- what is known does not depend on the numbers
state_same : (s : Seat) (ms : List Message) → stream_state (map (for_client s) ms) ≡ stream_state ms
state_same s [] = refl
state_same s (m ∷ ms) = ap (λ o. option_and_then (λ x. after_body x m.body) o) (state_same s ms)

pub own_law : OwnLaw
own_law ds es s k h is =
    let c = k.channel in
    let held = open_held s.seats k is in
    let b = h.tenants_are.begun c held in
    let seat = seat_of s.seats c in
    let lives = h.seats_are.lives c held.0 (h.seats_are.held c held.0 held.1 held.2) in
    ap (λ ms. stream_state (map (for_client seat) ms)) (since_is b.newer b.older (stream es c) seat.before b.stream_is b.before_is)
    ∙ state_same seat b.newer
    ∙ sym (state_alone b.newer b.older b.ended)
    ∙ sym (ap stream_state b.stream_is)
    ∙ knows_all ds es c (live_lawful ds es s h) h.stands.rise lives

numbered_alone : (s : Seat) (newer older : List Message) → length older ≡ s.before → IsNumbered (newer ++ older) → IsNumbered (map (for_client s) newer)
numbered_alone s [] older few n = tt
numbered_alone s (m ∷ ms) older few n =
    let first = n.0 in
    (omega (arith, first, few, length-append ms older, length-map ms (for_client s)), numbered_alone s ms older few n.1)

never_alone : (s : Seat) (bound : ℕ) (newer older : List Message) → NeverFalls bound (newer ++ older) → NeverFalls bound (map (for_client s) newer)
never_alone s bound [] older n = tt
never_alone s bound (m ∷ ms) older n = (n.0, never_alone s m.moment ms older n.1)

pub own_numbers : OwnNumbersLaw
own_numbers ds es s k h is =
    let c = k.channel in
    let held = open_held s.seats k is in
    let b = h.tenants_are.begun c held in
    let seat = seat_of s.seats c in
    let l = live_lawful ds es s h in
    let all : IsNumbered (stream es c) × NeverFalls (clock (past_of es)) (stream es c) =
    subst (λ xs. IsNumbered (stream xs c) × NeverFalls (clock (past_of es)) (stream xs c)) l.whole (numbers_law ds (past_of es) c) in
    let newer = since_is b.newer b.older (stream es c) seat.before b.stream_is b.before_is in (
      subst (λ ms. IsNumbered (map (for_client seat) ms)) (sym newer)
          (numbered_alone seat b.newer b.older b.before_is (subst IsNumbered b.stream_is all.0)),
      subst (λ ms. NeverFalls (clock (past_of es)) (map (for_client seat) ms)) (sym newer)
          (never_alone seat (clock (past_of es)) b.newer b.older (subst (NeverFalls (clock (past_of es))) b.stream_is all.1)),
      b.taken,
    )

kept_messages : (ds : List ℕ) (es : List Effect) (s : LiveState) (c : ℕ) → LiveIs ds es s → 1 ≤ c → c ≤ opened (past_of es)
    → messages_of es s.dispatcher c ≡ Some (drop (received (past_of es) c) (reverse (stream es c)))
kept_messages ds es s c h low high =
    ap (λ b. cond b (Some (drop (gone s.dispatcher c) (reverse (stream es c)))) None) (opened_at es c low high)
    ∙ ap (λ n. Some (drop n (reverse (stream es c)))) (h.release.messages_are c low)

pub kept_law : KeptLaw
kept_law ds es s c h low high =
    let few = (channel_law ds es c 0 0 (live_lawful ds es s h) (omega arith)).0.few in (
      kept_messages ds es s c h low high,
      omega (arith, few, length-map (unfinished es c) (with_delivery (delivery es c))),
    )

pub anrs_law : AnrsLaw
anrs_law ds es s h = let all = h.release.anrs_are in drop_of_length-le (anrs es) (omega (arith, all))

pub vacant_law : VacantLaw
vacant_law ds es s c h low high none =
    let done = h.tenants_are.left c low high none in
    let most = opened_few ds es (live_lawful ds es s h) in
    let all = done.received_all in (
      not_shown es s.seats (snapshot (past_of es)) c (omega (arith, high, most)) h.tenants_are.shown none,
      λ y less. not_asked s.seats c (requested (past_of es) y) none (h.tenants_are.asked y less),
      done.finished_all,
      kept_messages ds es s c h low high
          ∙ ap Some (drop_of_length-le (reverse (stream es c)) (omega (arith, all, length-reverse (stream es c)))),
    )

pub closed_law : ClosedLaw
closed_law ds call es s t c h k was is =
    let answer = reply_to es call in
    let l = live_lawful ds (answered ds call es) t k in
    let most = opened_few ds (answered ds call es) l in
    let silent : said_at ds call answer es c ≡ [] = elim (cases_lt 64 c) [
      | inl above ↦ (not_live_law ds call answer es c l (unopened_not_live ds (answered ds call es) c l (omega (arith, above, most)))).0
      | inr few ↦
          sent_nothing ds call answer es c l (not_shown es s.seats (snapshot (past_of es)) c few h.tenants_are.shown was)
          (not_shown (answered ds call es) t.seats (windows_after call (snapshot (past_of es))) c few k.tenants_are.shown is)
    ] in
    (stepped ds call answer es c l (sound ds es c (lawful_last ds call answer es l).1)).stream_is
    ∙ ap (λ bs. sent_on (clock ((call, answer) ∷ past_of es)) bs (stream es c)) silent

-- what is received has the next number
numbered_get : (n k : ℕ) (ms : List Message) (m : Message) → NumberedFrom n ms → slice_get ms k ≡ Some m → m.seq ≡ n + k + 1
numbered_get n k [] m h e = absurd cc
numbered_get n zero (x ∷ ms) m h e =
    let same : x ≡ m = cc in
    let first = ap (λ (y : Message). y.seq) (sym same) in
    let number = h.0 in
    omega (arith, first, number)
numbered_get n (suc k) (x ∷ ms) m h e =
    let later = numbered_get (suc n) k ms m h.1 e in
    omega (arith, later)

pub got_number : (es : List Effect) (c : ℕ) (m : Message) → NumberedFrom 0 (reverse (stream es c)) → got (receive_reply es c) ≡ Some m
    → m.seq ≡ received (past_of es) c + 1
got_number es c m n =
    by_tests (live (past_of es) c) (nat_lt (received (past_of es) c) (published es c)) (slice_get (reverse (stream es c)) (received (past_of es) c))
    (λ e. let x = numbered_get 0 (received (past_of es) c) (reverse (stream es c)) m n e in omega (arith, x))
  where
    by_tests : (a b : Bool) (o : Option Message) → (o ≡ Some m → m.seq ≡ received (past_of es) c + 1)
        → got (cond (not a) Gone (cond b (got_reply o) Empty)) ≡ Some m → m.seq ≡ received (past_of es) c + 1
    by_tests false b o f e = absurd cc
    by_tests true false o f e = absurd cc
    by_tests true true None f e = absurd cc
    by_tests true true (Some x) f e = f e

pub handed_number : (ds : List ℕ) (es : List Effect) (s : Seat) (c : ℕ) → Lawful ds es → s.before ≤ received (past_of es) c
    → IfSome (handed s (got (receive_reply es c))) (λ m. m.seq ≡ taken s es c + 1)
handed_number ds es s c l before = by_message (got (receive_reply es c)) refl
  where
    by_message : (o : Option Message) → got (receive_reply es c) ≡ o → IfSome (handed s o) (λ m. m.seq ≡ taken s es c + 1)
    by_message None e = tt
    by_message (Some m) e = let x = got_number es c m (numbered ds es c l) e in omega (arith, x, before)

-- what is behind the first ones of a list
get_behind : (xs ys : List Message) (n k : ℕ) → length xs + k ≡ n → slice_get (xs ++ ys) n ≡ slice_get ys k
get_behind [] ys n k e = let same : n ≡ k = omega (arith, e) in ap (slice_get ys) same
get_behind (x ∷ xs) ys zero k e = absurd (omega (arith, e))
get_behind (x ∷ xs) ys (suc n) k e = get_behind xs ys n k (omega (arith, e))

reverse_mapped : (f : Message → Message) (ms : List Message) → reverse (map f ms) ≡ map f (reverse ms)
reverse_mapped f [] = refl
reverse_mapped f (m ∷ ms) =
    reverse-append (f m ∷ []) (map f ms)
    ∙ ap (λ xs. xs ++ f m ∷ []) (reverse_mapped f ms)
    ∙ sym (map-append f (reverse ms) (m ∷ []))
    ∙ sym (ap (map f) (reverse-append (m ∷ []) ms))

got_place : (es : List Effect) (c : ℕ) (m : Message) → got (receive_reply es c) ≡ Some m → slice_get (reverse (stream es c)) (received (past_of es) c) ≡ Some m
got_place es c m =
    by_tests (live (past_of es) c) (nat_lt (received (past_of es) c) (published es c)) (slice_get (reverse (stream es c)) (received (past_of es) c))
  where
    by_tests : (a b : Bool) (o : Option Message) → got (cond (not a) Gone (cond b (got_reply o) Empty)) ≡ Some m → o ≡ Some m
    by_tests false b o e = absurd cc
    by_tests true false o e = absurd cc
    by_tests true true None e = absurd cc
    by_tests true true (Some x) e = e

pub next_law : NextLaw
next_law ds es s k m h is = by_message (got (receive_reply es k.channel)) refl
  where
    by_message : (o : Option Message) → got (receive_reply es k.channel) ≡ o → handed (seat_of s.seats k.channel) o ≡ Some m
        → slice_get (reverse (sent_since (seat_of s.seats k.channel) (stream es k.channel))) (taken (seat_of s.seats k.channel) es k.channel) ≡ Some m
    by_message None got e = absurd cc
    by_message (Some x) got e =
        let c = k.channel in
        let seat = seat_of s.seats c in
        let b = h.tenants_are.begun c (open_held s.seats k is) in
        let r = received (past_of es) c in
        let before = b.taken in
        let few = b.before_is in
        let at : length (reverse b.older) + taken seat es c ≡ r = omega (arith, before, few, length-reverse b.older) in
        ap (λ ms. slice_get (reverse (map (for_client seat) ms)) (taken seat es c)) (since_is b.newer b.older (stream es c) seat.before b.stream_is b.before_is)
        ∙ ap (λ ms. slice_get ms (taken seat es c)) (reverse_mapped (for_client seat) b.newer)
        ∙ slice_get-map (for_client seat) (reverse b.newer) (taken seat es c)
        ∙ ap (option_map (for_client seat))
        (sym (get_behind (reverse b.older) (reverse b.newer) r (taken seat es c) at)
        ∙ sym (ap (λ ms. slice_get ms r) (ap reverse b.stream_is ∙ reverse-append b.newer b.older))
        ∙ got_place es c x got)
        ∙ e
