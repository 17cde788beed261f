-- A client of which nothing is unfinished received everything; and what is shown instead of the windows of choked clients.
use Rattle.std.proofs.Common.{◌≡◌, ℕ, ◌+◌, ◌≤◌, ◌==◌, ◌||◌, ◌&&◌, ◌⊎◌, Bool, true, false, not, cond, List, [], ◌∷◌, length, map, Option, Some, None, refl, sym, ap, ap₂, ◌∙◌, inl, inr, arith}
use Rattle.std.specs.Prelude.{is_some, nat_le, nat_lt, slice_get}
use Rattle.std.proofs.lemmas.Bool.{and_parts, cases_Bool, eqb-true, le-leb, leb-false, leb-true, ltb-false, true≢false}
use Rattle.input_types.specs.declared.message.Message.{Message}
use Rattle.window_snapshot.specs.declared.window.Window.{Window}
use Rattle.window_snapshot.specs.Mask.{is_channel, mask_has}
use Rattle.window_snapshot.specs.Named.{is_named, window_of as window_on}
use Rattle.window_snapshot.proofs.Masks.{mask_has_channel}
use Rattle.dispatch_history.specs.Delivery.{delivery, is_finished, oldest, published, unfinished}
use Rattle.dispatch_history.specs.Effect.{Effect, past_of, stream}
use Rattle.dispatch_history.specs.History.{finished, received}
use Rattle.dispatcher.specs.DispatchTables.Lawful.{Lawful}
use Rattle.dispatcher.specs.InputChannel.Order.{has_seq}
use Rattle.dispatcher.specs.declared.input_channel.unfinished.Unfinished.{Unfinished}
use Rattle.dispatcher.proofs.DispatchTables.Channels.{sound}
use Rattle.dispatcher.proofs.DispatchTables.Kept.{channel_law}
use Rattle.dispatcher.proofs.DispatchTables.Unfinished.{has_seq_law}
use Rattle.dispatcher.proofs.DispatchTables.Waiting.{with_delivery}
use Rattle.live_input.specs.declared.client.Client.{Client}
use Rattle.live_input.specs.declared.client.Seat.{Seat}
use Rattle.live_input.specs.declared.windows.ClientWindow.{ClientWindow}
use Rattle.live_input.specs.Limit.{unreceived, wall_of, walled, walled_one}
use Rattle.live_input.specs.LimitLaws.{BoundLaw, CoverLaw, DrainedLaw, HiddenLaw, LeftLaw, cover_of}
use Rattle.live_input.specs.Seats.{IsHeld, is_held, seat_of}
use Rattle.live_input.specs.Standing.{IsDone}
use Rattle.live_input.specs.Windows.{number_of, window_of}
use Rattle.live_input.proofs.Outgoing.{live_lawful}

-- how many messages a channel was sent, and those that are published and not finished, as the dispatcher keeps them
abbrev sent : List Effect → ℕ → ℕ
sent es c = length (stream es c)

abbrev left : List Effect → ℕ → List Unfinished
left es c = map (with_delivery (delivery es c)) (unfinished es c)

-- where nothing is unfinished, all is published, received and finished
pub all_received : (ds : List ℕ) (es : List Effect) (c : ℕ) → Lawful ds es → unfinished es c ≡ [] → IsDone es c
all_received ds es c l none =
    record { received_all = by_test (is_finished (past_of es) c (sent es c)) refl; finished_all = none }
  where
    low : received (past_of es) c ≤ published es c
    low = (channel_law ds es c 0 0 l (omega arith)).0.received_published

    all_published : published es c ≡ sent es c
    all_published =
        let counted : published es c ≡ length (finished (past_of es) c) + length (left es c) = (channel_law ds es c 0 0 l (omega arith)).0.counted in
        let empty : length (left es c) ≡ 0 = ap (λ ms. length (map (with_delivery (delivery es c)) ms)) none in
        omega (arith, counted, empty)

    by_test : (b : Bool) → is_finished (past_of es) c (sent es c) ≡ b → received (past_of es) c ≡ sent es c
    by_test true e =
        let in_time = (sound ds es c l).done_received (sent es c) e in
        let high = in_time.1 in
        omega (arith, high, low, all_published)
    by_test false e =
        elim (cases_Bool (nat_le 1 (sent es c))) [
          | inl some ↦
              let there : has_seq (sent es c) (left es c) ≡ true =
              has_seq_law ds es c (sent es c) l
              ∙ ap₂ (λ p q. p && q && not (is_finished (past_of es) c (sent es c))) some (le-leb (sent es c) (published es c) (omega (arith, all_published)))
              ∙ ap not e in
              absurd (true≢false (sym there ∙ ap (λ ms. has_seq (sent es c) (map (with_delivery (delivery es c)) ms)) none))
          | inr zero ↦ let few = leb-false 1 (sent es c) zero in omega (arith, few, low, all_published)
        ]

none_unfinished : (ms : List Message) → is_some (slice_get ms 0) ≡ false → ms ≡ []
none_unfinished [] e = refl
none_unfinished (m ∷ ms) e = absurd (true≢false e)

-- what is left of the test for a client that is open
of_held : (seats : List Seat) (c : ℕ) (rest : Bool) → IsHeld c seats → (is_channel c && (is_held (seat_of seats c) && rest)) ≡ rest
of_held seats c rest held =
    let there : is_channel c ≡ true = rw (le-leb 1 c held.0, le-leb c 64 held.1) refl in
    rw (there, held.2) refl

calm_parts : (some was more : Bool) → (some && (was || more)) ≡ false → (some ≡ false) ⊎ ((was ≡ false) × (more ≡ false))
calm_parts true true more e = absurd (true≢false e)
calm_parts true false more e = inr (refl, e)
calm_parts false was more e = inl refl

pub bound_law : BoundLaw
bound_law ds es s most choked c h held calm =
    elim (calm_parts (is_some (oldest es c)) (mask_has choked c) (nat_lt most (unreceived es c)) (sym (of_held s.seats c _ held) ∙ calm)) [
      | inl none ↦
          let done = all_received ds es c (live_lawful ds es s h) (none_unfinished (unfinished es c) none) in
          let all = done.received_all in
          omega (arith, all)
      | inr rest ↦ ltb-false most (unreceived es c) rest.1
    ]

pub drained_law : DrainedLaw
drained_law ds es s most choked c h held was calm =
    elim (calm_parts (is_some (oldest es c)) (mask_has choked c) (nat_lt most (unreceived es c)) (sym (of_held s.seats c _ held) ∙ calm)) [
      | inl none ↦ all_received ds es c (live_lawful ds es s h) (none_unfinished (unfinished es c) none)
      | inr rest ↦ absurd (true≢false (sym was ∙ rest.0))
    ]

-- a wall covers what its window does
same_cover : (choked : ℕ) (client : Option Client) (w : ClientWindow) → cover_of (walled_one choked client w) ≡ cover_of w
same_cover choked None w = refl
same_cover choked (Some k) w = by_test (mask_has choked k.channel)
  where
    by_test : (b : Bool) → cover_of (cond b (wall_of w) w) ≡ cover_of w
    by_test true = refl
    by_test false = refl

pub cover_law : CoverLaw
cover_law choked [] = refl
cover_law choked (w ∷ ws) = ap₂ (λ v vs. v ∷ vs) (same_cover choked w.client w) (cover_law choked ws)

-- the number of a wall is no channel's
no_channel : (y c : ℕ) → c ≤ 64 → (65 + y == c) ≡ false
no_channel y c low =
    elim (cases_Bool (65 + y == c)) [
      | inl same ↦ let is = eqb-true (65 + y) c same in absurd (omega (arith, low, is))
      | inr other ↦ other
    ]

-- the channel of a window, or of the wall in its place
abbrev walled_number : (choked : ℕ) (client : Option Client) (w : ClientWindow) → ℕ
walled_number choked client w = (window_of (walled_one choked client w)).channel

one_hidden : (choked c : ℕ) (client : Option Client) (w : ClientWindow) → w.client ≡ client → c ≤ 64 → mask_has choked c ≡ true
    → (walled_number choked client w == c) ≡ false
one_hidden choked c None w is low has = ap (λ k. number_of k w.info.display == c) is ∙ no_channel w.info.display c low
one_hidden choked c (Some k) w is low has = by_test (mask_has choked k.channel) refl
  where
    by_test : (b : Bool) → mask_has choked k.channel ≡ b → ((window_of (cond b (wall_of w) w)).channel == c) ≡ false
    by_test true e = no_channel w.info.display c low
    by_test false e =
        ap (λ k. number_of k w.info.display == c) is
        ∙ elim (cases_Bool (k.channel == c)) [
          | inl same ↦ absurd (true≢false (sym has ∙ ap (mask_has choked) (sym (eqb-true k.channel c same)) ∙ e))
          | inr other ↦ other
        ]

low_channel : (mask c : ℕ) → mask_has mask c ≡ true → c ≤ 64
low_channel mask c has = leb-true c 64 (and_parts (nat_lt 0 c) (nat_le c 64) (mask_has_channel mask c has)).1

pub hidden_law : HiddenLaw
hidden_law choked [] c has = refl
hidden_law choked (w ∷ ws) c has =
    ap (λ b. b || is_named (map window_of (walled choked ws)) c) (one_hidden choked c w.client w refl (low_channel choked c has) has)
    ∙ hidden_law choked ws c has

-- the window of another channel is not walled, and a wall is of no channel
one_left : (choked c : ℕ) (client : Option Client) (w : ClientWindow) (front back : Option Window) → w.client ≡ client → c ≤ 64
    → mask_has choked c ≡ false → front ≡ back
    → cond (walled_number choked client w == c) (Some (window_of (walled_one choked client w))) front
    ≡ cond ((window_of w).channel == c) (Some (window_of w)) back
one_left choked c None w front back is low has more = ap (λ o. cond ((window_of w).channel == c) (Some (window_of w)) o) more
one_left choked c (Some k) w front back is low has more = by_test (mask_has choked k.channel) refl
  where
    by_test : (b : Bool) → mask_has choked k.channel ≡ b
        → cond ((window_of (cond b (wall_of w) w)).channel == c) (Some (window_of (cond b (wall_of w) w))) front
        ≡ cond ((window_of w).channel == c) (Some (window_of w)) back
    by_test false e = ap (λ o. cond ((window_of w).channel == c) (Some (window_of w)) o) more
    by_test true e =
        let other : ((window_of w).channel == c) ≡ false =
        ap (λ k. number_of k w.info.display == c) is
        ∙ elim (cases_Bool (k.channel == c)) [
          | inl same ↦ absurd (true≢false (sym e ∙ ap (mask_has choked) (eqb-true k.channel c same) ∙ has))
          | inr n ↦ n
        ] in
        ap (λ b. cond b (Some (window_of (wall_of w))) front) (no_channel w.info.display c low)
        ∙ more ∙ sym (ap (λ b. cond b (Some (window_of w)) back) other)

pub left_law : LeftLaw
left_law choked [] c low has = refl
left_law choked (w ∷ ws) c low has =
    one_left choked c w.client w (window_on (map window_of (walled choked ws)) c) (window_on (map window_of ws) c) refl low has (left_law choked ws c low has)
