-- Channels that were opened.
use Rattle.std.proofs.Common.{◌≡◌, ℕ, ◌≤◌, ◌<◌, true, cond, List, Option, Some, None, refl, sym, ap, ap₂, ◌∙◌, subst, inl, inr}
use Rattle.std.specs.Prelude.{nat_le, nat_lt, is_some}
use Rattle.std.proofs.lemmas.Bool.{and_from, and_parts, ltb-true, leb-true, le-leb, lt-leb, cases_Bool, true≢false}
use Rattle.dispatch_calls.specs.declared.call.Call.TheVariants.{Open}
use Rattle.dispatch_calls.specs.declared.terms.Terms.{Terms}
use Rattle.dispatch_history.specs.Effect.{Effect, past_of}
use Rattle.dispatch_history.specs.History.{opened}
use Rattle.dispatch_history.specs.Legal.{answered}
use Rattle.dispatcher.specs.Access.{is_opened}
use Rattle.window_snapshot.specs.Mask.{is_channel}
use Rattle.live_input.specs.declared.client.Client.{Client}
use Rattle.live_input.specs.declared.client.Seat.{Seat}
use Rattle.live_input.specs.Closing.{forgotten_on, forgotten}
use Rattle.live_input.specs.Opening.{opening}
use Rattle.live_input.specs.Seats.{IsHeld, is_full, first_vacant, is_held, is_of, is_open, seat_of}
use Rattle.live_input.specs.Standing.{AreSeated, LiveIs}
use Rattle.live_input.specs.State.{LiveState}
use Rattle.live_input.proofs.Vacant.{none_vacant, is_vacant}

pub opened_at : (es : List Effect) (c : ℕ) → 1 ≤ c → c ≤ opened (past_of es) → is_opened es c ≡ true
opened_at es c low high = and_from (nat_le 1 c) (nat_le c (opened (past_of es))) (le-leb 1 c low) (le-leb c (opened (past_of es)) high)

-- an open client has a channel
pub channel_of_open : (seats : List Seat) (k : Client) → is_open seats k ≡ true → is_channel k.channel ≡ true
channel_of_open seats k is = (and_parts (is_channel k.channel) (is_of k.generation (seat_of seats k.channel).holder) is).0

-- a channel that a client holds was opened
pub held_opened : (es : List Effect) (seats now : List Seat) (c : ℕ) → AreSeated (past_of es) now → now ≡ seats → 1 ≤ c → c ≤ 64
    → is_held (seat_of seats c) ≡ true → is_opened es c ≡ true
held_opened es seats now c a same from to is =
    opened_at es c from (a.held c from to (ap (λ ss. is_held (seat_of ss c)) same ∙ is))

-- opening a channel, by whether it was opened before
pub opening_new : (ds : List ℕ) (terms : Terms) (c : ℕ) (es : List Effect) → opened (past_of es) < c → answered ds (Open terms) es ≡ opening ds terms c es
opening_new ds terms c es lt = sym (ap (λ b. cond b es (answered ds (Open terms) es)) (lt-leb c (opened (past_of es)) lt))

pub opening_old : (ds : List ℕ) (terms : Terms) (c : ℕ) (es : List Effect) → c ≤ opened (past_of es) → es ≡ opening ds terms c es
opening_old ds terms c es le = sym (ap (λ b. cond b es (answered ds (Open terms) es)) (le-leb c (opened (past_of es)) le))

-- all channels are held exactly if none is vacant
some≢none : (c : ℕ) → Some c ≡ None → ⊥
some≢none c e = cc

pub full_by_none : (seats : List Seat) → None ≡ first_vacant seats → is_full seats ≡ true
full_by_none seats e =
    elim (cases_Bool (is_full seats)) [
      | inl y ↦ y
      | inr n ↦ let x = is_vacant seats n in absurd (some≢none x.0 (sym x.1 ∙ sym e))
    ]

pub not_full : (seats : List Seat) (c : ℕ) → Some c ≡ first_vacant seats → is_full seats ≡ true → ⊥
not_full seats c e full = some≢none c (e ∙ none_vacant seats full)

-- what is forgotten, display by display
pub forgotten_is : (ds : List ℕ) (now c : ℕ) (es : List Effect) (d0 d1 d2 d3 : ℕ) → d0 ≡ 0 → d1 ≡ 1 → d2 ≡ 2 → d3 ≡ 3
    → forgotten_on ds now c d3 (forgotten_on ds now c d2 (forgotten_on ds now c d1 (forgotten_on ds now c d0 es))) ≡ forgotten ds now c es
forgotten_is ds now c es d0 d1 d2 d3 e0 e1 e2 e3 =
    ap₂ (λ a b. forgotten_on ds now c d3 (forgotten_on ds now c d2 (forgotten_on ds now c b (forgotten_on ds now c a es)))) e0 e1
    ∙ ap₂ (λ a b. forgotten_on ds now c b (forgotten_on ds now c a (forgotten_on ds now c 1 (forgotten_on ds now c 0 es)))) e2 e3

-- the channel of a client that is open is held
holder_some : (g : ℕ) (o : Option ℕ) → is_of g o ≡ true → is_some o ≡ true
holder_some g None e = absurd (true≢false (sym e))
holder_some g (Some k) e = refl

pub open_held : (seats : List Seat) (k : Client) → is_open seats k ≡ true → IsHeld k.channel seats
open_held seats k e =
    let x = and_parts (is_channel k.channel) (is_of k.generation (seat_of seats k.channel).holder) e in
    let y = and_parts (nat_lt 0 k.channel) (nat_le k.channel 64) x.0 in
    (ltb-true 0 k.channel y.0, leb-true k.channel 64 y.1, holder_some k.generation (seat_of seats k.channel).holder x.1)

pub opening_live : (ds : List ℕ) (terms other : Terms) (c : ℕ) (es : List Effect) (t : LiveState) → terms ≡ other → opened (past_of es) < c
    → LiveIs ds (answered ds (Open terms) es) t → LiveIs ds (opening ds other c es) t
opening_live ds terms other c es t e lt h =
    subst (λ fs. LiveIs ds fs t) (opening_new ds terms c es lt ∙ ap (λ l. opening ds l c es) e) h
