-- Only clients that are open are reported.
use Rattle.std.proofs.Common.{◌≡◌, ℕ, ◌≤◌, ◌==◌, ◌&&◌, ◌||◌, Bool, true, false, not, max, List, [], length, None, refl, sym, ap, ◌∙◌, inl, inr}
use Rattle.std.specs.Prelude.{nat_lt, nat_le, slice_get}
use Rattle.std.proofs.lemmas.Bool.{true≢false, and_parts, cases_Bool, cases_eq, cases_lt, eq-eqb, ltb-true, leb-true}
use Rattle.input_types.specs.declared.message.Message.{Message}
use Rattle.window_snapshot.specs.Mask.{is_channel, mask_has}
use Rattle.window_snapshot.proofs.Masks.{mask_has-zero, mask_has_channel}
use Rattle.dispatch_calls.specs.declared.call.Call.{Call}
use Rattle.dispatch_calls.specs.declared.call.Call.TheVariants.{Tick}
use Rattle.dispatch_history.specs.Delivery.{able, is_reported_by, oldest, unfinished, unresponsive}
use Rattle.dispatch_history.specs.Due.{is_late_at, mask_of, named}
use Rattle.dispatch_history.specs.Effect.{Effect, past_of}
use Rattle.dispatch_history.specs.History.{clock, live, opened}
use Rattle.dispatch_history.specs.Reply.{reply_to}
use Rattle.dispatcher.specs.DispatchTables.Lawful.{Lawful}
use Rattle.dispatcher.proofs.DispatchTables.Ables.{named_mask}
use Rattle.dispatcher.proofs.DispatchTables.Unopened.{unopened_not_live}
use Rattle.live_input.specs.declared.client.Seat.{Seat}
use Rattle.live_input.specs.Seats.{IsHeld, is_held, left_vacant, seat_of, with_seat}
use Rattle.live_input.specs.Standing.{IsMaskOfHeld, LiveIs}
use Rattle.live_input.specs.State.{LiveState}
use Rattle.live_input.proofs.Outgoing.{live_lawful}
use Rattle.live_input.proofs.Vacant.{seat_set, seat_stays}

pub none_named : (n : ℕ) (seats : List Seat) → n ≡ 0 → IsMaskOfHeld n seats
none_named n seats e = λ c is. absurd (true≢false (sym is ∙ ap (λ k. mask_has k c) e ∙ mask_has-zero c))

-- a client is opened
pub named_new : (seats : List Seat) (c : ℕ) (seat : Seat) (mask : ℕ) → is_held seat ≡ true → length seats ≡ 64 → 1 ≤ c → c ≤ 64 → IsMaskOfHeld mask seats
    → IsMaskOfHeld mask (with_seat c seat seats)
named_new seats c seat mask taken all from to h = λ d is.
    let was = h d is in
    elim (cases_eq d c) [
      | inl e ↦ (was.0, was.1, ap (λ n. is_held (seat_of (with_seat c seat seats) n)) e ∙ ap is_held (seat_set seats c seat all from to) ∙ taken)
      | inr ne ↦ (was.0, was.1, ap is_held (seat_stays seats c d seat from was.0 ne) ∙ was.2)
    ]

-- a client is closed, and is not reported any more
pub named_less : (seats : List Seat) (c before mask less : ℕ) → 1 ≤ c → IsMaskOfHeld mask seats
    → ((d : ℕ) → mask_has less d ≡ (not (d == c) && mask_has mask d))
    → IsMaskOfHeld less (with_seat c (left_vacant before) seats)
named_less seats c before mask less from h without = λ d is.
    let seat : Seat = left_vacant before in
    let both = and_parts (not (d == c)) (mask_has mask d) (sym (without d) ∙ is) in
    let was = h d both.1 in
    elim (cases_eq d c) [
      | inl e ↦ absurd (true≢false (sym both.0 ∙ ap not (eq-eqb d c e)))
      | inr ne ↦ (was.0, was.1, ap is_held (seat_stays seats c d seat from was.0 ne) ∙ was.2)
    ]

-- a channel that a call reports is able, and has a late message
pub tick_able : (ds : List ℕ) (es : List Effect) → Lawful ds es → (call : Call) (c : ℕ) → is_reported_by call (reply_to es call) c ≡ true
    → (now : ℕ) × (is_channel c ≡ true) × (able es c ≡ true) × (is_late_at es c now (oldest es c) ≡ true)
tick_able ds es l (Tick now) c is =
    let at = max now (clock (past_of es)) in
    let both = and_parts (able es c) (is_late_at es c at (oldest es c)) (sym (named_mask ds es now c l) ∙ is) in
    (at, mask_has_channel (mask_of (named es now)) c is, both.0, both.1)
tick_able ds es l call c is = absurd (true≢false (sym is))

pub tick_mask : (ds : List ℕ) (es : List Effect) → Lawful ds es → (call : Call) (c : ℕ) → is_reported_by call (reply_to es call) c ≡ true
    → oldest es c ≡ None → ⊥
tick_mask ds es l call c is none =
    let x = tick_able ds es l call c is in
    true≢false (sym x.3 ∙ ap (is_late_at es c x.0) none)

module _ (ds : List ℕ) (es : List Effect) (s : LiveState) (h : LiveIs ds es s) where
  first_none : (c : ℕ) → unfinished es c ≡ [] → oldest es c ≡ None
  first_none c e = ap (λ (us : List Message). slice_get us 0) e

  -- a channel that is late was opened, and a client is open on it: everything on a vacant one is finished
  late_held : (now c : ℕ) → is_channel c ≡ true → able es c ≡ true → is_late_at es c now (oldest es c) ≡ true → IsHeld c s.seats
  late_held now c channel is late =
      let range = and_parts (nat_lt 0 c) (nat_le c 64) channel in
      let low = ltb-true 0 c range.0 in
      let lives = (and_parts (live (past_of es) c) (not (unresponsive es c)) is).0 in
      elim (cases_lt (opened (past_of es)) c) [
        | inl lt ↦ absurd (true≢false (sym lives ∙ unopened_not_live ds es c (live_lawful ds es s h) lt))
        | inr le ↦ elim (cases_Bool (is_held (seat_of s.seats c))) [
          | inl held ↦ (low, leb-true c 64 range.1, held)
          | inr vacant ↦
              let none = (h.tenants_are.left c low le vacant).finished_all in
              absurd (true≢false (sym late ∙ ap (is_late_at es c now) (first_none c none)))
        ]
      ]

  -- a call reports only clients that are open
  named_held : (call : Call) (c : ℕ) → is_reported_by call (reply_to es call) c ≡ true → IsHeld c s.seats
  named_held call c is =
      let x = tick_able ds es (live_lawful ds es s h) call c is in
      late_held x.0 c x.1 x.2 x.3

  pub named_more : (call : Call) (mask : ℕ)
      → ((c : ℕ) → mask_has mask c ≡ (mask_has s.reported c || is_reported_by call (reply_to es call) c)) → IsMaskOfHeld mask s.seats
  named_more call mask e = λ c is. by_either c (mask_has s.reported c) refl (sym (e c) ∙ is)
    where
      by_either : (c : ℕ) (b : Bool) → mask_has s.reported c ≡ b → (b || is_reported_by call (reply_to es call) c) ≡ true → IsHeld c s.seats
      by_either c true was either = h.reported_are c was
      by_either c false was either = named_held call c either
