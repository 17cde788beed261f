-- What can be asked about clients.
use Rattle.std.proofs.Common.{◌≡◌, ℕ, ◌+◌, ◌&&◌, ◌||◌, Bool, true, false, not, cond, is_some, List, Option, Some, None, option_map, refl, sym, ap, ap₂, ◌∙◌, inl, inr}
use Rattle.std.specs.Prelude.{nat_lt, nat_le}
use Rattle.std.proofs.lemmas.Bool.{cases_Bool, and_parts, and_from, and_right, ltb-true, leb-true}
use Rattle.input_types.specs.declared.message.Message.{Message}
use Rattle.window_snapshot.specs.declared.window.Window.{Window}
use Rattle.window_snapshot.specs.Mask.{is_channel}
use Rattle.window_snapshot.specs.Named.{is_focusable_on}
use Rattle.focus_resolver.specs.Resolver.{focus_if}
use Rattle.dispatch_history.specs.Delivery.{able, oldest, delivery}
use Rattle.dispatch_history.specs.Effect.{Effect, past_of}
use Rattle.dispatch_history.specs.Focus.{focus, may_focus, requested}
use Rattle.dispatch_history.specs.History.{live, limit_of, snapshot}
use Rattle.dispatcher.specs.DispatchTables.Dues.{due_moment}
use Rattle.live_input.specs.declared.client.Seat.{Seat}
use Rattle.live_input.specs.Asking.{client_on, client_of_some, responds}
use Rattle.live_input.specs.Seats.{client_at, client_of, is_held, seat_of}
use Rattle.live_input.specs.Standing.{AreSeated}

-- a channel that no client holds has no client
no_holder : (c : ℕ) (o : Option ℕ) → is_some o ≡ false → client_of c o ≡ None
no_holder c None e = refl
no_holder c (Some g) e = absurd cc

none_on : (seats : List Seat) (c : ℕ) (b : Bool) → client_at seats c ≡ None → cond b (client_at seats c) None ≡ None
none_on seats c true e = e
none_on seats c false e = refl

none_either : (seats : List Seat) (c : ℕ) (b : Bool) → client_on seats c ≡ None → client_of_some seats (cond b (Some c) None) ≡ None
none_either seats c true e = e
none_either seats c false e = refl

module _ (es : List Effect) (seats : List Seat) (a : AreSeated (past_of es) seats) (ws : List Window) (same : ws ≡ snapshot (past_of es)) (y c : ℕ)
    (asked : Some c ≡ requested (past_of es) y) where
  -- a channel that may have the focus has it: it is live if a client is open on it
  pub focus_seen : (is_channel c && is_focusable_on ws y c) ≡ true → client_on seats c ≡ client_of_some seats (focus (past_of es) y)
  focus_seen e =
      let x = and_parts (is_channel c) (is_focusable_on ws y c) e in
      let in_range = and_parts (nat_lt 0 c) (nat_le c 64) x.0 in
      let low = ltb-true 0 c in_range.0 in
      let high = leb-true c 64 in_range.1 in
      elim (cases_Bool (is_held (seat_of seats c))) [
        | inl held ↦
            let may : may_focus (past_of es) y c ≡ true =
            and_from (live (past_of es) c) (is_focusable_on (snapshot (past_of es)) y c) (a.lives c low (a.held c low high held))
            (ap (λ vs. is_focusable_on vs y c) (sym same) ∙ x.1) in
            sym (ap (λ b. client_of_some seats (cond b (Some c) None)) may) ∙ ap (λ r. client_of_some seats (focus_if (may_focus (past_of es) y) r)) asked
        | inr not ↦
            let none = none_on seats c (is_channel c) (no_holder c (seat_of seats c).holder not) in
            none ∙ sym (none_either seats c (may_focus (past_of es) y c) none) ∙ ap (λ r. client_of_some seats (focus_if (may_focus (past_of es) y) r)) asked
      ]

  -- and one that may not have it does not
  pub focus_unseen : (is_channel c && is_focusable_on ws y c) ≡ false → None ≡ client_of_some seats (focus (past_of es) y)
  focus_unseen e =
      elim (cases_Bool (is_channel c)) [
        | inl in_range ↦
            let not_named : is_focusable_on ws y c ≡ false = sym (ap (λ b. b && is_focusable_on ws y c) in_range) ∙ e in
            let may : may_focus (past_of es) y c ≡ false =
            and_right (live (past_of es) c) (is_focusable_on (snapshot (past_of es)) y c) (ap (λ vs. is_focusable_on vs y c) (sym same) ∙ not_named) in
            sym (ap (λ b. client_of_some seats (cond b (Some c) None)) may) ∙ ap (λ r. client_of_some seats (focus_if (may_focus (past_of es) y) r)) asked
        | inr out ↦
            let none : client_on seats c ≡ None = ap (λ b. cond b (client_at seats c) None) out in
            sym (none_either seats c (may_focus (past_of es) y c) none) ∙ ap (λ r. client_of_some seats (focus_if (may_focus (past_of es) y) r)) asked
      ]

-- no window has the focus of a display for which it was requested for none
pub focus_none : (es : List Effect) (seats : List Seat) (y : ℕ) → None ≡ requested (past_of es) y → None ≡ client_of_some seats (focus (past_of es) y)
focus_none es seats y e = ap (λ r. client_of_some seats (focus_if (may_focus (past_of es) y) r)) e

-- a channel responds if it has no oldest message, or is due
pub responds_by : (es : List Effect) (c : ℕ) (seq due : Option ℕ) → seq ≡ option_map (λ m. m.seq) (oldest es c) → due ≡ due_moment es c
    → (not (is_some seq) || is_some due) ≡ responds es c
responds_by es c seq due e d =
    ap₂ (λ s t. not (is_some s) || is_some t) e d ∙ by_oldest (able es c) (oldest es c)
  where
    by_oldest : (b : Bool) (o : Option Message)
        → (not (is_some (option_map (λ m. m.seq) o)) || is_some (cond b (option_map (λ m. delivery es c m.seq + limit_of (past_of es) c) o) None)) ≡ (b || not (is_some o))
    by_oldest true None = refl
    by_oldest false None = refl
    by_oldest true (Some m) = refl
    by_oldest false (Some m) = refl
