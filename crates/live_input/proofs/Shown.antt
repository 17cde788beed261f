-- The windows of clients that are open are those of channels that are held.
use Rattle.std.proofs.Common.{◌≡◌, ℕ, ◌+◌, ◌<◌, ◌≤◌, ◌==◌, ◌&&◌, ◌||◌, Bool, true, false, not, cond, List, [], ◌∷◌, length, map, Option, Some, None, refl, sym, ap, ◌∙◌, subst, inl, inr, arith}
use Rattle.std.specs.List.{list_all, position_or_len}
use Rattle.std.proofs.lemmas.Bool.{and_parts, cases_Bool, eqb-true, lt-ltb, true≢false}
use Rattle.window_snapshot.specs.Named.{is_named}
use Rattle.live_input.specs.declared.client.Client.{Client}
use Rattle.live_input.specs.declared.client.Seat.{Seat}
use Rattle.live_input.specs.Showing.{channel_of, may_ask}
use Rattle.live_input.specs.declared.windows.ClientWindow.{ClientWindow}
use Rattle.live_input.specs.Seats.{IsHeld}
use Rattle.live_input.specs.Standing.{AreOfHeld, IsOfSome}
use Rattle.live_input.specs.Windows.{first_stale, number_of, window_of}
use Rattle.live_input.proofs.Opened.{open_held}

all_or_some : (p : ClientWindow → Bool) (ws : List ClientWindow) → list_all p ws ≡ false → position_or_len (λ w. not (p w)) ws < length ws
all_or_some p [] e = absurd (true≢false e)
all_or_some p (w ∷ ws) e = by_test (p w) refl (λ k. all_or_some p ws k)
  where
    by_test : (b : Bool) → p w ≡ b → (list_all p ws ≡ false → position_or_len (λ w. not (p w)) ws < length ws)
        → cond (not (not b)) (1 + position_or_len (λ w. not (p w)) ws) 0 < length (w ∷ ws)
    by_test true x more = let y = more (sym (ap (λ b. b && list_all p ws) x) ∙ e) in omega (arith, y)
    by_test false x more = omega arith

-- none is stale: all are open
all_open : (seats : List Seat) (ws : List ClientWindow) → first_stale seats ws ≡ None → list_all (λ w. may_ask seats w.client) ws ≡ true
all_open seats ws e =
    elim (cases_Bool (list_all (λ w. may_ask seats w.client) ws)) [
      | inl y ↦ y
      | inr n ↦
          let some = lt-ltb (position_or_len (λ w. not (may_ask seats w.client)) ws) (length ws) (all_or_some (λ w. may_ask seats w.client) ws n) in
          absurd (some≢none _ (sym (ap (λ b. cond b (Some (position_or_len (λ w. not (may_ask seats w.client)) ws)) None) some) ∙ e))
    ]
  where
    some≢none : (k : ℕ) → Some k ≡ None → ⊥
    some≢none k e = cc

pub windows_held : (seats : List Seat) (ws : List ClientWindow) → first_stale seats ws ≡ None → AreOfHeld (map window_of ws) seats
windows_held seats ws e = each ws (all_open seats ws e)
  where
    own : (client : Option Client) (y c : ℕ) → c ≤ 64 → may_ask seats client ≡ true → number_of client y ≡ c → IsHeld c seats
    own None y c low may same = absurd (omega (arith, low, same))
    own (Some k) y c low may same = subst (λ d. IsHeld d seats) same (open_held seats k may)

    each : (ws : List ClientWindow) → list_all (λ w. may_ask seats w.client) ws ≡ true → AreOfHeld (map window_of ws) seats
    each [] all c low named = absurd (true≢false (sym named))
    each (w ∷ ws) all c low named =
        let x = and_parts (may_ask seats w.client) (list_all (λ w. may_ask seats w.client) ws) all in
        elim (cases_Bool (number_of w.client w.info.display == c)) [
          | inl y ↦ own w.client w.info.display c low x.0 (eqb-true (number_of w.client w.info.display) c y)
          | inr n ↦ each ws x.1 c low (sym (ap (λ b. b || is_named (map window_of ws) c) n) ∙ named)
        ]

-- and so is the channel for which a client that is open requests
pub asks_held : (seats : List Seat) (client : Option Client) → may_ask seats client ≡ true → IsOfSome (channel_of client) seats
asks_held seats None e = tt
asks_held seats (Some k) e = open_held seats k e
