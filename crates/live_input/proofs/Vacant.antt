-- The first channel that no client holds.
use Rattle.std.proofs.Common.{◌≡◌, ℕ, ◌+◌, ◌-◌, ◌≤◌, ◌<◌, ◌&&◌, Bool, true, false, not, cond, List, [], ◌∷◌, length, slice_index_or, Option, Some, None, option_map, refl, sym, ap, ◌∙◌, subst, inl, inr, arith}
use Rattle.std.specs.List.{position, position_or_len}
use Rattle.std.proofs.lemmas.Bool.{and_parts, true≢false, cases_eq, cases_lt, not-true, not-false, lt-ltb, le-ltb}
use Rattle.std.proofs.lemmas.List.{get_or-set_same, get_or-set_other, length-set}
use Rattle.std.proofs.lemmas.List.Quantifiers.{position-Some}
use Rattle.dispatch_history.specs.Effect.{Effect, past_of}
use Rattle.dispatch_history.specs.History.{History, opened}
use Rattle.live_input.specs.declared.client.Seat.{Seat}
use Rattle.live_input.specs.Opening.{IsNext}
use Rattle.live_input.specs.Seats.{is_held, seat_of, vacant, first_vacant, is_full, with_seat}
use Rattle.live_input.specs.Standing.{AreSeated}

-- if all seats are held, no place is vacant
all_held : (seats : List Seat) → is_full seats ≡ true → position_or_len (λ s. not (is_held s)) seats ≡ length seats
all_held [] e = refl
all_held (s ∷ ss) e = let x = and_parts (is_held s) (is_full ss) e in by_seat (is_held s) x.0 (all_held ss x.1)
  where
    by_seat : (b : Bool) → b ≡ true → position_or_len (λ s. not (is_held s)) ss ≡ length ss
        → cond (not (not b)) (1 + position_or_len (λ s. not (is_held s)) ss) 0 ≡ length (s ∷ ss)
    by_seat true x more = omega (arith, more)
    by_seat false x more = absurd (true≢false (sym x))

-- and if one is not, some place is
some_vacant : (seats : List Seat) → is_full seats ≡ false → position_or_len (λ s. not (is_held s)) seats < length seats
some_vacant [] e = absurd (true≢false e)
some_vacant (s ∷ ss) e = by_seat (is_held s) refl (λ k. some_vacant ss k)
  where
    by_seat : (b : Bool) → is_held s ≡ b → (is_full ss ≡ false → position_or_len (λ s. not (is_held s)) ss < length ss)
        → cond (not (not b)) (1 + position_or_len (λ s. not (is_held s)) ss) 0 < length (s ∷ ss)
    by_seat true x more = let y = more (sym (ap (λ b. b && is_full ss) x) ∙ e) in omega (arith, y)
    by_seat false x more = omega arith

by_length : List Seat → Bool → Option ℕ
by_length seats b = option_map (λ i. i + 1) (cond b (Some (position_or_len (λ s. not (is_held s)) seats)) None)

pub none_vacant : (seats : List Seat) → is_full seats ≡ true → first_vacant seats ≡ None
unfolding by_length
none_vacant seats e =
    ap (by_length seats) (le-ltb (position_or_len (λ s. not (is_held s)) seats) (length seats) (omega (arith, all_held seats e)))

pub is_vacant : (seats : List Seat) → is_full seats ≡ false → (c : ℕ) × (first_vacant seats ≡ Some c)
unfolding by_length
is_vacant seats e = (
  position_or_len (λ s. not (is_held s)) seats + 1,
  ap (by_length seats) (lt-ltb (position_or_len (λ s. not (is_held s)) seats) (length seats) (some_vacant seats e)),
)

none≢some : (c : ℕ) → None ≡ Some c → ⊥
none≢some c e = cc

some_inj : (a b : ℕ) → Some a ≡ Some b → a ≡ b
some_inj a b e = cc

-- the place of the first vacant channel
vacant_position : (seats : List Seat) (o : Option ℕ) (c : ℕ) → option_map (λ i. i + 1) o ≡ Some c → (i : ℕ) × (o ≡ Some i) × (c ≡ i + 1)
vacant_position seats None c e = absurd (none≢some c e)
vacant_position seats (Some i) c e = (i, refl, sym (some_inj (i + 1) c e))

index : (c i : ℕ) → c ≡ i + 1 → i ≡ c - 1
index c i e = omega (arith, e)

-- it is one of the 64, it is not held, and each channel before it is
pub vacant_known : (seats : List Seat) (c : ℕ) → length seats ≡ 64 → first_vacant seats ≡ Some c
    → (1 ≤ c) × (c ≤ 64) × (is_held (seat_of seats c) ≡ false) × ((b : ℕ) → 1 ≤ b → b < c → is_held (seat_of seats b) ≡ true)
vacant_known seats c all e =
    let p = vacant_position seats (position (λ s. not (is_held s)) seats) c e in
    let i = p.0 in
    let at = p.2 in
    let x = position-Some (λ s. not (is_held s)) seats i vacant p.1 in
    let low = x.0 in (
      omega (arith, at),
      omega (arith, at, low, all),
      subst (λ k. is_held (slice_index_or seats k vacant) ≡ false) (index c i at) (not-true (is_held (slice_index_or seats i vacant)) x.1),
      λ b from before. not-false (is_held (slice_index_or seats (b - 1) vacant)) (x.2 (b - 1) (omega (arith, from, before, at))),
    )

-- the first vacant channel was opened, or is the first one that was not
pub vacant_next : (es : List Effect) (seats : List Seat) (c : ℕ) → AreSeated (past_of es) seats → first_vacant seats ≡ Some c → IsNext c es
vacant_next es seats c a e =
    let x = vacant_known seats c a.all e in
    record { from = x.0; to = x.1; next = by_first c x.0 x.1 x.3 }
  where
    by_first : (c : ℕ) → 1 ≤ c → c ≤ 64 → ((b : ℕ) → 1 ≤ b → b < c → is_held (seat_of seats b) ≡ true) → c ≤ opened (past_of es) + 1
    by_first c from to before =
        elim (cases_lt 1 c) [
          | inl more ↦
              let low : 1 ≤ c - 1 = omega (arith, more) in
              let high : c - 1 ≤ 64 = omega (arith, to) in
              let x = a.held (c - 1) low high (before (c - 1) low (omega (arith, more))) in
              omega (arith, x)
          | inr one ↦ omega (arith, one)
        ]

-- a seat is changed: that of the channel is the new one, and the others stay
pub seat_set : (seats : List Seat) (c : ℕ) (s : Seat) → length seats ≡ 64 → 1 ≤ c → c ≤ 64 → seat_of (with_seat c s seats) c ≡ s
seat_set seats c s all from to = get_or-set_same seats (c - 1) s vacant (omega (arith, from, to, all))

pub seat_stays : (seats : List Seat) (c d : ℕ) (s : Seat) → 1 ≤ c → 1 ≤ d → (d ≡ c → ⊥) → seat_of (with_seat c s seats) d ≡ seat_of seats d
seat_stays seats c d s from low other =
    get_or-set_other seats (c - 1) (d - 1) s vacant (λ e. other (omega (arith, e, from, low)))

-- the seats after that of a channel that was opened is changed
pub seated : (h : History) (seats : List Seat) (c : ℕ) (s : Seat) → AreSeated h seats → 1 ≤ c → c ≤ 64 → c ≤ opened h → AreSeated h (with_seat c s seats)
seated h seats c s a from to high =
    record {
      all = length-set seats (c - 1) s ∙ a.all;
      lives = a.lives;
      held = λ d low up is. elim (cases_eq d c) [
        | inl e ↦ subst (λ n. n ≤ opened h) (sym e) high
        | inr ne ↦ a.held d low up (ap is_held (sym (seat_stays seats c d s from low ne)) ∙ is)
      ];
    }
