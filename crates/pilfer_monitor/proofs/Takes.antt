-- Changes that take, one after the other.
use Rattle.std.proofs.Common.{ℕ, zero, suc, ◌+◌, ◌-◌, ◌<◌, ◌≤◌, ◌≡◌, ◌≢◌, ◌⊎◌, ◌&&◌, ◌||◌, ◌==◌, nat_lt, nat_le, not, Bool, true, false, List, length, set, get_or, replicate, if◌then◌else◌, refl, sym, ap, ap₂, ◌∙◌, inl, inr, arith}
use Rattle.std.proofs.lemmas.Bool.{cases_Bool, cases_eq, cases_lt, eq-eqb, ne_eqb, both_ways, le-leb, lt-leb, leb-true, ltb-true, and_parts, true≢false}
use Rattle.std.proofs.lemmas.Nat.Bits.{bit_at-zero}
use Rattle.bits32.specs.Set.{is_in}
use Rattle.window_snapshot.specs.Mask.{is_channel}
use Rattle.touch_state.specs.declared.row.Row.{Row}
use Rattle.touch_state.specs.Rows.{no_row, row_of}
use Rattle.touch_state.specs.Touches.{Touches, held, since, pilfering, holds, any, Changes, none, nobody}
use Rattle.touch_state.proofs.Sets.{none_in, not_empty, and_true, and_false}
use Rattle.pilfer_monitor.specs.Pilfer.{pilfered, set_of}
use Rattle.pilfer_monitor.proofs.Tables.{set_of-set}

-- a window that holds nothing has no ids
nothing_held : (t : Touches) (w i : ℕ) → any t w ≡ false → holds t w i ≡ false
nothing_held t w i n =
    elim (cases_Bool (holds t w i)) [
      | inl h ↦ absurd (both_ways (any t w) n (ap not (not_empty i (held t w) h)))
      | inr f ↦ f
    ]

-- if nothing is given, a window that holds something held something
pub any_before : (a b : Touches) (takes : ℕ → ℕ → Bool) (place : ℕ) (p : ℕ → Bool) → Changes a b none takes place p → (w : ℕ) → any b w ≡ true → any a w ≡ true
any_before a b takes place p c w h =
    elim (cases_Bool (any a w)) [
      | inl t ↦ t
      | inr n ↦ absurd (both_ways (any b w) (ap (λ x. not (x == 0)) (none_in (held b w) (λ i. c.hold w i ∙ ap (λ x. x && not (takes w i)) (nothing_held a w i n)))) h)
    ]

-- nothing changes if what is taken is not held
pub unchanged : (t : Touches) (takes : ℕ → ℕ → Bool) → ((w : ℕ) → pilfering t w ≡ true → any t w ≡ true)
    → ((w i : ℕ) → holds t w i ≡ true → takes w i ≡ false) → (place : ℕ) → Changes t t none takes place nobody
unchanged t takes within free place =
    record {
      device = refl;
      hold = λ w i. stays (holds t w i) (takes w i) (free w i);
      began = λ w. ap (λ b. if b then place else since t w) (sym (both (any t w)));
      pilfer = λ w. alike (pilfering t w) (any t w) (within w);
    }
  where
    stays : (h t : Bool) → (h ≡ true → t ≡ false) → h ≡ (h && not t)
    stays true t f = rw (f refl) refl
    stays false t f = refl

    both : (b : Bool) → (b && not b) ≡ false
    both true = refl
    both false = refl

    alike : (p a : Bool) → (p ≡ true → a ≡ true) → p ≡ (a && p)
    alike true a f = rw (f refl) refl
    alike false a f = sym (and_false a)

-- the same change, stated in another way
pub resent : (a b : Touches) (takes others : ℕ → ℕ → Bool) (place : ℕ) (p : ℕ → Bool) → ((w i : ℕ) → holds a w i ≡ true → takes w i ≡ others w i)
    → Changes a b none takes place p → Changes a b none others place p
resent a b takes others place p same c =
    record { device = c.device; hold = λ w i. c.hold w i ∙ alike (holds a w i) (takes w i) (others w i) (same w i); began = c.began; pilfer = c.pilfer }
  where
    alike : (h t u : Bool) → (h ≡ true → t ≡ u) → (h && not t) ≡ (h && not u)
    alike true t u f = ap not (f refl)
    alike false t u f = refl

-- two changes, the second of which begins nothing
pub two_changes : (a b c : Touches) (first second all : ℕ → ℕ → Bool) (p : ℕ → Bool)
    → ((place : ℕ) → Changes a b none first place p) → ((place : ℕ) → Changes b c none second place nobody)
    → ((w i : ℕ) → holds a w i ≡ true → (first w i || second w i) ≡ all w i) → (place : ℕ) → Changes a c none all place p
two_changes a b c first second all p f s together place =
    record {
      device = (s place).device ∙ (f place).device;
      hold = λ w i.
          (s place).hold w i ∙ ap (λ h. h && not (second w i)) ((f place).hold w i) ∙ joined (holds a w i) (first w i) (second w i) (all w i) (together w i);
      began = λ w.
          (s place).began w ∙ ap (λ x. if any c w && not (any b w) then place else x) ((f place).began w)
          ∙ later (any a w) (any b w) (any c w) (since a w) (any_before a b first place p (f place) w) (any_before b c second place nobody (s place) w);
      pilfer = λ w.
          (s place).pilfer w ∙ ap (λ x. any c w && x) ((f place).pilfer w)
          ∙ within (any b w) (any c w) (p w || pilfering a w) (any_before b c second place nobody (s place) w);
    }
  where
    joined : (h t u v : Bool) → (h ≡ true → (t || u) ≡ v) → (h && not t && not u) ≡ (h && not v)
    joined true true u v e = rw (sym (e refl)) refl
    joined true false u v e = rw (sym (e refl)) refl
    joined false t u v e = refl

    later : (x y z : Bool) (n : ℕ) → (y ≡ true → x ≡ true) → (z ≡ true → y ≡ true)
        → (if z && not y then place else (if y && not x then place else n)) ≡ (if z && not x then place else n)
    later true true true n yx zy = refl
    later true true false n yx zy = refl
    later true false true n yx zy = absurd (true≢false (sym (zy refl)))
    later true false false n yx zy = refl
    later false true z n yx zy = absurd (true≢false (sym (yx refl)))
    later false false true n yx zy = absurd (true≢false (sym (zy refl)))
    later false false false n yx zy = refl

    within : (y z q : Bool) → (z ≡ true → y ≡ true) → (z && (y && q)) ≡ (z && q)
    within y true q e = rw (e refl) refl
    within y false q e = refl

-- a window that holds something has the number of a channel
held_low : (t : Touches) (w i : ℕ) → holds t w i ≡ true → (0 < w) × (w ≤ 64)
held_low t w i h =
    elim (cases_Bool (is_channel w)) [
      | inl c ↦
          let p = and_parts (nat_lt 0 w) (nat_le w 64) c in
          (ltb-true 0 w p.0, leb-true w 64 p.1)
      | inr n ↦
          let row : row_of t.rows w ≡ no_row = ap (λ b. if b then get_or t.rows (w - 1) no_row else no_row) n in
          let nothing : is_in i 0 ≡ false = rw (bit_at-zero i) refl in
          absurd (both_ways (holds t w i) (ap (λ (r : Row). is_in i r.ids) row ∙ nothing) h)
    ]

-- up to none, and up to all
pub none_reached : (t : Touches) (w i : ℕ) (q : Bool) → holds t w i ≡ true → false ≡ (nat_le w 0 && q)
none_reached t w i q h = let p = held_low t w i h in rw (lt-leb w 0 p.0) refl

pub all_reached : (t : Touches) (w i k : ℕ) (q : Bool) → 64 ≤ k → holds t w i ≡ true → (nat_le w k && q) ≡ q
all_reached t w i k q le h = let p = held_low t w i h in rw (le-leb w k (omega (arith, le, p.1))) refl

pub same_reached : (w k : ℕ) → w ≢ k + 1 → nat_le w k ≡ nat_le w (k + 1)
same_reached w k n =
    elim (cases_lt k w) [
      | inl above ↦
          let over : k + 1 < w = elim (cases_lt (k + 1) w) [ inl l ↦ l | inr le ↦ absurd (n (omega (arith, above, le))) ] in
          rw (lt-leb w k above, lt-leb w (k + 1) over) refl
      | inr low ↦ rw (le-leb w k low, le-leb w (k + 1) (omega (arith, low))) refl
    ]

-- one window further
pub one_reached : (w k : ℕ) (q : Bool) → (nat_le w k && q || (w == k + 1 && q)) ≡ (nat_le w (k + 1) && q)
one_reached w k q =
    elim (cases_eq w (k + 1)) [
      | inl e ↦ rw (eq-eqb w (k + 1) e, lt-leb w k (omega (arith, e)), le-leb w (k + 1) (omega (arith, e))) refl
      | inr n ↦ rw (ne_eqb w (k + 1) n, same_reached w k n) (or_false (nat_le w (k + 1) && q))
    ]
  where
    or_false : (b : Bool) → (b || false) ≡ b
    or_false true = refl
    or_false false = refl

-- a window that is not the spy
pub not_the_spy : (channel spy ids : ℕ) → channel ≢ spy → (w i : ℕ) → (w == channel && is_in i ids) ≡ (w == channel && (not (w == spy) && is_in i ids))
not_the_spy channel spy ids d w i =
    elim (cases_eq w channel) [
      | inl e ↦ rw (ne_eqb w spy (λ s. d (sym e ∙ s))) refl
      | inr n ↦ rw (ne_eqb w channel n) refl
    ]

-- the table before the first window
pub nothing_lost : (n k : ℕ) → n ≡ 0 → (t : Touches) (w i : ℕ) (q : Bool)
    → is_in i (set_of (replicate k n) w) ≡ (nat_le w 0 && (holds t w i && q))
nothing_lost n k e t w i q = empty (is_channel w) refl ∙ sym (unreached (holds t w i) refl)
  where
    at : (m j : ℕ) → get_or (replicate m n) j 0 ≡ 0
    at zero j = refl
    at (suc m) zero = e
    at (suc m) (suc j) = at m j

    empty : (c : Bool) → is_channel w ≡ c → is_in i (set_of (replicate k n) w) ≡ false
    empty true c = rw c (ap (is_in i) (at k (w - 1)) ∙ (rw (bit_at-zero i) refl))
    empty false c = rw c (rw (bit_at-zero i) refl)

    unreached : (h : Bool) → holds t w i ≡ h → (nat_le w 0 && (h && q)) ≡ false
    unreached true h = sym (none_reached t w i q h)
    unreached false h = and_false (nat_le w 0)

-- the table with one window more
pub one_lost : (old now : Touches) (lost : List ℕ) (result spy ids k : ℕ) → length lost ≡ 64 → k < 64 → ids ≡ held old spy
    → ((w i : ℕ) → holds now w i ≡ (holds old w i && not (nat_le w k && pilfered old spy w i)))
    → ((i : ℕ) → is_in i result ≡ (holds now (k + 1) i && (not (k + 1 == spy) && is_in i ids)))
    → ((w i : ℕ) → is_in i (set_of lost w) ≡ (nat_le w k && (holds old w i && pilfered old spy w i)))
    → (w i : ℕ) → is_in i (set_of (set lost k result) w) ≡ (nat_le w (k + 1) && (holds old w i && pilfered old spy w i))
one_lost old now lost result spy ids k whole lt same left one before w i =
    ap (is_in i) (set_of-set lost k result whole lt w) ∙ by_window (cases_eq w (k + 1))
  where
    by_window : (w ≡ k + 1) ⊎ (w ≢ k + 1) → is_in i (if w == k + 1 then result else set_of lost w) ≡ (nat_le w (k + 1) && (holds old w i && pilfered old spy w i))
    by_window (inl e) =
        rw (eq-eqb w (k + 1) e, le-leb w (k + 1) (omega (arith, e)))
        (one i
        ∙ ap₂ (λ h s. h && (not (k + 1 == spy) && s)) (left (k + 1) i ∙ (rw (lt-leb (k + 1) k (omega arith)) (sym (and_true (holds old (k + 1) i))))) (ap (is_in i) same)
        ∙ ap (λ v. holds old v i && pilfered old spy v i) (sym e))
    by_window (inr n) = rw (ne_eqb w (k + 1) n) (before w i ∙ ap (λ b. b && (holds old w i && pilfered old spy w i)) (same_reached w k n))

-- the whole table
pub all_lost : (old : Touches) (lost spy k : ℕ) (w i : ℕ) → 64 ≤ k → is_in i lost ≡ (nat_le w k && (holds old w i && pilfered old spy w i))
    → is_in i lost ≡ (holds old w i && pilfered old spy w i)
all_lost old lost spy k w i le e = e ∙ by_held (holds old w i) refl
  where
    by_held : (h : Bool) → holds old w i ≡ h → (nat_le w k && (h && pilfered old spy w i)) ≡ (h && pilfered old spy w i)
    by_held true h = all_reached old w i k (pilfered old spy w i) le h
    by_held false h = and_false (nat_le w k)
