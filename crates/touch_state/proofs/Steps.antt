-- How a change of the table changes the state.
use Rattle.std.proofs.Common.{ℕ, zero, suc, ◌-◌, ◌<◌, ◌≡◌, ◌≢◌, ◌&&◌, ◌||◌, ◌==◌, min, not, Bool, true, false, ◌⊎◌, List, replicate, get_or, if◌then◌else◌, refl, sym, ap, ◌∙◌, subst, inl, inr, arith}
use Rattle.std.specs.Prelude.{bit_and}
use Rattle.std.specs.Int.{bit_at}
use Rattle.std.proofs.lemmas.Bool.{cases_Bool, cases_eq, and_parts, eq-eqb, ne_eqb, eqb-true, both_ways}
use Rattle.std.proofs.lemmas.Nat.Bits.{bit_at_and, bit_at-lt, bit_at-zero}
use Rattle.std.proofs.Math.Nat.{zero-min}
use Rattle.bits32.specs.Set.{is_in}
use Rattle.bits32.proofs.Members.{is_in_marked}
use Rattle.window_snapshot.specs.Mask.{is_channel, mask_has, mask_with}
use Rattle.touch_state.specs.declared.row.Row.{Row}
use Rattle.touch_state.specs.Rows.{no_row, row_of, after_give, left_with, IsTaken, IsSlipped, AreHolders}
use Rattle.touch_state.specs.Touches.{Touches, holds, any, since, pilfering, Changes, none, everything, nobody}
use Rattle.touch_state.proofs.Passes.{noted_one}
use Rattle.touch_state.proofs.Sets.{and_true, and_false, none_in, marked_some}

both_bits : (a b : ℕ) → a < 2 → b < 2 → (min a b == 1) ≡ ((a == 1) && (b == 1))
both_bits zero b x y = rw (zero-min b) refl
both_bits (suc zero) zero x y = refl
both_bits (suc zero) (suc zero) x y = refl
both_bits (suc zero) (suc (suc b)) x y = absurd (omega (arith, y))
both_bits (suc (suc a)) b x y = absurd (omega (arith, x))

-- what is in both of two masks
pub mask_has-and : (a b w : ℕ) → mask_has (bit_and a b) w ≡ (mask_has a w && mask_has b w)
mask_has-and a b w =
    ap (λ n. is_channel w && (n == 1)) (bit_at_and a b (w - 1))
    ∙ ap (λ t. is_channel w && t) (both_bits (bit_at a (w - 1)) (bit_at b (w - 1)) (bit_at-lt a (w - 1)) (bit_at-lt b (w - 1)))
    ∙ share (is_channel w) (bit_at a (w - 1) == 1) (bit_at b (w - 1) == 1)
  where
    share : (c x y : Bool) → (c && (x && y)) ≡ ((c && x) && (c && y))
    share true x y = refl
    share false x y = refl

-- the tables after a change of the rows
pub kept_after : (rows : List Row) (holders pilferers : ℕ) → ((w : ℕ) → mask_has holders w ≡ not ((row_of rows w).ids == 0))
    → AreHolders rows holders (bit_and pilferers holders)
kept_after rows holders pilferers are =
    record {
      hold = are;
      pilfer = λ w h. (and_parts (mask_has pilferers w) (mask_has holders w) (sym (mask_has-and pilferers holders w) ∙ h)).1;
    }

-- how a row changes if its window is given these ids and loses those, at an index
pub record Turns (old new : Row) (gives takes : ℕ → Bool) (place : ℕ) : Type 0 where
  pub ids : (i : ℕ) → is_in i new.ids ≡ (gives i || is_in i old.ids && not (takes i))
  pub since : new.since ≡ (if not (new.ids == 0) && not (not (old.ids == 0)) then place else old.since)

-- rows that change so change the state so
pub changes : (old : Touches) (rows : List Row) (holders : ℕ) (gives takes : ℕ → ℕ → Bool) (place : ℕ)
    → ((w : ℕ) → mask_has holders w ≡ not ((row_of rows w).ids == 0))
    → ((w : ℕ) → Turns (row_of old.rows w) (row_of rows w) (gives w) (takes w) place)
    → Changes old (record { device = old.device; rows = rows; pilferers = bit_and old.pilferers holders }) gives takes place nobody
changes old rows holders gives takes place are turns =
    record {
      device = refl;
      hold = λ w i. (turns w).ids i;
      began = λ w. (turns w).since;
      pilfer = λ w. mask_has-and old.pilferers holders w ∙ ap (λ b. mask_has old.pilferers w && b) (are w) ∙ swap (mask_has old.pilferers w) (not ((row_of rows w).ids == 0));
    }
  where
    swap : (x y : Bool) → (x && y) ≡ (y && x)
    swap true true = refl
    swap true false = refl
    swap false true = refl
    swap false false = refl

-- nothing begins if nothing is given
not_begun : (x y : Bool) → (x ≡ true → y ≡ true) → (x && not y) ≡ false
not_begun true y e = rw (e refl) refl
not_begun false y e = refl

pub given_turns : (hit : Bool) (id place : ℕ) (row : Row) → Turns row (after_give hit id place row) (λ i. hit && i == id) (λ i. false) place
given_turns true id place row =
    record {
      ids = λ i. is_in_marked i id row.ids ∙ ap (λ b. i == id || b) (and_true (is_in i row.ids));
      since = rw (marked_some id row.ids) (twice (row.ids == 0));
    }
  where
    twice : (b : Bool) → (if b then place else row.since) ≡ (if not (not b) then place else row.since)
    twice true = refl
    twice false = refl
given_turns false id place row =
    record {
      ids = λ i. and_true (is_in i row.ids);
      since = rw (not_begun (not (row.ids == 0)) (not (row.ids == 0)) (λ e. e)) refl;
    }

pub taken_turns : (takes : ℕ → Bool) (old new : Row) (place : ℕ) → IsTaken takes old new → Turns old new (λ i. false) takes place
taken_turns takes old new place t =
    record {
      ids = t.ids;
      since = t.since ∙ ap (λ b. if b then place else old.since) (sym (not_begun (not (new.ids == 0)) (not (old.ids == 0)) still));
    }
  where
    none_left : old.ids ≡ 0 → new.ids ≡ 0
    none_left e = none_in new.ids (λ i. t.ids i ∙ (rw (e, bit_at-zero i) refl))

    still : not (new.ids == 0) ≡ true → not (old.ids == 0) ≡ true
    still h =
        elim (cases_Bool (old.ids == 0)) [
          | inl e ↦ absurd (both_ways (not (new.ids == 0)) (ap not (eq-eqb new.ids 0 (none_left (eqb-true old.ids 0 e)))) h)
          | inr n ↦ ap not n
        ]

pub slipped_turns : (from to : Bool) (id place : ℕ) (old new : Row) → IsSlipped from to id place old new
    → Turns old new (λ i. to && i == id) (λ i. from && i == id) place
slipped_turns from true id place old new e =
    subst (λ r. Turns old r (λ i. true && i == id) (λ i. from && i == id) place) (sym e)
    (let g : Turns old (after_give true id place old) (λ i. true && i == id) (λ i. false) place = given_turns true id place old in
    record { ids = λ i. g.ids i ∙ but (i == id) from (is_in i old.ids); since = g.since })
  where
    but : (x f y : Bool) → (x || y && not false) ≡ (x || y && not (f && x))
    but true f y = refl
    but false true y = refl
    but false false y = refl
slipped_turns from false id place old new t = taken_turns (λ i. from && i == id) old new place t

pub emptied_turns : (row : Row) (place : ℕ) → Turns row (left_with 0 row) (λ i. false) (λ i. true) place
emptied_turns row place =
    record {
      ids = λ i. rw (bit_at-zero i) (sym (and_false (is_in i row.ids)));
      since = refl;
    }

or_true : (b : Bool) → (b || true) ≡ true
or_true true = refl
or_true false = refl

or_false_of : (b : Bool) → (b || false) ≡ true → b ≡ true
or_false_of true e = refl
or_false_of false e = e

within : (p a : Bool) → (p ≡ true → a ≡ true) → (p || false) ≡ (a && p)
within true a f = rw (f refl) refl
within false a f = sym (and_false a)

-- a window that pilfers from now on
pub pilfers_more : (old : Touches) (holders c : ℕ) → AreHolders old.rows holders old.pilferers → is_channel c ≡ true → any old c ≡ true → (place : ℕ)
    → Changes old (record { device = old.device; rows = old.rows; pilferers = mask_with old.pilferers c }) none none place (λ w. w == c)
pilfers_more old holders c k channel h place =
    record {
      device = refl;
      hold = λ w i. and_true (holds old w i);
      began = λ w. ap (λ b. if b then place else since old w) (sym (not_begun (any old w) (any old w) (λ e. e)));
      pilfer = λ w. noted_one old.pilferers c channel w ∙ by_window w (cases_eq w c);
    }
  where
    by_window : (w : ℕ) → (w ≡ c) ⊎ (w ≢ c) → (mask_has old.pilferers w || (w == c && true)) ≡ (any old w && (w == c || pilfering old w))
    by_window w (inl e) = rw (ap (any old) e ∙ h, eq-eqb w c e) (or_true (mask_has old.pilferers w))
    by_window w (inr n) = rw (ne_eqb w c n) (within (mask_has old.pilferers w) (any old w) (λ p. sym (k.hold w) ∙ k.pilfer w p))

pub kept_pilferer : (rows : List Row) (holders pilferers c : ℕ) → AreHolders rows holders pilferers → is_channel c ≡ true → not ((row_of rows c).ids == 0) ≡ true
    → AreHolders rows holders (mask_with pilferers c)
kept_pilferer rows holders pilferers c k channel h =
    record {
      hold = k.hold;
      pilfer = λ w p. by_window w (cases_eq w c) p;
    }
  where
    by_window : (w : ℕ) → (w ≡ c) ⊎ (w ≢ c) → mask_has (mask_with pilferers c) w ≡ true → mask_has holders w ≡ true
    by_window w (inl e) p = k.hold w ∙ ap (λ v. not ((row_of rows v).ids == 0)) e ∙ h
    by_window w (inr n) p =
        k.pilfer w (or_false_of (mask_has pilferers w) (sym (ap (λ b. mask_has pilferers w || (b && true)) (ne_eqb w c n)) ∙ sym (noted_one pilferers c channel w) ∙ p))

pub empty_mask : (w : ℕ) → mask_has 0 w ≡ false
empty_mask w = rw (bit_at-zero (w - 1)) (and_false (is_channel w))

-- tables of nothing
pub nobody_kept : (rows : List Row) → ((w : ℕ) → (row_of rows w).ids ≡ 0) → AreHolders rows 0 0
nobody_kept rows none =
    record {
      hold = λ w. none_in_mask w ∙ sym (ap (λ n. not (n == 0)) (none w));
      pilfer = λ w p. p;
    }
  where
    none_in_mask : (w : ℕ) → mask_has 0 w ≡ false
    none_in_mask w = rw (bit_at-zero (w - 1)) (and_false (is_channel w))

pub emptied : (old : Touches) (rows : List Row) (place : ℕ) → ((w : ℕ) → row_of rows w ≡ left_with 0 (row_of old.rows w))
    → Changes old (record { device = old.device; rows = rows; pilferers = 0 }) none everything place nobody
emptied old rows place are =
    record {
      device = refl;
      hold = λ w i. (turns w).ids i;
      began = λ w. (turns w).since;
      pilfer = λ w. rw (bit_at-zero (w - 1)) (and_false (is_channel w) ∙ sym (ap (λ (r : Row). not (r.ids == 0) && pilfering old w) (are w)));
    }
  where
    turns : (w : ℕ) → Turns (row_of old.rows w) (row_of rows w) (λ i. false) (λ i. true) place
    turns w = subst (λ r. Turns (row_of old.rows w) r (λ i. false) (λ i. true) place) (sym (are w)) (emptied_turns (row_of old.rows w) place)

-- the rows of a new table
pub new_row : (row : Row) → row ≡ no_row → (k w : ℕ) → row_of (replicate k row) w ≡ no_row
new_row row e k w = by_channel (is_channel w) refl
  where
    at : (n i : ℕ) → get_or (replicate n row) i no_row ≡ no_row
    at zero i = refl
    at (suc n) zero = e
    at (suc n) (suc i) = at n i

    by_channel : (c : Bool) → is_channel w ≡ c → row_of (replicate k row) w ≡ no_row
    by_channel true q = rw q (at k (w - 1))
    by_channel false q = rw q refl
