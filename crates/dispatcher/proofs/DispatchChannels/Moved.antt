-- Channels are changed one after another: those of a mask that are not in the rest of it.
use Rattle.std.proofs.Common.{◌≡◌, ◌≢◌, ℕ, ◌-◌, ◌≤◌, ◌==◌, Bool, true, false, not, ◌&&◌, cond, List, length, set, Option, None, refl, sym, ap, ap₂, ◌∙◌, arith, inl, inr}
use Rattle.std.proofs.lemmas.Bool.{cases_eq, eq-eqb, ne_eqb}
use Rattle.dispatcher.specs.InputChannel.State.{ChannelState}
use Rattle.dispatcher.specs.AnrTracker.Due.{due_of}
use Rattle.dispatcher.proofs.AnrTracker.Firsts.{due-set_same, due-set_other}
use Rattle.window_snapshot.specs.Mask.{mask_has, mask_with}
use Rattle.window_snapshot.proofs.Masks.{mask_has-zero}
use Rattle.dispatcher.specs.DispatchTables.Masks.{mask_less}
use Rattle.dispatcher.specs.DispatchChannels.Table.{channel_in}
use Rattle.dispatcher.proofs.DispatchChannels.Picking.{channel_low, channel_high, has-without}
use Rattle.dispatcher.proofs.DispatchChannels.Wholes.{channel_set_same, channel_set_other}

-- a channel of a mask was reached, with this rest of the mask left
abbrev pub reached : (mask rest c : ℕ) → Bool
reached mask rest c = mask_has mask c && not (mask_has rest c)

-- none was reached at first
and_not : (b : Bool) → (b && not b) ≡ false
and_not true = refl
and_not false = refl

pub none_reached : (mask c : ℕ) → reached mask mask c ≡ false
none_reached mask c = and_not (mask_has mask c)

-- each of the mask is in the end
and_not_false : (b : Bool) → (b && not false) ≡ b
and_not_false true = refl
and_not_false false = refl

pub all_reached : (mask c : ℕ) → reached mask 0 c ≡ mask_has mask c
all_reached mask c = ap (λ t. mask_has mask c && not t) (mask_has-zero c) ∙ and_not_false (mask_has mask c)

-- a channel of the rest was not reached, and is next
not_reached : (mask rest k : ℕ) → mask_has rest k ≡ true → reached mask rest k ≡ false
not_reached mask rest k e = ap (λ t. mask_has mask k && not t) e ∙ away (mask_has mask k)
  where
    away : (b : Bool) → (b && false) ≡ false
    away true = refl
    away false = refl

reached_next : (mask rest k : ℕ) → mask_has mask k ≡ true → mask_has rest k ≡ true → reached mask (mask_less rest (mask_with 0 k)) k ≡ true
reached_next mask rest k is e =
    ap₂ (λ a t. a && not t) is (has-without rest rest k k e ∙ ap₂ (λ a t. a && not t) e (eq-eqb k k refl))

reached_other : (mask rest k c : ℕ) → mask_has rest k ≡ true → c ≢ k → reached mask (mask_less rest (mask_with 0 k)) c ≡ reached mask rest c
reached_other mask rest k c e ne =
    ap (λ t. mask_has mask c && not t) (has-without rest rest k c e ∙ ap (λ t. mask_has rest c && not t) (ne_eqb c k ne) ∙ and_not_false (mask_has rest c))

-- what is left of the rest is of the mask
pub rest_within : (mask rest k : ℕ) → mask_has rest k ≡ true → ((c : ℕ) → mask_has rest c ≡ true → mask_has mask c ≡ true)
    → (c : ℕ) → mask_has (mask_less rest (mask_with 0 k)) c ≡ true → mask_has mask c ≡ true
rest_within mask rest k e h c has = h c (left (mask_has rest c) (c == k) (sym (has-without rest rest k c e) ∙ has))
  where
    left : (a b : Bool) → (a && not b) ≡ true → a ≡ true
    left true b t = refl
    left false b t = t

-- the channel that is next is as it was at first
pub still : (f : ChannelState → ChannelState) (mask rest k : ℕ) (old now : List ChannelState) → mask_has rest k ≡ true
    → ((c : ℕ) → 1 ≤ c → channel_in now c ≡ cond (reached mask rest c) (f (channel_in old c)) (channel_in old c))
    → channel_in now k ≡ channel_in old k
still f mask rest k old now e h =
    h k (channel_low rest k e) ∙ ap (λ b. cond b (f (channel_in old k)) (channel_in old k)) (not_reached mask rest k e)

-- it is changed
pub changed_next : (f : ChannelState → ChannelState) (mask rest k : ℕ) (old now : List ChannelState)
    → mask_has rest k ≡ true → mask_has mask k ≡ true → k ≤ length now
    → ((c : ℕ) → 1 ≤ c → channel_in now c ≡ cond (reached mask rest c) (f (channel_in old c)) (channel_in old c))
    → (c : ℕ) → 1 ≤ c
    → channel_in (set now (k - 1) (f (channel_in now k))) c
    ≡ cond (reached mask (mask_less rest (mask_with 0 k)) c) (f (channel_in old c)) (channel_in old c)
changed_next f mask rest k old now e is high h c from =
    let low : 1 ≤ k = channel_low rest k e in
    elim (cases_eq c k) [
      | inl same ↦
          ap (channel_in (set now (k - 1) (f (channel_in now k)))) same
          ∙ channel_set_same now k (f (channel_in now k)) low high
          ∙ ap f (still f mask rest k old now e h)
          ∙ ap (λ m. f (channel_in old m)) (sym same)
          ∙ sym (ap (λ b. cond b (f (channel_in old c)) (channel_in old c))
          (ap (reached mask (mask_less rest (mask_with 0 k))) same ∙ reached_next mask rest k is e))
      | inr ne ↦
          channel_set_other now k c (f (channel_in now k)) low from ne
          ∙ h c from
          ∙ sym (ap (λ b. cond b (f (channel_in old c)) (channel_in old c)) (reached_other mask rest k c e ne))
    ]

-- a due is cleared
pub cleared_next : (mask rest k : ℕ) (old now : List (Option ℕ)) → mask_has rest k ≡ true → mask_has mask k ≡ true → length now ≡ 64
    → ((c : ℕ) → due_of now c ≡ cond (reached mask rest c) None (due_of old c))
    → (c : ℕ) → due_of (set now (k - 1) None) c ≡ cond (reached mask (mask_less rest (mask_with 0 k)) c) None (due_of old c)
cleared_next mask rest k old now e is places h c =
    let low : 1 ≤ k = channel_low rest k e in
    elim (cases_eq c k) [
      | inl same ↦
          ap (due_of (set now (k - 1) None)) same
          ∙ due-set_same now k None low (omega (arith, places, channel_high rest k e))
          ∙ sym (ap (λ b. cond b None (due_of old c)) (ap (reached mask (mask_less rest (mask_with 0 k))) same ∙ reached_next mask rest k is e))
      | inr ne ↦
          due-set_other now k None low c ne
          ∙ h c
          ∙ sym (ap (λ b. cond b None (due_of old c)) (reached_other mask rest k c e ne))
    ]
