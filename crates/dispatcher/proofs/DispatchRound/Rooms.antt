-- Room is made in one channel after another.
use Rattle.std.proofs.Common.{◌≡◌, ◌≢◌, ◌&&◌, false, ◌∙◌, ℕ, zero, suc, ◌+◌, ◌-◌, ◌≤◌, max, List, [], ◌∷◌, length, map, get_or, set, Option, Some, None, true, refl, sym, ap, ap₂, ◌∙◌, subst, arith, inl, inr}
use Rattle.std.proofs.lemmas.Bool.{cases_eq, and_parts, both_ways}
use Rattle.std.proofs.lemmas.List.{get_or-set_same, get_or-set_other}
use Rattle.std.specs.Option.{option_copied}
use Rattle.dispatcher.specs.InputChannel.State.{ChannelState, opened_with, with_spare}
use Rattle.dispatcher.specs.CancelSynthesis.Tracked.{Tracked}
use Rattle.dispatcher.specs.CancelSynthesis.Tracked.{with_spare as tracked_with_spare}
use Rattle.window_snapshot.specs.Mask.{mask_has, mask_with}
use Rattle.dispatcher.specs.DispatchTables.Masks.{mask_less}
use Rattle.dispatcher.specs.DispatchChannels.Table.{Table, opened, channel_of, input_of, unsent, with_room, but_for_room, NoLessRoom}
use Rattle.dispatcher.proofs.DispatchChannels.Wholes.{channel_set_same, channel_set_other}
use Rattle.dispatcher.proofs.DispatchChannels.Picking.{channel_low}
use Rattle.touch_state.specs.Touches.{Touches}
use Rattle.dispatcher.proofs.DispatchChannels.Moved.{reached, all_reached}
use Rattle.input_types.specs.declared.motion.Motion.{Motion}
use Rattle.dispatcher.specs.KeyTables.Focused.{change_of, change_sent}
use Rattle.dispatcher.specs.declared.dispatch_round.round.Round.{Round}
use Rattle.dispatcher.specs.DispatchRound.Bodies.{keys_to}
use Rattle.dispatcher.specs.DispatchRound.Rounds.{most_motions, most_bodies, most_sent, is_concerned, IsFew, HasMostRoom, HasRoom, HasMadeRoom, IsLeft, MakesRoom}
use Rattle.dispatcher.proofs.DispatchRound.Reaching.{not_reached, reached_next, reached_other}
use Rattle.dispatch_history.specs.History.{no_terms}

-- more room is no change but of the room
map_set : {A B : Type 0} (f : A → B) (xs : List A) (k : ℕ) (v d : A) → f v ≡ f (get_or xs k d) → map f (set xs k v) ≡ map f xs
map_set f [] k v d e = refl
map_set f (x ∷ xs) zero v d e = ap (λ y. y ∷ map f xs) e
map_set f (x ∷ xs) (suc k) v d e = ap (λ ys. f x ∷ ys) (map_set f xs k v d e)

pub same_but_room : (c n : ℕ) (t : Table) → but_for_room (with_room c n t) ≡ but_for_room t
same_but_room c n t =
    ap₂ (λ ss is. let u : Table = record t { channels = ss; inputs = is } in u)
    (map_set (λ y. let z : ChannelState = record y { spare = 0 } in z) t.channels (c - 1) (with_spare n (channel_of t c)) (opened_with no_terms) refl)
    (map_set (λ y. let z : Tracked = record y { spare = 0 } in z) t.inputs (c - 1) (tracked_with_spare n (input_of t c)) unsent refl)

-- room in one channel
pub made_here : (t : Table) (k n : ℕ) → 1 ≤ k → k ≤ opened t → length t.inputs ≡ opened t
    → (channel_of (with_room k n t) k ≡ with_spare n (channel_of t k)) × (input_of (with_room k n t) k ≡ tracked_with_spare n (input_of t k))
made_here t k n low high many = (
  channel_set_same t.channels k (with_spare n (channel_of t k)) low high,
  get_or-set_same t.inputs (k - 1) (tracked_with_spare n (input_of t k)) unsent (omega (arith, low, high, many)),
)

left_there : (t : Table) (k n c : ℕ) → 1 ≤ k → 1 ≤ c → c ≢ k → IsLeft t (with_room k n t) c
left_there t k n c low from ne = (
  channel_set_other t.channels k c (with_spare n (channel_of t k)) low from ne,
  get_or-set_other t.inputs (k - 1) (c - 1) (tracked_with_spare n (input_of t k)) unsent (λ s. ne (omega (arith, s, low, from))),
)

-- one channel after another
pub left_next : (first t : Table) (mask rest k n : ℕ) → mask_has rest k ≡ true → mask_has mask k ≡ true
    → ((c : ℕ) → 1 ≤ c → reached mask rest c ≡ false → IsLeft first t c)
    → (c : ℕ) → 1 ≤ c → reached mask (mask_less rest (mask_with 0 k)) c ≡ false → IsLeft first (with_room k n t) c
left_next first t mask rest k n e is h c from out = elim (cases_eq c k) [
  | inl same ↦ absurd (both_ways (reached mask (mask_less rest (mask_with 0 k)) c) out
      (ap (reached mask (mask_less rest (mask_with 0 k))) same ∙ reached_next mask rest k is e))
  | inr ne ↦
      let before = h c from (sym (reached_other mask rest k c e ne) ∙ out) in
      let here = left_there t k n c (channel_low rest k e) from ne in
      (here.0 ∙ before.0, here.1 ∙ before.1)
]

pub made_next : (r : Round) (first t : Table) (mask rest k n : ℕ) → mask_has rest k ≡ true → n ≡ most_bodies r k (input_of t k) → k ≤ opened t
    → length t.inputs ≡ opened t
    → ((c : ℕ) → 1 ≤ c → reached mask rest c ≡ false → IsLeft first t c)
    → ((c : ℕ) → reached mask rest c ≡ true → HasMadeRoom r first t c)
    → (c : ℕ) → reached mask (mask_less rest (mask_with 0 k)) c ≡ true → HasMadeRoom r first (with_room k n t) c
made_next r first t mask rest k n e is high many left before c recipient = elim (cases_eq c k) [
  | inl same ↦ subst (HasMadeRoom r first (with_room k n t)) (sym same) here
  | inr ne ↦ there ne
]
  where
    low : 1 ≤ k
    low = channel_low rest k e

    here : HasMadeRoom r first (with_room k n t) k
    here =
        let was = left k low (not_reached mask rest k e) in
        let most : n ≡ most_bodies r k (input_of first k) = is ∙ ap (most_bodies r k) was.1 in
        let made = made_here t k n low high many in
        (made.0 ∙ ap₂ with_spare most was.0, made.1 ∙ ap₂ tracked_with_spare most was.1)

    there : c ≢ k → HasMadeRoom r first (with_room k n t) c
    there ne =
        let was = before c (sym (reached_other mask rest k c e ne) ∙ recipient) in
        let same = left_there t k n c low (channel_low mask c (and_parts (mask_has mask c) _ recipient).0) ne in
        (same.0 ∙ was.0, same.1 ∙ was.1)

-- what was made is enough
pub made_enough : (r : Round) (first t : Table) (c : ℕ) → HasMadeRoom r first t c → HasRoom r t c
made_enough r first t c h =
    let n = most_bodies r c (input_of first c) in
    let most : most_bodies r c (input_of t c) ≡ n = ap (most_bodies r c) h.1 ∙ same_most r c n (input_of first c) in
    record {
      room = fits _ n _ (channel_of first c).spare most (ap (λ s. s.spare) h.0);
      track_room = fits _ n _ (input_of first c).spare most (ap (λ i. i.spare) h.1);
    }
  where
    at : (o : Option Motion) (n : ℕ) (i : Tracked) → most_motions o (tracked_with_spare n i) ≡ most_motions o i
    at None n i = refl
    at (Some m) n i = refl

    same_most : (r : Round) (k n : ℕ) (i : Tracked) → most_bodies r k (tracked_with_spare n i) ≡ most_bodies r k i
    same_most r k n i =
        ap (λ m. m + length (keys_to r.target r.keys.now k) + length (change_sent (change_of r.lost r.gained k))) (at (option_copied r.motion) n i)

    fits : (a b s x : ℕ) → a ≡ b → s ≡ max b x → a ≤ s
    fits a b s x e f = omega (arith, e, f)

-- and they are few still
pub few_made : (r : Round) (first t : Table) (c : ℕ) → HasMadeRoom r first t c → IsFew r first c → IsFew r t c
few_made r first t c h few =
    subst (λ (i : Tracked). most_bodies r c i ≤ most_sent r c) (sym h.1)
    (as_few (option_copied r.motion) few)
  where
    as_few : (o : Option Motion)
        → most_motions o (input_of first c) + length (keys_to r.target r.keys.now c) + length (change_sent (change_of r.lost r.gained c)) ≤ most_sent r c
        → most_motions o (tracked_with_spare (most_bodies r c (input_of first c)) (input_of first c)) + length (keys_to r.target r.keys.now c)
        + length (change_sent (change_of r.lost r.gained c)) ≤ most_sent r c
    as_few None h = h
    as_few (Some m) h = h

-- room that is there is there still
pub still_room : (r : Round) (first t : Table) (c : ℕ) → IsLeft first t c → HasRoom r first c → HasRoom r t c
still_room r first t c same h = record {
  room = subst (λ (i : Tracked). most_bodies r c i ≤ (channel_of t c).spare) (sym same.1)
      (subst (λ (s : ChannelState). most_bodies r c (input_of first c) ≤ s.spare) (sym same.0) h.room);
  track_room = subst (λ (i : Tracked). most_bodies r c i ≤ i.spare) (sym same.1) h.track_room;
}

-- all is made in the end
pub makes_room : (r : Round) (ts : List Touches) (mask rest : ℕ) (first t : Table) → rest ≡ 0
    → ((w : ℕ) → mask_has mask w ≡ (is_concerned ts r w && mask_has first.live w))
    → ((c : ℕ) → reached mask rest c ≡ true → HasMadeRoom r first t c)
    → ((c : ℕ) → 1 ≤ c → reached mask rest c ≡ false → IsLeft first t c)
    → MakesRoom ts r first t
makes_room r ts mask rest first t none is made left =
    let all : (c : ℕ) → reached mask rest c ≡ (is_concerned ts r c && mask_has first.live c) =
    λ c. ap (λ n. reached mask n c) none ∙ all_reached mask c ∙ is c in
    record { made = λ w recipient. made w (all w ∙ recipient); left = λ w from no. left w from (all w ∙ no) }

-- no less room, and again no less
pub no_less : (t u v : Table) → NoLessRoom t u → NoLessRoom u v → NoLessRoom t v
no_less t u v h k c = (omega (arith, (h c).0, (k c).0), omega (arith, (h c).1, (k c).1))

-- another window is sent few bodies
pub few_next : (r : Round) (first t : Table) (mask rest k : ℕ) → mask_has rest k ≡ true → mask_has mask k ≡ true
    → ((c : ℕ) → 1 ≤ c → reached mask rest c ≡ false → IsLeft first t c)
    → IsFew r t k
    → ((c : ℕ) → reached mask rest c ≡ true → IsFew r first c)
    → (c : ℕ) → reached mask (mask_less rest (mask_with 0 k)) c ≡ true → IsFew r first c
few_next r first t mask rest k e is left here before c recipient = elim (cases_eq c k) [
  | inl same ↦
      let was = left k (channel_low rest k e) (not_reached mask rest k e) in
      subst (IsFew r first) (sym same) (subst (λ (i : Tracked). most_bodies r k i ≤ most_sent r k) was.1 here)
  | inr ne ↦ before c (sym (reached_other mask rest k c e ne) ∙ recipient)
]

pub still_most : (r : Round) (first t : Table) (c : ℕ) → IsLeft first t c → HasMostRoom r first c → HasMostRoom r t c
still_most r first t c same h = record {
  room = subst (λ (s : ChannelState). most_sent r c ≤ s.spare) (sym same.0) h.room;
  track_room = subst (λ (i : Tracked). most_sent r c ≤ i.spare) (sym same.1) h.track_room;
}
