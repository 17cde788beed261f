-- The windows of a mask are sent, one after another, and then all are published.
use Rattle.std.proofs.Common.{◌≡◌, ◌≢◌, ℕ, ◌+◌, ◌≤◌, map, Bool, true, false, not, ◌&&◌, cond, List, Option, refl, sym, ap, ap₂, ◌∙◌, subst, inl, inr}
use Rattle.std.specs.Prelude.{bit_and}
use Rattle.std.proofs.lemmas.Bool.{cases_eq, eq-eqb, ne_eqb, and_parts, both_ways}
use Rattle.input_types.specs.declared.axis.Pixel.{Pixel}
use Rattle.input_types.specs.declared.message.Body.{Body}
use Rattle.input_types.specs.declared.message.Body.TheVariants.{Key}
use Rattle.dispatcher.specs.InputChannel.State.{ChannelState, published_at}
use Rattle.window_snapshot.specs.Mask.{mask_has, mask_with}
use Rattle.window_snapshot.proofs.Masks.{mask_has_channel}
use Rattle.dispatcher.specs.CancelSynthesis.Tracked.{Tracked}
use Rattle.routing_rules.specs.Scene.{Scene, Step}
use Rattle.touch_state.specs.Touches.{Touches}
use Rattle.route_split.specs.Marking.{IsWhole, IsChanged}
use Rattle.dispatcher.specs.DispatchTables.Masks.{mask_less}
use Rattle.dispatcher.specs.DispatchChannels.Table.{Table, channel_of, input_of}
use Rattle.dispatcher.specs.DispatchChannels.Changes.{Publishes}
use Rattle.dispatcher.proofs.DispatchChannels.Picking.{channel_low, has-without, mask_has-and}
use Rattle.dispatcher.proofs.DispatchChannels.Moved.{reached, all_reached}
use Rattle.dispatcher.specs.WindowCovers.Covers.{CoverTable}
use Rattle.dispatcher.specs.declared.dispatch_round.round.Round.{Round}
use Rattle.dispatcher.specs.declared.dispatch_round.listener.Listener.{Listener}
use Rattle.dispatcher.specs.KeyTables.Held.{bodies_tracked}
use Rattle.dispatcher.specs.DispatchRound.Bodies.{TracksAll, keys_to}
use Rattle.dispatcher.specs.DispatchRound.Rounds.{IsRound, HoldsPointers, AllHoldPointers, is_concerned, sent_in, most_bodies, IsLeft}
use Rattle.dispatcher.specs.DispatchRound.Outgoing.{origin_at, with_bodies, SendsAll}
use Rattle.dispatcher.specs.DispatchRound.Saying.{GetsRound, Spends}
use Rattle.dispatcher.specs.DispatchRound.Each.{SendsEach}
use Rattle.dispatcher.proofs.DispatchRound.Saying.{with_bodies-unfinished, with_bodies-gone}
use Rattle.dispatcher.proofs.DispatchRound.Ruling.{quiet_sent}

-- which windows were reached
and_false_right : (b : Bool) → (b && false) ≡ false
and_false_right true = refl
and_false_right false = refl

and_true_right : (b : Bool) → (b && true) ≡ b
and_true_right true = refl
and_true_right false = refl

pub not_reached : (mask rest k : ℕ) → mask_has rest k ≡ true → reached mask rest k ≡ false
not_reached mask rest k e = ap (λ t. mask_has mask k && not t) e ∙ and_false_right (mask_has mask k)

pub reached_next : (mask rest k : ℕ) → mask_has mask k ≡ true → mask_has rest k ≡ true → reached mask (mask_less rest (mask_with 0 k)) k ≡ true
reached_next mask rest k is e = ap₂ (λ a t. a && not t) is (has-without rest rest k k e ∙ ap₂ (λ a t. a && not t) e (eq-eqb k k refl))

pub reached_other : (mask rest k c : ℕ) → mask_has rest k ≡ true → c ≢ k → reached mask (mask_less rest (mask_with 0 k)) c ≡ reached mask rest c
reached_other mask rest k c e ne =
    ap (λ t. mask_has mask c && not t)
    (has-without rest rest k c e ∙ ap (λ t. mask_has rest c && not t) (ne_eqb c k ne) ∙ and_true_right (mask_has rest c))

-- what is in both of two masks
pub in_both : (a b w : ℕ) → mask_has (bit_and a b) w ≡ true → (mask_has a w ≡ true) × (mask_has b w ≡ true)
in_both a b w has = and_parts (mask_has a w) (mask_has b w) (sym (mask_has-and a b w) ∙ has)

pub both_reached : (a b rest w : ℕ) → rest ≡ 0 → mask_has a w ≡ true → mask_has b w ≡ true → reached (bit_and a b) rest w ≡ true
both_reached a b rest w none p q =
    ap (λ n. reached (bit_and a b) n w) none ∙ all_reached (bit_and a b) w ∙ mask_has-and a b w ∙ ap₂ (λ x y. x && y) p q

-- a channel is sent what is said in the round in a scene
abbrev pub IsSentAt : CoverTable → Round → List Pixel → ℕ → (t v : Table) → Scene → Step → ℕ → Type 0
IsSentAt covers r origins clock t v s e c =
    (channel_of v c ≡ with_bodies (sent_in covers r s e c) (origin_at origins c) clock (channel_of t c))
    × TracksAll (input_of t c) (input_of v c) (sent_in covers r s e c)

-- a channel that stays as it is afterwards has spent as much, and one that was as it is before too
same_spends : (r : Round) (c : ℕ) (t u v : Table) → channel_of v c ≡ channel_of u c → input_of v c ≡ input_of u c → Spends r c t u → Spends r c t v
same_spends r c t u v e f h = record {
  room = subst (λ s. (channel_of t c).spare ≤ s.spare + most_bodies r c (input_of t c)) (sym e) h.room;
  track_room = subst (λ i. (input_of t c).spare ≤ i.spare + most_bodies r c (input_of t c)) (sym f) h.track_room;
  keys_are = ap (λ i. i.keys) f ∙ h.keys_are;
}

spends_from : (r : Round) (c : ℕ) (t u v : Table) → channel_of u c ≡ channel_of t c → input_of u c ≡ input_of t c → Spends r c u v → Spends r c t v
spends_from r c t u v e f h = record {
  room = subst (λ (s : ChannelState). s.spare ≤ (channel_of v c).spare + most_bodies r c (input_of t c)) e
      (subst (λ (i : Tracked). (channel_of u c).spare ≤ (channel_of v c).spare + most_bodies r c i) f h.room);
  track_room = subst (λ (i : Tracked). i.spare ≤ (input_of v c).spare + most_bodies r c i) f h.track_room;
  keys_are = h.keys_are ∙ ap (λ i. bodies_tracked (map Key (keys_to r.target r.keys.now c)) i.keys) f;
}

-- it is sent
pub each_next : (r : Round) (ts : List Touches) (o : Option (List ℕ)) (mask rest : ℕ) (to : Listener) (origins : List Pixel) (t u v : Table)
    → mask_has rest to.window ≡ true → mask_has mask to.window ≡ true → mask_has t.live to.window ≡ true
    → to.origin ≡ origin_at origins to.window
    → SendsEach to.covers.now r ts o (reached mask rest) origins to.clock t u
    → GetsRound r ts o to u v
    → SendsEach to.covers.now r ts o (reached mask (mask_less rest (mask_with 0 to.window))) origins to.clock t v
each_next r ts o mask rest to origins t u v e is live from_origin p q =
    record {
      outgoing = λ s f before by h holds c recipient. elim (cases_eq c to.window) [
        | inl same ↦ subst (IsSentAt to.covers.now r origins to.clock t v s f) (sym same) (here s f before by h holds)
        | inr ne ↦ there s f before by h holds c ne (sym (reached_other mask rest to.window c e ne) ∙ recipient)
      ];
      stays = λ c from no. elim (cases_eq c to.window) [
        | inl same ↦ absurd (both_ways (reached mask (mask_less rest (mask_with 0 to.window)) c) no
            (ap (reached mask (mask_less rest (mask_with 0 to.window))) same ∙ reached_next mask rest to.window is e))
        | inr ne ↦
            let before = p.stays c from (sym (reached_other mask rest to.window c e ne) ∙ no) in
            ((q.outgoing.others c from ne).0 ∙ before.0, (q.outgoing.others c from ne).1 ∙ before.1)
      ];
      spends = λ c recipient. elim (cases_eq c to.window) [
        | inl same ↦ subst (λ n. Spends r n t v) (sym same) spent
        | inr ne ↦
            let from : 1 ≤ c = channel_low mask c (and_parts (mask_has mask c) (not (mask_has (mask_less rest (mask_with 0 to.window)) c)) recipient).0 in
            let was = p.spends c (sym (reached_other mask rest to.window c e ne) ∙ recipient) in
            let other = q.outgoing.others c from ne in
            same_spends r c t u v other.0 other.1 was
      ];
      unfinished_is = λ c from. elim (cases_eq c to.window) [
        | inl same ↦ subst (λ n. (channel_of v n).unfinished ≡ (channel_of t n).unfinished) (sym same)
            (ap (λ s. s.unfinished) q.outgoing.channel_is ∙ with_bodies-unfinished q.bodies to.origin to.clock (channel_of u to.window) ∙ p.unfinished_is to.window low)
        | inr ne ↦ ap (λ s. s.unfinished) (q.outgoing.others c from ne).0 ∙ p.unfinished_is c from
      ];
      gone_is = λ c from. elim (cases_eq c to.window) [
        | inl same ↦ subst (λ n. (channel_of v n).gone ≡ (channel_of t n).gone) (sym same)
            (ap (λ s. s.gone) q.outgoing.channel_is ∙ with_bodies-gone q.bodies to.origin to.clock (channel_of u to.window) ∙ p.gone_is to.window low)
        | inr ne ↦ ap (λ s. s.gone) (q.outgoing.others c from ne).0 ∙ p.gone_is c from
      ];
      as_many = q.outgoing.as_many ∙ p.as_many;
      live_is = q.outgoing.live_is ∙ p.live_is;
      able_is = q.outgoing.able_is ∙ p.able_is;
      anrs_are = q.outgoing.anrs_are ∙ p.anrs_are;
    }
  where
    low : 1 ≤ to.window
    low = channel_low rest to.window e

    still : (channel_of u to.window ≡ channel_of t to.window) × (input_of u to.window ≡ input_of t to.window)
    still = p.stays to.window low (not_reached mask rest to.window e)

    spent : Spends r to.window t v
    spent = spends_from r to.window t u v still.0 still.1 q.spends

    here : (s : Scene) (f : Step) (before : List Touches) → IsChanged before ts r.mark o → IsRound s f before r → AllHoldPointers s t → IsSentAt to.covers.now r origins to.clock t v s f to.window
    here s f before by h holds =
        let says : q.bodies ≡ sent_in to.covers.now r s f to.window = q.by_rules s f before by h (subst (HoldsPointers s to.window) (sym still.1) (holds to.window live)) in (
          q.outgoing.channel_is
              ∙ ap (λ bs. with_bodies bs to.origin to.clock (channel_of u to.window)) says
              ∙ ap₂ (λ x y. with_bodies (sent_in to.covers.now r s f to.window) x to.clock y) from_origin still.0,
          subst (λ (i : Tracked). TracksAll i (input_of v to.window) (sent_in to.covers.now r s f to.window)) still.1
              (subst (λ (bs : List Body). TracksAll (input_of u to.window) (input_of v to.window) bs) says q.outgoing.tracks),
        )

    there : (s : Scene) (f : Step) (before : List Touches) → IsChanged before ts r.mark o → IsRound s f before r → AllHoldPointers s t → (c : ℕ) → c ≢ to.window → reached mask rest c ≡ true → IsSentAt to.covers.now r origins to.clock t v s f c
    there s f before by h holds c ne recipient =
        let from : 1 ≤ c = channel_low mask c (and_parts (mask_has mask c) (not (mask_has rest c)) recipient).0 in
        let was = p.outgoing s f before by h holds c recipient in
        let other = q.outgoing.others c from ne in (
          other.0 ∙ was.0,
          subst (λ (i : Tracked). TracksAll (input_of t c) i (sent_in to.covers.now r s f c)) (sym other.1) was.1,
        )

-- all were sent
pub each_last : (covers : CoverTable) (r : Round) (ts : List Touches) (o : Option (List ℕ)) (mask rest : ℕ) (origins : List Pixel) (clock : ℕ) (t u : Table)
    → rest ≡ 0 → SendsEach covers r ts o (reached mask rest) origins clock t u → SendsEach covers r ts o (mask_has mask) origins clock t u
each_last covers r ts o mask rest origins clock t u none p =
    let all : (c : ℕ) → reached mask rest c ≡ mask_has mask c = λ c. ap (λ n. reached mask n c) none ∙ all_reached mask c in
    record {
      outgoing = λ s e before by h holds c recipient. p.outgoing s e before by h holds c (all c ∙ recipient);
      stays = λ c from no. p.stays c from (all c ∙ no);
      spends = λ c recipient. p.spends c (all c ∙ recipient);
      unfinished_is = p.unfinished_is;
      gone_is = p.gone_is;
      as_many = p.as_many;
      live_is = p.live_is;
      able_is = p.able_is;
      anrs_are = p.anrs_are;
    }

-- what is published
publishes : (b l : Bool) (x y : ChannelState) → b ≡ true → l ≡ true → cond (b && l) x y ≡ x
publishes b l x y e f = ap₂ (λ a k. cond (a && k) x y) e f

leaves : (b l : Bool) (x y : ChannelState) → b ≡ false → cond (b && l) x y ≡ y
leaves b l x y e = ap (λ a. cond (a && l) x y) e

pub only_first : (a l : Bool) → (a && l) ≡ false → l ≡ true → a ≡ false
only_first a l none live = sym (and_true_right a) ∙ ap (λ x. a && x) (sym live) ∙ none

pub sends_all : (covers : CoverTable) (s : Scene) (e : Step) (r : Round) (ts us : List Touches) (o : Option (List ℕ)) (mask : ℕ) (origins : List Pixel) (clock : ℕ) (t u v : Table)
    → IsWhole r.mark → ((w : ℕ) → mask_has mask w ≡ (is_concerned ts r w && mask_has t.live w))
    → SendsEach covers r us o (mask_has mask) origins clock t u → Publishes mask clock u v → IsChanged ts us r.mark o → IsRound s e ts r → AllHoldPointers s t
    → SendsAll mask (sent_in covers r s e) origins clock t v
sends_all covers s e r ts us o mask origins clock t u v whole is p q by h holds =
    let lives : (c : ℕ) → mask_has mask c ≡ true → mask_has t.live c ≡ true =
    λ c has. (and_parts (is_concerned ts r c) (mask_has t.live c) (sym (is c) ∙ has)).1 in
    record {
      are_live = lives;
      changes = λ c has.
          q.channels_are c (channel_low mask c has)
          ∙ publishes (mask_has mask c) (mask_has u.live c) _ _ has (ap (λ m. mask_has m c) p.live_is ∙ lives c has)
          ∙ ap (published_at clock) (p.outgoing s e ts by h holds c has).0;
      tracks = λ c has.
          subst (λ (i : Tracked). TracksAll (input_of t c) i (sent_in covers r s e c)) (sym (ap (λ is. input_of (record u { inputs = is }) c) q.inputs_are))
          (p.outgoing s e ts by h holds c has).1;
      stays = λ c from no. (
        q.channels_are c from ∙ leaves (mask_has mask c) (mask_has u.live c) _ _ no ∙ (p.stays c from no).0,
        ap (λ is. input_of (record u { inputs = is }) c) q.inputs_are ∙ (p.stays c from no).1,
      );
      quiet = λ c no live.
          quiet_sent covers s e ts r c h whole (mask_has_channel t.live c live)
          (only_first (is_concerned ts r c) (mask_has t.live c) (sym (is c) ∙ no) live);
      as_many = q.as_many ∙ p.as_many;
      live_is = q.live_is ∙ p.live_is;
      able_is = q.able_is ∙ p.able_is;
      anrs_are = q.anrs_are ∙ p.anrs_are;
    }

-- what is published takes no room
pub published_spends : (r : Round) (mask clock : ℕ) (t u v : Table) → Publishes mask clock u v → (c : ℕ) → 1 ≤ c → Spends r c t u → Spends r c t v
published_spends r mask clock t u v q c low h = record {
  room = subst (λ n. (channel_of t c).spare ≤ n + most_bodies r c (input_of t c)) (sym spare) h.room;
  track_room = subst (λ i. (input_of t c).spare ≤ i.spare + most_bodies r c (input_of t c)) (sym input) h.track_room;
  keys_are = ap (λ i. i.keys) input ∙ h.keys_are;
}
  where
    by_test : (b : Bool) → (cond b (published_at clock (channel_of u c)) (channel_of u c)).spare ≡ (channel_of u c).spare
    by_test true = refl
    by_test false = refl

    spare : (channel_of v c).spare ≡ (channel_of u c).spare
    spare = ap (λ s. s.spare) (q.channels_are c low) ∙ by_test (mask_has mask c && mask_has u.live c)

    input : input_of v c ≡ input_of u c
    input = ap (λ is. input_of (record u { inputs = is }) c) q.inputs_are

-- what nobody was sent leaves a channel as it was
pub published_left : (covers : CoverTable) (r : Round) (us : List Touches) (o : Option (List ℕ)) (mask : ℕ) (origins : List Pixel) (clock : ℕ) (t u v : Table)
    → SendsEach covers r us o (mask_has mask) origins clock t u → Publishes mask clock u v → (c : ℕ) → 1 ≤ c → mask_has mask c ≡ false → IsLeft t v c
published_left covers r us o mask origins clock t u v p q c from out = (
  q.channels_are c from ∙ leaves (mask_has mask c) (mask_has u.live c) _ _ out ∙ (p.stays c from out).0,
  ap (λ is. input_of (record u { inputs = is }) c) q.inputs_are ∙ (p.stays c from out).1,
)

-- nothing is released where channels are published
pub published_gone : (mask clock : ℕ) (t u : Table) → Publishes mask clock t u → (c : ℕ) → 1 ≤ c → (channel_of u c).gone ≡ (channel_of t c).gone
published_gone mask clock t u h c low =
    ap (λ s. s.gone) (h.channels_are c low) ∙ by_test (mask_has mask c && mask_has t.live c)
  where
    by_test : (b : Bool) → (cond b (published_at clock (channel_of t c)) (channel_of t c)).gone ≡ (channel_of t c).gone
    by_test true = refl
    by_test false = refl
