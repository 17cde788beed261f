-- A Move bypasses one channel after another, and then all are published.
use Rattle.std.proofs.Common.{◌≡◌, ℕ, ◌≤◌, ◌==◌, Bool, true, false, ◌&&◌, ◌||◌, cond, List, [], ◌∷◌, length, refl, sym, ap, ap₂, ◌∙◌, subst, arith, inl, inr}
use Rattle.std.proofs.lemmas.Bool.{cases_eq, eq-eqb, eqb-true, ne_eqb, and_parts, both_ways}
use Rattle.input_types.specs.declared.message.Message.{Message}
use Rattle.input_types.specs.declared.motion.Motion.{Motion}
use Rattle.window_snapshot.specs.Mask.{is_channel, mask_has, mask_with}
use Rattle.window_snapshot.proofs.Masks.{mask_has-with}
use Rattle.touch_state.specs.Touches.{Touches}
use Rattle.dispatcher.specs.InputChannel.State.{published_at}
use Rattle.dispatcher.specs.DispatchTables.Masks.{mask_less}
use Rattle.dispatcher.specs.DispatchChannels.Table.{Table, channel_of, input_of}
use Rattle.dispatcher.specs.DispatchChannels.Changes.{Publishes}
use Rattle.dispatcher.proofs.DispatchChannels.Picking.{channel_low}
use Rattle.dispatcher.proofs.DispatchChannels.Moved.{reached, all_reached}
use Rattle.dispatcher.specs.DispatchRound.Past.{GetsPast, MovesPast, PassesEach, PassesOne, SpendsOne, TracksPast}
use Rattle.dispatcher.specs.DispatchRound.Rounds.{IsLeft}
use Rattle.dispatcher.proofs.DispatchRound.Reaching.{not_reached, reached_next, reached_other}
use Rattle.dispatcher.proofs.DispatchRound.Passing.{some_held}

-- what a window is sent and what it spends depend only on its channel and on what is kept of it
record WasSent (ts : List Touches) (m : Motion) (old new : Table) (c : ℕ) : Type 0 where
  changes : GetsPast ts m c (channel_of old c) (channel_of new c)
  tracks : TracksPast ts m c (input_of old c) (input_of new c)
  spends : SpendsOne old new c

-- the same if both stay before or afterwards
was_sent_after : (ts : List Touches) (m : Motion) (t u v : Table) (c : ℕ) → IsLeft t u c → WasSent ts m u v c → WasSent ts m t v c
was_sent_after ts m t u v c same h =
    let room : (channel_of u c).spare ≡ (channel_of t c).spare = ap (λ s. s.spare) same.0 in
    let track_room : (input_of u c).spare ≡ (input_of t c).spare = ap (λ i. i.spare) same.1 in
    record {
      changes = subst (λ s. GetsPast ts m c s (channel_of v c)) same.0 h.changes;
      tracks = subst (λ i. TracksPast ts m c i (input_of v c)) same.1 h.tracks;
      spends = record {
        room = omega (arith, room, h.spends.room);
        track_room = omega (arith, track_room, h.spends.track_room);
        keys_are = h.spends.keys_are ∙ ap (λ i. i.keys) same.1;
      };
    }

was_sent_before : (ts : List Touches) (m : Motion) (t u v : Table) (c : ℕ) → WasSent ts m t u c → IsLeft u v c → WasSent ts m t v c
was_sent_before ts m t u v c h same =
    let room : (channel_of v c).spare ≡ (channel_of u c).spare = ap (λ s. s.spare) same.0 in
    let track_room : (input_of v c).spare ≡ (input_of u c).spare = ap (λ i. i.spare) same.1 in
    record {
      changes = subst (λ s. GetsPast ts m c (channel_of t c) s) (sym same.0) h.changes;
      tracks = subst (λ i. TracksPast ts m c (input_of t c) i) (sym same.1) h.tracks;
      spends = record {
        room = omega (arith, room, h.spends.room);
        track_room = omega (arith, track_room, h.spends.track_room);
        keys_are = ap (λ i. i.keys) same.1 ∙ h.spends.keys_are;
      };
    }

-- the Move bypasses the next channel
pub passes_next : (ts : List Touches) (m : Motion) (mask rest k : ℕ) (t u v : Table) → mask_has rest k ≡ true → mask_has mask k ≡ true
    → PassesEach ts m (reached mask rest) t u → PassesOne ts m k u v
    → PassesEach ts m (reached mask (mask_less rest (mask_with 0 k))) t v
passes_next ts m mask rest k t u v e is p q = record {
  changes = λ c recipient. (gets c recipient).changes;
  tracks = λ c recipient. (gets c recipient).tracks;
  spends = λ c recipient. (gets c recipient).spends;
  unfinished_is = λ c low. elim (cases_eq c k) [
    | inl same ↦ subst (λ n. (channel_of v n).unfinished ≡ (channel_of t n).unfinished) (sym same) (q.unfinished_is ∙ p.unfinished_is k from)
    | inr ne ↦ ap (λ s. s.unfinished) (q.others c low ne).0 ∙ p.unfinished_is c low
  ];
  stays = λ c low out. elim (cases_eq c k) [
    | inl same ↦ absurd (both_ways (later c) out (ap later same ∙ reached_next mask rest k is e))
    | inr ne ↦
        let before = p.stays c low (sym (reached_other mask rest k c e ne) ∙ out) in
        ((q.others c low ne).0 ∙ before.0, (q.others c low ne).1 ∙ before.1)
  ];
  same = record {
    as_many = q.same.as_many ∙ p.same.as_many;
    live_is = q.same.live_is ∙ p.same.live_is;
    able_is = q.same.able_is ∙ p.same.able_is;
    anrs_are = q.same.anrs_are ∙ p.same.anrs_are;
  };
}
  where
    later : ℕ → Bool
    later c = reached mask (mask_less rest (mask_with 0 k)) c

    from : 1 ≤ k
    from = channel_low rest k e

    gets : (c : ℕ) → later c ≡ true → WasSent ts m t v c
    gets c recipient = elim (cases_eq c k) [
      | inl same ↦ subst (WasSent ts m t v) (sym same) (was_sent_after ts m t u v k (p.stays k from (not_reached mask rest k e))
          (record { changes = q.changes; tracks = q.tracks; spends = q.spends }))
      | inr ne ↦
          let low : 1 ≤ c = channel_low mask c (and_parts (mask_has mask c) _ recipient).0 in
          let was = sym (reached_other mask rest k c e ne) ∙ recipient in
          was_sent_before ts m t u v c (record { changes = p.changes c was; tracks = p.tracks c was; spends = p.spends c was }) (q.others c low ne)
    ]

-- a mask with one window more
pub with_window : (mask k w : ℕ) (moves : Bool) → is_channel k ≡ true → moves ≡ true
    → mask_has (mask_with mask k) w ≡ (mask_has mask w || (moves && (w == k)))
with_window mask k w moves one is = mask_has-with mask k w ∙ elim (cases_eq w k) [
  | inl same ↦
      ap₂ (λ a b. mask_has mask w || (a && b)) (ap is_channel same ∙ one ∙ sym is) (eq-eqb k w (sym same) ∙ sym (eq-eqb w k same))
  | inr ne ↦
      ap (λ b. mask_has mask w || (is_channel w && b)) (ne_eqb k w (λ e. ne (sym e)))
      ∙ other (mask_has mask w) (is_channel w) moves
      ∙ sym (ap (λ b. mask_has mask w || (moves && b)) (ne_eqb w k ne))
]
  where
    other : (a b c : Bool) → (a || (b && false)) ≡ (a || (c && false))
    other true b c = refl
    other false true true = refl
    other false true false = refl
    other false false true = refl
    other false false false = refl

-- the mask of the windows that were sent something has the next one if that is sent something
pub sent_next : (ts : List Touches) (m : Motion) (mask rest k sent later : ℕ) (moves : Bool) → mask_has rest k ≡ true → mask_has mask k ≡ true
    → moves ≡ some_held ts m k
    → ((w : ℕ) → mask_has sent w ≡ (reached mask rest w && some_held ts m w))
    → ((w : ℕ) → mask_has later w ≡ (mask_has sent w || (moves && (w == k))))
    → (w : ℕ) → mask_has later w ≡ (reached mask (mask_less rest (mask_with 0 k)) w && some_held ts m w)
sent_next ts m mask rest k sent later moves e is moved was now w = elim (cases_eq w k) [
  | inl same ↦
      now w
      ∙ ap₂ (λ a b. a || (moves && b)) (was w ∙ ap (λ n. reached mask rest n && some_held ts m w) same ∙ ap (λ b. b && some_held ts m w) (not_reached mask rest k e)) (eq-eqb w k same)
      ∙ and_true moves
      ∙ moved
      ∙ ap (some_held ts m) (sym same)
      ∙ ap (λ b. b && some_held ts m w) (sym (ap (reached mask (mask_less rest (mask_with 0 k))) same ∙ reached_next mask rest k is e))
  | inr ne ↦
      now w
      ∙ ap₂ (λ a b. a || (moves && b)) (was w) (ne_eqb w k ne)
      ∙ or_none (reached mask rest w && some_held ts m w) moves
      ∙ ap (λ b. b && some_held ts m w) (sym (reached_other mask rest k w e ne))
]
  where
    and_true : (a : Bool) → (a && true) ≡ a
    and_true true = refl
    and_true false = refl

    or_none : (a b : Bool) → (a || (b && false)) ≡ a
    or_none true b = refl
    or_none false true = refl
    or_none false false = refl

-- the channels that were reached keep no message
pub none_next : (mask rest k : ℕ) (t : Table) → mask_has rest k ≡ true → (channel_of t k).messages ≡ []
    → ((w : ℕ) → reached mask rest w ≡ true → (channel_of t w).messages ≡ [])
    → (w : ℕ) → reached mask (mask_less rest (mask_with 0 k)) w ≡ true → (channel_of t w).messages ≡ []
none_next mask rest k t e here before w recipient = elim (cases_eq w k) [
  | inl same ↦ subst (λ c. (channel_of t c).messages ≡ []) (sym same) here
  | inr ne ↦ before w (sym (reached_other mask rest k w e ne) ∙ recipient)
]

pub kept_none : (ms : List Message) → (length ms == 0) ≡ true → ms ≡ []
kept_none [] e = refl
kept_none (m ∷ ms) e = absurd (omega (arith, eqb-true (length (m ∷ ms)) 0 e))

-- the Move bypassed all channels
pub passes_last : (ts : List Touches) (m : Motion) (mask rest : ℕ) (t u : Table) → rest ≡ 0 → PassesEach ts m (reached mask rest) t u
    → PassesEach ts m (mask_has mask) t u
passes_last ts m mask rest t u none p =
    let all : (c : ℕ) → reached mask rest c ≡ mask_has mask c = λ c. ap (λ n. reached mask n c) none ∙ all_reached mask c in
    record {
      changes = λ c recipient. p.changes c (all c ∙ recipient);
      tracks = λ c recipient. p.tracks c (all c ∙ recipient);
      spends = λ c recipient. p.spends c (all c ∙ recipient);
      unfinished_is = p.unfinished_is;
      stays = λ c low out. p.stays c low (all c ∙ out);
      same = p.same;
    }

-- then all are published
pub moves_past : (ts : List Touches) (m : Motion) (outgoing sent clock : ℕ) (t u v : Table)
    → ((c : ℕ) → mask_has outgoing c ≡ true → mask_has t.live c ≡ true)
    → ((c : ℕ) → mask_has sent c ≡ (mask_has outgoing c && some_held ts m c))
    → PassesEach ts m (mask_has outgoing) t u → Publishes outgoing clock u v → MovesPast ts m outgoing sent clock t v
moves_past ts m outgoing sent clock t u v lives is p q = record {
  sent_is = is;
  changes = λ c has covers o. published c has ∙ ap (published_at clock) (p.changes c has covers o clock);
  tracks = λ c has. subst (λ i. TracksPast ts m c (input_of t c) i) (sym (inputs c)) (p.tracks c has);
  spends = λ c has.
      let room : (channel_of v c).spare ≡ (channel_of u c).spare = ap (λ s. s.spare) (published c has) in
      let track_room : (input_of v c).spare ≡ (input_of u c).spare = ap (λ i. i.spare) (inputs c) in
      record {
        room = omega (arith, room, (p.spends c has).room);
        track_room = omega (arith, track_room, (p.spends c has).track_room);
        keys_are = ap (λ i. i.keys) (inputs c) ∙ (p.spends c has).keys_are;
      };
  stays = λ c low out. (
    q.channels_are c low ∙ ap (λ b. cond (b && mask_has u.live c) (published_at clock (channel_of u c)) (channel_of u c)) out ∙ (p.stays c low out).0,
    inputs c ∙ (p.stays c low out).1,
  );
  same = record {
    as_many = q.as_many ∙ p.same.as_many;
    live_is = q.live_is ∙ p.same.live_is;
    able_is = q.able_is ∙ p.same.able_is;
    anrs_are = q.anrs_are ∙ p.same.anrs_are;
  };
}
  where
    inputs : (c : ℕ) → input_of v c ≡ input_of u c
    inputs c = ap (λ is. input_of (record u { inputs = is }) c) q.inputs_are

    published : (c : ℕ) → mask_has outgoing c ≡ true → channel_of v c ≡ published_at clock (channel_of u c)
    published c has =
        q.channels_are c (channel_low outgoing c has)
        ∙ ap₂ (λ b l. cond (b && l) (published_at clock (channel_of u c)) (channel_of u c)) has
        (ap (λ n. mask_has n c) p.same.live_is ∙ lives c has)
