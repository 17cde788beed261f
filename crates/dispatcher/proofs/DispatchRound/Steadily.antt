-- Steady rounds: they give and take no pointer.
use Rattle.std.proofs.Common.{◌≡◌, ◌≢◌, ℕ, ◌-◌, ◌≤◌, Bool, true, false, not, ◌&&◌, ◌||◌, cond, List, [], ◌∷◌, length, map, Option, Some, None, refl, sym, ap, ap₂, ◌∙◌, subst, inl, inr, arith}
use mathlib.Core.Path.{fun_ext}
use Rattle.std.specs.Prelude.{IfSome}
use Rattle.std.specs.Option.{option_copied}
use Rattle.std.proofs.lemmas.Bool.{cases_eq, eq-eqb, and_parts}
use Rattle.std.proofs.lemmas.List.{length-map}
use Rattle.input_types.specs.declared.key.KeyMsg.{KeyMsg}
use Rattle.input_types.specs.declared.message.Body.TheVariants.{Key}
use Rattle.input_types.specs.declared.motion.Motion.{Motion}
use Rattle.input_types.specs.declared.motion.MotionAction.TheVariants.{Move}
use Rattle.window_snapshot.specs.Mask.{mask_has, mask_with}
use Rattle.window_snapshot.proofs.Masks.{mask_has-zero}
use Rattle.routing_rules.specs.Scene.{Scene, Step, Moves}
use Rattle.routing_rules.specs.Given.{changed, mark}
use Rattle.routing_rules.specs.Taking.{takes, pilfers}
use Rattle.routing_rules.specs.Outgoing.{after, listing, moves, sent_motion}
use Rattle.touch_state.specs.Touches.{Touches}
use Rattle.touch_state.proofs.Sets.{and_true}
use Rattle.route_split.specs.declared.mark.Mark.TheVariants.{NoOp}
use Rattle.route_split.specs.Tables.{ChangesAll, any_at, holds_at}
use Rattle.route_split.specs.Marking.{IsChanged, IsWhole, gives, taking, holds_after}
use Rattle.route_split.proofs.SentBy.{after_is}
use Rattle.dispatcher.specs.DispatchTables.Masks.{mask_less}
use Rattle.dispatcher.specs.DispatchChannels.Table.{Table, channel_of, input_of, NoLessRoom}
use Rattle.dispatcher.specs.DispatchChannels.Changes.{Publishes}
use Rattle.dispatcher.proofs.DispatchChannels.Moved.{reached}
use Rattle.dispatcher.proofs.DispatchChannels.Picking.{channel_low}
use Rattle.dispatcher.specs.declared.dispatch_round.round.Round.{Round}
use Rattle.dispatcher.specs.declared.dispatch_round.listener.Listener.{Listener}
use Rattle.dispatcher.specs.DispatchRound.Bodies.{told, keys_to, motions_of}
use Rattle.dispatcher.specs.DispatchRound.Rounds.{IsStepIn, IsRound, may_take, may_reach, keyed, most_motions, is_concerned, IsLeft}
use Rattle.dispatcher.specs.DispatchRound.Saying.{CanBeSent, SendsOne, GetsRound}
use Rattle.dispatcher.specs.DispatchRound.Steady.{IsSteady, held_by, moved, most_moves, most_steady, HasSteadyRoom, GetsMoves, SpendsSteady}
use Rattle.dispatcher.specs.KeyTables.Focused.{change_of}
use Rattle.dispatcher.specs.KeyTables.Held.{bodies_tracked}
use Rattle.dispatcher.specs.InputChannel.State.{published_at}
use Rattle.dispatcher.proofs.DispatchRound.Saying.{sends_none, gets_after, with_bodies-spare}
use Rattle.dispatcher.proofs.DispatchRound.Telling.{told-length}
use Rattle.dispatcher.proofs.DispatchRound.Getting.{gets_round}
use Rattle.dispatcher.proofs.DispatchRound.Reaching.{reached_other}
use Rattle.dispatcher.proofs.DispatchRound.MoveLaws.{still_moves, few_moves}
use Rattle.dispatcher.proofs.DispatchRound.Ruling.{motion_sent, none_all}

-- ---- what a steady round is

-- its motion is a Move
pub is_move : (r : Round) (m : Motion) → IsSteady r → option_copied r.motion ≡ Some m → m.action ≡ Move
is_move r m steady is = subst (λ o. IfSome o (λ n. n.action ≡ Move)) is steady.motion_is

pub is_whole : (r : Round) → IsSteady r → IsWhole r.mark
is_whole r steady = subst IsWhole (sym steady.mark_is) tt

-- the tables stay as they are with its mark
pub still_rests : (ts : List Touches) (r : Round) (place : ℕ) → IsSteady r
    → ((at : ℕ) → ChangesAll ts ts (gives NoOp) (takes (taking ts NoOp)) at (pilfers (taking ts NoOp)))
    → ChangesAll ts ts (gives r.mark) (takes (taking ts r.mark)) place (pilfers (taking ts r.mark))
still_rests ts r place steady same =
    subst (λ k. ChangesAll ts ts (gives k) (takes (taking ts k)) place (pilfers (taking ts k))) (sym steady.mark_is) (same place)

pub no_change : (lost gained w : ℕ) → lost ≡ 0 → gained ≡ 0 → change_of lost gained w ≡ None
no_change lost gained w l g =
    ap₂ (λ x y. change_of x y w) l g
    ∙ ap₂ (λ x y. cond x (Some false) (cond y (Some true) None)) (mask_has-zero w) (mask_has-zero w)

-- the windows that may be sent something
free : (a k : Bool) → (((a || k) || false) || false) ≡ (a || k)
free true k = refl
free false true = refl
free false false = refl

pub steady_concerned : (r : Round) (ts : List Touches) (w : ℕ) → IsSteady r
    → is_concerned ts r w ≡ (held_by ts (option_copied r.motion) w || mask_has (keyed r.keys.now r.target) w)
steady_concerned r ts w steady =
    ap₂ (λ x y. ((may_reach ts r.mark (option_copied r.motion) r.watchers w || k) || mask_has x w) || mask_has y w) steady.lost_is steady.gained_is
    ∙ ap₂ (λ x y. ((may_reach ts x (option_copied r.motion) y w || k) || mask_has 0 w) || mask_has 0 w) steady.mark_is steady.watchers_is
    ∙ ap₂ (λ x y. ((x || k) || y) || y) (held (option_copied r.motion)) (mask_has-zero w)
    ∙ free (held_by ts (option_copied r.motion) w) k
  where
    k : Bool
    k = mask_has (keyed r.keys.now r.target) w

    or_false : (a : Bool) → ((a || false) || false) ≡ a
    or_false true = refl
    or_false false = refl

    held : (o : Option Motion) → may_reach ts NoOp o 0 w ≡ held_by ts o w
    held None = refl
    held (Some m) = ap (λ b. (any_at ts w m.device || false) || b) (mask_has-zero w) ∙ or_false (any_at ts w m.device)

-- ---- a window is sent

-- of a Move with which no pointer changes hands the rules say that the pointers move that a window holds
pub moves_by_rules : (m : Motion) (r : Round) (ts us : List Touches) (s : Scene) (e : Step) (w : ℕ) → IsSteady r → option_copied r.motion ≡ Some m
    → 1 ≤ m.device → m.device ≤ 8 → IsChanged ts us r.mark None → IsRound s e ts r
    → moves m.device (listing (holds_at us w m.device) m.pointers) ≡ motions_of s e w
moves_by_rules m r ts us s e w steady opt low high by h =
    let step = subst (λ o. IsStepIn s ts r.mark o r.watchers e) opt h.step_is in
    let same : (i : ℕ) → holds_at us w m.device i ≡ holds_at ts w m.device i =
    λ i.
    by.holds_are w m.device i
    ∙ ap (λ k. holds_after ts k w m.device i) steady.mark_is
    ∙ sym (and_true (holds_at ts w m.device i)) in
    let was : s.holds w m.device ≡ holds_at us w m.device =
    fun_ext (λ i. ap (λ (g : ℕ → ℕ → ℕ → Bool). g w m.device i) h.stands.holds_are ∙ sym (same i)) in
    let now : after s (mark s (Moves m)) w m.device ≡ holds_at us w m.device =
    fun_ext (λ i. after_is s ts r.mark (mark s (Moves m)) h.stands step.1 w m.device i ∙ sym (by.holds_are w m.device i)) in
    sym
    (ap (λ f. motions_of s f w) step.0
    ∙ motion_sent s m w low high
    ∙ ap (λ b. cond b (sent_motion s m (changed m) w (s.holds w m.device) (after s (mark s (Moves m)) w m.device)) []) (eq-eqb m.device m.device refl)
    ∙ ap₂ (sent_motion s m (changed m) w) was now
    ∙ still_moves s m w (holds_at us w m.device) (is_move r m steady opt))

pub gets_moved : (m : Motion) (r : Round) (us : List Touches) (to : Listener) (t u : Table) → IsSteady r → option_copied r.motion ≡ Some m
    → 1 ≤ m.device → m.device ≤ 8 → SendsOne to (moved to.covers.now us m to.window) t u → GetsMoves r us to t u
gets_moved m r us to t u steady opt low high says = record {
  gets =
      record {
        motions = ms;
        few = subst (λ o. length ms ≤ most_motions o (input_of t to.window)) (sym opt) (omega (arith, one));
        outgoing = says;
        by_rules = λ s e ts by h holds. moves_by_rules m r ts us s e to.window steady opt low high by h;
      };
  few = at_most;
}
  where
    ms : List Motion
    ms = moves m.device (listing (holds_at us to.window m.device) m.pointers)

    one : length ms ≤ 1
    one = few_moves m.device (listing (holds_at us to.window m.device) m.pointers)

    at_most : length ms ≤ most_moves (option_copied r.motion)
    at_most = subst (λ o. length ms ≤ most_moves o) (sym opt) one

pub gets_nothing : (r : Round) (us : List Touches) (to : Listener) (t : Table) → IsSteady r → option_copied r.motion ≡ None → GetsMoves r us to t t
gets_nothing r us to t steady opt = record {
  gets =
      record {
        motions = [];
        few = omega arith;
        outgoing = sends_none to t;
        by_rules = λ s e ts by h holds.
            none_all s e r.mark to.window (subst (λ o. IsStepIn s ts r.mark o r.watchers e) opt h.step_is) (ap may_take steady.mark_is);
      };
  few = omega arith;
}

-- there is room for the keys
pub room_for_steady_round : (r : Round) (us : List Touches) (to : Listener) (t u : Table) (keys : List KeyMsg)
    → GetsMoves r us to t u → keys ≡ keys_to r.target r.keys.now to.window → CanBeSent to.window (most_steady r to.window) t
    → CanBeSent to.window (length keys) u
room_for_steady_round r us to t u keys h is can =
    let size : length (told to.covers.now to.window h.gets.motions) ≡ length h.gets.motions = told-length to.covers.now to.window h.gets.motions in
    let few = h.few in
    let many : length keys ≡ length (keys_to r.target r.keys.now to.window) = ap length is in
    gets_after to (told to.covers.now to.window h.gets.motions) _ _ t u h.gets.outgoing can (omega (arith, size, few, many))

-- it is sent all of the round
pub gets_steady : (r : Round) (us : List Touches) (to : Listener) (t u v : Table) (keys : List KeyMsg) → IsSteady r
    → GetsMoves r us to t u → SendsOne to (map Key keys) u v → keys ≡ keys_to r.target r.keys.now to.window
    → GetsRound r us None to t v
gets_steady r us to t u v keys steady h p is =
    gets_round r us None to t u v v keys None h.gets p (sends_none to v) is (sym (no_change r.lost r.gained to.window steady.lost_is steady.gained_is))

-- and that spends no more than the most
motions_leave : (to : Listener) (ms : List Motion) (keys : List KeyMsg) → bodies_tracked (told to.covers.now to.window ms) keys ≡ keys
motions_leave to [] keys = refl
motions_leave to (m ∷ ms) keys = motions_leave to ms keys

pub spends_steady : (r : Round) (us : List Touches) (to : Listener) (t u v : Table) (keys : List KeyMsg)
    → GetsMoves r us to t u → SendsOne to (map Key keys) u v → keys ≡ keys_to r.target r.keys.now to.window
    → SpendsSteady r t v to.window
spends_steady r us to t u v keys h p is =
    let ms : List Motion = h.gets.motions in
    let motions : length (told to.covers.now to.window ms) ≡ length ms = told-length to.covers.now to.window ms in
    let many : length (map Key keys) ≡ length keys = length-map keys Key in
    let as_keys : length keys ≡ length (keys_to r.target r.keys.now to.window) = ap length is in
    let few = h.few in
    let first : (channel_of u to.window).spare ≡ (channel_of t to.window).spare - length (told to.covers.now to.window ms) =
    ap (λ s. s.spare) h.gets.outgoing.channel_is ∙ with_bodies-spare (told to.covers.now to.window ms) to.origin to.clock (channel_of t to.window) in
    let last : (channel_of v to.window).spare ≡ (channel_of u to.window).spare - length (map Key keys) =
    ap (λ s. s.spare) p.channel_is ∙ with_bodies-spare (map Key keys) to.origin to.clock (channel_of u to.window) in
    record {
      room = omega (arith, first, last, motions, many, as_keys, few);
      track_room = omega (arith, h.gets.outgoing.track_spare, p.track_spare, motions, many, as_keys, few);
      keys_are =
          p.tracks.keys_are
          ∙ ap₂ (λ (ks held : List KeyMsg). bodies_tracked (map Key ks) held) is
          (h.gets.outgoing.tracks.keys_are ∙ motions_leave to ms (input_of t to.window).keys);
    }

-- ---- one window after another

-- what a channel spends that was as it was before, or stays as it is
spends_left : (r : Round) (t u v : Table) (w : ℕ) → IsLeft t u w → SpendsSteady r u v w → SpendsSteady r t v w
spends_left r t u v w same h =
    let spare : (channel_of u w).spare ≡ (channel_of t w).spare = ap (λ s. s.spare) same.0 in
    let track : (input_of u w).spare ≡ (input_of t w).spare = ap (λ i. i.spare) same.1 in
    record {
      room = omega (arith, h.room, spare);
      track_room = omega (arith, h.track_room, track);
      keys_are = h.keys_are ∙ ap (λ i. bodies_tracked (map Key (keys_to r.target r.keys.now w)) i.keys) same.1;
    }

left_spends : (r : Round) (t u v : Table) (w : ℕ) → SpendsSteady r t u w → IsLeft u v w → SpendsSteady r t v w
left_spends r t u v w h same =
    let spare : (channel_of v w).spare ≡ (channel_of u w).spare = ap (λ s. s.spare) same.0 in
    let track : (input_of v w).spare ≡ (input_of u w).spare = ap (λ i. i.spare) same.1 in
    record {
      room = omega (arith, h.room, spare);
      track_room = omega (arith, h.track_room, track);
      keys_are = ap (λ i. i.keys) same.1 ∙ h.keys_are;
    }

pub spends_next : (r : Round) (mask rest k : ℕ) (t u v : Table) → mask_has rest k ≡ true → IsLeft t u k
    → ((c : ℕ) → 1 ≤ c → c ≢ k → IsLeft u v c)
    → ((c : ℕ) → reached mask rest c ≡ true → SpendsSteady r t u c) → SpendsSteady r u v k
    → (c : ℕ) → reached mask (mask_less rest (mask_with 0 k)) c ≡ true → SpendsSteady r t v c
spends_next r mask rest k t u v e still others before here c recipient = elim (cases_eq c k) [
  | inl same ↦ subst (SpendsSteady r t v) (sym same) (spends_left r t u v k still here)
  | inr ne ↦
      let from : 1 ≤ c = channel_low mask c (and_parts (mask_has mask c) (not (mask_has (mask_less rest (mask_with 0 k)) c)) recipient).0 in
      left_spends r t u v c (before c (sym (reached_other mask rest k c e ne) ∙ recipient)) (others c from ne)
]

-- what is published takes no room
pub published_steady : (r : Round) (mask clock : ℕ) (t u v : Table) → Publishes mask clock u v → (c : ℕ) → 1 ≤ c → SpendsSteady r t u c → SpendsSteady r t v c
published_steady r mask clock t u v q c low h =
    let spare : (channel_of v c).spare ≡ (channel_of u c).spare = ap (λ s. s.spare) (q.channels_are c low) ∙ by_test (mask_has mask c && mask_has u.live c) in
    let input : input_of v c ≡ input_of u c = ap (λ is. input_of (record u { inputs = is }) c) q.inputs_are in
    let track : (input_of v c).spare ≡ (input_of u c).spare = ap (λ i. i.spare) input in
    record {
      room = omega (arith, h.room, spare);
      track_room = omega (arith, h.track_room, track);
      keys_are = ap (λ i. i.keys) input ∙ h.keys_are;
    }
  where
    by_test : (b : Bool) → (cond b (published_at clock (channel_of u c)) (channel_of u c)).spare ≡ (channel_of u c).spare
    by_test true = refl
    by_test false = refl

-- ---- room

pub more_steady : (r : Round) (t u : Table) (c : ℕ) → NoLessRoom t u → HasSteadyRoom r t c → HasSteadyRoom r u c
more_steady r t u c more h =
    let a = (more c).0 in
    let b = (more c).1 in
    (omega (arith, a, h.0), omega (arith, b, h.1))

pub steady_next : (r : Round) (mask rest k : ℕ) (t u : Table) → mask_has rest k ≡ true → NoLessRoom t u → HasSteadyRoom r u k
    → ((c : ℕ) → reached mask rest c ≡ true → HasSteadyRoom r t c)
    → (c : ℕ) → reached mask (mask_less rest (mask_with 0 k)) c ≡ true → HasSteadyRoom r u c
steady_next r mask rest k t u e more here before c recipient = elim (cases_eq c k) [
  | inl same ↦ subst (HasSteadyRoom r u) (sym same) here
  | inr ne ↦ more_steady r t u c more (before c (sym (reached_other mask rest k c e ne) ∙ recipient))
]
