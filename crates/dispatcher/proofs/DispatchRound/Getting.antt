-- A window is sent what the round has for it.
use Rattle.std.proofs.Common.{◌≡◌, ℕ, ◌&&◌, ◌+◌, ◌-◌, ◌++◌, ◌≤◌, Bool, true, false, List, [], ◌∷◌, length, map, flat_map, Option, Some, None, refl, sym, ap, ◌∙◌, subst, arith, length-append}
use Rattle.std.specs.Prelude.{IfSome}
use Rattle.std.specs.Option.{option_copied}
use Rattle.std.proofs.lemmas.List.{length-map}
use Rattle.bits32.specs.Set.{is_in}
use Rattle.input_types.specs.declared.key.KeyMsg.{KeyMsg}
use Rattle.input_types.specs.declared.message.Body.{Body}
use Rattle.input_types.specs.declared.message.Body.TheVariants.{Key}
use Rattle.input_types.specs.declared.motion.Motion.{Motion}
use Rattle.window_snapshot.specs.Mask.{mask_has}
use Rattle.routing_rules.specs.Scene.{Scene, Moves}
use Rattle.routing_rules.specs.Given.{changed, mark}
use Rattle.routing_rules.specs.Outgoing.{after, outgoing, devices}
use Rattle.routing_rules.proofs.Listings.{has_id, has_id-listing}
use Rattle.dispatcher.specs.CancelSynthesis.Tracked.{pointers_of, keys_then}
use Rattle.touch_state.specs.Touches.{Touches}
use Rattle.route_split.specs.declared.sends.Sends.{Sends}
use Rattle.route_split.specs.Tables.{holds_at}
use Rattle.route_split.specs.Marking.{AreLosses}
use Rattle.route_split.specs.Sending.{IsSent, IsListed}
use Rattle.route_split.proofs.SentBy.{after_is}
use Rattle.routing_rules.specs.Watching.{is_watching}
use Rattle.dispatcher.specs.KeyTables.Focused.{change_of, change_sent}
use Rattle.dispatcher.specs.KeyTables.Held.{bodies_tracked}
use Rattle.dispatcher.specs.DispatchChannels.Table.{Table, channel_of, input_of}
use Rattle.dispatcher.specs.declared.dispatch_round.round.Round.{Round}
use Rattle.dispatcher.specs.declared.dispatch_round.listener.Listener.{Listener}
use Rattle.dispatcher.specs.DispatchRound.Bodies.{told, keys_to, bodies_of}
use Rattle.dispatcher.specs.DispatchRound.Rounds.{IsStepIn, may_take, most_motions, most_bodies}
use Rattle.dispatcher.specs.DispatchRound.Saying.{CanBeSent, SendsOne, motions_by, losses, pilfered_from, GetsMotions, GetsRound, Spends}
use Rattle.dispatcher.proofs.DispatchRound.Saying.{sends_none, sends_then, gets_after, with_bodies-spare}
use Rattle.dispatcher.proofs.DispatchRound.Telling.{told-length, told_keys}
use Rattle.dispatcher.proofs.DispatchRound.Cancelling.{found_few, all_losses_few, pilfered_few}
use Rattle.dispatcher.proofs.DispatchRound.Ruling.{found_all, lost_all, pilfered_all, none_all}

-- what holds of a value where there is one
pub of_some : {A : Type 0} (P : A → Type 0) (o : Option A) (x : A) → o ≡ Some x → IfSome o P → P x
of_some P o x e h = subst (λ q. IfSome q P) e h

-- at a motion what was found for its device
pub gets_found : (r : Round) (us : List Touches) (to : Listener) (t u : Table) (m : Motion) (x : Sends) (before : ℕ) (watches : Bool) (lost : Option (List ℕ))
    → option_copied r.motion ≡ Some m → 1 ≤ m.device → m.device ≤ 8 → watches ≡ mask_has r.watchers to.window
    → ((i : ℕ) → is_in i before ≡ has_id i (pointers_of (input_of t to.window) m.device))
    → ((s : Scene) → ((i : ℕ) → s.holds to.window m.device i ≡ is_in i before)
    → ((i : ℕ) → after s (mark s (Moves m)) to.window m.device i ≡ holds_at us to.window m.device i)
    → IsListed s m.device → watches ≡ is_watching s m (changed m) to.window
    → IsSent x (outgoing s (Moves m) to.window m.device) m.device (s.last m.device) (s.holds to.window m.device))
    → SendsOne to (told to.covers.now to.window (motions_by x m.device (pointers_of (input_of t to.window) m.device))) t u
    → GetsMotions r us lost to t u
gets_found r us to t u m x before watches lost opt low high seen ids found says = record {
  motions = motions_by x m.device (pointers_of (input_of t to.window) m.device);
  few = subst (λ o. length (motions_by x m.device (pointers_of (input_of t to.window) m.device)) ≤ most_motions o (input_of t to.window)) (sym opt)
      (found_few x m.device (pointers_of (input_of t to.window) m.device));
  outgoing = says;
  by_rules = λ s e ts by h holds.
      let step = subst (λ o. IsStepIn s ts r.mark o r.watchers e) opt h.step_is in
      found_all s e m to.window x (pointers_of (input_of t to.window) m.device) step.0 low high (holds m.device low high)
      (found s
      (λ i. sym (ids i ∙ ap (has_id i) (holds m.device low high) ∙ has_id-listing (s.holds to.window m.device) i (s.last m.device)
      ∙ is_listed (s.holds to.window m.device i) (has_id i (s.last m.device)) (step.2 to.window i)))
      (λ i. after_is s ts r.mark (mark s (Moves m)) h.stands step.1 to.window m.device i ∙ sym (by.holds_are to.window m.device i))
      step.2 (seen ∙ step.3 to.window));
}
  where
    is_listed : (b l : Bool) → (b ≡ true → l ≡ true) → (b && l) ≡ b
    is_listed true l f = f refl
    is_listed false l f = refl

-- at another step what is taken
pub gets_lost : (r : Round) (us : List Touches) (to : Listener) (t u : Table) (lost : Option (List ℕ))
    → option_copied r.motion ≡ None → may_take r.mark ≡ true
    → SendsOne to (told to.covers.now to.window (flat_map (losses us to.window (input_of t to.window)) devices)) t u
    → GetsMotions r us lost to t u
gets_lost r us to t u lost opt takes says = record {
  motions = flat_map (losses us to.window (input_of t to.window)) devices;
  few = subst (λ o. length (flat_map (losses us to.window (input_of t to.window)) devices) ≤ most_motions o (input_of t to.window)) (sym opt)
      (all_losses_few us to.window (input_of t to.window) devices);
  outgoing = says;
  by_rules = λ s e ts by h holds.
      lost_all s e ts us r.mark lost to.window (input_of t to.window) h.stands (subst (λ o. IsStepIn s ts r.mark o r.watchers e) opt h.step_is) takes by holds;
}

-- and what a window loses to one that pilfers
pub gets_pilfered : (r : Round) (us : List Touches) (to : Listener) (t u : Table) (o : Option (List ℕ)) (lost : List ℕ)
    → option_copied r.motion ≡ None → o ≡ Some lost
    → SendsOne to (told to.covers.now to.window (pilfered_from r.mark lost to.window (input_of t to.window))) t u
    → GetsMotions r us o to t u
gets_pilfered r us to t u o lost opt some says = record {
  motions = pilfered_from r.mark lost to.window (input_of t to.window);
  few = subst (λ o. length (pilfered_from r.mark lost to.window (input_of t to.window)) ≤ most_motions o (input_of t to.window)) (sym opt)
      (pilfered_few r.mark lost to.window (input_of t to.window));
  outgoing = says;
  by_rules = λ s e ts by h holds.
      pilfered_all s e ts r.mark lost to.window (input_of t to.window) h.stands (subst (λ o. IsStepIn s ts r.mark o r.watchers e) opt h.step_is)
      (subst (λ o. IfSome o (AreLosses ts r.mark)) some by.losses_are) holds;
}

pub gets_none : (r : Round) (us : List Touches) (o : Option (List ℕ)) (to : Listener) (t : Table) → option_copied r.motion ≡ None → may_take r.mark ≡ false
    → GetsMotions r us o to t t
gets_none r us o to t opt rests = record {
  motions = [];
  few = omega arith;
  outgoing = sends_none to t;
  by_rules = λ s e ts by h holds. none_all s e r.mark to.window (subst (λ o. IsStepIn s ts r.mark o r.watchers e) opt h.step_is) rests;
}

-- there is room for the keys, and then for the change of the focus
pub room_for_keys : (r : Round) (us : List Touches) (o : Option (List ℕ)) (to : Listener) (t u : Table) (keys : List KeyMsg)
    → GetsMotions r us o to t u → keys ≡ keys_to r.target r.keys.now to.window
    → CanBeSent to.window (most_bodies r to.window (input_of t to.window)) t
    → CanBeSent to.window (length keys + length (change_sent (change_of r.lost r.gained to.window))) u
room_for_keys r us o to t u keys h is can =
    let size : length (told to.covers.now to.window h.motions) ≡ length h.motions = told-length to.covers.now to.window h.motions in
    let few = h.few in
    let many : length keys ≡ length (keys_to r.target r.keys.now to.window) = ap length is in
    gets_after to (told to.covers.now to.window h.motions) _ _ t u h.outgoing can (omega (arith, size, few, many))

pub room_for_change : (r : Round) (to : Listener) (t u : Table) (keys : List KeyMsg) (change : Option Bool)
    → SendsOne to (map Key keys) t u → change ≡ change_of r.lost r.gained to.window
    → CanBeSent to.window (length keys + length (change_sent (change_of r.lost r.gained to.window))) t
    → CanBeSent to.window (length (change_sent change)) u
room_for_change r to t u keys change h is can =
    let size : length (map Key keys) ≡ length keys = length-map keys Key in
    let many : length (change_sent change) ≡ length (change_sent (change_of r.lost r.gained to.window)) = ap (λ x. length (change_sent x)) is in
    gets_after to (map Key keys) _ _ t u h can (omega (arith, size, many))

-- a change of the focus leaves the keys
change_leaves : (bs : List Body) (change : Option Bool) (held : List KeyMsg)
    → bodies_tracked (bs ++ change_sent change) held ≡ bodies_tracked bs held
change_leaves [] None held = refl
change_leaves [] (Some b) held = refl
change_leaves (b ∷ bs) change held = change_leaves bs change (keys_then b held)

-- what is sent takes no more of the room than the most that may be sent
round_spends : (r : Round) (us : List Touches) (o : Option (List ℕ)) (to : Listener) (t u x : Table) (keys : List KeyMsg) (change : Option Bool)
    → (h : GetsMotions r us o to t u) → SendsOne to (bodies_of to.covers.now to.window h.motions keys change) t x
    → keys ≡ keys_to r.target r.keys.now to.window → change ≡ change_of r.lost r.gained to.window
    → Spends r to.window t x
round_spends r us o to t u x keys change h outgoing k c =
    let bodies = bodies_of to.covers.now to.window h.motions keys change in
    let motions : length (told to.covers.now to.window h.motions) ≡ length h.motions = told-length to.covers.now to.window h.motions in
    let many : length (map Key keys) ≡ length keys = length-map keys Key in
    let both = told to.covers.now to.window h.motions ++ map Key keys in
    let rest : length both ≡ length (told to.covers.now to.window h.motions) + length (map Key keys) = length-append (told to.covers.now to.window h.motions) (map Key keys) in
    let size : length bodies ≡ length both + length (change_sent change) = length-append both (change_sent change) in
    let as_keys : length keys ≡ length (keys_to r.target r.keys.now to.window) = ap length k in
    let as_change : length (change_sent change) ≡ length (change_sent (change_of r.lost r.gained to.window)) = ap (λ x. length (change_sent x)) c in
    let few = h.few in
    let spare : (channel_of x to.window).spare ≡ (channel_of t to.window).spare - length bodies =
    ap (λ s. s.spare) outgoing.channel_is ∙ with_bodies-spare bodies to.origin to.clock (channel_of t to.window) in
    record {
      room = omega (arith, spare, size, motions, rest, many, as_keys, as_change, few);
      track_room = omega (arith, outgoing.track_spare, size, motions, rest, many, as_keys, as_change, few);
      keys_are =
          outgoing.tracks.keys_are
          ∙ change_leaves both change (input_of t to.window).keys
          ∙ told_keys to.covers.now to.window h.motions (map Key keys) (input_of t to.window).keys
          ∙ ap (λ ks. bodies_tracked (map Key ks) (input_of t to.window).keys) k;
    }

-- all together
pub gets_round : (r : Round) (us : List Touches) (o : Option (List ℕ)) (to : Listener) (t u v x : Table) (keys : List KeyMsg) (change : Option Bool)
    → GetsMotions r us o to t u → SendsOne to (map Key keys) u v → SendsOne to (change_sent change) v x
    → keys ≡ keys_to r.target r.keys.now to.window → change ≡ change_of r.lost r.gained to.window
    → GetsRound r us o to t x
gets_round r us o to t u v x keys change h p q k c = record {
  bodies = bodies_of to.covers.now to.window h.motions keys change;
  outgoing = all;
  spends = round_spends r us o to t u x keys change h all k c;
  by_rules = λ s e ts by round holds i. bodies_of to.covers.now to.window (h.by_rules s e ts by round holds i) (k i) (c i);
}
  where
    all : SendsOne to (bodies_of to.covers.now to.window h.motions keys change) t x
    all = sends_then to _ (change_sent change) t v x (sends_then to (told to.covers.now to.window h.motions) (map Key keys) t u v h.outgoing p) q
