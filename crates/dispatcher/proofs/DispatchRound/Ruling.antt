-- What is sent is what the rules say.
use Rattle.std.proofs.Common.{◌≡◌, ◌≢◌, ◌⊎◌, ℕ, zero, suc, ◌-◌, ◌≤◌, ◌==◌, nat_le, get_or, Bool, true, false, not, ◌&&◌, ◌||◌, cond, List, [], ◌∷◌, ◌++◌, flat_map, Option, Some, None, refl, sym, ap, ap₂, ◌∙◌, arith, append-nil, inl, inr}
use Rattle.std.specs.List.{list_any}
use Rattle.std.proofs.lemmas.Bool.{cases_eq, eq-eqb, ne_eqb, le-leb, leb-true, and_parts, and_from, both_ways, true≢false}
use Rattle.bits32.specs.Set.{is_in}
use Rattle.input_types.specs.declared.key.KeyMsg.{KeyMsg}
use Rattle.input_types.specs.declared.motion.Motion.{Motion}
use Rattle.input_types.specs.declared.pointer.Pointer.{Pointer}
use Rattle.window_snapshot.specs.Mask.{is_channel, mask_has, mask_with}
use Rattle.window_snapshot.proofs.Masks.{mask_has-with, mask_has-zero}
use Rattle.routing_rules.specs.Scene.{Scene, Step, Moves, NoOp as NoOps, Removes}
use Rattle.routing_rules.specs.Given.{changed, mark}
use Rattle.routing_rules.specs.Outgoing.{listing, after, outgoing, sent_motion, devices}
use Rattle.routing_rules.proofs.SentLaws.{quiet_cancels}
use Rattle.dispatcher.specs.CancelSynthesis.Ends.{pointers_cancelled}
use Rattle.dispatcher.specs.CancelSynthesis.Tracked.{Tracked, is_device, pointers_of}
use Rattle.dispatcher.proofs.CancelSynthesis.PointerEnds.{cancels_law}
use Rattle.pilfer_monitor.specs.Pilfer.{set_of}
use Rattle.touch_state.specs.Touches.{Touches}
use Rattle.route_split.specs.declared.mark.Mark.{Mark}
use Rattle.route_split.specs.declared.mark.Mark.TheVariants.{NoOp, Give, Lift, Slip, Empty, Pilfer, Unnamed, Mute, Forget}
use Rattle.route_split.specs.declared.sends.Sends.{Sends}
use Rattle.route_split.specs.declared.sends.Sends.TheVariants.{Nothing, One, Cancels}
use Rattle.route_split.specs.Tables.{Stands, holds_at}
use Rattle.route_split.specs.Marking.{IsWhole, IsStepOf, IsChanged, AreLosses, is_forget, holds_after, may_be_sent}
use Rattle.route_split.specs.Sending.{IsSent}
use Rattle.route_split.proofs.SentBy.{after_is, sent_cancels, nothing_sent, still_held}
use Rattle.route_split.proofs.Steps.{other_law}
use Rattle.route_split.proofs.Quiet.{quiet_law}
use Rattle.dispatcher.specs.KeyTables.Focused.{change_of, change_sent}
use Rattle.dispatcher.specs.WindowCovers.Covers.{CoverTable}
use Rattle.dispatcher.specs.declared.dispatch_round.round.Round.{Round}
use Rattle.dispatcher.specs.DispatchRound.Bodies.{motions_of, keys_to, bodies_of}
use Rattle.dispatcher.specs.DispatchRound.Rounds.{IsStepIn, IsRound, HoldsPointers, may_take, may_reach, keyed, is_concerned, sent_in}
use Rattle.dispatcher.specs.DispatchRound.Saying.{motions_by, losses, pilfered_from}

-- what was found for a device
pub found_sent : (x : Sends) (ms : List Motion) (d : ℕ) (last had : List Pointer) (before : ℕ → Bool)
    → had ≡ listing before last → IsSent x ms d last before → motions_by x d had ≡ ms
found_sent Nothing ms d last had before is h = sym h
found_sent (One m) ms d last had before is h = sym h
found_sent (Cancels lost) ms d last had before is h =
    ap (pointers_cancelled d (λ i. is_in i lost)) is
    ∙ cancels_law d last before (λ i. before i && not (is_in i lost)) (λ i. is_in i lost) (λ i. refl)
    ∙ sym h

-- what a step that is no motion takes of a device
both_held : (b h : Bool) → (h ≡ true → b ≡ true) → h ≡ (b && not (not h))
both_held true true f = refl
both_held true false f = refl
both_held false true f = sym (f refl)
both_held false false f = refl

pub losses_sent : (s : Scene) (e : Step) (ts us : List Touches) (k : Mark) (lost : Option (List ℕ)) (w d : ℕ) (input : Tracked)
    → Stands s ts → IsStepOf k e → is_forget k ≡ false → IsChanged ts us k lost → pointers_of input d ≡ listing (s.holds w d) (s.last d)
    → losses us w input d ≡ outgoing s e w d
losses_sent s e ts us k lost w d input f h stays by is =
    let was : (i : ℕ) → s.holds w d i ≡ holds_at ts w d i = λ i. ap (λ (g : ℕ → ℕ → ℕ → Bool). g w d i) f.holds_are in
    let now : (i : ℕ) → after s (mark s e) w d i ≡ holds_at us w d i =
    λ i. after_is s ts k (mark s e) f (other_law s ts k e f h) w d i ∙ sym (by.holds_are w d i) in
    let same : (i : ℕ) → after s (mark s e) w d i ≡ (s.holds w d i && not (not (holds_at us w d i))) =
    λ i. now i ∙ both_held (s.holds w d i) (holds_at us w d i) (λ l. was i ∙ still_held ts k e w d i h (sym (by.holds_are w d i) ∙ l)) in
    ap (pointers_cancelled d (λ i. not (holds_at us w d i))) is
    ∙ cancels_law d (s.last d) (s.holds w d) (after s (mark s e) w d) (λ i. not (holds_at us w d i)) same
    ∙ sym (sent_cancels s k e w d h stays)

pub takes_no_forget : (k : Mark) → may_take k ≡ true → is_forget k ≡ false
takes_no_forget (Forget window) e = absurd (true≢false (sym e))
takes_no_forget NoOp e = refl
takes_no_forget (Give device id windows) e = refl
takes_no_forget (Lift device id) e = refl
takes_no_forget (Slip device id from to) e = refl
takes_no_forget (Empty device) e = refl
takes_no_forget (Pilfer device window) e = refl
takes_no_forget (Unnamed windows) e = refl
takes_no_forget (Mute channels) e = refl

-- device by device
pub same_devices : (f g : ℕ → List Motion) → ((d : ℕ) → 1 ≤ d → d ≤ 8 → f d ≡ g d) → flat_map f devices ≡ flat_map g devices
same_devices f g h =
    rw (
      h 1 (omega arith) (omega arith),
      h 2 (omega arith) (omega arith),
      h 3 (omega arith) (omega arith),
      h 4 (omega arith) (omega arith),
      h 5 (omega arith) (omega arith),
      h 6 (omega arith) (omega arith),
      h 7 (omega arith) (omega arith),
      h 8 (omega arith) (omega arith),
    ) refl

one_of : (g : ℕ → List Motion) (n : ℕ) → 1 ≤ n → n ≤ 8 → flat_map (λ d. cond (n == d) (g d) []) devices ≡ g n
one_of g zero low high = absurd (omega (arith, low))
one_of g (suc zero) low high = append-nil (g 1)
one_of g (suc (suc zero)) low high = append-nil (g 2)
one_of g (suc (suc (suc zero))) low high = append-nil (g 3)
one_of g (suc (suc (suc (suc zero)))) low high = append-nil (g 4)
one_of g (suc (suc (suc (suc (suc zero))))) low high = append-nil (g 5)
one_of g (suc (suc (suc (suc (suc (suc zero)))))) low high = append-nil (g 6)
one_of g (suc (suc (suc (suc (suc (suc (suc zero))))))) low high = append-nil (g 7)
one_of g (suc (suc (suc (suc (suc (suc (suc (suc zero)))))))) low high = append-nil (g 8)
one_of g (suc (suc (suc (suc (suc (suc (suc (suc (suc n))))))))) low high = absurd (omega (arith, high))

pub motion_sent : (s : Scene) (m : Motion) (w : ℕ) → 1 ≤ m.device → m.device ≤ 8 → motions_of s (Moves m) w ≡ outgoing s (Moves m) w m.device
motion_sent s m w low high =
    let g : ℕ → List Motion = λ d. sent_motion s m (changed m) w (s.holds w d) (after s (mark s (Moves m)) w d) in
    one_of g m.device low high ∙ sym (ap (λ b. cond b (g m.device) []) (eq-eqb m.device m.device refl))

pub found_all : (s : Scene) (e : Step) (m : Motion) (w : ℕ) (x : Sends) (had : List Pointer)
    → e ≡ Moves m → 1 ≤ m.device → m.device ≤ 8 → had ≡ listing (s.holds w m.device) (s.last m.device)
    → IsSent x (outgoing s (Moves m) w m.device) m.device (s.last m.device) (s.holds w m.device)
    → motions_by x m.device had ≡ motions_of s e w
found_all s e m w x had is low high holds h =
    found_sent x (outgoing s (Moves m) w m.device) m.device (s.last m.device) had (s.holds w m.device) holds h
    ∙ sym (motion_sent s m w low high)
    ∙ sym (ap (λ f. motions_of s f w) is)

pub lost_all : (s : Scene) (e : Step) (ts us : List Touches) (k : Mark) (lost : Option (List ℕ)) (w : ℕ) (input : Tracked)
    → Stands s ts → IsStepOf k e → may_take k ≡ true → IsChanged ts us k lost → HoldsPointers s w input
    → flat_map (losses us w input) devices ≡ motions_of s e w
lost_all s e ts us k lost w input f h takes by holds =
    same_devices (losses us w input) (outgoing s e w)
    (λ d low high. losses_sent s e ts us k lost w d input f h (takes_no_forget k takes) by (holds d low high))

-- what a window loses to one that pilfers, of the one device
not_lost : (h n p : Bool) → (h && not (n && p)) ≡ (h && not (h && (n && p)))
not_lost true n p = refl
not_lost false n p = refl

regrouped : (a b c : Bool) → b ≡ true → (a && b && c) ≡ (a && c)
regrouped true b c e = ap (λ x. x && c) e
regrouped false b c e = refl

none_of : (a b c h : Bool) → b ≡ false → (h && not (a && b && c)) ≡ h
none_of a b c true e = ap (λ x. not (a && x && c)) e ∙ free a
  where
    free : (x : Bool) → not (x && false && c) ≡ true
    free true = refl
    free false = refl
none_of a b c false e = refl

pub pilfered_all : (s : Scene) (e : Step) (ts : List Touches) (k : Mark) (lost : List ℕ) (w : ℕ) (input : Tracked)
    → Stands s ts → IsStepOf k e → AreLosses ts k lost → HoldsPointers s w input
    → pilfered_from k lost w input ≡ motions_of s e w
pilfered_all s e ts (Pilfer device spy) lost w input f h are holds = by_range (is_device device) refl
  where
    now : (d i : ℕ) → after s (mark s e) w d i ≡ holds_after ts (Pilfer device spy) w d i
    now d i = after_is s ts (Pilfer device spy) (mark s e) f (other_law s ts (Pilfer device spy) e f h) w d i

    was : (d i : ℕ) → s.holds w d i ≡ holds_at ts w d i
    was d i = ap (λ (g : ℕ → ℕ → ℕ → Bool). g w d i) f.holds_are

    same : (i : ℕ) → after s (mark s e) w device i ≡ (s.holds w device i && not (is_in i (set_of lost w)))
    same i =
        now device i
        ∙ ap (λ b. holds_at ts w device i && not b) (regrouped (not (w == spy)) (device == device) (holds_at ts spy device i) (eq-eqb device device refl))
        ∙ not_lost (holds_at ts w device i) (not (w == spy)) (holds_at ts spy device i)
        ∙ ap₂ (λ a b. a && not b) (sym (was device i)) (sym (are w i))

    here : 1 ≤ device → device ≤ 8 → pilfered_from (Pilfer device spy) lost w input ≡ outgoing s e w device
    here low high =
        ap (pointers_cancelled device (λ i. is_in i (set_of lost w))) (holds device low high)
        ∙ cancels_law device (s.last device) (s.holds w device) (after s (mark s e) w device) (λ i. is_in i (set_of lost w)) same
        ∙ sym (sent_cancels s (Pilfer device spy) e w device h refl)

    there : (d : ℕ) → d ≢ device → outgoing s e w d ≡ []
    there d ne =
        sent_cancels s (Pilfer device spy) e w d h refl
        ∙ quiet_cancels d (s.last d) (s.holds w d) (after s (mark s e) w d)
        (λ i. now d i ∙ none_of (not (w == spy)) (d == device) (holds_at ts spy device i) (holds_at ts w d i) (ne_eqb d device ne) ∙ sym (was d i))

    at : (d : ℕ) → (d ≡ device) ⊎ (d ≢ device) → outgoing s e w d ≡ cond (device == d) (outgoing s e w d) []
    at d (inl is) = sym (ap (λ b. cond b (outgoing s e w d) []) (eq-eqb device d (sym is)))
    at d (inr ne) = there d ne ∙ sym (ap (λ b. cond b (outgoing s e w d) []) (ne_eqb device d (λ q. ne (sym q))))

    by_range : (b : Bool) → is_device device ≡ b → pilfered_from (Pilfer device spy) lost w input ≡ motions_of s e w
    by_range true is =
        let both = and_parts (nat_le 1 device) (nat_le device 8) is in
        let low = leb-true 1 device both.0 in
        let high = leb-true device 8 both.1 in
        here low high
        ∙ sym (one_of (outgoing s e w) device low high)
        ∙ sym (same_devices (outgoing s e w) (λ d. cond (device == d) (outgoing s e w d) []) (λ d from to. at d (cases_eq d device)))
    by_range false is =
        ap (λ b. pointers_cancelled device (λ i. is_in i (set_of lost w)) (cond b (get_or input.pointers (device - 1) []) [])) is
        ∙ sym (same_devices (outgoing s e w) (λ d. [])
        (λ d from to. there d (λ q. both_ways (is_device device) is (ap is_device (sym q) ∙ and_from (nat_le 1 d) (nat_le d 8) (le-leb 1 d from) (le-leb d 8 to)))))
pilfered_all s e ts NoOp lost w input f h are holds = absurd are
pilfered_all s e ts (Give device id windows) lost w input f h are holds = absurd are
pilfered_all s e ts (Lift device id) lost w input f h are holds = absurd are
pilfered_all s e ts (Slip device id from to) lost w input f h are holds = absurd are
pilfered_all s e ts (Empty device) lost w input f h are holds = absurd are
pilfered_all s e ts (Unnamed windows) lost w input f h are holds = absurd are
pilfered_all s e ts (Mute channels) lost w input f h are holds = absurd are
pilfered_all s e ts (Forget window) lost w input f h are holds = absurd are

no_op_sent : (s : Scene) (e : Step) (k : Mark) (w d : ℕ) → IsStepOf k e → may_take k ≡ false → outgoing s e w d ≡ []
no_op_sent s (Removes v) (Forget window) w d h e = refl
no_op_sent s NoOps NoOp w d h e = refl
no_op_sent s e NoOp w d h none = at e h
  where
    at : (e : Step) → IsStepOf NoOp e → outgoing s e w d ≡ []
    at NoOps h = refl
    at _ h = absurd h
no_op_sent s e (Forget window) w d h none = nothing_sent s (Forget window) e w d h refl
no_op_sent s e (Give device id windows) w d h none = absurd (true≢false none)
no_op_sent s e (Lift device id) w d h none = absurd (true≢false none)
no_op_sent s e (Slip device id from to) w d h none = absurd (true≢false none)
no_op_sent s e (Empty device) w d h none = absurd (true≢false none)
no_op_sent s e (Pilfer device window) w d h none = absurd (true≢false none)
no_op_sent s e (Unnamed windows) w d h none = absurd (true≢false none)
no_op_sent s e (Mute channels) w d h none = absurd (true≢false none)

pub none_all : (s : Scene) (e : Step) (k : Mark) (w : ℕ) → IsStepOf k e → may_take k ≡ false → [] ≡ motions_of s e w
none_all s e k w h none = sym (same_devices (outgoing s e w) (λ d. []) (λ d low high. no_op_sent s e k w d h none))

-- a window that is not concerned
neither : (a b : Bool) → (a || b) ≡ false → (a ≡ false) × (b ≡ false)
neither true b e = absurd (both_ways true e refl)
neither false b e = (refl, e)

none_get : (p : ℕ → Bool) (f : ℕ → List Motion) (ds : List ℕ) → list_any p ds ≡ false → ((d : ℕ) → p d ≡ false → f d ≡ []) → flat_map f ds ≡ []
none_get p f [] none h = refl
none_get p f (d ∷ ds) none h =
    let both = neither (p d) (list_any p ds) none in
    ap₂ (λ (xs ys : List Motion). xs ++ ys) (h d both.0) (none_get p f ds both.1 h)

quiet_motions : (s : Scene) (e : Step) (ts : List Touches) (k : Mark) (o : Option Motion) (watchers w : ℕ)
    → Stands s ts → IsWhole k → IsStepIn s ts k o watchers e → may_reach ts k o watchers w ≡ false → motions_of s e w ≡ []
quiet_motions s e ts k (Some m) watchers w f whole h none =
    let both = neither (may_be_sent ts k w m.device) (mask_has watchers w) none in
    ap (λ x. motions_of s x w) h.0
    ∙ same_devices (outgoing s (Moves m) w) (λ d. []) (λ d low high. at d both (cases_eq m.device d))
  where
    here : (d : ℕ) → m.device ≡ d → may_be_sent ts k w m.device ≡ false → mask_has watchers w ≡ false → outgoing s (Moves m) w d ≡ []
    here d same a b =
        ap (outgoing s (Moves m) w) (sym same)
        ∙ (quiet_law s ts k w m.device f whole a).0 m h.1 (sym (h.3 w) ∙ b)

    at : (d : ℕ) → (may_be_sent ts k w m.device ≡ false) × (mask_has watchers w ≡ false) → (m.device ≡ d) ⊎ (m.device ≢ d) → outgoing s (Moves m) w d ≡ []
    at d both (inl same) = here d same both.0 both.1
    at d both (inr ne) = ap (λ b. cond b (sent_motion s m (changed m) w (s.holds w d) (after s (mark s (Moves m)) w d)) []) (ne_eqb m.device d ne)
quiet_motions s e ts k None watchers w f whole h none = at (may_take k) refl
  where
    at : (b : Bool) → may_take k ≡ b → motions_of s e w ≡ []
    at false rests = sym (none_all s e k w h rests)
    at true does =
        none_get (may_be_sent ts k w) (outgoing s e w) devices (sym (ap (λ b. b && list_any (may_be_sent ts k w) devices) does) ∙ none)
        (λ d quiet. (quiet_law s ts k w d f whole quiet).1 e h)

quiet_keys : (keys : List KeyMsg) (target w : ℕ) → is_channel w ≡ true → mask_has (keyed keys target) w ≡ false → keys_to target keys w ≡ []
quiet_keys [] target w is none = at (w == target)
  where
    at : (b : Bool) → cond {A = List KeyMsg} b [] [] ≡ []
    at true = refl
    at false = refl
quiet_keys (m ∷ ms) target w is none = elim (cases_eq w target) [
  | inl same ↦ absurd (both_ways (mask_has (mask_with 0 target) w) none
      (mask_has-with 0 target w
      ∙ ap₂ (λ a b. a || b) (mask_has-zero w) (ap₂ (λ a b. a && b) is (eq-eqb target w (sym same)))))
  | inr ne ↦ ap (λ b. cond b (m ∷ ms) []) (ne_eqb w target ne)
]

quiet_change : (lost gained w : ℕ) → mask_has lost w ≡ false → mask_has gained w ≡ false → change_sent (change_of lost gained w) ≡ []
quiet_change lost gained w a b =
    ap₂ (λ x y. change_sent (cond x (Some false) (cond y (Some true) None))) a b

pub quiet_sent : (covers : CoverTable) (s : Scene) (e : Step) (ts : List Touches) (r : Round) (w : ℕ)
    → IsRound s e ts r → IsWhole r.mark → is_channel w ≡ true → is_concerned ts r w ≡ false → sent_in covers r s e w ≡ []
quiet_sent covers s e ts r w h whole is none =
    let a = neither _ (mask_has r.gained w) none in
    let b = neither _ (mask_has r.lost w) a.0 in
    let d = neither _ (mask_has (keyed r.keys.now r.target) w) b.0 in
    let motions = quiet_motions s e ts r.mark _ r.watchers w h.stands whole h.step_is d.0 in
    let keys = quiet_keys r.keys.now r.target w is d.1 in
    ap₂ (λ ms ks. bodies_of covers w ms ks (change_of r.lost r.gained w)) motions keys ∙ quiet_change r.lost r.gained w b.1 a.1
