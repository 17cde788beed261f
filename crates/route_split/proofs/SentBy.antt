-- What the rules send, if what is held before and after is known.
use Rattle.std.specs.Prelude.{IfSome}
use Rattle.std.proofs.Common.{ℕ, Bool, true, false, not, ◌&&◌, ◌||◌, ◌==◌, ◌≡◌, if◌then◌else◌, List, [], Option, Some, None, refl, sym, ap, ap₂, ◌∙◌, subst}
use Rattle.std.specs.List.{list_any}
use Rattle.std.proofs.lemmas.Bool.{eq-eqb, both_ways, true≢false}
use Rattle.input_types.specs.declared.motion.Motion.{Motion}
use Rattle.input_types.specs.declared.motion.MotionAction.{MotionAction}
use Rattle.input_types.specs.declared.motion.MotionAction.TheVariants.{Down, Up, Move, Cancel, Outside, PointerDown, PointerUp}
use Rattle.input_types.specs.declared.pointer.Pointer.{Pointer}
use Rattle.routing_rules.specs.Pairs.{has}
use Rattle.routing_rules.specs.Taking.{takes}
use Rattle.routing_rules.specs.Marks.{Mark as RuleMark}
use Rattle.routing_rules.specs.Scene.{Scene, Step, Moves, Resets, Pilfers, Shows, Mutes, Removes, NoOp as NoOps}
use Rattle.routing_rules.specs.Choice.{takers}
use Rattle.routing_rules.specs.Slip.{Slip as RuleSlip, slip}
use Rattle.routing_rules.specs.Given.{mark, given_by, changed, slips_in}
use Rattle.routing_rules.specs.Outgoing.{after, outgoing, sent_motion, cancels}
use Rattle.routing_rules.proofs.SentLaws.{quiet_cancels}
use Rattle.touch_state.specs.Touches.{Touches}
use Rattle.touch_state.proofs.Sets.{and_false, and_true}
use Rattle.route_split.specs.declared.mark.Mark.{Mark}
use Rattle.route_split.specs.declared.mark.Mark.TheVariants.{NoOp, Empty, Pilfer, Unnamed, Mute, Forget}
use Rattle.route_split.specs.declared.sends.Sends.{Sends}
use Rattle.route_split.specs.Tables.{table_of, holds_at, Stands}
use Rattle.route_split.specs.Marking.{gives, taking, IsMark, IsStepOf, is_forget, holds_after}
use Rattle.route_split.specs.Sending.{IsSent, OnlyNew}
use Rattle.route_split.proofs.Changing.{held_channel}
use Rattle.route_split.proofs.Found.{has_pairs, symmetric}
use Rattle.route_split.proofs.FollowingLaws.{kept_of}

-- what a window holds after a step is what the tables find
pub after_is : (s : Scene) (ts : List Touches) (k : Mark) (m : RuleMark) → Stands s ts → IsMark ts k m → (w d i : ℕ) → after s m w d i ≡ holds_after ts k w d i
after_is s ts k m f is w d i =
    ap₂ (λ g h. g || h && not (takes m.taken w d i)) (is.given_are w d i) (ap (λ (g : ℕ → ℕ → ℕ → Bool). g w d i) f.holds_are)
    ∙ ap (λ b. gives k w d i || b)
    (kept_of (holds_at ts w d i) (takes m.taken w d i) (takes (taking ts k) w d i) (λ h. is.taken_are w d i (held_channel (table_of ts d) w i h)))

-- a motion gives its changed pointer alone
slip_gives : (d i' : ℕ) (o : Option RuleSlip) (w e i : ℕ) → (i == i') ≡ false → has (slips_in d i' o) w e i ≡ false
slip_gives d i' None w e i n = refl
slip_gives d i' (Some x) w e i n = ap (λ b. x.to == w && d == e && b || false) (symmetric i' i ∙ n) ∙ ap (λ b. b || false) (and_false (x.to == w && d == e))

down_gives : (s : Scene) (m : Motion) (p : Pointer) (w d i : ℕ) → (i == p.id) ≡ false → has (given_by s m Down (Some p)) w d i ≡ false
down_gives s m p w d i n =
    has_pairs m.device p.id (takers s m.device p.at) w d i
    ∙ ap (λ b. d == m.device && (list_any (λ v. v == w) (takers s m.device p.at) && b)) n
    ∙ ap (λ b. d == m.device && b) (and_false (list_any (λ v. v == w) (takers s m.device p.at))) ∙ and_false (d == m.device)

given_alone : (s : Scene) (m : Motion) (a : MotionAction) (p : Pointer) (w d i : ℕ) → (i == p.id) ≡ false → has (given_by s m a (Some p)) w d i ≡ false
given_alone s m Down p w d i n = down_gives s m p w d i n
given_alone s m PointerDown p w d i n = down_gives s m p w d i n
given_alone s m Move p w d i n = slip_gives m.device p.id (slip s m) w d i n
given_alone s m Up p w d i n = refl
given_alone s m PointerUp p w d i n = refl
given_alone s m Cancel p w d i n = refl
given_alone s m Outside p w d i n = refl

given_never : (s : Scene) (m : Motion) (a : MotionAction) (w d i : ℕ) → has (given_by s m a None) w d i ≡ false
given_never s m Down w d i = refl
given_never s m PointerDown w d i = refl
given_never s m Move w d i = refl
given_never s m Up w d i = refl
given_never s m PointerUp w d i = refl
given_never s m Cancel w d i = refl
given_never s m Outside w d i = refl

was_held : (g h t : Bool) → g ≡ false → (g || h && not t) ≡ true → h ≡ true
was_held g true t e x = refl
was_held g false t e x = absurd (both_ways (g || false) (ap (λ b. b || false) e) x)

only_new_at : (s : Scene) (m : Motion) (w d : ℕ) (t : ℕ → Bool) (o : Option Pointer)
    → OnlyNew o (s.holds w d) (λ i. has (given_by s m m.action o) w d i || s.holds w d i && not (t i))
only_new_at s m w d t None = λ i l. was_held _ (s.holds w d i) (t i) (given_never s m m.action w d i) l
only_new_at s m w d t (Some p) = λ i n l. was_held _ (s.holds w d i) (t i) (given_alone s m m.action p w d i n) l

pub only_new : (s : Scene) (m : Motion) (w : ℕ) (before later : ℕ → Bool) → s.holds w m.device ≡ before → after s (mark s (Moves m)) w m.device ≡ later
    → OnlyNew (changed m) before later
only_new s m w before later p q =
    subst (λ b. OnlyNew (changed m) b later) p
    (subst (λ l. OnlyNew (changed m) (s.holds w m.device) l) q (only_new_at s m w m.device (λ i. takes (mark s (Moves m)).taken w m.device i) (changed m)))

-- what is sent for a motion
pub sent_by : (s : Scene) (m : Motion) (w : ℕ) (t : Sends) (before later : ℕ → Bool) → s.holds w m.device ≡ before → after s (mark s (Moves m)) w m.device ≡ later
    → IsSent t (sent_motion s m (changed m) w before later) m.device (s.last m.device) before
    → IsSent t (outgoing s (Moves m) w m.device) m.device (s.last m.device) (s.holds w m.device)
sent_by s m w t before later p q is =
    let e : outgoing s (Moves m) w m.device ≡ sent_motion s m (changed m) w before later =
    ap (λ b. if b then sent_motion s m (changed m) w (s.holds w m.device) (after s (mark s (Moves m)) w m.device) else []) (eq-eqb m.device m.device refl)
    ∙ ap₂ (sent_motion s m (changed m) w) p q in
    subst (λ b. IsSent t (outgoing s (Moves m) w m.device) m.device (s.last m.device) b) (sym p)
    (subst (λ ms. IsSent t ms m.device (s.last m.device) before) (sym e) is)

-- what is sent at a step that is no motion
pub gives_none : (k : Mark) (e : Step) (w d i : ℕ) → IsStepOf k e → gives k w d i ≡ false
gives_none (Empty device) (Resets v) w d i h = refl
gives_none (Pilfer device window) (Pilfers v x) w d i h = refl
gives_none (Unnamed stays) (Shows names) w d i h = refl
gives_none (Mute channels) (Mutes muted) w d i h = refl
gives_none (Forget window) (Removes v) w d i h = refl
gives_none NoOp NoOps w d i h = refl
gives_none _ _ w d i h = absurd h

pub sent_cancels : (s : Scene) (k : Mark) (e : Step) (w d : ℕ) → IsStepOf k e → is_forget k ≡ false
    → outgoing s e w d ≡ cancels d (s.last d) (s.holds w d) (after s (mark s e) w d)
sent_cancels s (Empty device) (Resets v) w d h n = refl
sent_cancels s (Pilfer device window) (Pilfers v x) w d h n = refl
sent_cancels s (Unnamed stays) (Shows names) w d h n = refl
sent_cancels s (Mute channels) (Mutes muted) w d h n = refl
sent_cancels s (Forget window) (Removes v) w d h n = absurd (true≢false n)
sent_cancels s NoOp NoOps w d h n = sym (quiet_cancels d (s.last d) (s.holds w d) (after s (mark s NoOps) w d) (λ j. sym (and_true (s.holds w d j))))
sent_cancels s _ _ w d h n = absurd h

pub nothing_sent : (s : Scene) (k : Mark) (e : Step) (w d : ℕ) → IsStepOf k e → is_forget k ≡ true → outgoing s e w d ≡ []
nothing_sent s (Forget window) (Removes v) w d h n = refl
nothing_sent s (Empty device) (Resets v) w d h n = absurd (true≢false (sym n))
nothing_sent s (Pilfer device window) (Pilfers v x) w d h n = absurd (true≢false (sym n))
nothing_sent s (Unnamed stays) (Shows names) w d h n = absurd (true≢false (sym n))
nothing_sent s (Mute channels) (Mutes muted) w d h n = absurd (true≢false (sym n))
nothing_sent s NoOp NoOps w d h n = absurd (true≢false (sym n))
nothing_sent s _ _ w d h n = absurd h

pub lost_by : (s : Scene) (k : Mark) (e : Step) (w d : ℕ) (t : Sends) (before later : ℕ → Bool) → IsStepOf k e → is_forget k ≡ false
    → s.holds w d ≡ before → after s (mark s e) w d ≡ later → IsSent t (cancels d (s.last d) before later) d (s.last d) before
    → IsSent t (outgoing s e w d) d (s.last d) (s.holds w d)
lost_by s k e w d t before later h n p q is =
    subst (λ b. IsSent t (outgoing s e w d) d (s.last d) b) (sym p)
    (subst (λ ms. IsSent t ms d (s.last d) before) (sym (sent_cancels s k e w d h n ∙ ap₂ (cancels d (s.last d)) p q)) is)

pub still_held : (ts : List Touches) (k : Mark) (e : Step) (w d i : ℕ) → IsStepOf k e → holds_after ts k w d i ≡ true → holds_at ts w d i ≡ true
still_held ts k e w d i h l = was_held (gives k w d i) (holds_at ts w d i) (takes (taking ts k) w d i) (gives_none k e w d i h) l

-- what follows for each value follows for an optional one
pub then_some : {A : Type 0} {P Q : A → Type 0} (o : Option A) → IfSome o P → ((x : A) → P x → Q x) → IfSome o Q
then_some None h f = tt
then_some (Some x) h f = f x h
