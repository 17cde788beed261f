-- A window that holds nothing and is given nothing is sent nothing.
use Rattle.std.proofs.Common.{ℕ, Bool, true, false, not, ◌&&◌, ◌||◌, ◌==◌, ◌≡◌, ◌≢◌, ◌⊎◌, if◌then◌else◌, [], ◌∷◌, Option, Some, None, refl, sym, ap, ap₂, ◌∙◌, inl, inr}
use Rattle.std.proofs.lemmas.Bool.{cases_Bool, cases_eq, eq-eqb, ne_eqb, both_ways, and_right}
use Rattle.input_types.specs.declared.motion.Motion.{Motion}
use Rattle.input_types.specs.declared.pointer.Pointer.{Pointer}
use Rattle.window_snapshot.specs.Mask.{is_channel, mask_has}
use Rattle.routing_rules.specs.Scene.{Scene, Step, Moves}
use Rattle.routing_rules.specs.Given.{mark, changed}
use Rattle.routing_rules.specs.Outgoing.{after, outgoing, sent_motion, moves, or_else, is_up, plain}
use Rattle.routing_rules.specs.Taking.{takes}
use Rattle.routing_rules.proofs.SentLaws.{quiet_cancels}
use Rattle.input_types.specs.declared.motion.MotionAction.TheVariants.{Outside}
use Rattle.touch_state.specs.Touches.{Touches, held, holds, any}
use Rattle.touch_state.proofs.Sets.{not_empty, and_false}
use Rattle.route_split.specs.declared.mark.Mark.{Mark}
use Rattle.route_split.specs.declared.mark.Mark.TheVariants.{NoOp, Give, Lift, Slip, Empty, Pilfer, Unnamed, Mute, Forget}
use Rattle.route_split.specs.Tables.{table_of, any_at}
use Rattle.route_split.specs.Marking.{gives, taking, holds_after, is_given_some, is_forget, IsWhole, IsMark, IsStepOf}
use Rattle.route_split.specs.Sending.{QuietLaw}
use Rattle.routing_rules.specs.Watching.{is_watching}
use Rattle.route_split.proofs.Steps.{other_law}
use Rattle.route_split.proofs.SendingLaws.{none_listed}
use Rattle.route_split.proofs.SentBy.{after_is, sent_cancels, nothing_sent}

neither : (a b : Bool) → (a || b) ≡ false → (a ≡ false) × (b ≡ false)
neither true b e = absurd (both_ways true e refl)
neither false b e = (refl, e)

-- it gives nothing
nothing_given : (k : Mark) (w d i : ℕ) → IsWhole k → is_given_some k w d ≡ false → gives k w d i ≡ false
nothing_given (Give device id windows) w d i h e = regroup (d == device) (mask_has windows w) (i == id) e
  where
    regroup : (a b c : Bool) → (a && b) ≡ false → (a && (b && c)) ≡ false
    regroup true true c e = absurd (both_ways true e refl)
    regroup true false c e = refl
    regroup false b c e = refl
nothing_given (Slip device id from to) w d i h e =
    elim (cases_eq w to) [
      | inl q ↦
          let channel : is_channel w ≡ true = ap is_channel q ∙ h.1 in
          let off : (d == device) ≡ false = sym (true_right (d == device)) ∙ sym (ap₂ (λ x y. d == device && (x && y)) channel (eq-eqb w to q)) ∙ e in
          ap (λ b. b && (w == to && i == id)) off
      | inr n ↦ ap (λ b. d == device && (b && i == id)) (ne_eqb w to n) ∙ and_false (d == device)
    ]
  where
    true_right : (b : Bool) → (b && true) ≡ b
    true_right true = refl
    true_right false = refl
nothing_given NoOp w d i h e = refl
nothing_given (Lift device id) w d i h e = refl
nothing_given (Empty device) w d i h e = refl
nothing_given (Pilfer device window) w d i h e = refl
nothing_given (Unnamed stays) w d i h e = refl
nothing_given (Mute channels) w d i h e = refl
nothing_given (Forget window) w d i h e = refl

-- it holds nothing before, and nothing later
nothing_held : (t : Touches) (w i : ℕ) → any t w ≡ false → holds t w i ≡ false
nothing_held t w i n =
    elim (cases_Bool (holds t w i)) [
      | inl h ↦ absurd (both_ways (any t w) n (ap not (not_empty i (held t w) h)))
      | inr f ↦ f
    ]

-- a motion about nothing of it
silent : (s : Scene) (m : Motion) (o : Option Pointer) (w : ℕ) (before later : ℕ → Bool) → ((i : ℕ) → before i ≡ false) → ((i : ℕ) → later i ≡ false)
    → is_watching s m o w ≡ false → sent_motion s m o w before later ≡ []
silent s m None w before later b l e =
    ap₂ or_else (quiet_cancels m.device (s.last m.device) before later (λ i. l i ∙ sym (b i)))
    (ap (moves m.device) (none_listed later m.pointers l))
silent s m (Some p) w before later b l e =
    rw (l p.id, and_right (is_up m.action) (before p.id) (b p.id))
    (ap₂ or_else (quiet_cancels m.device (s.last m.device) before later (λ i. l i ∙ sym (b i)))
    (ap₂ or_else (ap (moves m.device) (none_listed later m.pointers l)) (ap (λ c. if c then plain m.device Outside (p ∷ []) ∷ [] else []) e)))

pub quiet_law : QuietLaw
quiet_law s ts k w d f whole none = (
  λ m is e. by_device m is e (cases_eq m.device d),
  λ e h. by_forget e h (is_forget k) refl,
)
  where
    held_none : (i : ℕ) → s.holds w d i ≡ false
    held_none i = ap (λ (g : ℕ → ℕ → ℕ → Bool). g w d i) f.holds_are ∙ nothing_held (table_of ts d) w i (neither (any_at ts w d) (is_given_some k w d) none).0

    later_none : (i : ℕ) → holds_after ts k w d i ≡ false
    later_none i =
        ap₂ (λ g h. g || h && not (takes (taking ts k) w d i)) (nothing_given k w d i whole (neither (any_at ts w d) (is_given_some k w d) none).1)
        (nothing_held (table_of ts d) w i (neither (any_at ts w d) (is_given_some k w d) none).0)

    by_device : (m : Motion) → IsMark ts k (mark s (Moves m)) → is_watching s m (changed m) w ≡ false → (m.device ≡ d) ⊎ (m.device ≢ d) → outgoing s (Moves m) w d ≡ []
    by_device m is e (inl q) =
        ap (λ b. if b then sent_motion s m (changed m) w (s.holds w d) (after s (mark s (Moves m)) w d) else []) (eq-eqb m.device d q)
        ∙ silent s m (changed m) w (s.holds w d) (after s (mark s (Moves m)) w d) held_none (λ i. after_is s ts k (mark s (Moves m)) f is w d i ∙ later_none i) e
    by_device m is e (inr n) =
        ap (λ b. if b then sent_motion s m (changed m) w (s.holds w d) (after s (mark s (Moves m)) w d) else []) (ne_eqb m.device d n)

    by_forget : (e : Step) → IsStepOf k e → (b : Bool) → is_forget k ≡ b → outgoing s e w d ≡ []
    by_forget e h true q = nothing_sent s k e w d h q
    by_forget e h false q =
        sent_cancels s k e w d h q
        ∙ quiet_cancels d (s.last d) (s.holds w d) (after s (mark s e) w d)
        (λ i. after_is s ts k (mark s e) f (other_law s ts k e f h) w d i ∙ later_none i ∙ sym (held_none i))
