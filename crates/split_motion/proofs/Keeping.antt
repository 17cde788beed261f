-- What a window holds after a motion without a slip.
use Rattle.std.proofs.Common.{ℕ, Bool, true, false, not, cond, ◌&&◌, ◌||◌, ◌≡◌, length, Some, None, if◌then◌else◌, refl, sym, ap, ap₂, ◌∙◌, inr}
use Rattle.std.proofs.lemmas.Bool.{eq-eqb, both_ways, true≢false}
use Rattle.input_types.specs.declared.motion.Motion.{Motion}
use Rattle.input_types.specs.declared.motion.MotionAction.{MotionAction}
use Rattle.input_types.specs.declared.motion.MotionAction.TheVariants.{Down, Up, Move, Cancel, Outside, PointerDown, PointerUp}
use Rattle.input_types.specs.declared.pointer.Pointer.{Pointer}
use Rattle.input_types.specs.DeviceRule.{is_of_device}
use Rattle.input_types.specs.Gestures.{after_motion}
use Rattle.routing_rules.specs.Pairs.{has}
use Rattle.routing_rules.specs.Taking.{takes}
use Rattle.routing_rules.specs.Scene.{Scene}
use Rattle.routing_rules.specs.Slip.{slip}
use Rattle.routing_rules.specs.Given.{changed, given_by, taken_by, slips_in, slips_out}
use Rattle.routing_rules.specs.Outgoing.{is_up, is_down}
use Rattle.routing_rules.proofs.Listings.{apart_rising}
use Rattle.routing_rules.proofs.MotionKind.{Kind, opens, moves, closes, kind_at}
use Rattle.routing_rules.proofs.Changes.{other_way, after_apart, after_up}
use Rattle.routing_rules.proofs.SentLaws.{fresh_id}
use Rattle.split_motion.specs.Laws.{KeepsLaw}
use Rattle.split_motion.proofs.SplitLaws.{up_not_down}

-- a motion that is neither a down nor an up, without a slip, gives and takes nothing
nothing_moved : (s : Scene) (m : Motion) (a : MotionAction) (p : Pointer) (w : ℕ) → is_down a ≡ false → is_up a ≡ false → slip s m ≡ None
    → (has (given_by s m a (Some p)) w m.device p.id ≡ false) × (takes (taken_by s m a (Some p)) w m.device p.id ≡ false)
nothing_moved s m Down p w d u e = absurd (true≢false d)
nothing_moved s m PointerDown p w d u e = absurd (true≢false d)
nothing_moved s m Up p w d u e = absurd (true≢false u)
nothing_moved s m PointerUp p w d u e = absurd (true≢false u)
nothing_moved s m Cancel p w d u e = absurd (true≢false u)
nothing_moved s m Outside p w d u e = (refl, refl)
nothing_moved s m Move p w d u e = (
  ap (λ x. has (slips_in m.device p.id x) w m.device p.id) e,
  ap (λ x. takes (slips_out m.device p.id x) w m.device p.id) e,
)

as_before : (g b t : Bool) → g ≡ false → t ≡ false → (g || b && not t) ≡ b
as_before g b t e f = ap₂ (λ x y. x || b && not y) e f ∙ and_true b
  where
    and_true : (c : Bool) → (c && true) ≡ c
    and_true true = refl
    and_true false = refl

pub keeps_law : KeepsLaw
keeps_law s m p w down next f r n c e =
    record {
      others = λ i d. after_apart s m p c w m.device i (inr (other_way i p.id d));
      fresh = λ d. fresh d kind;
      gone = λ u. after_up s m p c w u;
      still = λ d u.
          let x = nothing_moved s m m.action p w d u e in
          as_before (has (given_by s m m.action (changed m)) w m.device p.id) (s.holds w m.device p.id) (takes (taken_by s m m.action (changed m)) w m.device p.id)
          (ap (λ o. has (given_by s m m.action o) w m.device p.id) c ∙ x.0) (ap (λ o. takes (taken_by s m m.action o) w m.device p.id) c ∙ x.1);
    }
  where
    came : (b : Bool) → is_of_device m.action (length m.pointers) ≡ b → cond b (after_motion down m) None ≡ Some next → Kind m down next
    came true o h = kind_at m down next m.action refl o h
    came false o h = cc

    kind : Kind m down next
    kind =
        came (is_of_device m.action (length m.pointers)) refl
        (sym (ap (λ b. if b then (if is_of_device m.action (length m.pointers) then after_motion down m else None) else Some down) (eq-eqb m.device m.device refl)) ∙ n)

    fresh : is_down m.action ≡ true → Kind m down next → s.holds w m.device p.id ≡ false
    fresh d (opens q g o h) = fresh_id s m p w down f (apart_rising m.pointers r) c o
    fresh d (moves o h u v) = absurd (both_ways (is_down m.action) v d)
    fresh d (closes q g o h u) = absurd (both_ways (is_down m.action) (up_not_down m.action u) d)
