-- Masks of candidates and targets.
use Rattle.std.proofs.Common.{◌≡◌, ℕ, Bool, true, false, not, ◌&&◌, ◌||◌, ◌==◌, Option, Some, None, refl, sym, ap, ap₂, ◌∙◌, bit_and}
use Rattle.input_types.specs.declared.axis.Pixel.{Pixel}
use Rattle.input_types.specs.declared.motion.Motion.{Motion}
use Rattle.input_types.specs.declared.pointer.Pointer.{Pointer}
use Rattle.window_snapshot.specs.Hits.{is_spy_at}
use Rattle.window_snapshot.specs.Occlusion.{is_blocked_at}
use Rattle.window_snapshot.specs.Mask.{is_channel, mask_has, mask_with}
use Rattle.window_snapshot.proofs.Masks.{mask_has-with}
use Rattle.window_snapshot.proofs.Parts.{mask_has-and}
use Rattle.routing_rules.specs.Scene.{Scene}
use Rattle.routing_rules.specs.Choice.{is_candidate, is_candidate_of}
use Rattle.route_split.proofs.Found.{left_over, symmetric}
use Rattle.why_text.specs.Down.{down_of, targets}
use Rattle.why_text.proofs.PartLaws.{given_is}
use Rattle.why_lines.specs.Causes.{Comes}
use Rattle.why_text.proofs.OutsideLaws.{outside_law}
use Rattle.routing_rules.specs.Watching.{is_watching}

pub or_turned : (a b : Bool) → (a || b) ≡ (b || a)
or_turned true true = refl
or_turned true false = refl
or_turned false true = refl
or_turned false false = refl

pub and_turned : (a b : Bool) → (a && b) ≡ (b && a)
and_turned true true = refl
and_turned true false = refl
and_turned false true = refl
and_turned false false = refl

-- the chosen window and the spies
pub with_chosen : (spies c w : ℕ) → is_channel w ≡ true → mask_has (mask_with spies c) w ≡ (w == c || mask_has spies w)
with_chosen spies c w number =
    mask_has-with spies c w
    ∙ ap (λ b. mask_has spies w || (b && (c == w))) number
    ∙ or_turned (mask_has spies w) (c == w)
    ∙ ap (λ b. b || mask_has spies w) (symmetric c w)

-- spies by a mask are the spies at the place
pub same_candidates : (s : Scene) (d : ℕ) (at : Pixel) (o : Option ℕ) (spies : ℕ → Bool) (w : ℕ) → spies w ≡ is_spy_at s.windows (s.reach d) at.x at.y w
    → is_candidate_of o spies w ≡ is_candidate s d at o w
same_candidates s d at None spies w e = e
same_candidates s d at (Some c) spies w e = ap (λ b. w == c || b) e

-- the targets that are able
pub able_targets : (s : Scene) (m : Motion) (p : Pointer) (mask able w : ℕ) → s.able ≡ mask_has able → mask_has mask w ≡ targets s m p w
    → mask_has (bit_and mask able) w ≡ (targets s m p w && s.able w)
able_targets s m p mask able w e has = mask_has-and mask able w ∙ ap₂ (λ a b. a && b) has (sym (ap (λ f. f w) e))

regroup : (a b c : Bool) → ((a && b) && c) ≡ (a && (b && c))
regroup true b c = refl
regroup false b c = refl

-- of those, the windows that are blocked
pub blocked_targets : (s : Scene) (m : Motion) (p : Pointer) (blocked able w : ℕ) → mask_has able w ≡ (targets s m p w && s.able w)
    → mask_has blocked w ≡ (mask_has able w && is_blocked_at s.windows (s.reach m.device) p.at.x p.at.y w)
    → mask_has blocked w ≡ (down_of s m p).blocked w
blocked_targets s m p blocked able w can is =
    let k = is_blocked_at s.windows (s.reach m.device) p.at.x p.at.y w in
    is ∙ ap (λ b. b && k) can ∙ regroup (targets s m p w) (s.able w) k

-- and the others are given it
pub given_targets : (s : Scene) (m : Motion) (p : Pointer) (given blocked able w : ℕ) → mask_has given w ≡ (not (mask_has blocked w) && mask_has able w)
    → mask_has able w ≡ (targets s m p w && s.able w)
    → mask_has blocked w ≡ (mask_has able w && is_blocked_at s.windows (s.reach m.device) p.at.x p.at.y w)
    → mask_has given w ≡ (down_of s m p).given w
given_targets s m p given blocked able w rest can is =
    let k = is_blocked_at s.windows (s.reach m.device) p.at.x p.at.y w in
    rest
    ∙ ap₂ (λ x y. not x && y) (is ∙ ap (λ b. b && k) can) can
    ∙ left_over (targets s m p w) (s.able w) k
    ∙ sym (given_is s m p w)

-- those who watch and are not given it are sent a touch outside
pub watching_rest : (s : Scene) (m : Motion) (p : Pointer) (r watchers given w : ℕ) → Comes s m p
    → mask_has r w ≡ (not (mask_has given w) && mask_has watchers w)
    → mask_has given w ≡ (down_of s m p).given w
    → mask_has watchers w ≡ is_watching s m (Some p) w
    → mask_has r w ≡ (down_of s m p).outside w
watching_rest s m p r watchers given w k rest has watches =
    rest
    ∙ ap₂ (λ a b. not a && b) has watches
    ∙ and_turned (not ((down_of s m p).given w)) (is_watching s m (Some p) w)
    ∙ sym (outside_law s m p w k.down k.next k.fits k.rises k.comes k.changed_is k.goes_down)
