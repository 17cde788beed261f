-- A channel that neither watches nor holds or is given anything is sent nothing of a motion.
use Rattle.std.proofs.Common.{◌≡◌, ℕ, ◌+◌, ◌<◌, Bool, true, false, not, ◌&&◌, ◌||◌, ◌==◌, cond, List, [], ◌∷◌, Option, Some, None, refl, ap, ap₂, sym, ◌∙◌, arith}
use Rattle.std.specs.Prelude.{if◌then◌else◌}
use Rattle.std.proofs.lemmas.Bool.{and_from, and_right, lt-ltb, le-leb}
use Rattle.input_types.specs.declared.pointer.Pointer.{Pointer}
use Rattle.input_types.specs.declared.motion.Motion.{Motion}
use Rattle.window_snapshot.specs.declared.window.Window.{Window}
use Rattle.window_snapshot.specs.Mask.{is_channel, mask_has, mask_with}
use Rattle.window_snapshot.proofs.Masks.{mask_has-with}
use Rattle.routing_rules.specs.Pairs.{has}
use Rattle.routing_rules.specs.Taking.{takes}
use Rattle.routing_rules.specs.Scene.{Scene}
use Rattle.routing_rules.specs.Given.{changed}
use Rattle.routing_rules.specs.Outgoing.{listing, cancels, cancels_of, moves, outside, is_up, or_else, sent_motion, after}
use Rattle.route_plain.specs.declared.hold.Hold.{Hold}
use Rattle.route_plain.specs.declared.loss.Loss.{Loss}
use Rattle.route_plain.specs.Holds.{pairs_of, channels_with}
use Rattle.route_plain.specs.Loss.{mark_of}
use Rattle.route_plain.specs.Sending.{sent_moved}
use Rattle.routing_rules.specs.Watching.{is_watching}

listing_none : (f : ℕ → Bool) (ps : List Pointer) → ((i : ℕ) → f i ≡ false) → listing f ps ≡ []
listing_none f [] n = refl
listing_none f (p ∷ ps) n = ap (λ b. cond b (p ∷ listing f ps) (listing f ps)) (n p.id) ∙ listing_none f ps n

none_then : (b : Bool) → b ≡ false → (xs ys : List Motion) → (if b then xs else ys) ≡ ys
none_then b e xs ys = ap (λ c. if c then xs else ys) e

nothing_else : (m : Motion) (last : List Pointer) (b l : ℕ → Bool) (ys : List Motion) → ((i : ℕ) → b i ≡ false) → ((i : ℕ) → l i ≡ false)
    → or_else (cancels m.device last b l) (or_else (moves m.device (listing l m.pointers)) ys) ≡ ys
nothing_else m last b l ys n o =
    ap₂ (λ xs zs. or_else (cancels_of m.device (listing b last) (listing l last) xs) (or_else (moves m.device zs) ys))
    (listing_none (λ i. b i && not (l i)) last (λ i. ap (λ c. c && not (l i)) (n i))) (listing_none l m.pointers o)

nothing_sent : (s : Scene) (m : Motion) (p : Option Pointer) (w : ℕ) (b l : ℕ → Bool) → is_watching s m p w ≡ false
    → ((i : ℕ) → b i ≡ false) → ((i : ℕ) → l i ≡ false) → sent_motion s m p w b l ≡ []
nothing_sent s m None w b l e n o =
    ap₂ (λ xs zs. or_else (cancels_of m.device (listing b (s.last m.device)) (listing l (s.last m.device)) xs) (moves m.device zs))
    (listing_none (λ i. b i && not (l i)) (s.last m.device) (λ i. ap (λ c. c && not (l i)) (n i))) (listing_none l m.pointers o)
nothing_sent s m (Some p) w b l e n o =
    none_then (l p.id && not (b p.id)) (ap (λ c. c && not (b p.id)) (o p.id)) _ _
    ∙ none_then (is_up m.action && b p.id) (and_right (is_up m.action) (b p.id) (n p.id)) _ _
    ∙ nothing_else m (s.last m.device) b l (outside s m p w) n o
    ∙ none_then (is_watching s m (Some p) w) e _ []

neither : (a b : Bool) → (a || b) ≡ false → (a ≡ false) × (b ≡ false)
neither false b e = (refl, e)
neither true b e = (e, ap (λ x. cond x b false) e)

unheld : (hs : List Hold) (mask c : ℕ) → is_channel c ≡ true → mask_has (channels_with mask hs) c ≡ false
    → (mask_has mask c ≡ false) × ((d i : ℕ) → has (pairs_of hs) c d i ≡ false)
unheld [] mask c k e = (e, λ d i. refl)
unheld (h ∷ hs) mask c k e =
    let rest = unheld hs (mask_with mask h.window) c k e in
    let both = neither (mask_has mask c) (is_channel c && (h.window == c)) (sym (mask_has-with mask h.window c) ∙ rest.0) in
    let other : (h.window == c) ≡ false = sym (ap (λ b. b && (h.window == c)) k) ∙ both.1 in
    (both.0, λ d i. ap (λ b. (b && h.device == d && h.id == i) || has (pairs_of hs) c d i) other ∙ rest.1 d i)

pub unconcerned : (s : Scene) (m : Motion) (ws : List Window) (gained : List Hold) (loss : Loss) (hs : List Hold) (watching c : ℕ) → s.holds ≡ has (pairs_of hs) → is_channel c ≡ true
    → mask_has watching c ≡ is_watching s m (changed m) c → mask_has (channels_with (channels_with watching hs) gained) c ≡ false
    → sent_moved s (mark_of ws gained loss) m c ≡ []
unconcerned s m ws gained loss hs watching c h k w e =
    let given = unheld gained (channels_with watching hs) c k e in
    let held = unheld hs watching c k given.0 in
    let none : (i : ℕ) → s.holds c m.device i ≡ false = λ i. ap (λ f. f c m.device i) h ∙ held.1 m.device i in
    nothing_sent s m (changed m) c (s.holds c m.device) (after s (mark_of ws gained loss) c m.device) (sym w ∙ held.0) none
    (λ i. ap₂ (λ a b. a || b && not (takes (mark_of ws gained loss).taken c m.device i)) (given.1 m.device i) (none i))

-- a number above one of 0 to 63 is that of a channel
pub one_of_64 : (k : ℕ) → k < 64 → is_channel (k + 1) ≡ true
one_of_64 k lt = and_from _ _ (lt-ltb 0 (k + 1) (omega arith)) (le-leb (k + 1) 64 (omega (arith, lt)))
