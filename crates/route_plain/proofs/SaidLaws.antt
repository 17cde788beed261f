-- What is said, channel by channel and device by device.
use Rattle.std.proofs.Common.{◌≡◌, ℕ, zero, suc, ◌+◌, ◌<◌, ◌≤◌, Bool, true, false, not, ◌&&◌, ◌==◌, List, [], ◌∷◌, ◌++◌, drop, Some, None, refl, ap, ap₂, sym, ◌∙◌, arith, add-one, append_assoc, append-nil}
use Rattle.std.proofs.lemmas.List.{map-append}
use Rattle.std.specs.Prelude.{flat_map, if◌then◌else◌}
use Rattle.std.proofs.Math.Path.{fun_ext}
use Rattle.input_types.specs.declared.pointer.Pointer.{Pointer}
use Rattle.input_types.specs.declared.motion.Motion.{Motion}
use Rattle.input_types.specs.declared.motion.MotionAction.TheVariants.{Outside}
use Rattle.window_snapshot.specs.declared.window.Window.{Window}
use Rattle.routing_rules.specs.Cover.{clear}
use Rattle.routing_rules.specs.Marks.{Mark}
use Rattle.routing_rules.specs.Scene.{Scene, Step, Moves, Resets, Pilfers, Shows, Mutes, Removes, NoOp}
use Rattle.routing_rules.specs.Given.{given, mark, changed}
use Rattle.routing_rules.specs.Outgoing.{devices, listing, plain, opening, closing, cancels, moves, is_up, is_cancelled, or_else, sent_motion, sent_with, sent_all, after}
use Rattle.route_plain.specs.declared.hold.Hold.{Hold}
use Rattle.route_plain.specs.declared.loss.Loss.{Loss}
use Rattle.route_plain.specs.declared.turn.Said.{Said}
use Rattle.route_plain.specs.declared.turn.Turn.{Turn}
use Rattle.route_plain.specs.declared.turn.Turn.TheVariants.{Pointers, Reset, Pilfer, Windows, Mute, Forget}
use Rattle.route_plain.specs.Holds.{pairs_of}
use Rattle.route_plain.specs.Loss.{mark_of}
use Rattle.route_plain.specs.Route.{step_of, to_channel, said_up_to, said_at}
use Rattle.route_plain.specs.Sending.{sent_moved, sent_lost, sent_losses}
use Rattle.routing_rules.specs.Watching.{is_watching, outside_of}
use Rattle.route_plain.specs.Changing.{IsChange}
use Rattle.route_plain.proofs.Gains.{pairs_of-gained}
use Rattle.route_plain.proofs.Listings.{or_else-nil}

-- nothing is said to no channel
pub said_none : (f : ℕ → List Motion) → said_up_to f 0 ≡ []
unfolding said_up_to
said_none f = refl

said_more : (f : ℕ → List Motion) (k : ℕ) → said_up_to f (suc k) ≡ said_up_to f k ++ to_channel (suc k) (f (suc k))
unfolding said_up_to
said_more f k = refl

-- one channel more
pub said_step : (f : ℕ → List Motion) (k : ℕ) (out new : List Said) (ms : List Motion)
    → new ≡ out ++ to_channel (k + 1) ms → out ≡ said_up_to f k → ms ≡ f (k + 1) → new ≡ said_up_to f (k + 1)
said_step f k out new ms e i m =
    e ∙ ap₂ (λ xs ys. xs ++ to_channel (k + 1) ys) i m ∙ ap (λ n. said_up_to f k ++ to_channel n (f n)) (add-one k) ∙ sym (said_more f k)
    ∙ ap (said_up_to f) (sym (add-one k))

-- if each channel is sent nothing, nothing is sent
pub said_nothing : (f : ℕ → List Motion) (n : ℕ) → ((c : ℕ) → f c ≡ []) → said_up_to f n ≡ []
said_nothing f zero e = said_none f
said_nothing f (suc n) e = said_more f n ∙ ap₂ (λ xs ms. xs ++ to_channel (suc n) ms) (said_nothing f n e) (e (suc n))

-- several motions, then the rest
pub say_many : (out : List Said) (c : ℕ) (ms ns : List Motion) → (out ++ to_channel c ms) ++ to_channel c ns ≡ out ++ to_channel c (ms ++ ns)
say_many out c ms ns = append_assoc out (to_channel c ms) (to_channel c ns) ∙ ap (λ xs. out ++ xs) (sym (map-append _ ms ns))

-- the devices from one on
pub devices_from : (k : ℕ) → k < 8 → drop k devices ≡ (k + 1) ∷ drop (k + 1) devices
devices_from zero lt = refl
devices_from (suc zero) lt = refl
devices_from (suc (suc zero)) lt = refl
devices_from (suc (suc (suc zero))) lt = refl
devices_from (suc (suc (suc (suc zero)))) lt = refl
devices_from (suc (suc (suc (suc (suc zero))))) lt = refl
devices_from (suc (suc (suc (suc (suc (suc zero)))))) lt = refl
devices_from (suc (suc (suc (suc (suc (suc (suc zero))))))) lt = refl
devices_from (suc (suc (suc (suc (suc (suc (suc (suc k)))))))) lt = absurd (omega (arith, lt))

pub losses_step : (f : ℕ → List Motion) (k : ℕ) → k < 8 → flat_map f (drop k devices) ≡ f (k + 1) ++ flat_map f (drop (k + 1) devices)
losses_step f k lt = ap (flat_map f) (devices_from k lt)

-- of the devices one alone is sent something
one_device : (f : ℕ → List Motion) (e : ℕ) → 1 ≤ e → e ≤ 8 → flat_map (λ d. if e == d then f d else []) devices ≡ f e
one_device f zero p q = absurd (omega (arith, p))
one_device f (suc zero) p q = append-nil (f 1)
one_device f (suc (suc zero)) p q = append-nil (f 2)
one_device f (suc (suc (suc zero))) p q = append-nil (f 3)
one_device f (suc (suc (suc (suc zero)))) p q = append-nil (f 4)
one_device f (suc (suc (suc (suc (suc zero))))) p q = append-nil (f 5)
one_device f (suc (suc (suc (suc (suc (suc zero)))))) p q = append-nil (f 6)
one_device f (suc (suc (suc (suc (suc (suc (suc zero))))))) p q = append-nil (f 7)
one_device f (suc (suc (suc (suc (suc (suc (suc (suc zero)))))))) p q = append-nil (f 8)
one_device f (suc (suc (suc (suc (suc (suc (suc (suc (suc e))))))))) p q = absurd (omega (arith, q))

-- what a motion is to a window, row by row
outside_by : (b : Bool) (d : ℕ) (p : Pointer) → (if b then plain d Outside (p ∷ []) ∷ [] else []) ≡ outside_of d (if b then Some p else None)
outside_by true d p = refl
outside_by false d p = refl

pub row_unchanged : (s : Scene) (m : Motion) (w : ℕ) (b l : ℕ → Bool)
    → or_else (cancels m.device (s.last m.device) b l) (or_else (moves m.device (listing l m.pointers)) (outside_of m.device None)) ≡ sent_motion s m None w b l
row_unchanged s m w b l = ap (or_else (cancels m.device (s.last m.device) b l)) (or_else-nil (moves m.device (listing l m.pointers)))

pub row_given : (s : Scene) (m : Motion) (p : Pointer) (w : ℕ) (b l : ℕ → Bool) → (l p.id && not (b p.id)) ≡ true
    → opening m.device p.id (listing l m.pointers) ∷ [] ≡ sent_motion s m (Some p) w b l
row_given s m p w b l e = rw e refl

pub row_up : (s : Scene) (m : Motion) (p : Pointer) (w : ℕ) (b l : ℕ → Bool) → (l p.id && not (b p.id)) ≡ false → (is_up m.action && b p.id) ≡ true
    → closing m.device p.id (is_cancelled m.action m.flags) (listing b m.pointers) ∷ [] ≡ sent_motion s m (Some p) w b l
row_up s m p w b l e f = rw (e, f) refl

pub row_rest : (s : Scene) (m : Motion) (p : Pointer) (w : ℕ) (b l : ℕ → Bool) → (l p.id && not (b p.id)) ≡ false → (is_up m.action && b p.id) ≡ false
    → or_else (cancels m.device (s.last m.device) b l)
    (or_else (moves m.device (listing l m.pointers)) (outside_of m.device (if is_watching s m (Some p) w then Some p else None)))
    ≡ sent_motion s m (Some p) w b l
row_rest s m p w b l e f =
    rw (e, f)
    (ap (λ ys. or_else (cancels m.device (s.last m.device) b l) (or_else (moves m.device (listing l m.pointers)) ys))
    (sym (outside_by (is_watching s m (Some p) w) m.device p)))

-- what is sent, by what is held before and later
pub same_sent : (s : Scene) (m : Motion) (w : ℕ) (b b' l l' : ℕ → Bool) → b ≡ b' → l ≡ l' → sent_motion s m (changed m) w b l ≡ sent_motion s m (changed m) w b' l'
same_sent s m w b b' l l' e f = λ k. sent_motion s m (changed m) w (e k) (f k)

pub same_cancels : (d : ℕ) (last last' : List Pointer) (b b' l l' : ℕ → Bool) → last ≡ last' → b ≡ b' → l ≡ l' → cancels d last b l ≡ cancels d last' b' l'
same_cancels d last last' b b' l l' e f g = λ k. cancels d (e k) (f k) (g k)

-- a mark without what lies over windows
abbrev bare : Mark → Mark
bare k = record { given = k.given; taken = k.taken; cover = λ w. clear }

-- the mark of a change is that of its step
mark_is : (s : Scene) (e : Step) (n : ℕ) (hs gained : List Hold) (loss : Loss) → IsChange s e n hs gained loss → mark_of s.windows gained loss ≡ bare (mark s e)
mark_is s e n hs gained loss x =
    let gains : pairs_of gained ≡ given s e = ap pairs_of x.gains ∙ pairs_of-gained n hs (given s e) in
    λ k. record { given = gains k; taken = x.loses k; cover = λ w. clear }

-- what is said of a motion is what the rules say
pub said_of_motion_is : (s : Scene) (m : Motion) (n : ℕ) (hs gained : List Hold) (loss : Loss)
    → IsChange s (Moves m) n hs gained loss → 1 ≤ m.device → m.device ≤ 8
    → said_up_to (sent_moved s (mark_of s.windows gained loss) m) 64 ≡ said_at s (Moves m)
said_of_motion_is s m n hs gained loss x p q =
    ap (λ (k : Mark). said_up_to (sent_moved s k m) 64) (mark_is s (Moves m) n hs gained loss x)
    ∙ ap (λ f. said_up_to f 64)
    (fun_ext
    (λ c. sym (one_device (λ d. sent_motion s m (changed m) c (s.holds c d) (after s (mark s (Moves m)) c d)) m.device p q)))

-- nothing is sent when a channel is removed
pub said_of_removal : (s : Scene) (c : ℕ) → said_at s (Removes c) ≡ []
said_of_removal s c = said_nothing (sent_all s (Removes c)) 64 (λ w. refl)

-- the step is none but a loss
abbrev pub IsLoss : Step → Type 0
IsLoss (Moves m) = ⊥
IsLoss (Removes c) = ⊥
IsLoss NoOp = ⊥
IsLoss e = Unit {0}

lost_sent : (s : Scene) (e : Step) → IsLoss e → (k : Mark) (c d : ℕ) → sent_lost s k c d ≡ sent_with s e k c d
lost_sent s (Moves m) i k c d = absurd i
lost_sent s (Removes v) i k c d = absurd i
lost_sent s NoOp i k c d = absurd i
lost_sent s (Resets e) i k c d = refl
lost_sent s (Pilfers w e) i k c d = refl
lost_sent s (Shows stays) i k c d = refl
lost_sent s (Mutes muted) i k c d = refl

-- what is said of a loss is what the rules say
pub said_of_loss_is : (s : Scene) (e : Step) (n : ℕ) (hs gained : List Hold) (loss : Loss) → IsLoss e → IsChange s e n hs gained loss
    → said_up_to (sent_losses s (mark_of s.windows gained loss)) 64 ≡ said_at s e
said_of_loss_is s e n hs gained loss i x =
    ap (λ (k : Mark). said_up_to (sent_losses s k) 64) (mark_is s e n hs gained loss x)
    ∙ ap (λ f. said_up_to f 64) (fun_ext (λ c. ap (λ f. flat_map f devices) (fun_ext (lost_sent s e i (mark s e) c))))

-- a turn that is no motion and no removal is a loss
pub is_loss : (turn : Turn) (windows : List Window) → ((m : Motion) → turn ≡ Pointers m → ⊥) → ((c : ℕ) → turn ≡ Forget c → ⊥) → IsLoss (step_of turn windows)
is_loss (Pointers m) windows h k = absurd (h m refl)
is_loss (Forget c) windows h k = absurd (k c refl)
is_loss (Reset d) windows h k = tt
is_loss (Pilfer c d) windows h k = tt
is_loss Windows windows h k = tt
is_loss (Mute cs) windows h k = tt
