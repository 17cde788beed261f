-- Two points differ in nothing exactly if they agree.
use Rattle.std.proofs.Common.{◌≡◌, ℕ, Bool, ◌&&◌, not, true, false, cond, List, [], ◌∷◌, Option, Some, None, refl, nat_eq, pos, ◌-ℤ◌}
use Rattle.std.specs.Option.{option_or}
use Rattle.input_types.specs.declared.key.KeyMsg.{KeyMsg}
use Rattle.input_types.specs.declared.message.Body.{Body}
use Rattle.input_types.specs.declared.message.Body.TheVariants.{Motion as MotionBody, Key as KeyBody, Focus as FocusBody}
use Rattle.input_types.specs.declared.message.Message.{Message}
use Rattle.input_types.specs.declared.motion.Motion.{Motion}
use Rattle.input_types.specs.declared.pointer.Pointer.{Pointer}
use Rattle.input_types.specs.Action.{action_number}
use Rattle.input_types.specs.Gestures.{differ}
use Rattle.compare_text.specs.declared.difference.Difference.{Difference}
use Rattle.compare_text.specs.declared.difference.Difference.TheVariants.{Kind, Device, Action, Index, Flags, Pointers, Scan, Code, Meta, Direction, Repeat, Focus, Time}
use Rattle.compare_text.specs.Agreement.{agree, are_close, close_by, near, same_body, same_ids, same_key, same_motion}
use Rattle.compare_text.specs.Differing.{body_apart, difference_of, key_apart, motion_apart, moved, place_apart, time_apart, unless}

-- there is no difference exactly if a test holds
abbrev pub Tells : Option Difference → Bool → Type 0
Tells o b = (o ≡ None → b ≡ true) × (b ≡ true → o ≡ None)

never : (d : Difference) → Tells (Some d) false
never d = (λ e. absurd (cc), λ e. absurd (cc))

unless_tells : (same : Bool) (d : Difference) (o : Option Difference) (b : Bool) → Tells o b → Tells (unless same d o) (same && b)
unless_tells true d o b h = h
unless_tells false d o b h = never d

last_tells : (same : Bool) (d : Difference) → Tells (unless same d None) same
last_tells true d = (λ e. refl, λ e. refl)
last_tells false d = never d

or_tells : (o p : Option Difference) (a b : Bool) → Tells o a → Tells p b → Tells (option_or o p) (a && b)
or_tells None p true b h k = k
or_tells None p false b h k = absurd (let wrong = h.0 refl in cc)
or_tells (Some d) p true b h k = absurd (let wrong = h.1 refl in cc)
or_tells (Some d) p false b h k = never d

place_tells : (pixels : ℕ) (ps qs : List Pointer) → Tells (place_apart pixels ps qs) (are_close pixels ps qs)
place_tells pixels [] [] = (λ e. refl, λ e. refl)
place_tells pixels [] (q ∷ qs) = (λ e. refl, λ e. refl)
place_tells pixels (p ∷ ps) [] = (λ e. refl, λ e. refl)
place_tells pixels (p ∷ ps) (q ∷ qs) =
    unless_tells (close_by pixels p.at q.at) (moved p.at q.at) (place_apart pixels ps qs) (are_close pixels ps qs) (place_tells pixels ps qs)

motion_tells : (pixels : ℕ) (a b : Motion) → Tells (motion_apart pixels a b) (same_motion pixels a b)
motion_tells pixels a b =
    unless_tells (nat_eq a.device b.device) Device _ _
    (unless_tells (nat_eq (action_number a.action) (action_number b.action)) Action _ _
    (unless_tells (nat_eq a.index b.index) Index _ _
    (unless_tells (nat_eq a.flags b.flags) Flags _ _
    (unless_tells (same_ids a.pointers b.pointers) Pointers _ _ (place_tells pixels a.pointers b.pointers)))))

key_tells : (a b : KeyMsg) → Tells (key_apart a b) (same_key a b)
key_tells a b =
    unless_tells (nat_eq a.key.device b.key.device) Device _ _
    (unless_tells (nat_eq a.key.scan b.key.scan) Scan _ _
    (unless_tells (nat_eq a.key.code b.key.code) Code _ _
    (unless_tells (nat_eq a.key.meta b.key.meta) Meta _ _
    (unless_tells (not (differ a.key.down b.key.down)) Direction _ _
    (unless_tells (nat_eq a.flags b.flags) Flags _ _ (last_tells (nat_eq a.repeat b.repeat) Repeat))))))

body_tells : (pixels : ℕ) (a b : Body) → Tells (body_apart pixels a b) (same_body pixels a b)
body_tells pixels (MotionBody a) (MotionBody b) = motion_tells pixels a b
body_tells pixels (KeyBody a) (KeyBody b) = key_tells a b
body_tells pixels (FocusBody a) (FocusBody b) = last_tells (not (differ a b)) Focus
body_tells pixels (MotionBody a) (KeyBody b) = never Kind
body_tells pixels (MotionBody a) (FocusBody b) = never Kind
body_tells pixels (KeyBody a) (MotionBody b) = never Kind
body_tells pixels (KeyBody a) (FocusBody b) = never Kind
body_tells pixels (FocusBody a) (MotionBody b) = never Kind
body_tells pixels (FocusBody a) (KeyBody b) = never Kind

pub difference_tells : (us pixels : ℕ) (a b : Message) → Tells (difference_of us pixels a b) (agree us pixels a b)
difference_tells us pixels a b =
    or_tells (body_apart pixels a.body b.body) (time_apart us a.moment b.moment) (same_body pixels a.body b.body) (near us a.moment b.moment)
    (body_tells pixels a.body b.body) (last_tells (near us a.moment b.moment) (Time (pos b.moment -ℤ pos a.moment)))
