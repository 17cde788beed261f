-- What a touch device gives keeps the rule for devices: each motion is one that a device makes, and the motions of a step fit.
use Rattle.std.specs.Prelude.{◌≡◌, ℕ, zero, suc, ◌<◌, Bool, true, false, nat_eq, List, [], ◌∷◌, ◌++◌, length, map, reverse, find, Option, Some, None, if◌then◌else◌}
use Rattle.std.specs.Option.{option_and_then}
use Rattle.std.proofs.Common.{sym, ◌∙◌, ap, subst, refl, arith, append_assoc, eq-eqb}
use Rattle.std.proofs.lemmas.List.{reverse-append}
use Rattle.std.proofs.lemmas.Bool.{eqb-true}
use Rattle.raw_events.specs.declared.event.RawEvent.{RawEvent}
use Rattle.input_types.specs.declared.pointer.Pointer.{Pointer}
use Rattle.input_types.specs.declared.motion.Motion.{Motion}
use Rattle.input_types.specs.declared.motion.MotionAction.TheVariants.{Down, Up, Move, Cancel, PointerDown, PointerUp}
use Rattle.input_types.specs.declared.message.Args.{Args}
use Rattle.input_types.specs.declared.message.Args.TheVariants.{Motion as MotionArgs, Reset}
use Rattle.input_types.specs.Gestures.{ids_of, same_ids, after_motion, flag_canceled}
use Rattle.input_types.specs.DeviceRule.{DeviceState, device_state, is_of_device, nothing_down}
use Rattle.device_reader.specs.declared.pointer_ids.named.Named.{Named}
use Rattle.device_reader.specs.declared.pointer_ids.assigned.Held.{Held}
use Rattle.device_reader.specs.PointerIds.PointerIds.{held, joined, by_id, assigned, named_after}
use Rattle.raw_events.specs.Packets.{is_report}
use Rattle.device_reader.specs.TouchMapper.Cooking.{Cooking}
use Rattle.device_reader.specs.TouchMapper.Rising.{IsAbove, Rises}
use Rattle.device_reader.specs.TouchMapper.Gesture.{is_down as is_there, moved_all, kept, is_changed, placed, placed_all, up, down, motion, ups, downs, moves, gesture, after_motions, as_args}
use Rattle.device_reader.proofs.TouchMapper.Fits.{gesture_fits}
use Rattle.device_reader.specs.Packets.{packets}
use Rattle.device_reader.specs.Cooked.{TouchPlan, pointers_at, cancelled_at}
use Rattle.device_reader.specs.Rule.{only}

-- a motion that a device may make itself
pub record IsOf (d : ℕ) (m : Motion) : Type 0 where
  pub device : m.device ≡ d
  pub own : is_of_device m.action (length m.pointers) ≡ true

abbrev pub AllOf : ℕ → List Motion → Type 0
AllOf d [] = Unit {0}
AllOf d (m ∷ ms) = IsOf d m × AllOf d ms

all_append : (d : ℕ) (ms ns : List Motion) → AllOf d ms → AllOf d ns → AllOf d (ms ++ ns)
all_append d [] ns h k = k
all_append d (m ∷ ms) ns h k = (h.0, all_append d ms ns h.1 k)

up_is_at : (d i : ℕ) (cancelled : Bool) (ps : List Pointer) (b : Bool) → nat_eq (length ps) 1 ≡ b
    → IsOf d (if b then motion d (if cancelled then Cancel else Up) i 0 ps else motion d PointerUp i (if cancelled then flag_canceled else 0) ps)
up_is_at d i true ps true e = record { device = refl; own = e }
up_is_at d i false ps true e = record { device = refl; own = refl }
up_is_at d i cancelled ps false e = record { device = refl; own = refl }

up_is : (d i : ℕ) (cancelled : Bool) (ps : List Pointer) → IsOf d (up d cancelled i ps)
up_is d i cancelled ps = up_is_at d i cancelled ps (nat_eq (length ps) 1) refl

down_own : (b : Bool) (n : ℕ) → is_of_device (if b then Down else PointerDown) n ≡ true
down_own true n = refl
down_own false n = refl

down_is : (d i : ℕ) (ps : List Pointer) → IsOf d (down d i ps)
down_is d i ps = record { device = refl; own = down_own (nat_eq (length ps) 1) (length ps) }

move_is : (d : ℕ) (ps : List Pointer) → IsOf d (motion d Move 0 0 ps)
move_is d ps = record { device = refl; own = refl }

ups_are : (d : ℕ) (c : ℕ → Bool) (now below rest : List Pointer) → AllOf d (ups d c now below rest)
ups_are d c now below [] = tt
ups_are d c now below (p ∷ rest) =
    elim (is_there p.id now) as (λ b. AllOf d (if b then ups d c now (below ++ p ∷ []) rest else up d (c p.id) (length below) (below ++ p ∷ rest) ∷ ups d c now below rest)) [
      | true ↦ ups_are d c now (below ++ p ∷ []) rest
      | false ↦ (up_is d (length below) (c p.id) (below ++ p ∷ rest), ups_are d c now below rest)
    ]

downs_are : (d : ℕ) (last below rest : List Pointer) → AllOf d (downs d last below rest)
downs_are d last below [] = tt
downs_are d last below (p ∷ rest) =
    elim (is_there p.id last) as (λ b. AllOf d (if b then downs d last (below ++ p ∷ []) rest else down d (length below) (below ++ p ∷ kept last rest) ∷ downs d last (below ++ p ∷ []) rest)) [
      | true ↦ downs_are d last (below ++ p ∷ []) rest
      | false ↦ (down_is d (length below) (below ++ p ∷ kept last rest), downs_are d last (below ++ p ∷ []) rest)
    ]

moves_are_at : (d : ℕ) (ps : List Pointer) (b : Bool) → AllOf d (if b then motion d Move 0 0 ps ∷ [] else [])
moves_are_at d ps true = (move_is d ps, tt)
moves_are_at d ps false = tt

same_are_at : (d : ℕ) (ps : List Pointer) (b : Bool) → AllOf d (if b then [] else motion d Move 0 0 ps ∷ [])
same_are_at d ps true = tt
same_are_at d ps false = (move_is d ps, tt)

pub gesture_is : (d : ℕ) (c : ℕ → Bool) (last now : List Pointer) → AllOf d (gesture d c last now)
gesture_is d c last now =
    elim (same_ids (ids_of last) (ids_of now)) as (λ b. AllOf d (if b then (if nat_eq (length now) 0 then [] else motion d Move 0 0 now ∷ []) else ups d c now [] (moved_all last now) ++ moves d last now ++ downs d last [] now)) [
      | true ↦ same_are_at d now (nat_eq (length now) 0)
      | false ↦ all_append d (ups d c now [] (moved_all last now) ++ moves d last now) (downs d last [] now)
          (all_append d (ups d c now [] (moved_all last now)) (moves d last now) (ups_are d c now [] (moved_all last now)) (moves_are_at d (kept last now) (is_changed last now)))
          (downs_are d last [] now)
    ]

-- ---- the pointers of a packet rise

abbrev AllUnder : List Pointer → ℕ → Type 0
AllUnder [] n = Unit {0}
AllUnder (p ∷ ps) n = (p.id < n) × AllUnder ps n

under_next : (ps : List Pointer) (n : ℕ) → AllUnder ps n → AllUnder ps (suc n)
under_next [] n h = tt
under_next (p ∷ ps) n h = (omega (arith, h.0), under_next ps n h.1)

under_push : (ps : List Pointer) (n : ℕ) (p : Pointer) → p.id ≡ n → AllUnder ps n → AllUnder (ps ++ p ∷ []) (suc n)
under_push [] n p e h = (omega (arith, e), tt)
under_push (q ∷ ps) n p e h = (omega (arith, h.0), under_push ps n p e h.1)

above_push : (m n : ℕ) (ps : List Pointer) (p : Pointer) → p.id ≡ n → m < n → IsAbove m ps → IsAbove m (ps ++ p ∷ [])
above_push m n [] p e lt h = (omega (arith, e, lt), tt)
above_push m n (q ∷ ps) p e lt h = (h.0, above_push m n ps p e lt h.1)

rises_push : (ps : List Pointer) (n : ℕ) (p : Pointer) → p.id ≡ n → AllUnder ps n → Rises ps → Rises (ps ++ p ∷ [])
rises_push [] n p e u r = (tt, tt)
rises_push (q ∷ ps) n p e u r = (above_push q.id n ps p e u.0 r.0, rises_push ps n p e u.1 r.1)

placed_append : (c : Cooking) (hs ks : List Held) → placed_all c (hs ++ ks) ≡ placed_all c hs ++ placed_all c ks
placed_append c [] ks = refl
placed_append c (h ∷ hs) ks = ap (λ ps. placed c h ∷ ps) (placed_append c hs ks)

found_at : (m : Named) (ms : List Named) (i : ℕ) (n : Named) (b : Bool) → nat_eq m.id i ≡ b
    → (find (λ (x : Named). nat_eq x.id i) ms ≡ Some n → n.id ≡ i) → (if b then Some m else find (λ (x : Named). nat_eq x.id i) ms) ≡ Some n → n.id ≡ i
found_at m ms i n true is later e = let same : m ≡ n = cc in ap (λ (x : Named). x.id) (sym same) ∙ eqb-true m.id i is
found_at m ms i n false is later e = later e

found_id : (ns : List Named) (i : ℕ) (n : Named) → find (λ (x : Named). nat_eq x.id i) ns ≡ Some n → n.id ≡ i
found_id [] i n e = absurd (cc)
found_id (m ∷ ms) i n e = found_at m ms i n (nat_eq m.id i) refl (λ f. found_id ms i n f) e

-- a list with ids below `n` that rise
abbrev Below : List Pointer → ℕ → Type 0
Below ps n = AllUnder ps n × Rises ps

joined_below : (c : Cooking) (hs : List Held) (i : ℕ) (o : Option Named) → ((n : Named) → o ≡ Some n → n.id ≡ i) → Below (placed_all c hs) i
    → Below (placed_all c (joined hs o)) (suc i)
joined_below c hs i None is h = (under_next (placed_all c hs) i h.0, h.1)
joined_below c hs i (Some n) is h =
    let e : (placed c (held n)).id ≡ i = is n refl in
    subst (λ (ps : List Pointer). Below ps (suc i)) (sym (placed_append c hs (held n ∷ [])))
    (under_push (placed_all c hs) i (placed c (held n)) e h.0, rises_push (placed_all c hs) i (placed c (held n)) e h.0 h.1)

by_id_below : (c : Cooking) (i : ℕ) (ns : List Named) → Below (placed_all c (by_id i ns)) i
by_id_below c zero ns = (tt, tt)
by_id_below c (suc i) ns = joined_below c (by_id i ns) i (find (λ (x : Named). nat_eq x.id i) ns) (λ n e. found_id ns i n e) (by_id_below c i ns)

rises_at : (plan : TouchPlan) (past : List RawEvent) → Rises (pointers_at plan past)
unfolding assigned
rises_at plan past = (by_id_below plan.cook 32 (named_after (packets plan.slots past))).1

-- ---- args one after the other

one_motion : (d : ℕ) (m : Motion) (ids next : List ℕ) (tail : List Args) → IsOf d m
    → device_state d tail ≡ Some (record { ids = ids; keys = λ _. false }) → after_motion ids m ≡ Some next
    → device_state d (MotionArgs m ∷ tail) ≡ Some (record { ids = next; keys = λ _. false })
one_motion d m ids next tail is state fits =
    let here : nat_eq m.device d ≡ true = eq-eqb m.device d is.device in
    rw (here, state, is.own, fits) refl

motions_state_at : (d : ℕ) (m : Motion) (ms : List Motion) (ids end : List ℕ) (tail : List Args) (o : Option (List ℕ))
    → after_motion ids m ≡ o → IsOf d m → device_state d tail ≡ Some (record { ids = ids; keys = λ _. false })
    → option_and_then (λ next. after_motions next ms) o ≡ Some end
    → ((next : List ℕ) → device_state d (MotionArgs m ∷ tail) ≡ Some (record { ids = next; keys = λ _. false }) → after_motions next ms ≡ Some end
    → device_state d (reverse (map (λ n. MotionArgs n) ms) ++ MotionArgs m ∷ tail) ≡ Some (record { ids = end; keys = λ _. false }))
    → device_state d (reverse (map (λ n. MotionArgs n) (m ∷ ms)) ++ tail) ≡ Some (record { ids = end; keys = λ _. false })
motions_state_at d m ms ids end tail None e is state fits later = absurd (cc)
motions_state_at d m ms ids end tail (Some next) e is state fits later =
    ap (λ xs. device_state d (xs ++ tail)) (reverse-append (MotionArgs m ∷ []) (map (λ n. MotionArgs n) ms))
    ∙ ap (λ xs. device_state d xs) (append_assoc (reverse (map (λ n. MotionArgs n) ms)) (MotionArgs m ∷ []) tail)
    ∙ later next (one_motion d m ids next tail is state e) fits

motions_state : (d : ℕ) (ms : List Motion) (ids end : List ℕ) (tail : List Args) → AllOf d ms
    → device_state d tail ≡ Some (record { ids = ids; keys = λ _. false }) → after_motions ids ms ≡ Some end
    → device_state d (reverse (map (λ n. MotionArgs n) ms) ++ tail) ≡ Some (record { ids = end; keys = λ _. false })
motions_state d [] ids end tail are state fits = let same : ids ≡ end = cc in state ∙ ap (λ is. Some (record { ids = is; keys = λ _. false })) same
motions_state d (m ∷ ms) ids end tail are state fits =
    motions_state_at d m ms ids end tail (after_motion ids m) refl are.0 state fits
    (λ next s f. motions_state d ms next end (MotionArgs m ∷ tail) are.1 s f)

pub reset_state : (d : ℕ) (tail : List Args) (s : DeviceState) → device_state d tail ≡ Some s → device_state d (Reset d ∷ tail) ≡ Some nothing_down
reset_state d tail s state = rw (eq-eqb d d refl, state) refl

-- an event that ends no packet makes none
pub no_packet : (slots : ℕ) (e : RawEvent) (past : List RawEvent) → is_report e ≡ false → packets slots (e ∷ past) ≡ packets slots past
no_packet slots e past h = rw h refl

pub touch_state : (plan : TouchPlan) (past : List RawEvent) (e : RawEvent) (r : Bool) (tail : List Args) → is_report e ≡ r
    → device_state plan.device tail ≡ Some (only (pointers_at plan past))
    → device_state plan.device (reverse (if r then as_args (gesture plan.device (λ i. cancelled_at plan past e i) (pointers_at plan past) (pointers_at plan (e ∷ past))) else []) ++ tail)
    ≡ Some (only (pointers_at plan (e ∷ past)))
unfolding assigned
touch_state plan past e true tail ir before =
    motions_state plan.device (gesture plan.device (λ i. cancelled_at plan past e i) (pointers_at plan past) (pointers_at plan (e ∷ past)))
    (ids_of (pointers_at plan past)) (ids_of (pointers_at plan (e ∷ past))) tail
    (gesture_is plan.device (λ i. cancelled_at plan past e i) (pointers_at plan past) (pointers_at plan (e ∷ past))) before
    (gesture_fits plan.device (λ i. cancelled_at plan past e i) (pointers_at plan past) (pointers_at plan (e ∷ past)) (rises_at plan past) (rises_at plan (e ∷ past)))
touch_state plan past e false tail ir before =
    before ∙ ap (λ ps. Some (only (placed_all plan.cook (assigned (named_after ps))))) (sym (no_packet plan.slots e past ir))
