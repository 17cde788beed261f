-- Messages written as numbers and read back.
use Rattle.std.proofs.Common.{◌≡◌, ◌∙◌, ℕ, ◌+◌, ◌≤◌, ◌^◌, ◌&&◌, nat_eq, nat_le, Bool, true, false, List, [], ◌∷◌, map, take, drop, length, slice_get, Option, Some, None, refl, sym, ap, arith}
use Rattle.std.specs.Prelude.{cond, replicate}
use Rattle.std.specs.Option.{option_map, option_and_then}
use Rattle.std.proofs.lemmas.Bool.Decides.{nat_tests}
use Rattle.std.proofs.lemmas.List.{length-map}
use Rattle.std.proofs.Math.Seq.{take-append_seam}
use Rattle.input_types.specs.Action.{action_number}
use Rattle.input_types.specs.declared.key.KeyMsg.{KeyMsg}
use Rattle.input_types.specs.declared.message.Body.{Body}
use Rattle.input_types.specs.declared.message.Body.TheVariants.{Motion as MotionBody, Key, Focus}
use Rattle.input_types.specs.declared.message.Message.{Message}
use Rattle.input_types.specs.declared.motion.Motion.{Motion}
use Rattle.input_types.specs.declared.motion.MotionAction.{MotionAction}
use Rattle.input_types.specs.declared.motion.MotionAction.TheVariants.{Down, Up, Move, Cancel, Outside, PointerDown, PointerUp}
use Rattle.input_types.specs.declared.pointer.Pointer.{Pointer}
use Rattle.gesture_verifier.specs.Told.{is_device}
use Rattle.plain_calls.specs.declared.message.PlainMessage.{PlainMessage}
use Rattle.plain_calls.specs.Laws.{HaveIds, IsBody, IsMotion, ReadAgainLaw}
use Rattle.plain_calls.specs.Numbers.{flag}
use Rattle.plain_calls.specs.Plain.{actions, body_of, key_msg_of, motion_of, pointers_from}
use Rattle.plain_calls.specs.Told.{no_pointer, numbered, places_of, plain_message, plain_pointer, with_body, with_key, with_motion}
use Rattle.plain_calls.proofs.ReadPointers.{fits}

le_test : (a b : ℕ) → a ≤ b → nat_le a b ≡ true
le_test a b h = grind (arith, nat_tests)

action_again : (a : MotionAction) → slice_get actions (action_number a) ≡ Some a
action_again Down = refl
action_again Up = refl
action_again Move = refl
action_again Cancel = refl
action_again Outside = refl
action_again PointerDown = refl
action_again PointerUp = refl

ids_again : (least : ℕ) (ps : List Pointer) → HaveIds least ps → pointers_from least (map plain_pointer ps) ≡ Some ps
ids_again least [] h = refl
ids_again least (p ∷ ps) h = rw (fits least p.id h.0 h.1) (ap (option_map (λ qs. p ∷ qs)) (ids_again (p.id + 1) ps h.2))

front : (ps : List Pointer) → take (length ps) (places_of ps) ≡ map plain_pointer ps
front ps =
    ap (λ n. take n (places_of ps)) (sym (length-map ps plain_pointer))
    ∙ take-append_seam (map plain_pointer ps) (drop (length ps) (replicate 16 no_pointer))

pointers_again : (ps : List Pointer) → HaveIds 0 ps → pointers_from 0 (take (length ps) (places_of ps)) ≡ Some ps
pointers_again ps h = ap (pointers_from 0) (front ps) ∙ ids_again 0 ps h

-- a motion by its action and its pointers, as they were read
abbrev motion_by : Motion → Option MotionAction → Option (List Pointer) → Option Motion
motion_by m a ps =
    option_and_then (λ b. option_map (λ qs. record { device = m.device; action = b; index = m.index; flags = m.flags; pointers = qs }) ps) a

motion_again : (m : Motion) (p : PlainMessage) → IsMotion m → motion_of (with_motion m p) ≡ Some m
motion_again m p h =
    ap (λ b. cond (b && nat_le (length m.pointers) 16)
    (motion_by m (slice_get actions (action_number m.action)) (pointers_from 0 (take (length m.pointers) (places_of m.pointers)))) None) h.device
    ∙ ap (λ b. cond b (motion_by m (slice_get actions (action_number m.action)) (pointers_from 0 (take (length m.pointers) (places_of m.pointers)))) None)
    (le_test (length m.pointers) 16 h.count)
    ∙ ap (λ a. motion_by m a (pointers_from 0 (take (length m.pointers) (places_of m.pointers)))) (action_again m.action)
    ∙ ap (λ ps. motion_by m (Some m.action) ps) (pointers_again m.pointers h.ids)

-- a key that goes down or up
abbrev key_by : KeyMsg → Bool → KeyMsg
key_by k down =
    record { key = record { device = k.key.device; scan = k.key.scan; code = k.key.code; meta = k.key.meta; down = down }; flags = k.flags; repeat = k.repeat }

key_down : (k : KeyMsg) (down : Bool) → cond (nat_le (flag down) 1) (Some (key_by k (nat_eq (flag down) 1))) None ≡ Some (key_by k down)
key_down k true = refl
key_down k false = refl

key_again : (k : KeyMsg) (p : PlainMessage) → is_device k.key.device ≡ true → key_msg_of (with_key k p) ≡ Some k
key_again k p h =
    ap (λ b. cond (b && nat_le (flag k.key.down) 1) (Some (key_by k (nat_eq (flag k.key.down) 1))) None) h ∙ key_down k k.key.down

body_again : (b : Body) (seq moment : ℕ) → IsBody b → body_of (with_body b (numbered seq moment)) ≡ Some b
body_again (MotionBody m) seq moment h = ap (option_map MotionBody) (motion_again m (numbered seq moment) h)
body_again (Key k) seq moment h = ap (option_map Key) (key_again k (numbered seq moment) h)
body_again (Focus true) seq moment h = refl
body_again (Focus false) seq moment h = refl

moment_sent : (b : Body) (seq moment : ℕ) → (with_body b (numbered seq moment)).moment_us ≡ moment
moment_sent (MotionBody m) seq moment = refl
moment_sent (Key k) seq moment = refl
moment_sent (Focus has) seq moment = refl

seq_sent : (b : Body) (seq moment : ℕ) → (with_body b (numbered seq moment)).seq ≡ seq
seq_sent (MotionBody m) seq moment = refl
seq_sent (Key k) seq moment = refl
seq_sent (Focus has) seq moment = refl

-- a message by its number, its moment and its body, as they were read
abbrev message_by : ℕ → Option ℕ → Option Body → Option Message
message_by seq t b = option_and_then (λ us. option_map (λ said. record { seq = seq; moment = us; body = said }) b) t

pub read_again : ReadAgainLaw
read_again m h =
    let p = plain_message m in
    ap (λ s. message_by s (cond (nat_le p.moment_us (10 ^ 18)) (Some p.moment_us) None) (body_of p)) (seq_sent m.body m.seq m.moment)
    ∙ ap (λ t. message_by m.seq (cond (nat_le t (10 ^ 18)) (Some t) None) (body_of p)) (moment_sent m.body m.seq m.moment)
    ∙ ap (λ b. message_by m.seq (cond b (Some m.moment) None) (body_of p)) (le_test m.moment (10 ^ 18) h.moment)
    ∙ ap (message_by m.seq (Some m.moment)) (body_again m.body m.seq m.moment h.body)
