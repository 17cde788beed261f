-- A message that a line can express has a reason exactly if it may not come.
use Rattle.std.proofs.Common.{◌≡◌, ℕ, Bool, ◌+◌, ◌<◌, ◌&&◌, not, nat_eq, nat_lt, true, false, if◌then◌else◌, List, [], ◌∷◌, length, Option, Some, None, is_some, inl, inr, refl, sym, ap, ◌∙◌, arith}
use Rattle.std.proofs.lemmas.Bool.{lt-ltb}
use Rattle.std.proofs.lemmas.Bool.Decides.{nat_tests}
use Rattle.std.specs.Option.{option_map, unwrap_or}
use Rattle.input_types.specs.declared.key.KeyMsg.{KeyMsg}
use Rattle.input_types.specs.declared.message.Body.{Body}
use Rattle.input_types.specs.declared.message.Body.TheVariants.{Motion as MotionBody, Key, Focus}
use Rattle.input_types.specs.declared.motion.Motion.{Motion}
use Rattle.input_types.specs.declared.motion.MotionAction.{MotionAction}
use Rattle.input_types.specs.declared.motion.MotionAction.TheVariants.{Down, Up, Move, Cancel, Outside, PointerDown, PointerUp}
use Rattle.input_types.specs.declared.pointer.Pointer.{Pointer}
use Rattle.input_types.specs.Gestures.{allowed, differ, is_end_flag, unmarked}
use Rattle.input_types.specs.Pointers.{IsRising}
use Rattle.input_types.specs.StreamRule.{StreamState, after_body, after_key, with_repeat}
use Rattle.gesture_verifier.specs.declared.reason.Reason.{Reason}
use Rattle.gesture_verifier.specs.declared.reason.Reason.TheVariants.{RepeatOfNothing, RepeatOutOfTurn, KeyNotDown, RepeatOnUp, FocusTwice}
use Rattle.gesture_verifier.specs.Reasons.{first_fitting, is_of_one, is_spelled, reason_of}
use Rattle.gesture_verifier.proofs.Reasons.{motion_exact}
use Rattle.stream_text.specs.MessageLine.{flags_of, HasFlag, HasFlags, HasIndex, HasKeyFlag, HavePlaces, SpelledBody, SpelledKey, SpelledMotion}

-- ---- ids that rise

pub rising : (least : ℕ) (ps : List Pointer) → HavePlaces least ps → IsRising ps
rising least [] h = tt
rising least (p ∷ []) h = tt
rising least (p ∷ q ∷ ps) h = (omega (arith, h.4.0), rising (p.id + 1) (q ∷ ps) (h.4))

-- ---- what has a spelling is spelled

end_flags : (flags : ℕ) → HasFlags flags → is_end_flag (unmarked flags) ≡ true
end_flags flags f = ap (λ n. is_end_flag (unmarked n)) f.3 ∙ by_flags f.0 f.1 f.2
  where
    by_flags : (c o p : Bool) → is_end_flag (unmarked (flags_of c o p)) ≡ true
    by_flags true true true = refl
    by_flags true true false = refl
    by_flags true false true = refl
    by_flags true false false = refl
    by_flags false true true = refl
    by_flags false true false = refl
    by_flags false false true = refl
    by_flags false false false = refl

end_flag : (flags : ℕ) → HasFlag flags → is_end_flag flags ≡ true
end_flag flags (inl none) = rw none refl
end_flag flags (inr canceled) = rw canceled refl

some_pointers : (action : MotionAction) (index count : ℕ) → HasIndex action index count → 0 < count
some_pointers Down index count h = h.1
some_pointers Up index count h = h.1
some_pointers Move index count h = h.1
some_pointers Cancel index count h = h.1
some_pointers Outside index count h = h.1
some_pointers PointerDown index count h = omega (arith, h)
some_pointers PointerUp index count h = omega (arith, h)

index_fits : (action : MotionAction) (index count : ℕ) → HasIndex action index count → (if is_of_one action then nat_lt index count else nat_eq index 0) ≡ true
index_fits Down index count h = rw h.0 refl
index_fits Up index count h = rw h.0 refl
index_fits Move index count h = rw h.0 refl
index_fits Cancel index count h = rw h.0 refl
index_fits Outside index count h = rw h.0 refl
index_fits PointerDown index count h = lt-ltb index count h
index_fits PointerUp index count h = lt-ltb index count h

spelled_motion : (m : Motion) → SpelledMotion m → is_spelled (MotionBody m) ≡ true
spelled_motion m h =
    rw (lt-ltb 0 (length m.pointers) (some_pointers m.action m.index (length m.pointers) h.index), end_flags m.flags h.flags, index_fits m.action m.index (length m.pointers) h.index) refl

-- ---- keys and the focus

key_flags : (down : Bool) (flags : ℕ) → HasKeyFlag down flags → (if down then nat_eq flags 0 else is_end_flag flags) ≡ true
key_flags true flags h = rw h refl
key_flags false flags h = end_flag flags h

may : {X : Type 0} (b : Bool) (x : X) → is_some (allowed b x) ≡ b
may true x = refl
may false x = refl

mapped : {X Y : Type 0} (f : X → Y) (o : Option X) → is_some (option_map f o) ≡ is_some o
mapped f None = refl
mapped f (Some x) = refl

-- a key that is up goes down with repeat 0
from_up : (first next : Bool) → first ≡ next
    → is_some (first_fitting ((true && not first, RepeatOfNothing) ∷ (false && not next, RepeatOutOfTurn) ∷ [])) ≡ not next
from_up true true h = refl
from_up false false h = refl
from_up true false h = absurd (cc)
from_up false true h = absurd (cc)

-- a key that is down goes down with the next repeat number
from_down : (first next : Bool) → is_some (first_fitting ((false && not first, RepeatOfNothing) ∷ (true && not next, RepeatOutOfTurn) ∷ [])) ≡ not next
from_down first true = refl
from_down first false = refl

zero_first : (r : ℕ) → nat_eq r 0 ≡ nat_eq 0 r
zero_first r = grind (arith, nat_tests)

goes_down : (due : Option ℕ) (r : ℕ)
    → is_some (first_fitting ((not (is_some due) && not (nat_eq r 0), RepeatOfNothing) ∷ (is_some due && not (nat_eq (unwrap_or due 0) r), RepeatOutOfTurn) ∷ []))
    ≡ not (nat_eq (unwrap_or due 0) r)
goes_down None r = from_up (nat_eq r 0) (nat_eq 0 r) (zero_first r)
goes_down (Some d) r = from_down (nat_eq r 0) (nat_eq d r)

goes_up : (is first : Bool) → is_some (first_fitting ((not is, KeyNotDown) ∷ (not first, RepeatOnUp) ∷ [])) ≡ not (is && first)
goes_up true true = refl
goes_up true false = refl
goes_up false first = refl

key_at : (down : Bool) (due : Option ℕ) (flags repeat : ℕ) → (if down then nat_eq flags 0 else is_end_flag flags) ≡ true
    → is_some
    (first_fitting
    (if down
    then (not (is_some due) && not (nat_eq repeat 0), RepeatOfNothing) ∷ (is_some due && not (nat_eq (unwrap_or due 0) repeat), RepeatOutOfTurn) ∷ []
    else (not (is_some due), KeyNotDown) ∷ (not (nat_eq repeat 0), RepeatOnUp) ∷ []))
    ≡ not
    (is_some
    (if down
    then allowed (nat_eq flags 0 && nat_eq (unwrap_or due 0) repeat) (Some (repeat + 1))
    else allowed (is_some due && (is_end_flag flags && nat_eq repeat 0)) None))
key_at true due flags repeat h = rw h (goes_down due repeat ∙ sym (ap not (may (nat_eq (unwrap_or due 0) repeat) (Some (repeat + 1)))))
key_at false due flags repeat h =
    rw h (goes_up (is_some due) (nat_eq repeat 0) ∙ sym (ap not (may {X = Option ℕ} (is_some due && nat_eq repeat 0) None)))

key_exact : (s : StreamState) (m : KeyMsg) → SpelledKey m → is_some (reason_of s (Key m)) ≡ not (is_some (after_body s (Key m)))
key_exact s m h =
    key_at m.key.down (s.repeats m.key.device m.key.scan) m.flags m.repeat (key_flags m.key.down m.flags h.flags)
    ∙ sym (ap not (mapped (λ due. record { ids = s.ids; repeats = with_repeat s.repeats m.key.device m.key.scan due; focus = s.focus })
    (after_key (s.repeats m.key.device m.key.scan) m)))

one_row : (v : Bool) (r : Reason) → is_some (first_fitting ((not v, r) ∷ [])) ≡ not v
one_row true r = refl
one_row false r = refl

pub exact : (s : StreamState) (b : Body) → SpelledBody b → is_some (reason_of s b) ≡ not (is_some (after_body s b))
exact s (MotionBody m) h = motion_exact s m (rising 0 m.pointers h.places) (spelled_motion m h)
exact s (Key m) h = key_exact s m h
exact s (Focus b) h =
    one_row (differ b s.focus) FocusTwice
    ∙ sym (ap not (may (differ b s.focus) (record { ids = s.ids; repeats = s.repeats; focus = b })))

-- a message that a line can say and that may not come has a reason
pub spelled : (b : Body) → SpelledBody b → is_spelled b ≡ true
spelled (MotionBody m) h = spelled_motion m h
spelled (Key m) h = key_flags m.key.down m.flags h.flags
spelled (Focus b) h = refl
