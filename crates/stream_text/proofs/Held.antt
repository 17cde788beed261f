-- The text of the pointers, and of the Move with them, stays as words are put in front of it.
use Rattle.std.specs.Prelude.{◌≡◌, ℕ, ◌≤◌, List, [], ◌∷◌, ◌++◌, codes, length, drop, decimal}
use Rattle.std.proofs.Common.{refl, sym, ap, ◌∙◌, arith, append_assoc}
use Rattle.input_types.specs.declared.pointer.Pointer.{Pointer}
use Rattle.input_types.specs.declared.motion.Motion.{Motion}
use Rattle.input_types.specs.declared.motion.MotionAction.TheVariants.{Move}
use Rattle.dispatcher.specs.InputChannel.Moves.{move_of}
use Rattle.stream_text.specs.KeptText.{Holds, Moves}
use Rattle.stream_text.specs.Spelling.{flag_words, head, motion, pointers}
use Rattle.stream_text.proofs.Places.{stays}

pub still_held : (r e at : ℕ) (new old text : List ℕ) (list : List Pointer) → length new ≡ 1280 → length old ≡ 1280 → r ≤ e → e ≤ at
    → drop r new ≡ text ++ drop e old → Holds old list at → Holds new list at
still_held r e at new old text list long before front inside written held =
    (held.0, held.1, held.2, stays r e at new old text (omega arith) inside (omega arith) front written ∙ held.3)

pub still_moves : (least r e at front device flags : ℕ) (new old text : List ℕ) (list : List Pointer) → length new ≡ 1280 → length old ≡ 1280 → least ≤ e → r ≤ e
    → at ≤ 1279 → drop r new ≡ text ++ drop e old → Moves e old device flags list at front → Moves least new device flags list at front
still_moves least r e at front device flags new old text list long before first behind inside written moves =
    λ some. let (later, within, told) = moves some in (omega arith, within, stays r e front new old text (omega arith) later (omega arith) behind written ∙ told)

pub motion_sent : (m : Motion) (rest : List ℕ) → head m ++ (pointers m.pointers ++ rest) ≡ motion m ++ rest
unfolding motion
motion_sent m rest = sym (append_assoc (head m) (pointers m.pointers) rest)

-- no Move is kept for device 0
pub none_moves : (least device flags at front : ℕ) (line : List ℕ) (list : List Pointer) → device ≡ 0 → Moves least line device flags list at front
none_moves least device flags at front line list none = λ some. absurd (omega arith)

seven : (a b c d f e rest : List ℕ) → a ++ b ++ c ++ (d ++ (f ++ (e ++ rest))) ≡ a ++ b ++ c ++ d ++ f ++ e ++ rest
seven a b c d f e rest = simp append_assoc

move_front : (device flags : ℕ) (list : List Pointer) (rest : List ℕ)
    → codes "motion " ++ decimal device ++ codes " " ++ (codes "MOVE" ++ (flag_words flags ++ (pointers list ++ rest))) ≡ motion (move_of device flags list) ++ rest
unfolding motion
move_front device flags list rest = seven (codes "motion ") (decimal device) (codes " ") (codes "MOVE") (flag_words flags) (pointers list) rest

-- a Move that was put in front of its pointers
pub move_put : (device flags at r w g : ℕ) (newest new mid old : List ℕ) (list : List Pointer)
    → drop r newest ≡ codes "motion " ++ decimal device ++ codes " " ++ drop w new → drop w new ≡ codes "MOVE" ++ drop g mid
    → drop g mid ≡ flag_words flags ++ drop at old → Holds old list at → drop r newest ≡ motion (move_of device flags list) ++ 10 ∷ []
move_put device flags at r w g newest new mid old list front word marks held =
    front
    ∙ ap (λ t. codes "motion " ++ decimal device ++ codes " " ++ t)
    (word ∙ ap (λ t. codes "MOVE" ++ t) (marks ∙ ap (λ t. flag_words flags ++ t) held.3))
    ∙ move_front device flags list (10 ∷ [])

plain_move : (m : Motion) → m.action ≡ Move → motion (move_of m.device m.flags m.pointers) ≡ motion m
unfolding motion
plain_move m is = rw is refl

-- the Move of a motion's device, flags and pointers is spelled as the motion, where that is a Move
pub move_sent : (m : Motion) (device flags : ℕ) (list : List Pointer) (rest : List ℕ) → device ≡ m.device → flags ≡ m.flags → list ≡ m.pointers
    → m.action ≡ Move → motion (move_of device flags list) ++ rest ≡ motion m ++ rest
move_sent m device flags list rest same marked pointed is =
    ap (λ d. motion (move_of d flags list) ++ rest) same
    ∙ ap (λ f. motion (move_of m.device f list) ++ rest) marked
    ∙ ap (λ ps. motion (move_of m.device m.flags ps) ++ rest) pointed
    ∙ ap (λ t. t ++ rest) (plain_move m is)
