-- A motion is read again from its text, and only its texts are read as one: its action, its pointers, and the whole.
use Rattle.std.proofs.Common.{◌≡◌, ℕ, ℤ, zero, suc, ◌+◌, ◌-◌, ◌<◌, ◌≤◌, Bool, true, false, List, [], ◌∷◌, ◌++◌, length, Option, Some, None, refl, sym, ap, ◌∙◌, subst, arith, inl, inr}
use Rattle.std.specs.Prelude.{codes}
use Rattle.std.specs.Fmt.{decimal, signed_decimal}
use Rattle.std.proofs.Math.Dec.{leb, ltb}
use Rattle.std.proofs.lemmas.Bool.{lt-ltb, ltb-true, le-leb, leb-true}
use Rattle.std.proofs.lemmas.List.{append_assoc}
use Rattle.std.proofs.lemmas.Option.{same_Some, none-some, cond_some}
use Rattle.input_types.specs.declared.pointer.Pointer.{Pointer}
use Rattle.input_types.specs.declared.motion.Motion.{Motion}
use Rattle.input_types.specs.declared.motion.MotionAction.{MotionAction}
use Rattle.input_types.specs.declared.motion.MotionAction.TheVariants.{Down, Up, Move, Cancel, Outside, PointerDown, PointerUp}
use Rattle.stream_text.specs.Number.{◌>>=◌, after, number_at, integer_at, IsI32, NoDigit}
use Rattle.stream_text.specs.Spelling.{action, flag_words, indexed, motion, pointer, pointers}
use Rattle.stream_text.specs.MessageLine.{action_at, device_at, flags_at, indexed_at, labeled_at, motion_of, plain, pointer_at, pointers_at, with_pointer, HasFlags, HasIndex, HavePlaces, SpelledMotion}
use Rattle.stream_text.proofs.Numbers.{after_only, bind_some, integer_again, integer_only, number_again, number_only}
use Rattle.stream_text.proofs.Pointers.{at_end, pointers_step}
use Rattle.stream_text.proofs.PartTexts.{labeled_again, labeled_only, device_again, device_only, all_flags_again, all_flags_only, words_of, words_of_flags, by_word}

-- an action
abbrev PlainIndex : MotionAction → ℕ → Type 0
PlainIndex PointerDown index = index ≤ 255
PlainIndex PointerUp index = index ≤ 255
PlainIndex _ index = index ≡ 0

action_again : (a : MotionAction) (index : ℕ) (rest : List ℕ) → PlainIndex a index → NoDigit rest → action_at (action a index ++ rest) ≡ Some (a, index, rest)
unfolding action_at indexed_at indexed
action_again Down index rest h stop = ap (λ i. Some (Down, i, rest)) (sym h)
action_again Up index rest h stop = ap (λ i. Some (Up, i, rest)) (sym h)
action_again Move index rest h stop = ap (λ i. Some (Move, i, rest)) (sym h)
action_again Cancel index rest h stop = ap (λ i. Some (Cancel, i, rest)) (sym h)
action_again Outside index rest h stop = ap (λ i. Some (Outside, i, rest)) (sym h)
action_again PointerDown index rest h stop = rw (number_again 255 index rest h (omega arith) stop) refl
action_again PointerUp index rest h stop = rw (number_again 255 index rest h (omega arith) stop) refl

abbrev SpelledAction : List ℕ → MotionAction × ℕ × List ℕ → Type 0
SpelledAction bs y = (bs ≡ action y.0 y.1 ++ y.2) × PlainIndex y.0 y.1

indexed_only : (a : MotionAction) (word bs rest : List ℕ) (y : MotionAction × ℕ × List ℕ) → ((index : ℕ) → index ≤ 255 → PlainIndex a index)
    → ((index : ℕ) (behind : List ℕ) → action a index ++ behind ≡ word ++ (decimal index ++ behind))
    → after word bs ≡ Some rest → indexed_at a rest ≡ Some y → SpelledAction bs y
unfolding indexed_at
indexed_only a word bs rest y fits spells found h =
    let (index, read, made) = bind_some (number_at 255 rest) _ y h in
    let (split, small) = number_only 255 index.0 rest index.1 (omega arith) read in
    subst (SpelledAction bs) (same_Some (a, index.0, index.1) y made)
    (after_only word bs rest found ∙ ap (λ t. word ++ t) split ∙ sym (spells index.0 index.1), fits index.0 small)

plain_only : (a : MotionAction) (bs rest : List ℕ) (y : MotionAction × ℕ × List ℕ) → PlainIndex a 0 → after (action a 0) bs ≡ Some rest → plain a rest ≡ Some y → SpelledAction bs y
plain_only a bs rest y fits found h = subst (SpelledAction bs) (same_Some (a, 0, rest) y h) (after_only (action a 0) bs rest found, fits)

action_only : (bs : List ℕ) (y : MotionAction × ℕ × List ℕ) → action_at bs ≡ Some y → SpelledAction bs y
unfolding action_at indexed
action_only bs y h =
    elim (by_word (after (codes "MOVE") bs) _ _ y h) [
      | inl w ↦ plain_only Move bs w.0 y refl w.1 w.2
      | inr h1 ↦ elim (by_word (after (codes "DOWN") bs) _ _ y h1) [
        | inl w ↦ plain_only Down bs w.0 y refl w.1 w.2
        | inr h2 ↦ elim (by_word (after (codes "UP") bs) _ _ y h2) [
          | inl w ↦ plain_only Up bs w.0 y refl w.1 w.2
          | inr h3 ↦ elim (by_word (after (codes "CANCEL") bs) _ _ y h3) [
            | inl w ↦ plain_only Cancel bs w.0 y refl w.1 w.2
            | inr h4 ↦ elim (by_word (after (codes "OUTSIDE") bs) _ _ y h4) [
              | inl w ↦ plain_only Outside bs w.0 y refl w.1 w.2
              | inr h5 ↦ elim (by_word (after (codes "POINTER_DOWN:") bs) _ _ y h5) [
                | inl w ↦ indexed_only PointerDown (codes "POINTER_DOWN:") bs w.0 y (λ i l. l) (λ i r. refl) w.1 w.2
                | inr h6 ↦ elim (by_word (after (codes "POINTER_UP:") bs) _ _ y h6) [
                  | inl w ↦ indexed_only PointerUp (codes "POINTER_UP:") bs w.0 y (λ i l. l) (λ i r. refl) w.1 w.2
                  | inr h7 ↦ absurd (none-some y h7)
                ]
              ]
            ]
          ]
        ]
      ]
    ]

-- a pointer
pointer_text : (id : ℕ) (x y : ℤ) (rest : List ℕ) → pointer id x y ++ rest ≡ codes " " ++ (decimal id ++ (codes "@" ++ (signed_decimal x ++ (codes "," ++ (signed_decimal y ++ rest)))))
unfolding pointer
pointer_text id x y rest = simp append_assoc

pointer_again : (least id : ℕ) (x y : ℤ) (rest : List ℕ) → least ≤ id → id ≤ 31 → IsI32 x → IsI32 y → NoDigit rest
    → pointer_at least (pointer id x y ++ rest) ≡ Some (record { id = id; at = record { x = x; y = y } }, rest)
unfolding pointer_at
pointer_again least id x y rest l m wx wy stop =
    rw (pointer_text id x y rest, labeled_again (codes " ") 31 id (codes "@" ++ (signed_decimal x ++ (codes "," ++ (signed_decimal y ++ rest)))) m (omega arith) refl, integer_again x (codes "," ++ (signed_decimal y ++ rest)) wx refl, integer_again y rest wy stop, le-leb least id l) refl

abbrev IsPlace : ℕ → Pointer → Type 0
IsPlace least p = (least ≤ p.id) × (p.id ≤ 31) × IsI32 p.at.x × IsI32 p.at.y

abbrev SpelledPointer : ℕ → List ℕ → Pointer × List ℕ → Type 0
SpelledPointer least bs read = (bs ≡ pointer read.0.id read.0.at.x read.0.at.y ++ read.1) × IsPlace least read.0

pointer_only : (least : ℕ) (bs : List ℕ) (read : Pointer × List ℕ) → pointer_at least bs ≡ Some read → SpelledPointer least bs read
unfolding pointer_at
pointer_only least bs read h =
    let (id, found_id, h1) = bind_some (labeled_at (codes " ") 31 bs) _ read h in
    let (to_x, found_at, h2) = bind_some (after (codes "@") id.1) _ read h1 in
    let (x, found_x, h3) = bind_some (integer_at to_x) _ read h2 in
    let (to_y, found_comma, h4) = bind_some (after (codes ",") x.1) _ read h3 in
    let (y, found_y, h5) = bind_some (integer_at to_y) _ read h4 in
    let (above, same) = cond_some (leb least id.0) (record { id = id.0; at = record { x = x.0; y = y.0 } }, y.1) read h5 in
    let (split_id, small) = labeled_only (codes " ") 31 bs id (omega arith) found_id in
    let (split_x, fits_x) = integer_only x.0 to_x x.1 found_x in
    let (split_y, fits_y) = integer_only y.0 to_y y.1 found_y in
    subst (SpelledPointer least bs) same (
      split_id
          ∙ ap (λ t. codes " " ++ (decimal id.0 ++ t))
          (after_only (codes "@") id.1 to_x found_at
          ∙ ap (λ t. codes "@" ++ t) (split_x ∙ ap (λ t. signed_decimal x.0 ++ t) (after_only (codes ",") x.1 to_y found_comma ∙ ap (λ t. codes "," ++ t) split_y)))
          ∙ sym (pointer_text id.0 x.0 y.0 y.1),
      (leb-true least id.0 above, small, fits_x, fits_y),
    )

-- pointers
no_digit : (ps : List Pointer) → NoDigit (pointers ps)
unfolding pointer
no_digit [] = tt
no_digit (p ∷ ps) = refl

first_byte : (p : Pointer) (ps : List Pointer) → 0 < length (pointers (p ∷ ps))
unfolding pointer
first_byte p ps = omega arith

pointers_again : (room least : ℕ) (ps : List Pointer) → length ps ≤ room → HavePlaces least ps → pointers_at room least (pointers ps) ≡ Some ps
pointers_again room least [] m h = at_end room least [] refl
pointers_again room least (p ∷ ps) m h =
    pointers_step room least (pointers (p ∷ ps)) (omega arith) (first_byte p ps)
    ∙ ap (λ o. o >>= λ (q : Pointer × List ℕ). with_pointer q.0 (pointers_at (room - 1) (q.0.id + 1) q.1))
    (pointer_again least p.id p.at.x p.at.y (pointers ps) h.0 h.1 h.2 h.3 (no_digit ps))
    ∙ ap (with_pointer p) (pointers_again (room - 1) (p.id + 1) ps (omega arith) h.4)

abbrev SpelledPointers : ℕ → ℕ → List ℕ → List Pointer → Type 0
SpelledPointers room least bs ps = (bs ≡ pointers ps) × (length ps ≤ room) × HavePlaces least ps

in_front_of : (p : Pointer) (o : Option (List Pointer)) (ps : List Pointer) → with_pointer p o ≡ Some ps → (qs : List Pointer) × (o ≡ Some qs) × (p ∷ qs ≡ ps)
in_front_of p None ps h = absurd (none-some ps h)
in_front_of p (Some qs) ps h = (qs, refl, same_Some (p ∷ qs) ps h)

pointers_only : (room least : ℕ) (bs : List ℕ) (ps : List Pointer) → pointers_at room least bs ≡ Some ps → SpelledPointers room least bs ps
unfolding pointers_at
pointers_only room least [] ps h = subst (SpelledPointers room least []) (same_Some [] ps (sym (at_end room least [] refl) ∙ h)) (refl, omega arith, tt)
pointers_only zero least (b ∷ bs) ps h = absurd (none-some ps h)
pointers_only (suc room) least (b ∷ bs) ps h =
    let (p, found, h1) = bind_some (pointer_at least (b ∷ bs)) _ ps h in
    let (qs, others, same) = in_front_of p.0 (pointers_at room (p.0.id + 1) p.1) ps h1 in
    let (split, place) = pointer_only least (b ∷ bs) p found in
    let (rest, short, places) = pointers_only room (p.0.id + 1) p.1 qs others in
    subst (SpelledPointers (suc room) least (b ∷ bs)) same
    (split ∙ ap (λ t. pointer p.0.id p.0.at.x p.0.at.y ++ t) rest, omega arith, (place.0, place.1, place.2, place.3, places))

-- a motion
pub motion_text : (m : Motion) → motion m ≡ codes "motion " ++ (decimal m.device ++ (codes " " ++ (action m.action m.index ++ (flag_words m.flags ++ pointers m.pointers))))
unfolding motion
motion_text m = simp append_assoc

index_below : (a : MotionAction) (index count : ℕ) → HasIndex a index count → count ≤ 16 → (index < count) × PlainIndex a index
index_below PointerDown index count h m = (h, omega arith)
index_below PointerUp index count h m = (h, omega arith)
index_below Down index count h m = (omega (arith, h.0, h.1), h.0)
index_below Up index count h m = (omega (arith, h.0, h.1), h.0)
index_below Move index count h m = (omega (arith, h.0, h.1), h.0)
index_below Cancel index count h m = (omega (arith, h.0, h.1), h.0)
index_below Outside index count h m = (omega (arith, h.0, h.1), h.0)

has_index : (a : MotionAction) (index count : ℕ) → index < count → PlainIndex a index → HasIndex a index count
has_index PointerDown index count l h = l
has_index PointerUp index count l h = l
has_index Down index count l h = (h, omega (arith, l, h))
has_index Up index count l h = (h, omega (arith, l, h))
has_index Move index count l h = (h, omega (arith, l, h))
has_index Cancel index count l h = (h, omega (arith, l, h))
has_index Outside index count l h = (h, omega (arith, l, h))

flags_pointers : (flags : ℕ) (ps : List Pointer) → HasFlags flags → 0 < length ps → HavePlaces 0 ps → flags_at (flag_words flags ++ pointers ps) ≡ (flags, pointers ps)
flags_pointers flags [] f l h = absurd (omega arith)
flags_pointers flags (p ∷ ps) f l h =
    rw (pointer_text p.id p.at.x p.at.y (pointers ps))
    (all_flags_again flags p.id (codes "@" ++ (signed_decimal p.at.x ++ (codes "," ++ (signed_decimal p.at.y ++ pointers ps)))) f (omega (arith, h.1)))

flags_no_digit : (flags : ℕ) (ps : List Pointer) → HasFlags flags → NoDigit (flag_words flags ++ pointers ps)
flags_no_digit flags ps f =
    subst (λ xs. NoDigit (xs ++ pointers ps)) (sym (words_of_flags flags f)) (by_flags f.0 f.1 f.2)
  where
    by_flags : (c o p : Bool) → NoDigit (words_of c o p ++ pointers ps)
    by_flags true o p = refl
    by_flags false true p = refl
    by_flags false false true = refl
    by_flags false false false = no_digit ps

pub motion_again : (m : Motion) → SpelledMotion m
    → motion_of (decimal m.device ++ (codes " " ++ (action m.action m.index ++ (flag_words m.flags ++ pointers m.pointers)))) ≡ Some m
unfolding motion_of
motion_again m h =
    let (below, plain_index) = index_below m.action m.index (length m.pointers) h.index h.count in
    rw (device_again m.device (codes " " ++ (action m.action m.index ++ (flag_words m.flags ++ pointers m.pointers))) h.device.0 h.device.1 refl, action_again m.action m.index (flag_words m.flags ++ pointers m.pointers) plain_index (flags_no_digit m.flags m.pointers h.flags), flags_pointers m.flags m.pointers h.flags (omega (arith, below)) h.places, pointers_again 16 0 m.pointers h.count h.places, lt-ltb m.index (length m.pointers) below) refl

pub motion_only : (bs : List ℕ) (m : Motion) → motion_of bs ≡ Some m → (codes "motion " ++ bs ≡ motion m) × SpelledMotion m
unfolding motion_of
motion_only bs m h =
    let (device, found_device, h1) = bind_some (device_at bs) _ m h in
    let (to_action, found_space, h2) = bind_some (after (codes " ") device.1) _ m h1 in
    let (act, found_action, h3) = bind_some (action_at to_action) _ m h2 in
    let (ps, found_pointers, h4) = bind_some (pointers_at 16 0 (flags_at act.2).1) _ m h3 in
    let made : Motion = record { device = device.0; action = act.0; index = act.1; flags = (flags_at act.2).0; pointers = ps } in
    let (below, same) = cond_some (ltb act.1 (length ps)) made m h4 in
    let (split_device, least, most) = device_only bs device found_device in
    let (split_action, plain_index) = action_only to_action act found_action in
    let (split_flags, flag) = all_flags_only act.2 in
    let (split_pointers, count, places) = pointers_only 16 0 (flags_at act.2).1 ps found_pointers in
    let P : Motion → Type 0 = λ x. (codes "motion " ++ bs ≡ motion x) × SpelledMotion x in
    subst P same (
      ap (λ t. codes "motion " ++ t)
          (split_device
          ∙ ap (λ t. decimal device.0 ++ t)
          (after_only (codes " ") device.1 to_action found_space
          ∙ ap (λ t. codes " " ++ t)
          (split_action ∙ ap (λ t. action act.0 act.1 ++ t) (split_flags ∙ ap (λ t. flag_words (flags_at act.2).0 ++ t) split_pointers))))
          ∙ sym (motion_text made),
      record {
        device = (least, most);
        index = has_index act.0 act.1 (length ps) (ltb-true act.1 (length ps) below) plain_index;
        flags = flag;
        count = count;
        places = places;
      },
    )
