-- Lists of pointers whose ids rise.
use Rattle.std.specs.Prelude.{◌≡◌, ℕ, suc, ◌+◌, ◌<◌, ◌≤◌, Bool, true, false, nat_eq, List, [], ◌∷◌, ◌++◌, length, find, Some, drop, get_or, unwrap_or, if◌then◌else◌}
use Rattle.std.proofs.Common.{sym, ◌∙◌, ap, subst, refl, arith, append_assoc, length-append, drop-cons, add-one}
use Rattle.std.proofs.lemmas.Bool.{eqb-true}
use Rattle.input_types.specs.declared.pointer.Pointer.{Pointer}
use Rattle.input_types.specs.Pointers.{IsRising, EndsBelow}
use Rattle.device_reader.specs.declared.pointer_ids.assigned.Held.{Held}
use Rattle.device_reader.specs.PointerIds.Assigned.{IsRising as HeldRising}
use Rattle.device_reader.specs.TouchMapper.Cooking.{Cooking}
use Rattle.device_reader.specs.TouchMapper.Rising.{IsAbove, Rises}
use Rattle.device_reader.specs.TouchMapper.Gesture.{placed, placed_all, moved, moved_all}

pub drop_at : {X : Type 0} (xs : List X) (i : ℕ) (d : X) → i < length xs → drop i xs ≡ get_or xs i d ∷ drop (i + 1) xs
drop_at xs i d lt = drop-cons xs i d lt ∙ ap (λ n. get_or xs i d ∷ drop n xs) (sym (add-one i))

pub drop_item : {X : Type 0} (xs : List X) (i : ℕ) (x : X) → i < length xs → x ≡ get_or xs i x → drop i xs ≡ x ∷ drop (i + 1) xs
drop_item xs i x lt is =
    drop-cons xs i x lt ∙ ap (λ y. y ∷ drop (suc i) xs) (sym is) ∙ ap (λ n. x ∷ drop n xs) (sym (add-one i))

above_lower : (m n : ℕ) (ps : List Pointer) → m < n → IsAbove n ps → IsAbove m ps
above_lower m n [] lt h = tt
above_lower m n (p ∷ ps) lt h = (omega (arith, lt, h.0), above_lower m n ps lt h.1)

pub rises_of : (ps : List Pointer) → IsRising ps → Rises ps
rises_of [] h = tt
rises_of (p ∷ []) h = (tt, tt)
rises_of (p ∷ q ∷ ps) h =
    let rest : Rises (q ∷ ps) = rises_of (q ∷ ps) h.1 in
    ((h.0, above_lower p.id q.id ps h.0 rest.0), rest)

pub ends_before : (xs : List Pointer) (p : Pointer) (ys : List Pointer) → Rises (xs ++ p ∷ ys) → EndsBelow xs p.id
ends_before [] p ys h = tt
ends_before (x ∷ []) p ys h = h.0.0
ends_before (x ∷ y ∷ xs) p ys h = ends_before (y ∷ xs) p ys h.1

pub room_before : (xs : List Pointer) (p : Pointer) (ys : List Pointer) → length (xs ++ p ∷ ys) ≤ 16 → length xs < 16
room_before xs p ys h = omega (arith, h, length-append xs (p ∷ ys))

above_without : (n : ℕ) (xs : List Pointer) (p : Pointer) (ys : List Pointer) → IsAbove n (xs ++ p ∷ ys) → IsAbove n (xs ++ ys)
above_without n [] p ys h = h.1
above_without n (x ∷ xs) p ys h = (h.0, above_without n xs p ys h.1)

pub rises_without : (xs : List Pointer) (p : Pointer) (ys : List Pointer) → Rises (xs ++ p ∷ ys) → Rises (xs ++ ys)
rises_without [] p ys h = h.1
rises_without (x ∷ xs) p ys h = (above_without x.id xs p ys h.0, rises_without xs p ys h.1)

pub room_without : (xs : List Pointer) (p : Pointer) (ys : List Pointer) → length (xs ++ p ∷ ys) ≤ 16 → length (xs ++ ys) ≤ 16
room_without xs p ys h = omega (arith, h, length-append xs (p ∷ ys), length-append xs ys)

-- ---- pointers at their pixels, and at their new places

above_placed : (c : Cooking) (n : ℕ) (h : Held) (hs : List Held) → n < h.id → HeldRising (h ∷ hs) → IsAbove n (placed_all c (h ∷ hs))
above_placed c n h [] lt r = (lt, tt)
above_placed c n h (k ∷ hs) lt r = (lt, above_placed c n k hs (omega (arith, lt, r.0)) r.1)

pub rises_placed : (c : Cooking) (hs : List Held) → HeldRising hs → Rises (placed_all c hs)
rises_placed c [] r = tt
rises_placed c (h ∷ []) r = (tt, tt)
rises_placed c (h ∷ k ∷ hs) r = (above_placed c h.id k hs r.0 r.1, rises_placed c (k ∷ hs) r.1)

moved_here : (q : Pointer) (now : List Pointer) (p : Pointer) (b : Bool) → nat_eq q.id p.id ≡ b → (moved now p).id ≡ p.id
    → (unwrap_or (if b then Some q else find (λ (r : Pointer). nat_eq r.id p.id) now) p).id ≡ p.id
moved_here q now p true is h = eqb-true q.id p.id is
moved_here q now p false is h = h

-- a pointer keeps its id when it moves
pub moved_id : (now : List Pointer) (p : Pointer) → (moved now p).id ≡ p.id
moved_id [] p = refl
moved_id (q ∷ now) p = moved_here q now p (nat_eq q.id p.id) refl (moved_id now p)

above_moved : (now : List Pointer) (n : ℕ) (ps : List Pointer) → IsAbove n ps → IsAbove n (moved_all ps now)
above_moved now n [] h = tt
above_moved now n (p ∷ ps) h = (omega (arith, h.0, moved_id now p), above_moved now n ps h.1)

pub rises_moved : (now ps : List Pointer) → Rises ps → Rises (moved_all ps now)
rises_moved now [] h = tt
rises_moved now (p ∷ ps) h =
    let Above : ℕ → Type 0 = λ n. IsAbove n (moved_all ps now) in
    (subst Above (sym (moved_id now p)) (above_moved now p.id ps h.0), rises_moved now ps h.1)

-- ---- one pointer more of a list

pub ends_item : (below ps : List Pointer) (i : ℕ) (p : Pointer) → Rises (below ++ drop i ps) → i < length ps → p ≡ get_or ps i p → EndsBelow below p.id
ends_item below ps i p r lt is = ends_before below p (drop (i + 1) ps) (subst (λ (xs : List Pointer). Rises (below ++ xs)) (drop_item ps i p lt is) r)

pub walk_push : (xs ps : List Pointer) (i : ℕ) (p : Pointer) → i < length ps → p ≡ get_or ps i p
    → (xs ++ p ∷ []) ++ drop (i + 1) ps ≡ xs ++ drop i ps
walk_push xs ps i p lt is = append_assoc xs (p ∷ []) (drop (i + 1) ps) ∙ ap (λ ys. xs ++ ys) (sym (drop_item ps i p lt is))

pub rises_skip : (xs ps : List Pointer) (i : ℕ) (p : Pointer) → i < length ps → p ≡ get_or ps i p → Rises (xs ++ drop i ps) → Rises (xs ++ drop (i + 1) ps)
rises_skip xs ps i p lt is r = rises_without xs p (drop (i + 1) ps) (subst (λ (ys : List Pointer). Rises (xs ++ ys)) (drop_item ps i p lt is) r)

pub room_skip : (xs ps : List Pointer) (i : ℕ) (p : Pointer) → i < length ps → p ≡ get_or ps i p → length (xs ++ drop i ps) ≤ 16 → length (xs ++ drop (i + 1) ps) ≤ 16
room_skip xs ps i p lt is r = room_without xs p (drop (i + 1) ps) (subst (λ (ys : List Pointer). length (xs ++ ys) ≤ 16) (drop_item ps i p lt is) r)

pub placed_step : (c : Cooking) (hs : List Held) (i : ℕ) (h : Held) (below : List Pointer) → HeldRising hs → i < length hs → h ≡ get_or hs i h
    → below ++ placed_all c (drop i hs) ≡ placed_all c hs → EndsBelow below h.id
placed_step c hs i h below r lt is whole =
    ends_before below (placed c h) (placed_all c (drop (i + 1) hs))
    (subst (λ (xs : List Held). Rises (below ++ placed_all c xs)) (drop_item hs i h lt is) (subst Rises (sym whole) (rises_placed c hs r)))

pub moved_step : (now ps : List Pointer) (i : ℕ) (p : Pointer) (below : List Pointer) → Rises ps → i < length ps → p ≡ get_or ps i p
    → below ++ moved_all (drop i ps) now ≡ moved_all ps now → EndsBelow below (moved now p).id
moved_step now ps i p below r lt is whole =
    ends_before below (moved now p) (moved_all (drop (i + 1) ps) now)
    (subst (λ (xs : List Pointer). Rises (below ++ moved_all xs now)) (drop_item ps i p lt is) (subst Rises (sym whole) (rises_moved now ps r)))
