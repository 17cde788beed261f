-- What one pointer more adds to the motions of a packet.
use Rattle.std.specs.Prelude.{◌≡◌, ℕ, ◌+◌, ◌<◌, Bool, true, false, List, [], ◌∷◌, ◌++◌, length, map, drop, get_or}
use Rattle.std.proofs.Common.{sym, ◌∙◌, ap, refl, append_assoc}
use Rattle.input_types.specs.declared.pointer.Pointer.{Pointer}
use Rattle.input_types.specs.declared.motion.Motion.{Motion}
use Rattle.device_reader.specs.TouchMapper.Gesture.{is_down, kept, moved_all, up, down, ups, downs, moves, gesture}
use Rattle.input_types.specs.Gestures.{ids_of, same_ids}
use Rattle.std.proofs.lemmas.List.{map-append}
use Rattle.device_reader.proofs.TouchMapper.Rising.{drop_item}

ups_kept : (d : ℕ) (c : ℕ → Bool) (now below : List Pointer) (p : Pointer) (rest : List Pointer) → is_down p.id now ≡ true
    → ups d c now (below ++ p ∷ []) rest ≡ ups d c now below (p ∷ rest)
ups_kept d c now below p rest h = rw h refl

ups_gone : (d : ℕ) (c : ℕ → Bool) (now below : List Pointer) (p : Pointer) (rest : List Pointer) → is_down p.id now ≡ false
    → up d (c p.id) (length below) (below ++ p ∷ rest) ∷ ups d c now below rest ≡ ups d c now below (p ∷ rest)
ups_gone d c now below p rest h = rw h refl

-- a pointer that stays is passed
pub ups_pass : {X : Type 0} (f : Motion → X) (ms : List X) (d : ℕ) (c : ℕ → Bool) (now below ps : List Pointer) (i : ℕ) (p : Pointer) → i < length ps
    → p ≡ get_or ps i p → is_down p.id now ≡ true
    → ms ++ map f (ups d c now (below ++ p ∷ []) (drop (i + 1) ps)) ≡ ms ++ map f (ups d c now below (drop i ps))
ups_pass f ms d c now below ps i p lt is h =
    ap (λ xs. ms ++ map f xs) (ups_kept d c now below p (drop (i + 1) ps) h ∙ ap (λ xs. ups d c now below xs) (sym (drop_item ps i p lt is)))

-- a pointer that is gone goes up
pub ups_push : {X : Type 0} (f : Motion → X) (ms : List X) (d : ℕ) (c : ℕ → Bool) (now below ps : List Pointer) (i : ℕ) (p : Pointer) → i < length ps
    → p ≡ get_or ps i p → is_down p.id now ≡ false
    → (ms ++ f (up d (c p.id) (length below) (below ++ drop i ps)) ∷ []) ++ map f (ups d c now below (drop (i + 1) ps)) ≡ ms ++ map f (ups d c now below (drop i ps))
ups_push f ms d c now below ps i p lt is h =
    append_assoc ms (f (up d (c p.id) (length below) (below ++ drop i ps)) ∷ []) (map f (ups d c now below (drop (i + 1) ps)))
    ∙ ap (λ xs. ms ++ map f xs)
    (ap (λ ys. up d (c p.id) (length below) (below ++ ys) ∷ ups d c now below (drop (i + 1) ps)) (drop_item ps i p lt is)
    ∙ ups_gone d c now below p (drop (i + 1) ps) h
    ∙ ap (λ xs. ups d c now below xs) (sym (drop_item ps i p lt is)))

downs_kept : (d : ℕ) (last below : List Pointer) (p : Pointer) (rest : List Pointer) → is_down p.id last ≡ true
    → downs d last (below ++ p ∷ []) rest ≡ downs d last below (p ∷ rest)
downs_kept d last below p rest h = rw h refl

downs_new : (d : ℕ) (last below : List Pointer) (p : Pointer) (rest : List Pointer) → is_down p.id last ≡ false
    → down d (length below) (below ++ p ∷ kept last rest) ∷ downs d last (below ++ p ∷ []) rest ≡ downs d last below (p ∷ rest)
downs_new d last below p rest h = rw h refl

-- a pointer that was down is passed
pub downs_pass : {X : Type 0} (f : Motion → X) (ms : List X) (d : ℕ) (last below ps : List Pointer) (i : ℕ) (p : Pointer) → i < length ps
    → p ≡ get_or ps i p → is_down p.id last ≡ true
    → ms ++ map f (downs d last (below ++ p ∷ []) (drop (i + 1) ps)) ≡ ms ++ map f (downs d last below (drop i ps))
downs_pass f ms d last below ps i p lt is h =
    ap (λ xs. ms ++ map f xs) (downs_kept d last below p (drop (i + 1) ps) h ∙ ap (λ xs. downs d last below xs) (sym (drop_item ps i p lt is)))

-- a new pointer goes down
pub downs_push : {X : Type 0} (f : Motion → X) (ms : List X) (d : ℕ) (last below ps : List Pointer) (i : ℕ) (p : Pointer) → i < length ps
    → p ≡ get_or ps i p → is_down p.id last ≡ false
    → (ms ++ f (down d (length below) ((below ++ p ∷ []) ++ kept last (drop (i + 1) ps))) ∷ []) ++ map f (downs d last (below ++ p ∷ []) (drop (i + 1) ps))
    ≡ ms ++ map f (downs d last below (drop i ps))
downs_push f ms d last below ps i p lt is h =
    append_assoc ms (f (down d (length below) ((below ++ p ∷ []) ++ kept last (drop (i + 1) ps))) ∷ []) (map f (downs d last (below ++ p ∷ []) (drop (i + 1) ps)))
    ∙ ap (λ xs. ms ++ map f xs)
    (ap (λ ys. down d (length below) ys ∷ downs d last (below ++ p ∷ []) (drop (i + 1) ps)) (append_assoc below (p ∷ []) (kept last (drop (i + 1) ps)))
    ∙ downs_new d last below p (drop (i + 1) ps) h
    ∙ ap (λ xs. downs d last below xs) (sym (drop_item ps i p lt is)))

kept_more : (last : List Pointer) (p : Pointer) (rest : List Pointer) → is_down p.id last ≡ true → p ∷ kept last rest ≡ kept last (p ∷ rest)
kept_more last p rest h = rw h refl

kept_same : (last : List Pointer) (p : Pointer) (rest : List Pointer) → is_down p.id last ≡ false → kept last rest ≡ kept last (p ∷ rest)
kept_same last p rest h = rw h refl

pub kept_push : (xs last ps : List Pointer) (i : ℕ) (p : Pointer) → i < length ps → p ≡ get_or ps i p → is_down p.id last ≡ true
    → (xs ++ p ∷ []) ++ kept last (drop (i + 1) ps) ≡ xs ++ kept last (drop i ps)
kept_push xs last ps i p lt is h =
    append_assoc xs (p ∷ []) (kept last (drop (i + 1) ps))
    ∙ ap (λ ys. xs ++ ys) (kept_more last p (drop (i + 1) ps) h ∙ ap (λ ys. kept last ys) (sym (drop_item ps i p lt is)))

pub kept_pass : (xs last ps : List Pointer) (i : ℕ) (p : Pointer) → i < length ps → p ≡ get_or ps i p → is_down p.id last ≡ false
    → xs ++ kept last (drop (i + 1) ps) ≡ xs ++ kept last (drop i ps)
kept_pass xs last ps i p lt is h =
    ap (λ ys. xs ++ ys) (kept_same last p (drop (i + 1) ps) h ∙ ap (λ ys. kept last ys) (sym (drop_item ps i p lt is)))

three_joined : {X : Type 0} (f : Motion → X) (given : List X) (us ms ds : List Motion) → ((given ++ map f us) ++ map f ms) ++ map f ds ≡ given ++ map f ((us ++ ms) ++ ds)
three_joined f given us ms ds =
    append_assoc (given ++ map f us) (map f ms) (map f ds)
    ∙ append_assoc given (map f us) (map f ms ++ map f ds)
    ∙ ap (λ xs. given ++ xs) (sym (map-append f (us ++ ms) ds ∙ ap (λ xs. xs ++ map f ds) (map-append f us ms) ∙ append_assoc (map f us) (map f ms) (map f ds)))

where_changed : (d : ℕ) (c : ℕ → Bool) (last now : List Pointer) → same_ids (ids_of last) (ids_of now) ≡ false
    → ups d c now [] (moved_all last now) ++ moves d last now ++ downs d last [] now ≡ gesture d c last now
where_changed d c last now h = rw h refl

-- the ups, then the move, then the downs are all motions between two packets whose ids differ
pub all_three : {X : Type 0} (f : Motion → X) (d : ℕ) (c : ℕ → Bool) (last now : List Pointer) (given a b e : List X)
    → same_ids (ids_of last) (ids_of now) ≡ false → a ≡ given ++ map f (ups d c now [] (moved_all last now)) → b ≡ a ++ map f (moves d last now)
    → e ≡ b ++ map f (downs d last [] now) → e ≡ given ++ map f (gesture d c last now)
all_three f d c last now given a b e h p q r =
    r
    ∙ ap (λ xs. xs ++ map f (downs d last [] now)) (q ∙ ap (λ xs. xs ++ map f (moves d last now)) p)
    ∙ three_joined f given (ups d c now [] (moved_all last now)) (moves d last now) (downs d last [] now)
    ∙ ap (λ ms. given ++ map f ms) (where_changed d c last now h)
