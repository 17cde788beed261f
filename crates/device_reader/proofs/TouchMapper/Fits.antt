-- The motions between two packets may come one after the other, and leave down what the second packet has.
use Rattle.std.specs.Prelude.{◌≡◌, ◌≢◌, ℕ, suc, ◌+◌, Bool, true, false, ◌&&◌, nat_eq, nat_lt, List, [], ◌∷◌, ◌++◌, length, filter, remove, unwrap_or, find, Option, Some, None, if◌then◌else◌}
use Rattle.std.specs.Option.{option_and_then}
use Rattle.std.proofs.Common.{sym, ◌∙◌, ap, refl, arith, append_assoc, length-append, eq-eqb}
use Rattle.std.proofs.Math.Path.{fun_ext}
use Rattle.std.proofs.lemmas.Bool.{eqb-true, eqb-false, lt-ltb}
use Rattle.input_types.specs.declared.pointer.Pointer.{Pointer}
use Rattle.input_types.specs.declared.motion.Motion.{Motion}
use Rattle.input_types.specs.declared.motion.MotionAction.TheVariants.{Down, Up, Move, Cancel, PointerDown, PointerUp}
use Rattle.input_types.specs.Gestures.{ids_of, same_ids, after_motion, after_action, flag_canceled, is_end_flag}
use Rattle.device_reader.specs.TouchMapper.Rising.{Rises}
use Rattle.device_reader.specs.TouchMapper.Gesture.{is_down, moved, moved_all, kept, is_changed, up, down, motion, ups, downs, moves, gesture, after_motions}
use Rattle.device_reader.proofs.TouchMapper.Common.{has, has_ids, rising_ids, filter_ids, both}

same_refl : (is : List ℕ) → same_ids is is ≡ true
same_refl [] = refl
same_refl (i ∷ is) = rw (eq-eqb i i refl) (same_refl is)

length_ids : (ps : List Pointer) → length (ids_of ps) ≡ length ps
length_ids [] = refl
length_ids (p ∷ ps) = omega (arith, length_ids ps)

remove_at : (below : List Pointer) (p : Pointer) (above : List Pointer) → remove (ids_of (below ++ p ∷ above)) (length below) ≡ ids_of (below ++ above)
remove_at [] p above = refl
remove_at (q ∷ below) p above = ap (λ is. q.id ∷ is) (remove_at below p above)

-- the ids that are down after one of several that goes up
one_of_many : (below : List Pointer) (p : Pointer) (above : List Pointer) (flags : ℕ) → length (below ++ p ∷ above) ≢ 1 → is_end_flag flags ≡ true
    → after_action PointerUp (ids_of (below ++ p ∷ above)) (ids_of (below ++ p ∷ above)) (length below) flags ≡ Some (ids_of (below ++ above))
one_of_many below p above flags ne ends =
    let long : length (ids_of (below ++ p ∷ above)) ≡ length below + suc (length above) =
    length_ids (below ++ p ∷ above) ∙ length-append below (p ∷ above) in
    let many : nat_lt 1 (length (ids_of (below ++ p ∷ above))) ≡ true = lt-ltb 1 (length (ids_of (below ++ p ∷ above))) (omega (arith, long, ne, length_ids (below ++ p ∷ above))) in
    let within : nat_lt (length below) (length (ids_of (below ++ p ∷ above))) ≡ true = lt-ltb (length below) (length (ids_of (below ++ p ∷ above))) (omega (arith, long)) in
    rw (same_refl (ids_of (below ++ p ∷ above)), many, within, ends) (ap (λ is. Some is) (remove_at below p above))

end_flag : (cancelled : Bool) → is_end_flag (if cancelled then flag_canceled else 0) ≡ true
end_flag true = refl
end_flag false = refl

-- the ids that are down after the last one went up
last_up : (p : Pointer) (cancelled : Bool) → after_action (if cancelled then Cancel else Up) (p.id ∷ []) (p.id ∷ []) 0 0 ≡ Some []
last_up p true = rw (eq-eqb p.id p.id refl) refl
last_up p false = rw (eq-eqb p.id p.id refl) refl

-- the ids that are down after one that goes up
up_fits : (d : ℕ) (cancelled : Bool) (below : List Pointer) (p : Pointer) (above : List Pointer) (b : Bool) → nat_eq (length (below ++ p ∷ above)) 1 ≡ b
    → after_motion (ids_of (below ++ p ∷ above))
    (if b then motion d (if cancelled then Cancel else Up) (length below) 0 (below ++ p ∷ above)
    else motion d PointerUp (length below) (if cancelled then flag_canceled else 0) (below ++ p ∷ above)) ≡ Some (ids_of (below ++ above))
up_fits d cancelled [] p [] true e = last_up p cancelled
up_fits d cancelled [] p (a ∷ above) true e = absurd (omega (arith, eqb-true (length ([] ++ p ∷ a ∷ above)) 1 e, length-append [] (p ∷ a ∷ above)))
up_fits d cancelled (x ∷ below) p above true e = absurd (omega (arith, eqb-true (length ((x ∷ below) ++ p ∷ above)) 1 e, length-append (x ∷ below) (p ∷ above)))
up_fits d cancelled below p above false e =
    one_of_many below p above (if cancelled then flag_canceled else 0) (eqb-false (length (below ++ p ∷ above)) 1 e) (end_flag cancelled)

-- the ids that are down after one that goes down
down_fits : (below : List Pointer) (p : Pointer) (above : List Pointer) (b : Bool) → nat_eq (length (below ++ p ∷ above)) 1 ≡ b
    → after_action (if b then Down else PointerDown) (ids_of (below ++ above)) (ids_of (below ++ p ∷ above)) (length below) 0 ≡ Some (ids_of (below ++ p ∷ above))
down_fits [] p [] true e = refl
down_fits [] p (a ∷ above) true e = absurd (omega (arith, eqb-true (length ([] ++ p ∷ a ∷ above)) 1 e, length-append [] (p ∷ a ∷ above)))
down_fits (x ∷ below) p above true e = absurd (omega (arith, eqb-true (length ((x ∷ below) ++ p ∷ above)) 1 e, length-append (x ∷ below) (p ∷ above)))
down_fits below p above false e =
    let long : length (ids_of (below ++ p ∷ above)) ≡ length below + suc (length above) =
    length_ids (below ++ p ∷ above) ∙ length-append below (p ∷ above) in
    let short : length (ids_of (below ++ above)) ≡ length below + length above =
    length_ids (below ++ above) ∙ length-append below above in
    let ne : length (below ++ p ∷ above) ≢ 1 = eqb-false (length (below ++ p ∷ above)) 1 e in
    let some : nat_lt 0 (length (ids_of (below ++ above))) ≡ true =
    lt-ltb 0 (length (ids_of (below ++ above))) (omega (arith, long, short, ne, length_ids (below ++ p ∷ above))) in
    let within : nat_lt (length below) (length (ids_of (below ++ p ∷ above))) ≡ true = lt-ltb (length below) (length (ids_of (below ++ p ∷ above))) (omega (arith, long)) in
    let others : same_ids (remove (ids_of (below ++ p ∷ above)) (length below)) (ids_of (below ++ above)) ≡ true =
    ap (λ is. same_ids is (ids_of (below ++ above))) (remove_at below p above) ∙ same_refl (ids_of (below ++ above)) in
    rw (some, within, others) refl

-- a motion that may come, before others
first_fits : (is next end : List ℕ) (m : Motion) (ms : List Motion) → after_motion is m ≡ Some next → after_motions next ms ≡ Some end
    → after_motions is (m ∷ ms) ≡ Some end
first_fits is next end m ms one rest = ap (λ o. option_and_then (λ n. after_motions n ms) o) one ∙ rest

-- those of a list that stay down in another
abbrev pub staying : List Pointer → List Pointer → List Pointer
staying now ps = filter (λ p. is_down p.id now) ps

ups_fit_at : (d : ℕ) (c : ℕ → Bool) (now below : List Pointer) (p : Pointer) (rest : List Pointer) (b : Bool) → is_down p.id now ≡ b
    → ((low : List Pointer) → after_motions (ids_of (low ++ rest)) (ups d c now low rest) ≡ Some (ids_of (low ++ staying now rest)))
    → after_motions (ids_of (below ++ p ∷ rest)) (if b then ups d c now (below ++ p ∷ []) rest else up d (c p.id) (length below) (below ++ p ∷ rest) ∷ ups d c now below rest)
    ≡ Some (ids_of (below ++ (if b then p ∷ staying now rest else staying now rest)))
ups_fit_at d c now below p rest true is later =
    ap (λ xs. after_motions (ids_of xs) (ups d c now (below ++ p ∷ []) rest)) (sym (append_assoc below (p ∷ []) rest))
    ∙ later (below ++ p ∷ [])
    ∙ ap (λ xs. Some (ids_of xs)) (append_assoc below (p ∷ []) (staying now rest))
ups_fit_at d c now below p rest false is later =
    first_fits (ids_of (below ++ p ∷ rest)) (ids_of (below ++ rest)) (ids_of (below ++ staying now rest)) (up d (c p.id) (length below) (below ++ p ∷ rest)) (ups d c now below rest)
    (up_fits d (c p.id) below p rest (nat_eq (length (below ++ p ∷ rest)) 1) refl) (later below)

ups_fit : (d : ℕ) (c : ℕ → Bool) (now rest below : List Pointer) → after_motions (ids_of (below ++ rest)) (ups d c now below rest) ≡ Some (ids_of (below ++ staying now rest))
ups_fit d c now [] below = refl
ups_fit d c now (p ∷ rest) below = ups_fit_at d c now below p rest (is_down p.id now) refl (λ low. ups_fit d c now rest low)

downs_fit_at : (d : ℕ) (last below : List Pointer) (p : Pointer) (rest : List Pointer) (b : Bool) → is_down p.id last ≡ b
    → ((low : List Pointer) → after_motions (ids_of (low ++ kept last rest)) (downs d last low rest) ≡ Some (ids_of (low ++ rest)))
    → after_motions (ids_of (below ++ (if b then p ∷ kept last rest else kept last rest)))
    (if b then downs d last (below ++ p ∷ []) rest else down d (length below) (below ++ p ∷ kept last rest) ∷ downs d last (below ++ p ∷ []) rest)
    ≡ Some (ids_of (below ++ p ∷ rest))
downs_fit_at d last below p rest true is later =
    ap (λ xs. after_motions (ids_of xs) (downs d last (below ++ p ∷ []) rest)) (sym (append_assoc below (p ∷ []) (kept last rest)))
    ∙ later (below ++ p ∷ [])
    ∙ ap (λ xs. Some (ids_of xs)) (append_assoc below (p ∷ []) rest)
downs_fit_at d last below p rest false is later =
    first_fits (ids_of (below ++ kept last rest)) (ids_of (below ++ p ∷ kept last rest)) (ids_of (below ++ p ∷ rest)) (down d (length below) (below ++ p ∷ kept last rest)) (downs d last (below ++ p ∷ []) rest)
    (down_fits below p (kept last rest) (nat_eq (length (below ++ p ∷ kept last rest)) 1) refl)
    (ap (λ xs. after_motions (ids_of xs) (downs d last (below ++ p ∷ []) rest)) (sym (append_assoc below (p ∷ []) (kept last rest)))
    ∙ later (below ++ p ∷ [])
    ∙ ap (λ xs. Some (ids_of xs)) (append_assoc below (p ∷ []) rest))

downs_fit : (d : ℕ) (last rest below : List Pointer) → after_motions (ids_of (below ++ kept last rest)) (downs d last below rest) ≡ Some (ids_of (below ++ rest))
downs_fit d last [] below = refl
downs_fit d last (p ∷ rest) below = downs_fit_at d last below p rest (is_down p.id last) refl (λ low. downs_fit d last rest low)

move_fits : (d : ℕ) (ps : List Pointer) → after_motion (ids_of ps) (motion d Move 0 0 ps) ≡ Some (ids_of ps)
move_fits d ps = rw (same_refl (ids_of ps)) refl

moves_fit_at : (d : ℕ) (ps : List Pointer) (b : Bool) → after_motions (ids_of ps) (if b then motion d Move 0 0 ps ∷ [] else []) ≡ Some (ids_of ps)
moves_fit_at d ps true = first_fits (ids_of ps) (ids_of ps) (ids_of ps) (motion d Move 0 0 ps) [] (move_fits d ps) refl
moves_fit_at d ps false = refl

-- motions after motions
chain_at : (m : Motion) (ms ns : List Motion) (o : Option (List ℕ))
    → ((next : List ℕ) → after_motions next (ms ++ ns) ≡ option_and_then (λ n. after_motions n ns) (after_motions next ms))
    → option_and_then (λ next. after_motions next (ms ++ ns)) o ≡ option_and_then (λ n. after_motions n ns) (option_and_then (λ next. after_motions next ms) o)
chain_at m ms ns None h = refl
chain_at m ms ns (Some next) h = h next

chain : (ms ns : List Motion) (is : List ℕ) → after_motions is (ms ++ ns) ≡ option_and_then (λ next. after_motions next ns) (after_motions is ms)
chain [] ns is = refl
chain (m ∷ ms) ns is = chain_at m ms ns (after_motion is m) (λ next. chain ms ns next)

both_fit : (is next end : List ℕ) (ms ns : List Motion) → after_motions is ms ≡ Some next → after_motions next ns ≡ Some end → after_motions is (ms ++ ns) ≡ Some end
both_fit is next end ms ns one two = chain ms ns is ∙ ap (λ o. option_and_then (λ n. after_motions n ns) o) one ∙ two

moved_here : (q : Pointer) (now : List Pointer) (p : Pointer) (b : Bool) → nat_eq q.id p.id ≡ b → (moved now p).id ≡ p.id
    → (unwrap_or (if b then Some q else find (λ (r : Pointer). nat_eq r.id p.id) now) p).id ≡ p.id
moved_here q now p true is h = eqb-true q.id p.id is
moved_here q now p false is h = h

moved_id : (now : List Pointer) (p : Pointer) → (moved now p).id ≡ p.id
moved_id [] p = refl
moved_id (q ∷ now) p = moved_here q now p (nat_eq q.id p.id) refl (moved_id now p)

moved_ids : (now ps : List Pointer) → ids_of (moved_all ps now) ≡ ids_of ps
moved_ids now [] = refl
moved_ids now (p ∷ ps) = rw (moved_id now p, moved_ids now ps) refl

filter_same : (f g : ℕ → Bool) (is : List ℕ) → ((i : ℕ) → f i ≡ g i) → filter f is ≡ filter g is
filter_same f g is h = ap (λ t. filter t is) (fun_ext h)

-- the pointers that stay are those that were down before
staying_kept : (last now : List Pointer) → Rises last → Rises now → ids_of (staying now (moved_all last now)) ≡ ids_of (kept last now)
staying_kept last now rl rn =
    filter_ids (λ i. is_down i now) (moved_all last now)
    ∙ ap (λ is. filter (λ i. is_down i now) is) (moved_ids now last)
    ∙ filter_same (λ i. is_down i now) (λ i. has (ids_of now) i) (ids_of last) (λ i. has_ids now i)
    ∙ both (ids_of last) (ids_of now) (rising_ids last rl) (rising_ids now rn)
    ∙ filter_same (λ i. has (ids_of last) i) (λ i. is_down i last) (ids_of now) (λ i. sym (has_ids last i))
    ∙ sym (filter_ids (λ i. is_down i last) now)

changed_fits : (d : ℕ) (c : ℕ → Bool) (last now : List Pointer) → Rises last → Rises now
    → after_motions (ids_of last) (ups d c now [] (moved_all last now) ++ moves d last now ++ downs d last [] now) ≡ Some (ids_of now)
changed_fits d c last now rl rn =
    both_fit (ids_of last) (ids_of (kept last now)) (ids_of now) (ups d c now [] (moved_all last now) ++ moves d last now) (downs d last [] now)
    (both_fit (ids_of last) (ids_of (kept last now)) (ids_of (kept last now)) (ups d c now [] (moved_all last now)) (moves d last now)
    (ap (λ is. after_motions is (ups d c now [] (moved_all last now))) (sym (moved_ids now last))
    ∙ ups_fit d c now (moved_all last now) []
    ∙ ap (λ is. Some is) (staying_kept last now rl rn))
    (moves_fit_at d (kept last now) (is_changed last now)))
    (downs_fit d last now [])

same_fits_at : (d : ℕ) (last now : List Pointer) (b : Bool) → nat_eq (length now) 0 ≡ b → ids_of last ≡ ids_of now
    → after_motions (ids_of last) (if b then [] else motion d Move 0 0 now ∷ []) ≡ Some (ids_of now)
same_fits_at d last now true e same = ap (λ is. Some is) same
same_fits_at d last now false e same =
    ap (λ is. after_motions is (motion d Move 0 0 now ∷ [])) same
    ∙ first_fits (ids_of now) (ids_of now) (ids_of now) (motion d Move 0 0 now) [] (move_fits d now) refl

same_head : (i j : ℕ) (is js : List ℕ) (b : Bool) → nat_eq i j ≡ b → (b && same_ids is js) ≡ true → (same_ids is js ≡ true → is ≡ js) → i ∷ is ≡ j ∷ js
same_head i j is js true e h later = ap (λ n. n ∷ is) (eqb-true i j e) ∙ ap (λ xs. j ∷ xs) (later h)
same_head i j is js false e h later = absurd (cc)

same_true : (is js : List ℕ) → same_ids is js ≡ true → is ≡ js
same_true [] [] e = refl
same_true [] (j ∷ js) e = absurd (cc)
same_true (i ∷ is) [] e = absurd (cc)
same_true (i ∷ is) (j ∷ js) e = same_head i j is js (nat_eq i j) refl e (λ f. same_true is js f)

fits_at : (d : ℕ) (c : ℕ → Bool) (last now : List Pointer) (b : Bool) → same_ids (ids_of last) (ids_of now) ≡ b → Rises last → Rises now
    → after_motions (ids_of last) (if b then (if nat_eq (length now) 0 then [] else motion d Move 0 0 now ∷ []) else ups d c now [] (moved_all last now) ++ moves d last now ++ downs d last [] now) ≡ Some (ids_of now)
fits_at d c last now true e rl rn = same_fits_at d last now (nat_eq (length now) 0) refl (same_true (ids_of last) (ids_of now) e)
fits_at d c last now false e rl rn = changed_fits d c last now rl rn

-- the motions between two packets may come one after the other, and leave down what the second packet has
pub gesture_fits : (d : ℕ) (c : ℕ → Bool) (last now : List Pointer) → Rises last → Rises now → after_motions (ids_of last) (gesture d c last now) ≡ Some (ids_of now)
gesture_fits d c last now rl rn = fits_at d c last now (same_ids (ids_of last) (ids_of now)) refl rl rn
