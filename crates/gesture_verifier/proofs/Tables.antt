-- How a write into a table changes what the table stands for.
use Rattle.std.proofs.Common.{◌≡◌, ◌≢◌, ℕ, Bool, zero, suc, ◌-◌, ◌<◌, ◌≤◌, ◌&&◌, true, false, if◌then◌else◌, cond, List, [], length, get_or, set, replicate, Option, Some, None, ⊎_elim, refl, sym, ap, ◌∙◌, arith, nat_eq, eq-eqb}
use Rattle.std.proofs.lemmas.List.{get_or-set_same, get_or-set_other}
use Rattle.std.proofs.lemmas.Bool.{cases_eq, ne_eqb, false≢true}
use Rattle.std.specs.Option.{option_map}
use Rattle.std.specs.Ordering.{nat_cmp, is_eq}
use Rattle.std.specs.Cmp.{unsigned_tied}
use Rattle.std.proofs.lemmas.Option.{slice_get_read, get_or_from_slice_get}
use Rattle.bits32.specs.Set.{members}
use Rattle.input_types.specs.declared.key.KeyMsg.{KeyMsg}
use Rattle.input_types.specs.declared.motion.Motion.{Motion}
use Rattle.input_types.specs.declared.message.Body.TheVariants.{Motion as MotionBody, Key}
use Rattle.input_types.specs.Gestures.{after_sent}
use Rattle.input_types.specs.StreamRule.{StreamState, unsent, with_ids, with_repeat, after_key, after_body}
use Rattle.pointers_down.proofs.Sets.{none_listed}
use Rattle.gesture_verifier.specs.Told.{Told, state_of, is_device, is_of_device, ids_kept, due_at, due_kept, key_place}

within : (d : ℕ) → is_device d ≡ true → (1 ≤ d) × (d ≤ 8)
within d h = grind arith

ids_kept_at : (sets : List ℕ) (d n e : ℕ) → is_device d ≡ true → length sets ≡ 8 → (v : Bool) → is_device e ≡ v
    → (if v then members (get_or (set sets (d - 1) n) (e - 1) 0) else []) ≡ (if nat_eq e d then members n else (if v then members (get_or sets (e - 1) 0) else []))
ids_kept_at sets d n e h len true w =
    let a : (1 ≤ d) × (d ≤ 8) = within d h in
    let b : (1 ≤ e) × (e ≤ 8) = within e w in
    ⊎_elim
    (λ (same : e ≡ d). rw (same, eq-eqb d d refl, get_or-set_same sets (d - 1) n 0 (omega (arith, a.1, len))) refl)
    (λ (other : e ≢ d). rw (ne_eqb e d other, get_or-set_other sets (d - 1) (e - 1) n 0 (λ x. other (omega (arith, a.0, b.0, x)))) refl)
    (cases_eq e d)
ids_kept_at sets d n e h len false w =
    rw (ne_eqb e d (λ same. false≢true (sym w ∙ ap is_device same ∙ h))) refl

-- a new set for one device
pub ids_kept_after : (sets : List ℕ) (d n : ℕ) → is_device d ≡ true → length sets ≡ 8 → ids_kept (set sets (d - 1) n) ≡ with_ids (ids_kept sets) d (members n)
ids_kept_after sets d n h len i e = ids_kept_at sets d n e h len (is_device e) refl i

unwritten : (x : ℕ) (n i : ℕ) → get_or (replicate n x) i x ≡ x
unwritten x zero i = refl
unwritten x (suc n) zero = refl
unwritten x (suc n) (suc i) = unwritten x n i

first_at : (x : ℕ) (v : Bool) → x ≡ 0 → (if v then members x else []) ≡ []
first_at x true e = rw e none_listed
first_at x false e = refl

no_due : (x : Option ℕ) (v : Bool) → x ≡ None → (if v then x else None) ≡ None
no_due x true e = e
no_due x false e = refl

-- at first nothing is down
pub nothing_sent : (x : ℕ) (table : List (ℕ × ℕ)) → x ≡ 0 → table ≡ []
    → state_of (record { sets = replicate 8 x; repeats = table; focus = false; accepted = 0 }) ≡ unsent
nothing_sent x table e t = rw (e, t) (λ i. record {
  ids = λ d. first_at (get_or (replicate 8 0) (d - 1) 0) (is_device d) (unwritten 0 8 (d - 1)) i;
  repeats = λ d s. no_due None (is_of_device d s) refl i;
  focus = false;
})

pub not_both : (e d t s : ℕ) → (e ≡ d → t ≡ s → ⊥) → (nat_eq e d && nat_eq t s) ≡ false
not_both e d t s h =
    ⊎_elim
    (λ (same : e ≡ d). rw (same, eq-eqb d d refl) (ne_eqb t s (λ x. h same x)))
    (λ (other : e ≢ d). rw (ne_eqb e d other) refl)
    (cases_eq e d)

pub within_key : (d t : ℕ) → is_of_device d t ≡ true → (1 ≤ d) × (d ≤ 8) × (t < 65536)
within_key d t h = grind arith

due_kept_at : (table old : List (ℕ × ℕ)) (d s : ℕ) (due : Option ℕ) (e t : ℕ) → is_of_device d s ≡ true
    → ((q : ℕ) → due_at table q ≡ cond (is_eq (nat_cmp (key_place d s) q)) due (due_at old q)) → (v : Bool) → is_of_device e t ≡ v
    → (if v then due_at table (key_place e t) else None) ≡ (if nat_eq e d && nat_eq t s then due else (if v then due_at old (key_place e t) else None))
due_kept_at table old d s due e t h kept true w =
    let a : (1 ≤ d) × (d ≤ 8) × (s < 65536) = within_key d s h in
    let b : (1 ≤ e) × (e ≤ 8) × (t < 65536) = within_key e t w in
    ⊎_elim
    (λ (same : key_place d s ≡ key_place e t).
    let keys : t ≡ s = omega (arith, a, b, same) in
    let devices : e ≡ d = omega (arith, a, b, same) in
    rw (kept (key_place e t), unsigned_tied (key_place d s) (key_place e t), devices, keys, eq-eqb d d refl, eq-eqb s s refl, eq-eqb (key_place d s) (key_place d s) refl) refl)
    (λ (other : key_place d s ≢ key_place e t).
    let apart : (nat_eq e d && nat_eq t s) ≡ false = not_both e d t s (λ x y. other (rw (x, y) refl)) in
    rw (kept (key_place e t), unsigned_tied (key_place d s) (key_place e t), ne_eqb (key_place d s) (key_place e t) other, apart) refl)
    (cases_eq (key_place d s) (key_place e t))
due_kept_at table old d s due e t h kept false w =
    let apart : (nat_eq e d && nat_eq t s) ≡ false =
    not_both e d t s (λ x y. let own : is_of_device e t ≡ true = rw (x, y) h in false≢true (sym w ∙ own)) in
    rw apart refl

-- a new due number for one key
pub due_kept_after : (table old : List (ℕ × ℕ)) (d s : ℕ) (due : Option ℕ) → is_of_device d s ≡ true
    → ((q : ℕ) → due_at table q ≡ cond (is_eq (nat_cmp (key_place d s) q)) due (due_at old q))
    → due_kept table ≡ with_repeat (due_kept old) d s due
due_kept_after table old d s due h kept i e t = due_kept_at table old d s due e t h kept (is_of_device e t) refl i

-- the ids that are down on a device are those of its set
pub kept_at : (sets : List ℕ) (d held : ℕ) → is_device d ≡ true → length sets ≡ 8 → held ≡ get_or sets (d - 1) held
    → ids_kept sets d ≡ members held
kept_at sets d held h len is =
    let device : (1 ≤ d) × (d ≤ 8) = within d h in
    let read : get_or sets (d - 1) 0 ≡ held =
    get_or_from_slice_get sets (d - 1) held 0 (slice_get_read sets 8 (d - 1) held (sym len) (omega (arith, device)) is) in
    rw h (ap members read)

-- a motion that may come
pub motion_taken : (old : Told) (m : Motion) (held after : ℕ) → is_device m.device ≡ true → length old.sets ≡ 8
    → held ≡ get_or old.sets (m.device - 1) held → Some (members after) ≡ after_sent (members held) m
    → after_body (state_of old) (MotionBody m) ≡ Some (state_of (record old { sets = set old.sets (m.device - 1) after }))
motion_taken old m held after h len is e =
    let Next : List ℕ → StreamState = λ ids. record { ids = with_ids (ids_kept old.sets) m.device ids; repeats = due_kept old.repeats; focus = old.focus } in
    let kept : ids_kept old.sets m.device ≡ members held = kept_at old.sets m.device held h len is in
    ap (λ ids. option_map Next (after_sent ids m)) kept
    ∙ ap (option_map Next) (sym e)
    ∙ ap (λ t. Some (record { ids = t; repeats = due_kept old.repeats; focus = old.focus })) (sym (ids_kept_after old.sets m.device after h len))

-- a key message that may come
pub key_taken : (old : Told) (table : List (ℕ × ℕ)) (m : KeyMsg) (due next : Option ℕ) → is_of_device m.key.device m.key.scan ≡ true
    → due ≡ due_at old.repeats (key_place m.key.device m.key.scan) → Some next ≡ after_key due m
    → ((q : ℕ) → due_at table q ≡ cond (is_eq (nat_cmp (key_place m.key.device m.key.scan) q)) next (due_at old.repeats q))
    → after_body (state_of old) (Key m) ≡ Some (state_of (record old { repeats = table }))
key_taken old table m due next h is e kept =
    let Next : Option ℕ → StreamState =
    λ due. record { ids = ids_kept old.sets; repeats = with_repeat (due_kept old.repeats) m.key.device m.key.scan due; focus = old.focus } in
    let known : due_kept old.repeats m.key.device m.key.scan ≡ due = rw h (sym is) in
    ap (λ due. option_map Next (after_key due m)) known
    ∙ ap (option_map Next) (sym e)
    ∙ ap (λ t. Some (record { ids = ids_kept old.sets; repeats = t; focus = old.focus })) (sym (due_kept_after table old.repeats m.key.device m.key.scan next h kept))
