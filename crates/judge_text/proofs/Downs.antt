-- What a verifier reports as down is what is down after the messages that it accepted.
use Rattle.std.proofs.Common.{◌≡◌, ℕ, ◌+◌, ◌<◌, ◌≤◌, Bool, true, false, if◌then◌else◌, suc, List, [], ◌∷◌, ◌++◌, length, map, Some, None, is_some, refl, sym, ap, ◌∙◌, arith, add-one, append-nil}
use Rattle.std.proofs.lemmas.List.{map-append}
use Rattle.bits32.specs.Set.{members}
use Rattle.input_types.specs.declared.message.Message.{Message as Told}
use Rattle.gesture_verifier.specs.declared.held.HeldKey.{HeldKey}
use Rattle.gesture_verifier.specs.Held.{are_rising, is_held}
use Rattle.gesture_verifier.specs.Told.{VerifierStandsFor, Told as Tables, state_of}
use Rattle.judge_text.specs.declared.down.HeldIds.{HeldIds}
use Rattle.judge_text.specs.Down.{Down, down_after, ids_in, is_nothing, keys_after, on_device, pointers_up_to}
use Rattle.judge_text.proofs.HeldKeys.{due_exactly, keys_rise, one_list}

pub same_down : (past : List Told) (t : Tables) (pointers : List (ℕ × List ℕ)) (keys : List HeldKey) → VerifierStandsFor past t → pointers ≡ pointers_up_to 8 (state_of t).ids
    → are_rising keys ≡ true → ((d s : ℕ) → is_held d s keys ≡ is_some ((state_of t).repeats d s))
    → record { pointers = pointers; keys = keys } ≡ down_after past
same_down past t pointers keys stands is rising exact =
    let all : keys ≡ keys_after past =
    one_list keys (keys_after past) rising (keys_rise past) (λ d s. exact d s ∙ sym (due_exactly past (state_of t) d s stands.state)) in
    let held : pointers ≡ pointers_up_to 8 (ids_in (Some (state_of t))) = is in
    rw (stands.state, held, all) refl

-- what is down is reported if it is something
pub nothing_sent : (down known : Down) (v : Bool) → down ≡ known → v ≡ is_nothing down → v ≡ true → None ≡ (if is_nothing known then None else Some known)
nothing_sent down known v same is h = let none : is_nothing known ≡ true = ap is_nothing (sym same) ∙ sym is ∙ h in rw none refl

pub something_sent : (down known : Down) (v : Bool) → down ≡ known → v ≡ is_nothing down → v ≡ false → Some down ≡ (if is_nothing known then None else Some known)
something_sent down known v same is h = let some : is_nothing known ≡ false = ap is_nothing (sym same) ∙ sym is ∙ h in rw some (ap (λ d. Some d) same)

-- ---- one device more

device_more : (device : ℕ) (ids : List ℕ) → 0 < length ids → (device, ids) ∷ [] ≡ on_device device ids
device_more device [] h = absurd (omega (arith, h))
device_more device (id ∷ ids) h = refl

device_none : (device : ℕ) (ids : List ℕ) → length ids ≤ 0 → [] ≡ on_device device ids
device_none device [] h = refl
device_none device (id ∷ ids) h = absurd (omega (arith, h))

abbrev pub seen : List HeldIds → List (ℕ × List ℕ)
seen held = map (λ h. (h.device, members h.ids)) held

on_next : (ids : ℕ → List ℕ) (n device bits : ℕ) → device ≡ n + 1 → members bits ≡ ids device → on_device device (members bits) ≡ on_device (suc n) (ids (suc n))
on_next ids n device bits is same =
    let next : device ≡ suc n = omega (arith, is) in ap (on_device device) same ∙ ap (λ d. on_device d (ids d)) next

pub one_more : (ids : ℕ → List ℕ) (n device bits : ℕ) (old new : List HeldIds) → device ≡ n + 1 → members bits ≡ ids device → 0 < length (members bits)
    → seen old ≡ pointers_up_to n ids → new ≡ old ++ record { device = device; ids = bits } ∷ [] → seen new ≡ pointers_up_to (n + 1) ids
one_more ids n device bits old new is same some before more =
    let last = device_more device (members bits) some ∙ on_next ids n device bits is same in
    let added : HeldIds = record { device = device; ids = bits } in
    ap seen more
    ∙ map-append (λ (h : HeldIds). (h.device, members h.ids)) old (added ∷ [])
    ∙ ap (λ s. s ++ (device, members bits) ∷ []) before
    ∙ ap (λ l. pointers_up_to n ids ++ l) last
    ∙ sym (ap (λ k. pointers_up_to k ids) (add-one n))

pub none_more : (ids : ℕ → List ℕ) (n device bits : ℕ) (old new : List HeldIds) → device ≡ n + 1 → members bits ≡ ids device → length (members bits) ≤ 0
    → seen old ≡ pointers_up_to n ids → new ≡ old → seen new ≡ pointers_up_to (n + 1) ids
none_more ids n device bits old new is same none before more =
    let last = device_none device (members bits) none ∙ on_next ids n device bits is same in
    ap seen more
    ∙ before
    ∙ sym (append-nil (pointers_up_to n ids))
    ∙ ap (λ l. pointers_up_to n ids ++ l) last
    ∙ sym (ap (λ k. pointers_up_to k ids) (add-one n))
