-- One more device on its display.
use Rattle.std.proofs.Common.{◌≡◌, ℕ, suc, ◌-◌, ◌+◌, ◌<◌, ◌≤◌, List, [], ◌∷◌, ◌++◌, map, take, take-suc, length, get_or, replicate, refl, sym, ◌∙◌, ap, add-one, arith, length-take-le}
use Rattle.std.specs.Prelude.{slice_set}
use Rattle.std.proofs.lemmas.List.{append_assoc, length-map, map-append}
use Rattle.session_plan.specs.declared.plan.DevicePlan.{DevicePlan}
use Rattle.session_plan.specs.DeviceDisplays.{kind_display}
use Rattle.session_plan.specs.View.{device_view}

-- the displays of the first i devices, and display 0 for the others of the eight
abbrev pub so_far : List DevicePlan → ℕ → List ℕ
so_far ds i = map (λ d. kind_display d.kind) (map device_view (take i ds)) ++ replicate (8 - i) 0

-- the place behind a list takes a value
set_behind : {X : Type 0} (n : ℕ) (z x : X) (xs : List X) → slice_set (xs ++ replicate (suc n) z) (length xs) x ≡ xs ++ x ∷ replicate n z
set_behind n z x [] = refl
set_behind n z x (y ∷ ys) = ap (λ l. y ∷ l) (set_behind n z x ys)

displays_with : (ds : List DevicePlan) (i : ℕ) (d : DevicePlan) → i < length ds → d ≡ get_or ds i d
    → map (λ e. kind_display e.kind) (map device_view (take (i + 1) ds)) ≡ map (λ e. kind_display e.kind) (map device_view (take i ds)) ++ kind_display d.kind ∷ []
displays_with ds i d within is =
    ap (λ n. map (λ e. kind_display e.kind) (map device_view (take n ds))) (add-one i)
    ∙ ap (λ xs. map (λ e. kind_display e.kind) (map device_view xs)) (take-suc ds i d within ∙ ap (λ y. take i ds ++ y ∷ []) (sym is))
    ∙ ap (map (λ e. kind_display e.kind)) (map-append device_view (take i ds) (d ∷ []))
    ∙ map-append (λ e. kind_display e.kind) (map device_view (take i ds)) (device_view d ∷ [])

-- device i, counted from 0, takes its place
pub displays_next : (ds : List DevicePlan) (i : ℕ) (d : DevicePlan) → length ds ≤ 8 → i < length ds → d ≡ get_or ds i d
    → slice_set (so_far ds i) i (kind_display d.kind) ≡ so_far ds (i + 1)
displays_next ds i d few within is =
    let found : List ℕ = map (λ e. kind_display e.kind) (map device_view (take i ds)) in
    let many : length found ≡ i
    = length-map (map device_view (take i ds)) (λ e. kind_display e.kind) ∙ length-map (take i ds) device_view ∙ length-take-le i ds (omega (arith, within)) in
    let left : 8 - i ≡ suc (8 - (i + 1)) = omega (arith, few, within) in
    ap (λ n. slice_set (found ++ replicate n 0) i (kind_display d.kind)) left
    ∙ ap (λ n. slice_set (found ++ replicate (suc (8 - (i + 1))) 0) n (kind_display d.kind)) (sym many)
    ∙ set_behind (8 - (i + 1)) 0 (kind_display d.kind) found
    ∙ sym (append_assoc found (kind_display d.kind ∷ []) (replicate (8 - (i + 1)) 0))
    ∙ ap (λ xs. xs ++ replicate (8 - (i + 1)) 0) (sym (displays_with ds i d within is))
