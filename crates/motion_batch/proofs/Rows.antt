-- The rows of the devices.
use Rattle.std.proofs.Common.{◌≡◌, ℕ, suc, zero, ◌+◌, ◌-◌, ◌<◌, ◌≤◌, ◌==◌, false, if◌then◌else◌, List, [], ◌∷◌, ◌++◌, map, take, drop, length, get_or, refl, sym, ◌∙◌, ap, arith}
use Rattle.std.specs.Prelude.{slice_set}
use Rattle.std.proofs.lemmas.Bool.Decides.{nat_tests}
use Rattle.input_types.specs.declared.message.Body.{Body}
use Rattle.input_types.specs.declared.message.Body.TheVariants.{Motion as MotionBody, Key, Focus}
use Rattle.input_types.specs.declared.message.Message.{Message}
use Rattle.input_types.specs.declared.motion.Motion.{Motion}
use Rattle.motion_batch.specs.declared.sample.Sample.{Sample}
use Rattle.motion_batch.specs.Calls.{AreOfDevices, Call, IsOfDevice, RowsStandFor, devices, flushed, framed, pending, rows_of, taken}
use Rattle.motion_batch.specs.Rule.{class_of, kept_after}

-- the place of a device among eight takes a value, and the others stay
set_row : {X : Type 0} (d : ℕ) (f h : ℕ → X) → 1 ≤ d → d ≤ 8 → slice_set (map f devices) (d - 1) (h d) ≡ map (λ e. if d == e then h e else f e) devices
set_row zero f h low high = absurd (omega (arith, low))
set_row (suc zero) f h low high = refl
set_row (suc (suc zero)) f h low high = refl
set_row (suc (suc (suc zero))) f h low high = refl
set_row (suc (suc (suc (suc zero)))) f h low high = refl
set_row (suc (suc (suc (suc (suc zero))))) f h low high = refl
set_row (suc (suc (suc (suc (suc (suc zero)))))) f h low high = refl
set_row (suc (suc (suc (suc (suc (suc (suc zero))))))) f h low high = refl
set_row (suc (suc (suc (suc (suc (suc (suc (suc zero)))))))) f h low high = refl
set_row (suc (suc (suc (suc (suc (suc (suc (suc (suc n))))))))) f h low high = absurd (omega (arith, high))

-- what stands in the place of a device
row_at : {X : Type 0} (d : ℕ) (f : ℕ → X) (x : X) → 1 ≤ d → d ≤ 8 → get_or (map f devices) (d - 1) x ≡ f d
row_at zero f x low high = absurd (omega (arith, low))
row_at (suc zero) f x low high = refl
row_at (suc (suc zero)) f x low high = refl
row_at (suc (suc (suc zero))) f x low high = refl
row_at (suc (suc (suc (suc zero)))) f x low high = refl
row_at (suc (suc (suc (suc (suc zero))))) f x low high = refl
row_at (suc (suc (suc (suc (suc (suc zero)))))) f x low high = refl
row_at (suc (suc (suc (suc (suc (suc (suc zero))))))) f x low high = refl
row_at (suc (suc (suc (suc (suc (suc (suc (suc zero)))))))) f x low high = refl
row_at (suc (suc (suc (suc (suc (suc (suc (suc (suc n))))))))) f x low high = absurd (omega (arith, high))

-- what waits of a device stands in its row
pub row_is : (calls : List Call) (rows : List (List Sample)) (d : ℕ) (row : List Sample) → 1 ≤ d → d ≤ 8 → RowsStandFor calls rows → row ≡ get_or rows (d - 1) row → row ≡ pending d calls
row_is calls rows d row low high stands is =
    is ∙ ap (λ (xs : List (List Sample)). get_or xs (d - 1) row) stands.rows_are ∙ row_at d (λ e. pending e calls) row low high

-- the rows after a motion of a device
pub row_taken : (calls : List Call) (rows : List (List Sample)) (m : Message) (mo : Motion) (d : ℕ) (row new : List Sample) → m.body ≡ MotionBody mo → d ≡ mo.device → 1 ≤ d → d ≤ 8
    → RowsStandFor calls rows → row ≡ get_or rows (d - 1) row → new ≡ kept_after row m → RowsStandFor (taken m ∷ calls) (slice_set rows (d - 1) new)
row_taken calls rows m mo d row new body device low high stands at is =
    let class : class_of m.body ≡ d = ap class_of body ∙ sym device in
    record {
      rows_are =
          ap (λ (xs : List (List Sample)). slice_set xs (d - 1) new) stands.rows_are
          ∙ ap (slice_set (rows_of calls) (d - 1)) (is ∙ ap (λ ss. kept_after ss m) (row_is calls rows d row low high stands at))
          ∙ set_row d (λ e. pending e calls) (λ e. kept_after (pending e calls) m) low high
          ∙ ap (λ n. map (λ e. if n == e then kept_after (pending e calls) m else pending e calls) devices) (sym class);
      devices_are = (rw (body, ← device) (low, high), stands.devices_are);
    }

waits_not : (ss : List Sample) (m : Message) (b : Body) → m.body ≡ b → IsOfDevice b → ss ≡ [] → (if class_of m.body == 0 then kept_after ss m else ss) ≡ []
waits_not ss m (MotionBody mo) body of none =
    let d : ℕ = mo.device in
    let low : 1 ≤ d = of.0 in
    let other : (d == 0) ≡ false = grind (arith, nat_tests) in
    rw (body, other) none
waits_not ss m (Key key) body of none = rw (body, none) refl
waits_not ss m (Focus had) body of none = rw (body, none) refl

-- no message but a motion ever waits
pub no_others : (calls : List Call) → AreOfDevices calls → pending 0 calls ≡ []
no_others [] of = refl
no_others (taken m ∷ calls) of = waits_not (pending 0 calls) m m.body refl of.0 (no_others calls of.1)
no_others (framed at ∷ calls) of = rw (no_others calls of) refl
no_others (flushed ∷ calls) of = rw (no_others calls of) refl

-- the first i rows have been changed, and the next one is
pub change_next : {X : Type 0} (f : X → X) (xs : List X) (i : ℕ) (x : X) → i < length xs → x ≡ get_or xs i x
    → slice_set (map f (take i xs) ++ drop i xs) i (f x) ≡ map f (take (i + 1) xs) ++ drop (i + 1) xs
change_next f [] i x within is = absurd (omega (arith, within))
change_next f (y ∷ ys) zero x within is = ap (λ z. f z ∷ ys) is
change_next f (y ∷ ys) (suc i) x within is =
    let one : suc i + 1 ≡ suc (i + 1) = omega arith in
    rw one (ap (λ zs. f y ∷ zs) (change_next f ys i x (omega (arith, within)) is))

-- the front of a list stays where more is put behind it
pub front_stays : {X : Type 0} (n : ℕ) (xs ys : List X) → n ≤ length xs → take n (xs ++ ys) ≡ take n xs
front_stays zero xs ys h = refl
front_stays (suc n) [] ys h = absurd (omega (arith, h))
front_stays (suc n) (x ∷ xs) ys h = ap (λ zs. x ∷ zs) (front_stays n xs ys (omega (arith, h)))
