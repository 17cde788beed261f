-- What cancels are, how many, and that they are of their device alone.
use Rattle.std.proofs.Common.{◌≡◌, ℕ, zero, suc, ◌+◌, ◌-◌, ◌<◌, ◌≤◌, ◌==◌, ◌||◌, nat_le, Bool, true, false, not, cond, max, List, [], ◌∷◌, get_or, length, map, drop, flat_map, filter, refl, sym, ap, ◌∙◌, arith, length-append}
use Rattle.std.specs.List.{list_any}
use Rattle.std.proofs.lemmas.Bool.{true≢false, eqb-true, leb-true, and_parts}
use Rattle.input_types.specs.declared.message.Body.TheVariants.{Motion as MotionBody}
use Rattle.input_types.specs.declared.motion.Motion.{Motion}
use Rattle.input_types.specs.declared.motion.MotionAction.TheVariants.{Cancel, PointerUp}
use Rattle.input_types.specs.declared.pointer.Pointer.{Pointer}
use Rattle.input_types.specs.Gestures.{flag_canceled}
use Rattle.routing_rules.specs.Outgoing.{listing, index_in, plain, cancels_of, cancelled_ups, devices}
use Rattle.dispatcher.specs.CancelSynthesis.Ends.{pointers_cancelled}
use Rattle.dispatcher.specs.CancelSynthesis.Tracked.{Tracked, is_device, pointers_of, pointers_after}
use Rattle.dispatcher.proofs.CancelSynthesis.PointerEnds.{as_cases}
use Rattle.pilfer_monitor.specs.Pilfer.{set_of}
use Rattle.touch_state.specs.Touches.{Touches}
use Rattle.route_split.specs.declared.mark.Mark.{Mark}
use Rattle.route_split.specs.declared.mark.Mark.TheVariants.{NoOp, Give, Lift, Slip, Empty, Pilfer, Unnamed, Mute, Forget}
use Rattle.route_split.specs.declared.sends.Sends.{Sends}
use Rattle.route_split.specs.declared.sends.Sends.TheVariants.{Nothing, One, Cancels}
use Rattle.route_split.specs.Tables.{holds_at}
use Rattle.bits32.specs.Set.{is_in}
use Rattle.dispatcher.specs.DispatchRound.Bodies.{pointers_tracked}
use Rattle.dispatcher.specs.DispatchRound.Rounds.{count_of}
use Rattle.dispatcher.specs.DispatchRound.Saying.{motions_by, losses, pilfered_from}

-- a part of some pointers is not longer
listing_few : (f : ℕ → Bool) (ps : List Pointer) → length (listing f ps) ≤ length ps
listing_few f [] = omega arith
listing_few f (p ∷ ps) = at (f p.id) (listing_few f ps)
  where
    at : (b : Bool) → length (listing f ps) ≤ length ps → length (cond b (p ∷ listing f ps) (listing f ps)) ≤ length (p ∷ ps)
    at true le = omega (arith, le)
    at false le = omega (arith, le)

-- there are at most as many cancels as pointers are gone
ups_few : (d : ℕ) (had gone : List Pointer) → length (cancelled_ups d had gone) ≤ length gone
ups_few d had [] = omega arith
ups_few d had (p ∷ gone) =
    let le : length (cancelled_ups d (filter (λ q. not (q.id == p.id)) had) gone) ≤ length gone =
    ups_few d (filter (λ q. not (q.id == p.id)) had) gone in
    omega (arith, le)

cancels_few : (d : ℕ) (had kept gone : List Pointer) → length (cancels_of d had kept gone) ≤ length gone
cancels_few d had kept [] = omega arith
cancels_few d had [] (p ∷ gone) = omega arith
cancels_few d had (q ∷ kept) (p ∷ gone) = ups_few d had (p ∷ gone)

pub cancelled_few : (d : ℕ) (lost : ℕ → Bool) (had : List Pointer) → length (pointers_cancelled d lost had) ≤ length had
cancelled_few d lost had =
    let size : length (pointers_cancelled d lost had) ≡ length (cancels_of d had (listing (λ i. not (lost i)) had) (listing lost had)) = ap length (as_cases d lost had) in
    let few : length (cancels_of d had (listing (λ i. not (lost i)) had) (listing lost had)) ≤ length (listing lost had) =
    cancels_few d had (listing (λ i. not (lost i)) had) (listing lost had) in
    let less : length (listing lost had) ≤ length had = listing_few lost had in
    omega (arith, size, few, less)

pub all_losses_few : (ts : List Touches) (w : ℕ) (input : Tracked) (ds : List ℕ) → length (flat_map (losses ts w input) ds) ≤ count_of input ds
all_losses_few ts w input [] = omega arith
all_losses_few ts w input (d ∷ ds) =
    let here : length (losses ts w input d) ≤ length (pointers_of input d) = cancelled_few d (λ i. not (holds_at ts w d i)) (pointers_of input d) in
    let rest : length (flat_map (losses ts w input) ds) ≤ count_of input ds = all_losses_few ts w input ds in
    let size = length-append (losses ts w input d) (flat_map (losses ts w input) ds) in
    omega (arith, here, rest, size)

pub found_few : (x : Sends) (d : ℕ) (had : List Pointer) → length (motions_by x d had) ≤ max 1 (length had)
found_few Nothing d had = omega arith
found_few (One m) d had = omega arith
found_few (Cancels lost) d had =
    let few : length (pointers_cancelled d (λ i. is_in i lost) had) ≤ length had = cancelled_few d (λ i. is_in i lost) had in
    omega (arith, few)

-- the pointers of one device are some of all
counted : (input : Tracked) (ds : List ℕ) (d : ℕ) → list_any (λ e. e == d) ds ≡ true → length (pointers_of input d) ≤ count_of input ds
counted input [] d e = absurd (true≢false (sym e))
counted input (k ∷ ds) d e = at (k == d) refl e (counted input ds d)
  where
    at : (b : Bool) → (k == d) ≡ b → (b || list_any (λ e. e == d) ds) ≡ true
        → (list_any (λ e. e == d) ds ≡ true → length (pointers_of input d) ≤ count_of input ds)
        → length (pointers_of input d) ≤ length (pointers_of input k) + count_of input ds
    at true same e r =
        let size : length (pointers_of input k) ≡ length (pointers_of input d) = ap (λ n. length (pointers_of input n)) (eqb-true k d same) in
        omega (arith, size)
    at false other e r = let le : length (pointers_of input d) ≤ count_of input ds = r e in omega (arith, le)

is_one : (d : ℕ) → 1 ≤ d → d ≤ 8 → list_any (λ e. e == d) devices ≡ true
is_one zero low high = absurd (omega (arith, low))
is_one (suc zero) low high = refl
is_one (suc (suc zero)) low high = refl
is_one (suc (suc (suc zero))) low high = refl
is_one (suc (suc (suc (suc zero)))) low high = refl
is_one (suc (suc (suc (suc (suc zero))))) low high = refl
is_one (suc (suc (suc (suc (suc (suc zero)))))) low high = refl
is_one (suc (suc (suc (suc (suc (suc (suc zero))))))) low high = refl
is_one (suc (suc (suc (suc (suc (suc (suc (suc zero)))))))) low high = refl
is_one (suc (suc (suc (suc (suc (suc (suc (suc (suc d))))))))) low high = absurd (omega (arith, high))

pub one_counted : (input : Tracked) (d : ℕ) → length (pointers_of input d) ≤ count_of input devices
one_counted input d = at (is_device d) refl
  where
    at : (b : Bool) → is_device d ≡ b → length (pointers_of input d) ≤ count_of input devices
    at true e =
        let both = and_parts (nat_le 1 d) (nat_le d 8) e in
        counted input devices d (is_one d (leb-true 1 d both.0) (leb-true d 8 both.1))
    at false e =
        let none : length (pointers_of input d) ≡ 0 = ap (λ b. length (cond b (get_or input.pointers (d - 1) []) [])) e in
        omega (arith, none)

pub pilfered_few : (k : Mark) (lost : List ℕ) (w : ℕ) (input : Tracked) → length (pilfered_from k lost w input) ≤ count_of input devices
pilfered_few (Pilfer device spy) lost w input =
    let few : length (pilfered_from (Pilfer device spy) lost w input) ≤ length (pointers_of input device) =
    cancelled_few device (λ i. is_in i (set_of lost w)) (pointers_of input device) in
    let le : length (pointers_of input device) ≤ count_of input devices = one_counted input device in
    omega (arith, few, le)
pilfered_few NoOp lost w input = omega arith
pilfered_few (Give device id windows) lost w input = omega arith
pilfered_few (Lift device id) lost w input = omega arith
pilfered_few (Slip device id from to) lost w input = omega arith
pilfered_few (Empty device) lost w input = omega arith
pilfered_few (Unnamed windows) lost w input = omega arith
pilfered_few (Mute channels) lost w input = omega arith
pilfered_few (Forget window) lost w input = omega arith

-- the pointers of another device stay
elsewhere : (m : Motion) (ms : List Motion) (e : ℕ) (ps : List Pointer) → (m.device == e) ≡ false
    → pointers_tracked (map MotionBody (m ∷ ms)) e ps ≡ pointers_tracked (map MotionBody ms) e ps
elsewhere m ms e ps ne = ap (λ b. pointers_tracked (map MotionBody ms) e (cond b (pointers_after m m.action ps) ps)) ne

ups_elsewhere : (d : ℕ) (had gone : List Pointer) (e : ℕ) (ps : List Pointer) → (d == e) ≡ false
    → pointers_tracked (map MotionBody (cancelled_ups d had gone)) e ps ≡ ps
ups_elsewhere d had [] e ps ne = refl
ups_elsewhere d had (p ∷ gone) e ps ne =
    elsewhere (record { device = d; action = PointerUp; index = index_in p.id had; flags = flag_canceled; pointers = had }) (cancelled_ups d (filter (λ q. not (q.id == p.id)) had) gone) e ps ne
    ∙ ups_elsewhere d (filter (λ q. not (q.id == p.id)) had) gone e ps ne

cancels_elsewhere : (d : ℕ) (had kept gone : List Pointer) (e : ℕ) (ps : List Pointer) → (d == e) ≡ false
    → pointers_tracked (map MotionBody (cancels_of d had kept gone)) e ps ≡ ps
cancels_elsewhere d had kept [] e ps ne = refl
cancels_elsewhere d had [] (p ∷ gone) e ps ne = elsewhere (plain d Cancel had) [] e ps ne
cancels_elsewhere d had (q ∷ kept) (p ∷ gone) e ps ne = ups_elsewhere d had (p ∷ gone) e ps ne

pub cancelled_elsewhere : (d : ℕ) (lost : ℕ → Bool) (had : List Pointer) (e : ℕ) (ps : List Pointer) → (d == e) ≡ false
    → pointers_tracked (map MotionBody (pointers_cancelled d lost had)) e ps ≡ ps
cancelled_elsewhere d lost had e ps ne =
    ap (λ (ms : List Motion). pointers_tracked (map MotionBody ms) e ps) (as_cases d lost had)
    ∙ cancels_elsewhere d had (listing (λ i. not (lost i)) had) (listing lost had) e ps ne

-- the devices behind a place
pub drop_devices : (k : ℕ) → k < 8 → drop k devices ≡ (k + 1) ∷ drop (k + 1) devices
drop_devices zero lt = refl
drop_devices (suc zero) lt = refl
drop_devices (suc (suc zero)) lt = refl
drop_devices (suc (suc (suc zero))) lt = refl
drop_devices (suc (suc (suc (suc zero)))) lt = refl
drop_devices (suc (suc (suc (suc (suc zero))))) lt = refl
drop_devices (suc (suc (suc (suc (suc (suc zero)))))) lt = refl
drop_devices (suc (suc (suc (suc (suc (suc (suc zero))))))) lt = refl
drop_devices (suc (suc (suc (suc (suc (suc (suc (suc k)))))))) lt = absurd (omega (arith, lt))

-- what is not empty
pub positive : (n : ℕ) → (n == 0) ≡ false → 0 < n
positive zero e = absurd (true≢false e)
positive (suc n) e = omega arith
