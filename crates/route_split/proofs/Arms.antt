-- A change of the tables is that of a mark.
use Rattle.std.proofs.Common.{ℕ, ◌≡◌, ◌&&◌, ◌==◌, not, Bool, true, false, List, refl, sym, ap, ◌∙◌, subst}
use Rattle.window_snapshot.specs.Mask.{is_channel, mask_has}
use Rattle.routing_rules.specs.Taking.{takes, pilfers}
use Rattle.touch_state.specs.Touches.{Touches, none, nobody, of_all, one}
use Rattle.touch_state.proofs.Sets.{and_false, and_true}
use Rattle.pilfer_monitor.specs.Pilfer.{pilfered}
use Rattle.route_split.specs.declared.mark.Mark.{Mark}
use Rattle.route_split.specs.declared.mark.Mark.TheVariants.{Lift, Slip, Empty, Pilfer, Unnamed, Forget}
use Rattle.route_split.specs.Tables.{table_of, ChangesAll}
use Rattle.route_split.specs.Marking.{gives, taking}
use Rattle.route_split.proofs.Changing.{same_changes, emptied_by}

-- how a mark changes the tables
abbrev pub ChangesBy : List Touches → List Touches → Mark → ℕ → Type 0
ChangesBy ts us k place = ChangesAll ts us (gives k) (takes (taking ts k)) place (pilfers (taking ts k))

pub by_equal : (ts us : List Touches) (j k : Mark) (place : ℕ) → j ≡ k → ChangesBy ts us k place → ChangesBy ts us j place
by_equal ts us j k place e c = subst (λ x. ChangesBy ts us x place) (sym e) c

swapped : (a b c : Bool) → (a && (b && c)) ≡ (b && a && c)
swapped true true c = refl
swapped true false c = refl
swapped false true c = refl
swapped false false c = refl

turned : (a b : Bool) → (a && b) ≡ (b && a)
turned true true = refl
turned true false = refl
turned false true = refl
turned false false = refl

pub by_lift : (ts us : List Touches) (device id place : ℕ)
    → ChangesAll ts us (λ w d i. d == device && none w i) (λ w d i. d == device && of_all id w i) place (λ w d. d == device && nobody w)
    → ChangesBy ts us (Lift device id) place
by_lift ts us device id place c =
    same_changes ts us (λ w d i. d == device && none w i) (gives (Lift device id)) (λ w d i. d == device && of_all id w i) (takes (taking ts (Lift device id))) place
    (λ w d. d == device && nobody w) (pilfers (taking ts (Lift device id))) (λ w d i. and_false (d == device)) (λ w d i. refl) (λ w d. and_false (d == device)) c

pub by_slip : (ts us : List Touches) (device id from to place : ℕ)
    → ChangesAll ts us (λ w d i. d == device && one to id w i) (λ w d i. d == device && one from id w i) place (λ w d. d == device && nobody w)
    → ChangesBy ts us (Slip device id from to) place
by_slip ts us device id from to place c =
    same_changes ts us (λ w d i. d == device && one to id w i) (gives (Slip device id from to)) (λ w d i. d == device && one from id w i)
    (takes (taking ts (Slip device id from to))) place (λ w d. d == device && nobody w) (pilfers (taking ts (Slip device id from to)))
    (λ w d i. refl) (λ w d i. swapped (d == device) (w == from) (i == id)) (λ w d. and_false (d == device)) c

pub by_empty : (ts us : List Touches) (device place : ℕ)
    → ChangesAll ts us (λ w d i. d == device && none w i) (λ w d i. d == device && true) place (λ w d. d == device && nobody w)
    → ChangesBy ts us (Empty device) place
by_empty ts us device place c =
    same_changes ts us (λ w d i. d == device && none w i) (gives (Empty device)) (λ w d i. d == device && true) (takes (taking ts (Empty device))) place
    (λ w d. d == device && nobody w) (pilfers (taking ts (Empty device))) (λ w d i. and_false (d == device)) (λ w d i. sym (and_true (d == device)))
    (λ w d. and_false (d == device)) c

pub by_pilfer : (ts us : List Touches) (device window place : ℕ)
    → ChangesAll ts us (λ w d i. d == device && none w i) (λ w d i. d == device && pilfered (table_of ts device) window w i) place (λ w d. d == device && w == window)
    → ChangesBy ts us (Pilfer device window) place
by_pilfer ts us device window place c =
    same_changes ts us (λ w d i. d == device && none w i) (gives (Pilfer device window)) (λ w d i. d == device && pilfered (table_of ts device) window w i)
    (takes (taking ts (Pilfer device window))) place (λ w d. d == device && w == window) (pilfers (taking ts (Pilfer device window)))
    (λ w d i. and_false (d == device)) (λ w d i. swapped (d == device) (not (w == window)) _) (λ w d. turned (d == device) (w == window)) c

pub by_unnamed : (ts us : List Touches) (stays mask place : ℕ) → ((w : ℕ) → mask_has mask w ≡ (is_channel w && not (mask_has stays w)))
    → ChangesAll ts us (λ w d i. none w i) (λ w d i. mask_has mask w) place (λ w d. nobody w)
    → ChangesBy ts us (Unnamed stays) place
by_unnamed ts us stays mask place are c =
    emptied_by ts us mask (λ w. not (mask_has stays w)) place (λ w h. are w ∙ ap (λ b. b && not (mask_has stays w)) h) c

pub by_forget : (ts us : List Touches) (window mask place : ℕ) → ((w : ℕ) → mask_has mask w ≡ (is_channel w && w == window))
    → ChangesAll ts us (λ w d i. none w i) (λ w d i. mask_has mask w) place (λ w d. nobody w)
    → ChangesBy ts us (Forget window) place
by_forget ts us window mask place are c = emptied_by ts us mask (λ w. w == window) place (λ w h. are w ∙ ap (λ b. b && w == window) h) c
