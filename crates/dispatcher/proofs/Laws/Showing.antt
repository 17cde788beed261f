-- Origins, window by window.
use Rattle.std.proofs.Common.{◌≡◌, ◌≢◌, ◌≤◌, ◌<◌, ◌-◌, ◌==◌, ℕ, zero, suc, Bool, true, false, List, [], ◌∷◌, length, get_or, set, replicate, refl, sym, ap, ◌∙◌, inl, inr, arith}
use Rattle.std.proofs.lemmas.List.{get_or-set_same, get_or-set_other}
use Rattle.std.proofs.lemmas.Bool.{cases_eq, eq-eqb, ne_eqb}
use Rattle.input_types.specs.declared.axis.Pixel.{Pixel}
use Rattle.window_snapshot.specs.declared.window.Window.{Window}
use Rattle.window_snapshot.specs.Named.{origin}
use Rattle.window_snapshot.specs.Origins.{corner}
use Rattle.dispatcher.specs.Shown.{origin_at}
use Rattle.dispatcher.specs.Showing.{origins_from}

-- a list of equal elements has them at each place, where its default is equal to them, too
pub same_default : {X : Type 0} (n i : ℕ) (x : X) → get_or (replicate n x) i x ≡ x
same_default zero i x = refl
same_default (suc n) zero x = refl
same_default (suc n) (suc i) x = same_default n i x

-- one window more in front
pub origins_more : (v : Window) (vs : List Window) (w : ℕ) (p : Pixel) → origins_from (v ∷ vs) w p ≡ origins_from (v ∷ []) w (origins_from vs w p)
origins_more v vs w p = by_test (v.channel == w) refl
  where
    by_test : (b : Bool) → v.channel == w ≡ b → origins_from (v ∷ vs) w p ≡ origins_from (v ∷ []) w (origins_from vs w p)
    by_test true e = rw e refl
    by_test false e = rw e refl

-- a window of another channel moves no origin
pub origins_other : (v : Window) (w : ℕ) (p : Pixel) → v.channel ≢ w → origins_from (v ∷ []) w p ≡ p
origins_other v w p other = rw (ne_eqb v.channel w other) refl

-- the origin of its channel is where it is
pub origins_moved : (v : Window) (os : List Pixel) (w : ℕ) → length os ≡ 64 → 1 ≤ v.channel → v.channel ≤ 64 → 1 ≤ w → w ≤ 64
    → origin_at (set os (v.channel - 1) (origin v)) w ≡ origins_from (v ∷ []) w (origin_at os w)
origins_moved v os w size low high from to =
    elim (cases_eq v.channel w) [
      | inl same ↦
          get_or-at (v.channel - 1) (w - 1) (omega (arith, same)) (omega (arith, size, low, high)) ∙ sym (rw (eq-eqb v.channel w same) refl)
      | inr other ↦
          get_or-set_other os (v.channel - 1) (w - 1) (origin v) corner (λ e. other (omega (arith, e, low, from))) ∙ sym (origins_other v w (origin_at os w) other)
    ]
  where
    get_or-at : (i j : ℕ) → i ≡ j → i < length os → get_or (set os i (origin v)) j corner ≡ origin v
    get_or-at i j e h = ap (λ k. get_or (set os i (origin v)) k corner) (sym e) ∙ get_or-set_same os i (origin v) corner h
