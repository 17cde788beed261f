-- The masks of the spies and the watchers.
use Rattle.std.proofs.Common.{◌≡◌, ℕ, ℤ, Bool, true, false, cond, List, [], ap, sym, ◌∙◌}
use Rattle.std.specs.Prelude.{filter, Some, is_some}
use Rattle.std.specs.List.{find, before_first}
use Rattle.std.proofs.lemmas.Bool.{and_parts}
use Rattle.window_snapshot.specs.declared.window.Window.{Window}
use Rattle.window_snapshot.specs.Hits.{touched, in_front, takes_touch, spies_touch, watches, is_spy_at, is_watcher_at}
use Rattle.window_snapshot.specs.Mask.{is_channel, mask_has}
use Rattle.window_snapshot.specs.MaskOf.{mask_of}
use Rattle.window_snapshot.specs.Named.{is_named}
use Rattle.window_snapshot.proofs.Masks.{mask_has-live, mask_has-zero}
use Rattle.window_snapshot.proofs.Naming.{named_passes, found_passes}
use Rattle.window_snapshot.specs.Window.{has_flag, is_hit, is_spy, watches_outside}

hit_is_live : (live : ℕ → Bool) (x y : ℤ) (w : Window) → is_hit live x y w ≡ true → live w.channel ≡ true
hit_is_live live x y w e = (and_parts _ _ (and_parts _ _ e).0).1

spy_is_live : (live : ℕ → Bool) (x y : ℤ) (w : Window) → spies_touch live x y w ≡ true → live w.channel ≡ true
spy_is_live live x y w e = hit_is_live live x y w (and_parts _ _ e).1

watcher_is_live : (live : ℕ → Bool) (w : Window) → watches live w ≡ true → live w.channel ≡ true
watcher_is_live live w e = (and_parts _ _ e).1

spy_is_channel : (live : ℕ → Bool) (x y : ℤ) (w : Window) → spies_touch live x y w ≡ true → is_channel w.channel ≡ true
spy_is_channel live x y w e = (and_parts (is_channel w.channel) (has_flag w 16) (and_parts (is_spy w) _ e).0).0

watcher_is_channel : (live : ℕ → Bool) (w : Window) → watches live w ≡ true → is_channel w.channel ≡ true
watcher_is_channel live w e = (and_parts (is_channel w.channel) (has_flag w 4) (and_parts (watches_outside w) (live w.channel) e).0).0

-- the touched channel is live
pub touched_is_live :
    (windows : List Window) (live : ℕ → Bool) (x y : ℤ) (c : ℕ) → touched windows live x y ≡ Some c → live c ≡ true
touched_is_live windows live x y c e =
    found_passes (takes_touch live x y) live (λ w h. hit_is_live live x y w (and_parts _ _ h).1) c windows e

-- a channel that spies is live
pub spy_at_is_live :
    (windows : List Window) (live : ℕ → Bool) (x y : ℤ) (c : ℕ) → is_spy_at windows live x y c ≡ true → live c ≡ true
spy_at_is_live windows live x y c e =
    named_passes (spies_touch live x y) live (spy_is_live live x y) c (in_front windows live x y) e

pub mask_has-spies :
    (windows front : List Window) (live : ℕ → Bool) (x y : ℤ) (m : ℕ)
    → before_first (takes_touch live x y) windows ≡ front
    → m ≡ mask_of (filter (spies_touch live x y) front)
    → (c : ℕ)
    → mask_has m c ≡ is_spy_at windows live x y c
mask_has-spies windows front live x y m e f c =
    ap (λ n. mask_has n c) f
    ∙ mask_has-live (spies_touch live x y) (spy_is_channel live x y) front c
    ∙ ap (λ ws. is_named (filter (spies_touch live x y) ws) c) (sym e)

pub mask_has-watchers :
    (windows front : List Window) (live : ℕ → Bool) (x y : ℤ) (m : ℕ)
    → is_some (find (takes_touch live x y) windows) ≡ true
    → before_first (takes_touch live x y) windows ≡ front
    → m ≡ mask_of (filter (watches live) front)
    → (c : ℕ)
    → mask_has m c ≡ is_watcher_at windows live x y c
mask_has-watchers windows front live x y m some e f c =
    ap (λ n. mask_has n c) f
    ∙ mask_has-live (watches live) (watcher_is_channel live) front c
    ∙ ap (λ ws. is_named (filter (watches live) ws) c) (sym e)
    ∙ ap (λ b. is_named (cond b (filter (watches live) (before_first (takes_touch live x y) windows)) []) c) (sym some)

pub mask_has-no_watchers :
    (windows : List Window) (live : ℕ → Bool) (x y : ℤ)
    → is_some (find (takes_touch live x y) windows) ≡ false
    → (c : ℕ)
    → mask_has 0 c ≡ is_watcher_at windows live x y c
mask_has-no_watchers windows live x y e c =
    mask_has-zero c
    ∙ ap (λ b. is_named (cond b (filter (watches live) (before_first (takes_touch live x y) windows)) []) c) (sym e)

-- what is told of equal windows at an equal point
pub same_at :
    (f : List Window → ℤ → ℤ → Bool) (windows windows' : List Window) (x x' y y' : ℤ)
    → windows ≡ windows'
    → x ≡ x'
    → y ≡ y'
    → f windows x y ≡ f windows' x' y'
same_at f windows windows' x x' y y' e g h =
    ap (λ ws. f ws x y) e ∙ ap (λ z. f windows' z y) g ∙ ap (λ z. f windows' x' z) h
