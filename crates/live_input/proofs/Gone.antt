-- A client that goes: what is wanted without it, and the windows that are shown.
use Rattle.std.proofs.Common.{◌≡◌, ℕ, ◌+◌, ◌≤◌, ◌==◌, ◌&&◌, ◌||◌, Bool, true, false, not, cond, map, filter, List, [], ◌∷◌, length, slice_index_or, Option, Some, None, refl, sym, ap, ap₂, ◌∙◌, inl, inr, arith}
use Rattle.std.proofs.lemmas.Bool.{cases_Bool, eqb-true, true≢false}
use Rattle.window_snapshot.specs.declared.window.Window.{Window}
use Rattle.window_snapshot.specs.Mask.{mask_has}
use Rattle.live_input.specs.declared.client.Client.{Client}
use Rattle.live_input.specs.declared.windows.ClientWindow.{ClientWindow}
use Rattle.live_input.specs.Closing.{without}
use Rattle.live_input.specs.Limit.{has_window, is_of_channel, wall_of, walled, walled_one, without_client}
use Rattle.live_input.specs.LimitedCalls.{GoneLaw}
use Rattle.live_input.specs.Wanted.{Wanted}
use Rattle.live_input.specs.Windows.{number_of, window_of}
use Rattle.live_input.proofs.Noting.{channel_in}

record IsGone (choked after c : ℕ) : Type 0 where
  low : c ≤ 64
  others : (d : ℕ) → mask_has after d ≡ (not (d == c) && mask_has choked d)

no_channel : (y c : ℕ) → c ≤ 64 → (65 + y == c) ≡ false
no_channel y c low =
    elim (cases_Bool (65 + y == c)) [
      | inl same ↦ let is = eqb-true (65 + y) c same in absurd (omega (arith, low, is))
      | inr other ↦ other
    ]

-- a window, or its wall, is of the channel as its client is
same_test : (choked after c : ℕ) (client : Option Client) (w : ClientWindow) → IsGone choked after c → w.client ≡ client
    → (mask_has choked c && is_of_channel c client) ≡ false → ((window_of (walled_one choked client w)).channel == c) ≡ is_of_channel c client
same_test choked after c None w g is no_wall = ap (λ k. number_of k w.info.display == c) is ∙ no_channel w.info.display c g.low
same_test choked after c (Some k) w g is no_wall = by_test (mask_has choked k.channel) refl
  where
    by_test : (b : Bool) → mask_has choked k.channel ≡ b → ((window_of (cond b (wall_of w) w)).channel == c) ≡ (k.channel == c)
    by_test true e =
        no_channel w.info.display c g.low
        ∙ sym (elim (cases_Bool (k.channel == c)) [
          | inl same ↦ absurd (true≢false (sym (ap₂ (λ a b. a && b) (sym (ap (mask_has choked) (eqb-true k.channel c same)) ∙ e) same) ∙ no_wall))
          | inr other ↦ other
        ])
    by_test false e = ap (λ k. number_of k w.info.display == c) is

-- the windows of other clients are walled as before
same_wall : (choked after c : ℕ) (client : Option Client) (w : ClientWindow) → IsGone choked after c → is_of_channel c client ≡ false
    → walled_one choked client w ≡ walled_one after client w
same_wall choked after c None w g other = refl
same_wall choked after c (Some k) w g other =
    ap (λ b. cond b (wall_of w) w) (sym (g.others k.channel ∙ ap (λ b. not b && mask_has choked k.channel) other))

no_walls : (m a b : Bool) → (m && (a || b)) ≡ false → ((m && a) ≡ false) × ((m && b) ≡ false)
no_walls true true b e = absurd (true≢false e)
no_walls true false b e = (refl, e)
no_walls false a b e = (refl, refl)

gone : (choked after c : ℕ) (ws : List ClientWindow) → IsGone choked after c → (mask_has choked c && has_window c ws) ≡ false
    → without c (map window_of (walled choked ws)) ≡ map window_of (walled after (filter (λ w. not (is_of_channel c w.client)) ws))
gone choked after c [] g no_wall = refl
gone choked after c (w ∷ ws) g no_wall =
    let x = no_walls (mask_has choked c) (is_of_channel c w.client) (has_window c ws) no_wall in
    ap (λ b. cond (not b) (h ∷ without c front) (without c front)) (same_test choked after c w.client w g refl x.0)
    ∙ by_test (is_of_channel c w.client) refl (gone choked after c ws g x.1)
  where
    h : Window
    h = window_of (walled_one choked w.client w)

    front : List Window
    front = map window_of (walled choked ws)

    rest : List ClientWindow
    rest = filter (λ v. not (is_of_channel c v.client)) ws

    by_test : (b : Bool) → is_of_channel c w.client ≡ b → without c front ≡ map window_of (walled after rest)
        → cond (not b) (h ∷ without c front) (without c front) ≡ map window_of (walled after (cond (not b) (w ∷ rest) rest))
    by_test true e more = more
    by_test false e more = ap₂ (λ v vs. window_of v ∷ vs) (same_wall choked after c w.client w g e) more

pub gone_law : GoneLaw
gone_law choked after c ws is was others =
    gone choked after c ws (record { low = (channel_in c is).1; others = others }) was

-- four requests, each changed in the same way
four_mapped : (f : Option Client → Option Client) (rs : List (Option Client)) → length rs ≡ 4
    → f (slice_index_or rs 0 None) ∷ f (slice_index_or rs 1 None) ∷ f (slice_index_or rs 2 None) ∷ f (slice_index_or rs 3 None) ∷ [] ≡ map f rs
four_mapped f [] four = absurd (omega (arith, four))
four_mapped f (p ∷ []) four = absurd (omega (arith, four))
four_mapped f (p ∷ q ∷ []) four = absurd (omega (arith, four))
four_mapped f (p ∷ q ∷ r ∷ []) four = absurd (omega (arith, four))
four_mapped f (p ∷ q ∷ r ∷ s ∷ []) four = refl
four_mapped f (p ∷ q ∷ r ∷ s ∷ t ∷ more) four = absurd (omega (arith, four))

-- a request, unless it is for the client of this channel
abbrev unless_its : ℕ → Option Client → Option Client
unless_its c r = cond (is_of_channel c r) None r

-- nothing is wanted for a client that goes
pub left_is : (c : ℕ) (w : Wanted) (windows : List ClientWindow) (p q r s : Option Client) (shown : Bool)
    → windows ≡ filter (λ v. not (is_of_channel c v.client)) w.windows → length w.requested ≡ 4 → p ≡ unless_its c (slice_index_or w.requested 0 None)
    → q ≡ unless_its c (slice_index_or w.requested 1 None) → r ≡ unless_its c (slice_index_or w.requested 2 None)
    → s ≡ unless_its c (slice_index_or w.requested 3 None) → shown ≡ (w.is_shown && not (has_window c w.windows))
    → record w { windows = windows; requested = p ∷ q ∷ r ∷ s ∷ []; is_shown = shown } ≡ without_client c w
left_is c w windows p q r s shown ew four ep eq er es ed =
    let requests : p ∷ q ∷ r ∷ s ∷ [] ≡ map (unless_its c) w.requested =
    ap₂ (λ x y. x ∷ y ∷ r ∷ s ∷ []) ep eq
    ∙ ap₂ (λ x y. unless_its c (slice_index_or w.requested 0 None) ∷ unless_its c (slice_index_or w.requested 1 None) ∷ x ∷ y ∷ []) er es
    ∙ four_mapped (unless_its c) w.requested four in
    λ i. record w { windows = ew i; requested = requests i; is_shown = ed i }
