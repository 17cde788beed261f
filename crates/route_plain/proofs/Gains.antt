-- What a pointer that goes down gives, as the router finds it.
use Rattle.std.proofs.Common.{◌≡◌, ℕ, Bool, not, ◌&&◌, ◌||◌, ◌==◌, List, [], ◌∷◌, map, filter, Option, Some, None, refl, ap, sym, ◌∙◌}
use Rattle.std.specs.List.{list_any}
use Rattle.std.proofs.Math.Path.{fun_ext}
use Rattle.std.proofs.lemmas.Simd.{map-map}
use Rattle.input_types.specs.declared.axis.Pixel.{Pixel}
use Rattle.window_snapshot.specs.declared.window.Window.{Window}
use Rattle.window_snapshot.specs.Hits.{is_spy_at}
use Rattle.routing_rules.specs.Pairs.{Pair}
use Rattle.routing_rules.specs.Scene.{Scene, which}
use Rattle.routing_rules.specs.Given.{pairs}
use Rattle.routing_rules.specs.Choice.{is_candidate, is_target, takers, may_take, chosen, is_candidate_of}
use Rattle.route_plain.specs.declared.hold.Hold.{Hold}
use Rattle.route_plain.specs.Holds.{pairs_of}
use Rattle.route_plain.specs.Route.{hold_from}

same_candidate : (s : Scene) (d : ℕ) (at : Pixel) (spies : ℕ → Bool) → ((w : ℕ) → spies w ≡ is_spy_at s.windows (s.reach d) at.x at.y w)
    → (c : Option ℕ) (w : ℕ) → is_candidate_of c spies w ≡ is_candidate s d at c w
same_candidate s d at spies e None w = e w
same_candidate s d at spies e (Some v) w = ap (λ b. w == v || b) (e w)

-- the windows that get the pointer, front to back, of these candidates
abbrev takers_by : Scene → ℕ → Pixel → (ℕ → Bool) → List ℕ
takers_by s d at candidate = which s (λ v. is_target s d candidate v.channel && may_take s d at v.channel)

-- the holds of the takers, found window by window
pub gains_are : (s : Scene) (d i n : ℕ) (hs : List Hold) (at : Pixel) (spies : ℕ → Bool) → ((w : ℕ) → spies w ≡ is_spy_at s.windows (s.reach d) at.x at.y w)
    → (c : Option ℕ) → c ≡ chosen s d at
    → (some : Bool) → some ≡ list_any (λ v. is_candidate_of c spies v.channel && s.pilfering v.channel d) s.windows
    → map (λ w. hold_from n hs (record { window = w.channel; device = d; id = i }))
    (filter (λ w. is_candidate_of c spies w.channel && (s.pilfering w.channel d || not some) && may_take s d at w.channel) s.windows)
    ≡ map (hold_from n hs) (pairs d i (takers s d at))
gains_are s d i n hs at spies e c ce some se =
    let one : Window → Hold = λ w. hold_from n hs (record { window = w.channel; device = d; id = i }) in
    let by : Option ℕ → List ℕ = λ o. takers_by s d at (is_candidate_of o spies) in
    ap (λ b. map one (filter (λ w. is_candidate_of c spies w.channel && (s.pilfering w.channel d || not b) && may_take s d at w.channel) s.windows)) se
    ∙ sym (map-map (λ w. hold_from n hs (record { window = w; device = d; id = i })) (λ (v : Window). v.channel) _)
    ∙ sym (map-map (hold_from n hs) (λ w. record { window = w; device = d; id = i }) (by c))
    ∙ ap (λ ws. map (hold_from n hs) (pairs d i ws))
    (ap by ce ∙ ap (takers_by s d at) (fun_ext (same_candidate s d at spies e (chosen s d at))))

-- the pairs of what is gained are those that are given
pub pairs_of-gained : (n : ℕ) (hs : List Hold) (qs : List Pair) → pairs_of (map (hold_from n hs) qs) ≡ qs
pairs_of-gained n hs [] = refl
pairs_of-gained n hs (q ∷ qs) = ap (λ rs. q ∷ rs) (pairs_of-gained n hs qs)
