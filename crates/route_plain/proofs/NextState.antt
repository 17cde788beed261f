-- What the router keeps after a turn, part by part.
use Rattle.std.proofs.Common.{◌≡◌, ℕ, List, ◌++◌, filter, refl, ap₂, ◌∙◌}
use Rattle.input_types.specs.declared.pointer.Pointer.{Pointer}
use Rattle.routing_rules.specs.Pairs.{has_any}
use Rattle.routing_rules.specs.Scene.{Scene, Step}
use Rattle.route_plain.specs.declared.hold.Hold.{Hold}
use Rattle.route_plain.specs.declared.hold.Pilferer.{Pilferer}
use Rattle.route_plain.specs.declared.loss.Loss.{Loss}
use Rattle.route_plain.specs.Holds.{pairs_of}
use Rattle.route_plain.specs.Loss.{taking_of}
use Rattle.route_plain.specs.State.{State}
use Rattle.route_plain.specs.Route.{holds_left, holds_after, with_pilferer, last_after, next_turn, state_after}
use Rattle.route_plain.specs.Changing.{IsChange}

-- the holds: what is left, and behind it what is gained
holds_are : (s : Scene) (e : Step) (n : ℕ) (hs gained left : List Hold) (loss : Loss) → IsChange s e n hs gained loss
    → left ≡ holds_left (taking_of s.windows loss) hs → left ++ gained ≡ holds_after s e n hs
holds_are s e n hs gained left loss x e1 = ap₂ (λ xs ys. xs ++ ys) (e1 ∙ ap₂ holds_left x.loses refl) x.gains

pub state_is : (s : Scene) (e : Step) (st : State) (turns : ℕ) (holds gained left : List Hold) (loss : Loss) (noted pilferers : List Pilferer) (last : List (List Pointer))
    → IsChange s e st.turns st.holds gained loss
    → left ≡ holds_left (taking_of s.windows loss) st.holds
    → holds ≡ left ++ gained
    → noted ≡ with_pilferer e st.pilferers
    → pilferers ≡ filter (λ p. has_any (pairs_of holds) p.window p.device) noted
    → last ≡ last_after e st.last
    → turns ≡ next_turn st.turns
    → record { turns = turns; holds = holds; pilferers = pilferers; last = last } ≡ state_after s e st
state_is s e st turns holds gained left loss noted pilferers last x el eh en ep ela et =
    let h : holds ≡ holds_after s e st.turns st.holds = eh ∙ holds_are s e st.turns st.holds gained left loss x el in
    let p : pilferers ≡ filter (λ p. has_any (pairs_of (holds_after s e st.turns st.holds)) p.window p.device) (with_pilferer e st.pilferers) =
    ep ∙ ap₂ (λ hs ps. filter (λ p. has_any (pairs_of hs) p.window p.device) ps) h en in
    λ k. record { turns = et k; holds = h k; pilferers = p k; last = ela k }
