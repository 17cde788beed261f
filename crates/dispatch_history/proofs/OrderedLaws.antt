-- The ordered run as a relation and as a function.
use Rattle.std.proofs.Common.{◌≡◌, ℕ, zero, suc, ◌+◌, List, Option, Some, None, refl, sym, ap, ◌∙◌, arith}
use Rattle.dispatch_history.specs.Effect.{Effect}
use Rattle.dispatch_history.specs.Plan.{Plan}
use Rattle.dispatch_history.specs.Ordered.{Candidate, chosen, round, Rounds, start, next, rounds_with, rounds, ordered, begun}
use Rattle.dispatch_history.specs.Laws.{OrderedSound, OrderedComplete, OrderedUnique}

rounds_by : (n : ℕ) (plan : Plan) (es : List Effect) → Rounds plan es → ((fs : List Effect) → Rounds plan fs → Rounds plan (rounds n plan fs))
    → (o : Option Candidate) → chosen plan es ≡ o → Rounds plan (rounds_with plan (λ later. rounds n plan later) es o)
rounds_by n plan es r more None e = r
rounds_by n plan es r more (Some c) e = more (round plan es c) (next r e)

rounds_are : (n : ℕ) (plan : Plan) (es : List Effect) → Rounds plan es → Rounds plan (rounds n plan es)
rounds_are zero plan es r = r
rounds_are (suc n) plan es r = rounds_by n plan es r (λ fs s. rounds_are n plan fs s) (chosen plan es) refl

pub ordered_sound : OrderedSound
ordered_sound plan n e = (rounds_are n plan (begun plan) start, e)

-- after some number of rounds the function agrees with the relation
pub reached : (plan : Plan) (es : List Effect) → Rounds plan es → (n : ℕ) × ((m : ℕ) → ordered (n + m) plan ≡ rounds m plan es)
reached plan es start = (0, λ m. ap (λ k. ordered k plan) (omega arith))
reached plan es (next {es = before} {c = c} r e) =
    let k = reached plan before r in (
      k.0 + 1,
      λ m. ap (λ j. ordered j plan) (omega arith) ∙ k.1 (suc m) ∙ ap (rounds_with plan (λ later. rounds m plan later) before) e,
    )

pub ordered_complete : OrderedComplete
ordered_complete plan es o =
    let k = reached plan es o.0 in
    (k.0 + 0, k.1 0)

-- if nothing is chosen, more rounds change nothing
pub stays : (m : ℕ) (plan : Plan) (es : List Effect) → chosen plan es ≡ None → rounds m plan es ≡ es
stays zero plan es e = refl
stays (suc m) plan es e = ap (rounds_with plan (λ later. rounds m plan later) es) e

pub ordered_unique : OrderedUnique
ordered_unique plan es fs o p =
    let k = reached plan es o.0 in
    let l = reached plan fs p.0 in
    sym (stays l.0 plan es o.1)
    ∙ sym (k.1 l.0)
    ∙ ap (λ j. ordered j plan) (omega arith)
    ∙ l.1 k.0
    ∙ stays k.0 plan fs p.1
