-- What a write into what is kept does to what is down.
use Rattle.std.proofs.Common.{◌≡◌, ◌≢◌, ◌≤◌, ◌-◌, ◌++◌, ℕ, zero, suc, List, [], ◌∷◌, length, get_or, set, Some, refl, sym, ap, eq-eqb, ⊎_elim, arith}
use Rattle.std.proofs.lemmas.Bool.{cases_eq, ne_eqb}
use Rattle.std.proofs.lemmas.List.{get_or-set_same, get_or-set_other}
use Rattle.input_types.specs.DeviceRule.{nothing_down}
use Rattle.pointers_down.proofs.Sets.{none_listed}
use Rattle.dispatcher.proofs.InboundArgs.KeySets.{none_down}
use Rattle.dispatcher.specs.declared.inbound.change.Change.{Change}
use Rattle.dispatcher.specs.InboundArgs.Kept.{DownSets}
use Rattle.dispatcher.specs.InboundArgs.Down.{state_of, state_at, untouched, changed, Changes, DevicesStandFor}

-- one device anew
pub changes_set : (ks : List DownSets) (c : Change) (new : DownSets) → length ks ≡ 8 → 1 ≤ c.device → c.device ≤ 8
    → state_of new ≡ changed c.becomes (state_at ks c.device) → Changes c ks (set ks (c.device - 1) new)
changes_set ks c new eight low high e d from =
    ⊎_elim
    (λ (same : d ≡ c.device).
    rw (same, eq-eqb c.device c.device refl, get_or-set_same ks (c.device - 1) new untouched (omega (arith, low, high, eight))) e)
    (λ (other : d ≢ c.device).
    rw (ne_eqb d c.device other, get_or-set_other ks (c.device - 1) (d - 1) new untouched (λ x. other (omega (arith, low, from, x)))) refl)
    (cases_eq d c.device)

-- nothing is down on any of these devices
abbrev pub Blank : List DownSets → Type 0
Blank ks = (i : ℕ) → state_of (get_or ks i untouched) ≡ nothing_down

-- a device of which nothing came
nothing_on : state_of untouched ≡ nothing_down
nothing_on i = record { ids = none_listed i; keys = λ scan. none_down 0 scan i }

pub blank_none : Blank []
blank_none i = nothing_on

pub blank_more : (ks : List DownSets) (k : DownSets) → state_of k ≡ nothing_down → Blank ks → Blank (ks ++ k ∷ [])
blank_more [] k e h zero = e
blank_more [] k e h (suc i) = nothing_on
blank_more (x ∷ ks) k e h zero = h zero
blank_more (x ∷ ks) k e h (suc i) = blank_more ks k e (λ j. h (suc j)) i

pub nothing_yet : (ks : List DownSets) → Blank ks → DevicesStandFor [] ks
nothing_yet ks h d low high = ap Some (sym (h (d - 1)))
