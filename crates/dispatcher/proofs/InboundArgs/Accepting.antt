-- What is kept stands for all args that were accepted.
use Rattle.std.proofs.Common.{◌≡◌, ◌≤◌, ℕ, true, false, nat_eq, List, ◌∷◌, Some, Ok, refl, sym, ap, ◌∙◌, eq-eqb, ⊎_elim, ◌≢◌}
use Rattle.std.proofs.lemmas.Bool.{cases_eq, ne_eqb}
use Rattle.input_types.specs.declared.message.Args.{Args}
use Rattle.input_types.specs.DeviceRule.{after_args, device_of, device_state}
use Rattle.dispatcher.specs.declared.inbound.change.Change.{Change}
use Rattle.dispatcher.specs.InboundArgs.Kept.{DownSets}
use Rattle.dispatcher.specs.InboundArgs.Down.{PlansAt, Changes, DevicesStandFor, state_at, changed}
use Rattle.dispatcher.specs.InboundArgs.Laws.{AcceptLaw, DownLaw}

-- a device of which the args are
own : (past : List Args) (a : Args) (c : Change) (old new : List DownSets) (d : ℕ) → d ≡ device_of a → 1 ≤ d → d ≤ 8 → DevicesStandFor past old
    → PlansAt old a (Ok c) → Changes c old new → device_state d (a ∷ past) ≡ Some (state_at new d)
own past a c old new d e low high stands planned change =
    let is : nat_eq (device_of a) d ≡ true = eq-eqb (device_of a) d (sym e) in
    let to : nat_eq d c.device ≡ true = eq-eqb d c.device (e ∙ sym planned.0) in
    let next : after_args (state_at old d) a ≡ Some (changed c.becomes (state_at old d)) = rw e (planned.1) in
    let later : state_at new d ≡ changed c.becomes (state_at old d) = rw to at (change d low) in
    rw (is, stands d low high) (next ∙ ap Some (sym later))

-- any other device
another : (past : List Args) (a : Args) (c : Change) (old new : List DownSets) (d : ℕ) → d ≢ device_of a → 1 ≤ d → d ≤ 8 → DevicesStandFor past old
    → PlansAt old a (Ok c) → Changes c old new → device_state d (a ∷ past) ≡ Some (state_at new d)
another past a c old new d e low high stands planned change =
    let is : nat_eq (device_of a) d ≡ false = ne_eqb (device_of a) d (λ same. e (sym same)) in
    let to : nat_eq d c.device ≡ false = ne_eqb d c.device (λ same. e (same ∙ planned.0)) in
    let later : state_at new d ≡ state_at old d = rw to at (change d low) in
    rw is (stands d low high ∙ ap Some (sym later))

pub accepts : AcceptLaw
accepts past a c old new stands planned change d low high =
    ⊎_elim (λ (e : d ≡ device_of a). own past a c old new d e low high stands planned change)
    (λ (e : d ≢ device_of a). another past a c old new d e low high stands planned change)
    (cases_eq d (device_of a))

pub says_down : DownLaw
says_down past ks d stands low high = rw (stands d low high) refl
