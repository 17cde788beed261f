-- What is proved of what is kept: it stands for all args that were accepted.
use Rattle.std.specs.Prelude.{◌≡◌, ◌≤◌, ℕ, List, ◌∷◌, unwrap_or, Ok}
use Rattle.input_types.specs.declared.message.Args.{Args}
use Rattle.input_types.specs.DeviceRule.{device_state, nothing_down}
use Rattle.dispatcher.specs.declared.inbound.change.Change.{Change}
use Rattle.dispatcher.specs.InboundArgs.Kept.{DownSets}
use Rattle.dispatcher.specs.InboundArgs.Down.{PlansAt, Changes, DevicesStandFor, state_at}

-- What is kept after some args stands for one more, once it has changed as is planned for that.
abbrev pub AcceptLaw : Type 0
AcceptLaw =
    (past : List Args) (args : Args) (c : Change) (old new : List DownSets)
    → DevicesStandFor past old → PlansAt old args (Ok c) → Changes c old new → DevicesStandFor (args ∷ past) new

-- It says what is down on the device of any args.
abbrev pub DownLaw : Type 0
DownLaw =
    (past : List Args) (ks : List DownSets) (d : ℕ)
    → DevicesStandFor past ks → 1 ≤ d → d ≤ 8 → unwrap_or (device_state d past) nothing_down ≡ state_at ks d
