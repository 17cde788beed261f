-- The session of a workload is one that a session file could say.
use Rattle.std.specs.Prelude.{◌≡◌, ℕ, ◌≤◌, List, [], ◌∷◌, Option, Some, length, map}
use Rattle.std.specs.List.{All}
use Rattle.std.specs.List.Sorted.{IsNonDecreasingBy}
use Rattle.std.proofs.Common.{rules, arith, sym, ap, subst}
use Rattle.key_repeat.specs.declared.delays.Repeats.{Repeats}
use Rattle.key_repeat.specs.Due.{android_delays}
use Rattle.session_plan.specs.declared.plan.Display.{Display}
use Rattle.session_plan.specs.declared.plan.Plan.{Plan}
use Rattle.session_plan.specs.declared.plan.Step.{Step}
use Rattle.session_plan.specs.Plan.{ChannelData, DeviceData}
use Rattle.session_plan.specs.Valid.{IsChannel, IsDevice, IsDisplay, IsPlan, IsStep}
use Rattle.workload_maker.specs.Session.{channels, displays, session, steps, touch_device}

-- its parts are those of the definition
pub joined : (ds : List Display) (vs : List DeviceData) (cs : List ChannelData) (ss : List Step) (end : ℕ) (r : Option Repeats)
    → ds ≡ displays → vs ≡ touch_device ∷ [] → cs ≡ channels → ss ≡ steps → end ≡ 0 → r ≡ Some android_delays
    → record { displays = ds; devices = vs; channels = cs; steps = ss; end = end; repeats = r } ≡ session
joined ds vs cs ss end r a b c d e f i = record { displays = a i; devices = b i; channels = c i; steps = d i; end = e i; repeats = f i }

displays_fit : All IsDisplay displays
displays_fit = search rules

steps_fit : All IsStep steps
steps_fit = search rules

steps_rise : IsNonDecreasingBy (λ s. s.at) steps
steps_rise = search rules

-- and they are in their ranges
pub valid : (p : Plan) → p.displays.items ≡ displays → All (IsDevice 1) p.devices.items → length p.devices.items ≡ 1
    → All IsChannel p.channels.items → length p.channels.items ≡ 5 → p.steps.items ≡ steps → IsPlan p
valid p ds vs vn cs cn ss =
    let n : length p.displays.items ≡ 1 = ap (λ xs. length xs) ds in
    record {
      some_display = omega (arith, n);
      few_displays = omega (arith, n);
      displays = subst (λ xs. All IsDisplay xs) (sym ds) displays_fit;
      few_devices = omega (arith, vn);
      devices = subst (λ k. All (IsDevice k) p.devices.items) (sym n) vs;
      few_channels = omega (arith, cn);
      channels = cs;
      steps = subst (λ xs. All IsStep xs) (sym ss) steps_fit;
      rising = subst (λ xs. IsNonDecreasingBy (λ s. s.at) xs) (sym ss) steps_rise;
    }
