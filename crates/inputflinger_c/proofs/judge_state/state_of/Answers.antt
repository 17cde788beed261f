use Rattle.std.proofs.Common.{◌≡◌, ◌-◌, [], ◌∷◌, ap, ◌∙◌}
use Rattle.std.specs.Prelude.{slice_index}
use Rattle.bits32.specs.Set.{members}
use Rattle.gesture_verifier.specs.Told.{state_of}
use Rattle.plain_calls.specs.Numbers.{flag}
use Rattle.inputflinger_c.proofs.Devices.{of_devices}
use Rattle.inputflinger_c.proofs.judge_state.state_of.Goals as goal

pub returns : goal.returns
returns c =
    let all = c.ids_down.result ∷ c.ids_down-2.result ∷ c.ids_down-3.result ∷ c.ids_down-4.result ∷ c.ids_down-5.result ∷ c.ids_down-6.result ∷ c.ids_down-7.result ∷ c.ids_down-8.result ∷ [] in
    record {
      ids = of_devices (λ d. members (slice_index all (d - 1)) ≡ (state_of c.args.verifier.now).ids d)
          c.ids_down.ensures c.ids_down-2.ensures c.ids_down-3.ensures c.ids_down-4.ensures c.ids_down-5.ensures c.ids_down-6.ensures c.ids_down-7.ensures c.ids_down-8.ensures;
      focus = c.flag.ensures ∙ ap flag c.has_focus.ensures;
    }
