-- Args as they are handed in, and steps.
use Rattle.std.proofs.Common.{◌≡◌, ℕ, suc, List, [], ◌∷◌, map, reverse, is_some, true, refl, sym, ap, ◌∙◌, subst, arith}
use Rattle.std.specs.List.{All}
use Rattle.std.proofs.lemmas.List.{map-append, reverse-append}
use Rattle.input_types.specs.declared.message.Args.{Args}
use Rattle.input_types.specs.DeviceRule.{device_state}
use Rattle.dispatch_history.specs.Plan.{Cooked}
use Rattle.schedule.specs.declared.plan.Step.{Step}
use Rattle.schedule.specs.Planned.{IsStep, step_of}
use Rattle.schedule.proofs.Advancing.{scripted_plain}
use Rattle.run_laws.specs.Fitting.{HandNone, handed}
use Rattle.run_laws.specs.Laws.{HandedKeep, StepsHandNone}

abbrev made : ℕ × Args → Cooked
made g = record { moment = g.0; args = g.1 }

-- handed in, the newest of them are the last
handed_args : (gs : List (ℕ × Args)) → reverse (map (λ (a : Cooked). a.args) (handed gs)) ≡ map (λ (g : ℕ × Args). g.1) gs
handed_args [] = refl
handed_args (g ∷ gs) =
    ap (λ xs. reverse (map (λ (a : Cooked). a.args) (map made xs))) (reverse-append (g ∷ []) gs)
    ∙ ap (λ xs. reverse (map (λ (a : Cooked). a.args) xs)) (map-append made (reverse gs) (g ∷ []))
    ∙ ap reverse (map-append (λ (a : Cooked). a.args) (map made (reverse gs)) (made g ∷ []))
    ∙ reverse-append (map (λ (a : Cooked). a.args) (map made (reverse gs))) (g.1 ∷ [])
    ∙ ap (λ xs. g.1 ∷ xs) (handed_args gs)

pub handed_keep : HandedKeep
handed_keep gs rule d = subst (λ xs. is_some (device_state d xs) ≡ true) (sym (handed_args gs)) (rule d)

none_handed : (ss : List Step) → All IsStep ss → HandNone (map step_of ss)
none_handed [] h = tt
none_handed (s ∷ ss) h =
    ((scripted_plain s.call (h 0 s (omega arith))).notifies_not, none_handed ss (λ i d lt. h (suc i) d (omega (arith, lt))))

pub steps_hand_none : StepsHandNone
steps_hand_none plan r = none_handed plan.steps.items r.steps
