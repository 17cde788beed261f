-- The streams of a run are whole.
use Rattle.std.proofs.Common.{◌≡◌, ◌∙◌, ℕ, List, Some, IsTrue, ap, sym, subst}
use Rattle.input_types.specs.StreamRule.{is_well_formed, stream_state}
use Rattle.dispatch_core.specs.Recorded.{Recorded, IsSound, effects_of}
use Rattle.dispatch_history.specs.Effect.{Effect, past_of, stream}
use Rattle.dispatch_history.specs.Effects.{effects}
use Rattle.dispatch_history.specs.History.{History, live}
use Rattle.dispatch_history.specs.Known.{known_state}
use Rattle.dispatch_history.specs.Legal.{Legal}
use Rattle.dispatch_history.specs.PointerOf.{AllRise}
use Rattle.dispatch_history.proofs.LegalLaws.{effects_law}
use Rattle.dispatch_history.proofs.WholeLaws.{removed_law, removed_state_law, whole_law, well_formed_law}
use Rattle.dispatcher.specs.DispatchTables.Lawful.{Lawful}
use Rattle.command_answers.specs.Whole.{AreWhole}

pub lawful_whole : (displays : List ℕ) (es : List Effect) → Lawful displays es → AllRise (past_of es) → AreWhole displays es
lawful_whole displays es lawful rise = record {
  each = λ c. subst (λ (xs : List Effect). IsTrue (is_well_formed (stream xs c))) lawful.whole (well_formed_law displays (past_of es) c lawful.legal rise);
  live_ones = λ c alive. subst (λ (xs : List Effect). stream_state (stream xs c) ≡ Some (known_state xs c)) lawful.whole
      (whole_law displays (past_of es) c lawful.legal rise alive);
  removed_ones = λ later before now c is.
      let so = subst (Legal displays) is lawful.legal in
      let kept = removed_law displays later before now c so in (
        ap (λ (h : History). live h c) is ∙ kept.0,
        ap (λ (xs : List Effect). stream xs c) (sym lawful.whole) ∙ ap (λ (h : History). stream (effects displays h) c) is ∙ kept.1,
        ap (λ (xs : List Effect). stream_state (stream xs c)) (sym lawful.whole)
            ∙ ap (λ (h : History). stream_state (stream (effects displays h) c)) is
            ∙ removed_state_law displays later before now c so (subst AllRise is rise),
      );
}

-- so are those of a core that is sound
pub sound_whole : (r : Recorded) → IsSound r → AreWhole r.displays (effects_of r)
sound_whole r sound =
    let same : past_of (effects_of r) ≡ _ = effects_law r.displays _ in
    record {
      each = sound.well_formed;
      live_ones = λ c alive. sound.whole c (ap (λ (h : History). live h c) (sym same) ∙ alive);
      removed_ones = λ later before now c is.
          let kept = sound.removed later before now c (sym same ∙ is) in
          (ap (λ (h : History). live h c) same ∙ kept.0, kept.1, kept.2);
    }
