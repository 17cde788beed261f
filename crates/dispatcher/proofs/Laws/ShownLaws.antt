-- The windows, who holds what, and what lies over windows, after any step.
use Rattle.std.proofs.Common.{◌≡◌, suc, List, [], ◌∷◌, length, Option, Some, None, refl, sym, ap, ◌∙◌, subst}
use Rattle.dispatch_history.specs.History.{windows_after, origin_after}
use Rattle.dispatch_history.specs.Effect.{Effect}
use Rattle.dispatch_history.specs.Step.{marks, scene}
use Rattle.routing_rules.specs.Taking.{takes, pilfers}
use Rattle.route_split.specs.Tables.{ChangesAll}
use Rattle.route_split.specs.Marking.{gives, taking}
use Rattle.route_split.proofs.FollowingLaws.{step_law, scene_law}
use Rattle.dispatcher.specs.declared.window_covers.gift.Gift.{Gift}
use Rattle.dispatcher.specs.WindowCovers.Laws.{Follows}
use Rattle.dispatcher.proofs.WindowCovers.Giving.{gift_law, stay_law}
use Rattle.dispatcher.specs.Covering.{CoversGo, IsGiftAt}
use Rattle.dispatcher.specs.Pointing.{mark_at}
use Rattle.dispatcher.specs.Laws.{ShownLaw, TouchesLaw, CoversLaw, TouchesSceneLaw}

pub shown_law : ShownLaw
shown_law ds call answer es k later is goes =
    record {
      windows_are = goes.windows_are ∙ ap (windows_after call) is.windows_are;
      origins_are = λ w low high. goes.origins_are w low high ∙ ap (origin_after call w) (is.origins_are w low high);
    }

-- a mark for each step
pub as_many_marks : (es : List Effect) → length (marks es) ≡ length es
as_many_marks [] = refl
as_many_marks (x ∷ es) = ap suc (as_many_marks es)

pub touches_law : TouchesLaw
touches_law ds call answer es old new is goes =
    step_law (marks es) (mark_at ds call answer es) old new goes.by is goes.is_mark
    (subst (λ place. ChangesAll old new (gives goes.by) (takes (taking old goes.by)) place (pilfers (taking old goes.by))) (sym (as_many_marks es)) goes.changes)

pub covers_law : CoversLaw
covers_law ds call answer es ts old new touches is goes = by_gift goes.gift goes.is_gift goes.changes
  where
    by_gift : (g : Option Gift) → IsGiftAt ds call answer es g → CoversGo g ts old new → Follows (mark_at ds call answer es ∷ marks es) new
    by_gift None none same = subst (Follows (mark_at ds call answer es ∷ marks es)) (sym same) (stay_law (marks es) (mark_at ds call answer es) old is none)
    by_gift (Some g) found changes =
        gift_law (marks es) (mark_at ds call answer es) g changes.0 old new is found (λ w. touches.any_are w g.device ∙ sym (changes.1 w)) changes.2

pub touches_scene_law : TouchesSceneLaw
touches_scene_law ds es ts is =
    scene_law (marks es) ts (scene ds es) is (record { holds_are = refl; any_are = refl; earlier_are = refl; pilfering_are = refl })
