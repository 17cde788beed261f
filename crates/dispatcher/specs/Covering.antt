-- What is kept of the windows that lie over others, and how a step changes it.
use Rattle.std.specs.Prelude.{◌≡◌, ℕ, false, List, Option, Some, None}
use Rattle.input_types.specs.declared.motion.Motion.{Motion}
use Rattle.dispatch_calls.specs.declared.call.Call.{Call}
use Rattle.dispatch_calls.specs.declared.reply.Reply.{Reply}
use Rattle.dispatch_history.specs.Effect.{Effect}
use Rattle.dispatch_history.specs.Step.{marks}
use Rattle.window_snapshot.specs.Mask.{mask_has}
use Rattle.routing_rules.specs.Marks.{Mark}
use Rattle.routing_rules.specs.Pairs.{has_any}
use Rattle.touch_state.specs.Touches.{Touches}
use Rattle.route_split.specs.Tables.{any_at}
use Rattle.dispatcher.specs.declared.window_covers.gift.Gift.{Gift}
use Rattle.dispatcher.specs.WindowCovers.Covers.{CoverTable, Gives}
use Rattle.dispatcher.specs.WindowCovers.Laws.{Follows, IsGift}
use Rattle.dispatcher.specs.Pointing.{mark_at}

-- what is kept says what lies over each window after the effects of a history
abbrev pub CoversAre : List Effect → CoverTable → Type 0
CoversAre es t = Follows (marks es) t

-- it changes by a gift, if windows hold what these tables say, and stays if nothing is given
abbrev pub CoversGo : Option Gift → List Touches → (old new : CoverTable) → Type 0
CoversGo None ts old new = new ≡ old
CoversGo (Some g) ts old new = (held : ℕ) × ((w : ℕ) → mask_has held w ≡ any_at ts w g.device) × Gives old new g held

-- a round without a motion gives nothing
abbrev pub GivesNone : Option Motion → Option Gift → Type 0
GivesNone None gift = gift ≡ None
GivesNone (Some m) gift = Unit {0}

-- the gift is what a mark gives; there is none if it gives nothing
abbrev pub IsGiftIn : Mark → Option Gift → Type 0
IsGiftIn m None = (w d : ℕ) → has_any m.given w d ≡ false
IsGiftIn m (Some g) = IsGift m g

-- the same for the mark of the step with this call and reply
abbrev pub IsGiftAt : List ℕ → Call → Reply → List Effect → Option Gift → Type 0
IsGiftAt displays call answer es = IsGiftIn (mark_at displays call answer es)

-- how a step changes it
pub record CoversStep (displays : List ℕ) (call : Call) (answer : Reply) (es : List Effect) (ts : List Touches) (old new : CoverTable) : Type 0 where
  pub gift : Option Gift
  pub is_gift : IsGiftAt displays call answer es gift
  pub changes : CoversGo gift ts old new
