-- How the masks follow the marks of the steps.
use Rattle.std.specs.Prelude.{ℕ, ◌≡◌, ◌==◌, ◌&&◌, false, List, ◌∷◌}
use Rattle.window_snapshot.specs.Mask.{mask_has}
use Rattle.routing_rules.specs.Pairs.{has_any}
use Rattle.routing_rules.specs.Marks.{Mark, held, covered}
use Rattle.dispatcher.specs.declared.window_covers.gift.Gift.{Gift}
use Rattle.dispatcher.specs.WindowCovers.Covers.{CoverTable, cover_in, Gives}

-- the masks say what lay over each window by these marks
abbrev pub Follows : List Mark → CoverTable → Type 0
Follows ms t = (w d : ℕ) → covered ms w d ≡ cover_in t w d

-- a gift is what a mark gives
pub record IsGift (m : Mark) (g : Gift) : Type 0 where
  pub given_are : (w d : ℕ) → has_any m.given w d ≡ (d == g.device && mask_has g.windows w)
  pub obscured_are : (w : ℕ) → mask_has g.obscured w ≡ (mask_has g.windows w && (m.cover w).obscured)
  pub partly_are : (w : ℕ) → mask_has g.partly w ≡ (mask_has g.windows w && (m.cover w).partly)

-- Masks that follow the marks still do after a gift.
abbrev pub GiftLaw : Type 0
GiftLaw =
    (ms : List Mark) (m : Mark) (g : Gift) (held_mask : ℕ) (old new : CoverTable)
    → Follows ms old → IsGift m g → ((w : ℕ) → has_any (held ms) w g.device ≡ mask_has held_mask w)
    → Gives old new g held_mask → Follows (m ∷ ms) new

-- And so they do after a step that gives nothing, at which they stay.
abbrev pub StayLaw : Type 0
StayLaw = (ms : List Mark) (m : Mark) (t : CoverTable) → Follows ms t → ((w d : ℕ) → has_any m.given w d ≡ false) → Follows (m ∷ ms) t
