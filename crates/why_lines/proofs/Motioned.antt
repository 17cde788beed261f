-- The causes of a motion, by what it does to its pointer.
use Rattle.std.proofs.Common.{◌≡◌, ℕ, true, false, cond, List, [], ◌∷◌, Some, ap, ◌∙◌}
use Rattle.input_types.specs.declared.motion.Motion.{Motion}
use Rattle.input_types.specs.declared.pointer.Pointer.{Pointer}
use Rattle.routing_rules.specs.Given.{changed}
use Rattle.routing_rules.specs.Scene.{Scene}
use Rattle.routing_rules.specs.Slip.{slip}
use Rattle.routing_rules.specs.Outgoing.{is_cancelled, is_down, is_up}
use Rattle.why_lines.specs.Causes.{Comes}
use Rattle.why_text.specs.Down.{down_of}
use Rattle.why_text.specs.Lines.{down_words, motion_words, slip_words, up_words}
use Rattle.why_lines.specs.Coming.{MayCome}

-- the lines of a pointer that goes down, and of one that goes up
abbrev down_line : Scene → Motion → Pointer → List (List ℕ)
down_line s m p = down_words m.device p (down_of s m p) ∷ []

abbrev up_line : Scene → Motion → Pointer → List (List ℕ)
up_line s m p = up_words (is_cancelled m.action m.flags) m.device p.id (λ w. s.holds w m.device p.id) ∷ []

pub down_sent : (s : Scene) (m : Motion) (p : Pointer) → changed m ≡ Some p → is_down m.action ≡ true
    → motion_words s m (changed m) ≡ down_words m.device p (down_of s m p) ∷ []
down_sent s m p e d =
    ap (motion_words s m) e
    ∙ ap (λ b. cond b (down_line s m p) (cond (is_up m.action) (up_line s m p) (slip_words m.device p (slip s m)))) d

pub up_sent : (s : Scene) (m : Motion) (p : Pointer) → changed m ≡ Some p → is_down m.action ≡ false → is_up m.action ≡ true
    → motion_words s m (changed m) ≡ up_words (is_cancelled m.action m.flags) m.device p.id (λ w. s.holds w m.device p.id) ∷ []
up_sent s m p e d u =
    ap (motion_words s m) e
    ∙ ap (λ b. cond b (down_line s m p) (cond (is_up m.action) (up_line s m p) (slip_words m.device p (slip s m)))) d
    ∙ ap (λ b. cond b (up_line s m p) (slip_words m.device p (slip s m))) u

pub slip_sent : (s : Scene) (m : Motion) (p : Pointer) → changed m ≡ Some p → is_down m.action ≡ false → is_up m.action ≡ false
    → motion_words s m (changed m) ≡ slip_words m.device p (slip s m)
slip_sent s m p e d u =
    ap (motion_words s m) e
    ∙ ap (λ b. cond b (down_line s m p) (cond (is_up m.action) (up_line s m p) (slip_words m.device p (slip s m)))) d
    ∙ ap (λ b. cond b (up_line s m p) (slip_words m.device p (slip s m))) u

pub goes_down : (s : Scene) (m : Motion) (p : Pointer) → MayCome s m → changed m ≡ Some p → is_down m.action ≡ true → Comes s m p
goes_down s m p may e d =
    record { down = may.down; next = may.next; fits = may.fits; rises = may.rises; comes = may.comes; changed_is = e; goes_down = d }
