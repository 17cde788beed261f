-- Motions with the flags of what lies over a window: they are as many as without, and leave the same.
use Rattle.std.proofs.Common.{◌≡◌, ℕ, suc, Bool, true, false, List, [], ◌∷◌, ◌++◌, length, map, refl, ap, ◌∙◌, subst}
use Rattle.std.specs.Prelude.{bit_or}
use Rattle.input_types.specs.declared.key.KeyMsg.{KeyMsg}
use Rattle.input_types.specs.declared.message.Body.{Body}
use Rattle.input_types.specs.declared.message.Body.TheVariants.{Motion as MotionBody}
use Rattle.input_types.specs.declared.motion.Motion.{Motion}
use Rattle.input_types.specs.declared.motion.MotionAction.TheVariants.{Move}
use Rattle.input_types.specs.declared.pointer.Pointer.{Pointer}
use Rattle.routing_rules.specs.Cover.{Cover, flags_of, flags_under, with_flags, under}
use Rattle.routing_rules.specs.Outgoing.{plain}
use Rattle.dispatcher.specs.InputChannel.Moves.{move_of}
use Rattle.dispatcher.specs.CancelSynthesis.Tracked.{pointers_then}
use Rattle.dispatcher.specs.KeyTables.Held.{bodies_tracked}
use Rattle.dispatcher.specs.WindowCovers.Covers.{CoverTable, cover_in}
use Rattle.dispatcher.specs.DispatchChannels.Table.{Table, IsOpened}
use Rattle.dispatcher.specs.DispatchChannels.Changes.{Sends}
use Rattle.dispatcher.specs.declared.dispatch_round.listener.Listener.{Listener}
use Rattle.dispatcher.specs.DispatchRound.Bodies.{told, pointers_tracked}
use Rattle.dispatcher.specs.DispatchRound.Saying.{SendsOne}
use Rattle.dispatcher.proofs.DispatchRound.Saying.{sends_one}

-- one of them
abbrev pub told_one : CoverTable → ℕ → Motion → Body
told_one covers w m = MotionBody (under (cover_in covers w m.device) m)

pub told-length : (covers : CoverTable) (w : ℕ) (ms : List Motion) → length (told covers w ms) ≡ length ms
told-length covers w [] = refl
told-length covers w (m ∷ ms) = ap suc (told-length covers w ms)

pub told-append : (covers : CoverTable) (w : ℕ) (xs ys : List Motion) → told covers w (xs ++ ys) ≡ told covers w xs ++ told covers w ys
told-append covers w [] ys = refl
told-append covers w (x ∷ xs) ys = ap (λ (bs : List Body). told_one covers w x ∷ bs) (told-append covers w xs ys)

pub told_pointers : (covers : CoverTable) (w : ℕ) (ms : List Motion) (d : ℕ) (ps : List Pointer)
    → pointers_tracked (told covers w ms) d ps ≡ pointers_tracked (map MotionBody ms) d ps
told_pointers covers w [] d ps = refl
told_pointers covers w (m ∷ ms) d ps = told_pointers covers w ms d (pointers_then (MotionBody m) d ps)

-- and keys as they were
pub told_keys : (covers : CoverTable) (w : ℕ) (ms : List Motion) (bs : List Body) (held : List KeyMsg)
    → bodies_tracked (told covers w ms ++ bs) held ≡ bodies_tracked bs held
told_keys covers w [] bs held = refl
told_keys covers w (m ∷ ms) bs held = told_keys covers w ms bs held

-- a motion without flags of its own has those of the cover
pub no_flags : (c : Cover) → flags_of c ≡ bit_or 0 (flags_of c)
no_flags c = by_bits c.obscured c.partly
  where
    by_bits : (o p : Bool) → flags_of (record { obscured = o; partly = p }) ≡ bit_or 0 (flags_of (record { obscured = o; partly = p }))
    by_bits true true = refl
    by_bits true false = refl
    by_bits false true = refl
    by_bits false false = refl

-- one is sent
pub sends_told : (to : Listener) (m : Motion) (flags : ℕ) (t u : Table)
    → flags ≡ flags_under m.action (cover_in to.covers.now to.window m.device) m.flags
    → Sends to.window (MotionBody (with_flags flags m)) to.origin to.clock t u → IsOpened t to.window
    → SendsOne to (told to.covers.now to.window (m ∷ [])) t u
sends_told to m flags t u is h opened =
    sends_one to (told_one to.covers.now to.window m) t u
    (subst (λ (f : ℕ). Sends to.window (MotionBody (with_flags f m)) to.origin to.clock t u) is h)
    opened

pub sends_moves : (to : Listener) (d flags : ℕ) (ps : List Pointer) (t u : Table)
    → flags ≡ flags_of (cover_in to.covers.now to.window d)
    → Sends to.window (MotionBody (move_of d flags ps)) to.origin to.clock t u → IsOpened t to.window
    → SendsOne to (told to.covers.now to.window (plain d Move ps ∷ [])) t u
sends_moves to d flags ps t u is h opened =
    sends_told to (plain d Move ps) flags t u (is ∙ no_flags (cover_in to.covers.now to.window d)) h opened
