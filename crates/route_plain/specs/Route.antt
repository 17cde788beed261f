-- What a turn is to the rules, what is said at it, and what the router keeps after it.
use Rattle.std.specs.Prelude.{ℕ, zero, suc, ◌+◌, ◌-◌, not, nat_lt, if◌then◌else◌, List, [], ◌∷◌, ◌++◌, map, filter, unwrap_or, slice_set}
use Rattle.input_types.specs.declared.motion.Motion.{Motion}
use Rattle.input_types.specs.declared.pointer.Pointer.{Pointer}
use Rattle.window_snapshot.specs.declared.window.Window.{Window}
use Rattle.window_snapshot.specs.Mask.{mask_has}
use Rattle.window_snapshot.specs.Named.{is_named}
use Rattle.routing_rules.specs.Pairs.{Pair, has_any}
use Rattle.routing_rules.specs.Taking.{Taking, takes}
use Rattle.routing_rules.specs.Scene.{Scene, Step, Moves, Resets, Pilfers, Shows, Mutes, Removes}
use Rattle.routing_rules.specs.Given.{given, taken}
use Rattle.routing_rules.specs.Outgoing.{sent_all}
use Rattle.route_plain.specs.declared.hold.Hold.{Hold}
use Rattle.route_plain.specs.declared.hold.Pilferer.{Pilferer}
use Rattle.route_plain.specs.declared.turn.Turn.{Turn}
use Rattle.route_plain.specs.declared.turn.Turn.TheVariants.{Pointers, Reset, Pilfer, Windows, Mute, Forget}
use Rattle.route_plain.specs.declared.turn.Said.{Said}
use Rattle.route_plain.specs.Holds.{pairs_of, began, is_pilfering}
use Rattle.route_plain.specs.State.{State}

-- a turn with these windows in its snapshot, as a step of the rules
abbrev pub step_of : Turn → List Window → Step
step_of (Pointers motion) windows = Moves motion
step_of (Reset device) windows = Resets device
step_of (Pilfer channel device) windows = Pilfers channel device
step_of Windows windows = Shows (is_named windows)
step_of (Mute channels) windows = Mutes (mask_has channels)
step_of (Forget channel) windows = Removes channel

-- the motions that a channel is sent, with its number
abbrev pub to_channel : ℕ → List Motion → List Said
to_channel c ms = map (λ m. record { channel = c; motion = m }) ms

-- what the channels from 1 up to a number are sent, each by what is sent to it, in rising channel
unfoldable pub said_up_to : (ℕ → List Motion) → ℕ → List Said
said_up_to outgoing zero = []
said_up_to outgoing (suc c) = said_up_to outgoing c ++ to_channel (suc c) (outgoing (suc c))

-- what is sent at a step: for each of the 64 channels, in rising channel, its messages
abbrev pub said_at : Scene → Step → List Said
said_at s e = said_up_to (sent_all s e) 64

-- what is left of the holds after a step that takes this
abbrev pub holds_left : Taking → List Hold → List Hold
holds_left t hs = filter (λ h. not (takes t h.window h.device h.id)) hs

-- a pair that is given at turn n: the window began with it, if it held nothing of the device before
abbrev pub hold_from : ℕ → List Hold → Pair → Hold
hold_from n hs q = record { window = q.window; device = q.device; id = q.id; since = unwrap_or (began hs q.window q.device) n }

-- the holds after a step that is turn n: those that it does not take, followed by those that it gives
abbrev pub holds_after : Scene → Step → ℕ → List Hold → List Hold
holds_after s e n hs = holds_left (taken s e) hs ++ map (hold_from n hs) (given s e)

-- a window that pilfers is a pilferer from then on
abbrev pub with_pilferer : Step → List Pilferer → List Pilferer
with_pilferer (Pilfers w d) ps = if is_pilfering ps w d then ps else ps ++ (record { window = w; device = d } ∷ [])
with_pilferer e ps = ps

-- the pilferers after a step: those that still hold something of the device
abbrev pub pilferers_after : Step → List Hold → List Pilferer → List Pilferer
pilferers_after e after ps = filter (λ p. has_any (pairs_of after) p.window p.device) (with_pilferer e ps)

-- the last places after a step: those of a motion's device are those that it lists
abbrev pub last_after : Step → List (List Pointer) → List (List Pointer)
last_after (Moves m) last = slice_set last (m.device - 1) m.pointers
last_after e last = last

-- the number of the next turn; it stands still at its type's end
abbrev pub next_turn : ℕ → ℕ
next_turn n = if nat_lt n 18446744073709551615 then n + 1 else n

-- what the router keeps after a step
abbrev pub state_after : Scene → Step → State → State
state_after s e st =
    let holds = holds_after s e st.turns st.holds in
    record {
      turns = next_turn st.turns;
      holds = holds;
      pilferers = pilferers_after e holds st.pilferers;
      last = last_after e st.last;
    }
