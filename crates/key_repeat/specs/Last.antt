-- The last key message as the code keeps it, and as contracts see it.
use Rattle.std.specs.Prelude.{◌≡◌, Option, Some, None, refl}
use Rattle.key_repeat.specs.declared.repeat.Sent.{Sent as Kept}
use Rattle.key_repeat.specs.Due.{Sent}

-- the last key message as a contract sees it
abbrev pub seen : Option Kept → Option Sent
seen None = None
seen (Some s) = Some (record { channel = s.channel; key = s.key; clock = s.clock })

-- the last key message as the code keeps it
abbrev pub kept : Option Sent → Option Kept
kept None = None
kept (Some s) = Some (record { channel = s.channel; key = s.key; clock = s.clock })

-- What a contract sees determines what is kept.
pub kept_seen : (s : Option Kept) → kept (seen s) ≡ s
kept_seen None = refl
kept_seen (Some s) = refl
