-- A history of the dispatcher: its calls with their replies, newest first. The tail is what came before the last step.
use Rattle.std.specs.Prelude.{ℕ, suc, max, Bool, false, not, ◌==◌, ◌&&◌, ◌||◌, List, [], ◌∷◌, Option, None, if◌then◌else◌}
use Rattle.input_types.specs.declared.axis.Pixel.{Pixel}
use Rattle.window_snapshot.specs.declared.window.Window.{Window}
use Rattle.window_snapshot.specs.Named.{origin_of, is_shown_on}
use Rattle.key_repeat.specs.declared.delays.Repeats.{Repeats}
use Rattle.dispatch_calls.specs.declared.call.Call.{Call}
use Rattle.dispatch_calls.specs.declared.call.Call.TheVariants.{Open, Windows, Receive, Finish, Remove}
pub use Rattle.dispatch_calls.specs.Moments.{moment_of}
use Rattle.dispatch_calls.specs.declared.reply.Reply.{Reply}
use Rattle.dispatch_calls.specs.declared.terms.Terms.{Terms}
use Rattle.dispatch_calls.specs.declared.reply.Reply.TheVariants.{Opened, Done, Got}
use Rattle.window_snapshot.specs.Origins.{corner, or_origin}

-- a history
abbrev pub History : Type 0
History = List (Call × Reply)

-- the clock: the latest moment of any call, refused ones included
abbrev pub clock : History → ℕ
clock [] = 0
clock (e ∷ h) = max (moment_of e.0) (clock h)

-- a step that opens a channel makes one more
abbrev pub opened_after : Call → Reply → ℕ → ℕ
opened_after (Open terms) (Opened k) before = suc before
opened_after call reply before = before

-- how many channels were opened; their numbers run from 1 to this
abbrev pub opened : History → ℕ
opened [] = 0
opened (e ∷ h) = opened_after e.0 e.1 (opened h)

-- how a step changes what is live: it opens or removes a channel, and leaves the others as before
abbrev pub live_after : Call → Reply → ℕ → Bool → Bool
live_after (Open terms) (Opened k) c before = c == k || before
live_after (Remove now k) Done c before = not (c == k) && before
live_after call reply c before = before

-- a channel is live from its opening to its removal
abbrev pub live : History → ℕ → Bool
live [] c = false
live (e ∷ h) c = live_after e.0 e.1 c (live h c)

-- what is known of a channel that was never opened
abbrev pub no_terms : Terms
no_terms = record { limit = 0; repeats = None }

-- the call that opens a channel says on which terms
abbrev pub terms_after : Call → Reply → ℕ → Terms → Terms
terms_after (Open terms) (Opened k) c before = if c == k then terms else before
terms_after call reply c before = before

-- the terms on which a channel was opened
abbrev pub terms_of : History → ℕ → Terms
terms_of [] c = no_terms
terms_of (e ∷ h) c = terms_after e.0 e.1 c (terms_of h c)

-- how long the owner of a channel may leave a message unfinished
abbrev pub limit_of : History → ℕ → ℕ
limit_of h c = (terms_of h c).limit

-- when a key that the window of a channel holds is repeated, if at all
abbrev pub repeats_of : History → ℕ → Option Repeats
repeats_of h c = (terms_of h c).repeats

-- a new snapshot replaces the last one
abbrev pub windows_after : Call → List Window → List Window
windows_after (Windows now snapshot) before = snapshot
windows_after call before = before

-- the windows of the last snapshot, front to back; none at first
abbrev pub snapshot : History → List Window
snapshot [] = []
snapshot (e ∷ h) = windows_after e.0 (snapshot h)

-- a channel is on display y if it is live, and the snapshot shows it there
abbrev pub is_on : History → ℕ → ℕ → Bool
is_on h y c = live h c && is_shown_on (snapshot h) y c

-- a snapshot that contains a window gives its origin
abbrev pub origin_after : Call → ℕ → Pixel → Pixel
origin_after (Windows now snapshot) w before = or_origin (origin_of snapshot w) before
origin_after call w before = before

-- the origin of a window: the corner of its frame in the last snapshot that contained it
abbrev pub origin : History → ℕ → Pixel
origin [] w = corner
origin (e ∷ h) w = origin_after e.0 w (origin h w)

-- a message that the owner of a channel received counts as one more
abbrev pub received_after : Call → Reply → ℕ → ℕ → ℕ
received_after (Receive k) (Got m) c before = if c == k then suc before else before
received_after call reply c before = before

-- how many messages of a channel its owner received
abbrev pub received : History → ℕ → ℕ
received [] c = 0
received (e ∷ h) c = received_after e.0 e.1 c (received h c)

-- a successful finish adds the number of its message
abbrev pub finished_after : Call → Reply → ℕ → List ℕ → List ℕ
finished_after (Finish now k seq) Done c before = if c == k then seq ∷ before else before
finished_after call reply c before = before

-- the numbers of the messages of a channel that its owner finished, newest first
abbrev pub finished : History → ℕ → List ℕ
finished [] c = []
finished (e ∷ h) c = finished_after e.0 e.1 c (finished h c)
