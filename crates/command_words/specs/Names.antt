-- The names of the commands, and the options of each.
use Rattle.std.specs.Prelude.{codes, ℕ, Bool, false, ◌||◌, if◌then◌else◌, List, [], ◌∷◌, bytes_eq, Option, Some, None}
use Rattle.std.specs.List.{list_any}
use Rattle.help_text.specs.declared.page.Name.{Name}
use Rattle.help_text.specs.declared.page.Name.TheVariants.{Replay, Race, Check, Verify, Work, Batch, Hover, Emit, Inspect, Why, Judge, Compare}
use Rattle.help_text.specs.declared.page.Page.{Page}
use Rattle.help_text.specs.declared.page.Page.TheVariants.{Help, Version}

-- the command with a name
unfoldable pub named : List ℕ → Option Name
named word =
    if bytes_eq word (codes "replay") then Some Replay
    else if bytes_eq word (codes "race") then Some Race
    else if bytes_eq word (codes "check") then Some Check
    else if bytes_eq word (codes "verify") then Some Verify
    else if bytes_eq word (codes "work") then Some Work
    else if bytes_eq word (codes "batch") then Some Batch
    else if bytes_eq word (codes "hover") then Some Hover
    else if bytes_eq word (codes "emit") then Some Emit
    else if bytes_eq word (codes "inspect") then Some Inspect
    else if bytes_eq word (codes "why") then Some Why
    else if bytes_eq word (codes "judge") then Some Judge
    else if bytes_eq word (codes "compare") then Some Compare
    else None

-- the options that a command needs, in the order of its form
abbrev pub needed_of : Name → List (List ℕ)
needed_of Replay = codes "--session" ∷ codes "--events" ∷ []
needed_of Race = codes "--session" ∷ codes "--events" ∷ []
needed_of Check = codes "--session" ∷ codes "--events" ∷ codes "--order" ∷ []
needed_of Verify = codes "--stream" ∷ []
needed_of Work = codes "--seed" ∷ codes "--packets" ∷ []
needed_of Batch = codes "--stream" ∷ codes "--frame" ∷ []
needed_of Hover = codes "--session" ∷ codes "--events" ∷ codes "--mouse" ∷ []
needed_of Emit = codes "--stream" ∷ codes "--channel" ∷ codes "--device" ∷ []
needed_of Inspect = codes "--session" ∷ codes "--events" ∷ []
needed_of Why = codes "--session" ∷ codes "--events" ∷ []
needed_of Judge = codes "--stream" ∷ []
needed_of Compare = codes "--want" ∷ codes "--got" ∷ codes "--us" ∷ codes "--pixels" ∷ []

-- the options that it takes besides
abbrev pub extra_of : Name → List (List ℕ)
extra_of Compare = codes "--want-channel" ∷ codes "--got-channel" ∷ codes "--moves" ∷ []
extra_of _ = []

-- an option with a name is one of some names
abbrev pub is_among : List ℕ → List (List ℕ) → Bool
is_among option names = list_any (λ name. bytes_eq option name) names

-- an option with a name is the command's own
abbrev pub is_own : Name → List ℕ → Bool
is_own name option = is_among option (needed_of name) || is_among option (extra_of name)

-- the page that a word asks for which stands alone
unfoldable pub page_of : List ℕ → Option Page
page_of word =
    if bytes_eq word (codes "--help") || bytes_eq word (codes "-h") || bytes_eq word (codes "help") then Some Help
    else if bytes_eq word (codes "--version") then Some Version
    else None

-- the words behind a command ask for its help: one of two words, with nothing behind it
abbrev pub asks_help : List (List ℕ) → Bool
asks_help (word ∷ []) = bytes_eq word (codes "--help") || bytes_eq word (codes "-h")
asks_help _ = false
