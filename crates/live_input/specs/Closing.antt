-- How the history grows when a client is closed.
use Rattle.std.specs.Prelude.{ℕ, false, not, ◌==◌, List, filter, None, if◌then◌else◌}
use Rattle.window_snapshot.specs.declared.window.Window.{Window}
use Rattle.window_snapshot.specs.Named.{is_named}
use Rattle.dispatch_calls.specs.declared.call.Call.TheVariants.{Windows, FocusOn}
use Rattle.focus_resolver.specs.Resolver.{is_at}
use Rattle.dispatch_history.specs.Effect.{Effect, past_of}
use Rattle.dispatch_history.specs.Focus.{requested}
use Rattle.dispatch_history.specs.History.{snapshot}
use Rattle.dispatch_history.specs.Legal.{answered}

-- the windows without that of a channel
abbrev pub without : ℕ → List Window → List Window
without c ws = filter (λ v. not (v.channel == c)) ws

-- If a channel has a window, the windows are shown without it, so its pointers and keys are cancelled, and it loses
-- the focus.
abbrev pub hidden : List ℕ → (now channel : ℕ) → List Effect → List Effect
hidden displays now c es =
    let shown = snapshot (past_of es) in if is_named shown c then answered displays (Windows now (without c shown)) es else es

-- If the focus of a display was requested for a channel, it is requested for none. Keys go where they went.
abbrev pub forgotten_on : List ℕ → (now channel display : ℕ) → List Effect → List Effect
forgotten_on displays now c y es = if is_at (requested (past_of es) y) c then answered displays (FocusOn now y None false) es else es

-- that for all four displays
abbrev pub forgotten : List ℕ → (now channel : ℕ) → List Effect → List Effect
forgotten displays now c es =
    forgotten_on displays now c 3 (forgotten_on displays now c 2 (forgotten_on displays now c 1 (forgotten_on displays now c 0 es)))
