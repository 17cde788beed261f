use Rattle.std.proofs.Common.{◌≡◌, ◌++◌, ◌+◌, List, drop, length, map}
use Rattle.cursor_core.specs.declared.call.CursorCall.{CursorCall as Call}
use Rattle.cursor_core.specs.Calls.{Screen}
use Rattle.cursor_core.specs.Cursor.{CursorStandsFor}
use Rattle.cursor_core.specs.Told.{stream}
use Rattle.session_plan.specs.View.{channel_view}
use Rattle.hover_text.specs.Text.{sections_from}
use Rattle.hover_text.proofs.text.add_sections.Given as goal

-- the text so far, and then the sections that are left, are all
abbrev pub invariant-loop-place : goal.invariant-loop-place
invariant-loop-place l =
    (d : Screen) (calls : List Call) → CursorStandsFor d calls l.cursor → d.channels ≡ length l.channels
    → l.text.items ++ sections_from (l.place + 1) (map channel_view (drop l.place l.channels)) (stream d calls)
    ≡ l.initial.text.items ++ sections_from 1 (map channel_view l.channels) (stream d calls)
