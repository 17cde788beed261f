use Rattle.std.proofs.Common.{◌≡◌, ◌+◌, map, drop, length, [], None}
use Rattle.toml.specs.View.{view}
use Rattle.window_snapshot.specs.WindowList.{first_twice}
use Rattle.session_plan.specs.declared.key.Place.TheVariants.{Window}
use Rattle.session_plan.specs.Reading.{each}
use Rattle.session_plan.specs.View.{channel_view}
use Rattle.session_plan.specs.Windows.{window_of}
use Rattle.session_plan.proofs.window.each_window.Given as goal

-- the windows so far, and then those that are left, are all
abbrev pub invariant-loop-i : goal.invariant-loop-i
invariant-loop-i l = record {
  rest :
      each (λ j found d. window_of (map channel_view l.channels) l.displays (Window l.k j) found d) (l.i + 1) l.windows.items (map view (drop l.i l.tables))
      ≡ each (λ j found d. window_of (map channel_view l.channels) l.displays (Window l.k j) found d) 1 [] (map view l.tables);
  len : length l.windows.items ≡ l.i;
  distinct : first_twice l.windows.items ≡ None;
}
