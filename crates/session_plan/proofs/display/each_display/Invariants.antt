use Rattle.std.proofs.Common.{◌≡◌, ◌+◌, map, drop, length, []}
use Rattle.std.specs.List.{All}
use Rattle.toml.specs.View.{view}
use Rattle.session_plan.specs.declared.key.Place.TheVariants.{ExtraDisplay}
use Rattle.session_plan.specs.Display.{display_of}
use Rattle.session_plan.specs.Reading.{each}
use Rattle.session_plan.specs.Valid.{IsDisplay}
use Rattle.session_plan.proofs.display.each_display.Given as goal

-- the displays so far, and then those that are left, are all
abbrev pub invariant-loop-i : goal.invariant-loop-i
invariant-loop-i l = record {
  rest :
      each (λ k found d. display_of (ExtraDisplay k) d) (l.i + 1) l.displays.items (map view (drop l.i l.tables))
      ≡ each (λ k found d. display_of (ExtraDisplay k) d) 1 [] (map view l.tables);
  len : length l.displays.items ≡ l.i;
  valid : All IsDisplay l.displays.items;
}
