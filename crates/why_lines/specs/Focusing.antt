-- Which windows have the focus.
use Rattle.std.specs.Prelude.{◌≡◌}
use Rattle.dispatch_history.specs.History.{History}
use Rattle.dispatch_history.specs.Focus.{focus, key_target}
use Rattle.why_lines.specs.declared.focuses.Focuses.{Focuses}

-- they are the windows that have the focus of displays 0 to 3 after a history, and the one that keys go to
pub record AreFocuses (h : History) (f : Focuses) : Type 0 where
  pub first_is : f.first ≡ focus h 0
  pub second_is : f.second ≡ focus h 1
  pub third_is : f.third ≡ focus h 2
  pub fourth_is : f.fourth ≡ focus h 3
  pub target_is : f.target ≡ key_target h
