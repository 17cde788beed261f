-- A worked pilfer: the spy, window 1, holds the pointers 0 and 2, and window 2 holds 0, 1 and 2.
use Rattle.std.specs.Prelude.{ℕ, ◌&&◌, not, ◌≡◌, List, [], ◌∷◌, filter, refl}
use Rattle.touch_state.specs.Touches.{Touches, holds}
use Rattle.pilfer_monitor.specs.Pilfer.{pilfered, set_of}

abbrev before : Touches
before = record { device = 1; rows = record { ids = 5; since = 1 } ∷ record { ids = 7; since = 1 } ∷ []; pilferers = 0 }

-- what a window loses, and what it keeps
abbrev loses : ℕ → List ℕ
loses w = filter (λ i. holds before w i && pilfered before 1 w i) (0 ∷ 1 ∷ 2 ∷ [])

abbrev keeps : ℕ → List ℕ
keeps w = filter (λ i. holds before w i && not (pilfered before 1 w i)) (0 ∷ 1 ∷ 2 ∷ [])

the_window_loses_what_the_spy_holds : loses 2 ≡ 0 ∷ 2 ∷ []
the_window_loses_what_the_spy_holds = refl

it_keeps_the_other : keeps 2 ≡ 1 ∷ []
it_keeps_the_other = refl

the_spy_loses_nothing : loses 1 ≡ []
the_spy_loses_nothing = refl

the_spy_keeps_what_it_holds : keeps 1 ≡ 0 ∷ 2 ∷ []
the_spy_keeps_what_it_holds = refl

a_table_goes_by_channels : set_of (0 ∷ 5 ∷ []) 2 ≡ 5
a_table_goes_by_channels = refl
