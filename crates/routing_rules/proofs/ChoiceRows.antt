-- The table of the choice, row by row. Window 1 is on the left and window 2 on the right; below 2000 there is none.
use Rattle.std.specs.Prelude.{ℕ, ◌≡◌, List, [], ◌∷◌, Some, None, refl}
use Rattle.routing_rules.specs.declared.choice.Choice.{Choice}
use Rattle.routing_rules.specs.declared.choice.Row.TheVariants.{First, Unsplit, Nothing, Whole, Split}
use Rattle.routing_rules.specs.Pairs.{Pair}
use Rattle.routing_rules.specs.Scene.{Scene}
use Rattle.routing_rules.specs.Choice.{choice_at}
use Rattle.routing_rules.proofs.Worked.{window, at, pair, scene}

-- the choice for a pointer at a place, with the flags of both windows, where some pairs are held
abbrev choice : (left right : ℕ) → List Pair → (x y : ℕ) → Choice
choice left right qs x y = choice_at (scene (window 1 left 0 0 540 2000 ∷ window 2 right 540 0 1080 2000 ∷ []) qs []) 1 (at 1 x y).at

where_nothing_is_held_the_touched_window_is_chosen : choice 0 0 [] 700 400 ≡ record { window = Some 2; row = First }
where_nothing_is_held_the_touched_window_is_chosen = refl

or_none : choice 0 0 [] 700 2200 ≡ record { window = None; row = First }
or_none = refl

-- 32 is PREVENT_SPLITTING
the_holder_prevents_splitting : choice 32 32 (pair 1 0 ∷ []) 700 400 ≡ record { window = Some 1; row = Unsplit }
the_holder_prevents_splitting = refl

also_where_nothing_is_touched : choice 32 0 (pair 1 0 ∷ []) 700 2200 ≡ record { window = Some 1; row = Unsplit }
also_where_nothing_is_touched = refl

nothing_is_touched : choice 0 0 (pair 1 0 ∷ pair 2 3 ∷ []) 700 2200 ≡ record { window = Some 1; row = Nothing }
nothing_is_touched = refl

the_touched_window_prevents_splitting : choice 0 32 (pair 1 0 ∷ []) 700 400 ≡ record { window = Some 1; row = Whole }
the_touched_window_prevents_splitting = refl

the_finger_goes_to_its_own_window : choice 0 0 (pair 1 0 ∷ []) 700 400 ≡ record { window = Some 2; row = Split }
the_finger_goes_to_its_own_window = refl

-- 16 is SPY: a spy is no holder
a_spy_that_holds_something_is_no_holder : choice 16 0 (pair 1 0 ∷ []) 700 400 ≡ record { window = Some 2; row = First }
a_spy_that_holds_something_is_no_holder = refl
