-- A touch reaches the windows that are shown on its display, since their channels are live, and the walls there.
use Rattle.std.proofs.Common.{◌≡◌, ℕ, ◌==◌, ◌&&◌, ◌||◌, Bool, true, false, not, List, [], ◌∷◌, Some, None, refl, sym, ap, ◌∙◌, inl, inr, arith}
use Rattle.std.specs.Prelude.{nat_lt, nat_le, pos}
use Rattle.std.proofs.Math.Path.{fun_ext}
use Rattle.std.proofs.lemmas.Bool.{and_parts, and_from, cases_Bool, leb-true, le-leb, lt-ltb, ne_eqb, true≢false}
use Rattle.input_types.specs.declared.axis.Pixel.{Pixel}
use Rattle.window_snapshot.specs.declared.window.Window.{Window}
use Rattle.window_snapshot.specs.Hits.{touched}
use Rattle.window_snapshot.specs.Mask.{is_channel, mask_has}
use Rattle.window_snapshot.specs.Named.{is_named, is_shown_on}
use Rattle.window_snapshot.specs.Walls.{reaches, wall_on}
use Rattle.routing_rules.specs.Choice.{choose, earliest, is_alone, is_holder}
use Rattle.routing_rules.specs.Scene.{which}
use Rattle.window_snapshot.specs.Window.{prevents_splitting}
use Rattle.dispatch_calls.specs.declared.call.Call.TheVariants.{Open, Windows}
use Rattle.dispatch_history.specs.Effect.{Effect, past_of}
use Rattle.dispatch_history.specs.History.{live, snapshot}
use Rattle.dispatch_history.specs.Legal.{run}
use Rattle.dispatch_history.specs.Step.{scene}
use Rattle.dispatch_history.proofs.Worked.{usual, on, one_display, window}
use Rattle.dispatcher.proofs.DispatchTables.Ables.{live_number}
use Rattle.live_input.specs.declared.client.Seat.{Seat}
use Rattle.live_input.specs.Options.{no_options}
use Rattle.live_input.specs.Seats.{taken_by}
use Rattle.live_input.specs.Standing.{LiveIs}
use Rattle.live_input.specs.State.{LiveState}
use Rattle.live_input.specs.WindowAt.{reach_on, touched_on, window_at}
use Rattle.live_input.specs.WindowAtLaws.{ChosenLaw, TouchedLaw}
use Rattle.live_input.proofs.Outgoing.{live_lawful}
use Rattle.live_input.proofs.Unshown.{named_filter}

-- what is shown on a display is reached if it is a channel's, which is live then; no wall is a channel
by_parts : (is shown lives wall : Bool) → (is ≡ true → shown ≡ true → lives ≡ true) → (lives ≡ true → is ≡ true) → (is ≡ true → wall ≡ false)
    → ((is && shown) || wall) ≡ ((lives && shown) || (not lives && wall))
by_parts true true true wall a b c = refl
by_parts true true false wall a b c = absurd (true≢false (sym (a refl refl)))
by_parts true false true wall a b c = c refl
by_parts true false false wall a b c = refl
by_parts false shown true wall a b c = absurd (true≢false (sym (b refl)))
by_parts false shown false wall a b c = refl

no_wall : (y c : ℕ) → is_channel c ≡ true → (c == wall_on y) ≡ false
no_wall y c is =
    let range = and_parts (nat_lt 0 c) (nat_le c 64) is in
    let high = leb-true c 64 range.1 in
    ne_eqb c (wall_on y) (λ e. omega (arith, e, high))

module _ (ds : List ℕ) (es : List Effect) (s : LiveState) (h : LiveIs ds es s) where
  shown_live : (y c : ℕ) → is_channel c ≡ true → is_shown_on (snapshot (past_of es)) y c ≡ true → live (past_of es) c ≡ true
  shown_live y c is shown =
      let ws = snapshot (past_of es) in
      let range = and_parts (nat_lt 0 c) (nat_le c 64) is in
      let named : is_named ws c ≡ true =
      elim (cases_Bool (is_named ws c)) [
        | inl e ↦ e
        | inr n ↦ absurd (true≢false (sym shown ∙ named_filter (λ w. w.display == y) ws c n))
      ] in
      let held = h.tenants_are.shown c (leb-true c 64 range.1) named in
      h.seats_are.lives c held.0 (h.seats_are.held c held.0 held.1 held.2)

  live_channel : (c : ℕ) → live (past_of es) c ≡ true → is_channel c ≡ true
  live_channel c e =
      let x = live_number ds es c (live_lawful ds es s h) e in
      let low = x.0 in
      and_from (nat_lt 0 c) (nat_le c 64) (lt-ltb 0 c (omega (arith, low))) (le-leb c 64 x.2)

  -- the windows that the mask of those on a display and its walls make up
  pub reach_is : (y mask : ℕ) → ((c : ℕ) → mask_has mask c ≡ (is_channel c && is_shown_on s.windows y c))
      → reaches (record { channels = mask; display = y }) ≡ reach_on es y
  reach_is y mask has =
      fun_ext (λ c.
      let shown = is_shown_on (snapshot (past_of es)) y c in
      ap (λ b. b || c == wall_on y) (has c ∙ ap (λ ws. is_channel c && is_shown_on ws y c) h.windows_are)
      ∙ by_parts (is_channel c) shown (live (past_of es) c) (c == wall_on y) (shown_live y c) (live_channel c) (no_wall y c))

  pub touched_is : (y mask : ℕ) (at : Pixel) → ((c : ℕ) → mask_has mask c ≡ (is_channel c && is_shown_on s.windows y c))
      → touched s.windows (reaches (record { channels = mask; display = y })) at.x at.y ≡ touched_on es y at
  touched_is y mask at has =
      ap (λ (f : ℕ → Bool). touched s.windows f at.x at.y) (reach_is y mask has)
      ∙ ap (λ ws. touched ws (reach_on es y) at.x at.y) h.windows_are

pub touched_law : TouchedLaw
touched_law ds es d at = refl

pub chosen_law : ChosenLaw
chosen_law ds es d at none =
    let s = scene ds es in
    let t = touched s.windows (s.reach d) at.x at.y in
    let whole = earliest s d (which s (λ v. is_holder s d v && prevents_splitting v)) in
    ap (λ ws. (choose (earliest s d ws) whole t (is_alone s d t)).window) none

-- Two windows on display 0, the second one behind a wall at its right half, and one on display 1.
abbrev pixel : ℕ → ℕ → Pixel
pixel x y = record { x = pos x; y = pos y }

abbrev shown : List Window
shown = window 65 0 540 0 1080 2400 ∷ window 1 0 0 0 540 1200 ∷ window 2 0 0 0 1080 2400 ∷ on 1 (window 3 0 0 0 100 100) ∷ []

abbrev three : List Effect
three = run one_display (Windows 0 shown ∷ Open usual ∷ Open usual ∷ Open usual ∷ [])

abbrev seated : List Seat
seated = taken_by 1 0 no_options ∷ taken_by 2 0 no_options ∷ taken_by 7 0 no_options ∷ []

the_front_one : window_at seated three 0 (pixel 100 100) ≡ Some (record { channel = 1; generation = 1 })
the_front_one = refl

the_one_behind_it : window_at seated three 0 (pixel 100 1200) ≡ Some (record { channel = 2; generation = 2 })
the_one_behind_it = refl

nobody_at_a_wall : window_at seated three 0 (pixel 540 100) ≡ None
nobody_at_a_wall = refl

the_wall_is_touched : touched_on three 0 (pixel 540 100) ≡ Some 65
the_wall_is_touched = refl

the_other_display : window_at seated three 1 (pixel 99 99) ≡ Some (record { channel = 3; generation = 7 })
the_other_display = refl

no_window_there : window_at seated three 1 (pixel 100 100) ≡ None
no_window_there = refl
