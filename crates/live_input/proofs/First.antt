-- A service before its first call.
use Rattle.std.proofs.Common.{◌≡◌, ℕ, ◌-◌, ◌≤◌, true, List, [], length, replicate, slice_index_or, None, sym, ap, ◌∙◌, arith}
use Rattle.std.proofs.lemmas.Bool.{true≢false}
use Rattle.dispatcher.specs.Access.{gone, anrs_released}
use Rattle.dispatcher.specs.Dispatching.{StandsFor}
use Rattle.window_snapshot.specs.Mask.{mask_has}
use Rattle.window_snapshot.proofs.Masks.{mask_has-zero}
use Rattle.live_input.specs.Seats.{is_held, seat_of, vacant}
use Rattle.live_input.specs.Standing.{LiveIs}
use Rattle.live_input.specs.State.{LiveState}
use Rattle.live_input.specs.Steps.{no_step}
use Rattle.live_input.proofs.Noted.{same_at, steps_first}

pub live_first : (ds : List ℕ) (s : LiveState) → StandsFor [] s.dispatcher → s.dispatcher.displays ≡ ds → s.windows ≡ []
    → s.requested ≡ replicate 4 None → s.asked ≡ 0 → s.seats ≡ replicate 64 vacant
    → ((c : ℕ) → 1 ≤ c → gone s.dispatcher c ≡ 0) → anrs_released s.dispatcher ≡ 0 → s.reported ≡ 0
    → s.steps.made ≡ 0 → s.steps.channels ≡ replicate 64 no_step → LiveIs ds [] s
live_first ds s stands displays windows requested asked seats gone anrs named made steps =
    record {
      stands = stands;
      displays_are = displays;
      windows_are = windows;
      requests_are =
          record {
            four = ap length requested;
            channels_are = λ y low. ap (λ rs. slice_index_or rs y None) requested ∙ same_at None 4 y;
            display_is = asked;
            within = omega (arith, asked);
          };
      seats_are =
          record {
            all = ap length seats;
            lives = λ c low high. absurd (omega (arith, low, high));
            held = λ c low high is. absurd (none c is);
          };
      tenants_are =
          record {
            shown = λ c few named. absurd (true≢false (sym named));
            asked = λ y low. tt;
            left = λ c low high is. absurd (omega (arith, low, high));
            begun = λ c held. absurd (none c held.2);
          };
      reported_are = λ c is. absurd (true≢false (sym is ∙ ap (λ n. mask_has n c) named ∙ mask_has-zero c));
      release = record { messages_are = gone; anrs_are = anrs };
      steps_are = steps_first s.steps made steps;
    }
  where
    none : (c : ℕ) → is_held (seat_of s.seats c) ≡ true → ⊥
    none c is = true≢false (sym is ∙ ap (λ ss. is_held (seat_of ss c)) seats ∙ ap is_held (same_at vacant 64 (c - 1)))
