-- Where nothing is pending and nothing waits, there is nothing to do.
use Rattle.std.proofs.Common.{◌≡◌, ℕ, ◌+◌, false, cond, List, [], length, Some, None, Ok, refl, sym, ap, subst}
use Rattle.input_types.specs.declared.message.Args.{Args}
use Rattle.dispatch_calls.specs.declared.call.Call.TheVariants.{Pump}
use Rattle.dispatch_history.specs.Effect.{Effect}
use Rattle.dispatcher.specs.Access.{is_waiting}
use Rattle.live_input.specs.Giving.{Delivers}
use Rattle.live_input.specs.Room.{HasRoom}
use Rattle.live_input.specs.Standing.{LiveIs}
use Rattle.live_input.specs.State.{LiveState}
use Rattle.live_input.proofs.Roomy.{less_room}

-- no args are delivered
pub delivers_none : (ds : List ℕ) (now : ℕ) (es : List Effect) (s : LiveState) → LiveIs ds es s → s.pending ≡ [] → is_waiting es ≡ false
    → Delivers ds now es s.pending (Ok tt) s
delivers_none ds now es s h none idle =
    subst (λ (args : List Args). Delivers ds now es args (Ok tt) s) (sym none)
    ((
      refl,
      record {
        none = none;
        settles = record {
          reached = record { calls = []; follows = tt; is = h };
          done = ap (λ b. cond b (Some (Pump now)) None) idle;
        };
      },
    ))

-- and no room is taken
pub room_none : (n : ℕ) (s : LiveState) → s.pending ≡ [] → HasRoom (length s.pending + n) s → HasRoom n s
room_none n s none room = less_room (length s.pending) n s room
