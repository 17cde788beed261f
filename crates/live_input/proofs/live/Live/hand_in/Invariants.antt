use Rattle.std.proofs.Common.{◌≡◌, ℕ, ◌+◌, List, length}
use Rattle.dispatch_history.specs.Effect.{Effect}
use Rattle.live_input.specs.Answers.{SameSeats}
use Rattle.live_input.specs.Room.{HandsOver}
use Rattle.live_input.specs.Standing.{LiveIs}
use Rattle.live_input.proofs.Handing.{HandsIn}
use Rattle.live_input.proofs.live.Live.hand_in.Given as goal

-- some of what had to be handed in is
abbrev pub invariant-loop-made : goal.invariant-loop-made
invariant-loop-made l =
    record {
      hands : (ds : List ℕ) (es : List Effect) → LiveIs ds es l.initial.self → HandsIn ds l.now es l.initial.self.pending l.self l.fits;
      room : (ds : List ℕ) (es : List Effect) → LiveIs ds es l.initial.self → HandsOver l.initial.self l.self;
      steps : l.made + length l.self.pending ≡ length l.initial.self.pending;
      devices : l.self.devices ≡ l.initial.self.devices;
      seats : SameSeats l.initial.self l.self;
      named : l.self.reported ≡ l.initial.self.reported;
      clock : l.self.clock ≡ l.initial.self.clock;
    }
