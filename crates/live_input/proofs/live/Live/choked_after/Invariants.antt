use Rattle.std.proofs.Common.{◌≡◌, ℕ, ◌&&◌, true, not, List}
use Rattle.dispatch_history.specs.Effect.{Effect, past_of}
use Rattle.dispatch_history.specs.History.{live as is_live}
use Rattle.window_snapshot.specs.Mask.{mask_has}
use Rattle.live_input.specs.Limit.{is_choked}
use Rattle.live_input.specs.Standing.{LiveIs}
use Rattle.live_input.proofs.live.Live.choked_after.Given as goal

-- the mask is right for the channels that are not left; those that are left are live
abbrev pub invariant-loop-rest : goal.invariant-loop-rest
invariant-loop-rest l =
    record {
      live : (ds : List ℕ) (es : List Effect) → LiveIs ds es l.self → (c : ℕ) → mask_has l.rest c ≡ true → is_live (past_of es) c ≡ true;
      mask : (ds : List ℕ) (es : List Effect) → LiveIs ds es l.self → (c : ℕ) → mask_has l.mask c ≡ (not (mask_has l.rest c) && is_choked l.most l.choked l.self.seats es c);
    }

abbrev pub decreases-loop-rest : goal.decreases-loop-rest
decreases-loop-rest l = l.rest
