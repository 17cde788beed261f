use Rattle.std.proofs.Common.{ℕ, ◌≡◌, ◌==◌, ◌&&◌, nat_le}
use Rattle.bits32.specs.Set.{is_in}
use Rattle.touch_state.specs.Touches.{holds, Changes, none}
use Rattle.pilfer_monitor.specs.Pilfer.{pilfered, set_of}
use Rattle.pilfer_monitor.proofs.monitor.pilfer.Given as goal

-- the windows up to k have lost what is pilfered, and the table records it
abbrev pub invariant-loop-k : goal.invariant-loop-k
invariant-loop-k l =
    ((place : ℕ) → Changes l.fn.state l.state none (λ w i. nat_le w l.k && pilfered l.fn.state l.channel w i) place (λ w. w == l.channel))
    × ((w i : ℕ) → is_in i (set_of l.lost w) ≡ (nat_le w l.k && (holds l.fn.state w i && pilfered l.fn.state l.channel w i)))
