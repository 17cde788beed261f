-- What contracts see of a seat and of a turnstile.
use Rattle.std.specs.Prelude.{◌≡◌}
use Rattle.turnstile.specs.declared.machine.Machine.{Ghosts}
use Rattle.turnstile.specs.declared.view.View.{View}
use Rattle.turnstile.specs.declared.turnstile.Turnstile.{Turnstile}
use Rattle.turnstile.specs.declared.turnstile.Seat.{Seat}

module _ {M T C R : Type 0} {G : Ghosts M T C R} where
  -- what a seat knows
  abbrev pub view : Seat M T C R G → View T C R
  view s = s.token.me.0

  -- a seat belongs to a turnstile
  abbrev pub IsOf : Turnstile M T C R → Seat M T C R G → Type 0
  IsOf t s = s.token.table_id ≡ t.table.shared.table_id
