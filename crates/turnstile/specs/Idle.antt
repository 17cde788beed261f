-- A seat between two calls.
use Rattle.std.specs.Prelude.{◌≡◌, false, [], None}
use Rattle.atomic_table.specs.Table.{Me}
use Rattle.turnstile.specs.declared.view.View.{View}

-- it holds no slot, does not have the turn, has handed out what it drew, and was not joined into another
abbrev pub IsIdle : {S T C R : Type 0} → Me S (View T C R) → Type 0
IsIdle me = (me.1 ≡ []) × (me.0.turn ≡ None) × (me.0.drawn ≡ false) × (me.0.spent ≡ false)
