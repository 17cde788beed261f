-- A seat that has the turn, and what it does with it.
use Rattle.std.specs.Prelude.{◌≡◌, ℕ, false, List, [], ◌∷◌, length, Option, Some, Result, Ok, Err}
use Rattle.std.specs.declared.alloc.AllocError.{AllocError}
use Rattle.atomic_table.specs.Table.{Me}
use Rattle.turnstile.specs.History.{Entry}
use Rattle.turnstile.specs.Views.{hit, waited, recorded, freed}
use Rattle.turnstile.specs.Told.{LegalFor, Finds, in_hand}
use Rattle.turnstile.specs.declared.machine.Placed.{Placed}
use Rattle.turnstile.specs.declared.view.View.{View}

module _ {M T C R : Type 0} (legal : T → List (Entry C R) → Type 0) (setup : M → T) (history : M → List (Entry C R)) where
  -- a seat holds this machine, and knows its setup and its legal history
  pub record HoldsMachine (me : Me (Option M) (View T C R)) (m : M) : Type 0 where
    pub hand : me.1 ≡ (0, Some m) ∷ []
    pub turn : me.0.turn ≡ Some (history m)
    pub setup_is : me.0.setup ≡ Some (setup m)
    pub live : me.0.spent ≡ false
    pub legal_then : legal (setup m) (history m)

  -- a seat holds the machine
  abbrev pub Holding : Me (Option M) (View T C R) → Type 0
  Holding me = (m : M) × HoldsMachine me m

  -- a seat took the turn: it holds the machine, with a history that it may find
  abbrev pub Taken : Me (Option M) (View T C R) → Me (Option M) (View T C R) → Type 0
  Taken me after = (m : M) × (me.0.setup ≡ Some (setup m)) × Finds legal me.0 (history m) × (after ≡ (hit (history m) me.0, (0, Some m) ∷ []))

  -- the same after some misses
  abbrev pub Waited : ℕ → Me (Option M) (View T C R) → Me (Option M) (View T C R) → Type 0
  Waited n me after = (m : M) × (me.0.setup ≡ Some (setup m)) × Finds legal me.0 (history m) × (after ≡ (hit (history m) (waited n me.0), (0, Some m) ∷ []))

module _ {M T C R : Type 0} (legal : T → List (Entry C R) → Type 0) (history : M → List (Entry C R)) where
  -- the machine was stepped, and an entry was committed unless memory ran out
  abbrev pub Served : Me (Option M) (View T C R) → C → Result (Placed R) AllocError → Me (Option M) (View T C R) → Type 0
  Served me call (Ok p) after =
      let h = in_hand history me in
      (p.place ≡ length h) × LegalFor legal me.0 ((me.0.mine.number, call, p.reply) ∷ h) × (after ≡ (freed (recorded ((me.0.mine.number, call, p.reply) ∷ h) me.0), []))
  Served me call (Err e) after = after ≡ (freed me.0, [])
