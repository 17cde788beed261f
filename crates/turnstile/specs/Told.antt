-- What a seat learns at each kind of step.
use Rattle.std.specs.Prelude.{◌≡◌, ◌≢◌, ℕ, ◌<◌, ◌≤◌, List, [], ◌∷◌, length, Option, Some}
use Rattle.atomic_table.specs.Table.{Me, rest}
use Rattle.turnstile.specs.History.{Entry, calls_by, IsStart}
use Rattle.turnstile.specs.Views.{hit, missed, recorded, freed, looked, drew}
use Rattle.turnstile.specs.declared.view.Record.{Record}
use Rattle.turnstile.specs.declared.view.View.{View}

module _ {C R : Type 0} where
  -- A record's own calls are the entries that bear its number, with their places. If it is that of number 0, no entry
  -- bears a number above its `made`
  pub record Owns (h : List (Entry C R)) (r : Record C R) : Type 0 where
    pub own : r.own ≡ calls_by r.number h
    pub above : r.number ≡ 0 → (k : ℕ) → r.made < k → calls_by k h ≡ []

  -- each record of a list owns its calls
  abbrev pub EachOwns : List (Entry C R) → List (Record C R) → Type 0
  EachOwns h [] = Unit {0}
  EachOwns h (r ∷ rs) = Owns h r × EachOwns h rs

module _ {T C R : Type 0} (legal : T → List (Entry C R) → Type 0) where
  -- a history is legal for the setup of a view
  abbrev pub LegalFor : View T C R → List (Entry C R) → Type 0
  LegalFor v h = (s : T) × (v.setup ≡ Some s) × legal s h

  -- The history that a seat finds is legal and begins with everything that the seat had seen. It contains exactly the
  -- own calls of the seat's number, and of each number that was joined into it
  pub record Finds (v : View T C R) (h : List (Entry C R)) : Type 0 where
    pub legal_then : LegalFor v h
    pub start : IsStart v.known h
    pub seen : v.seen ≤ length h
    pub own : EachOwns h (v.mine ∷ v.joined)

  -- a look returns the length of the history
  abbrev pub Looks : {M : Type 0} → Me (Option M) (View T C R) → ℕ → Me (Option M) (View T C R) → Type 0
  Looks me n after = (h : List (Entry C R)) × Finds me.0 h × (n ≡ length h) × (after ≡ (looked h me.0, me.1))

  module _ {M : Type 0} (setup : M → T) (history : M → List (Entry C R)) where
    -- A take that finds the lock free takes the slot with the machine, whose history the seat then knows. Any other
    -- take is a miss
    abbrev pub Takes : Me (Option M) (View T C R) → ℕ → Me (Option M) (View T C R) → Type 0
    Takes me n after =
        (n ≡ 0 → (m : M) × (me.0.setup ≡ Some (setup m)) × Finds me.0 (history m) × (after ≡ (hit (history m) me.0, (0, Some m) ∷ me.1)))
        × (n ≢ 0 → after ≡ (missed me.0, me.1))

module _ {M T C R : Type 0} where
  -- the history of the machine that a seat holds
  abbrev pub in_hand : (M → List (Entry C R)) → Me (Option M) (View T C R) → List (Entry C R)
  in_hand history (v, (k, Some m) ∷ xs) = history m
  in_hand history (v, _) = []

  -- a commit records the newest entry of the machine that the seat holds
  abbrev pub Commits : (M → List (Entry C R)) → Me (Option M) (View T C R) → Me (Option M) (View T C R) → Type 0
  Commits history me after = after ≡ (recorded (in_hand history me) me.0, me.1)

  -- a free puts the slot back
  abbrev pub Frees : Me (Option M) (View T C R) → Me (Option M) (View T C R) → Type 0
  Frees me after = after ≡ (freed me.0, rest me.1)

  -- a draw raises `made`
  abbrev pub Draws : Me (Option M) (View T C R) → Me (Option M) (View T C R) → Type 0
  Draws me after = after ≡ (drew me.0, me.1)
