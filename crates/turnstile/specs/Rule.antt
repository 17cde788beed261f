-- The invariant between any two atomic steps: the length of the history (word 0), the lock (word 1), the slot with
-- the machine, and the views of all seats. There is one history, and every view knows a start of it.
use Rattle.std.specs.Prelude.{◌≡◌, ℕ, ◌+◌, ◌<◌, ◌==◌, nat_le, false, List, [], ◌∷◌, length, Option, Some, None, if◌then◌else◌}
use mathlib.Core.Option.{Option as Maybe, none, some}
use lib.ListN.{get_elem?}
use Rattle.atomic_table.specs.Table.{State}
use Rattle.turnstile.specs.History.{Entry, calls_by, IsStart}
use Rattle.turnstile.specs.declared.view.Record.{Record}
use Rattle.turnstile.specs.declared.view.View.{View}

-- which seat has the turn: none, or the one at this place among the views
pub data Turn : Type 0 where
  nobody : Turn
  seat : ℕ → Turn

-- f of each element, added up
abbrev pub total : {A : Type 0} → (A → ℕ) → List A → ℕ
total f [] = 0
total f (x ∷ xs) = f x + total f xs

-- 1 for each number up to the top, else 0
abbrev pub once_to : ℕ → ℕ → ℕ
once_to top k = if nat_le k top then 1 else 0

module _ {C R : Type 0} where
  -- what seat j knows through the turn: the whole history if it has the turn, otherwise nothing
  abbrev pub turn_of : Turn → ℕ → List (Entry C R) → Option (List (Entry C R))
  turn_of nobody j h = None
  turn_of (seat i) j h = if j == i then Some h else None

  -- how often a record bears the number k
  abbrev pub bears : ℕ → Record C R → ℕ
  bears k r = if r.number == k then 1 else 0

  -- A record of a history in which number 0 has handed out so many numbers: its own calls are the entries that bear
  -- its number, with their places. Only number 0 hands out numbers
  pub record Fits (h : List (Entry C R)) (made : ℕ) (r : Record C R) : Type 0 where
    pub own : r.own ≡ calls_by r.number h
    pub zero_made : r.number ≡ 0 → r.made ≡ made
    pub others_made : (r.number ≡ 0 → ⊥) → r.made ≡ 0

  -- each record of a list fits the history
  abbrev pub EachFits : List (Entry C R) → ℕ → List (Record C R) → Type 0
  EachFits h made [] = Unit {0}
  EachFits h made (r ∷ rs) = Fits h made r × EachFits h made rs

module _ {T C R : Type 0} where
  -- how often the records of a view bear the number k; those of a spent view do not count
  abbrev pub borne : ℕ → View T C R → ℕ
  borne k v = if v.spent then 0 else bears k v.mine + total (bears k) v.joined

  -- 1 if number 0 has drawn a number that no seat has yet
  abbrev pub drawn_of : View T C R → ℕ
  drawn_of v = if v.drawn then 1 else 0

  -- The view of a seat that is not spent: it has the setup of the machine, has seen a start of the history, and its
  -- records are those of the history. A number that it has drawn counts as handed out, but not yet among the `top`
  -- numbers that have records
  pub record IsLive (setup : T) (h : List (Entry C R)) (top : ℕ) (v : View T C R) : Type 0 where
    pub setup_is : v.setup ≡ Some setup
    pub start : IsStart v.known h
    pub seen : v.seen ≡ length v.known
    pub mine : Fits h (top + drawn_of v) v.mine
    pub joined : EachFits h top v.joined

  -- the view of seat j: of a spent one, only that it does not have the turn is known
  pub record FitsAt (setup : T) (h : List (Entry C R)) (turn : Turn) (top j : ℕ) (v : View T C R) : Type 0 where
    pub turn_is : v.turn ≡ turn_of turn j h
    pub live : v.spent ≡ false → IsLive setup h top v

module _ {M T C R : Type 0} (setup : M → T) (history : M → List (Entry C R)) where
  -- The lock is 0 while no seat has the turn, and then the machine is in its slot, with the setup and the history. It
  -- is 1 while one seat has the turn, and then the slot is empty
  abbrev pub Phased : T → List (Entry C R) → ℕ → List (Maybe (Option M)) → ℕ → Turn → Type 0
  Phased s h lock homes seats nobody = (lock ≡ 0) × ((m : M) × (homes ≡ some (Some m) ∷ []) × (setup m ≡ s) × (history m ≡ h))
  Phased s h lock homes seats (seat i) = (lock ≡ 1) × (homes ≡ none ∷ []) × (i < seats)

module _ {M T C R : Type 0} (legal : T → List (Entry C R) → Type 0) (setup : M → T) (history : M → List (Entry C R)) where
  -- Word 0 is the length of the history, which is legal. The lock, the slot and each view fit it. Each number up to
  -- `top` belongs to exactly one record, and a number above it to no record and no entry
  pub record Holds (s : State (Option M) (View T C R)) : Type 0 where
    pub setup_of : T
    pub log : List (Entry C R)
    pub lock : ℕ
    pub turn : Turn
    pub top : ℕ
    pub words : s.words ≡ length log ∷ lock ∷ []
    pub legal_log : legal setup_of log
    pub phase : Phased setup history setup_of log lock s.homes (length s.views) turn
    pub fits : (j : ℕ) (v : View T C R) → get_elem? s.views j ≡ some v → FitsAt setup_of log turn top j v
    pub numbered : (k : ℕ) → total (borne k) s.views ≡ once_to top k
    pub unborn : (k : ℕ) → top < k → calls_by k log ≡ []
