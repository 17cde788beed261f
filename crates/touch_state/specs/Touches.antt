-- What 64 windows hold of the pointers of one device.
use Rattle.std.specs.Prelude.{ℕ, Bool, true, false, not, ◌==◌, ◌&&◌, ◌||◌, ◌≤◌, ◌≡◌, IsTrue, List, if◌then◌else◌}
use Rattle.bits32.specs.Set.{is_in}
use Rattle.window_snapshot.specs.Mask.{mask_has}
use Rattle.touch_state.specs.declared.row.Row.{Row}
use Rattle.touch_state.specs.Rows.{row_of}

-- what is kept of a device: the row of each window, that of channel 1 first, and the mask of the windows that are
-- pilfering
pub record Touches : Type 0 where
  pub device : ℕ
  pub rows : List Row
  pub pilferers : ℕ

-- the ids of the pointers that the window holds, as a set; windows go by the numbers of their channels
abbrev pub held : Touches → ℕ → ℕ
held t w = (row_of t.rows w).ids

-- the index of the step at which the window last went from holding nothing to holding something
abbrev pub since : Touches → ℕ → ℕ
since t w = (row_of t.rows w).since

-- the window is pilfering the device
abbrev pub pilfering : Touches → ℕ → Bool
pilfering t w = mask_has t.pilferers w

-- the window holds the pointer with this id
abbrev pub holds : Touches → ℕ → ℕ → Bool
holds t w i = is_in i (held t w)

-- the window holds something
abbrev pub any : Touches → ℕ → Bool
any t w = not (held t w == 0)

-- A change at an index that gives these pointers, takes those, and in which these windows pilfer the device. A window
-- holds what it is given, and what it held that is not taken. It begins here if it held nothing before and holds
-- something after. It is pilfering if it holds something, and either pilfers here or was pilfering before.
pub record Changes (old new : Touches) (gives takes : (window id : ℕ) → Bool) (place : ℕ) (pilfers : ℕ → Bool) : Type 0 where
  pub device : new.device ≡ old.device
  pub hold : (w i : ℕ) → holds new w i ≡ (gives w i || holds old w i && not (takes w i))
  pub began : (w : ℕ) → since new w ≡ (if any new w && not (any old w) then place else since old w)
  pub pilfer : (w : ℕ) → pilfering new w ≡ (any new w && (pilfers w || pilfering old w))

-- no pointer of any window
abbrev pub none : (window id : ℕ) → Bool
none w i = false

-- one pointer of one window
abbrev pub one : (window id : ℕ) → ℕ → ℕ → Bool
one v j w i = w == v && i == j

-- one pointer of each window of a mask
abbrev pub of_mask : (mask id : ℕ) → ℕ → ℕ → Bool
of_mask mask j w i = mask_has mask w && i == j

-- one pointer of every window
abbrev pub of_all : (id : ℕ) → ℕ → ℕ → Bool
of_all j w i = i == j

-- all pointers of every window
abbrev pub everything : ℕ → ℕ → Bool
everything w i = true

-- a set of pointers of one window
abbrev pub of_set : (window set : ℕ) → ℕ → ℕ → Bool
of_set v set w i = w == v && is_in i set

-- no window
abbrev pub nobody : ℕ → Bool
nobody w = false

-- the window holds something, and is in the mask
abbrev pub is_holder_in : Touches → ℕ → ℕ → Bool
is_holder_in t among w = any t w && mask_has among w

-- the window is one of the holders in the mask, and none of them began before it
pub record IsEarliest (t : Touches) (among w : ℕ) : Type 0 where
  pub hold : IsTrue (is_holder_in t among w)
  pub first : (v : ℕ) → IsTrue (is_holder_in t among v) → since t w ≤ since t v
