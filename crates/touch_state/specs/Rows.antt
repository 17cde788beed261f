-- The table of the windows, and what it says that they hold.
use Rattle.std.specs.Prelude.{ℕ, ◌-◌, ◌≤◌, nat_lt, Option, Some, None, Bool, true, false, not, ◌&&◌, ◌==◌, ◌≡◌, List, slice_index_or, if◌then◌else◌}
use Rattle.bits32.specs.Set.{is_in, marked}
use Rattle.window_snapshot.specs.Mask.{is_channel, mask_has}
use Rattle.touch_state.specs.declared.row.Row.{Row}

-- a window that holds nothing, and never did
abbrev pub no_row : Row
no_row = record { ids = 0; since = 0 }

-- the row of a window, by the number of its channel
abbrev pub row_of : List Row → ℕ → Row
row_of rows w = if is_channel w then slice_index_or rows (w - 1) no_row else no_row

-- the row after the window may have been given an id at an index
abbrev pub after_give : Bool → ℕ → ℕ → Row → Row
after_give hit id place row =
    if hit then record { ids = marked id row.ids; since = if row.ids == 0 then place else row.since } else row

-- the row of a window that is left with this set
abbrev pub left_with : ℕ → Row → Row
left_with ids row = record { ids = ids; since = row.since }

-- the row of a window from which these ids are taken
pub record IsTaken (takes : ℕ → Bool) (old new : Row) : Type 0 where
  pub ids : (i : ℕ) → is_in i new.ids ≡ (is_in i old.ids && not (takes i))
  pub since : new.since ≡ old.since

-- the row of one of the windows of a slip: it is given the id, or it is taken from it, or neither
abbrev pub IsSlipped : (from to : Bool) → ℕ → ℕ → Row → Row → Type 0
IsSlipped from true id place old new = new ≡ after_give true id place old
IsSlipped from false id place old new = IsTaken (λ i. from && i == id) old new

-- one mask contains the windows that hold something, and the other some of these
pub record AreHolders (rows : List Row) (holders pilferers : ℕ) : Type 0 where
  pub hold : (w : ℕ) → mask_has holders w ≡ not ((row_of rows w).ids == 0)
  pub pilfer : (w : ℕ) → mask_has pilferers w ≡ true → mask_has holders w ≡ true

-- the lesser of the least index so far and that of a window, if it counts
abbrev pub sooner : Bool → ℕ → Option ℕ → Option ℕ
sooner false place least = least
sooner true place None = Some place
sooner true place (Some least) = Some (if nat_lt place least then place else least)

-- the least index at which a window of the mask in the first k rows began: None if there is no such window, otherwise
-- the index of one of them, at or below that of each
abbrev pub IsLeastSince : List Row → (hits k : ℕ) → Option ℕ → Type 0
IsLeastSince rows hits k None = (w : ℕ) → w ≤ k → mask_has hits w ≡ false
IsLeastSince rows hits k (Some least) =
    ((w : ℕ) × (w ≤ k) × (mask_has hits w ≡ true) × ((row_of rows w).since ≡ least))
    × ((w : ℕ) → w ≤ k → mask_has hits w ≡ true → least ≤ (row_of rows w).since)
