-- Which items of a section were written so far.
use Rattle.std.specs.Prelude.{◌≡◌, ◌≤◌, ℕ, ◌+◌, List, [], ◌++◌, length}
use Rattle.motion_batch.specs.Calls.{Call, RowsStandFor, items}
use Rattle.batch_text.specs.declared.batches.Batches.{Batches}
use Rattle.batch_text.specs.Frames.{last_frame, latest}
use Rattle.batch_text.specs.Lines.{item_lines}

-- After these calls, the text from `before` on contains their items, except those that were released and must still
-- be written. Each written item is a line of it.
pub record Writes (calls : List Call) (before : List ℕ) (b : Batches) (text : List ℕ) : Type 0 where
  pub stands : RowsStandFor calls b.batcher
  pub latest_is : b.latest ≡ latest calls
  pub shown_is : b.shown ≡ last_frame calls
  pub items_are : text ++ item_lines b.given.items ≡ before ++ item_lines (items calls)
  pub count_is : b.count + length b.given.items ≡ length (items calls)
  pub few : b.count ≤ length text

-- the same, with nothing left to write
pub record Written (calls : List Call) (before : List ℕ) (b : Batches) (text : List ℕ) : Type 0 where
  pub writes : Writes calls before b text
  pub none : b.given.items ≡ []
