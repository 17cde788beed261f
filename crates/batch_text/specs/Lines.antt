-- How items are spelled.
use Rattle.std.specs.Prelude.{codes, ℕ, List, [], ◌∷◌, ◌++◌, length}
use Rattle.std.specs.Fmt.{decimal}
use Rattle.motion_batch.specs.Data.{BatchData}
use Rattle.motion_batch.specs.declared.item.Item.{Item}
use Rattle.motion_batch.specs.declared.item.Item.TheVariants.{One, Batch}
use Rattle.motion_batch.specs.declared.sample.Sample.{Sample}

-- the number of the first sample; 0 if there is none, which no batch has
abbrev pub first_seq : List Sample → ℕ
first_seq [] = 0
first_seq (s ∷ ss) = s.seq

-- the number of the last sample
abbrev pub last_seq : List Sample → ℕ
last_seq [] = 0
last_seq (s ∷ []) = s.seq
last_seq (s ∷ t ∷ ss) = last_seq (t ∷ ss)

-- a message by itself: its number
unfoldable pub one_line : ℕ → List ℕ
one_line seq = codes "one " ++ decimal seq ++ codes "\n"

-- a batch: the numbers of its first and its last move, its device, and how many moves it is
unfoldable pub batch_line : BatchData → List ℕ
batch_line b =
    codes "batch " ++ decimal (first_seq b.samples) ++ codes "-" ++ decimal (last_seq b.samples)
    ++ codes " " ++ decimal b.device ++ codes " " ++ decimal (length b.samples) ++ codes "\n"

-- the line of an item: that of a message alone, or of a batch
abbrev pub item_line : Item → List ℕ
item_line (One m) = one_line m.seq
item_line (Batch b) = batch_line b

-- the lines of items, one after the other
abbrev pub item_lines : List Item → List ℕ
item_lines [] = []
item_lines (i ∷ is) = item_line i ++ item_lines is

-- the first line of a section: its channel
unfoldable pub channel_line : ℕ → List ℕ
channel_line id = codes "channel " ++ decimal id ++ codes "\n"

-- the last line of a section: how many items it has
unfoldable pub count_line : ℕ → List ℕ
count_line n = codes "items " ++ decimal n ++ codes "\n"

-- the items of a section, and how many they are
abbrev pub items_text : List Item → List ℕ
items_text is = item_lines is ++ count_line (length is)
