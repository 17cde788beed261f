-- How a text is handed to a sink, write by write.
use Rattle.std.specs.Prelude.{◌≡◌, ◌<◌, ◌≤◌, ℕ, List, [], ◌∷◌, ◌++◌, length, drop, ◌⊎◌, Result, OnErr}
use Rattle.outside_io.specs.Trace.{Write, Writing}
use Rattle.outside_io.specs.Outside.{Rose}
use Rattle.outside_io.specs.declared.outside.Sink.{Ghosts}
use Rattle.text_pieces.specs.Long.{AreLong}
use Rattle.text_output.specs.Together.{together}

-- Writes of a piece, in order: each is handed all that remains of it and takes some of that, from the front. What
-- none of them took remains.
abbrev pub Passes : List ℕ → List Write → List ℕ → Type 0
Passes piece [] left = piece ≡ left
Passes piece (w ∷ ws) left =
    (w.handed ≡ piece) × ((0 < w.count) × ((w.count ≤ length piece) × Passes (drop w.count piece) ws left))

-- writes of some pieces, one after the other, none of which leaves anything
abbrev pub PassAll : List (List ℕ) → List Write → Type 0
PassAll [] ws = ws ≡ []
PassAll (p ∷ ps) ws = (own : List Write) × (others : List Write) × (ws ≡ own ++ others) × Passes p own [] × PassAll ps others

-- a piece was written up to these bytes, which remain of it
pub record WritesPiece (before now : Writing) (piece left : List ℕ) : Type 0 where
  pub taken : List ℕ
  pub parts : piece ≡ taken ++ left
  pub took : now.took ≡ before.took ++ taken
  pub asked : List Write
  pub writes : now.writes ≡ before.writes ++ asked
  pub passes : Passes piece asked left

-- A write of a piece failed, and none followed it: it was handed all that remained, and took nothing.
pub record StopsPiece (before now : Writing) (piece : List ℕ) : Type 0 where
  pub rest : List ℕ
  pub until : Writing
  pub begins : WritesPiece before until piece rest
  pub some : 0 < length rest
  pub took : now.took ≡ until.took
  pub writes : now.writes ≡ until.writes ++ record { handed = rest; count = 0 } ∷ []

-- a text was written piece by piece, up to these bytes, which remain of it
pub record WritesUpTo (before now : Writing) (text left : List ℕ) : Type 0 where
  pub pieces : List (List ℕ)
  pub parts : text ≡ together pieces ++ left
  pub took : now.took ≡ before.took ++ together pieces
  pub asked : List Write
  pub writes : now.writes ≡ before.writes ++ asked
  pub passes : PassAll pieces asked

-- the whole text was written
abbrev pub WritesAll : Writing → Writing → List ℕ → Type 0
WritesAll before now text = WritesUpTo before now text []

-- A write of the text failed, and none followed it: it was one of a piece, behind pieces that were written whole.
pub record StopsWithin (before now : Writing) (text : List ℕ) : Type 0 where
  pub left : List ℕ
  pub mid : Writing
  pub goes : WritesUpTo before mid text left
  pub piece : List ℕ
  pub behind : List ℕ
  pub parts : left ≡ piece ++ behind
  pub stops : StopsPiece mid now piece

-- the whole text was written, in few pieces: any two neighbouring ones have more than 64 KiB together
pub record WritesText (before now : Writing) (text : List ℕ) : Type 0 where
  pub whole : WritesAll before now text
  pub long : AreLong whole.pieces

-- A write of the text failed, and none followed it. The pieces up to that one are few: any two neighbouring ones have more than 64 KiB together.
pub record StopsText (before now : Writing) (text : List ℕ) : Type 0 where
  pub within : StopsWithin before now text
  pub long : AreLong (within.goes.pieces ++ within.piece ∷ [])

-- a line is printed: the sink takes it, or has a fault and takes the front of it
abbrev pub Tells : ℕ → ℕ → Writing → Writing → List ℕ → Type 0
Tells faults_before faults_now before now line =
    WritesAll before now line ⊎ (Rose faults_before faults_now × StopsWithin before now line)

-- The count of a sink's faults never falls, and an error comes with one more.
pub record CountsFaults {S A X : Type 0} (sink : Ghosts S) (old new : S) (result : Result A X) : Type 0 where
  pub cause : OnErr result (Rose (sink.faults old) (sink.faults new))
  pub later : sink.faults old ≤ sink.faults new

-- A line is printed on a sink, and the count of the sink's faults never falls.
pub record Prints {S : Type 0} (sink : Ghosts S) (old new : S) (text : List ℕ) : Type 0 where
  pub line : Tells (sink.faults old) (sink.faults new) (sink.writing old) (sink.writing new) text
  pub later : sink.faults old ≤ sink.faults new
