-- How a refusal is written.
use Rattle.std.specs.Prelude.{codes, ℕ, nat_eq, if◌then◌else◌, List, [], ◌∷◌, ◌++◌}
use Rattle.std.specs.Fmt.{decimal}
use Rattle.gesture_verifier.specs.declared.held.HeldKey.{HeldKey}
use Rattle.gesture_verifier.specs.declared.reason.Reason.{Reason}
use Rattle.gesture_verifier.specs.declared.reason.Reason.TheVariants.{Flags, AlreadyDown, OnePointer, NothingDown, OtherPointers, LastPointer, MorePointers, RepeatOfNothing, RepeatOutOfTurn, KeyNotDown, RepeatOnUp, FocusTwice}
use Rattle.judge_text.specs.declared.error.JudgeError.{JudgeError}
use Rattle.judge_text.specs.declared.error.JudgeError.TheVariants.{BadLine, Broken, StillDown, Nothing, Memory}
use Rattle.judge_text.specs.Down.{Down}

-- the word of a reason is its name
abbrev pub word : Reason → List ℕ
word Flags = codes "Flags"
word AlreadyDown = codes "AlreadyDown"
word OnePointer = codes "OnePointer"
word NothingDown = codes "NothingDown"
word OtherPointers = codes "OtherPointers"
word LastPointer = codes "LastPointer"
word MorePointers = codes "MorePointers"
word RepeatOfNothing = codes "RepeatOfNothing"
word RepeatOutOfTurn = codes "RepeatOutOfTurn"
word KeyNotDown = codes "KeyNotDown"
word RepeatOnUp = codes "RepeatOnUp"
word FocusTwice = codes "FocusTwice"

-- ids, the first after a mark and each further one after a comma
abbrev pub ids_text : List ℕ → List ℕ → List ℕ
ids_text mark [] = []
ids_text mark (id ∷ ids) = mark ++ (decimal id ++ ids_text (codes ",") ids)

-- the mark before the id at a place of its list
abbrev pub mark_at : ℕ → List ℕ
mark_at place = if nat_eq place 0 then codes ":" else codes ","

-- the ids that are down on each of some devices
abbrev pub pointers_text : List (ℕ × List ℕ) → List ℕ
pointers_text [] = []
pointers_text (p ∷ ps) = (codes " " ++ (decimal p.0 ++ ids_text (codes ":") p.1)) ++ pointers_text ps

-- a key that is down
abbrev pub key_text : HeldKey → List ℕ
key_text k = codes " key " ++ (decimal k.device ++ (codes ":" ++ decimal k.scan))

-- keys that are down
abbrev pub keys_text : List HeldKey → List ℕ
keys_text [] = []
keys_text (k ∷ ks) = key_text k ++ keys_text ks

-- the line of a refusal, without its newline; out of memory has none
unfoldable pub refusal_line : JudgeError → List ℕ
refusal_line (BadLine line) = codes "stream: BadLine " ++ decimal line
refusal_line (Broken line why) = codes "stream: Broken " ++ (decimal line ++ (codes " " ++ word why))
refusal_line (StillDown line down) = codes "stream: StillDown " ++ (decimal line ++ (pointers_text down.pointers ++ keys_text down.keys))
refusal_line Nothing = codes "stream: Nothing"
refusal_line Memory = []
