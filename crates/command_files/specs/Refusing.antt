-- What the steps before the writing refuse.
use Rattle.std.specs.Prelude.{⊤}
use Rattle.command_files.specs.declared.refusal.Refusal.{Refusal}
use Rattle.command_files.specs.declared.refusal.Refusal.TheVariants.{ReadFailed, NoMemory}
use Rattle.command_files.specs.Refused.{Refused}
use Rattle.command_files.specs.RefusalView.{refusal_view}

-- What is judged is refused so, or memory ran out. No file is read.
abbrev pub RefusesSo : (Refused → Type 0) → Refusal → Type 0
RefusesSo Comes (ReadFailed file) = ⊥
RefusesSo Comes NoMemory = ⊤
RefusesSo Comes r = Comes (refusal_view r)
