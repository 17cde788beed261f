-- What reading needs of the files, and what it leaves of them.
use Rattle.std.specs.Prelude.{◌≡◌, ◌≤◌, ℕ, List, None, IsTrue}
use Rattle.outside_io.specs.declared.outside.Files.{Ghosts}
use Rattle.command_files.specs.Inputs.{IsAccepted}

-- A file can be read: no source is out, and the files lend this name.
pub record CanRead {F In : Type 0} (files : Ghosts F In) (now : F) (name : List ℕ) : Type 0 where
  pub free : files.lent now ≡ None
  pub lends : IsTrue (files.lends now name)

-- A session and a recording can be read, one after the other: the files need not lend the recording unless the session is accepted.
pub record CanReadBoth {F In : Type 0} (files : Ghosts F In) (now : F) (session events : List ℕ) : Type 0 where
  pub first : CanRead files now session
  pub then : IsAccepted (files.entries now) session → IsTrue (files.lends now events)

-- A call gave back each source that it was lent: the files hold and lend what they did, and the count of their faults only rose.
pub record KeepsFiles {F In : Type 0} (files : Ghosts F In) (old new : F) : Type 0 where
  pub later : files.faults old ≤ files.faults new
  pub free : files.lent new ≡ None
  pub entries : files.entries new ≡ files.entries old
  pub names : files.lends new ≡ files.lends old
