-- Files that are lent.
use Rattle.std.specs.Prelude.{}
use Rattle.outside_io.specs.Outside.{Entry}
use Rattle.lent_io.specs.declared.file.LentFile.{LentFile}

-- a file by its name and its bytes
abbrev pub entry_of : LentFile → Entry
entry_of file = (file.name.now, file.bytes.now)
