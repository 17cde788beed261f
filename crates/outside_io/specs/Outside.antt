-- What the outside may do: how a count of faults and a reading go on, and what a set of files says of its names.
use Rattle.std.specs.Prelude.{◌≡◌, ℕ, ◌+◌, ◌-◌, ◌^◌, ◌≤◌, min, nat_eq, nat_lt, Bool, ◌&&◌, if◌then◌else◌, List, [], ◌∷◌, ◌++◌, length, take, Option, None, Some, Result, Ok, Err, ⊤, IsSomeAnd, bytes_eq}
use Rattle.outside_io.specs.Trace.{Reading, Writing, going, at_end, failed}

-- a count that is raised by `more` stands still at the greatest number of 64 bits
abbrev pub raised : ℕ → ℕ → ℕ
raised before more = min (before + more) (2 ^ 64 - 1)

-- a count rose: it is greater than before, or stands at the greatest number of 64 bits
abbrev pub Rose : ℕ → ℕ → Type 0
Rose before now = min (before + 1) (2 ^ 64 - 1) ≤ now

-- a file: its name and its bytes
abbrev pub Entry : Type 0
Entry = List ℕ × List ℕ

-- the bytes under a name, or None where no file has the name; of two files with one name the first counts
abbrev pub bytes_of : List Entry → List ℕ → Option (List ℕ)
bytes_of [] name = None
bytes_of (entry ∷ entries) name = if bytes_eq entry.0 name then Some entry.1 else bytes_of entries name

-- where it is known what the files hold, one of them has the name, and its bytes are those that the source has left
abbrev pub GivesBytes : Option (List Entry) → List ℕ → Option (List ℕ) → Type 0
GivesBytes None name left = ⊤
GivesBytes (Some entries) name left = IsSomeAnd (bytes_of entries name) (λ bytes. left ≡ Some bytes)

-- the loan that is out, of files that lend one source at a time: its number is always 0
abbrev pub loan_of : Bool → Option ℕ
loan_of lent = if lent then Some 0 else None

-- how many bytes a call moved
abbrev pub moved : {E : Type 0} → Result ℕ E → ℕ
moved (Ok count) = count
moved (Err e) = 0

-- what was written after a write of these bytes with this answer: it took so many of them from the front, and a write that fails none
abbrev pub wrote_on : {E : Type 0} → Writing → Result ℕ E → List ℕ → Writing
wrote_on w r bytes =
    record { took = w.took ++ take (moved r) bytes; writes = w.writes ++ record { handed = bytes; count = moved r } ∷ [] }

-- the reading of a file that was opened under a name
abbrev pub begun : List ℕ → Reading
begun name = record { name = name; given = []; stage = going }

-- the reading of a file that could not be opened
abbrev pub unopened : List ℕ → Reading
unopened name = record { name = name; given = []; stage = failed }

-- A reading after one read more, which gave so many bytes at the front of this buffer: they come behind those before, and none in a
-- buffer that is not empty is the end.
abbrev pub gave : Reading → ℕ → List ℕ → Reading
gave r count buffer =
    record { name = r.name; given = r.given ++ take count buffer; stage = if nat_eq count 0 && nat_lt 0 (length buffer) then at_end else going }

-- a reading after a read that failed
abbrev pub broken : Reading → Reading
broken r = record { name = r.name; given = r.given; stage = failed }

-- a reading after one read more, with this answer, which left the buffer so; a read that fails gives nothing
abbrev pub read_on : {E : Type 0} → Reading → Result ℕ E → List ℕ → Reading
read_on r (Ok count) buffer = gave r count buffer
read_on r (Err e) buffer = broken r
