-- Files that are read and judged one after another.
use Rattle.std.specs.Prelude.{◌≡◌, ◌≢◌, ℕ, ◌+◌, ◌≤◌, nat_le, cond, List, [], ◌∷◌, length, Option, Some, None, Result, Ok, Err, ⊤, ◌⊎◌}
use Rattle.std.specs.Option.{IsSomeAnd}
use Rattle.outside_io.specs.Trace.{Reading, Stage, at_end, failed, going}
use Rattle.outside_io.specs.Outside.{Entry, bytes_of}
use Rattle.command_files.specs.Refused.{Refused, read_failed, too_long}

-- what the program answers: a text that it writes, or why it refuses
abbrev pub Answer : Type 0
Answer = Result (List ℕ) Refused

-- where it is known what the files hold, this holds of them
abbrev pub IfTold : Option (List Entry) → (List Entry → Type 0) → Type 0
IfTold None Holds = ⊤
IfTold (Some entries) Holds = Holds entries

-- a kind of files: the most bytes that one may have, the word for one that could not be read and that for one that has
-- more bytes, and how the bytes of another are judged
pub record FileKind (A : Type 0) : Type 0 where
  pub limit : ℕ
  pub file : List ℕ
  pub what : List ℕ
  pub rule : List ℕ → Result A Refused

-- how a file of a kind is judged: its length is checked first
abbrev pub judged : {A : Type 0} → FileKind A → List ℕ → Result A Refused
judged kind bytes = cond (nat_le (length bytes) kind.limit) (kind.rule bytes) (Err (too_long kind.what))

-- the judgement of a file, with an additional result
abbrev pub beside : {A B : Type 0} → Result A Refused → B → Result (A × B) Refused
beside (Ok x) more = Ok (x, more)
beside (Err r) more = Err r

-- files of a kind with an additional result from their bytes
abbrev pub with_more : {A B : Type 0} → FileKind A → (List ℕ → B) → FileKind (A × B)
with_more kind more = record { limit = kind.limit; file = kind.file; what = kind.what; rule = λ bytes. beside (kind.rule bytes) (more bytes) }

-- where the bytes of files come from: files under their names, or the readings of a call, one after another
pub data Origin : Type 0 where
  by_name : List Entry → Origin
  by_log : List Reading → Origin

-- a reading gave all the bytes of a file, or one more than it may have
abbrev pub GaveEnough : ℕ → Reading → Type 0
GaveEnough limit r = ((r.stage ≡ at_end) × (length r.given ≤ limit)) ⊎ ((r.stage ≡ going) × (length r.given ≡ limit + 1))

-- a reading gave what the judgement of a file needs, or failed
abbrev pub IsEnough : ℕ → Reading → Type 0
IsEnough limit r = (r.stage ≡ failed) ⊎ GaveEnough limit r

-- how a reading of a file is judged, by where it stands: one that failed is refused, and another is judged by what it gave
abbrev pub judged_at : {A : Type 0} → FileKind A → Stage → List ℕ → Result A Refused
judged_at kind failed given = Err (read_failed kind.file)
judged_at kind stage given = judged kind given

-- an answer that is not for a file that could not be read
abbrev pub OfContents : Answer → Type 0
OfContents (Ok text) = ⊤
OfContents (Err r) = r.status ≢ 4

-- nothing more is read
abbrev pub NoMore : Origin → Type 0
NoMore (by_name entries) = ⊤
NoMore (by_log readings) = readings ≡ []

-- the answer after a judgement: a refusal is the answer, and nothing more is read; what was accepted is passed on
abbrev pub After : {A : Type 0} → (Origin → A → Answer → Type 0) → Origin → Result A Refused → Answer → Type 0
After Next from (Err refused) a = (a ≡ Err refused) × NoMore from
After Next from (Ok accepted) a = Next from accepted a

-- the next file is one of this kind under a name, and this is the answer after its judgement
abbrev pub Reads : {A : Type 0} → Origin → List ℕ → FileKind A → (Origin → A → Answer → Type 0) → Answer → Type 0
Reads (by_name entries) name kind Next a = IsSomeAnd (bytes_of entries name) (λ bytes. After Next (by_name entries) (judged kind bytes) a)
Reads (by_log []) name kind Next a = ⊥
Reads (by_log (r ∷ rs)) name kind Next a =
    (r.name ≡ name) × (IsEnough kind.limit r × After Next (by_log rs) (judged_at kind r.stage r.given) a)

-- this is the answer, and nothing more is read
abbrev pub Ends : (Answer → Type 0) → Origin → Answer → Type 0
Ends Is from a = Is a × NoMore from

-- the answer to which a judgement leads if no file is left: a refusal, or the result of what was accepted
abbrev pub Behind : {A : Type 0} → (A → Answer → Type 0) → Result A Refused → Answer → Type 0
Behind Next (Err refused) a = a ≡ Err refused
Behind Next (Ok accepted) a = Next accepted a

-- where it is known what the files hold, the file under a name is there and is judged so
abbrev pub IsJudged : {A : Type 0} → Option (List Entry) → List ℕ → (List ℕ → Result A Refused) → Result A Refused → Type 0
IsJudged None name rule r = ⊤
IsJudged (Some entries) name rule r = IsSomeAnd (bytes_of entries name) (λ bytes. rule bytes ≡ r)
