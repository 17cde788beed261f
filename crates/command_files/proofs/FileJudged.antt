-- How a file that was read is judged.
use Rattle.std.proofs.Common.{◌≡◌, ◌∙◌, ◌+◌, ◌<◌, ◌≤◌, ℕ, Bool, true, false, List, [], ◌∷◌, ◌++◌, length, nat_le, cond, Option, None, Some, IsSomeAnd, Result, Ok, Err, refl, sym, ap, subst, append-nil, inl, inr, arith}
use Rattle.std.proofs.lemmas.Bool.{le-leb, leb-true}
use Rattle.std.proofs.lemmas.List.{length-append}
use Rattle.outside_io.specs.Trace.{Reading, at_end, failed, going}
use Rattle.outside_io.specs.Outside.{Entry, Rose, bytes_of, unopened}
use Rattle.outside_io.specs.declared.outside.SourceRefused.{SourceRefused}
use Rattle.outside_io.specs.declared.outside.SourceRefused.TheVariants as refused
use Rattle.command_files.specs.Judged.{FileKind, GaveEnough, IfTold, IsEnough, IsJudged, judged, judged_at}
use Rattle.command_files.specs.Logged.{Agrees, IsCut, IsRead, IsWhole, OneRead, RefusesFile}
use Rattle.command_files.specs.ReadErrors.{StopsReading, read_error_of, refusal_of_read}
use Rattle.command_files.specs.Refused.{Refused, read_failed, too_long}
use Rattle.command_files.specs.RefusalView.{input_word, subject_of, subject_word}
use Rattle.command_files.specs.Refusing.{RefusesSo}
use Rattle.command_files.specs.declared.files.ReadError.{ReadError}
use Rattle.command_files.specs.declared.files.ReadError.TheVariants.{Failed, Memory, TooLong}
use Rattle.command_files.specs.declared.refusal.Refusal.{Refusal}
use Rattle.command_files.specs.declared.refusal.Refusal.TheVariants as refusal
use Rattle.command_files.specs.declared.refusal.Input.{Input}
use Rattle.command_files.proofs.Readings.{logged_none}

-- a file that is no longer than it may be is judged by the rule, and a longer one is too long
pub judged_within : {A : Type 0} (kind : FileKind A) (bytes : List ℕ) → length bytes ≤ kind.limit → judged kind bytes ≡ kind.rule bytes
judged_within kind bytes short =
    ap (λ (b : Bool). cond b (kind.rule bytes) (Err (too_long kind.what))) (le-leb (length bytes) kind.limit short)

longer : (size limit : ℕ) (b : Bool) → nat_le size limit ≡ b → limit < size → b ≡ false
longer size limit false e h = refl
longer size limit true e h = absurd (omega (arith, h, leb-true size limit e))

pub judged_beyond : {A : Type 0} (kind : FileKind A) (bytes : List ℕ) → kind.limit < length bytes → judged kind bytes ≡ Err (too_long kind.what)
judged_beyond kind bytes long =
    ap (λ (b : Bool). cond b (kind.rule bytes) (Err (too_long kind.what))) (longer (length bytes) kind.limit (nat_le (length bytes) kind.limit) refl long)

-- what a reading gives, with an additional result
pub read_map : (told : Option (List Entry)) (before now : List Reading) (name : List ℕ) (limit : ℕ) (P Q : Reading → Type 0) → ((r : Reading) → P r → Q r)
    → OneRead told before now name limit P → OneRead told before now name limit Q
read_map told before now name limit P Q f one =
    record {
      reading = one.reading;
      grown = one.grown;
      named = one.named;
      bound = one.bound;
      agrees = one.agrees;
      holds = f one.reading one.holds;
    }

-- a file that was read to its end is judged by the rule
pub whole_read : {A : Type 0} (told : Option (List Entry)) (before now : List Reading) (name : List ℕ) (kind : FileKind A) (bytes : List ℕ) (x : Result A Refused)
    → IsWhole told before now name kind.limit bytes → kind.rule bytes ≡ x → IsRead told before now name kind x
whole_read told before now name kind bytes x whole is =
    read_map told before now name kind.limit (λ r. (r.stage ≡ at_end) × ((r.given ≡ bytes) × (length bytes ≤ kind.limit)))
    (λ r. IsEnough kind.limit r × (judged_at kind r.stage r.given ≡ x))
    (λ r h. (
      inr (inl (h.0, subst (λ (xs : List ℕ). length xs ≤ kind.limit) (sym h.1.0) h.1.1)),
      ap (λ s. judged_at kind s r.given) h.0 ∙ ap (judged kind) h.1.0 ∙ judged_within kind bytes h.1.1 ∙ is,
    ))
    whole

-- one that gave a byte more than it may have is too long
pub cut_read : {A : Type 0} (told : Option (List Entry)) (before now : List Reading) (name : List ℕ) (kind : FileKind A)
    → IsCut told before now name kind.limit → IsRead told before now name kind (Err (too_long kind.what))
cut_read told before now name kind cut =
    read_map told before now name kind.limit (λ r. (r.stage ≡ going) × (length r.given ≡ kind.limit + 1))
    (λ r. IsEnough kind.limit r × (judged_at kind r.stage r.given ≡ Err (too_long kind.what)))
    (λ r h. (inr (inr h), ap (λ s. judged_at kind s r.given) h.0 ∙ judged_beyond kind r.given (omega (arith, h.1))))
    cut

any_read : (told : Option (List Entry)) (before now : List Reading) (name : List ℕ) (limit : ℕ) (P : Reading → Type 0)
    → OneRead told before now name limit P → OneRead told before now name limit (λ r. Unit {0})
any_read told before now name limit P one = read_map told before now name limit P (λ r. Unit {0}) (λ r h. tt) one

-- one of which the opening or a read failed could not be read
pub broken_read : {A : Type 0} (told : Option (List Entry)) (before now : List Reading) (name : List ℕ) (kind : FileKind A)
    → OneRead told before now name kind.limit (λ r. r.stage ≡ failed) → IsRead told before now name kind (Err (read_failed kind.file))
broken_read told before now name kind one =
    read_map told before now name kind.limit (λ r. r.stage ≡ failed)
    (λ r. IsEnough kind.limit r × (judged_at kind r.stage r.given ≡ Err (read_failed kind.file)))
    (λ r h. (inl h, ap (λ s. judged_at kind s r.given) h)) one

-- a file that was not read is not accepted
pub read_refused : {A : Type 0} (told : Option (List Entry)) (before now : List Reading) (name : List ℕ) (kind : FileKind A) (fb fn : ℕ) (file : Input) (e : ReadError)
    → kind.file ≡ input_word file → kind.what ≡ subject_word (subject_of file) → StopsReading told before now name kind.limit fb fn e
    → RefusesFile told before now name kind fb fn (refusal_of_read file e)
read_refused told before now name kind fb fn file Failed said is h =
    (h.0, subst (λ (w : List ℕ). IsRead told before now name kind (Err (read_failed w))) said (broken_read told before now name kind h.1))
read_refused told before now name kind fb fn file Memory said is h = h
read_refused told before now name kind fb fn file TooLong said is h =
    subst (λ (w : List ℕ). IsRead told before now name kind (Err (too_long w))) is (cut_read told before now name kind h)

-- one whose rule refuses it is not
pub rule_refuses : {A : Type 0} (told : Option (List Entry)) (before now : List Reading) (name : List ℕ) (kind : FileKind A) (bytes : List ℕ) (fb fn : ℕ) (r : Refusal)
    → IsWhole told before now name kind.limit bytes → RefusesSo (λ x. kind.rule bytes ≡ Err x) r → RefusesFile told before now name kind fb fn r
rule_refuses told before now name kind bytes fb fn (refusal.Session e) whole h = whole_read told before now name kind bytes _ whole h
rule_refuses told before now name kind bytes fb fn (refusal.Recording e) whole h = whole_read told before now name kind bytes _ whole h
rule_refuses told before now name kind bytes fb fn (refusal.Order e) whole h = whole_read told before now name kind bytes _ whole h
rule_refuses told before now name kind bytes fb fn (refusal.Stream e) whole h = whole_read told before now name kind bytes _ whole h
rule_refuses told before now name kind bytes fb fn (refusal.ReadFailed file) whole h = absurd h
rule_refuses told before now name kind bytes fb fn refusal.NoMemory whole h = inr (any_read told before now name kind.limit _ whole)
rule_refuses told before now name kind bytes fb fn (refusal.TooLong what) whole h = whole_read told before now name kind bytes _ whole h

-- a source that was refused
pub source_stops : (told : Option (List Entry)) (before now : List Reading) (name : List ℕ) (limit fb fn : ℕ) (r : SourceRefused) (e : ReadError)
    → e ≡ read_error_of r → (r ≡ refused.Failed → now ≡ before ++ unopened name ∷ []) → (r ≡ refused.Memory → now ≡ before) → (r ≡ refused.Failed → Rose fb fn)
    → StopsReading told before now name limit fb fn e
source_stops told before now name limit fb fn refused.Failed e is opened same rose =
    subst (StopsReading told before now name limit fb fn) (sym is) (rose refl, logged_none told before now name limit (opened refl))
source_stops told before now name limit fb fn refused.Memory e is opened same rose =
    subst (StopsReading told before now name limit fb fn) (sym is) (inl (same refl))

-- a reading that gave enough is judged as its file is
pub enough_told : {A : Type 0} (kind : FileKind A) (o : Option (List ℕ)) (r : Reading) → Agrees o r → GaveEnough kind.limit r
    → IsSomeAnd o (λ bytes. judged kind bytes ≡ judged_at kind r.stage r.given)
enough_told kind None r agrees (inl h) = absurd (let never : failed ≡ at_end = sym agrees.1 ∙ h.0 in cc never)
enough_told kind None r agrees (inr h) = absurd (let never : failed ≡ going = sym agrees.1 ∙ h.0 in cc never)
enough_told kind (Some bytes) r agrees (inl h) =
    ap (judged kind) (agrees.1 ∙ ap (λ (xs : List ℕ). r.given ++ xs) (agrees.2 h.0) ∙ append-nil r.given) ∙ sym (ap (λ s. judged_at kind s r.given) h.0)
enough_told kind (Some bytes) r agrees (inr h) =
    let size : length bytes ≡ length r.given + length agrees.0 = ap length agrees.1 ∙ length-append r.given agrees.0 in
    judged_beyond kind bytes (omega (arith, size, h.1)) ∙ sym (judged_beyond kind r.given (omega (arith, h.1))) ∙ sym (ap (λ s. judged_at kind s r.given) h.0)

pub some_map : {X : Type 0} (o : Option X) (P Q : X → Type 0) → ((x : X) → P x → Q x) → IsSomeAnd o P → IsSomeAnd o Q
some_map None P Q f h = h
some_map (Some x) P Q f h = f x h

told_accepted : {A : Type 0} (told : Option (List Entry)) (name : List ℕ) (kind : FileKind A) (x : A) (r : Reading)
    → IfTold told (λ es. Agrees (bytes_of es r.name) r) → r.name ≡ name → IsEnough kind.limit r → judged_at kind r.stage r.given ≡ Ok x
    → IsJudged told name (judged kind) (Ok x)
told_accepted None name kind x r agrees named enough is = tt
told_accepted (Some es) name kind x r agrees named (inl e) is =
    absurd (let broke : judged_at kind r.stage r.given ≡ Err (read_failed kind.file) = ap (λ s. judged_at kind s r.given) e in cc (is, broke))
told_accepted (Some es) name kind x r agrees named (inr enough) is =
    some_map (bytes_of es name) (λ bytes. judged kind bytes ≡ judged_at kind r.stage r.given) (λ bytes. judged kind bytes ≡ Ok x) (λ bytes same. same ∙ is)
    (enough_told kind (bytes_of es name) r (subst (λ (n : List ℕ). Agrees (bytes_of es n) r) named agrees) enough)

-- where it is known what the files hold, a file that is accepted is judged as what was read of it
pub read_told : {A : Type 0} (told : Option (List Entry)) (before now : List Reading) (name : List ℕ) (kind : FileKind A) (x : A)
    → IsRead told before now name kind (Ok x) → IsJudged told name (judged kind) (Ok x)
read_told told before now name kind x one = told_accepted told name kind x one.reading one.agrees one.named one.holds.0 one.holds.1
