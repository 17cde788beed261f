-- The log of a call, file by file, and the answer that goes with it.
use Rattle.std.proofs.Common.{◌≡◌, ◌∙◌, ◌≤◌, ◌≢◌, ℕ, List, [], ◌∷◌, ◌++◌, Option, Result, Ok, Err, refl, sym, ap, subst, append_assoc, append-nil, inl, inr, arith}
use Rattle.outside_io.specs.Trace.{Reading, failed}
use Rattle.outside_io.specs.Outside.{Entry, bytes_of}
use Rattle.command_files.specs.declared.refusal.Refusal.{Refusal}
use Rattle.command_files.specs.declared.refusal.Refusal.TheVariants.{Session, Recording, Order, Stream, ReadFailed, NoMemory, TooLong}
use Rattle.command_files.specs.Judged.{After, Answer, Behind, Ends, FileKind, GaveEnough, IsEnough, OfContents, Origin, Reads, by_log, by_name, judged, judged_at}
use Rattle.command_files.specs.Logged.{Agrees, AllAgree, IsRead, Logged, NoneFailed, OneRead, RefusesBy, RefusesFile}
use Rattle.command_files.specs.ReadErrors.{WithFile}
use Rattle.command_files.specs.Refused.{Refused, read_failed}
use Rattle.command_files.specs.RefusalView.{refusal_view}
use Rattle.command_files.specs.Refusing.{RefusesSo}
use Rattle.command_files.proofs.Answering.{told_both, told_map}
use Rattle.command_files.proofs.Readings.{all_told}
use Rattle.command_files.proofs.FileJudged.{enough_told, judged_within, some_map}

-- no file was read
pub log_same : (told : Option (List Entry)) (before now : List Reading) (files : List (List ℕ × ℕ)) (Holds : List Reading → Type 0) → now ≡ before → Holds []
    → Logged told before now files Holds
log_same told before now files Holds is h =
    record {
      readings = [];
      grown = is ∙ sym (append-nil before);
      in_turn = tt;
      agree = all_told told (λ es. AllAgree es []) (λ es. tt);
      holds = h;
    }

pub logged_map : (told : Option (List Entry)) (before now : List Reading) (files : List (List ℕ × ℕ)) (P Q : List Reading → Type 0) → ((rs : List Reading) → P rs → Q rs)
    → Logged told before now files P → Logged told before now files Q
logged_map told before now files P Q f log =
    record { readings = log.readings; grown = log.grown; in_turn = log.in_turn; agree = log.agree; holds = f log.readings log.holds }

-- one file was read
pub log_one : (told : Option (List Entry)) (before now : List Reading) (name : List ℕ) (limit : ℕ) (files : List (List ℕ × ℕ)) (P : Reading → Type 0)
    (Q : List Reading → Type 0) (one : OneRead told before now name limit P) → Q (one.reading ∷ []) → Logged told before now ((name, limit) ∷ files) Q
log_one told before now name limit files P Q one h =
    record {
      readings = one.reading ∷ [];
      grown = one.grown;
      in_turn = (one.named, (one.bound, ((λ e. refl), tt)));
      agree = told_map told (λ es. Agrees (bytes_of es one.reading.name) one.reading) (λ es. AllAgree es (one.reading ∷ [])) (λ es a. (a, tt)) one.agrees;
      holds = h;
    }

-- one file was read, and then others
pub log_more : (told : Option (List Entry)) (before mid now : List Reading) (name : List ℕ) (limit : ℕ) (files : List (List ℕ × ℕ)) (P : Reading → Type 0)
    (R Q : List Reading → Type 0) (one : OneRead told before mid name limit P) (log : Logged told mid now files R) → one.reading.stage ≢ failed → Q (one.reading ∷ log.readings)
    → Logged told before now ((name, limit) ∷ files) Q
log_more told before mid now name limit files P R Q one log well h =
    record {
      readings = one.reading ∷ log.readings;
      grown = log.grown ∙ ap (λ (rs : List Reading). rs ++ log.readings) one.grown ∙ append_assoc before (one.reading ∷ []) log.readings;
      in_turn = (one.named, (one.bound, ((λ e. absurd (well e)), log.in_turn)));
      agree = told_both told (λ es. Agrees (bytes_of es one.reading.name) one.reading) (λ es. AllAgree es log.readings)
          (λ es. AllAgree es (one.reading ∷ log.readings)) (λ es a b. (a, b)) one.agrees log.agree;
      holds = h;
    }

then_after : {A : Type 0} (y : Result A Refused) (x : A) (Next : Origin → A → Answer → Type 0) (from : Origin) (a : Answer) → y ≡ Ok x → Next from x a → After Next from y a
then_after y x Next from a is h = subst (λ z. After Next from z a) (sym is) h

stop_after : {A : Type 0} (y : Result A Refused) (e : Refused) (Next : Origin → A → Answer → Type 0) → y ≡ Err e → After Next (by_log []) y (Err e)
stop_after y e Next is = subst (λ z. After Next (by_log []) z (Err e)) (sym is) (refl, refl)

behind_after : {A : Type 0} (y : Result A Refused) (Is : A → Answer → Type 0) (a : Answer) → Behind Is y a → After (λ rest x. Ends (Is x) rest) (by_log []) y a
behind_after (Ok x) Is a h = (h, refl)
behind_after (Err e) Is a h = (h, refl)

-- a file that is refused is the last that is read
pub file_stops : {A : Type 0} (told : Option (List Entry)) (before now : List Reading) (name : List ℕ) (kind : FileKind A) (files : List (List ℕ × ℕ))
    (Next : Origin → A → Answer → Type 0) (e : Refused) → IsRead told before now name kind (Err e)
    → Logged told before now ((name, kind.limit) ∷ files) (λ rs. Reads (by_log rs) name kind Next (Err e))
file_stops told before now name kind files Next e one =
    log_one told before now name kind.limit files _ (λ rs. Reads (by_log rs) name kind Next (Err e)) one
    (one.named, (one.holds.0, stop_after (judged_at kind one.reading.stage one.reading.given) e Next one.holds.1))

-- a reading that is accepted did not fail
pub accepted_well : {A : Type 0} (kind : FileKind A) (r : Reading) (x : A) → judged_at kind r.stage r.given ≡ Ok x → r.stage ≢ failed
accepted_well kind r x is =
    λ e. let broke : judged_at kind r.stage r.given ≡ Err (read_failed kind.file) = ap (λ s. judged_at kind s r.given) e in cc (is, broke)

-- after an accepted one, reading goes on
pub file_goes : {A : Type 0} (told : Option (List Entry)) (before mid now : List Reading) (name : List ℕ) (kind : FileKind A) (files : List (List ℕ × ℕ))
    (x : A) (Next : Origin → A → Answer → Type 0) (a : Answer) → IsRead told before mid name kind (Ok x)
    → Logged told mid now files (λ rs. Next (by_log rs) x a)
    → Logged told before now ((name, kind.limit) ∷ files) (λ rs. Reads (by_log rs) name kind Next a)
file_goes told before mid now name kind files x Next a one log =
    log_more told before mid now name kind.limit files _ (λ rs. Next (by_log rs) x a) (λ rs. Reads (by_log rs) name kind Next a) one log
    (accepted_well kind one.reading x one.holds.1)
    (one.named, (one.holds.0, then_after (judged_at kind one.reading.stage one.reading.given) x Next (by_log log.readings) a one.holds.1 log.holds))

-- the last file is accepted, and this is the answer
pub last_file : {A : Type 0} (told : Option (List Entry)) (before now : List Reading) (name : List ℕ) (kind : FileKind A) (x : A) (Is : A → Answer → Type 0) (a : Answer)
    → IsRead told before now name kind (Ok x) → Is x a
    → Logged told before now ((name, kind.limit) ∷ []) (λ rs. Reads (by_log rs) name kind (λ rest y. Ends (Is y) rest) a)
last_file told before now name kind x Is a one h =
    file_goes told before now now name kind [] x (λ rest y. Ends (Is y) rest) a one (log_same told now now [] (λ rs. Ends (Is x) (by_log rs) a) refl (h, refl))

-- the last file was read to its end, and this is the answer by its bytes
pub file_fed : {A : Type 0} (told : Option (List Entry)) (before now : List Reading) (name : List ℕ) (kind : FileKind A) (Done : List ℕ → Type 0) (Is : A → Answer → Type 0)
    (a : Answer) (one : WithFile told before now name kind.limit Done) → Behind Is (kind.rule one.reading.given) a
    → Logged told before now ((name, kind.limit) ∷ []) (λ rs. Reads (by_log rs) name kind (λ rest y. Ends (Is y) rest) a)
file_fed told before now name kind Done Is a one h =
    log_one told before now name kind.limit [] _ (λ rs. Reads (by_log rs) name kind (λ rest y. Ends (Is y) rest) a) one (
      one.named,
      (
        inr (inl (one.holds.0, one.holds.1.0)),
        subst (λ z. After (λ rest y. Ends (Is y) rest) (by_log []) z a)
            (sym (ap (λ s. judged_at kind s one.reading.given) one.holds.0 ∙ judged_within kind one.reading.given one.holds.1.0))
            (behind_after (kind.rule one.reading.given) Is a h),
      ),
    )

-- one file was read, whatever the result
pub any_log : (told : Option (List Entry)) (before now : List Reading) (name : List ℕ) (limit : ℕ) (files : List (List ℕ × ℕ)) (P : Reading → Type 0)
    → OneRead told before now name limit P → Logged told before now ((name, limit) ∷ files) (λ rs. Unit {0})
any_log told before now name limit files P one = log_one told before now name limit files P (λ rs. Unit {0}) one tt

-- files were read, the first of which was accepted
pub more_log : {A : Type 0} (told : Option (List Entry)) (before mid now : List Reading) (name : List ℕ) (kind : FileKind A) (files : List (List ℕ × ℕ)) (x : A)
    (R : List Reading → Type 0) → IsRead told before mid name kind (Ok x) → Logged told mid now files R
    → Logged told before now ((name, kind.limit) ∷ files) (λ rs. Unit {0})
more_log told before mid now name kind files x R one log =
    log_more told before mid now name kind.limit files _ R (λ rs. Unit {0}) one log (accepted_well kind one.reading x one.holds.1) tt

-- why a command has no answer, where a file is not accepted
pub file_by : {A : Type 0} (told : Option (List Entry)) (before now : List Reading) (name : List ℕ) (kind : FileKind A) (files : List (List ℕ × ℕ))
    (Next : Origin → A → Answer → Type 0) (fb fn : ℕ) (r : Refusal) → RefusesFile told before now name kind fb fn r
    → RefusesBy (λ x. Logged told before now ((name, kind.limit) ∷ files) (λ rs. Reads (by_log rs) name kind Next (Err x)))
    (Logged told before now ((name, kind.limit) ∷ files) (λ rs. Unit {0})) fb fn r
file_by told before now name kind files Next fb fn (Session e) h = file_stops told before now name kind files Next _ h
file_by told before now name kind files Next fb fn (Recording e) h = file_stops told before now name kind files Next _ h
file_by told before now name kind files Next fb fn (Order e) h = file_stops told before now name kind files Next _ h
file_by told before now name kind files Next fb fn (Stream e) h = file_stops told before now name kind files Next _ h
file_by told before now name kind files Next fb fn (ReadFailed file) h = (h.0, file_stops told before now name kind files Next _ h.1)
file_by told before now name kind files Next fb fn NoMemory (inl same) = log_same told before now ((name, kind.limit) ∷ files) (λ rs. Unit {0}) same tt
file_by told before now name kind files Next fb fn NoMemory (inr one) = any_log told before now name kind.limit files _ one
file_by told before now name kind files Next fb fn (TooLong what) h = file_stops told before now name kind files Next _ h

-- memory ran out
pub memory_by : (P : Refused → Type 0) (Read : Type 0) (fb fn : ℕ) (r : Refusal) → r ≡ NoMemory → Read → RefusesBy P Read fb fn r
memory_by P Read fb fn r is h = subst (λ (x : Refusal). RefusesBy P Read fb fn x) (sym is) h

-- the reason that a part has none is that of the whole
pub by_map : (P Q : Refused → Type 0) (Read More : Type 0) (fb fm fn : ℕ) (r : Refusal) → fb ≤ fm → ((x : Refused) → P x → Q x) → (Read → More)
    → RefusesBy P Read fm fn r → RefusesBy Q More fb fn r
by_map P Q Read More fb fm fn (Session e) le f m h = f (refusal_view (Session e)) h
by_map P Q Read More fb fm fn (Recording e) le f m h = f (refusal_view (Recording e)) h
by_map P Q Read More fb fm fn (Order e) le f m h = f (refusal_view (Order e)) h
by_map P Q Read More fb fm fn (Stream e) le f m h = f (refusal_view (Stream e)) h
by_map P Q Read More fb fm fn (ReadFailed file) le f m h = (omega (arith, le, h.0), f (refusal_view (ReadFailed file)) h.1)
by_map P Q Read More fb fm fn NoMemory le f m h = m h
by_map P Q Read More fb fm fn (TooLong what) le f m h = f (refusal_view (TooLong what)) h

-- what is judged without a file is refused
pub so_by : (P Q : Refused → Type 0) (More : Type 0) (fb fn : ℕ) (r : Refusal) → ((x : Refused) → P x → Q x) → More → RefusesSo P r → RefusesBy Q More fb fn r
so_by P Q More fb fn (Session e) f m h = f (refusal_view (Session e)) h
so_by P Q More fb fn (Recording e) f m h = f (refusal_view (Recording e)) h
so_by P Q More fb fn (Order e) f m h = f (refusal_view (Order e)) h
so_by P Q More fb fn (Stream e) f m h = f (refusal_view (Stream e)) h
so_by P Q More fb fn (ReadFailed file) f m h = absurd h
so_by P Q More fb fn NoMemory f m h = m
so_by P Q More fb fn (TooLong what) f m h = f (refusal_view (TooLong what)) h

-- the last file is accepted, and its result is refused
pub last_by : {A : Type 0} (told : Option (List Entry)) (before now : List Reading) (name : List ℕ) (kind : FileKind A) (x : A) (Is : A → Answer → Type 0)
    (fb fn : ℕ) (r : Refusal) → IsRead told before now name kind (Ok x) → RefusesSo (λ e. Is x (Err e)) r
    → RefusesBy (λ e. Logged told before now ((name, kind.limit) ∷ []) (λ rs. Reads (by_log rs) name kind (λ rest y. Ends (Is y) rest) (Err e)))
    (Logged told before now ((name, kind.limit) ∷ []) (λ rs. Unit {0})) fb fn r
last_by told before now name kind x Is fb fn r one h =
    so_by (λ e. Is x (Err e)) _ _ fb fn r (λ e is. last_file told before now name kind x Is (Err e) one is) (any_log told before now name kind.limit [] _ one) h

-- a file is accepted, and what follows it is refused
pub then_by : {A : Type 0} (told : Option (List Entry)) (before mid now : List Reading) (name : List ℕ) (kind : FileKind A) (files : List (List ℕ × ℕ)) (x : A)
    (Next : Origin → A → Answer → Type 0) (fb fm fn : ℕ) (r : Refusal) → fb ≤ fm → IsRead told before mid name kind (Ok x)
    → RefusesBy (λ e. Logged told mid now files (λ rs. Next (by_log rs) x (Err e))) (Logged told mid now files (λ rs. Unit {0})) fm fn r
    → RefusesBy (λ e. Logged told before now ((name, kind.limit) ∷ files) (λ rs. Reads (by_log rs) name kind Next (Err e)))
    (Logged told before now ((name, kind.limit) ∷ files) (λ rs. Unit {0})) fb fn r
then_by told before mid now name kind files x Next fb fm fn r le one h =
    by_map _ _ _ _ fb fm fn r le (λ e log. file_goes told before mid now name kind files x Next (Err e) one log)
    (λ log. more_log told before mid now name kind files x _ one log) h

after_told : {A : Type 0} (es : List Entry) (rs : List Reading) (y : Result A Refused) (Next : Origin → A → Answer → Type 0) (a : Answer)
    → ((x : A) → Next (by_log rs) x a → Next (by_name es) x a) → After Next (by_log rs) y a → After Next (by_name es) y a
after_told es rs (Ok x) Next a f h = f x h
after_told es rs (Err e) Next a f h = (h.0, tt)

gave_told : {A : Type 0} (es : List Entry) (name : List ℕ) (kind : FileKind A) (Next : Origin → A → Answer → Type 0) (r : Reading) (rs : List Reading) (a : Answer)
    → Agrees (bytes_of es name) r → ((x : A) → Next (by_log rs) x a → Next (by_name es) x a) → OfContents a → IsEnough kind.limit r
    → After Next (by_log rs) (judged_at kind r.stage r.given) a → Reads (by_name es) name kind Next a
gave_told es name kind Next r rs a agree f sound (inl e) h =
    absurd (subst OfContents (subst (λ s. After Next (by_log rs) (judged_at kind s r.given) a) e h).0 sound refl)
gave_told es name kind Next r rs a agree f sound (inr enough) h =
    some_map (bytes_of es name) (λ bytes. judged kind bytes ≡ judged_at kind r.stage r.given) (λ bytes. After Next (by_name es) (judged kind bytes) a)
    (λ bytes same. subst (λ z. After Next (by_name es) z a) (sym same) (after_told es rs (judged_at kind r.stage r.given) Next a f h))
    (enough_told kind (bytes_of es name) r agree enough)

-- what holds for what was read holds for the files, which agree with it, if no file could not be read
pub reads_told : {A : Type 0} (es : List Entry) (name : List ℕ) (kind : FileKind A) (Next : Origin → A → Answer → Type 0) (rs : List Reading) (a : Answer)
    → AllAgree es rs → OfContents a → ((ys : List Reading) → AllAgree es ys → (x : A) → Next (by_log ys) x a → Next (by_name es) x a)
    → Reads (by_log rs) name kind Next a → Reads (by_name es) name kind Next a
reads_told es name kind Next [] a agree sound f h = absurd h
reads_told es name kind Next (r ∷ rs) a agree sound f h =
    gave_told es name kind Next r rs a (subst (λ (n : List ℕ). Agrees (bytes_of es n) r) h.0 agree.0) (f rs agree.1) sound h.1.0 h.1.1

gave_well : (limit : ℕ) (r : Reading) → GaveEnough limit r → r.stage ≢ failed
gave_well limit r (inl h) = λ e. cc (h.0, e)
gave_well limit r (inr h) = λ e. cc (h.0, e)

after_well : {A : Type 0} (rs : List Reading) (y : Result A Refused) (Next : Origin → A → Answer → Type 0) (a : Answer)
    → ((x : A) → Next (by_log rs) x a → NoneFailed rs) → After Next (by_log rs) y a → NoneFailed rs
after_well rs (Ok x) Next a f h = f x h
after_well rs (Err e) Next a f h = subst NoneFailed (sym h.1) tt

enough_well : {A : Type 0} (kind : FileKind A) (r : Reading) (rs : List Reading) (Next : Origin → A → Answer → Type 0) (a : Answer)
    → OfContents a → IsEnough kind.limit r → After Next (by_log rs) (judged_at kind r.stage r.given) a → r.stage ≢ failed
enough_well kind r rs Next a sound (inl e) h =
    absurd (subst OfContents (subst (λ s. After Next (by_log rs) (judged_at kind s r.given) a) e h).0 sound refl)
enough_well kind r rs Next a sound (inr enough) h = gave_well kind.limit r enough

-- nothing failed, if the answer is not for a file that could not be read
pub reads_well : {A : Type 0} (name : List ℕ) (kind : FileKind A) (Next : Origin → A → Answer → Type 0) (rs : List Reading) (a : Answer)
    → OfContents a → ((ys : List Reading) (x : A) → Next (by_log ys) x a → NoneFailed ys) → Reads (by_log rs) name kind Next a → NoneFailed rs
reads_well name kind Next [] a sound f h = absurd h
reads_well name kind Next (r ∷ rs) a sound f h =
    (enough_well kind r rs Next a sound h.1.0 h.1.1, after_well rs (judged_at kind r.stage r.given) Next a (f rs) h.1.1)
