-- A stream file of which only the length was checked, as one of a kind whose lines are checked.
use Rattle.std.proofs.Common.{◌≡◌, ◌∙◌, ◌≤◌, ℕ, Bool, true, false, List, length, nat_le, cond, Option, Result, Ok, Err, refl, sym, ap, subst, inl, inr, arith}
use Rattle.std.proofs.lemmas.Bool.{leb-true}
use Rattle.compare_text.specs.Points.{Section}
use Rattle.outside_io.specs.Trace.{Reading, at_end}
use Rattle.outside_io.specs.Outside.{Entry}
use Rattle.command_files.specs.declared.refusal.Refusal.{Refusal}
use Rattle.command_files.specs.declared.refusal.Refusal.TheVariants.{Session, Recording, Order, Stream, ReadFailed, NoMemory, TooLong}
use Rattle.command_files.specs.Inputs.{sections_file, stream_kind, stream_limit}
use Rattle.command_files.specs.Judged.{IsEnough, judged, judged_at}
use Rattle.command_files.specs.Logged.{IsRead, IsWhole, RefusesFile}
use Rattle.command_files.specs.Refused.{Refused, read_failed, too_long}
use Rattle.command_files.specs.RefusalView.{input_word, subject_of, subject_word}
use Rattle.command_files.specs.declared.refusal.Input.{Input}
use Rattle.command_files.proofs.FileJudged.{read_map}

abbrev ok_of : List ℕ → Result (List ℕ) Refused
ok_of bytes = Ok bytes

abbrev none_of : Refused → Result (List Section) Refused
none_of e = Err e

accepted : (size limit : ℕ) (b : Bool) (given bytes : List ℕ) (e : Refused) → nat_le size limit ≡ b → cond b (ok_of given) (Err e) ≡ Ok bytes
    → (size ≤ limit) × (given ≡ bytes)
accepted size limit true given bytes e le is = (leb-true size limit le, let same : given ≡ bytes = cc in same)
accepted size limit false given bytes e le is = absurd (cc)

whole_of : (file : Input) (r : Reading) (bytes : List ℕ) → IsEnough stream_limit r → judged_at (stream_kind file) r.stage r.given ≡ Ok bytes
    → (r.stage ≡ at_end) × ((r.given ≡ bytes) × (length bytes ≤ stream_limit))
whole_of file r bytes (inl e) is =
    absurd (
    let broke : judged_at (stream_kind file) r.stage r.given ≡ Err (read_failed (input_word file)) = ap (λ s. judged_at (stream_kind file) s r.given) e in
    cc (is, broke)
    )
whole_of file r bytes (inr (inl h)) is =
    let all : (length r.given ≤ stream_limit) × (r.given ≡ bytes) =
    accepted (length r.given) stream_limit (nat_le (length r.given) stream_limit) r.given bytes (too_long (subject_word (subject_of file))) refl
    (sym (ap (λ s. judged_at (stream_kind file) s r.given) h.0) ∙ is) in
    (h.0, (all.1, subst (λ (xs : List ℕ). length xs ≤ stream_limit) all.1 all.0))
whole_of file r bytes (inr (inr h)) is =
    let all : (length r.given ≤ stream_limit) × (r.given ≡ bytes) =
    accepted (length r.given) stream_limit (nat_le (length r.given) stream_limit) r.given bytes (too_long (subject_word (subject_of file))) refl
    (sym (ap (λ s. judged_at (stream_kind file) s r.given) h.0) ∙ is) in
    absurd (omega (arith, h.1, all.0))

-- one that was accepted was read to its end
pub stream_whole : (told : Option (List Entry)) (before now : List Reading) (name bytes : List ℕ) (file : Input)
    → IsRead told before now name (stream_kind file) (Ok bytes) → IsWhole told before now name stream_limit bytes
stream_whole told before now name bytes file one =
    read_map told before now name stream_limit (λ r. IsEnough stream_limit r × (judged_at (stream_kind file) r.stage r.given ≡ Ok bytes))
    (λ r. (r.stage ≡ at_end) × ((r.given ≡ bytes) × (length bytes ≤ stream_limit))) (λ r h. whole_of file r bytes h.0 h.1) one

cut_same : (b : Bool) (given : List ℕ) (other : Result (List Section) Refused) (long e : Refused) → cond b (ok_of given) (Err long) ≡ Err e
    → cond b other (Err long) ≡ Err e
cut_same true given other long e is = absurd (cc)
cut_same false given other long e is = let same : long ≡ e = cc in subst (λ (x : Refused). none_of long ≡ none_of x) same refl

same_cut : (file : Input) (Bad : ℕ → Refused) (given : List ℕ) (e : Refused) → judged (stream_kind file) given ≡ Err e → judged (sections_file file Bad) given ≡ Err e
same_cut file Bad given e is =
    cut_same (nat_le (length given) stream_limit) given ((sections_file file Bad).rule given) (too_long (subject_word (subject_of file))) e is

cut_of : (file : Input) (Bad : ℕ → Refused) (r : Reading) (e : Refused) → IsEnough stream_limit r → judged_at (stream_kind file) r.stage r.given ≡ Err e
    → judged_at (sections_file file Bad) r.stage r.given ≡ Err e
cut_of file Bad r e (inl h) is =
    ap (λ s. judged_at (sections_file file Bad) s r.given) h ∙ (
    let broke : judged_at (stream_kind file) r.stage r.given ≡ Err (read_failed (input_word file)) = ap (λ s. judged_at (stream_kind file) s r.given) h in
    let same : read_failed (input_word file) ≡ e = cc (is, broke) in
    subst (λ (x : Refused). none_of (read_failed (input_word file)) ≡ none_of x) same refl
    )
cut_of file Bad r e (inr (inl h)) is =
    ap (λ s. judged_at (sections_file file Bad) s r.given) h.0
    ∙ same_cut file Bad r.given e (sym (ap (λ s. judged_at (stream_kind file) s r.given) h.0) ∙ is)
cut_of file Bad r e (inr (inr h)) is =
    ap (λ s. judged_at (sections_file file Bad) s r.given) h.0
    ∙ same_cut file Bad r.given e (sym (ap (λ s. judged_at (stream_kind file) s r.given) h.0) ∙ is)

-- one that was too long or could not be read is so as a file of the other kind
pub stream_cut : (told : Option (List Entry)) (before now : List Reading) (name : List ℕ) (file : Input) (Bad : ℕ → Refused) (e : Refused)
    → IsRead told before now name (stream_kind file) (Err e) → IsRead told before now name (sections_file file Bad) (Err e)
stream_cut told before now name file Bad e one =
    read_map told before now name stream_limit (λ r. IsEnough stream_limit r × (judged_at (stream_kind file) r.stage r.given ≡ Err e))
    (λ r. IsEnough stream_limit r × (judged_at (sections_file file Bad) r.stage r.given ≡ Err e)) (λ r h. (h.0, cut_of file Bad r e h.0 h.1)) one

-- why it is not accepted
pub stream_refuses : (told : Option (List Entry)) (before now : List Reading) (name : List ℕ) (file : Input) (Bad : ℕ → Refused) (fb fn : ℕ) (r : Refusal)
    → RefusesFile told before now name (stream_kind file) fb fn r → RefusesFile told before now name (sections_file file Bad) fb fn r
stream_refuses told before now name file Bad fb fn (Session e) h = stream_cut told before now name file Bad _ h
stream_refuses told before now name file Bad fb fn (Recording e) h = stream_cut told before now name file Bad _ h
stream_refuses told before now name file Bad fb fn (Order e) h = stream_cut told before now name file Bad _ h
stream_refuses told before now name file Bad fb fn (Stream e) h = stream_cut told before now name file Bad _ h
stream_refuses told before now name file Bad fb fn (ReadFailed what) h = (h.0, stream_cut told before now name file Bad _ h.1)
stream_refuses told before now name file Bad fb fn NoMemory h = h
stream_refuses told before now name file Bad fb fn (TooLong what) h = stream_cut told before now name file Bad _ h
