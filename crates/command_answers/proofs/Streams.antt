-- The answer for a stream file, by the result for its bytes.
use Rattle.std.proofs.Common.{◌≡◌, ℕ, List, [], ◌∷◌, Option, Result, Ok, Err, IfOk, IfErr, subst, sym}
use Rattle.outside_io.specs.Trace.{Reading}
use Rattle.outside_io.specs.Outside.{Entry}
use Rattle.command_files.specs.declared.refusal.Refusal.{Refusal}
use Rattle.command_files.specs.Inputs.{stream_file, stream_limit}
use Rattle.command_files.specs.Judged.{Answer, Ends, Reads, by_log}
use Rattle.command_files.specs.Logged.{IsRead, Logged, RefusesBy, RefusesFile}
use Rattle.command_files.specs.Refusing.{RefusesSo}
use Rattle.command_files.proofs.Logs.{file_by, last_by, last_file}
use Rattle.command_files.proofs.Outcomes.{if_err_map, if_ok_map}

-- the file is not accepted
pub stream_stops : (told : Option (List Entry)) (before now : List Reading) (name : List ℕ) (Is : List ℕ → Answer → Type 0) (fb fn : ℕ) (r : Refusal)
    → RefusesFile told before now name stream_file fb fn r
    → RefusesBy (λ x. Logged told before now ((name, stream_limit) ∷ []) (λ rs. Reads (by_log rs) name stream_file (λ rest y. Ends (Is y) rest) (Err x)))
    (Logged told before now ((name, stream_limit) ∷ []) (λ rs. Unit {0})) fb fn r
stream_stops told before now name Is fb fn r h = file_by told before now name stream_file [] (λ rest bytes. Ends (Is bytes) rest) fb fn r h

-- the file is accepted, and this is the text for its bytes
pub stream_sent : (told : Option (List Entry)) (before now : List Reading) (name given bytes : List ℕ) (Is : List ℕ → Answer → Type 0)
    (r : Result (List ℕ) Refusal) → bytes ≡ given → IsRead told before now name stream_file (Ok given) → IfOk r (λ text. Is bytes (Ok text))
    → IfOk r (λ text. Logged told before now ((name, stream_limit) ∷ []) (λ rs. Reads (by_log rs) name stream_file (λ rest y. Ends (Is y) rest) (Ok text)))
stream_sent told before now name given bytes Is r same one ok =
    if_ok_map r _ _
    (λ text h.
    last_file told before now name stream_file bytes Is (Ok text) (subst (λ (bs : List ℕ). IsRead told before now name stream_file (Ok bs)) (sym same) one) h)
    ok

-- the file is accepted, and the result for its bytes is a refusal
pub stream_refused : (told : Option (List Entry)) (before now : List Reading) (name given bytes : List ℕ) (Is : List ℕ → Answer → Type 0) (fb fn : ℕ)
    (r : Result (List ℕ) Refusal) → bytes ≡ given → IsRead told before now name stream_file (Ok given) → IfErr r (RefusesSo (λ e. Is bytes (Err e)))
    → IfErr r
    (RefusesBy (λ x. Logged told before now ((name, stream_limit) ∷ []) (λ rs. Reads (by_log rs) name stream_file (λ rest y. Ends (Is y) rest) (Err x)))
    (Logged told before now ((name, stream_limit) ∷ []) (λ rs. Unit {0})) fb fn)
stream_refused told before now name given bytes Is fb fn r same one err =
    if_err_map r _ _
    (λ e h.
    last_by told before now name stream_file bytes Is fb fn e (subst (λ (bs : List ℕ). IsRead told before now name stream_file (Ok bs)) (sym same) one) h)
    err
