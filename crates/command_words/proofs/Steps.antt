-- One more option is looked at.
use Rattle.std.proofs.Common.{◌≡◌, ◌∙◌, ℕ, ◌+◌, List, [], ◌∷◌, ◌++◌, length, take, Option, None, ap, sym, length-append}
use Rattle.std.proofs.Math.Seq.{append_snoc, take-append-add}
use Rattle.help_text.specs.declared.page.Name.{Name}
use Rattle.command_words.specs.Fault.{Fault, option_fault, options_fault, or_else}
use Rattle.command_words.specs.Spelled.{Spelled}

one_more : (all front behind : List Spelled) (s : Spelled) (k : ℕ) → front ++ s ∷ behind ≡ all → length front ≡ k → take (k + 1) all ≡ front ++ s ∷ []
one_more all front behind s k is counted = rw (sym is, sym counted) (take-append-add front (s ∷ behind) 1)

pub next_all : (all rest behind : List Spelled) (s : Spelled) (k : ℕ) → take k all ++ rest ≡ all → rest ≡ s ∷ behind → length (take k all) ≡ k
    → take (k + 1) all ++ behind ≡ all
next_all all rest behind s k is first counted =
    ap (λ front. front ++ behind) (one_more all (take k all) behind s k (sym (ap (λ r. take k all ++ r) first) ∙ is) counted)
    ∙ (append_snoc (take k all) s behind ∙ (sym (ap (λ r. take k all ++ r) first) ∙ is))

pub next_counted : (all rest behind : List Spelled) (s : Spelled) (k : ℕ) → take k all ++ rest ≡ all → rest ≡ s ∷ behind → length (take k all) ≡ k
    → length (take (k + 1) all) ≡ k + 1
next_counted all rest behind s k is first counted =
    ap length (one_more all (take k all) behind s k (sym (ap (λ r. take k all ++ r) first) ∙ is) counted)
    ∙ (length-append (take k all) (s ∷ []) ∙ ap (λ n. n + 1) counted)

pub next_fault : (name : Name) (all rest behind : List Spelled) (s : Spelled) (k : ℕ) (fault : Option Fault)
    → take k all ++ rest ≡ all → rest ≡ s ∷ behind → length (take k all) ≡ k
    → options_fault name (take k all) rest ≡ fault → option_fault name (take k all) s ≡ None
    → options_fault name (take (k + 1) all) behind ≡ fault
next_fault name all rest behind s k fault is first counted so none =
    ap (λ front. options_fault name front behind) (one_more all (take k all) behind s k (sym (ap (λ r. take k all ++ r) first) ∙ is) counted)
    ∙ (sym (ap (options_fault name (take k all)) first ∙ ap (λ f. or_else f (options_fault name (take k all ++ s ∷ []) behind)) none) ∙ so)
