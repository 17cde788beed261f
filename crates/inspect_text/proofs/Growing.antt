-- Texts that grow, part by part.
use Rattle.std.proofs.Common.{◌≡◌, ℕ, List, ◌++◌, Result, Ok, Err, IfOk, ◌∙◌, append_assoc}

-- what was added last makes the whole
pub grown : {T E : Type 0} (r : Result T E) (new old words all : List ℕ) → IfOk r (λ x. new ≡ old ++ words) → old ++ words ≡ all → IfOk r (λ x. new ≡ all)
grown (Ok x) new old words all h e = h ∙ e
grown (Err x) new old words all h e = tt

pub regroup_device : (text device kind events more a b c : List ℕ)
    → ((((text ++ device) ++ kind) ++ events) ++ more) ++ ((a ++ b) ++ c) ≡ text ++ ((((((device ++ kind) ++ events) ++ more) ++ a) ++ b) ++ c)
regroup_device text device kind events more a b c = simp append_assoc

pub regroup_three : (text a b c : List ℕ) → ((text ++ a) ++ b) ++ c ≡ text ++ ((a ++ b) ++ c)
regroup_three text a b c = simp append_assoc

pub regroup_four : (text a b c d : List ℕ) → (((text ++ a) ++ b) ++ c) ++ d ≡ text ++ (((a ++ b) ++ c) ++ d)
regroup_four text a b c d = simp append_assoc

pub regroup_all : (text recording steps keys a b c d e f : List ℕ)
    → ((((text ++ recording) ++ steps) ++ keys) ++ (((a ++ b) ++ c) ++ d)) ++ (e ++ f)
    ≡ text ++ ((((((((recording ++ steps) ++ keys) ++ a) ++ b) ++ c) ++ d) ++ e) ++ f)
regroup_all text recording steps keys a b c d e f = simp append_assoc

pub regroup_two : (text a b : List ℕ) → (text ++ a) ++ b ≡ text ++ (a ++ b)
regroup_two text a b = append_assoc text a b

pub regroup_number : (text front device words n end : List ℕ) → ((text ++ (front ++ device)) ++ (words ++ n)) ++ end ≡ text ++ ((((front ++ device) ++ words) ++ n) ++ end)
regroup_number text front device words n end = simp append_assoc
