-- Texts that grow by lines.
use Rattle.std.proofs.Common.{◌≡◌, ℕ, List, [], ◌∷◌, ◌++◌, flat_map, Result, Ok, Err, IfOk, sym, ap, ◌∙◌, append-nil, append_assoc}
use Rattle.std.proofs.lemmas.List.Concat.{flat_map-append}
use Rattle.why_text.specs.Text.{line}
use Rattle.why_lines.specs.Growing.{with_lines}

-- one line is put behind a text
pub one_line : (t : ℕ) (words text : List ℕ) → text ++ line t words ≡ with_lines t (words ∷ []) text
one_line t words text = ap (λ xs. text ++ xs) (sym (append-nil (line t words)))

-- no line is
pub no_line : (t : ℕ) (text : List ℕ) → text ≡ with_lines t [] text
no_line t text = sym (append-nil text)

-- lines behind lines
pub more_lines : (t : ℕ) (a b : List (List ℕ)) (text : List ℕ) → with_lines t b (with_lines t a text) ≡ with_lines t (a ++ b) text
more_lines t a b text =
    append_assoc text (flat_map (line t) a) (flat_map (line t) b) ∙ ap (λ xs. text ++ xs) (sym (flat_map-append (line t) a b))

-- a text that became another one became what that is
pub same_after : {T E : Type 0} (r : Result T E) (new some all : List ℕ) → IfOk r (λ x. new ≡ some) → some ≡ all → IfOk r (λ x. new ≡ all)
same_after (Ok x) new some all h e = h ∙ e
same_after (Err x) new some all h e = tt

-- what follows from a result
pub if_then : {T E : Type 0} (r : Result T E) (P Q : T → Type 0) → IfOk r P → ((x : T) → P x → Q x) → IfOk r Q
if_then (Ok x) P Q p f = f x p
if_then (Err x) P Q p f = tt
