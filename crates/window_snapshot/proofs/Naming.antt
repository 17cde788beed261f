-- Channels that a list of windows names.
use Rattle.std.proofs.Common.{◌≡◌, ℕ, Bool, true, false, cond, List, [], ◌∷◌, refl, ap, sym, ◌∙◌, inl, inr}
use Rattle.std.specs.Prelude.{◌==◌, filter, Option, Some, option_map}
use Rattle.std.specs.List.{find}
use Rattle.std.proofs.lemmas.Bool.{eqb-true, or_cases}
use Rattle.window_snapshot.specs.declared.window.Window.{Window}
use Rattle.window_snapshot.specs.Named.{is_named}

named_passes_at :
    (p : Window → Bool)
    → (q : ℕ → Bool)
    → ((w : Window) → p w ≡ true → q w.channel ≡ true)
    → (c : ℕ)
    → (w : Window)
    → (ws : List Window)
    → (is_named ws c ≡ true → q c ≡ true)
    → (b : Bool)
    → p w ≡ b
    → is_named (cond b (w ∷ ws) ws) c ≡ true
    → q c ≡ true
named_passes_at p q passes c w ws rest true e named =
    elim (or_cases (w.channel == c) (is_named ws c) named) [
      | inl here ↦ ap q (sym (eqb-true w.channel c here)) ∙ passes w e
      | inr later ↦ rest later
    ]
named_passes_at p q passes c w ws rest false e named = rest named

-- what holds of the channels of the windows that pass holds of each that they name
pub named_passes :
    (p : Window → Bool)
    → (q : ℕ → Bool)
    → ((w : Window) → p w ≡ true → q w.channel ≡ true)
    → (c : ℕ)
    → (ws : List Window)
    → is_named (filter p ws) c ≡ true
    → q c ≡ true
named_passes p q passes c [] named = cc
named_passes p q passes c (w ∷ ws) named =
    named_passes_at p q passes c w (filter p ws) (named_passes p q passes c ws) (p w) refl named

found_passes_at :
    (p : Window → Bool)
    → (q : ℕ → Bool)
    → ((w : Window) → p w ≡ true → q w.channel ≡ true)
    → (c : ℕ)
    → (w : Window)
    → (o : Option Window)
    → (option_map (λ w. w.channel) o ≡ Some c → q c ≡ true)
    → (b : Bool)
    → p w ≡ b
    → option_map (λ w. w.channel) (cond b (Some w) o) ≡ Some c
    → q c ≡ true
found_passes_at p q passes c w o rest true e found =
    let same : w.channel ≡ c = cc in
    ap q (sym same) ∙ passes w e
found_passes_at p q passes c w o rest false e found = rest found

-- what holds of the channels of the windows that pass holds of that of the first of them
pub found_passes :
    (p : Window → Bool)
    → (q : ℕ → Bool)
    → ((w : Window) → p w ≡ true → q w.channel ≡ true)
    → (c : ℕ)
    → (ws : List Window)
    → option_map (λ w. w.channel) (find p ws) ≡ Some c
    → q c ≡ true
found_passes p q passes c [] found = cc
found_passes p q passes c (w ∷ ws) found =
    found_passes_at p q passes c w (find p ws) (found_passes p q passes c ws) (p w) refl found
