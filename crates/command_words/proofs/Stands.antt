-- Options that stand, and their values.
use Rattle.std.proofs.Common.{◌≡◌, ℕ, List, [], ◌∷◌, Bool, true, false, Option, Some, None, IfSome, IfNone, refl, sym, ◌∙◌}
use Rattle.std.specs.Prelude.{bytes_eq, is_some, not}
use Rattle.command_words.specs.Given.{Given}
use Rattle.command_words.specs.Options.{stands_in, values_of}

-- a list has no element
abbrev pub none_of : List (List ℕ) → Bool
none_of [] = true
none_of (v ∷ vs) = false

-- an option stands exactly where it has a value
pub stands_values : (options : List Given) (name : List ℕ) → stands_in options name ≡ not (none_of (values_of options name))
stands_values [] name = refl
stands_values (o ∷ options) name = go (bytes_eq o.name name) refl (stands_values options name)
  where
    go : (t : Bool) → bytes_eq o.name name ≡ t → stands_in options name ≡ not (none_of (values_of options name))
        → stands_in (o ∷ options) name ≡ not (none_of (values_of (o ∷ options) name))
    go true e rest = rw e refl
    go false e rest = rw e rest

-- by what was found of it
pub stands_found : {A : Type 0} (options : List Given) (name : List ℕ) (found : Option A) (value : A → List ℕ) (others : A → List (List ℕ))
    → IfSome found (λ r. values_of options name ≡ value r ∷ others r) → IfNone found (values_of options name ≡ [])
    → is_some found ≡ stands_in options name
stands_found options name (Some r) value others some none = sym (stands_values options name ∙ rw some refl)
stands_found options name None value others some none = sym (stands_values options name ∙ rw none refl)
