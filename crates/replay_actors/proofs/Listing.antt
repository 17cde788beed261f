-- Lists of calls by what they are.
use mathlib.Core.List.{reverse-cons}
use Rattle.std.proofs.Common.{◌≡◌, Bool, false, cond, List, [], ◌∷◌, ◌++◌, map, filter, reverse, refl, ap, ◌∙◌, append_assoc}
use Rattle.replay_actors.specs.Race.{Each}

module _ {A : Type 0} where
  -- the first of a list comes last in the reverse
  pub reverse_then : (x : A) (xs ys : List A) → reverse (x ∷ xs) ++ ys ≡ reverse xs ++ x ∷ ys
  reverse_then x xs ys = ap (λ zs. zs ++ ys) (reverse-cons x xs) ∙ append_assoc (reverse xs) (x ∷ []) ys

  pub each_append : (P : A → Type 0) (xs ys : List A) → Each P xs → Each P ys → Each P (xs ++ ys)
  each_append P [] ys a b = b
  each_append P (x ∷ xs) ys a b = (a.0, each_append P xs ys a.1 b)

  pub each_reverse : (P : A → Type 0) (xs : List A) → Each P xs → Each P (reverse xs)
  each_reverse P [] a = tt
  each_reverse P (x ∷ xs) a = let e = reverse-cons x xs in rw e (each_append P (reverse xs) (x ∷ []) (each_reverse P xs a.1) (a.0, tt))

  -- what the parts of a list have
  pub each_first : (P : A → Type 0) (xs ys : List A) → Each P (xs ++ ys) → Each P xs
  each_first P [] ys a = tt
  each_first P (x ∷ xs) ys a = (a.0, each_first P xs ys a.1)

  pub each_last : (P : A → Type 0) (xs ys : List A) → Each P (xs ++ ys) → Each P ys
  each_last P [] ys a = a
  each_last P (x ∷ xs) ys a = each_last P xs ys a.1

  -- what each has follows from what each has
  pub each_map : (P Q : A → Type 0) → ((x : A) → P x → Q x) → (xs : List A) → Each P xs → Each Q xs
  each_map P Q f [] a = tt
  each_map P Q f (x ∷ xs) a = (f x a.0, each_map P Q f xs a.1)

  -- a filter that takes none
  pub filter_nothing : (p : A → Bool) (xs : List A) → Each (λ x. p x ≡ false) xs → filter p xs ≡ []
  filter_nothing p [] a = refl
  filter_nothing p (x ∷ xs) a = ap (λ b. cond b (x ∷ filter p xs) (filter p xs)) a.0 ∙ filter_nothing p xs a.1

module _ {A B : Type 0} where
  pub each_under : (f : A → B) (P : B → Type 0) (xs : List A) → Each P (map f xs) → Each (λ x. P (f x)) xs
  each_under f P [] a = tt
  each_under f P (x ∷ xs) a = (a.0, each_under f P xs a.1)

  pub each_over : (f : A → B) (P : B → Type 0) (xs : List A) → Each (λ x. P (f x)) xs → Each P (map f xs)
  each_over f P [] a = tt
  each_over f P (x ∷ xs) a = (a.0, each_over f P xs a.1)

pub map_map : {A B C : Type 0} (f : A → B) (g : B → C) (xs : List A) → map g (map f xs) ≡ map (λ x. g (f x)) xs
map_map f g [] = refl
map_map f g (x ∷ xs) = ap (λ ys. g (f x) ∷ ys) (map_map f g xs)
