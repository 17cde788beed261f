-- The first option of words.
use Rattle.std.proofs.Common.{◌≡◌, ℕ, List, [], ◌∷◌, true, false, Option, Some, None, option_map, map, length, refl, sym, ap, ◌∙◌, ◌==◌, ◌⊎◌, inl, inr, arith, rules, String, Global}
use Rattle.std.specs.Prelude.{IsSome, is_some, unwrap_or, bytes_eq, string_bytes}
use Rattle.std.proofs.lemmas.Bool.{false≢true}
use Rattle.std.proofs.lemmas.Bool.Decides.{nat_tests}
use Rattle.help_text.specs.declared.page.Name.{Name}
use Rattle.command_words.specs.Forms.{all_own}
use Rattle.command_words.specs.Given.{Given}
use Rattle.command_words.specs.Names.{is_own}
use Rattle.command_words.specs.Options.{has_equals, joined, options_of, values_of}

-- a word with a `=` is an option in front of those of the other words
pub joined_first : (word : List ℕ) (words : List (List ℕ)) → has_equals word ≡ true
    → options_of (word ∷ words) ≡ option_map (λ more. joined word ∷ more) (options_of words)
joined_first word [] h = rw h refl
joined_first word (next ∷ words) h = rw h refl

-- two words, the first without a `=`, are an option in front of those of the other words
pub paired_first : (name value : List ℕ) (words : List (List ℕ)) → has_equals name ≡ false
    → options_of (name ∷ value ∷ words) ≡ option_map (λ more. record { name = name; value = value } ∷ more) (options_of words)
paired_first name value words without = rw without refl

-- the same, of words that are said otherwise
pub with_joined : (words : List (List ℕ)) (word : List ℕ) (rest : List (List ℕ)) (given : Given) → words ≡ word ∷ rest
    → has_equals word ≡ true → given ≡ joined word → options_of words ≡ option_map (λ more. given ∷ more) (options_of rest)
with_joined words word rest given are equals is = rw (are, is) (joined_first word rest equals)

-- words spell options if the words after their first option do
pub next_some : (all rest : Option (List Given)) (given : Given) → all ≡ option_map (λ more. given ∷ more) rest → is_some rest ≡ is_some all
next_some all None given are = rw are refl
next_some all (Some more) given are = rw are refl

-- words that spell options, and one of the options: the words after it spell the others
pub next_spelled : (all rest : Option (List Given)) (given : Given) → all ≡ option_map (λ more. given ∷ more) rest → IsSome all → IsSome rest
next_spelled all None given are h = rw are at h
next_spelled all (Some more) given are h = search rules

pub next_given : (all rest : Option (List Given)) (given : Given) → all ≡ option_map (λ more. given ∷ more) rest → IsSome all
    → unwrap_or all [] ≡ given ∷ unwrap_or rest []
next_given all None given are h = absurd (false≢true (rw are at h))
next_given all (Some more) given are h = rw are refl

-- the values of the options with a name, if the first has it, and if it has another
pub named_first : (given : Given) (more : List Given) (name : List ℕ) → bytes_eq given.name name ≡ true
    → values_of (given ∷ more) name ≡ given.value ∷ values_of more name
named_first given more name h = rw h refl

pub others_first : (given : Given) (more : List Given) (name : List ℕ) → bytes_eq given.name name ≡ false
    → values_of (given ∷ more) name ≡ values_of more name
others_first given more name h = rw h refl

-- options are all the command's own exactly where the first is and the others are
pub own_first : (name : Name) (given : Given) (more : List Given) → is_own name given.name ≡ true → all_own name (given ∷ more) ≡ all_own name more
own_first name given more h = rw h refl

pub other_first : (name : Name) (given : Given) (more : List Given) → is_own name given.name ≡ false → all_own name (given ∷ more) ≡ false
other_first name given more h = rw h refl

-- if no word is left, all of them are options
pub all_read : (left : List (String Global)) (all : Option (List Given)) → (length left == 0) ≡ true
    → is_some (options_of (map string_bytes left)) ≡ is_some all → Some (unwrap_or all []) ≡ all
all_read left (Some options) e h = refl
all_read [] None e h = absurd (false≢true (sym h))
all_read (word ∷ words) None e h = grind (arith, nat_tests)

-- if some are left with no option in front of them, the words do not spell options
pub none_read : (left : List (String Global)) (all : Option (List Given)) → (length left == 0) ≡ false
    → (left ≡ []) ⊎ (options_of (map string_bytes left) ≡ None) → is_some (options_of (map string_bytes left)) ≡ is_some all → None ≡ all
none_read left None e stop h = refl
none_read left (Some options) e (inl stop) h = absurd (false≢true (sym e ∙ ap (λ words. length words == 0) stop))
none_read left (Some options) e (inr stop) h = absurd (false≢true (sym (ap is_some stop) ∙ h))
