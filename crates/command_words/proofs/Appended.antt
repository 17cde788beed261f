-- Words after words that spell options.
use Rattle.std.proofs.Common.{◌≡◌, ℕ, List, [], ◌∷◌, ◌++◌, Bool, true, false, Option, Some, None, option_map, refl, ap, ◌∙◌}
use Rattle.std.specs.Prelude.{IsSome, unwrap_or}
use Rattle.std.proofs.lemmas.Bool.{false≢true}
use Rattle.command_words.specs.Given.{Given}
use Rattle.command_words.specs.Options.{given_in, has_equals, joined, options_of}
use Rattle.command_words.proofs.Firsts.{joined_first, next_spelled, paired_first}

-- one more option in front of those of some words, and those of the words after them
one_more : (given : Given) (all left behind : Option (List Given)) → all ≡ option_map (λ more. given ∷ more) left → IsSome all
    → option_map (λ more. given ∷ more) (option_map (λ more. unwrap_or left [] ++ more) behind) ≡ option_map (λ more. unwrap_or all [] ++ more) behind
one_more given all None behind are h = absurd (false≢true (rw are at h))
one_more given all (Some options) None are h = refl
one_more given all (Some options) (Some more) are h = rw are refl

no_more : (behind : Option (List Given)) → behind ≡ option_map (λ more. more) behind
no_more None = refl
no_more (Some options) = refl

-- the options of words that spell some, and then those of the words after them
pub appended : (words behind : List (List ℕ)) → IsSome (options_of words)
    → options_of (words ++ behind) ≡ option_map (λ more. given_in words ++ more) (options_of behind)
appended [] behind h = no_more (options_of behind)
appended (word ∷ []) behind h = go (has_equals word) refl
  where
    go : (t : Bool) → has_equals word ≡ t → options_of (word ∷ behind) ≡ option_map (λ more. given_in (word ∷ []) ++ more) (options_of behind)
    go true e = joined_first word behind e ∙ rw e refl
    go false e = absurd (false≢true (rw e at h))
appended (word ∷ next ∷ words) behind h = go (has_equals word) refl (appended (next ∷ words) behind) (appended words behind)
  where
    go : (t : Bool) → has_equals word ≡ t
        → (IsSome (options_of (next ∷ words)) → options_of (next ∷ words ++ behind) ≡ option_map (λ more. given_in (next ∷ words) ++ more) (options_of behind))
        → (IsSome (options_of words) → options_of (words ++ behind) ≡ option_map (λ more. given_in words ++ more) (options_of behind))
        → options_of (word ∷ next ∷ words ++ behind) ≡ option_map (λ more. given_in (word ∷ next ∷ words) ++ more) (options_of behind)
    go true e by_next by_words =
        let first = joined_first word (next ∷ words) e in
        let all = options_of (word ∷ next ∷ words) in
        let left = options_of (next ∷ words) in
        joined_first word (next ∷ words ++ behind) e
        ∙ (ap (option_map (λ more. joined word ∷ more)) (by_next (next_spelled all left (joined word) first h))
        ∙ one_more (joined word) all left (options_of behind) first h)
    go false e by_next by_words =
        let given : Given = record { name = word; value = next } in
        let first = paired_first word next words e in
        let all = options_of (word ∷ next ∷ words) in
        let left = options_of words in
        paired_first word next (words ++ behind) e
        ∙ (ap (option_map (λ more. given ∷ more)) (by_words (next_spelled all left given first h))
        ∙ one_more given all left (options_of behind) first h)
