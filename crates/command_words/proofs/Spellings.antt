-- Options in one word and in two.
use Rattle.std.proofs.Common.{codes, subst, ◌≡◌, ℕ, List, [], ◌∷◌, ◌++◌, length, Bool, true, false, option_map, refl, ap, sym, ◌∙◌, arith}
use Rattle.std.specs.List.{position_or_len}
use Rattle.std.specs.Str.{byte}
use Rattle.std.proofs.Math.Seq.{take-append_seam, drop-append-add}
use Rattle.std.proofs.lemmas.Bool.{false≢true}
use Rattle.std.proofs.lemmas.Slice.Eq.{bytes_eq-Decides}
use Rattle.std.specs.Prelude.{bytes_eq}
use Rattle.command_words.specs.Forms.{form_of}
use Rattle.command_words.specs.Laws.{SpellingsLaw}
use Rattle.command_words.specs.Names.{asks_help}
use Rattle.command_words.specs.Options.{given_in, has_equals, is_equals, joined, options_of}
use Rattle.command_words.proofs.Appended.{appended}
use Rattle.command_words.proofs.Firsts.{joined_first, paired_first}
use Rattle.command_words.proofs.Places.{said}

-- after a name without a `=`, the first `=` is the one at that place
first_place : (name value : List ℕ) → has_equals name ≡ false → position_or_len is_equals (name ++ byte "=" ∷ value) ≡ length name
first_place [] value without = refl
first_place (b ∷ bs) value without = go (is_equals b) refl (first_place bs value)
  where
    go : (t : Bool) → is_equals b ≡ t → (has_equals bs ≡ false → position_or_len is_equals (bs ++ byte "=" ∷ value) ≡ length bs)
        → position_or_len is_equals (b ∷ bs ++ byte "=" ∷ value) ≡ length (b ∷ bs)
    go true e rest = absurd (false≢true (sym (rw e at without)))
    go false e rest = rw e (omega (arith, rest (rw e at without)))

has_one : (name value : List ℕ) → has_equals (name ++ byte "=" ∷ value) ≡ true
has_one [] value = refl
has_one (b ∷ bs) value = go (is_equals b) refl (has_one bs value)
  where
    go : (t : Bool) → is_equals b ≡ t → has_equals (bs ++ byte "=" ∷ value) ≡ true → has_equals (b ∷ bs ++ byte "=" ∷ value) ≡ true
    go true e rest = rw e refl
    go false e rest = rw e rest

-- the name and the value of an option in one word
parted : (name value : List ℕ) → has_equals name ≡ false → joined (name ++ byte "=" ∷ value) ≡ record { name = name; value = value }
parted name value without =
    rw (first_place name value without, take-append_seam name (byte "=" ∷ value), drop-append-add name (byte "=" ∷ value) 1) refl

-- an option in one word and in two, with words after it
same_first : (name value : List ℕ) (back : List (List ℕ)) → has_equals name ≡ false
    → options_of ((name ++ byte "=" ∷ value) ∷ back) ≡ options_of (name ∷ value ∷ back)
same_first name value back without =
    joined_first (name ++ byte "=" ∷ value) back (has_one name value)
    ∙ (ap (λ given. option_map (λ more. given ∷ more) (options_of back)) (parted name value without)
    ∙ sym (paired_first name value back without))

-- a word with a `=` does not ask for help
no_help : (word : List ℕ) → has_equals word ≡ true → asks_help (word ∷ []) ≡ false
no_help word equals = go (bytes_eq word (codes "--help")) refl (bytes_eq word (codes "-h")) refl
  where
    go : (t : Bool) → bytes_eq word (codes "--help") ≡ t → (u : Bool) → bytes_eq word (codes "-h") ≡ u → asks_help (word ∷ []) ≡ false
    go true e u g = absurd (false≢true (subst (λ w. has_equals w ≡ true) ((bytes_eq-Decides word (codes "--help")).0 e) equals))
    go false e true g = absurd (false≢true (subst (λ w. has_equals w ≡ true) ((bytes_eq-Decides word (codes "-h")).0 g) equals))
    go false e false g = rw (e, g) refl

-- words among which is one with a `=` are options
with_equals : (command word : List ℕ) (front back : List (List ℕ)) → has_equals word ≡ true
    → form_of (command ∷ front ++ word ∷ back) ≡ said command (options_of (front ++ word ∷ back))
unfolding form_of
with_equals command word [] [] equals = rw (no_help word equals) refl
with_equals command word [] (next ∷ back) equals = refl
with_equals command word (first ∷ []) back equals = refl
with_equals command word (first ∷ next ∷ front) back equals = refl

in_two_words : (command name value : List ℕ) (front back : List (List ℕ))
    → form_of (command ∷ front ++ name ∷ value ∷ back) ≡ said command (options_of (front ++ name ∷ value ∷ back))
unfolding form_of
in_two_words command name value [] back = refl
in_two_words command name value (first ∷ []) back = refl
in_two_words command name value (first ∷ next ∷ front) back = refl

pub same_spelled : SpellingsLaw
same_spelled command name value front back without spelled =
    with_equals command (name ++ byte "=" ∷ value) front back (has_one name value)
    ∙ (ap (said command)
    (appended front ((name ++ byte "=" ∷ value) ∷ back) spelled
    ∙ (ap (option_map (λ more. given_in front ++ more)) (same_first name value back without)
    ∙ sym (appended front (name ∷ value ∷ back) spelled)))
    ∙ sym (in_two_words command name value front back))
