-- What is lost, item by item.
use Rattle.std.proofs.Common.{◌≡◌, ℕ, suc, ◌+◌, ◌<◌, ◌==◌, Bool, true, false, not, ◌&&◌, List, [], ◌∷◌, ◌++◌, map, length, get_or, drop, refl, sym, ap, ap₂, ◌∙◌, arith, add-one, append_assoc, append-nil, drop-cons}
use Rattle.std.specs.Prelude.{codes}
use Rattle.std.specs.Fmt.{decimal}
use Rattle.std.specs.List.{list_all}
use Rattle.std.proofs.lemmas.Bool.{ne_eqb}
use Rattle.std.proofs.lemmas.Grind.{flat_map-append}
use Rattle.bits32.specs.Set.{members}
use Rattle.input_types.specs.declared.key.KeyArgs.{KeyArgs}
use Rattle.why_text.specs.Words.{joined}
use Rattle.why_text.specs.Lost.{are_some, ids_item, items_word, key_item, spaced}
use Rattle.why_lines.specs.Lost.{behind_spaces, ids_from, ids_in, items_of}
use Rattle.why_lines.proofs.Passing.{ids_are}

spaced_first : (a : List ℕ) (items : List (List ℕ)) → codes " " ++ spaced (a ∷ items) ≡ behind_spaces (a ∷ items)
spaced_first a [] = sym (append-nil (codes " " ++ a))
spaced_first a (b ∷ items) = regroup (codes " ") a (codes " ") (spaced (b ∷ items)) ∙ ap (λ xs. (codes " " ++ a) ++ xs) (spaced_first b items)
  where
    regroup : (a b c d : List ℕ) → a ++ ((b ++ c) ++ d) ≡ (a ++ b) ++ (c ++ d)
    regroup a b c d = simp append_assoc

-- items, where there are some, each behind a space
pub some_items : (items : List (List ℕ)) → are_some items ≡ true → codes " " ++ items_word items ≡ behind_spaces items
some_items [] is = absurd (cc)
some_items (a ∷ items) is = spaced_first a items

pub no_items : (items : List (List ℕ)) → are_some items ≡ false → items_word items ≡ codes "-"
no_items [] is = refl
no_items (a ∷ items) is = absurd (cc)

-- items, and further ones
pub behind_more : (xs ys : List (List ℕ)) → behind_spaces (xs ++ ys) ≡ behind_spaces xs ++ behind_spaces ys
behind_more xs ys = flat_map-append (λ a. codes " " ++ a) xs ys

-- the set is empty
abbrev is_empty : ℕ → Bool
is_empty set = length (members set) == 0

one_more_is : (n : ℕ) → (suc n == 0) ≡ false
one_more_is n = ne_eqb (suc n) 0 (λ e. omega (arith, e))

-- a set has an item where it is not empty
some_ids : (d set : ℕ) (rest : List (List ℕ)) → are_some (ids_item d (ids_in set) ++ rest) ≡ not (is_empty set && not (are_some rest))
some_ids d set rest = ap (λ is. are_some (ids_item d is ++ rest)) (ids_are set) ∙ at (members set)
  where
    at : (is : List ℕ) → are_some (ids_item d is ++ rest) ≡ not ((length is == 0) && not (are_some rest))
    at [] = twice (are_some rest)
      where
        twice : (b : Bool) → b ≡ not (not b)
        twice true = refl
        twice false = refl
    at (i ∷ is) = sym (ap (λ b. not (b && not (are_some rest))) (one_more_is (length is)))

some_sets : (d : ℕ) (sets : List ℕ) (rest : List (List ℕ)) → are_some (ids_from d sets ++ rest) ≡ not (list_all is_empty sets && not (are_some rest))
some_sets d [] rest = twice (are_some rest)
  where
    twice : (b : Bool) → b ≡ not (not b)
    twice true = refl
    twice false = refl
some_sets d (set ∷ sets) rest =
    ap are_some (append_assoc (ids_item d (ids_in set)) (ids_from (suc d) sets) rest)
    ∙ some_ids d set (ids_from (suc d) sets ++ rest)
    ∙ ap (λ b. not (is_empty set && not b)) (some_sets (suc d) sets rest)
    ∙ regroup (is_empty set) (list_all is_empty sets) (not (are_some rest))
  where
    regroup : (a b c : Bool) → not (a && not (not (b && c))) ≡ not ((a && b) && c)
    regroup true true true = refl
    regroup true true false = refl
    regroup true false c = refl
    regroup false b c = refl

-- nothing is lost where no set has an id, and there are no keys
pub nothing_lost : (sets : List ℕ) (keys : List KeyArgs) (a b : Bool) → a ≡ list_all is_empty sets → b ≡ (length keys == 0)
    → (a && b) ≡ not (are_some (items_of sets keys))
nothing_lost sets keys a b e f = ap₂ (λ x y. x && y) e (f ∙ no_keys keys) ∙ sym (ap not (some_sets 1 sets (map key_item keys)) ∙ twice (list_all is_empty sets && not (are_some (map key_item keys))))
  where
    no_keys : (ks : List KeyArgs) → (length ks == 0) ≡ not (are_some (map key_item ks))
    no_keys [] = refl
    no_keys (k ∷ ks) = one_more_is (length ks)

    twice : (b : Bool) → not (not b) ≡ b
    twice true = refl
    twice false = refl

-- the ids of one device more
pub sets_more : (sets : List ℕ) (k set : ℕ) (all old new : List ℕ) → k < length sets → set ≡ get_or sets k set
    → new ≡ old ++ behind_spaces (ids_item (k + 1) (ids_in set)) → old ++ behind_spaces (ids_from (k + 1) (drop k sets)) ≡ all
    → new ++ behind_spaces (ids_from (k + 1 + 1) (drop (k + 1) sets)) ≡ all
sets_more sets k set all old new low is added before =
    let front : drop k sets ≡ set ∷ drop (suc k) sets = drop-cons sets k set low ∙ ap (λ x. x ∷ drop (suc k) sets) (sym is) in
    ap (λ xs. xs ++ behind_spaces (ids_from (k + 1 + 1) (drop (k + 1) sets))) added
    ∙ ap₂ (λ n m. (old ++ behind_spaces (ids_item (k + 1) (ids_in set))) ++ behind_spaces (ids_from n (drop m sets))) (add-one (k + 1)) (add-one k)
    ∙ append_assoc old (behind_spaces (ids_item (k + 1) (ids_in set))) (behind_spaces (ids_from (suc (k + 1)) (drop (suc k) sets)))
    ∙ ap (λ xs. old ++ xs) (sym (behind_more (ids_item (k + 1) (ids_in set)) (ids_from (suc (k + 1)) (drop (suc k) sets))))
    ∙ ap (λ xs. old ++ behind_spaces (ids_from (k + 1) xs)) (sym front)
    ∙ before

-- a device of which ids are lost has one item
pub one_item : (d : ℕ) (ids : List ℕ) → 0 < length ids → behind_spaces (ids_item d ids) ≡ (codes " " ++ decimal d) ++ (codes ":" ++ joined ids)
one_item d [] some = absurd (omega (arith, some))
one_item d (i ∷ is) some = append-nil _ ∙ regroup (codes " ") (decimal d) (codes ":") (joined (i ∷ is))
  where
    regroup : (a b c d : List ℕ) → a ++ ((b ++ c) ++ d) ≡ (a ++ b) ++ (c ++ d)
    regroup a b c d = simp append_assoc

pub no_item : (d : ℕ) (ids : List ℕ) → length ids ≡ 0 → behind_spaces (ids_item d ids) ≡ []
no_item d [] none = refl
no_item d (i ∷ is) none = absurd (omega (arith, none))

-- the ids and then the keys, each behind a space, are all that is lost
pub all_items : (sets : List ℕ) (keys : List KeyArgs) → are_some (items_of sets keys) ≡ true
    → behind_spaces (ids_from 1 sets) ++ behind_spaces (map key_item keys) ≡ codes " " ++ items_word (items_of sets keys)
all_items sets keys some = sym (behind_more (ids_from 1 sets) (map key_item keys)) ∙ sym (some_items (items_of sets keys) some)

pub not_both : (a b : Bool) → a ≡ false → a ≡ (a && b)
not_both false b e = refl
not_both true b e = absurd (cc)

pub some_is : (x y : Bool) → x ≡ not y → x ≡ false → y ≡ true
some_is x true e f = refl
some_is x false e f = absurd (cc)
