-- Options in other places.
use Rattle.std.proofs.Common.{◌≡◌, ℕ, ◌≤◌, Bool, true, false, ◌&&◌, ◌||◌, List, [], ◌∷◌, ◌++◌, length, map, Option, Some, None, option_map, refl, ap, sym, ◌∙◌, arith, length-append}
use Rattle.std.proofs.Math.Path.{fun_ext}
use Rattle.std.proofs.lemmas.List.{map-append}
use Rattle.std.proofs.lemmas.List.Elements.{filter-append}
use Rattle.std.proofs.lemmas.List.Folds.{list_all-append, list_any-append}
use Rattle.std.specs.List.{filter, list_all, list_any}
use Rattle.std.specs.Prelude.{IsSome, bytes_eq, if◌then◌else◌}
use Rattle.help_text.specs.declared.page.Name.{Name}
use Rattle.command_words.specs.Command.{Command}
use Rattle.command_words.specs.Forms.{all_own, command_with, form_of, said_by, value_of, ◌>>=◌}
use Rattle.command_words.specs.Given.{Given}
use Rattle.command_words.specs.Laws.{OrderLaw}
use Rattle.command_words.specs.Names.{is_own, named}
use Rattle.command_words.specs.Options.{given_in, options_of, stands_in, values_of}
use Rattle.command_words.specs.Value.{only}
use Rattle.command_words.proofs.Appended.{appended}

-- what a command gets from its options
abbrev pub said : List ℕ → Option (List Given) → Option Command
said command options = named command >>= λ name. options >>= said_by name

-- no value is the only one of several
several : (values : List (List ℕ)) → 2 ≤ length values → only values ≡ None
several [] h = refl
several (value ∷ []) h = absurd (omega (arith, h))
several (value ∷ next ∷ values) h = refl

-- the only value is the same one wherever it stands
only_placed : (front left right back : List (List ℕ)) → only (front ++ (left ++ (right ++ back))) ≡ only (front ++ (right ++ (left ++ back)))
only_placed front [] right back = refl
only_placed front (l ∷ left) [] back = refl
only_placed front (l ∷ left) (r ∷ right) back =
    let many : (xs ys : List (List ℕ)) (x y : List ℕ) → only (front ++ ((x ∷ xs) ++ ((y ∷ ys) ++ back))) ≡ None
    = λ xs ys x y. several (front ++ ((x ∷ xs) ++ ((y ∷ ys) ++ back)))
    (rw (length-append front ((x ∷ xs) ++ ((y ∷ ys) ++ back)), length-append xs ((y ∷ ys) ++ back)) (omega arith)) in
    many left right l r ∙ sym (many right left r l)

values_of-append : (xs ys : List Given) (name : List ℕ) → values_of (xs ++ ys) name ≡ values_of xs name ++ values_of ys name
values_of-append xs ys name =
    let named = filter (λ o. bytes_eq o.name name) in
    ap (map (λ o. o.value)) (filter-append (λ o. bytes_eq o.name name) xs ys) ∙ map-append (λ o. o.value) (named xs) (named ys)

parts : (front left right back : List Given) (name : List ℕ)
    → values_of (front ++ (left ++ (right ++ back))) name
    ≡ values_of front name ++ (values_of left name ++ (values_of right name ++ values_of back name))
parts front left right back name =
    values_of-append front (left ++ (right ++ back)) name
    ∙ ap (λ vs. values_of front name ++ vs)
    (values_of-append left (right ++ back) name ∙ ap (λ vs. values_of left name ++ vs) (values_of-append right back name))

-- what options say does not depend on their order
value_placed : (front left right back : List Given) (name : List ℕ)
    → value_of (front ++ (left ++ (right ++ back))) name ≡ value_of (front ++ (right ++ (left ++ back))) name
unfolding value_of
value_placed front left right back name =
    ap only (parts front left right back name)
    ∙ (only_placed (values_of front name) (values_of left name) (values_of right name) (values_of back name)
    ∙ ap only (sym (parts front right left back name)))

any_same : (a b c d : Bool) → (a || (b || (c || d))) ≡ (a || (c || (b || d)))
any_same true b c d = refl
any_same false true true d = refl
any_same false true false d = refl
any_same false false true d = refl
any_same false false false d = refl

all_same : (a b c d : Bool) → (a && (b && (c && d))) ≡ (a && (c && (b && d)))
all_same false b c d = refl
all_same true true true d = refl
all_same true true false d = refl
all_same true false true d = refl
all_same true false false d = refl

any_parts : (p : Given → Bool) (front left right back : List Given)
    → list_any p (front ++ (left ++ (right ++ back))) ≡ (list_any p front || (list_any p left || (list_any p right || list_any p back)))
any_parts p front left right back =
    list_any-append p front (left ++ (right ++ back))
    ∙ ap (λ b. list_any p front || b) (list_any-append p left (right ++ back) ∙ ap (λ b. list_any p left || b) (list_any-append p right back))

all_parts : (p : Given → Bool) (front left right back : List Given)
    → list_all p (front ++ (left ++ (right ++ back))) ≡ (list_all p front && (list_all p left && (list_all p right && list_all p back)))
all_parts p front left right back =
    list_all-append p front (left ++ (right ++ back))
    ∙ ap (λ b. list_all p front && b) (list_all-append p left (right ++ back) ∙ ap (λ b. list_all p left && b) (list_all-append p right back))

-- which options stand does not depend on their order, nor whether all are the command's own
stands_placed : (front left right back : List Given) (name : List ℕ)
    → stands_in (front ++ (left ++ (right ++ back))) name ≡ stands_in (front ++ (right ++ (left ++ back))) name
stands_placed front left right back name =
    let p : Given → Bool = λ o. bytes_eq o.name name in
    any_parts p front left right back
    ∙ (any_same (list_any p front) (list_any p left) (list_any p right) (list_any p back) ∙ sym (any_parts p front right left back))

own_placed : (name : Name) (front left right back : List Given)
    → all_own name (front ++ (left ++ (right ++ back))) ≡ all_own name (front ++ (right ++ (left ++ back)))
own_placed name front left right back =
    let p : Given → Bool = λ o. is_own name o.name in
    all_parts p front left right back
    ∙ (all_same (list_all p front) (list_all p left) (list_all p right) (list_all p back) ∙ sym (all_parts p front right left back))

-- a command, by whether all options are its own, what they say and which stand
abbrev made : Name → Bool → (List ℕ → Option (List ℕ)) → (List ℕ → Bool) → Option Command
made name own value stands = if own then command_with name value stands else None

command_placed : (name : Name) (front left right back : List Given)
    → said_by name (front ++ (left ++ (right ++ back))) ≡ said_by name (front ++ (right ++ (left ++ back)))
command_placed name front left right back =
    let before = front ++ (left ++ (right ++ back)) in
    let after = front ++ (right ++ (left ++ back)) in
    ap (λ own. made name own (value_of before) (stands_in before)) (own_placed name front left right back)
    ∙ (ap (λ value. made name (all_own name after) value (stands_in before)) (fun_ext (value_placed front left right back))
    ∙ ap (λ stands. made name (all_own name after) (value_of after) stands) (fun_ext (stands_placed front left right back)))

-- options in front of others, which may be none
abbrev in_front : List Given → Option (List Given) → Option (List Given)
in_front front options = option_map (λ more. front ++ more) options

said_placed : (n : Option Name) (front left right : List Given) (back : Option (List Given))
    → (n >>= λ name. in_front front (in_front left (in_front right back)) >>= said_by name)
    ≡ (n >>= λ name. in_front front (in_front right (in_front left back)) >>= said_by name)
said_placed None front left right back = refl
said_placed (Some name) front left right None = refl
said_placed (Some name) front left right (Some back) = command_placed name front left right back

-- the options of words that spell some, three times, and of the words behind them
three_appended : (front left right back : List (List ℕ))
    → IsSome (options_of front) → IsSome (options_of left) → IsSome (options_of right)
    → options_of (front ++ (left ++ (right ++ back)))
    ≡ in_front (given_in front) (in_front (given_in left) (in_front (given_in right) (options_of back)))
three_appended front left right back by_front by_left by_right =
    appended front (left ++ (right ++ back)) by_front
    ∙ ap (in_front (given_in front))
    (appended left (right ++ back) by_left ∙ ap (in_front (given_in left)) (appended right back by_right))

-- of two words or more, those behind the first are options
several_words : (command : List ℕ) (words : List (List ℕ)) → 2 ≤ length words → form_of (command ∷ words) ≡ said command (options_of words)
unfolding form_of
several_words command [] h = absurd (omega (arith, h))
several_words command (word ∷ []) h = absurd (omega (arith, h))
several_words command (word ∷ next ∷ words) h = refl

two_more : (front left right back : List (List ℕ)) (l r : List ℕ) → 2 ≤ length (front ++ ((l ∷ left) ++ ((r ∷ right) ++ back)))
two_more front left right back l r =
    rw (length-append front ((l ∷ left) ++ ((r ∷ right) ++ back)), length-append left ((r ∷ right) ++ back)) (omega arith)

pub same_placed : OrderLaw
same_placed command front [] right back by_front by_left by_right = refl
same_placed command front (l ∷ left) [] back by_front by_left by_right = refl
same_placed command front (l ∷ left) (r ∷ right) back by_front by_left by_right =
    several_words command (front ++ ((l ∷ left) ++ ((r ∷ right) ++ back))) (two_more front left right back l r)
    ∙ (ap (said command) (three_appended front (l ∷ left) (r ∷ right) back by_front by_left by_right)
    ∙ (said_placed (named command) (given_in front) (given_in (l ∷ left)) (given_in (r ∷ right)) (options_of back)
    ∙ (sym (ap (said command) (three_appended front (r ∷ right) (l ∷ left) back by_front by_right by_left))
    ∙ sym (several_words command (front ++ ((r ∷ right) ++ ((l ∷ left) ++ back))) (two_more front right left back r l)))))
