-- Options have no fault exactly where each that is needed is given once, no other twice, and each with a value that it takes.
use Rattle.std.proofs.Common.{◌≡◌, ℕ, ◌==◌, List, [], ◌∷◌, ◌++◌, length, Bool, true, false, ◌&&◌, ◌||◌, Option, Some, None, option_map, refl, ap, sym, ◌∙◌, subst, arith}
use Rattle.std.proofs.Math.Path.{fun_ext}
use Rattle.std.proofs.lemmas.Bool.{false≢true}
use Rattle.std.proofs.lemmas.Bool.Decides.{nat_tests}
use Rattle.std.proofs.lemmas.List.Folds.{list_any-append}
use Rattle.std.proofs.lemmas.Slice.Eq.{bytes_eq-Decides}
use Rattle.std.specs.List.{list_all}
use Rattle.std.specs.Prelude.{bytes_eq, is_none}
use Rattle.help_text.specs.declared.page.Name.{Name}
use Rattle.command_words.specs.Fault.{Fault, given_fault, is_hyphened, missing_fault, options_fault, or_else, stood}
use Rattle.command_words.specs.Forms.{all_own}
use Rattle.command_words.specs.Given.{Given}
use Rattle.command_words.specs.Names.{extra_of, is_among, is_own, needed_of}
use Rattle.command_words.specs.Options.{has_equals, joined, options_of, values_of}
use Rattle.command_words.specs.Spelled.{Spelled, Value, absent, attached, next_word, spelled_of}
use Rattle.command_words.specs.Value.{takes}
use Rattle.command_words.proofs.Firsts.{named_first, others_first}
use Rattle.command_words.proofs.Stands.{none_of}

-- a needed option has one value, which it takes
abbrev pub said : List ℕ → List (List ℕ) → Bool
said option [] = false
said option (v ∷ []) = takes option v
said option (v ∷ w ∷ vs) = false

-- another option has no value, or one that it takes
abbrev pub perhaps : List ℕ → List (List ℕ) → Bool
perhaps option [] = true
perhaps option (v ∷ []) = takes option v
perhaps option (v ∷ w ∷ vs) = false

-- the same, of the options that are left, where the option stood before or did not
abbrev pub need : Bool → List ℕ → List (List ℕ) → Bool
need true option vs = none_of vs
need false option vs = said option vs

abbrev pub may : Bool → List ℕ → List (List ℕ) → Bool
may true option vs = none_of vs
may false option vs = perhaps option vs

-- options that are left are of a command, behind some that stood
abbrev pub fine : Name → (List ℕ → Bool) → Option (List Given) → Bool
fine name before None = false
fine name before (Some os) =
    all_own name os
    && (list_all (λ n. need (before n) n (values_of os n)) (needed_of name) && list_all (λ n. may (before n) n (values_of os n)) (extra_of name))

-- an option in front of others, if it has a value
abbrev pub given_first : List ℕ → Value → Option (List Given) → Option (List Given)
given_first name absent rest = None
given_first name (attached value) rest = option_map (λ more. record { name = name; value = value } ∷ more) rest
given_first name (next_word value) rest = option_map (λ more. record { name = name; value = value } ∷ more) rest

abbrev pub given_all : List Spelled → Option (List Given)
given_all [] = Some []
given_all (s ∷ ss) = given_first s.name s.value (given_all ss)

-- the options of words are those that are spelled
pub read_all : (words : List (List ℕ)) → options_of words ≡ given_all (spelled_of words)
read_all [] = refl
read_all (word ∷ []) = go (has_equals word) refl
  where
    go : (t : Bool) → has_equals word ≡ t → options_of (word ∷ []) ≡ given_all (spelled_of (word ∷ []))
    go true e = rw e refl
    go false e = rw e refl
read_all (word ∷ next ∷ words) = go (has_equals word) refl (read_all (next ∷ words)) (read_all words)
  where
    go : (t : Bool) → has_equals word ≡ t → options_of (next ∷ words) ≡ given_all (spelled_of (next ∷ words)) → options_of words ≡ given_all (spelled_of words)
        → options_of (word ∷ next ∷ words) ≡ given_all (spelled_of (word ∷ next ∷ words))
    go true e by_next by_words = rw e (ap (option_map (λ more. joined word ∷ more)) by_next)
    go false e by_next by_words = rw e (ap (option_map (λ more. record { name = word; value = next } ∷ more)) by_words)

and_false : (a : Bool) → (a && false) ≡ false
and_false true = refl
and_false false = refl

and_false_left : (a b : Bool) → (a && (false && b)) ≡ false
and_false_left true b = refl
and_false_left false b = refl

and_false_right : (a b : Bool) → (a && (b && false)) ≡ false
and_false_right true b = and_false b
and_false_right false b = refl

-- not all names pass where one of them that is among them does not
any_all : (P : List ℕ → Bool) (x : List ℕ) (ns : List (List ℕ)) → is_among x ns ≡ true → ((n : List ℕ) → bytes_eq x n ≡ true → P n ≡ false)
    → list_all P ns ≡ false
any_all P x [] h f = absurd (false≢true h)
any_all P x (n ∷ ns) h f = go (bytes_eq x n) refl (any_all P x ns)
  where
    go : (t : Bool) → bytes_eq x n ≡ t → (is_among x ns ≡ true → ((n : List ℕ) → bytes_eq x n ≡ true → P n ≡ false) → list_all P ns ≡ false)
        → list_all P (n ∷ ns) ≡ false
    go true e rest = rw (f n e) refl
    go false e rest = ap (λ b. P n && b) (rest (rw e at h) f) ∙ and_false (P n)

-- an option of the command that may not stand so
wrong : (name : Name) (before : List ℕ → Bool) (o : Given) (os : List Given) → is_own name o.name ≡ true
    → ((n : List ℕ) → bytes_eq o.name n ≡ true
    → (need (before n) n (o.value ∷ values_of os n) ≡ false) × (may (before n) n (o.value ∷ values_of os n) ≡ false))
    → fine name before (Some (o ∷ os)) ≡ false
wrong name before o os own f = go (is_among o.name (needed_of name)) refl
  where
    needs : List ℕ → Bool
    needs n = need (before n) n (values_of (o ∷ os) n)

    mays : List ℕ → Bool
    mays n = may (before n) n (values_of (o ∷ os) n)

    go : (t : Bool) → is_among o.name (needed_of name) ≡ t → fine name before (Some (o ∷ os)) ≡ false
    go true e =
        let none = any_all needs o.name (needed_of name) e (λ n h. ap (need (before n) n) (named_first o os n h) ∙ (f n h).0) in
        ap (λ b. all_own name (o ∷ os) && (b && list_all mays (extra_of name))) none ∙ and_false_left (all_own name (o ∷ os)) (list_all mays (extra_of name))
    go false e =
        let none = any_all mays o.name (extra_of name) (rw e at own) (λ n h. ap (may (before n) n) (named_first o os n h) ∙ (f n h).1) in
        ap (λ b. all_own name (o ∷ os) && (list_all needs (needed_of name) && b)) none ∙ and_false_right (all_own name (o ∷ os)) (list_all needs (needed_of name))

-- one that stood before
stood_false : (before : List ℕ → Bool) (x n w : List ℕ) (vs : List (List ℕ)) → before x ≡ true → bytes_eq x n ≡ true
    → (need (before n) n (w ∷ vs) ≡ false) × (may (before n) n (w ∷ vs) ≡ false)
stood_false before x n w vs h e =
    let yet : before n ≡ true = subst (λ y. before y ≡ true) ((bytes_eq-Decides x n).0 e) h in
    (rw yet refl, rw yet refl)

-- one with a value that it does not take
taken_false : (n w : List ℕ) (vs : List (List ℕ)) (b : Bool) → takes n w ≡ false → (need b n (w ∷ vs) ≡ false) × (may b n (w ∷ vs) ≡ false)
taken_false n w vs true h = (refl, refl)
taken_false n w [] false h = (h, h)
taken_false n w (v ∷ vs) false h = (refl, refl)

bad_false : (before : List ℕ → Bool) (x n w : List ℕ) (vs : List (List ℕ)) → takes x w ≡ false → bytes_eq x n ≡ true
    → (need (before n) n (w ∷ vs) ≡ false) × (may (before n) n (w ∷ vs) ≡ false)
bad_false before x n w vs h e = taken_false n w vs (before n) (subst (λ y. takes y w ≡ false) ((bytes_eq-Decides x n).0 e) h)

-- options with one in front that is not the command's own
not_own : (name : Name) (before : List ℕ → Bool) (x : List ℕ) (v : Value) (o : Option (List Given)) → is_own name x ≡ false
    → fine name before (given_first x v o) ≡ false
not_own name before x absent o h = refl
not_own name before x (attached w) None h = refl
not_own name before x (attached w) (Some os) h = rw h refl
not_own name before x (next_word w) None h = refl
not_own name before x (next_word w) (Some os) h = rw h refl

-- that stood before
twice_false : (name : Name) (before : List ℕ → Bool) (x : List ℕ) (v : Value) (o : Option (List Given)) → is_own name x ≡ true → before x ≡ true
    → fine name before (given_first x v o) ≡ false
twice_false name before x absent o own h = refl
twice_false name before x (attached w) None own h = refl
twice_false name before x (attached w) (Some os) own h =
    wrong name before (record { name = x; value = w }) os own (λ n e. stood_false before x n w (values_of os n) h e)
twice_false name before x (next_word w) None own h = refl
twice_false name before x (next_word w) (Some os) own h =
    wrong name before (record { name = x; value = w }) os own (λ n e. stood_false before x n w (values_of os n) h e)

-- whose value it does not take
bad_first : (name : Name) (before : List ℕ → Bool) (x w : List ℕ) (o : Option (List Given)) → is_own name x ≡ true → takes x w ≡ false
    → fine name before (option_map (λ more. record { name = x; value = w } ∷ more) o) ≡ false
bad_first name before x w None own h = refl
bad_first name before x w (Some os) own h =
    wrong name before (record { name = x; value = w }) os own (λ n e. bad_false before x n w (values_of os n) h e)

or_false : (a : Bool) → (a || (false || false)) ≡ a
or_false true = refl
or_false false = refl

or_true : (a : Bool) → (a || (true || false)) ≡ true
or_true true = refl
or_true false = refl

-- where an option stood before it is as where it is the first of those that are left
needed_on : (x w n : List ℕ) (os : List Given) (b c : Bool) → bytes_eq x n ≡ true → b ≡ false → c ≡ true → takes n w ≡ true
    → (need c n (values_of os n) ≡ need b n (values_of (record { name = x; value = w } ∷ os) n))
    × (may c n (values_of os n) ≡ may b n (values_of (record { name = x; value = w } ∷ os) n))
needed_on x w n os b c e is so good = go (values_of os n) refl
  where
    o : Given
    o = record { name = x; value = w }

    go : (vs : List (List ℕ)) → values_of os n ≡ vs
        → (need c n (values_of os n) ≡ need b n (values_of (o ∷ os) n)) × (may c n (values_of os n) ≡ may b n (values_of (o ∷ os) n))
    go [] h = rw (named_first o os n e, h, is, so) (sym good, sym good)
    go (v ∷ vs) h = rw (named_first o os n e, h, is, so) (refl, refl)

others_on : (x w n : List ℕ) (os : List Given) (b c : Bool) → bytes_eq x n ≡ false → c ≡ b
    → (need c n (values_of os n) ≡ need b n (values_of (record { name = x; value = w } ∷ os) n))
    × (may c n (values_of os n) ≡ may b n (values_of (record { name = x; value = w } ∷ os) n))
others_on x w n os b c e is = rw (others_first (record { name = x; value = w }) os n e, is) (refl, refl)

on_at : (before : List Spelled) (s : Spelled) (w n : List ℕ) (os : List Given) → stood before s.name ≡ false → takes s.name w ≡ true
    → (need (stood (before ++ s ∷ []) n) n (values_of os n) ≡ need (stood before n) n (values_of (record { name = s.name; value = w } ∷ os) n))
    × (may (stood (before ++ s ∷ []) n) n (values_of os n) ≡ may (stood before n) n (values_of (record { name = s.name; value = w } ∷ os) n))
on_at before s w n os yet good = go (bytes_eq s.name n) refl
  where
    parts : stood (before ++ s ∷ []) n ≡ (stood before n || (bytes_eq s.name n || false))
    parts = list_any-append (λ t. bytes_eq t.name n) before (s ∷ [])

    go : (t : Bool) → bytes_eq s.name n ≡ t
        → (need (stood (before ++ s ∷ []) n) n (values_of os n) ≡ need (stood before n) n (values_of (record { name = s.name; value = w } ∷ os) n))
        × (may (stood (before ++ s ∷ []) n) n (values_of os n) ≡ may (stood before n) n (values_of (record { name = s.name; value = w } ∷ os) n))
    go true e =
        let same = (bytes_eq-Decides s.name n).0 e in
        needed_on s.name w n os (stood before n) (stood (before ++ s ∷ []) n) e (subst (λ y. stood before y ≡ false) same yet)
        (parts ∙ (ap (λ b. stood before n || (b || false)) e ∙ or_true (stood before n))) (subst (λ y. takes y w ≡ true) same good)
    go false e =
        others_on s.name w n os (stood before n) (stood (before ++ s ∷ []) n) e (parts ∙ (ap (λ b. stood before n || (b || false)) e ∙ or_false (stood before n)))

-- an option that has no fault, in front of others
onward : (name : Name) (before : List Spelled) (s : Spelled) (w : List ℕ) (o : Option (List Given))
    → is_own name s.name ≡ true → stood before s.name ≡ false → takes s.name w ≡ true
    → fine name (stood (before ++ s ∷ [])) o ≡ fine name (stood before) (option_map (λ more. record { name = s.name; value = w } ∷ more) o)
onward name before s w None own yet good = refl
onward name before s w (Some os) own yet good =
    rw own (ap (λ b. all_own name os && (b && list_all (λ n. may (stood (before ++ s ∷ []) n) n (values_of os n)) (extra_of name)))
    (ap (λ P. list_all P (needed_of name)) (fun_ext (λ n. (on_at before s w n os yet good).0)))
    ∙ ap (λ b. all_own name os && (list_all (λ n. need (stood before n) n (values_of (record { name = s.name; value = w } ∷ os) n)) (needed_of name) && b))
    (ap (λ P. list_all P (extra_of name)) (fun_ext (λ n. (on_at before s w n os yet good).1))))

empty_taken : (x w : List ℕ) → (length w == 0) ≡ true → takes x w ≡ false
unfolding takes
empty_taken x [] h = refl
empty_taken x (b ∷ bs) h = grind (arith, nat_tests)

hyphen_taken : (x w : List ℕ) → is_hyphened w ≡ true → takes x w ≡ false
unfolding takes
hyphen_taken x [] h = absurd (false≢true h)
hyphen_taken x (b ∷ bs) h = rw h refl

-- with none left, the needed ones must have stood
missing_none : (before : List Spelled) (ns : List (List ℕ)) → is_none (missing_fault before ns) ≡ list_all (λ n. need (stood before n) n []) ns
missing_none before [] = refl
missing_none before (n ∷ ns) = go (stood before n) refl (missing_none before ns)
  where
    go : (t : Bool) → stood before n ≡ t → is_none (missing_fault before ns) ≡ list_all (λ n. need (stood before n) n []) ns
        → is_none (missing_fault before (n ∷ ns)) ≡ list_all (λ n. need (stood before n) n []) (n ∷ ns)
    go true e rest = rw e rest
    go false e rest = rw e refl

may_none : (before : List Spelled) (ns : List (List ℕ)) → list_all (λ n. may (stood before n) n []) ns ≡ true
may_none before [] = refl
may_none before (n ∷ ns) = go (stood before n) refl (may_none before ns)
  where
    go : (t : Bool) → stood before n ≡ t → list_all (λ n. may (stood before n) n []) ns ≡ true → list_all (λ n. may (stood before n) n []) (n ∷ ns) ≡ true
    go true e rest = rw e rest
    go false e rest = rw e rest

and_true : (a : Bool) → a ≡ (a && true)
and_true true = refl
and_true false = refl

-- one more, by where its value stands
by_value : (name : Name) (before : List Spelled) (s : Spelled) (o : Option (List Given)) (rest : Option Fault)
    → is_own name s.name ≡ true → stood before s.name ≡ false → is_none rest ≡ fine name (stood (before ++ s ∷ [])) o
    → (v : Value) → is_none (or_else (given_fault s.name v) rest) ≡ fine name (stood before) (given_first s.name v o)
by_value name before s o rest own yet on absent = refl
by_value name before s o rest own yet on (attached w) = go (length w == 0) refl (takes s.name w) refl
  where
    go : (t : Bool) → (length w == 0) ≡ t → (u : Bool) → takes s.name w ≡ u
        → is_none (or_else (given_fault s.name (attached w)) rest) ≡ fine name (stood before) (given_first s.name (attached w) o)
    go true e u g = rw e (sym (bad_first name (stood before) s.name w o own (empty_taken s.name w e)))
    go false e true g = rw (e, g) (on ∙ onward name before s w o own yet g)
    go false e false g = rw (e, g) (sym (bad_first name (stood before) s.name w o own g))
by_value name before s o rest own yet on (next_word w) = go (is_hyphened w) refl (takes s.name w) refl
  where
    go : (t : Bool) → is_hyphened w ≡ t → (u : Bool) → takes s.name w ≡ u
        → is_none (or_else (given_fault s.name (next_word w)) rest) ≡ fine name (stood before) (given_first s.name (next_word w) o)
    go true e u g = rw e (sym (bad_first name (stood before) s.name w o own (hyphen_taken s.name w e)))
    go false e true g = rw (e, g) (on ∙ onward name before s w o own yet g)
    go false e false g = rw (e, g) (sym (bad_first name (stood before) s.name w o own g))

pub cleared : (name : Name) (before ss : List Spelled) → is_none (options_fault name before ss) ≡ fine name (stood before) (given_all ss)
cleared name before [] =
    missing_none before (needed_of name)
    ∙ (and_true (list_all (λ n. need (stood before n) n []) (needed_of name))
    ∙ ap (λ b. list_all (λ n. need (stood before n) n []) (needed_of name) && b) (sym (may_none before (extra_of name))))
cleared name before (s ∷ ss) = go (is_own name s.name) refl (stood before s.name) refl (cleared name (before ++ s ∷ []) ss)
  where
    go : (t : Bool) → is_own name s.name ≡ t → (u : Bool) → stood before s.name ≡ u
        → is_none (options_fault name (before ++ s ∷ []) ss) ≡ fine name (stood (before ++ s ∷ [])) (given_all ss)
        → is_none (options_fault name before (s ∷ ss)) ≡ fine name (stood before) (given_all (s ∷ ss))
    go false e u g rest = rw e (sym (not_own name (stood before) s.name s.value (given_all ss) e))
    go true e true g rest = rw (e, g) (sym (twice_false name (stood before) s.name s.value (given_all ss) e g))
    go true e false g rest = rw (e, g) (by_value name before s (given_all ss) (options_fault name (before ++ s ∷ []) ss) e g rest s.value)
