-- The keys that are down rise, and are those of which a repeat is due.
use Rattle.std.proofs.Common.{◌≡◌, ℕ, Bool, ◌+◌, ◌&&◌, ◌||◌, not, true, false, cond, if◌then◌else◌, List, [], ◌∷◌, Option, Some, None, is_some, refl, sym, ap, ◌∙◌, arith, nat_eq}
use Rattle.std.proofs.lemmas.Bool.Decides.{nat_tests}
use Rattle.std.specs.List.{filter, list_all}
use Rattle.std.specs.Option.{option_and_then, option_map}
use Rattle.input_types.specs.declared.key.KeyMsg.{KeyMsg}
use Rattle.input_types.specs.declared.message.Body.{Body}
use Rattle.input_types.specs.declared.message.Body.TheVariants.{Motion, Key, Focus}
use Rattle.input_types.specs.declared.message.Message.{Message}
use Rattle.input_types.specs.Gestures.{allowed, after_sent, differ}
use Rattle.input_types.specs.StreamRule.{StreamState, after_body, after_key, stream_state, unsent, with_ids, with_repeat}
use Rattle.gesture_verifier.specs.declared.held.HeldKey.{HeldKey}
use Rattle.gesture_verifier.specs.Held.{are_rising, is_before, is_held}
use Rattle.judge_text.specs.Down.{is_same, held_key_of, keys_after, keys_with, with_key, without_key}

pub both : (a b : Bool) → (a && b) ≡ true → (a ≡ true) × (b ≡ true)
both true b h = (refl, h)
both false b h = absurd (cc)

-- ---- the order of keys

pub onward : (a b c : HeldKey) → is_before a b ≡ true → is_before b c ≡ true → is_before a c ≡ true
onward a b c h k = grind (arith, nat_tests)

pub one_way : (a b : HeldKey) → is_before a b ≡ true → is_before b a ≡ true → ⊥
one_way a b h k = grind (arith, nat_tests)

pub tied : (a b : HeldKey) → is_before a b ≡ false → is_before b a ≡ false → a ≡ b
tied a b h k =
    let device : a.device ≡ b.device = grind (arith, nat_tests) in
    let scan : a.scan ≡ b.scan = grind (arith, nat_tests) in
    λ i. record { device = device i; scan = scan i }

all_before : (a b : HeldKey) (ks : List HeldKey) → is_before a b ≡ true → list_all (is_before b) ks ≡ true → list_all (is_before a) ks ≡ true
all_before a b [] h all = refl
all_before a b (k ∷ ks) h all =
    let (here, later) = both (is_before b k) (list_all (is_before b) ks) all in
    rw (onward a b k h here, all_before a b ks h later) refl

-- ---- a key more

above_at : (a k q : HeldKey) (qs more : List HeldKey) (v w : Bool) → is_before a k ≡ true → list_all (is_before a) (q ∷ qs) ≡ true → list_all (is_before a) more ≡ true
    → list_all (is_before a) (if v then k ∷ q ∷ qs else if w then q ∷ more else k ∷ qs) ≡ true
above_at a k q qs more true w h all later = rw h all
above_at a k q qs more false true h all later = rw ((both (is_before a q) (list_all (is_before a) qs) all).0, later) refl
above_at a k q qs more false false h all later = rw (h, (both (is_before a q) (list_all (is_before a) qs) all).1) refl

above : (a k : HeldKey) (ks : List HeldKey) → is_before a k ≡ true → list_all (is_before a) ks ≡ true → list_all (is_before a) (with_key k ks) ≡ true
above a k [] h all = rw h refl
above a k (q ∷ qs) h all =
    above_at a k q qs (with_key k qs) (is_before k q) (is_before q k) h all (above a k qs h (both (is_before a q) (list_all (is_before a) qs) all).1)

rises_at : (k q : HeldKey) (qs : List HeldKey) (v w : Bool) → is_before k q ≡ v → is_before q k ≡ w → are_rising (q ∷ qs) ≡ true → are_rising (with_key k qs) ≡ true
    → are_rising (if v then k ∷ q ∷ qs else if w then q ∷ with_key k qs else k ∷ qs) ≡ true
rises_at k q qs true w e f h later =
    let here = both (list_all (is_before q) qs) (are_rising qs) h in
    rw (e, all_before k q qs e here.0, here.0, here.1) refl
rises_at k q qs false true e f h later =
    let here = both (list_all (is_before q) qs) (are_rising qs) h in
    rw (above q k qs f here.0, later) refl
rises_at k q qs false false e f h later = let same : k ≡ q = tied k q e f in rw same h

rises_with : (k : HeldKey) (ks : List HeldKey) → are_rising ks ≡ true → are_rising (with_key k ks) ≡ true
rises_with k [] h = refl
rises_with k (q ∷ qs) h =
    rises_at k q qs (is_before k q) (is_before q k) refl refl h (rises_with k qs (both (list_all (is_before q) qs) (are_rising qs) h).1)

-- ---- keys left out

kept_at : (p : HeldKey → Bool) (q : HeldKey) (rest : List HeldKey) (v : Bool) → p q ≡ true → list_all p rest ≡ true → list_all p (cond v (q ∷ rest) rest) ≡ true
kept_at p q rest true h all = rw (h, all) refl
kept_at p q rest false h all = all

kept_all : (p f : HeldKey → Bool) (ks : List HeldKey) → list_all p ks ≡ true → list_all p (filter f ks) ≡ true
kept_all p f [] h = refl
kept_all p f (k ∷ ks) h =
    let here = both (p k) (list_all p ks) h in kept_at p k (filter f ks) (f k) here.0 (kept_all p f ks here.1)

kept_rise : (q : HeldKey) (rest : List HeldKey) (v : Bool) → list_all (is_before q) rest ≡ true → are_rising rest ≡ true → are_rising (cond v (q ∷ rest) rest) ≡ true
kept_rise q rest true h all = rw (h, all) refl
kept_rise q rest false h all = all

rises_filtered : (f : HeldKey → Bool) (ks : List HeldKey) → are_rising ks ≡ true → are_rising (filter f ks) ≡ true
rises_filtered f [] h = refl
rises_filtered f (k ∷ ks) h =
    let here = both (list_all (is_before k) ks) (are_rising ks) h in
    kept_rise k (filter f ks) (f k) (kept_all (is_before k) f ks here.0) (rises_filtered f ks here.1)

-- ---- the keys after messages

rise_by : (v : Bool) (k : HeldKey) (ks : List HeldKey) → are_rising ks ≡ true → are_rising (if v then with_key k ks else without_key k ks) ≡ true
rise_by true k ks h = rises_with k ks h
rise_by false k ks h = rises_filtered (λ q. not (is_same k q)) ks h

rise_after : (b : Body) (ks : List HeldKey) → are_rising ks ≡ true → are_rising (keys_with b ks) ≡ true
rise_after (Motion m) ks h = h
rise_after (Key m) ks h = rise_by m.key.down (held_key_of m) ks h
rise_after (Focus b) ks h = h

pub keys_rise : (past : List Message) → are_rising (keys_after past) ≡ true
keys_rise [] = refl
keys_rise (m ∷ past) = rise_after m.body (keys_after past) (keys_rise past)

-- ---- which keys are there

abbrev is_at : ℕ → ℕ → HeldKey → Bool
is_at d s k = nat_eq k.device d && nat_eq k.scan s

or_swap : (a b c : Bool) → (a || (b || c)) ≡ (b || (a || c))
or_swap true true c = refl
or_swap true false c = refl
or_swap false b c = refl

or_again : (a c : Bool) → (a || c) ≡ (a || (a || c))
or_again true c = refl
or_again false c = refl

with_at : (d s : ℕ) (k q : HeldKey) (qs : List HeldKey) (v w : Bool) → is_before k q ≡ v → is_before q k ≡ w
    → is_held d s (with_key k qs) ≡ (is_at d s k || is_held d s qs)
    → is_held d s (if v then k ∷ q ∷ qs else if w then q ∷ with_key k qs else k ∷ qs) ≡ (is_at d s k || is_held d s (q ∷ qs))
with_at d s k q qs true w e f h = refl
with_at d s k q qs false true e f h = rw h (or_swap (is_at d s q) (is_at d s k) (is_held d s qs))
with_at d s k q qs false false e f h = let same : k ≡ q = tied k q e f in rw same (or_again (is_at d s q) (is_held d s qs))

held_with : (d s : ℕ) (k : HeldKey) (ks : List HeldKey) → is_held d s (with_key k ks) ≡ (is_at d s k || is_held d s ks)
held_with d s k [] = refl
held_with d s k (q ∷ qs) = with_at d s k q qs (is_before k q) (is_before q k) refl refl (held_with d s k qs)

at_both : (d s : ℕ) (k q : HeldKey) → is_at d s k ≡ true → is_at d s q ≡ true → is_same k q ≡ true
at_both d s k q h e = grind (arith, nat_tests)

at_one : (d s : ℕ) (k q : HeldKey) → is_same k q ≡ true → is_at d s k ≡ is_at d s q
at_one d s k q h =
    let device : k.device ≡ q.device = grind (arith, nat_tests) in
    let scan : k.scan ≡ q.scan = grind (arith, nat_tests) in
    rw (device, scan) refl

-- the test at k and at q, and the rest
left_at : (a b c v : Bool) → (v ≡ true → a ≡ b) → (v ≡ false → a ≡ true → b ≡ true → ⊥) → (more : Bool) → more ≡ (not a && c)
    → cond (not v) (b || more) more ≡ (not a && (b || c))
left_at true true c true same apart more h = h
left_at true false c true same apart more h = h
left_at false true c true same apart more h = let no : false ≡ true = same refl in absurd (cc)
left_at false false c true same apart more h = h
left_at true true c false same apart more h = absurd (apart refl refl refl)
left_at true false c false same apart more h = h
left_at false true c false same apart more h = refl
left_at false false c false same apart more h = h

cond_held : (d s : ℕ) (q : HeldKey) (rest : List HeldKey) (v : Bool) → is_held d s (cond v (q ∷ rest) rest) ≡ cond v (is_at d s q || is_held d s rest) (is_held d s rest)
cond_held d s q rest true = refl
cond_held d s q rest false = refl

held_without : (d s : ℕ) (k : HeldKey) (ks : List HeldKey) → is_held d s (without_key k ks) ≡ (not (is_at d s k) && is_held d s ks)
held_without d s k [] = grind (arith, nat_tests)
held_without d s k (q ∷ qs) =
    cond_held d s q (without_key k qs) (not (is_same k q))
    ∙ left_at (is_at d s k) (is_at d s q) (is_held d s qs) (is_same k q) (λ e. at_one d s k q e)
    (λ e a b. let one : is_same k q ≡ true = at_both d s k q a b in absurd (cc))
    (is_held d s (without_key k qs)) (held_without d s k qs)

turned : (a b c d : ℕ) → (nat_eq a b && nat_eq c d) ≡ (nat_eq b a && nat_eq d c)
turned a b c d = grind (arith, nat_tests)

goes_down : (b held : Bool) (due old : Option ℕ) → is_some due ≡ true → held ≡ is_some old → (b || held) ≡ is_some (if b then due else old)
goes_down true held due old e h = sym e
goes_down false held due old e h = h

goes_up : (b held : Bool) (due old : Option ℕ) → is_some due ≡ false → held ≡ is_some old → (not b && held) ≡ is_some (if b then due else old)
goes_up true held due old e h = sym e
goes_up false held due old e h = h

given : {X : Type 0} (b : Bool) (x y : X) → allowed b x ≡ Some y → x ≡ y
given true x y h = cc
given false x y h = absurd (cc)

due_by : (v : Bool) (d s : ℕ) (k : HeldKey) (ks : List HeldKey) (down up : Bool) (repeat : ℕ) (old due : Option ℕ)
    → (if v then allowed down (Some (repeat + 1)) else allowed up None) ≡ Some due → is_held d s ks ≡ is_some old
    → is_held d s (if v then with_key k ks else without_key k ks) ≡ is_some (if nat_eq d k.device && nat_eq s k.scan then due else old)
due_by true d s k ks down up repeat old due e h =
    let is : Some (repeat + 1) ≡ due = given down (Some (repeat + 1)) due e in
    held_with d s k ks ∙ rw (turned k.device d k.scan s)
    (goes_down (nat_eq d k.device && nat_eq s k.scan) (is_held d s ks) due old (sym (ap is_some is)) h)
due_by false d s k ks down up repeat old due e h =
    let is : None ≡ due = given up None due e in
    held_without d s k ks ∙ rw (turned k.device d k.scan s)
    (goes_up (nat_eq d k.device && nat_eq s k.scan) (is_held d s ks) due old (sym (ap is_some is)) h)

key_step : (t s : StreamState) (m : KeyMsg) (d k : ℕ) (ks : List HeldKey) (o : Option (Option ℕ)) → after_key (t.repeats m.key.device m.key.scan) m ≡ o
    → option_map (λ due. record { ids = t.ids; repeats = with_repeat t.repeats m.key.device m.key.scan due; focus = t.focus }) o ≡ Some s
    → is_held d k ks ≡ is_some (t.repeats d k)
    → is_held d k (if m.key.down then with_key (held_key_of m) ks else without_key (held_key_of m) ks) ≡ is_some (s.repeats d k)
key_step t s m d k ks None e is h = absurd (cc)
key_step t s m d k ks (Some due) e is h =
    let same : record { ids = t.ids; repeats = with_repeat t.repeats m.key.device m.key.scan due; focus = t.focus } ≡ s = cc in
    due_by m.key.down d k (held_key_of m) ks _ _ m.repeat (t.repeats d k) due e h ∙ ap (λ (x : StreamState). is_some (x.repeats d k)) same

motion_step : (t s : StreamState) (d k : ℕ) (ids : List ℕ → ℕ → List ℕ) (held : Bool) (o : Option (List ℕ))
    → option_map (λ down. record { ids = ids down; repeats = t.repeats; focus = t.focus }) o ≡ Some s
    → held ≡ is_some (t.repeats d k) → held ≡ is_some (s.repeats d k)
motion_step t s d k ids held None is h = absurd (cc)
motion_step t s d k ids held (Some down) is h =
    let same : record { ids = ids down; repeats = t.repeats; focus = t.focus } ≡ s = cc in
    h ∙ ap (λ (x : StreamState). is_some (x.repeats d k)) same

focus_step : (t s : StreamState) (d k : ℕ) (b may held : Bool) → allowed may (record { ids = t.ids; repeats = t.repeats; focus = b }) ≡ Some s
    → held ≡ is_some (t.repeats d k) → held ≡ is_some (s.repeats d k)
focus_step t s d k b may held is h =
    let same : record { ids = t.ids; repeats = t.repeats; focus = b } ≡ s = given may (record { ids = t.ids; repeats = t.repeats; focus = b }) s is in
    h ∙ ap (λ (x : StreamState). is_some (x.repeats d k)) same

due_step : (b : Body) (t s : StreamState) (d k : ℕ) (ks : List HeldKey) → after_body t b ≡ Some s → is_held d k ks ≡ is_some (t.repeats d k)
    → is_held d k (keys_with b ks) ≡ is_some (s.repeats d k)
due_step (Motion m) t s d k ks is h = motion_step t s d k (with_ids t.ids m.device) (is_held d k ks) (after_sent (t.ids m.device) m) is h
due_step (Key m) t s d k ks is h = key_step t s m d k ks (after_key (t.repeats m.key.device m.key.scan) m) refl is h
due_step (Focus b) t s d k ks is h = focus_step t s d k b (differ b t.focus) (is_held d k ks) is h

due_from : (past : List Message) (m : Message) (s : StreamState) (d k : ℕ) (o : Option StreamState) → option_and_then (λ t. after_body t m.body) o ≡ Some s
    → ((t : StreamState) → o ≡ Some t → is_held d k (keys_after past) ≡ is_some (t.repeats d k))
    → is_held d k (keys_with m.body (keys_after past)) ≡ is_some (s.repeats d k)
due_from past m s d k None is h = absurd (cc)
due_from past m s d k (Some t) is h = due_step m.body t s d k (keys_after past) is (h t refl)

pub due_exactly : (past : List Message) (s : StreamState) (device scan : ℕ) → stream_state past ≡ Some s
    → is_held device scan (keys_after past) ≡ is_some (s.repeats device scan)
due_exactly [] s device scan is =
    let same : unsent ≡ s = cc in ap (λ (x : StreamState). is_some (x.repeats device scan)) same
due_exactly (m ∷ past) s device scan is =
    due_from past m s device scan (stream_state past) is (λ t e. due_exactly past t device scan e)

-- ---- keys that rise are one list

own_place : (k : HeldKey) → is_at k.device k.scan k ≡ true
own_place k = grind (arith, nat_tests)

not_there : (x k : HeldKey) → is_before x k ≡ true → is_at x.device x.scan k ≡ false
not_there x k h = grind (arith, nat_tests)

not_held : (x : HeldKey) (ks : List HeldKey) → list_all (is_before x) ks ≡ true → is_held x.device x.scan ks ≡ false
not_held x [] h = refl
not_held x (k ∷ ks) h =
    let here = both (is_before x k) (list_all (is_before x) ks) h in
    rw (not_there x k here.0, not_held x ks here.1) refl

held_first : (k : HeldKey) (ks : List HeldKey) → is_held k.device k.scan (k ∷ ks) ≡ true
held_first k ks = rw (own_place k) refl

none_held : (k : HeldKey) (ks : List HeldKey) → is_held k.device k.scan [] ≡ is_held k.device k.scan (k ∷ ks) → ⊥
none_held k ks h = let there = held_first k ks in absurd (cc)

not_first : (x y : HeldKey) (xs ys : List HeldKey) → are_rising (y ∷ ys) ≡ true → is_before x y ≡ true
    → is_held x.device x.scan (x ∷ xs) ≡ is_held x.device x.scan (y ∷ ys) → ⊥
not_first x y xs ys h e same =
    let here = both (list_all (is_before y) ys) (are_rising ys) h in
    let none : is_held x.device x.scan (y ∷ ys) ≡ false = not_held x (y ∷ ys) (rw (e, all_before x y ys e here.0) refl) in
    let there = held_first x xs in
    absurd (cc)

heads_at : (x y : HeldKey) (v w : Bool) → is_before x y ≡ v → is_before y x ≡ w → (v ≡ true → ⊥) → (w ≡ true → ⊥) → x ≡ y
heads_at x y true w e f never other = absurd (never refl)
heads_at x y false true e f never other = absurd (other refl)
heads_at x y false false e f never other = tied x y e f

tails_at : (a b c : Bool) → (a || b) ≡ (a || c) → (a ≡ true → b ≡ false) → (a ≡ true → c ≡ false) → b ≡ c
tails_at true b c h e f = e refl ∙ sym (f refl)
tails_at false b c h e f = h

from_place : (d s : ℕ) (x : HeldKey) → is_at d s x ≡ true → (d ≡ x.device) × (s ≡ x.scan)
from_place d s x h =
    let device : d ≡ x.device = grind (arith, nat_tests) in
    let scan : s ≡ x.scan = grind (arith, nat_tests) in
    (device, scan)

behind : (d s : ℕ) (x : HeldKey) (xs : List HeldKey) → list_all (is_before x) xs ≡ true → is_at d s x ≡ true → is_held d s xs ≡ false
behind d s x xs h at = let places = from_place d s x at in rw (places.0, places.1) (not_held x xs h)

pub one_list : (xs ys : List HeldKey) → are_rising xs ≡ true → are_rising ys ≡ true → ((d s : ℕ) → is_held d s xs ≡ is_held d s ys) → xs ≡ ys
one_list [] [] h k same = refl
one_list [] (y ∷ ys) h k same = absurd (none_held y ys (same y.device y.scan))
one_list (x ∷ xs) [] h k same = absurd (none_held x xs (sym (same x.device x.scan)))
one_list (x ∷ xs) (y ∷ ys) h k same =
    let head : x ≡ y =
    heads_at x y (is_before x y) (is_before y x) refl refl (λ e. not_first x y xs ys k e (same x.device x.scan)) (λ e. not_first y x ys xs h e (sym (same y.device y.scan))) in
    let here = both (list_all (is_before x) xs) (are_rising xs) h in
    let there = both (list_all (is_before y) ys) (are_rising ys) k in
    let below : list_all (is_before x) ys ≡ true = rw head there.0 in
    let again : (d s : ℕ) → (is_at d s x || is_held d s xs) ≡ (is_at d s x || is_held d s ys) = λ d s. same d s ∙ rw head refl in
    let tail : xs ≡ ys =
    one_list xs ys here.1 there.1 (λ d s.
    tails_at (is_at d s x) (is_held d s xs) (is_held d s ys) (again d s) (λ at. behind d s x xs here.0 at) (λ at. behind d s x ys below at)) in
    ap (λ z. z ∷ xs) head ∙ ap (λ zs. y ∷ zs) tail
