-- The earliest of some windows is the front one of those that began first.
use Rattle.std.proofs.Common.{ℕ, ◌<◌, ◌≤◌, ◌≡◌, ◌==◌, ◌&&◌, ◌||◌, nat_lt, IsTrue, ◌↔◌, Bool, true, false, cond, if◌then◌else◌, List, [], ◌∷◌, map, filter, fold, Option, Some, None, option_map, refl, sym, ap, ap₂, ◌∙◌, inl, inr, arith}
use Rattle.std.specs.List.{find, list_any}
use Rattle.std.proofs.lemmas.Bool.{cases_lt, lt-ltb, le-ltb, eq-eqb, eqb-true, and_parts, both_ways, true≢false}
use Rattle.window_snapshot.specs.Mask.{is_channel, mask_has}
use Rattle.window_snapshot.specs.declared.reach.Reach.{Reach}
use Rattle.window_snapshot.specs.declared.window.Window.{Window}
use Rattle.routing_rules.specs.Scene.{Scene}
use Rattle.routing_rules.specs.Choice.{sooner, earliest}
use Rattle.touch_state.specs.Touches.{Touches, since, any, is_holder_in, IsEarliest}
use Rattle.touch_state.proofs.Sets.{and_false}
use Rattle.route_split.specs.Seen.{scene_with}
use Rattle.route_split.proofs.Earlier.{any_channel}

-- a number is at or below those of all of these
abbrev LeqAll : (ℕ → ℕ) → ℕ → List ℕ → Type 0
LeqAll f n [] = Unit {0}
LeqAll f n (y ∷ ys) = (n ≤ f y) × LeqAll f n ys

-- a test selects those of the first list that are at or below all of the other
abbrev Finds : (ℕ → ℕ) → (ℕ → Bool) → (xs all : List ℕ) → Type 0
Finds f e [] all = Unit {0}
Finds f e (x ∷ xs) all = ((e x ≡ true → LeqAll f (f x) all) × (LeqAll f (f x) all → e x ≡ true)) × Finds f e xs all

-- all of these hold something
abbrev AllHold : Touches → List ℕ → Type 0
AllHold t [] = Unit {0}
AllHold t (x ∷ xs) = (any t x ≡ true) × AllHold t xs

leq_less : (f : ℕ → ℕ) (n m : ℕ) (ys : List ℕ) → n ≤ m → LeqAll f m ys → LeqAll f n ys
leq_less f n m [] le l = tt
leq_less f n m (y ∷ ys) le l = let first : m ≤ f y = l.0 in (omega (arith, le, first), leq_less f n m ys le l.1)

drop_front : (f : ℕ → ℕ) (e : ℕ → Bool) (ys : List ℕ) (b w : ℕ) (xs : List ℕ) → f w < f b → Finds f e ys (b ∷ w ∷ xs) → Finds f e ys (w ∷ xs)
drop_front f e [] b w xs lt h = tt
drop_front f e (y ∷ ys) b w xs lt h = (
  (λ t. (h.0.0 t).1, λ l. let low : f y ≤ f w = l.0 in h.0.1 (omega (arith, low, lt), l)),
  drop_front f e ys b w xs lt h.1,
)

drop_second : (f : ℕ → ℕ) (e : ℕ → Bool) (ys : List ℕ) (b w : ℕ) (xs : List ℕ) → f b ≤ f w → Finds f e ys (b ∷ w ∷ xs) → Finds f e ys (b ∷ xs)
drop_second f e [] b w xs le h = tt
drop_second f e (y ∷ ys) b w xs le h = (
  (λ t. let l = h.0.0 t in (l.0, l.1.1), λ l. let low : f y ≤ f b = l.0 in h.0.1 (l.0, (omega (arith, low, le), l.1))),
  drop_second f e ys b w xs le h.1,
)

-- the best so far, and the windows behind it
walk : (t : Touches) (windows : List Window) (reach : Reach) (able d : ℕ) (e : ℕ → Bool) (b : ℕ) (xs : List ℕ)
    → any t b ≡ true → AllHold t xs → Finds (since t) e (b ∷ xs) (b ∷ xs)
    → fold (sooner (scene_with windows reach able t) d) (Some b) xs ≡ find e (b ∷ xs)
walk t windows reach able d e b [] h hs m =
    sym (ap (λ c. cond c (Some b) None) (m.0.1 (omega arith, tt)))
walk t windows reach able d e b (w ∷ xs) h hs m = elim (cases_lt (since t w) (since t b)) [
  | inl lt ↦ first lt (walk t windows reach able d e w xs hs.0 hs.1 (drop_front (since t) e (w ∷ xs) b w xs lt m.1))
  | inr le ↦ second le (walk t windows reach able d e b xs h hs.1 (drop_second (since t) e (b ∷ xs) b w xs le (m.0, m.1.1)))
]
  where
    s : Scene
    s = scene_with windows reach able t

    found : Bool → Option ℕ
    found c = cond c (Some b) (find e (w ∷ xs))

    by_since : (c : Bool) → nat_lt (since t w) (since t b) ≡ c → sooner s d (Some b) w ≡ Some (if c then w else b)
    by_since c is = ap (λ x. Some (if x then w else b)) (ap₂ (λ x y. x && y && nat_lt (since t w) (since t b)) hs.0 h ∙ is)

    first : since t w < since t b → fold (sooner s d) (Some w) xs ≡ find e (w ∷ xs) → fold (sooner s d) (sooner s d (Some b) w) xs ≡ found (e b)
    first lt go =
        ap (λ o. fold (sooner s d) o xs) (by_since true (lt-ltb _ _ lt))
        ∙ go
        ∙ sym (ap found (not_best (e b) refl))
      where
        not_best : (c : Bool) → e b ≡ c → e b ≡ false
        not_best false is = is
        not_best true is = let le : since t b ≤ since t w = (m.0.0 is).1.0 in absurd (omega (arith, le, lt))

    second : since t b ≤ since t w → fold (sooner s d) (Some b) xs ≡ find e (b ∷ xs) → fold (sooner s d) (sooner s d (Some b) w) xs ≡ found (e b)
    second le go =
        ap (λ o. fold (sooner s d) o xs) (by_since false (le-ltb _ _ le))
        ∙ go
        ∙ same (e b) refl
      where
        not_found : e b ≡ false → (c : Bool) → e w ≡ c → e w ≡ false
        not_found off false is = is
        not_found off true is = absurd (both_ways (e b) off (m.0.1 (leq_less (since t) (since t b) (since t w) (b ∷ w ∷ xs) le (m.1.0.0 is))))

        same : (c : Bool) → e b ≡ c → cond (e b) (Some b) (find e xs) ≡ found (e b)
        same true is = ap (λ c. cond c (Some b) (find e xs)) is ∙ sym (ap found is)
        same false is =
            ap (λ c. cond c (Some b) (find e xs)) is
            ∙ sym (ap (λ c. cond c (Some w) (find e xs)) (not_found is (e w) refl))
            ∙ sym (ap found is)

earliest_found : (t : Touches) (windows : List Window) (reach : Reach) (able d : ℕ) (e : ℕ → Bool) (xs : List ℕ)
    → AllHold t xs → Finds (since t) e xs xs → earliest (scene_with windows reach able t) d xs ≡ find e xs
earliest_found t windows reach able d e [] hs m = refl
earliest_found t windows reach able d e (b ∷ xs) hs m = walk t windows reach able d e b xs hs.0 hs.1 m

-- what is in a list
abbrev has : List ℕ → ℕ → Bool
has xs y = list_any (λ z. z == y) xs

all_leq : (f : ℕ → ℕ) (n : ℕ) (ys : List ℕ) → ((y : ℕ) → has ys y ≡ true → n ≤ f y) → LeqAll f n ys
all_leq f n [] h = tt
all_leq f n (y ∷ ys) h = (
  h y (ap (λ b. b || has ys y) (eq-eqb y y refl)),
  all_leq f n ys (λ z m. h z (or_true (y == z) (has ys z) m)),
)
  where
    or_true : (a b : Bool) → b ≡ true → (a || b) ≡ true
    or_true true b e = refl
    or_true false b e = e

leq_of : (f : ℕ → ℕ) (n : ℕ) (ys : List ℕ) → LeqAll f n ys → (y : ℕ) → has ys y ≡ true → n ≤ f y
leq_of f n [] l y h = absurd (true≢false (sym h))
leq_of f n (x ∷ ys) l y h = by_test (x == y) refl h (leq_of f n ys l.1 y)
  where
    by_test : (b : Bool) → (x == y) ≡ b → (b || has ys y) ≡ true → (has ys y ≡ true → n ≤ f y) → n ≤ f y
    by_test true e h' rest = let low : n ≤ f x = l.0 in let same : f x ≡ f y = ap f (eqb-true x y e) in omega (arith, low, same)
    by_test false e h' rest = rest h'

finds : (t : Touches) (among : ℕ) (e : ℕ → Bool) (all xs : List ℕ)
    → ((w : ℕ) → IsTrue (e w) ↔ IsEarliest t among w)
    → ((w : ℕ) → has all w ≡ is_holder_in t among w)
    → ((w : ℕ) → has xs w ≡ true → has all w ≡ true)
    → Finds (since t) e xs all
finds t among e all [] is mem sub = tt
finds t among e all (x ∷ xs) is mem sub = (
  (
    λ h. all_leq (since t) (since t x) all (λ y m. ((is x).0 h).first y (sym (mem y) ∙ m)),
    λ l. (is x).1 (record {
      hold = sym (mem x) ∙ sub x (ap (λ b. b || has xs x) (eq-eqb x x refl));
      first = λ v hv. leq_of (since t) (since t x) all l v (mem v ∙ hv);
    }),
  ),
  finds t among e all xs is mem (λ w m. sub w (or_true (x == w) (has xs w) m)),
)
  where
    or_true : (a b : Bool) → b ≡ true → (a || b) ≡ true
    or_true true b e = refl
    or_true false b e = e

-- the windows that pass a test and hold something, as channels
abbrev channels_of : Touches → (Window → Bool) → List Window → List ℕ
channels_of t p ws = map (λ v. v.channel) (filter (λ v. p v && any t v.channel) ws)

all_hold : (t : Touches) (p : Window → Bool) (ws : List Window) → AllHold t (channels_of t p ws)
all_hold t p [] = tt
all_hold t p (v ∷ ws) = by_test (p v && any t v.channel) refl (all_hold t p ws)
  where
    by_test : (b : Bool) → (p v && any t v.channel) ≡ b → AllHold t (channels_of t p ws)
        → AllHold t (map (λ x. x.channel) (cond b (v ∷ filter (λ x. p x && any t x.channel) ws) (filter (λ x. p x && any t x.channel) ws)))
    by_test true e rest = ((and_parts (p v) (any t v.channel) e).1, rest)
    by_test false e rest = rest

has_are : (t : Touches) (p : Window → Bool) (ws : List Window) (y : ℕ)
    → has (channels_of t p ws) y ≡ (any t y && list_any (λ v. v.channel == y) (filter p ws))
has_are t p [] y = sym (and_false (any t y))
has_are t p (v ∷ ws) y = by_test (p v) (any t v.channel) (v.channel == y) refl refl (has_are t p ws y)
  where
    by_test : (b a c : Bool) → any t v.channel ≡ a → (v.channel == y) ≡ c
        → has (channels_of t p ws) y ≡ (any t y && list_any (λ x. x.channel == y) (filter p ws))
        → has (map (λ x. x.channel) (cond (b && a) (v ∷ filter (λ x. p x && any t x.channel) ws) (filter (λ x. p x && any t x.channel) ws))) y
        ≡ (any t y && list_any (λ x. x.channel == y) (cond b (v ∷ filter p ws) (filter p ws)))
    by_test false a c h e rest = rest
    by_test true true true h e rest =
        ap (λ x. x || has (channels_of t p ws) y) e
        ∙ sym (ap₂ (λ x z. x && (z || list_any (λ w. w.channel == y) (filter p ws))) (sym (ap (any t) (eqb-true v.channel y e)) ∙ h) e)
    by_test true true false h e rest =
        ap (λ x. x || has (channels_of t p ws) y) e ∙ rest
        ∙ sym (ap (λ z. any t y && (z || list_any (λ w. w.channel == y) (filter p ws))) e)
    by_test true false true h e rest =
        let none : any t y ≡ false = sym (ap (any t) (eqb-true v.channel y e)) ∙ h in
        rest ∙ ap (λ x. x && list_any (λ w. w.channel == y) (filter p ws)) none
        ∙ sym (ap (λ x. x && ((v.channel == y) || list_any (λ w. w.channel == y) (filter p ws))) none)
    by_test true false false h e rest = rest ∙ sym (ap (λ z. any t y && (z || list_any (λ w. w.channel == y) (filter p ws))) e)

found_in : (t : Touches) (p : Window → Bool) (e : ℕ → Bool) (ws : List Window) → ((c : ℕ) → e c ≡ true → any t c ≡ true)
    → option_map (λ v. v.channel) (find (λ v. p v && e v.channel) ws) ≡ find e (channels_of t p ws)
found_in t p e [] only = refl
found_in t p e (v ∷ ws) only = by_test (p v) (any t v.channel) (e v.channel) refl refl (found_in t p e ws only)
  where
    rest : Option Window
    rest = find (λ x. p x && e x.channel) ws

    by_test : (b a c : Bool) → any t v.channel ≡ a → e v.channel ≡ c
        → option_map (λ x. x.channel) rest ≡ find e (channels_of t p ws)
        → option_map (λ x. x.channel) (cond (b && c) (Some v) rest)
        ≡ find e (map (λ x. x.channel) (cond (b && a) (v ∷ filter (λ x. p x && any t x.channel) ws) (filter (λ x. p x && any t x.channel) ws)))
    by_test false a c h i r = r
    by_test true true true h i r = sym (ap (λ c. cond c (Some v.channel) (find e (channels_of t p ws))) i)
    by_test true true false h i r = r ∙ sym (ap (λ c. cond c (Some v.channel) (find e (channels_of t p ws))) i)
    by_test true false true h i r = absurd (both_ways (any t v.channel) h (only v.channel i))
    by_test true false false h i r = r

-- the front one of the earliest holders in a mask of windows is the earliest of those
pub front_is : (t : Touches) (windows ws : List Window) (reach : Reach) (able d among found : ℕ) (p : Window → Bool)
    → ((w : ℕ) → IsTrue (mask_has found w) ↔ IsEarliest t among w)
    → ((w : ℕ) → mask_has among w ≡ (is_channel w && list_any (λ v. v.channel == w) (filter p ws)))
    → option_map (λ v. v.channel) (find (λ v. p v && mask_has found v.channel) ws)
    ≡ earliest (scene_with windows reach able t) d (channels_of t p ws)
front_is t windows ws reach able d among found p is named =
    found_in t p (mask_has found) ws (λ c h. (and_parts (any t c) (mask_has among c) ((is c).0 h).hold).0)
    ∙ sym (earliest_found t windows reach able d (mask_has found) (channels_of t p ws) (all_hold t p ws)
    (finds t among (mask_has found) (channels_of t p ws) (channels_of t p ws) is mem (λ w m. m)))
  where
    mem : (w : ℕ) → has (channels_of t p ws) w ≡ is_holder_in t among w
    mem w = has_are t p ws w ∙ by_any (any t w) refl
      where
        by_any : (b : Bool) → any t w ≡ b
            → (any t w && list_any (λ v. v.channel == w) (filter p ws)) ≡ (any t w && mask_has among w)
        by_any true h =
            ap (λ x. any t w && x)
            (sym (ap (λ x. x && list_any (λ v. v.channel == w) (filter p ws)) (any_channel t w h)) ∙ sym (named w))
        by_any false h = ap (λ x. x && list_any (λ v. v.channel == w) (filter p ws)) h ∙ sym (ap (λ x. x && mask_has among w) h)
