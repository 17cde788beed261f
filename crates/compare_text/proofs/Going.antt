-- One more expected section.
use Rattle.std.proofs.Common.{◌≡◌, ℕ, zero, suc, Bool, ◌+◌, ◌<◌, ◌≤◌, ◌&&◌, true, false, nat_lt, arith, List, [], ◌∷◌, ◌++◌, length, map, drop, get_or, set, Option, Some, None, Result, Ok, Err, refl, sym, ap, ◌∙◌, add-one}
use Rattle.std.specs.Prelude.{flat_map}
use Rattle.std.proofs.lemmas.Bool.{ltb-true}
use Rattle.std.proofs.Math.Seq.{drop-cons}
use Rattle.std.specs.Option.{option_or}
use Rattle.compare_text.specs.declared.comparison.Comparison.{Comparison}
use Rattle.compare_text.specs.declared.error.CompareError.{CompareError}
use Rattle.compare_text.specs.declared.error.CompareError.TheVariants.{NoSection}
use Rattle.compare_text.specs.declared.measure.Measure.{Measure}
use Rattle.compare_text.specs.declared.section.Opened.{Opened}
use Rattle.compare_text.specs.Compared.{first_difference, first_fault, point_pairs, points_paired}
use Rattle.compare_text.specs.Indexed.{are_opened, count_of, is_good, is_opened, messages_at, seen}
use Rattle.compare_text.specs.Measured.{PointPair, joined, measure}
use Rattle.compare_text.specs.Pairing.{first_at, left_from, measured_after}
use Rattle.compare_text.specs.Pairs.{pairs}
use Rattle.compare_text.specs.Points.{Section, points_in}
use Rattle.compare_text.proofs.Measures.{few_pairs, few_points, measured_both}
use Rattle.compare_text.proofs.Paired.{picks}

-- the next one, and those after it
pub split : (xs : List Opened) (i : ℕ) (x : Opened) → i < length xs → x ≡ get_or xs i x → drop i xs ≡ x ∷ drop (i + 1) xs
split xs i x h e = drop-cons xs i x h ∙ ap (λ y. y ∷ drop (suc i) xs) (sym e) ∙ ap (λ k. x ∷ drop k xs) (sym (add-one i))

-- the sections of two files, measured behind others
abbrev pub told : Comparison → Measure → List Section → List Section → Result Measure CompareError
told c m want got = measured_after m (first_fault c (pairs want got)) (flat_map (point_pairs c.each_move) (pairs want got))

-- what two sections say
abbrev pub own : Comparison → Measure → Section → Section → Result Measure CompareError
own c m w g =
    measured_after m (first_difference c.tolerance.us c.tolerance.pixels (points_in c.each_move w.messages) (points_in c.each_move g.messages))
    (points_paired (points_in c.each_move w.messages) (points_in c.each_move g.messages))

pub missing : (c : Comparison) (m : Measure) (from : List ℕ) (left : List Opened) (s : Opened) (rest : List Opened) (got : List Section) → left ≡ s ∷ rest
    → s.id < length from → first_at (get_or from s.id 0) s.id 0 got ≡ None → told c m (map seen left) (left_from 0 from got) ≡ Err (NoSection s.line)
missing c m from left s rest got is room none = rw (is, picks from s.id 0 got room, none) refl

-- what is said of a pair of sections, and of the others
abbrev behind : Measure → Option CompareError → Option CompareError → List PointPair → List PointPair → Result Measure CompareError
behind m d fault ps qs = measured_after m (option_or d fault) (ps ++ qs)

paired : (c : Comparison) (m : Measure) (from : List ℕ) (left : List Opened) (s : Opened) (rest : List Opened) (got : List Section) (place : ℕ) (g : Section)
    → left ≡ s ∷ rest → s.id < length from → first_at (get_or from s.id 0) s.id 0 got ≡ Some (place, g)
    → (ws others : List Section) → ws ≡ map seen rest → others ≡ left_from 0 (set from s.id (place + 1)) got
    → told c m (map seen left) (left_from 0 from got)
    ≡ behind m
    (first_difference c.tolerance.us c.tolerance.pixels (points_in c.each_move (messages_at s.lines.events)) (points_in c.each_move g.messages))
    (first_fault c (pairs ws others))
    (points_paired (points_in c.each_move (messages_at s.lines.events)) (points_in c.each_move g.messages))
    (flat_map (point_pairs c.each_move) (pairs ws others))
paired c m from left s rest got place g is room found ws others e f = rw (e, f, is, picks from s.id 0 got room, found) refl

-- two sections differ
behind_differs : (m : Measure) (d fault : Option CompareError) (ps qs : List PointPair) (x : CompareError) → measured_after m d ps ≡ Err x
    → behind m d fault ps qs ≡ Err x
behind_differs m None fault ps qs x h = absurd (cc)
behind_differs m (Some y) fault ps qs x h = h

-- two sections agree
behind_agrees : (m n : Measure) (d fault : Option CompareError) (ps qs : List PointPair) → measured_after m d ps ≡ Ok n
    → behind m d fault ps qs ≡ measured_after n fault qs
behind_agrees m n None fault ps qs h =
    let is : joined m (measure ps) ≡ n = cc in measured_both m fault ps qs ∙ ap (λ k. measured_after k fault qs) is
behind_agrees m n (Some y) fault ps qs h = absurd (cc)

pub differs : (c : Comparison) (m : Measure) (from : List ℕ) (left : List Opened) (s : Opened) (rest : List Opened) (got : List Section) (place : ℕ) (g : Section)
    (x : CompareError) → left ≡ s ∷ rest → s.id < length from → first_at (get_or from s.id 0) s.id 0 got ≡ Some (place, g) → own c m (seen s) g ≡ Err x
    → told c m (map seen left) (left_from 0 from got) ≡ Err x
differs c m from left s rest got place g x is room found h =
    paired c m from left s rest got place g is room found _ _ refl refl ∙ behind_differs m _ _ _ _ x h

pub agrees : (c : Comparison) (m n : Measure) (from : List ℕ) (left : List Opened) (s : Opened) (rest : List Opened) (got : List Section) (place : ℕ) (g : Section)
    → left ≡ s ∷ rest → s.id < length from → first_at (get_or from s.id 0) s.id 0 got ≡ Some (place, g) → own c m (seen s) g ≡ Ok n
    → told c m (map seen left) (left_from 0 from got) ≡ told c n (map seen rest) (left_from 0 (set from s.id (place + 1)) got)
agrees c m n from left s rest got place g is room found h =
    paired c m from left s rest got place g is room found _ _ refl refl ∙ behind_agrees m n _ _ _ _ h

-- the number of points stays within that of messages
own_room : (m n : Measure) (d : Option CompareError) (ps : List PointPair) → measured_after m d ps ≡ Ok n → n.points ≡ m.points + length ps
own_room m n None ps h = let is : joined m (measure ps) ≡ n = cc in sym (ap (λ (k : Measure). k.points) is)
own_room m n (Some x) ps h = absurd (cc)

pub room_left : (c : Comparison) (m n : Measure) (s : Opened) (g : Section) → own c m (seen s) g ≡ Ok n
    → n.points ≤ m.points + length (messages_at s.lines.events)
room_left c m n s g h =
    let ws = points_in c.each_move (messages_at s.lines.events) in
    let gs = points_in c.each_move g.messages in
    omega (arith, own_room m n _ _ h, few_pairs ws gs, few_points c.each_move (messages_at s.lines.events))

pub count_split : (left : List Opened) (s : Opened) (rest : List Opened) → left ≡ s ∷ rest
    → count_of (map seen left) ≡ length (messages_at s.lines.events) + count_of (map seen rest)
count_split left s rest is = rw is refl

-- so a pair of sections has room for its points
pub room_here : (c : Comparison) (m : Measure) (left : List Opened) (s : Opened) (rest : List Opened) (n : ℕ) → left ≡ s ∷ rest
    → m.points + count_of (map seen left) ≤ n → m.points + length (points_in c.each_move (messages_at s.lines.events)) ≤ n
room_here c m left s rest n is room = omega (arith, room, count_split left s rest is, few_points c.each_move (messages_at s.lines.events))

-- a section that may be compared is of one of 64 channels
both : (a b : Bool) → (a && b) ≡ true → (a ≡ true) × (b ≡ true)
both true b h = (refl, h)
both false b h = absurd (cc)

pub opened_at : (ss : List Opened) (i : ℕ) (x d : Opened) → are_opened ss ≡ true → i < length ss → x ≡ get_or ss i d → is_opened x ≡ true
opened_at [] i x d h room e = absurd (omega (arith, room))
opened_at (s ∷ ss) zero x d h room e = rw e ((both (is_opened s) (are_opened ss) h).0)
opened_at (s ∷ ss) (suc i) x d h room e = opened_at ss i x d ((both (is_opened s) (are_opened ss) h).1) (omega (arith, room)) e

pub good_at : (ss : List Opened) (i : ℕ) (x : Opened) → are_opened ss ≡ true → i < length ss → x ≡ get_or ss i x → is_good x.lines.events ≡ true
good_at ss i x h room e = (both (is_good x.lines.events) (nat_lt x.id 65) (opened_at ss i x x h room e)).0

pub id_fits : (ss : List Opened) (i : ℕ) (x : Opened) → are_opened ss ≡ true → i < length ss → x ≡ get_or ss i x → x.id < 65
id_fits ss i x h room e =
    ltb-true x.id 65 ((both (is_good x.lines.events) (nat_lt x.id 65) (opened_at ss i x x h room e)).1)
