-- The calls of a session and a mouse are in order, and of both kinds.
use Rattle.std.proofs.Common.{◌≡◌, ℕ, ◌≤◌, ◌<◌, Bool, true, false, not, ◌&&◌, ◌||◌, cond, List, [], ◌∷◌, ◌++◌, Option, Some, None, refl, sym, ap, ◌∙◌, arith}
use Rattle.std.specs.Prelude.{nat_eq, nat_le, nat_lt, filter, ℤ}
use Rattle.std.specs.List.{AllByRecursion, list_all}
use Rattle.std.specs.List.Sorted.{IsNonDecreasingBy}
use Rattle.std.specs.Option.{option_to_list}
use Rattle.std.proofs.lemmas.Bool.{and_from, and_parts, eq-eqb, eqb-true, leb-false, leb-true, lt-ltb, ltb-false, ltb-true, or_left}
use Rattle.std.proofs.lemmas.List.{append-nil}
use Rattle.std.proofs.lemmas.List.Folds.{list_all-append}
use Rattle.std.proofs.lemmas.List.Sorted.{IsNonDecreasingBy-drop}
use Rattle.raw_events.specs.declared.event.RawEvent.{RawEvent}
use Rattle.session_plan.specs.declared.plan.Act.{Act}
use Rattle.session_plan.specs.declared.plan.Act.TheVariants as acts
use Rattle.session_plan.specs.declared.plan.Step.{Step}
use Rattle.cursor_core.specs.declared.call.CursorCall.{CursorCall}
use Rattle.cursor_core.specs.declared.call.CursorCall.TheVariants.{Moved, Remove, Windows}
use Rattle.cursor_core.specs.Calls.{is_motion, moment_of}
use Rattle.cursor_core.specs.Packets.{has_motion, is_end, latest, motion_by, motion_of, packet, sum_of}
use Rattle.hover_text.specs.Laws.{BothKindsLaw, CallOrderLaw, are_in_order, may_follow, mouse_motions}
use Rattle.hover_text.specs.Schedule.{act_calls, calls_of, placed, step_calls, with_motion}
use Rattle.hover_text.proofs.Running.{latest_rises, motion_moment}

-- a later moment, or the same one with something more
rises : (x y : ℕ) (b : Bool) → (nat_lt x y || nat_eq x y && b) ≡ true → x ≤ y
rises x y b = by_test (nat_lt x y) refl
  where
    by_test : (t : Bool) → nat_lt x y ≡ t → (t || nat_eq x y && b) ≡ true → x ≤ y
    by_test true e h = let lt = ltb-true x y e in omega (arith, lt)
    by_test false e h = let same = eqb-true x y (and_parts (nat_eq x y) b h).0 in omega (arith, same)

rises_so : (x y : ℕ) (b : Bool) → x ≤ y → b ≡ true → (nat_lt x y || nat_eq x y && b) ≡ true
rises_so x y b le is = by_test (nat_lt x y) refl
  where
    by_test : (t : Bool) → nat_lt x y ≡ t → (t || nat_eq x y && b) ≡ true
    by_test true e = refl
    by_test false e = let above = ltb-false x y e in and_from (nat_eq x y) b (eq-eqb x y (omega (arith, above, le))) is

not_later : (c x : CursorCall) → may_follow c x ≡ true → moment_of x ≤ moment_of c
not_later c x h = rises (moment_of x) (moment_of c) (is_motion c || not (is_motion x)) h

motion_follows : (m x : CursorCall) → is_motion m ≡ true → moment_of x ≤ moment_of m → may_follow m x ≡ true
motion_follows m x is le = rises_so (moment_of x) (moment_of m) (is_motion m || not (is_motion x)) le (or_left (is_motion m) (not (is_motion x)) is)

step_follows : (c x : CursorCall) → is_motion x ≡ false → moment_of x ≤ moment_of c → may_follow c x ≡ true
step_follows c x is le = rises_so (moment_of x) (moment_of c) (is_motion c || not (is_motion x)) le (by_kind (is_motion c) (is_motion x) is)
  where
    by_kind : (a b : Bool) → b ≡ false → (a || not b) ≡ true
    by_kind true b e = refl
    by_kind false b e = ap (λ x. not x) e

later_follows : (c x : CursorCall) → moment_of x < moment_of c → may_follow c x ≡ true
later_follows c x lt = or_left (nat_lt (moment_of x) (moment_of c)) (nat_eq (moment_of x) (moment_of c) && (is_motion c || not (is_motion x))) (lt-ltb (moment_of x) (moment_of c) lt)

-- what holds of a motion and of all calls holds with the motion among them
all_placed : (p : CursorCall → Bool) (m : CursorCall) (cs : List CursorCall) → p m ≡ true → list_all p cs ≡ true → list_all p (placed m cs) ≡ true
all_placed p m [] one all = and_from (p m) true one refl
all_placed p m (c ∷ cs) one all =
    let both = and_parts (p c) (list_all p cs) all in
    by_test (nat_le (moment_of c) (moment_of m)) (and_from (p m) (list_all p (c ∷ cs)) one all)
    (and_from (p c) (list_all p (placed m cs)) both.0 (all_placed p m cs one both.1))
  where
    by_test : (b : Bool) → list_all p (m ∷ c ∷ cs) ≡ true → list_all p (c ∷ placed m cs) ≡ true → list_all p (cond b (m ∷ c ∷ cs) (c ∷ placed m cs)) ≡ true
    by_test true h i = h
    by_test false h i = i

-- a motion may follow what a call that is not later may follow
all_follow : (m c : CursorCall) (cs : List CursorCall) → is_motion m ≡ true → moment_of c ≤ moment_of m → list_all (may_follow c) cs ≡ true → list_all (may_follow m) cs ≡ true
all_follow m c [] is le all = refl
all_follow m c (x ∷ cs) is le all =
    let both = and_parts (may_follow c x) (list_all (may_follow c) cs) all in
    let before = not_later c x both.0 in
    and_from (may_follow m x) (list_all (may_follow m) cs) (motion_follows m x is (omega (arith, le, before))) (all_follow m c cs is le both.1)

-- calls with a motion among them
motion_in_order : (m : CursorCall) (cs : List CursorCall) → is_motion m ≡ true → are_in_order cs ≡ true → are_in_order (placed m cs) ≡ true
motion_in_order m [] is h = refl
motion_in_order m (c ∷ cs) is h =
    let both = and_parts (list_all (may_follow c) cs) (are_in_order cs) h in
    by_test (nat_le (moment_of c) (moment_of m)) refl both.0 (motion_in_order m cs is both.1)
  where
    by_test : (b : Bool) → nat_le (moment_of c) (moment_of m) ≡ b → list_all (may_follow c) cs ≡ true → are_in_order (placed m cs) ≡ true
        → are_in_order (cond b (m ∷ c ∷ cs) (c ∷ placed m cs)) ≡ true
    by_test true e all rest =
        let le = leb-true (moment_of c) (moment_of m) e in
        and_from (list_all (may_follow m) (c ∷ cs)) (are_in_order (c ∷ cs))
        (and_from (may_follow m c) (list_all (may_follow m) cs) (motion_follows m c is le) (all_follow m c cs is le all)) h
    by_test false e all rest =
        and_from (list_all (may_follow c) (placed m cs)) (are_in_order (placed m cs))
        (all_placed (may_follow c) m cs (later_follows c m (leb-false (moment_of c) (moment_of m) e)) all) rest

-- a packet gives a motion
is_motion_of : (past : List RawEvent) (e : RawEvent) (m : CursorCall) → motion_of past e ≡ Some m → is_motion m ≡ true
is_motion_of past e m h = by_end (is_end past e) (latest (e ∷ past)) h
  where
    by_motion : (b : Bool) (t : ℕ) (x y : ℤ) → cond b (Some (Moved t x y)) None ≡ Some m → is_motion m ≡ true
    by_motion true t x y q = let same : Moved t x y ≡ m = cc q in ap is_motion (sym same)
    by_motion false t x y q = cc q

    by_end : (b : Bool) (t : ℕ) → cond b (motion_by t (packet past)) None ≡ Some m → is_motion m ≡ true
    by_end true t q = by_motion (has_motion (packet past)) t (sum_of 0 (packet past)) (sum_of 1 (packet past)) q
    by_end false t q = cc q

-- these are calls of steps, none of them before a moment
abbrev AreSteps : ℕ → List CursorCall → Type 0
AreSteps t cs = AllByRecursion (λ c. (t ≤ moment_of c) × (is_motion c ≡ false)) cs

both_steps : (t : ℕ) (xs ys : List CursorCall) → AreSteps t xs → AreSteps t ys → AreSteps t (xs ++ ys)
both_steps t [] ys h i = i
both_steps t (x ∷ xs) ys h i = (h.0, both_steps t xs ys h.1 i)

act_steps : (t at : ℕ) (act : Act) → t ≤ at → AreSteps t (act_calls at act)
act_steps t at (acts.Windows snapshot) le = ((le, refl), tt)
act_steps t at (acts.FocusOn display channel) le = tt
act_steps t at (acts.Pilfer channel device) le = tt
act_steps t at (acts.Remove channel) le = ((le, refl), tt)

-- no step is before the first one
steps_from : (t : ℕ) (s : Step) (ss : List Step) → t ≤ s.at → IsNonDecreasingBy (λ (s : Step). s.at) (s ∷ ss) → AreSteps t (step_calls (s ∷ ss))
steps_from t s [] le up = act_steps t s.at s.act le
steps_from t s (x ∷ ss) le up =
    let next : s.at ≤ x.at = up 0 1 s (omega arith) (omega arith) in
    both_steps t (step_calls (x ∷ ss)) (act_calls s.at s.act)
    (steps_from t x ss (omega (arith, le, next)) (IsNonDecreasingBy-drop (λ (s : Step). s.at) 1 (s ∷ x ∷ ss) up)) (act_steps t s.at s.act le)

steps_after : (s : Step) (ss : List Step) → IsNonDecreasingBy (λ (s : Step). s.at) (s ∷ ss) → AreSteps s.at (step_calls ss)
steps_after s [] up = tt
steps_after s (x ∷ ss) up =
    let next : s.at ≤ x.at = up 0 1 s (omega arith) (omega arith) in
    steps_from s.at x ss next (IsNonDecreasingBy-drop (λ (s : Step). s.at) 1 (s ∷ x ∷ ss) up)

-- the call of a step goes before those of later steps
step_in_order : (c : CursorCall) (cs : List CursorCall) → is_motion c ≡ false → AreSteps (moment_of c) cs → are_in_order cs ≡ true → are_in_order (cs ++ c ∷ []) ≡ true
step_in_order c [] is h order = refl
step_in_order c (x ∷ cs) is h order =
    let both = and_parts (list_all (may_follow x) cs) (are_in_order cs) order in
    and_from (list_all (may_follow x) (cs ++ c ∷ [])) (are_in_order (cs ++ c ∷ []))
    (list_all-append (may_follow x) cs (c ∷ [])
    ∙ and_from (list_all (may_follow x) cs) (list_all (may_follow x) (c ∷ [])) both.0 (and_from (may_follow x c) true (step_follows x c is h.0.0) refl))
    (step_in_order c cs is h.1 both.1)

act_in_order : (at : ℕ) (act : Act) (cs : List CursorCall) → AreSteps at cs → are_in_order cs ≡ true → are_in_order (cs ++ act_calls at act) ≡ true
act_in_order at (acts.Windows snapshot) cs h order = step_in_order (Windows at snapshot) cs refl h order
act_in_order at (acts.FocusOn display channel) cs h order = ap are_in_order (append-nil cs) ∙ order
act_in_order at (acts.Pilfer channel device) cs h order = ap are_in_order (append-nil cs) ∙ order
act_in_order at (acts.Remove channel) cs h order = step_in_order (Remove at channel) cs refl h order

steps_in_order : (ss : List Step) → IsNonDecreasingBy (λ (s : Step). s.at) ss → are_in_order (step_calls ss) ≡ true
steps_in_order [] up = refl
steps_in_order (s ∷ ss) up =
    act_in_order s.at s.act (step_calls ss) (steps_after s ss up) (steps_in_order ss (IsNonDecreasingBy-drop (λ (s : Step). s.at) 1 (s ∷ ss) up))

all_in_order : (ss : List Step) (past : List RawEvent) → IsNonDecreasingBy (λ (s : Step). s.at) ss → are_in_order (calls_of ss past) ≡ true
all_in_order ss [] up = steps_in_order ss up
all_in_order ss (e ∷ past) up = by_motion (motion_of past e) refl (all_in_order ss past up)
  where
    by_motion : (o : Option CursorCall) → motion_of past e ≡ o → are_in_order (calls_of ss past) ≡ true → are_in_order (with_motion o (calls_of ss past)) ≡ true
    by_motion None is h = h
    by_motion (Some m) is h = motion_in_order m (calls_of ss past) (is_motion_of past e m is) h

pub call_order : CallOrderLaw
call_order plan past ok = all_in_order plan.steps.items past ok.rising

-- each motion among these calls is not later than a moment
abbrev AreBy : ℕ → List CursorCall → Type 0
AreBy t cs = AllByRecursion (λ c. is_motion c ≡ true → moment_of c ≤ t) cs

by_later : (t u : ℕ) (cs : List CursorCall) → t ≤ u → AreBy t cs → AreBy u cs
by_later t u [] le h = tt
by_later t u (c ∷ cs) le h = ((λ is. let here = h.0 is in omega (arith, le, here)), by_later t u cs le h.1)

steps_by : (t : ℕ) (cs : List CursorCall) → AreSteps 0 cs → AreBy t cs
steps_by t [] h = tt
steps_by t (c ∷ cs) h = ((λ is. absurd (let never : false ≡ true = sym h.0.1 ∙ is in cc never)), steps_by t cs h.1)

-- the calls of steps are of steps
all_steps : (ss : List Step) → AreSteps 0 (step_calls ss)
all_steps [] = tt
all_steps (s ∷ ss) = both_steps 0 (step_calls ss) (act_calls s.at s.act) (all_steps ss) (act_steps 0 s.at s.act (omega arith))

placed_by : (t : ℕ) (m : CursorCall) (cs : List CursorCall) → moment_of m ≤ t → AreBy t cs → AreBy t (placed m cs)
placed_by t m [] le h = ((λ is. le), tt)
placed_by t m (c ∷ cs) le h = by_test (nat_le (moment_of c) (moment_of m)) (placed_by t m cs le h.1)
  where
    by_test : (b : Bool) → AreBy t (placed m cs) → AreBy t (cond b (m ∷ c ∷ cs) (c ∷ placed m cs))
    by_test true rest = ((λ is. le), h)
    by_test false rest = (h.0, rest)

-- no motion is later than the latest packet
all_by : (ss : List Step) (past : List RawEvent) → AreBy (latest past) (calls_of ss past)
all_by ss [] = steps_by 0 (step_calls ss) (all_steps ss)
all_by ss (e ∷ past) = by_motion (motion_of past e) refl (by_later (latest past) (latest (e ∷ past)) (calls_of ss past) (latest_rises past e) (all_by ss past))
  where
    by_motion : (o : Option CursorCall) → motion_of past e ≡ o → AreBy (latest (e ∷ past)) (calls_of ss past) → AreBy (latest (e ∷ past)) (with_motion o (calls_of ss past))
    by_motion None is h = h
    by_motion (Some m) is h = let at = motion_moment past e m is in placed_by (latest (e ∷ past)) m (calls_of ss past) (omega (arith, at)) h

-- the calls without motions
abbrev without : List CursorCall → List CursorCall
without cs = filter (λ c. not (is_motion c)) cs

steps_stay : (t : ℕ) (cs : List CursorCall) → AreSteps t cs → without cs ≡ cs
steps_stay t [] h = refl
steps_stay t (c ∷ cs) h = ap (λ b. cond (not b) (c ∷ without cs) (without cs)) h.0.1 ∙ ap (λ xs. c ∷ xs) (steps_stay t cs h.1)

motion_goes : (m : CursorCall) (cs : List CursorCall) → is_motion m ≡ true → without (m ∷ cs) ≡ without cs
motion_goes m cs is = ap (λ b. cond (not b) (m ∷ without cs) (without cs)) is

placed_goes : (m : CursorCall) (cs : List CursorCall) → is_motion m ≡ true → without (placed m cs) ≡ without cs
placed_goes m [] is = motion_goes m [] is
placed_goes m (c ∷ cs) is = by_test (nat_le (moment_of c) (moment_of m)) (placed_goes m cs is)
  where
    by_test : (b : Bool) → without (placed m cs) ≡ without cs → without (cond b (m ∷ c ∷ cs) (c ∷ placed m cs)) ≡ without (c ∷ cs)
    by_test true rest = motion_goes m (c ∷ cs) is
    by_test false rest = ap (λ xs. cond (not (is_motion c)) (c ∷ xs) xs) rest

steps_of_all : (ss : List Step) (past : List RawEvent) → without (calls_of ss past) ≡ step_calls ss
steps_of_all ss [] = steps_stay 0 (step_calls ss) (all_steps ss)
steps_of_all ss (e ∷ past) = by_motion (motion_of past e) refl (steps_of_all ss past)
  where
    by_motion : (o : Option CursorCall) → motion_of past e ≡ o → without (calls_of ss past) ≡ step_calls ss → without (with_motion o (calls_of ss past)) ≡ step_calls ss
    by_motion None is h = h
    by_motion (Some m) is h = placed_goes m (calls_of ss past) (is_motion_of past e m is) ∙ h

-- the motions among the calls
abbrev only : List CursorCall → List CursorCall
only cs = filter is_motion cs

motion_stays : (m : CursorCall) (cs : List CursorCall) → is_motion m ≡ true → only (m ∷ cs) ≡ m ∷ only cs
motion_stays m cs is = ap (λ b. cond b (m ∷ only cs) (only cs)) is

step_goes : (c : CursorCall) (cs : List CursorCall) → is_motion c ≡ false → only (c ∷ cs) ≡ only cs
step_goes c cs is = ap (λ b. cond b (c ∷ only cs) (only cs)) is

steps_go : (t : ℕ) (cs : List CursorCall) → AreSteps t cs → only cs ≡ []
steps_go t [] h = refl
steps_go t (c ∷ cs) h = step_goes c cs h.0.1 ∙ steps_go t cs h.1

-- a motion that is not before the others is the newest of them
placed_newest : (m : CursorCall) (cs : List CursorCall) → is_motion m ≡ true → AreBy (moment_of m) cs → only (placed m cs) ≡ m ∷ only cs
placed_newest m [] is h = motion_stays m [] is
placed_newest m (c ∷ cs) is h = by_test (nat_le (moment_of c) (moment_of m)) refl (placed_newest m cs is h.1)
  where
    no_motion : (b : Bool) → is_motion c ≡ b → moment_of m < moment_of c → b ≡ false
    no_motion true e lt = let le = h.0 e in absurd (omega (arith, le, lt))
    no_motion false e lt = refl

    by_test : (b : Bool) → nat_le (moment_of c) (moment_of m) ≡ b → only (placed m cs) ≡ m ∷ only cs → only (cond b (m ∷ c ∷ cs) (c ∷ placed m cs)) ≡ m ∷ only (c ∷ cs)
    by_test true e rest = motion_stays m (c ∷ cs) is
    by_test false e rest =
        let stands = no_motion (is_motion c) refl (leb-false (moment_of c) (moment_of m) e) in
        step_goes c (placed m cs) stands ∙ rest ∙ ap (λ xs. m ∷ xs) (sym (step_goes c cs stands))

motions_of_all : (ss : List Step) (past : List RawEvent) → only (calls_of ss past) ≡ mouse_motions past
motions_of_all ss [] = steps_go 0 (step_calls ss) (all_steps ss)
motions_of_all ss (e ∷ past) = by_motion (motion_of past e) refl (motions_of_all ss past)
  where
    by_motion : (o : Option CursorCall) → motion_of past e ≡ o → only (calls_of ss past) ≡ mouse_motions past
        → only (with_motion o (calls_of ss past)) ≡ option_to_list o ++ mouse_motions past
    by_motion None is h = h
    by_motion (Some m) is h =
        let at = motion_moment past e m is in
        let rise = latest_rises past e in
        placed_newest m (calls_of ss past) (is_motion_of past e m is)
        (by_later (latest past) (moment_of m) (calls_of ss past) (omega (arith, at, rise)) (all_by ss past))
        ∙ ap (λ xs. m ∷ xs) h

pub both_kinds : BothKindsLaw
both_kinds steps past = (steps_of_all steps past, motions_of_all steps past)
