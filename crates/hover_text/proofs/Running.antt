-- A run, one step later.
use Rattle.std.proofs.Common.{◌≡◌, ℕ, zero, suc, ◌+◌, ◌≤◌, ◌<◌, Bool, true, false, cond, List, [], ◌∷◌, ◌++◌, drop, get_or, length, Option, Some, None, refl, sym, ap, subst, ◌∙◌, arith}
use Rattle.std.specs.Prelude.{max, nat_le, slice_get, ℤ}
use Rattle.std.specs.List.{AllByRecursion}
use Rattle.std.specs.List.Sorted.{IsNonDecreasingBy}
use Rattle.std.proofs.lemmas.Bool.{leb-true, leb-false, le-leb, lt-leb}
use Rattle.std.proofs.lemmas.List.{append_assoc}
use Rattle.std.proofs.lemmas.List.Sorted.{IsNonDecreasingBy-drop}
use Rattle.raw_events.specs.declared.event.RawEvent.{RawEvent}
use Rattle.session_plan.specs.declared.plan.Act.{Act}
use Rattle.session_plan.specs.declared.plan.Act.TheVariants as acts
use Rattle.session_plan.specs.declared.plan.Step.{Step}
use Rattle.cursor_core.specs.declared.call.CursorCall.{CursorCall}
use Rattle.cursor_core.specs.declared.call.CursorCall.TheVariants.{Moved}
use Rattle.cursor_core.specs.Calls.{Screen, moment_of}
use Rattle.cursor_core.specs.Cursor.{CursorStandsFor}
use Rattle.cursor_core.specs.Kept.{CursorState}
use Rattle.cursor_core.specs.Packets.{has_motion, is_end, latest, motion_by, motion_of, packet, sum_of}
use Rattle.session_plan.specs.declared.plan.Display.{Display}
use Rattle.session_plan.specs.Plan.{PlanData}
use Rattle.cursor_core.specs.declared.motion.MotionReader.{MotionReader}
use Rattle.cursor_core.specs.Reading.{ReaderStandsFor}
use Rattle.hover_text.specs.Running.{HasMade, RunStandsFor, due_of, is_by}
use Rattle.hover_text.specs.Schedule.{act_calls, calls_of, placed, step_calls, with_motion}
use Rattle.hover_text.specs.Screen.{screen_of, screen_on}
use Rattle.hover_text.specs.State.{HoverState}

-- the steps from a place on, and the one at it
from_place : (ss : List Step) (n : ℕ) (s : Step) → slice_get ss n ≡ Some s → drop n ss ≡ s ∷ drop (n + 1) ss
from_place [] n s e = cc e
from_place (t ∷ ss) zero s e = let same : t ≡ s = cc e in ap (λ (x : Step). x ∷ ss) same
from_place (t ∷ ss) (suc n) s e = let next : suc n + 1 ≡ suc (n + 1) = omega arith in rw next (from_place ss n s e)

behind_all : (ss : List Step) (n : ℕ) → slice_get ss n ≡ None → drop n ss ≡ []
behind_all [] zero e = refl
behind_all [] (suc n) e = refl
behind_all (t ∷ ss) zero e = cc e
behind_all (t ∷ ss) (suc n) e = behind_all ss n e

-- a step that is due is the next one, and not later than the moment
pub due_at : (t : ℕ) (o : Option Step) (s : Step) → due_of t o ≡ Some s → (o ≡ Some s) × (s.at ≤ t)
due_at t None s e = cc e
due_at t (Some x) s e = by_test (nat_le x.at t) refl e
  where
    by_test : (b : Bool) → nat_le x.at t ≡ b → cond b (Some x) None ≡ Some s → (Some x ≡ Some s) × (s.at ≤ t)
    by_test true le h = let same : x ≡ s = cc h in (h, subst (λ (y : Step). y.at ≤ t) same (leb-true x.at t le))
    by_test false le h = cc h

-- one that is not due is later
not_due : (t : ℕ) (x : Step) → due_of t (Some x) ≡ None → t < x.at
not_due t x e = by_test (nat_le x.at t) refl e
  where
    by_test : (b : Bool) → nat_le x.at t ≡ b → cond b (Some x) None ≡ None → t < x.at
    by_test true le h = cc h
    by_test false le h = leb-false x.at t le

-- what was made up to a moment, with a step that is not later
pub acted_by : (t at : ℕ) (act : Act) (made : List CursorCall) → at ≤ t → is_by t made → is_by t (act_calls at act ++ made)
acted_by t at (acts.Windows snapshot) made le h = le
acted_by t at (acts.FocusOn display channel) made le h = h
acted_by t at (acts.Pilfer channel device) made le h = h
acted_by t at (acts.Remove channel) made le h = le

-- what was made up to a moment was made up to a later one
later_by : (t u : ℕ) (made : List CursorCall) → t ≤ u → is_by t made → is_by u made
later_by t u [] le h = tt
later_by t u (c ∷ cs) le h = omega (arith, le, h)

pub later_made : (d : Screen) (steps : List Step) (all : List CursorCall) (t u : ℕ) (h : HoverState) → t ≤ u → HasMade d steps all t h → HasMade d steps all u h
later_made d steps all t u h le m = record { made = m.made; stands = m.stands; all_are = m.all_are; by = later_by t u m.made le m.by }

-- the calls stay all when the next step is made
pub one_made : (ss : List Step) (n next : ℕ) (s : Step) (made all : List CursorCall) → slice_get ss n ≡ Some s → next ≡ n + 1 → step_calls (drop n ss) ++ made ≡ all
    → step_calls (drop next ss) ++ (act_calls s.at s.act ++ made) ≡ all
one_made ss n next s made all e on h =
    ap (λ (k : ℕ). step_calls (drop k ss) ++ (act_calls s.at s.act ++ made)) on
    ∙ sym (append_assoc (step_calls (drop (n + 1) ss)) (act_calls s.at s.act) made)
    ∙ ap (λ (xs : List Step). step_calls xs ++ made) (sym (from_place ss n s e))
    ∙ h

-- they are what was made where no step is left
pub all_made : (ss : List Step) (n : ℕ) (made all : List CursorCall) → slice_get ss n ≡ None → step_calls (drop n ss) ++ made ≡ all → made ≡ all
all_made ss n made all e h = ap (λ (xs : List Step). step_calls xs ++ made) (sym (behind_all ss n e)) ∙ h

-- each of these steps is later than a moment
abbrev AreLater : ℕ → List Step → Type 0
AreLater t ss = AllByRecursion (λ s. t < s.at) ss

later_all : (t : ℕ) (x : Step) (xs : List Step) → t < x.at → IsNonDecreasingBy (λ (s : Step). s.at) (x ∷ xs) → AreLater t (x ∷ xs)
later_all t x [] lt up = (lt, tt)
later_all t x (y ∷ ys) lt up =
    let next : x.at ≤ y.at = up 0 1 x (omega arith) (omega arith) in
    (lt, later_all t y ys (omega (arith, lt, next)) (IsNonDecreasingBy-drop (λ (s : Step). s.at) 1 (x ∷ y ∷ ys) up))

-- where the next step is later, all that are left are
left_later : (t : ℕ) (ss : List Step) (n : ℕ) → due_of t (slice_get ss n) ≡ None → IsNonDecreasingBy (λ (s : Step). s.at) ss → AreLater t (drop n ss)
left_later t ss n e up = by_next (slice_get ss n) refl
  where
    by_next : (o : Option Step) → slice_get ss n ≡ o → AreLater t (drop n ss)
    by_next None at = subst (AreLater t) (sym (behind_all ss n at)) tt
    by_next (Some x) at =
        let is = from_place ss n x at in
        subst (AreLater t) (sym is)
        (later_all t x (drop (n + 1) ss) (not_due t x (sym (ap (due_of t) at) ∙ e))
        (subst (λ (xs : List Step). IsNonDecreasingBy (λ (s : Step). s.at) xs) is (IsNonDecreasingBy-drop (λ (s : Step). s.at) n ss up)))

-- a motion goes past calls that are later
past_act : (m : CursorCall) (at : ℕ) (act : Act) (cs : List CursorCall) → moment_of m < at → placed m (act_calls at act ++ cs) ≡ act_calls at act ++ placed m cs
past_act m at (acts.Windows snapshot) cs lt = rw (lt-leb at (moment_of m) lt) refl
past_act m at (acts.FocusOn display channel) cs lt = refl
past_act m at (acts.Pilfer channel device) cs lt = refl
past_act m at (acts.Remove channel) cs lt = rw (lt-leb at (moment_of m) lt) refl

past_steps : (m : CursorCall) (ss : List Step) (cs : List CursorCall) → AreLater (moment_of m) ss → placed m (step_calls ss ++ cs) ≡ step_calls ss ++ placed m cs
past_steps m [] cs h = refl
past_steps m (s ∷ ss) cs h =
    ap (placed m) (append_assoc (step_calls ss) (act_calls s.at s.act) cs)
    ∙ past_steps m ss (act_calls s.at s.act ++ cs) h.1
    ∙ ap (λ (xs : List CursorCall). step_calls ss ++ xs) (past_act m s.at s.act cs h.0)
    ∙ sym (append_assoc (step_calls ss) (act_calls s.at s.act) (placed m cs))

-- and stays in front of those that are not
newest : (m : CursorCall) (cs : List CursorCall) → is_by (moment_of m) cs → placed m cs ≡ m ∷ cs
newest m [] h = refl
newest m (c ∷ cs) h = rw (le-leb (moment_of c) (moment_of m) h) refl

-- the cursor took a motion after the steps up to its moment
pub motion_made : (d : Screen) (steps : List Step) (all : List CursorCall) (m : CursorCall) (h : HoverState) (k : CursorState) → (made : HasMade d steps all (moment_of m) h)
    → due_of (moment_of m) (slice_get steps h.next) ≡ None → IsNonDecreasingBy (λ (s : Step). s.at) steps → CursorStandsFor d (m ∷ made.made) k
    → HasMade d steps (placed m all) (moment_of m) (record { cursor = k; reader = h.reader; next = h.next })
motion_made d steps all m h k made none up stands = record {
  made = m ∷ made.made;
  stands = stands;
  all_are =
      ap (λ (xs : List CursorCall). step_calls (drop h.next steps) ++ xs) (sym (newest m made.made made.by))
      ∙ sym (past_steps m (drop h.next steps) made.made (left_later (moment_of m) steps h.next none up))
      ∙ ap (placed m) made.all_are;
  by = omega arith;
}

-- a motion has the moment of the latest packet
pub motion_moment : (past : List RawEvent) (e : RawEvent) (m : CursorCall) → motion_of past e ≡ Some m → moment_of m ≡ latest (e ∷ past)
motion_moment past e m h = by_end (is_end past e) (latest (e ∷ past)) h
  where
    by_motion : (b : Bool) (t : ℕ) (x y : ℤ) → cond b (Some (Moved t x y)) None ≡ Some m → moment_of m ≡ t
    by_motion true t x y q = let same : Moved t x y ≡ m = cc q in ap moment_of (sym same)
    by_motion false t x y q = cc q

    by_end : (b : Bool) (t : ℕ) → cond b (motion_by t (packet past)) None ≡ Some m → moment_of m ≡ t
    by_end true t q = by_motion (has_motion (packet past)) t (sum_of 0 (packet past)) (sum_of 1 (packet past)) q
    by_end false t q = cc q

-- what was made does not depend on the reader
pub other_reader : (d : Screen) (steps : List Step) (all : List CursorCall) (t : ℕ) (h : HoverState) (r : MotionReader) → HasMade d steps all t h
    → HasMade d steps all t (record { cursor = h.cursor; reader = r; next = h.next })
other_reader d steps all t h r m = record { made = m.made; stands = m.stands; all_are = m.all_are; by = m.by }

-- an event that ends a packet that moves the mouse
pub event_taken : (plan : PlanData) (past : List RawEvent) (e : RawEvent) (m : CursorCall) (h : HoverState) → motion_of past e ≡ Some m
    → ReaderStandsFor (e ∷ past) h.reader → HasMade (screen_of plan) plan.steps (placed m (calls_of plan.steps past)) (moment_of m) h → RunStandsFor plan (e ∷ past) h
event_taken plan past e m h is r made = record {
  reader = r;
  made =
      subst (λ (t : ℕ). HasMade (screen_of plan) plan.steps (calls_of plan.steps (e ∷ past)) t h) (motion_moment past e m is)
      (subst (λ (o : Option CursorCall). HasMade (screen_of plan) plan.steps (with_motion o (calls_of plan.steps past)) (moment_of m) h) (sym is) made);
}

-- the latest moment rises
pub latest_rises : (past : List RawEvent) (e : RawEvent) → latest past ≤ latest (e ∷ past)
latest_rises past e = by_end (is_end past e)
  where
    by_end : (b : Bool) → latest past ≤ cond b (max e.moment (latest past)) (latest past)
    by_end true = omega arith
    by_end false = omega arith

-- the items from a place on, and the one at it
pub item_at : {A : Type 0} (es : List A) (i : ℕ) (e : A) → i < length es → e ≡ get_or es i e → drop i es ≡ e ∷ drop (i + 1) es
item_at [] i e lt is = absurd (omega (arith, lt))
item_at (x ∷ es) zero e lt is = ap (λ y. y ∷ es) (sym is)
item_at (x ∷ es) (suc i) e lt is = let next : suc i + 1 ≡ suc (i + 1) = omega arith in rw next (item_at es i e (omega (arith, lt)) is)

-- an event that moves nothing
pub event_passed : (plan : PlanData) (past : List RawEvent) (e : RawEvent) (h : HoverState) (r : MotionReader) → motion_of past e ≡ None → RunStandsFor plan past h
    → ReaderStandsFor (e ∷ past) r → RunStandsFor plan (e ∷ past) (record { cursor = h.cursor; reader = r; next = h.next })
event_passed plan past e h r none run is = record {
  reader = is;
  made =
      subst (λ (o : Option CursorCall). HasMade (screen_of plan) plan.steps (with_motion o (calls_of plan.steps past)) (latest (e ∷ past))
      (record { cursor = h.cursor; reader = r; next = h.next })) (sym none)
      (later_made (screen_of plan) plan.steps (calls_of plan.steps past) (latest past) (latest (e ∷ past)) (record { cursor = h.cursor; reader = r; next = h.next })
      (latest_rises past e)
      (other_reader (screen_of plan) plan.steps (calls_of plan.steps past) (latest past) h r run.made));
}

-- the channels of a screen
pub channels_on : (ds : List Display) (n : ℕ) → (screen_on ds n).channels ≡ n
channels_on [] n = refl
channels_on (d ∷ ds) n = refl
