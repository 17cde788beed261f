-- The lines of a history make its very calls.
use Rattle.std.proofs.Common.{◌≡◌, ◌≢◌, ℕ, ◌+◌, ◌≤◌, ◌==◌, ◌||◌, ◌⊎◌, true, false, cond, List, [], ◌∷◌, ◌++◌, map, filter, reverse, Option, Some, None, refl, sym, ap, subst, ◌∙◌, inl, inr, arith}
use Rattle.std.specs.Prelude.{Ok, is_some}
use Rattle.std.proofs.lemmas.Bool.{cases_eq, eqb-true, eq-eqb, ne_eqb, true≢false}
use Rattle.std.proofs.lemmas.List.{map-append}
use mathlib.Core.List.{reverse-cons}
use Rattle.dispatch_calls.specs.declared.call.Call.{Call}
use Rattle.dispatch_calls.specs.declared.call.Call.TheVariants as calls
use Rattle.dispatch_calls.specs.declared.call.Entry.{Entry}
use Rattle.dispatch_calls.specs.declared.reply.Reply.{Reply}
use Rattle.dispatch_history.specs.Given.{line_calls, next_args, without_first, calls_of_lane, call_of, args_after, steps_after}
use Rattle.dispatch_history.specs.Plan.{Cooked, ScriptStep, Line, ReaderLine, ScriptLine}
use Rattle.dispatch_core.specs.Machine.{called, steps}
use Rattle.dispatch_core.specs.Recorded.{history_of}
use Rattle.stream_text.specs.OrderHistory.{lane_from, made_by, order_of_history}
use Rattle.stream_text.specs.declared.order_line.OrderLine.{OrderLine}
use Rattle.stream_text.specs.declared.order_line.OrderLine.TheVariants as words
use Rattle.turnstile.specs.History.{Entry as Called}
use Rattle.stream_text.specs.OrderAsks.{line_of}
use Rattle.replay_actors.specs.Race.{Each, has_seat, calls_of_seat, notified_in, IsTimeless, opens, IsScripts}
use Rattle.replay_actors.proofs.Following.{args_left, steps_left, args_left_more, steps_left_more, one_line_more, next_is, others_are}
use Rattle.replay_actors.proofs.Listing.{reverse_then}

abbrev pub History : Type 0
History = List (Called Call Reply)

-- the order of what a turnstile reports
abbrev pub order_in : List ℕ → History → List OrderLine
order_in seats [] = []
order_in seats (e ∷ h) = order_in seats h ++ made_by (lane_from 1 seats e.0) e.1

pub order_same : (seats : List ℕ) (es : List Entry) → order_of_history seats es ≡ order_in seats (called es)
order_same seats [] = refl
order_same seats (e ∷ es) = ap (λ ls. ls ++ made_by (lane_from 1 seats e.seat) e.call) (order_same seats es)

pub history_same : (es : List Entry) → steps (called es) ≡ history_of es
history_same [] = refl
history_same (e ∷ es) = ap (λ h. (e.call, e.reply) ∷ h) (history_same es)

-- the lines of a history
abbrev pub lines : List ℕ → History → List Line
lines seats h = map line_of (order_in seats h)

lines_more : (seats : List ℕ) (e : Called Call Reply) (h : History) (o : Option ℕ) (l : OrderLine) → lane_from 1 seats e.0 ≡ o → made_by o e.1 ≡ l ∷ []
    → lines seats (e ∷ h) ≡ lines seats h ++ line_of l ∷ []
lines_more seats e h o l is made =
    ap (λ o. map line_of (order_in seats h ++ made_by o e.1)) is
    ∙ ap (λ ls. map line_of (order_in seats h ++ ls)) made
    ∙ map-append line_of (order_in seats h) (l ∷ [])

-- some seat has the number where some lane is of it
pub seat_lane : (l : ℕ) (seats : List ℕ) (s : ℕ) → has_seat seats s ≡ is_some (lane_from l seats s)
seat_lane l [] s = refl
seat_lane l (k ∷ ks) s =
    (elim (k == s) as (λ b. (b || has_seat ks s) ≡ is_some (cond b (Some l) (lane_from (l + 1) ks s))) [ true ↦ refl | false ↦ seat_lane (l + 1) ks s ])

pub no_lane : (seats : List ℕ) (s : ℕ) → has_seat seats s ≡ false → lane_from 1 seats s ≡ None
no_lane seats s e = absent (lane_from 1 seats s) (sym (seat_lane 1 seats s) ∙ e)
  where
    absent : (o : Option ℕ) → is_some o ≡ false → o ≡ None
    absent None e = refl
    absent (Some l) e = absurd (true≢false e)

pub some_lane : (seats : List ℕ) (s : ℕ) → has_seat seats s ≡ true → (l : ℕ) × (lane_from 1 seats s ≡ Some l)
some_lane seats s e = present (lane_from 1 seats s) (sym (seat_lane 1 seats s) ∙ e)
  where
    present : (o : Option ℕ) → is_some o ≡ true → (l : ℕ) × (o ≡ Some l)
    present None e = absurd (true≢false (sym e))
    present (Some l) e = (l, refl)

-- lanes are numbered upwards, and each is of one seat
lane_above : (l : ℕ) (seats : List ℕ) (s m : ℕ) → lane_from l seats s ≡ Some m → l ≤ m
lane_above l [] s m e = absurd (cc)
lane_above l (k ∷ ks) s m e =
    (elim (k == s) as (λ b. cond b (Some l) (lane_from (l + 1) ks s) ≡ Some m → l ≤ m) [
      | true ↦ λ f. (let same : l ≡ m = cc in omega arith)
      | false ↦ λ f. (let up = lane_above (l + 1) ks s m f in omega arith)
    ]) e

pub one_seat : (l : ℕ) (seats : List ℕ) (s t m : ℕ) → lane_from l seats s ≡ Some m → lane_from l seats t ≡ Some m → s ≡ t
one_seat l [] s t m e f = absurd (cc)
one_seat l (k ∷ ks) s t m e f =
    (elim (k == s) as (λ b. k == s ≡ b → cond b (Some l) (lane_from (l + 1) ks s) ≡ Some m → s ≡ t) [
      | true ↦ λ x p.
          (elim (k == t) as (λ b. k == t ≡ b → cond b (Some l) (lane_from (l + 1) ks t) ≡ Some m → s ≡ t) [
            | true ↦ λ y q. sym (eqb-true k s x) ∙ eqb-true k t y
            | false ↦ λ y q. (let same : l ≡ m = cc in let up = lane_above (l + 1) ks t m q in absurd (omega arith))
          ]) refl f
      | false ↦ λ x p.
          (elim (k == t) as (λ b. k == t ≡ b → cond b (Some l) (lane_from (l + 1) ks t) ≡ Some m → s ≡ t) [
            | true ↦ λ y q. (let same : l ≡ m = cc in let up = lane_above (l + 1) ks s m p in absurd (omega arith))
            | false ↦ λ y q. one_seat (l + 1) ks s t m p q
          ]) refl f
    ]) refl e

-- calls of another seat
pub seat_other : (s : ℕ) (e : Called Call Reply) (h : History) → e.0 ≢ s → calls_of_seat s (e ∷ h) ≡ calls_of_seat s h
seat_other s e h ne = ap (λ b. map (λ x. x.1) (cond b (e ∷ filter (λ x. x.0 == s) h) (filter (λ x. x.0 == s) h))) (ne_eqb e.0 s ne)

pub seat_own : (s : ℕ) (e : Called Call Reply) (h : History) → e.0 ≡ s → calls_of_seat s (e ∷ h) ≡ e.1 ∷ calls_of_seat s h
seat_own s e h is = ap (λ b. map (λ x. x.1) (cond b (e ∷ filter (λ x. x.0 == s) h) (filter (λ x. x.0 == s) h))) (eq-eqb e.0 s is)

module _ (seats : List ℕ) (cooked : List Cooked) (ss : List ScriptStep) where
  -- Each script lane's steps are the calls that its seat made, and then these.
  abbrev pub Left : History → (ℕ → List Call) → Type 0
  Left h rs = (l s : ℕ) → lane_from 1 seats s ≡ Some l → calls_of_lane l ss ≡ reverse (calls_of_seat s h) ++ rs l

  -- The lines of a history make its calls, and leave these args and these steps of each script lane.
  pub record Made (h : History) (args : List Call) (rs : ℕ → List Call) : Type 0 where
    pub made : line_calls 0 cooked ss (lines seats h) ≡ Ok (reverse (map (λ e. e.1) h))
    pub args_are : map (λ a. calls.Notify a.moment a.args) (args_left (lines seats h) cooked) ≡ args
    pub steps_are : (l s : ℕ) → lane_from 1 seats s ≡ Some l → calls_of_lane l (steps_left (lines seats h) ss) ≡ rs l

  more : (e : Called Call Reply) (h : History) (l : Line) (args : List Call) (rs : ℕ → List Call) → lines seats (e ∷ h) ≡ lines seats h ++ l ∷ []
      → line_calls 0 cooked ss (lines seats h) ≡ Ok (reverse (map (λ e. e.1) h))
      → call_of l (args_left (lines seats h) cooked) (steps_left (lines seats h) ss) ≡ Some e.1
      → map (λ a. calls.Notify a.moment a.args) (args_after l (args_left (lines seats h) cooked)) ≡ args
      → ((k s : ℕ) → lane_from 1 seats s ≡ Some k → calls_of_lane k (steps_after l (steps_left (lines seats h) ss)) ≡ rs k)
      → Made (e ∷ h) args rs
  more e h l args rs is before call left lanes =
      record {
        made =
            ap (line_calls 0 cooked ss) is ∙ one_line_more 0 cooked ss (lines seats h) l (reverse (map (λ e. e.1) h)) e.1 before call
            ∙ ap Ok (sym (reverse-cons e.1 (map (λ e. e.1) h)));
        args_are = ap (λ ls. map (λ a. calls.Notify a.moment a.args) (args_left ls cooked)) is ∙ ap (map (λ a. calls.Notify a.moment a.args)) (args_left_more (lines seats h) l cooked) ∙ left;
        steps_are = λ k s at. ap (λ ls. calls_of_lane k (steps_left ls ss)) is ∙ ap (calls_of_lane k) (steps_left_more (lines seats h) l ss) ∙ lanes k s at;
      }

  -- no lane loses a step where another seat calls
  left_same : (e : Called Call Reply) (h : History) (rs : ℕ → List Call) → lane_from 1 seats e.0 ≡ None → Left (e ∷ h) rs → Left h rs
  left_same e h rs out left l s at = left l s at ∙ ap (λ xs. reverse xs ++ rs l) (seat_other s e h (λ same. absurd (let a : lane_from 1 seats s ≡ None = subst (λ k. lane_from 1 seats k ≡ None) same out in let b : None ≡ Some l = sym a ∙ at in cc)))

  -- a call that takes neither args nor a step
  plain : (e : Called Call Reply) (h : History) (l : OrderLine) (args : List Call) (rs : ℕ → List Call) → lane_from 1 seats e.0 ≡ None → made_by None e.1 ≡ l ∷ []
      → ((cs : List Cooked) → call_of (line_of l) cs (steps_left (lines seats h) ss) ≡ Some e.1)
      → ((cs : List Cooked) → args_after (line_of l) cs ≡ cs) → ((ts : List ScriptStep) → steps_after (line_of l) ts ≡ ts)
      → Made h args rs → Made (e ∷ h) args rs
  plain e h l args rs out is call keeps stays m =
      more e h (line_of l) args rs (lines_more seats e h None l out is) m.made (call (args_left (lines seats h) cooked))
      (ap (map (λ a. calls.Notify a.moment a.args)) (keeps (args_left (lines seats h) cooked)) ∙ m.args_are)
      (λ k s at. ap (calls_of_lane k) (stays (steps_left (lines seats h) ss)) ∙ m.steps_are k s at)

  -- the next args
  first_args : (cs : List Cooked) (x : Call) (xs : List Call) → map (λ a. calls.Notify a.moment a.args) cs ≡ x ∷ xs
      → (next_args cs ≡ Some x) × (map (λ a. calls.Notify a.moment a.args) (without_first cs) ≡ xs)
  first_args [] x xs e = absurd (cc)
  first_args (a ∷ cs) x xs e = (let f : calls.Notify a.moment a.args ≡ x = cc in ap Some f, cc)

  -- one step less of one lane
  abbrev with_step : ℕ → Call → (ℕ → List Call) → ℕ → List Call
  with_step m x rs l = cond (l == m) (x ∷ rs l) (rs l)

  left_step : (e : Called Call Reply) (h : History) (rs : ℕ → List Call) (m : ℕ) → lane_from 1 seats e.0 ≡ Some m → Left (e ∷ h) rs → Left h (with_step m e.1 rs)
  left_step e h rs m own left l s at = by_lane (cases_eq l m)
    where
      by_lane : (l ≡ m) ⊎ (l ≡ m → ⊥) → calls_of_lane l ss ≡ reverse (calls_of_seat s h) ++ cond (l == m) (e.1 ∷ rs l) (rs l)
      by_lane (inl is) =
          left l s at
          ∙ ap (λ xs. reverse xs ++ rs l) (seat_own s e h (one_seat 1 seats e.0 s m own (at ∙ ap Some is)))
          ∙ reverse_then e.1 (calls_of_seat s h) (rs l)
          ∙ ap (λ b. reverse (calls_of_seat s h) ++ cond b (e.1 ∷ rs l) (rs l)) (sym (eq-eqb l m is))
      by_lane (inr ne) =
          left l s at
          ∙ ap (λ xs. reverse xs ++ rs l) (seat_other s e h (λ same. ne (let f : Some m ≡ Some l = sym own ∙ ap (lane_from 1 seats) same ∙ at in cc)))
          ∙ ap (λ b. reverse (calls_of_seat s h) ++ cond b (e.1 ∷ rs l) (rs l)) (sym (ne_eqb l m ne))

  by_script : (e : Called Call Reply) (h : History) (args : List Call) (rs : ℕ → List Call) (m : ℕ) → lane_from 1 seats e.0 ≡ Some m → made_by (Some m) e.1 ≡ words.Script m ∷ []
      → Made h args (with_step m e.1 rs) → Made (e ∷ h) args rs
  by_script e h args rs m own is before =
      let n = next_is m (steps_left (lines seats h) ss) e.1 (rs m) (before.steps_are m e.0 own ∙ ap (λ b. cond b (e.1 ∷ rs m) (rs m)) (eq-eqb m m refl)) in
      more e h (ScriptLine m) args rs (lines_more seats e h (Some m) (words.Script m) own is) before.made n.0 before.args_are (λ l s at. by_lane n.1 l s at (cases_eq l m))
    where
      by_lane : calls_of_lane m (steps_after (ScriptLine m) (steps_left (lines seats h) ss)) ≡ rs m → (l s : ℕ) → lane_from 1 seats s ≡ Some l → (l ≡ m) ⊎ (l ≡ m → ⊥)
          → calls_of_lane l (steps_after (ScriptLine m) (steps_left (lines seats h) ss)) ≡ rs l
      by_lane rest l s at (inl is) = subst (λ k. calls_of_lane k (steps_after (ScriptLine m) (steps_left (lines seats h) ss)) ≡ rs k) (sym is) rest
      by_lane rest l s at (inr ne) =
          others_are m l (steps_left (lines seats h) ss) ne ∙ before.steps_are l s at ∙ ap (λ b. cond b (e.1 ∷ rs l) (rs l)) (ne_eqb l m ne)

  pub follows : (h : History) (args : List Call) (rs : ℕ → List Call)
      → Each (λ e. opens e.1 ≡ false) h → Each (λ e. IsTimeless e.1) h → Each (IsScripts seats) h
      → map (λ a. calls.Notify a.moment a.args) cooked ≡ reverse (notified_in h) ++ args
      → Left h rs → Made h args rs
  follows [] args rs shut timeless alone cs left = record { made = refl; args_are = cs; steps_are = left }
  follows ((s, calls.Open terms, r) ∷ h) args rs shut timeless alone cs left = absurd (true≢false shut.0)
  follows ((s, calls.Windows now shown, r) ∷ h) args rs shut timeless alone cs left =
      let e : Called Call Reply = (s, calls.Windows now shown, r) in
      let o = some_lane seats s alone.0 in
      by_script e h args rs o.0 o.1 refl (follows h args (with_step o.0 e.1 rs) shut.1 timeless.1 alone.1 cs (left_step e h rs o.0 o.1 left))
  follows ((s, calls.FocusOn now display channel keys, r) ∷ h) args rs shut timeless alone cs left =
      let e : Called Call Reply = (s, calls.FocusOn now display channel keys, r) in
      let o = some_lane seats s alone.0 in
      by_script e h args rs o.0 o.1 refl (follows h args (with_step o.0 e.1 rs) shut.1 timeless.1 alone.1 cs (left_step e h rs o.0 o.1 left))
  follows ((s, calls.Pilfer now channel device, r) ∷ h) args rs shut timeless alone cs left =
      let e : Called Call Reply = (s, calls.Pilfer now channel device, r) in
      let o = some_lane seats s alone.0 in
      by_script e h args rs o.0 o.1 refl (follows h args (with_step o.0 e.1 rs) shut.1 timeless.1 alone.1 cs (left_step e h rs o.0 o.1 left))
  follows ((s, calls.Remove now channel, r) ∷ h) args rs shut timeless alone cs left =
      let e : Called Call Reply = (s, calls.Remove now channel, r) in
      let o = some_lane seats s alone.0 in
      by_script e h args rs o.0 o.1 refl (follows h args (with_step o.0 e.1 rs) shut.1 timeless.1 alone.1 cs (left_step e h rs o.0 o.1 left))
  follows ((s, calls.Notify now a, r) ∷ h) args rs shut timeless alone cs left =
      let e : Called Call Reply = (s, calls.Notify now a, r) in
      let out = no_lane seats s alone.0 in
      let before = follows h (e.1 ∷ args) rs shut.1 timeless.1 alone.1 (cs ∙ reverse_then e.1 (notified_in h) args) (left_same e h rs out left) in
      let n = first_args (args_left (lines seats h) cooked) e.1 args before.args_are in
      more e h ReaderLine args rs (lines_more seats e h None words.Reader out refl) before.made n.0 n.1 before.steps_are
  follows ((s, calls.Pump now, r) ∷ h) args rs shut timeless alone cs left =
      let e : Called Call Reply = (s, calls.Pump now, r) in
      let out = no_lane seats s alone.0 in
      plain e h words.Pump args rs out refl (λ xs. ap (λ n. Some (calls.Pump n)) (sym timeless.0)) (λ xs. refl) (λ ts. refl) (follows h args rs shut.1 timeless.1 alone.1 cs (left_same e h rs out left))
  follows ((s, calls.Tick now, r) ∷ h) args rs shut timeless alone cs left =
      let e : Called Call Reply = (s, calls.Tick now, r) in
      let out = no_lane seats s alone.0 in
      plain e h words.Tick args rs out refl (λ xs. ap (λ n. Some (calls.Tick n)) (sym timeless.0)) (λ xs. refl) (λ ts. refl) (follows h args rs shut.1 timeless.1 alone.1 cs (left_same e h rs out left))
  follows ((s, calls.Receive channel, r) ∷ h) args rs shut timeless alone cs left =
      let e : Called Call Reply = (s, calls.Receive channel, r) in
      let out = no_lane seats s alone.0 in
      plain e h (words.Receive channel) args rs out refl (λ xs. refl) (λ xs. refl) (λ ts. refl) (follows h args rs shut.1 timeless.1 alone.1 cs (left_same e h rs out left))
  follows ((s, calls.Finish now channel seq, r) ∷ h) args rs shut timeless alone cs left =
      let e : Called Call Reply = (s, calls.Finish now channel seq, r) in
      let out = no_lane seats s alone.0 in
      plain e h (words.Finish channel seq) args rs out refl (λ xs. ap (λ n. Some (calls.Finish n channel seq)) (sym timeless.0)) (λ xs. refl) (λ ts. refl) (follows h args rs shut.1 timeless.1 alone.1 cs (left_same e h rs out left))
