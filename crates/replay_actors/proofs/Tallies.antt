-- How often the printed order of a race asks for args and for steps.
use Rattle.std.proofs.Common.{◌≡◌, ℕ, suc, ◌+◌, ◌==◌, Bool, true, false, cond, List, [], ◌∷◌, ◌++◌, length, map, reverse, Option, Some, None, refl, sym, ap, subst, ◌∙◌, inl, inr, arith}
use Rattle.std.specs.Prelude.{is_some}
use Rattle.std.proofs.lemmas.Bool.{cases_eq, eq-eqb, ne_eqb, true≢false}
use Rattle.std.proofs.lemmas.List.{length-reverse, length-map}
use Rattle.input_types.specs.declared.message.Args.{Args}
use Rattle.dispatch_history.specs.Plan.{Cooked}
use Rattle.dispatch_calls.specs.declared.call.Call.{Call}
use Rattle.dispatch_calls.specs.declared.call.Call.TheVariants as calls
use Rattle.dispatch_calls.specs.declared.reply.Reply.{Reply}
use Rattle.dispatch_history.specs.Given.{opens as opening}
use Rattle.dispatch_history.specs.Ordered.{is_notified, is_scripted}
use Rattle.dispatch_core.specs.Machine.{called}
use Rattle.stream_text.specs.OrderHistory.{lane_from, made_by, call_lines}
use Rattle.stream_text.specs.declared.order_line.OrderLine.{OrderLine}
use Rattle.stream_text.specs.declared.order_line.OrderLine.TheVariants as words
use Rattle.turnstile.specs.History.{Entry as Called, of_zero}
use Rattle.replay_actors.specs.Lanes.{notifies}
use Rattle.replay_actors.specs.Laws.{CountsLaw}
use Rattle.replay_actors.specs.Orders.{readers, steps_in}
use Rattle.replay_actors.specs.Race.{Each, has_seat, calls_of_seat, notified_in, opens, IsScripts}
use Rattle.replay_actors.proofs.Listing.{each_reverse, each_first, each_last, each_under, map_map}
use Rattle.replay_actors.proofs.Orders.{History, order_in, order_same, seat_lane, no_lane, some_lane, one_seat, seat_other, seat_own}
use Rattle.replay_actors.proofs.Spelled.{opened_each, order_behind, notified_behind, seat_behind, steps_made}

readers_append : (xs ys : List OrderLine) → readers (xs ++ ys) ≡ readers xs + readers ys
readers_append [] ys = omega arith
readers_append (words.Reader ∷ xs) ys = let e = readers_append xs ys in omega (arith, e)
readers_append (words.Script l ∷ xs) ys = readers_append xs ys
readers_append (words.Pump ∷ xs) ys = readers_append xs ys
readers_append (words.Tick ∷ xs) ys = readers_append xs ys
readers_append (words.Receive c ∷ xs) ys = readers_append xs ys
readers_append (words.Finish c seq ∷ xs) ys = readers_append xs ys

steps_append : (l : ℕ) (xs ys : List OrderLine) → steps_in l (xs ++ ys) ≡ steps_in l xs + steps_in l ys
steps_append l [] ys = omega arith
steps_append l (words.Script k ∷ xs) ys = by_lane (k == l) (steps_append l xs ys)
  where
    by_lane : (b : Bool) → steps_in l (xs ++ ys) ≡ steps_in l xs + steps_in l ys
        → cond b (suc (steps_in l (xs ++ ys))) (steps_in l (xs ++ ys)) ≡ cond b (suc (steps_in l xs)) (steps_in l xs) + steps_in l ys
    by_lane true e = omega (arith, e)
    by_lane false e = e
steps_append l (words.Reader ∷ xs) ys = steps_append l xs ys
steps_append l (words.Pump ∷ xs) ys = steps_append l xs ys
steps_append l (words.Tick ∷ xs) ys = steps_append l xs ys
steps_append l (words.Receive c ∷ xs) ys = steps_append l xs ys
steps_append l (words.Finish c seq ∷ xs) ys = steps_append l xs ys

-- a call by itself
lines_read : (call : Call) → readers (call_lines call) ≡ is_notified call
lines_read (calls.Open terms) = refl
lines_read (calls.Windows now shown) = refl
lines_read (calls.FocusOn now display channel keys) = refl
lines_read (calls.Notify now a) = refl
lines_read (calls.Pump now) = refl
lines_read (calls.Tick now) = refl
lines_read (calls.Receive channel) = refl
lines_read (calls.Finish now channel seq) = refl
lines_read (calls.Pilfer now channel device) = refl
lines_read (calls.Remove now channel) = refl

lines_step : (l : ℕ) (call : Call) → steps_in l (call_lines call) ≡ 0
lines_step l (calls.Open terms) = refl
lines_step l (calls.Windows now shown) = refl
lines_step l (calls.FocusOn now display channel keys) = refl
lines_step l (calls.Notify now a) = refl
lines_step l (calls.Pump now) = refl
lines_step l (calls.Tick now) = refl
lines_step l (calls.Receive channel) = refl
lines_step l (calls.Finish now channel seq) = refl
lines_step l (calls.Pilfer now channel device) = refl
lines_step l (calls.Remove now channel) = refl

-- a call of a lane, and one of none
lane_made : (l : ℕ) (call : Call) → opens call ≡ false → made_by (Some l) call ≡ words.Script l ∷ []
lane_made l (calls.Open terms) e = absurd (true≢false e)
lane_made l (calls.Windows now shown) e = refl
lane_made l (calls.FocusOn now display channel keys) e = refl
lane_made l (calls.Notify now a) e = refl
lane_made l (calls.Pump now) e = refl
lane_made l (calls.Tick now) e = refl
lane_made l (calls.Receive channel) e = refl
lane_made l (calls.Finish now channel seq) e = refl
lane_made l (calls.Pilfer now channel device) e = refl
lane_made l (calls.Remove now channel) e = refl

none_made : (call : Call) → opens call ≡ false → made_by None call ≡ call_lines call
none_made (calls.Open terms) e = absurd (true≢false e)
none_made (calls.Windows now shown) e = refl
none_made (calls.FocusOn now display channel keys) e = refl
none_made (calls.Notify now a) e = refl
none_made (calls.Pump now) e = refl
none_made (calls.Tick now) e = refl
none_made (calls.Receive channel) e = refl
none_made (calls.Finish now channel seq) e = refl
none_made (calls.Pilfer now channel device) e = refl
none_made (calls.Remove now channel) e = refl

-- a step of a script hands in no args, and a count of args is 1 or 0
not_both : (call : Call) → (is_scripted call == 1) ≡ true → is_notified call ≡ 0
not_both (calls.Notify now a) e = absurd (true≢false (sym e))
not_both (calls.Open terms) e = refl
not_both (calls.Windows now shown) e = refl
not_both (calls.FocusOn now display channel keys) e = refl
not_both (calls.Pump now) e = refl
not_both (calls.Tick now) e = refl
not_both (calls.Receive channel) e = refl
not_both (calls.Finish now channel seq) e = refl
not_both (calls.Pilfer now channel device) e = refl
not_both (calls.Remove now channel) e = refl

one_notify : (call : Call) (calls : List Call) → length (cond (is_notified call == 1) (call ∷ calls) calls) ≡ length calls + is_notified call
one_notify (calls.Open terms) xs = omega arith
one_notify (calls.Windows now shown) xs = omega arith
one_notify (calls.FocusOn now display channel keys) xs = omega arith
one_notify (calls.Notify now a) xs = omega arith
one_notify (calls.Pump now) xs = omega arith
one_notify (calls.Tick now) xs = omega arith
one_notify (calls.Receive channel) xs = omega arith
one_notify (calls.Finish now channel seq) xs = omega arith
one_notify (calls.Pilfer now channel device) xs = omega arith
one_notify (calls.Remove now channel) xs = omega arith

module _ (seats : List ℕ) where
  reads_one : (e : Called Call Reply) → opens e.1 ≡ false → IsScripts seats e → readers (made_by (lane_from 1 seats e.0) e.1) ≡ is_notified e.1
  reads_one e shut alone = by_seat (has_seat seats e.0) refl
    where
      by_seat : (b : Bool) → has_seat seats e.0 ≡ b → readers (made_by (lane_from 1 seats e.0) e.1) ≡ is_notified e.1
      by_seat true has =
          let o = some_lane seats e.0 has in
          ap (λ x. readers (made_by x e.1)) o.1 ∙ ap readers (lane_made o.0 e.1 shut) ∙ sym (not_both e.1 (sym alone ∙ has))
      by_seat false out = ap (λ x. readers (made_by x e.1)) (no_lane seats e.0 out) ∙ ap readers (none_made e.1 shut) ∙ lines_read e.1

  reads_all : (h : History) → Each (λ e. opens e.1 ≡ false) h → Each (IsScripts seats) h → readers (order_in seats h) ≡ length (notified_in h)
  reads_all [] shut alone = refl
  reads_all (e ∷ h) shut alone =
      let a = readers_append (order_in seats h) (made_by (lane_from 1 seats e.0) e.1) in
      let b = reads_one e shut.0 alone.0 in
      let c = reads_all h shut.1 alone.1 in
      let d = one_notify e.1 (notified_in h) in
      omega (arith, a, b, c, d)

  steps_one : (l s : ℕ) (e : Called Call Reply) (h : History) → lane_from 1 seats s ≡ Some l → opens e.1 ≡ false
      → steps_in l (made_by (lane_from 1 seats e.0) e.1) + length (calls_of_seat s h) ≡ length (calls_of_seat s (e ∷ h))
  steps_one l s e h at shut = by_lane (lane_from 1 seats e.0) refl
    where
      by_lane : (o : Option ℕ) → lane_from 1 seats e.0 ≡ o → steps_in l (made_by (lane_from 1 seats e.0) e.1) + length (calls_of_seat s h) ≡ length (calls_of_seat s (e ∷ h))
      by_lane None out =
          let none : steps_in l (made_by (lane_from 1 seats e.0) e.1) ≡ 0 = ap (λ x. steps_in l (made_by x e.1)) out ∙ ap (steps_in l) (none_made e.1 shut) ∙ lines_step l e.1 in
          let other : length (calls_of_seat s (e ∷ h)) ≡ length (calls_of_seat s h) =
          ap length (seat_other s e h (λ same. absurd (let bad : None ≡ Some l = sym out ∙ ap (lane_from 1 seats) same ∙ at in cc))) in
          omega (arith, none, other)
      by_lane (Some k) own =
          let line : steps_in l (made_by (lane_from 1 seats e.0) e.1) ≡ cond (k == l) 1 0 = ap (λ x. steps_in l (made_by x e.1)) own ∙ ap (steps_in l) (lane_made k e.1 shut) in
          elim (cases_eq k l) [
            | inl y ↦
                let one : steps_in l (made_by (lane_from 1 seats e.0) e.1) ≡ 1 = line ∙ ap (λ b. cond b 1 0) (eq-eqb k l y) in
                let more : length (calls_of_seat s (e ∷ h)) ≡ suc (length (calls_of_seat s h)) = ap length (seat_own s e h (one_seat 1 seats e.0 s l (own ∙ ap Some y) at)) in
                omega (arith, one, more)
            | inr ne ↦
                let none : steps_in l (made_by (lane_from 1 seats e.0) e.1) ≡ 0 = line ∙ ap (λ b. cond b 1 0) (ne_eqb k l ne) in
                let other : length (calls_of_seat s (e ∷ h)) ≡ length (calls_of_seat s h) =
                ap length (seat_other s e h (λ same. ne (let f : Some k ≡ Some l = sym own ∙ ap (lane_from 1 seats) same ∙ at in cc))) in
                omega (arith, none, other)
          ]

  steps_all : (l s : ℕ) (h : History) → lane_from 1 seats s ≡ Some l → Each (λ e. opens e.1 ≡ false) h → steps_in l (order_in seats h) ≡ length (calls_of_seat s h)
  steps_all l s [] at shut = refl
  steps_all l s (e ∷ h) at shut =
      let a = steps_append l (order_in seats h) (made_by (lane_from 1 seats e.0) e.1) in
      let b = steps_one l s e h at shut.0 in
      let c = steps_all l s h at shut.1 in
      omega (arith, a, b, c)

pub counts_law : CountsLaw
counts_law plan finishing seats entries r =
    let race = r.race in
    let base : History = of_zero r.opened in
    let later : History = race.later in
    let base_calls : map (λ e. e.1) base ≡ reverse (opening plan.channels) = map_map (λ e. (0, e.1, e.2)) (λ (e : Called Call Reply). e.1) r.opened ∙ r.opens_are in
    let shut : Each (λ call. opens call ≡ true) (map (λ e. e.1) base) = subst (Each (λ call. opens call ≡ true)) (sym base_calls) (each_reverse (λ call. opens call ≡ true) (opening plan.channels) (opened_each plan.channels)) in
    let base_opens : Each (λ e. opens e.1 ≡ true) base = each_under (λ (e : Called Call Reply). e.1) (λ call. opens call ≡ true) base shut in
    let alone : Each (IsScripts seats) (later ++ base) = subst (Each (IsScripts seats)) race.begins race.alone in
    let alone_base : Each (IsScripts seats) base = each_last (IsScripts seats) later base alone in
    let order = order_same seats entries ∙ ap (order_in seats) race.begins ∙ order_behind seats later base base_opens in (
      ap readers order ∙ reads_all seats later race.no_open (each_first (IsScripts seats) later base alone)
          ∙ ap length (sym (notified_behind later base base_opens) ∙ ap notified_in (sym race.begins) ∙ race.args)
          ∙ length-reverse (notifies (map (λ a. (a.moment, a.args)) plan.cooked))
          ∙ length-map (map (λ a. (a.moment, a.args)) plan.cooked) (λ (a : ℕ × Args). calls.Notify a.0 a.1)
          ∙ length-map plan.cooked (λ (a : Cooked). (a.moment, a.args)),
      λ l s at.
          ap (steps_in l) order ∙ steps_all seats l s later at race.no_open
          ∙ ap length (sym (seat_behind seats s later base base_opens alone_base (seat_lane 1 seats s ∙ ap is_some at)) ∙ ap (calls_of_seat s) (sym race.begins))
          ∙ sym (length-reverse (calls_of_seat s (called entries)))
          ∙ ap length (sym (steps_made 1 seats r.scripts (called entries) plan.steps l s race.scripts_made r.lanes_are at)),
    )
