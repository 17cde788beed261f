-- The printed order of a race makes its very calls.
use Rattle.std.proofs.Common.{◌≡◌, ℕ, ◌+◌, ◌==◌, true, false, cond, List, [], ◌∷◌, ◌++◌, map, filter, reverse, Option, Some, None, refl, sym, ap, ap₂, subst, ◌∙◌, append-nil}
use Rattle.std.specs.Prelude.{Ok, is_some}
use Rattle.std.proofs.lemmas.Bool.{eqb-true, ne_eqb, true≢false}
use Rattle.std.proofs.lemmas.List.{map-append, reverse-append, reverse-reverse}
use Rattle.std.proofs.lemmas.List.Elements.{filter-append}
use Rattle.dispatch_calls.specs.declared.call.Call.{Call}
use Rattle.dispatch_calls.specs.declared.call.Call.TheVariants as calls
use Rattle.dispatch_calls.specs.declared.reply.Reply.{Reply}
use Rattle.dispatch_history.specs.Effects.{effects}
use Rattle.dispatch_history.specs.Given.{given_calls, opens as opening, after_opens, line_calls, calls_of_lane}
use Rattle.dispatch_history.specs.Legal.{Legal, calls_of, replay}
use Rattle.dispatch_history.specs.Ordered.{is_notified, is_scripted}
use Rattle.dispatch_history.specs.Plan.{Plan, ChannelOf, Cooked, ScriptStep, Line}
use Rattle.dispatch_history.proofs.LegalLaws.{legal_replay, replay_law}
use Rattle.dispatch_core.specs.Machine.{called}
use Rattle.dispatch_core.specs.Recorded.{history_of}
use Rattle.stream_text.specs.OrderHistory.{lane_from, made_by, order_of_history}
use Rattle.turnstile.specs.History.{Entry as Called, of_zero}
use Rattle.replay_actors.specs.Lanes.{notifies}
use Rattle.replay_actors.specs.Laws.{OrderLaw}
use Rattle.replay_actors.specs.Orders.{AreLanes}
use Rattle.stream_text.specs.OrderAsks.{line_of}
use Rattle.replay_actors.specs.Race.{Each, has_seat, calls_of_seat, notified_in, IsTimeless, opens, IsScripts, ScriptsMade}
use Rattle.replay_actors.proofs.Listing.{each_reverse, each_first, each_last, each_under, map_map}
use Rattle.replay_actors.proofs.Orders.{History, order_in, order_same, history_same, lines, seat_lane, follows}

-- what opens a channel is in no order, hands in no args and is of no script
pub opened_each : (cs : List ChannelOf) → Each (λ call. opens call ≡ true) (opening cs)
opened_each [] = tt
opened_each (c ∷ cs) = (refl, opened_each cs)

pub not_made : (o : Option ℕ) (call : Call) → opens call ≡ true → made_by o call ≡ []
not_made None (calls.Open terms) e = refl
not_made (Some l) (calls.Open terms) e = refl
not_made o (calls.Windows now shown) e = absurd (true≢false (sym e))
not_made o (calls.FocusOn now display channel keys) e = absurd (true≢false (sym e))
not_made o (calls.Notify now a) e = absurd (true≢false (sym e))
not_made o (calls.Pump now) e = absurd (true≢false (sym e))
not_made o (calls.Tick now) e = absurd (true≢false (sym e))
not_made o (calls.Receive channel) e = absurd (true≢false (sym e))
not_made o (calls.Finish now channel seq) e = absurd (true≢false (sym e))
not_made o (calls.Pilfer now channel device) e = absurd (true≢false (sym e))
not_made o (calls.Remove now channel) e = absurd (true≢false (sym e))

pub neither : (call : Call) → opens call ≡ true → ((is_notified call == 1) ≡ false) × ((is_scripted call == 1) ≡ false)
neither (calls.Open terms) e = (refl, refl)
neither (calls.Windows now shown) e = absurd (true≢false (sym e))
neither (calls.FocusOn now display channel keys) e = absurd (true≢false (sym e))
neither (calls.Notify now a) e = absurd (true≢false (sym e))
neither (calls.Pump now) e = absurd (true≢false (sym e))
neither (calls.Tick now) e = absurd (true≢false (sym e))
neither (calls.Receive channel) e = absurd (true≢false (sym e))
neither (calls.Finish now channel seq) e = absurd (true≢false (sym e))
neither (calls.Pilfer now channel device) e = absurd (true≢false (sym e))
neither (calls.Remove now channel) e = absurd (true≢false (sym e))

pub order_none : (seats : List ℕ) (h : History) → Each (λ e. opens e.1 ≡ true) h → order_in seats h ≡ []
order_none seats [] a = refl
order_none seats (e ∷ h) a = ap₂ (λ ls ms. ls ++ ms) (order_none seats h a.1) (not_made (lane_from 1 seats e.0) e.1 a.0)

pub order_behind : (seats : List ℕ) (later base : History) → Each (λ e. opens e.1 ≡ true) base → order_in seats (later ++ base) ≡ order_in seats later
order_behind seats [] base a = order_none seats base a
order_behind seats (e ∷ later) base a = ap (λ ls. ls ++ made_by (lane_from 1 seats e.0) e.1) (order_behind seats later base a)

pub notified_behind : (later base : History) → Each (λ e. opens e.1 ≡ true) base → notified_in (later ++ base) ≡ notified_in later
notified_behind later base a =
    ap (filter (λ call. is_notified call == 1)) (map-append (λ e. e.1) later base)
    ∙ filter-append (λ call. is_notified call == 1) (map (λ e. e.1) later) (map (λ e. e.1) base)
    ∙ ap (λ xs. notified_in later ++ xs) (none base a)
    ∙ append-nil (notified_in later)
  where
    none : (h : History) → Each (λ e. opens e.1 ≡ true) h → notified_in h ≡ []
    none [] a = refl
    none (e ∷ h) a = ap (λ b. cond b (e.1 ∷ notified_in h) (notified_in h)) (neither e.1 a.0).0 ∙ none h a.1

pub seat_behind : (seats : List ℕ) (s : ℕ) (later base : History) → Each (λ e. opens e.1 ≡ true) base → Each (IsScripts seats) base → has_seat seats s ≡ true
    → calls_of_seat s (later ++ base) ≡ calls_of_seat s later
seat_behind seats s later base a alone has =
    ap (map (λ e. e.1)) (filter-append (λ e. e.0 == s) later base ∙ ap (λ xs. filter (λ e. e.0 == s) later ++ xs) (none base a alone) ∙ append-nil (filter (λ e. e.0 == s) later))
  where
    other : (e : Called Call Reply) → opens e.1 ≡ true → IsScripts seats e → (e.0 == s) ≡ false
    other e o alone = ne_eqb e.0 s (λ same. true≢false (sym has ∙ ap (has_seat seats) (sym same) ∙ alone ∙ (neither e.1 o).1))

    none : (h : History) → Each (λ e. opens e.1 ≡ true) h → Each (IsScripts seats) h → filter (λ e. e.0 == s) h ≡ []
    none [] a alone = refl
    none (e ∷ h) a alone = ap (λ b. cond b (e ∷ filter (λ e. e.0 == s) h) (filter (λ e. e.0 == s) h)) (other e a.0 alone.0) ∙ none h a.1 alone.1

-- the steps of a lane are the calls of its seat
pub steps_made : (k : ℕ) (seats : List ℕ) (scripts : List (List Call)) (h : History) (ss : List ScriptStep) (l s : ℕ)
    → ScriptsMade seats scripts h → AreLanes k scripts ss → lane_from k seats s ≡ Some l → calls_of_lane l ss ≡ reverse (calls_of_seat s h)
steps_made k [] [] h ss l s made are at = absurd (cc)
steps_made k [] (calls ∷ scripts) h ss l s made are at = absurd made
steps_made k (t ∷ seats) [] h ss l s made are at = absurd made
steps_made k (t ∷ seats) (calls ∷ scripts) h ss l s made are at =
    (elim (t == s) as (λ b. t == s ≡ b → cond b (Some k) (lane_from (k + 1) seats s) ≡ Some l → calls_of_lane l ss ≡ reverse (calls_of_seat s h)) [
      | true ↦ λ e f. (let same : k ≡ l = cc in ap (λ m. calls_of_lane m ss) (sym same) ∙ sym are.0 ∙ sym (reverse-reverse calls) ∙ ap reverse (sym made.0) ∙ ap (λ t. reverse (calls_of_seat t h)) (eqb-true t s e))
      | false ↦ λ e f. steps_made (k + 1) seats scripts h ss l s made.1 are.1 f
    ]) refl at

given_made : (plan : Plan) (ls : List Line) (xs : List Call) → line_calls 0 plan.cooked plan.steps ls ≡ Ok xs → given_calls plan ls ≡ Ok (opening plan.channels ++ xs)
given_made plan ls xs e = ap (after_opens plan.channels) e

pub order_law : OrderLaw
order_law plan finishing seats entries r =
    let race = r.race in
    let base : History = of_zero r.opened in
    let later : History = race.later in
    let base_calls : map (λ e. e.1) base ≡ reverse (opening plan.channels) = map_map (λ e. (0, e.1, e.2)) (λ (e : Called Call Reply). e.1) r.opened ∙ r.opens_are in
    let shut : Each (λ call. opens call ≡ true) (map (λ e. e.1) base) = subst (Each (λ call. opens call ≡ true)) (sym base_calls) (each_reverse (λ call. opens call ≡ true) (opening plan.channels) (opened_each plan.channels)) in
    let base_opens : Each (λ e. opens e.1 ≡ true) base = each_under (λ (e : Called Call Reply). e.1) (λ call. opens call ≡ true) base shut in
    let timeless : Each (λ e. IsTimeless e.1) (later ++ base) = subst (Each (λ (e : Called Call Reply). IsTimeless e.1)) race.begins race.timeless in
    let alone : Each (IsScripts seats) (later ++ base) = subst (Each (IsScripts seats)) race.begins race.alone in
    let alone_base : Each (IsScripts seats) base = each_last (IsScripts seats) later base alone in
    let cooked_are : map (λ a. calls.Notify a.moment a.args) plan.cooked ≡ reverse (notified_in later) ++ [] =
    sym (map_map (λ (a : Cooked). (a.moment, a.args)) (λ a. calls.Notify a.0 a.1) plan.cooked)
    ∙ sym (reverse-reverse (notifies (map (λ a. (a.moment, a.args)) plan.cooked))) ∙ ap reverse (sym race.args)
    ∙ ap (λ h. reverse (notified_in h)) race.begins ∙ ap reverse (notified_behind later base base_opens)
    ∙ sym (append-nil (reverse (notified_in later))) in
    let left : (l s : ℕ) → lane_from 1 seats s ≡ Some l → calls_of_lane l plan.steps ≡ reverse (calls_of_seat s later) ++ [] =
    λ l s at. steps_made 1 seats r.scripts (called entries) plan.steps l s race.scripts_made r.lanes_are at
    ∙ ap (λ h. reverse (calls_of_seat s h)) race.begins
    ∙ ap reverse (seat_behind seats s later base base_opens alone_base (seat_lane 1 seats s ∙ ap is_some at))
    ∙ sym (append-nil (reverse (calls_of_seat s later))) in
    let m = follows seats plan.cooked plan.steps later [] (λ l. []) race.no_open (each_first (λ e. IsTimeless e.1) later base timeless)
    (each_first (IsScripts seats) later base alone) cooked_are left in
    let order : map line_of (order_of_history seats entries) ≡ lines seats later =
    ap (map line_of) (order_same seats entries ∙ ap (order_in seats) race.begins ∙ order_behind seats later base base_opens) in
    let made : List Call = opening plan.channels ++ reverse (map (λ e. e.1) later) in
    let all_calls : reverse made ≡ calls_of (history_of entries) =
    reverse-append (opening plan.channels) (reverse (map (λ e. e.1) later))
    ∙ ap₂ (λ xs ys. xs ++ ys) (reverse-reverse (map (λ e. e.1) later)) (sym base_calls)
    ∙ sym (map-append (λ (e : Called Call Reply). e.1) later base) ∙ ap (map (λ (e : Called Call Reply). e.1)) (sym race.begins)
    ∙ sym (map_map (λ (e : Called Call Reply). (e.1, e.2)) (λ e. e.0) (called entries)) ∙ ap calls_of (history_same entries) in
    let legal : Legal plan.displays (history_of entries) = subst (Legal plan.displays) (history_same entries) race.legal in
    let same : replay plan.displays (reverse made) ≡ history_of entries = ap (replay plan.displays) all_calls ∙ legal_replay plan.displays (history_of entries) legal in
    (made, ap (given_calls plan) order ∙ given_made plan (lines seats later) (reverse (map (λ e. e.1) later)) m.made, same, sym (replay_law plan.displays (reverse made)).2 ∙ ap (effects plan.displays) same)
