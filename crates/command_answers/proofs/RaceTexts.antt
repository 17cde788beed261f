-- What the end of a race of a session's run says of its text.
use Rattle.std.proofs.Common.{◌≡◌, ◌∙◌, ◌-◌, ◌<◌, ℕ, zero, suc, ◌+◌, Bool, true, false, List, ◌∷◌, cond, length, map, reverse, Option, Some, Result, Ok, Err, IfOk, ap, sym, subst, refl, arith, []}
use Rattle.std.specs.Prelude.{◌==◌, ◌≤◌, is_some}
use Rattle.std.proofs.Math.Path.{fun_ext}
use Rattle.std.proofs.lemmas.Bool.{eqb-true, eq-eqb}
use Rattle.std.proofs.lemmas.List.{length-map, map-append}
use Rattle.key_repeat.specs.declared.delays.Repeats.{Repeats}
use Rattle.input_types.specs.declared.message.Args.{Args}
use Rattle.dispatch_calls.specs.declared.call.Call.{Call}
use Rattle.dispatch_calls.specs.declared.call.Call.TheVariants.{Finish}
use Rattle.dispatch_calls.specs.declared.reply.Reply.{Reply}
use Rattle.dispatch_history.specs.History.{History}
use Rattle.dispatch_core.specs.Machine.{called, steps}
use Rattle.dispatch_core.specs.Recorded.{IsSound, history_of}
use Rattle.dispatch_history.specs.Given.{opens}
use Rattle.dispatch_history.specs.Plan.{Cooked as PlanArgs, Plan, ScriptStep}
use Rattle.input_service.specs.Services.{IsOf}
use Rattle.dispatch_history.specs.Settled.{Settled}
use Rattle.given_run.specs.declared.cooked.Cooked.{Cooked as GivenArgs}
use Rattle.given_run.specs.Planned.{cooked_of}
use Rattle.replay_actors.specs.Lanes.{Own, calls_made}
use Rattle.replay_actors.specs.Opening.{IsCaller}
use Rattle.replay_actors.specs.Raced.{OnlyOpens}
use Rattle.replay_actors.specs.Race.{IsRace, ScriptsMade, SeatsDiffer, has_seat}
use Rattle.turnstile.specs.History.{Entry as Called}
use Rattle.turnstile.specs.Seats.{view}
use Rattle.replay_actors.specs.Starts.{MayRun}
use Rattle.replay_actors.specs.declared.runner.Start.{Start}
use Rattle.replay_actors.proofs.Orders.{seat_lane, history_same}
use Rattle.replay_actors.proofs.Spelled.{order_law}
use Rattle.replay_actors.specs.Counting.{ticks, moves, idles}
use Rattle.replay_actors.specs.Ends.{IsSettledRace}
use Rattle.replay_actors.specs.Finishing.{IsOrderly, AreOrderly}
use Rattle.dispatch_history.specs.Effects.{effects}
use Rattle.dispatch_history.specs.Legal.{replay, run}
use Rattle.replay_actors.proofs.Tallies.{counts_law}
use Rattle.replay_actors.proofs.Printing.{prints_law}
use Rattle.replay_actors.specs.Laws.{Prints}
use Rattle.replay_actors.specs.Texts.{ReadsAgain, race_output}
use Rattle.window_snapshot.specs.Mask.{mask_has}
use Rattle.replay_actors.specs.declared.part.Lanes.{Lanes}
use Rattle.replay_actors.specs.declared.part.RaceEnd.{RaceEnd}
use Rattle.replay_actors.specs.Plans.{scripted}
use Rattle.replay_actors.specs.Session.{channel_of}
use Rattle.session_plan.specs.Plan.{PlanData}
use Rattle.session_plan.specs.View.{channel_view}
use Rattle.session_plan.specs.declared.plan.ChannelPlan.{ChannelPlan}
use Rattle.raw_events.specs.declared.event.RawEvent.{RawEvent}
use Rattle.stream_text.specs.OrderHistory.{lane_from, order_of_history}
use Rattle.command_files.specs.Planned.{names_of, run_of}
use Rattle.command_answers.specs.Race.{EndsSettling, RacedSo, finishes_from}
use Rattle.command_answers.specs.RaceEnds.{DoPlan, EndsRace}
use Rattle.command_answers.specs.Whole.{AreWhole}
use Rattle.command_answers.proofs.WholeRun.{sound_whole}

-- args as pairs
pub paired : (all : List GivenArgs) → map {B = ℕ × Args} (λ a. (a.moment, a.args)) all ≡ map {B = ℕ × Args} (λ a. (a.moment, a.args)) (map cooked_of all)
paired [] = refl
paired (a ∷ all) = ap (λ (rest : List (ℕ × Args)). (a.moment, a.args) ∷ rest) (paired all)

-- each script lane has a seat
pub seats_many : (seats : List ℕ) (scripts : List (List Call)) (h : List (Called Call Reply)) → ScriptsMade seats scripts h → length seats ≡ length scripts
seats_many [] [] h made = refl
seats_many [] (c ∷ cs) h made = absurd made
seats_many (s ∷ ss) [] h made = absurd made
seats_many (s ∷ ss) (c ∷ cs) h made = ap suc (seats_many ss cs h made.1)

-- a seat of those behind is another one
other_seat : (seats : List ℕ) (s t l m : ℕ) (b : Bool) → has_seat seats s ≡ false → lane_from l seats t ≡ Some m → (s == t) ≡ b → b ≡ false
other_seat seats s t l m false out at e = refl
other_seat seats s t l m true out at e =
    let same : s ≡ t = eqb-true s t e in
    absurd (let f : false ≡ true = sym out ∙ seat_lane l seats s ∙ ap (λ x. is_some (lane_from l seats x)) same ∙ ap is_some at in cc)

-- each lane that there is a seat for has one
seat_of : (l : ℕ) (seats : List ℕ) (k : ℕ) → SeatsDiffer seats → k < length seats → (s : ℕ) × (lane_from l seats s ≡ Some (l + k))
seat_of l [] k differ h = absurd (omega (arith, h))
seat_of l (s ∷ seats) zero differ h =
    (s, ap (λ b. cond b (Some l) (lane_from (l + 1) seats s)) (eq-eqb s s refl) ∙ ap Some (omega arith))
seat_of l (s ∷ seats) (suc k) differ h =
    let behind = seat_of (l + 1) seats k differ.1 (omega (arith, h)) in
    let t = behind.0 in
    (t, ap (λ b. cond b (Some l) (lane_from (l + 1) seats t)) (other_seat seats s t (l + 1) _ (s == t) differ.0 behind.1 refl) ∙ behind.1 ∙ ap Some (omega arith))

ok_same : {E : Type 0} (x : Result (List Call) E) (a b : List Call) → x ≡ Ok a → x ≡ Ok b → a ≡ b
ok_same x a b e f = cc

less_settled : (displays : List ℕ) (h : History) (f g : ℕ → Bool) → ((c : ℕ) → g c ≡ true → f c ≡ true) → Settled displays h f → Settled displays h g
less_settled displays h f g less s =
    record {
      idle = s.idle;
      no_repeat = s.no_repeat;
      looked = s.looked;
      taken = s.taken;
      done = λ c live is. s.done c live (less c is);
    }

-- a finish that is orderly for channels is so for more of them
one_within : (f g : ℕ → Bool) → ((c : ℕ) → f c ≡ true → g c ≡ true) → (h : History) (call : Call) → IsOrderly f h call → IsOrderly g h call
one_within f g more h (Finish now c seq) o = (more c o.0, o.1, o.2)
one_within f g more h call o = o

orderly_within : (f g : ℕ → Bool) → ((c : ℕ) → f c ≡ true → g c ≡ true) → (h : History) → AreOrderly f h → AreOrderly g h
orderly_within f g more [] o = o
orderly_within f g more (e ∷ h) o = (one_within f g more h e.0 o.0, orderly_within f g more h o.1)

-- what is printed of a race of a session's run
pub race_written : (p : PlanData) (past : List RawEvent) (end : RaceEnd) → EndsRace (run_of p past) end
    → ReadsAgain (order_of_history end.script_seats.items end.core.entries)
    → RacedSo p past (race_output (names_of p) end.script_seats.items end.core)
race_written p past end ends again =
    let plan = run_of p past in
    let seats = end.script_seats.items in
    let order = order_of_history seats end.core.entries in
    let prints : Prints plan (mask_has ends.mask) (names_of p) seats end.core = prints_law plan (mask_has ends.mask) (names_of p) seats end.core ends.displays_are ends.race in
    let counts = counts_law plan (mask_has ends.mask) seats end.core.entries ends.race in
    let law = order_law plan (mask_has ends.mask) seats end.core.entries ends.race in
    let calls : prints.calls ≡ law.0 = ok_same _ _ _ prints.given_is law.1 in
    let there : replay plan.displays (reverse prints.calls) ≡ steps (called end.core.entries) =
    ap (λ (cs : List Call). replay plan.displays (reverse cs)) calls ∙ law.2 ∙ sym (history_same end.core.entries) in
    record {
      order = order;
      calls = prints.calls;
      all = record {
        args = counts.0;
        steps = λ l low high.
            let at = seat_of 1 seats (l - 1) ends.race.race.seats_differ (omega (arith, low, high, ends.few)) in
            counts.1 l at.0 (at.1 ∙ ap Some (omega (arith, low)));
      };
      given_is = prints.given_is;
      text_is = prints.text_is;
      whole =
          subst (AreWhole plan.displays) (sym (ap (λ (cs : List Call). run plan.displays (reverse cs)) calls ∙ law.3))
          (subst (λ (ds : List ℕ). AreWhole ds (effects ds (history_of end.core.entries))) ends.displays_are (sound_whole end.core ends.sound));
      again = again;
      orderly =
          subst (AreOrderly _) (sym there)
          (orderly_within (mask_has ends.mask) _ (λ c is. sym (ends.finishing_are c) ∙ is) (steps (called end.core.entries)) ends.race.race.orderly);
      settled = less_settled _ _ (mask_has ends.mask) _ (λ c is. ends.finishing_are c ∙ is) prints.settled;
      few_ticks = subst (λ (h : History). ticks h ≤ moves h + 1) (sym there) ends.race.race.few_ticks;
      few_idles = subst (λ (h : History). idles h ≤ 81985) (sym there) ends.race.race.few_idles;
      ends =
          subst (λ (n : ℕ). EndsSettling (finishes_from 1 plan.channels) n (replay plan.displays (reverse prints.calls))) (length-map p.channels (channel_of p.repeats))
          (subst (EndsSettling (finishes_from 1 plan.channels) (length plan.channels)) (sym there)
          (subst (λ f. EndsSettling f (length plan.channels) (steps (called end.core.entries))) (fun_ext ends.finishing_are) ends.ends));
    }

-- what was returned for a possible start is what is returned for some start
pub ended_by : {A E S : Type 0} (r : Result A E) (s : S) (May : S → Type 0) (Post : S → Result A E → Type 0) → Post s r → May s
    → IfOk r (λ x. (t : S) × May t × Post t (Ok x))
ended_by (Ok x) s May Post post may = (s, may, post)
ended_by (Err e) s May Post post may = tt

-- what holds for each end returned for a start
pub if_left : {A E S : Type 0} (r : Result A E) (s : S) (Post : S → Result A E → Type 0) (P : A → Type 0) → Post s r
    → ((x : A) → Post s (Ok x) → P x) → IfOk r P
if_left (Ok x) s Post P post f = f x post
if_left (Err e) s Post P post f = tt

-- the lanes of a plan may start once its channels are opened
pub may_run : (repeats : Option Repeats) (s : Start) (channels : List ChannelPlan) (steps : List ScriptStep) (cooked : List PlanArgs)
    → DoPlan (map (channel_of repeats) (map channel_view channels)) steps cooked s.lanes → length channels ≤ 64 → IsOf s.service s.seat → IsCaller (view s.seat)
    → OnlyOpens (view s.seat).mine.own → length (view s.seat).mine.own ≡ length channels → MayRun s
may_run repeats s channels steps cooked does few of caller only each =
    let many : s.lanes.channels ≡ length channels =
    does.channels_are ∙ length-map (map channel_view channels) (channel_of repeats) ∙ length-map channels channel_view in
    record {
      channels = omega (arith, many, few);
      scripts = omega (arith, does.few);
      of_service = of;
      number = caller.number;
      made = caller.made;
      opens = only;
      opened = each ∙ sym many;
    }

-- the last calls of a race settle it
ends_settling : (displays : List ℕ) (finishing : ℕ → Bool) (channels : ℕ) (own : List Own) (cooked : List (ℕ × Args)) (scripts : List (List Call))
    (h : List (Called Call Reply)) → IsSettledRace displays finishing channels own cooked scripts h → EndsSettling finishing channels (steps h)
ends_settling displays finishing channels own cooked scripts h s =
    (steps s.since, steps s.lanes, ap steps s.entries_are ∙ map-append (λ (e : Called Call Reply). (e.1, e.2)) s.since s.lanes, s.stands)

-- a race of lanes that do what a plan has
pub ends_race : (plan : Plan) (l : Lanes) (own : List Own) (end : RaceEnd) → DoPlan plan.channels plan.steps plan.cooked l
    → calls_made own ≡ reverse (opens plan.channels)
    → Some end.core.displays ≡ Some plan.displays
    → IsRace end.core.displays (mask_has l.finishing) own l.cooked.items (scripted l.scripts.items) end.script_seats.items (called end.core.entries)
    → IsSettledRace end.core.displays (mask_has l.finishing) l.channels own l.cooked.items (scripted l.scripts.items) (called end.core.entries)
    → IsSound end.core
    → EndsRace plan end
ends_race plan l own end does opened displays race settled sound =
    let same : end.core.displays ≡ plan.displays = cc in
    let scripts = scripted l.scripts.items in
    let seats = end.script_seats.items in
    let h = called end.core.entries in
    record {
      mask = l.finishing;
      finishing_are = does.finishing_are;
      few = seats_many seats scripts h race.scripts_made ∙ length-map l.scripts.items _ ∙ does.few;
      displays_are = same;
      sound = sound;
      race = record {
        opened = own;
        scripts = scripts;
        race =
            subst (λ (ds : List ℕ). IsRace ds (mask_has l.finishing) own (map (λ a. (a.moment, a.args)) plan.cooked) scripts seats h) same
            (subst (λ (cs : List (ℕ × Args)). IsRace end.core.displays (mask_has l.finishing) own cs scripts seats h) does.cooked_are race);
        opens_are = opened;
        lanes_are = does.lanes_are;
      };
      ends =
          subst (λ n. EndsSettling (mask_has l.finishing) n (steps h)) does.channels_are
          (ends_settling end.core.displays (mask_has l.finishing) l.channels own l.cooked.items scripts h settled);
    }
