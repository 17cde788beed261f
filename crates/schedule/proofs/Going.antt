-- A run with one round more.
use Rattle.std.proofs.Common.{◌≡◌, ℕ, suc, true, false, List, ◌∷◌, length, refl, ap, ◌∙◌, inl, inr, arith}
use Rattle.std.specs.Prelude.{sum_by, Result, Ok, Err, OnOk}
use Rattle.std.proofs.Math.Path.{fun_ext}
use Rattle.std.proofs.lemmas.Bool.{true≢false}
use Rattle.input_types.specs.declared.message.Args.{Args}
use Rattle.dispatch_calls.specs.declared.call.Call.{Call}
use Rattle.dispatch_calls.specs.declared.call.Call.TheVariants.{Open, Windows, FocusOn, Notify, Pump, Tick, Receive, Finish, Pilfer, Remove}
use Rattle.dispatch_calls.specs.declared.reply.Reply.{Reply}
use Rattle.dispatch_history.specs.History.{History, clock, live, opened}
use Rattle.dispatch_history.specs.Effect.{Effect, past_of}
use Rattle.dispatch_history.specs.Effects.{step, channels}
use Rattle.dispatch_history.specs.Legal.{answered}
use Rattle.dispatch_history.specs.Reply.{reply_to}
use Rattle.dispatch_history.specs.Plan.{Plan, Cooked}
use Rattle.dispatch_history.specs.Ordered.{received_all, round, is_notified, notified}
use Rattle.dispatch_history.proofs.StreamLaws.{removed_live}
use Rattle.dispatcher.specs.DispatchTables.Lawful.{Lawful}
use Rattle.dispatcher.proofs.DispatchTables.Lawfuls.{lawful_step}
use Rattle.schedule.specs.declared.keeping.Lines.{Lines}
use Rattle.schedule.specs.Handing.{handing}
use Rattle.schedule.specs.Kinds.{is_opening}
use Rattle.schedule.specs.Released.{AllReleased}
use Rattle.schedule.specs.State.{ScheduleState, HasWith, Behind, Caught, ReadyWith, counted}
use Rattle.schedule.proofs.Behind.{behind_step}
use Rattle.schedule.proofs.Released.{released_all, released_stay}
use Rattle.schedule.proofs.Receiving.{TookTo, took_to, caught_after}

-- who is live after a step that opens nothing was live before
pub live_back : (call : Call) (answer : Reply) (h : History) (c : ℕ) → is_opening call ≡ false → live ((call, answer) ∷ h) c ≡ true → live h c ≡ true
live_back (Open terms) answer h c e y = absurd (true≢false e)
live_back (Remove now k) answer h c e y = removed_live now k c answer (live h c) y
live_back (Windows now shown) answer h c e y = y
live_back (FocusOn now d channel keys) answer h c e y = y
live_back (Notify now a) answer h c e y = y
live_back (Pump now) answer h c e y = y
live_back (Tick now) answer h c e y = y
live_back (Receive channel) answer h c e y = y
live_back (Finish now channel seq) answer h c e y = y
live_back (Pilfer now channel device) answer h c e y = y

-- a step that opens nothing leaves as many channels
opened_same : (call : Call) (answer : Reply) (h : History) → is_opening call ≡ false → opened ((call, answer) ∷ h) ≡ opened h
opened_same (Open terms) answer h e = absurd (true≢false e)
opened_same (Remove now k) answer h e = refl
opened_same (Windows now shown) answer h e = refl
opened_same (FocusOn now d channel keys) answer h e = refl
opened_same (Notify now a) answer h e = refl
opened_same (Pump now) answer h e = refl
opened_same (Tick now) answer h e = refl
opened_same (Receive channel) answer h e = refl
opened_same (Finish now channel seq) answer h e = refl
opened_same (Pilfer now channel device) answer h e = refl

-- what is between the first call of a round and its receives
pub record Between (ds : List ℕ) (es mid : List Effect) : Type 0 where
  pub lawful : Lawful ds mid
  pub opened_is : opened (past_of mid) ≡ opened (past_of es)
  pub behind : (c : ℕ) → live (past_of mid) c ≡ true → Behind mid c

pub first_call : (ds : List ℕ) (es : List Effect) (call : Call) → Lawful ds es → Caught es → is_opening call ≡ false → Between ds es (answered ds call es)
first_call ds es call l h never =
    let k : Lawful ds (step ds call (reply_to es call) es) = lawful_step ds call (reply_to es call) es l refl in
    record {
      lawful = k;
      opened_is = opened_same call (reply_to es call) (past_of es) never;
      behind =
          λ c y.
          let was = live_back call (reply_to es call) (past_of es) c never y in
          behind_step ds call (reply_to es call) es c k (h.behind c was) (inl (h.all c was));
    }

pub second_call : (ds : List ℕ) (es mid : List Effect) (call : Call) → Between ds es mid → is_opening call ≡ false
    → clock (past_of (answered ds call mid)) ≡ clock (past_of mid) → Between ds es (answered ds call mid)
second_call ds es mid call b never same =
    let k : Lawful ds (step ds call (reply_to mid call) mid) = lawful_step ds call (reply_to mid call) mid b.lawful refl in
    record {
      lawful = k;
      opened_is = opened_same call (reply_to mid call) (past_of mid) never ∙ b.opened_is;
      behind =
          λ c y.
          let was = live_back call (reply_to mid call) (past_of mid) c never y in
          behind_step ds call (reply_to mid call) mid c k (b.behind c was) (inr same);
    }

took_all : (ds : List ℕ) (mid : List Effect) → Lawful ds mid → TookTo ds mid (received_all ds mid) (opened (past_of mid))
took_all ds mid l = took_to ds mid (opened (past_of mid)) l

pub sum_agree : (f g : ℕ → ℕ) (n : ℕ) → ((c : ℕ) → f c ≡ g c) → sum_by f (channels n) ≡ sum_by g (channels n)
sum_agree f g n e = ap (λ h. sum_by h (channels n)) (fun_ext e)

-- a run that received all is ready again
pub ready_again : (how : Lines) (plan : Plan) (es mid : List Effect) (s : ScheduleState) → Between plan.displays es mid → opened (past_of es) ≡ length plan.channels
    → HasWith how plan (received_all plan.displays mid) s → AllReleased mid s.dispatcher → ReadyWith how plan (received_all plan.displays mid) s
ready_again how plan es mid s b opened has all =
    record {
      has = has;
      caught = caught_after plan.displays mid b.lawful b.behind;
      opened_is = (took_all plan.displays mid b.lawful).later_is.opened_is ∙ b.opened_is ∙ opened;
      all_released = every;
      messages_are = has.released_are ∙ ap counted (released_all (received_all plan.displays mid) s.dispatcher every);
    }
  where
    every : AllReleased (received_all plan.displays mid) s.dispatcher
    every =
        released_stay mid (received_all plan.displays mid) s.dispatcher s.dispatcher (took_all plan.displays mid b.lawful).later_is.stream_is
        (λ c low. refl) all

-- receives hand in nothing and make no steps
pub notified_all : (ds : List ℕ) (mid : List Effect) → Lawful ds mid → notified (past_of (received_all ds mid)) ≡ notified (past_of mid)
notified_all ds mid l = (took_all ds mid l).later_is.notified_is

-- two things that hold where a call was done
pub on_ok_both : {A E : Type 0} (r : Result A E) (X Y Z : Type 0) → OnOk r X → OnOk r Y → (X → Y → Z) → OnOk r Z
on_ok_both (Ok a) X Y Z x y f = f x y
on_ok_both (Err e) X Y Z x y f = x

-- the next repeated moment is no later clock
pub clock_twice : (t : ℕ) (es : List Effect) (ds : List ℕ) (a : Args) → clock (past_of (answered ds (Pump t) (answered ds (Notify t a) es))) ≡ clock (past_of (answered ds (Notify t a) es))
clock_twice t es ds a = omega arith

-- a round of one call hands in nothing, where the call does not
pub single_notified : (ds : List ℕ) (es : List Effect) (call : Call) → Lawful ds (answered ds call es) → is_notified call ≡ 0
    → notified (past_of (received_all ds (answered ds call es))) ≡ notified (past_of es)
single_notified ds es call l none = notified_all ds (answered ds call es) l ∙ omega (arith, none)

-- and that of args hands in them
pub handing_notified : (plan : Plan) (es : List Effect) (a : Cooked) → Lawful plan.displays es → Caught es
    → notified (past_of (round plan es (handing a))) ≡ suc (notified (past_of es))
handing_notified plan es a l h =
    let one = first_call plan.displays es (Notify a.moment a.args) l h refl in
    let two = second_call plan.displays es (answered plan.displays (Notify a.moment a.args) es) (Pump a.moment) one refl (clock_twice a.moment es plan.displays a.args) in
    notified_all plan.displays (answered plan.displays (Pump a.moment) (answered plan.displays (Notify a.moment a.args) es)) two.lawful ∙ omega arith
