-- A Move that is handed in and bypasses the channels at once.
use Rattle.std.proofs.Common.{◌≡◌, ◌≤◌, ◌+◌, ℕ, suc, max, cond, List, [], ◌∷◌, ◌++◌, length, slice_get, Option, None, Some, Result, Ok, Err, IfOk, OnErr, refl, sym, ap, ◌∙◌, subst, arith}
use Rattle.std.specs.Prelude.{IfSome}
use Rattle.input_types.specs.DeviceRule.{device_of}
use Rattle.input_types.specs.declared.message.Args.{Args}
use Rattle.input_types.specs.declared.message.Args.TheVariants.{Motion as MotionArgs}
use Rattle.input_types.specs.declared.motion.Motion.{Motion}
use Rattle.routing_rules.specs.Cover.{flags_of}
use Rattle.window_snapshot.specs.Mask.{mask_has}
use Rattle.dispatch_calls.specs.declared.call.Call.TheVariants.{Notify, Pump}
use Rattle.dispatch_calls.specs.declared.reply.Reply.TheVariants.{Taken, Dispatched}
use Rattle.dispatch_history.specs.Effect.{Effect, past_of, stream}
use Rattle.dispatch_history.specs.Effects.{step}
use Rattle.dispatch_history.specs.History.{origin}
use Rattle.dispatch_history.specs.Known.{IsNumbered}
use Rattle.dispatch_history.specs.Legal.{answered}
use Rattle.dispatch_history.specs.PointerOf.{RisesIn}
use Rattle.dispatch_history.specs.Reply.{reply_to}
use Rattle.dispatch_history.proofs.WholeLaws.{numbers_law}
use Rattle.dispatcher.specs.declared.inbound.change.Change.{Change}
use Rattle.dispatcher.specs.InboundArgs.Down.{PlansAt}
use Rattle.dispatcher.specs.InputChannel.Moves.{moves_from}
use Rattle.dispatcher.specs.CancelSynthesis.Tracked.{pointers_of}
use Rattle.dispatcher.specs.WindowCovers.Covers.{cover_in}
use Rattle.dispatcher.specs.DispatchTables.Lawful.{Lawful}
use Rattle.dispatcher.proofs.DispatchTables.Lawfuls.{lawful_last}
use Rattle.dispatcher.specs.DispatchChannels.Table.{channel_of}
use Rattle.dispatcher.proofs.DispatchChannels.Picking.{channel_low}
use Rattle.dispatcher.specs.Access.{gone}
use Rattle.dispatcher.specs.Dispatching.{Dispatching, IsOfHistory}
use Rattle.dispatcher.specs.Knows.{KeptStandsFor}
use Rattle.dispatcher.specs.MovedOn.{MovesOn, SentLast, last_moved}
use Rattle.dispatcher.specs.Past.{GoesPast, PumpsPast, Streams, moved_last}
use Rattle.dispatcher.specs.Queue.{Queue, QueueGoes, Passes}
use Rattle.dispatcher.specs.Tables.{SameAll, TablesStandFor, kept}
use Rattle.dispatcher.specs.declared.tables.Routing.{Routing}
use Rattle.dispatcher.specs.declared.tables.Tables.{Tables}
use Rattle.dispatcher.proofs.Made.Answered.{history_on, makes, steps_on}
use Rattle.dispatcher.proofs.Made.Applying.{bare, raw, seen, seen_same}
use Rattle.dispatcher.proofs.Made.Notifying.{accepted_on}
use Rattle.dispatcher.proofs.Room.Rooms.{channel_bare, input_bare}
use Rattle.dispatcher.proofs.Made.Through.{none_waits, queue_between}

pub past_on : (old : Tables) (later : Queue) (new : Routing) (m : Motion) (c : Change) (now sent place clk : ℕ)
    → slice_get old.queueing.waiting 0 ≡ None → PlansAt old.queueing.down (MotionArgs m) (Ok c)
    → (1 ≤ device_of (MotionArgs m)) × (device_of (MotionArgs m) ≤ 8) → RisesIn (Notify now (MotionArgs m))
    → Passes now c old.queueing later → clk ≡ max now old.queueing.clock → place ≡ old.queueing.place + 1
    → PumpsPast m sent place clk old.routing new
    → GoesPast now m sent old (record { queueing = later; routing = new })
past_on old later new m c now sent place clk none plan device rises p time at g =
    let k = old.queueing in
    let a = MotionArgs m in
    let mid = queue_between now a k later in
    let empty : k.waiting ≡ [] = none_waits k.waiting none in
    let taken : QueueGoes (Notify now a) Taken k mid =
    record { clock_is = refl; place_is = refl; waiting_is = ap (λ ws. ws ++ a ∷ []) (sym empty); down_is = (c, plan, p.changes) } in
    let raised : max now k.clock ≡ max now (max now k.clock) = omega arith in
    let goes : QueueGoes (Pump now) Dispatched mid later =
    record {
      clock_is = ap (λ q. q.clock) p.is ∙ raised;
      place_is = ap (λ q. q.place) p.is;
      waiting_is = ap (λ q. q.waiting) p.is ∙ empty;
      down_is = refl;
    } in
    let time_then : clk ≡ max now mid.clock = time ∙ raised in
    let at_then : mid.place ≡ place = omega (arith, at) in
    let same : later.spare ≡ k.spare = ap (λ q. q.spare) p.is in
    record {
      between = mid;
      notified = accepted_on old mid now a c plan device.0 device.1 rises taken (omega arith);
      pumped = λ es s.
          let both = g.after es now mid later refl at_then (sym time_then) s goes in (
            subst (λ ds. KeptStandsFor ds (step old.routing.displays (Pump now) Dispatched es) (kept later new)) (sym g.displays_are) both.0,
            subst (λ t. Streams es (step old.routing.displays (Pump now) Dispatched es) m.device sent t new) time_then both.1,
          );
      displays_are = g.displays_are;
      releases = g.releases;
      anrs_are = g.anrs_are;
      room_is = omega (arith, same);
    }

-- the pump is answered as the history says
answered_past : (old new : Tables) (now sent : ℕ) (m : Motion) (g : GoesPast now m sent old new) (es : List Effect)
    → TablesStandFor es (record old { queueing = g.between })
    → TablesStandFor (answered old.routing.displays (Pump now) es) new
    × Streams es (answered old.routing.displays (Pump now) es) m.device sent (max now g.between.clock) new.routing
answered_past old new now sent m g es s =
    let ds = old.routing.displays in
    let both = g.pumped es s in
    let is : Dispatched ≡ reply_to es (Pump now) =
    (lawful_last ds (Pump now) Dispatched es (subst (λ d. Lawful d (step ds (Pump now) Dispatched es)) g.displays_are both.0.lawful)).0 in (
      subst (λ a. TablesStandFor (step ds (Pump now) a es) new) is both.0,
      subst (λ a. Streams es (step ds (Pump now) a es) m.device sent (max now g.between.clock) new.routing) is both.1,
    )

-- what was sent, as contracts see it
sent_last : (old new : Tables) (now sent : ℕ) (m : Motion) (g : GoesPast now m sent old new) (es : List Effect)
    → TablesStandFor es (record old { queueing = g.between })
    → SentLast es (answered old.routing.displays (Pump now) es) m.device sent (seen (record old { queueing = g.between })) (seen new)
sent_last old new now sent m g es s = record {
  streams_are = λ c low. both.1 c low ∙ ap (λ x. cond (mask_has sent c) (x ∷ stream es c) (stream es c)) (last c);
  gone_are = λ c low.
      bare_gone new c ∙ g.releases c low ∙ ap (λ n. cond (mask_has sent c) (n + 1) n) (sym (bare_gone (record old { queueing = g.between }) c));
  all_gone = λ c y.
      let streams : stream later c ≡ last_moved later m.device (seen new) c ∷ stream es c =
      both.1 c (channel_low sent c y) ∙ ap (λ b. cond b (moved_last es m.device (max now g.between.clock) new.routing c ∷ stream es c) (stream es c)) y
      ∙ ap (λ x. x ∷ stream es c) (last c) in
      let numbered : IsNumbered (stream later c) =
      subst (λ xs. IsNumbered (stream xs c)) both.0.lawful.whole (numbers_law new.routing.displays (past_of later) c).0 in
      let number : gone (seen new) c ≡ 1 + length (stream es c) = (subst IsNumbered streams numbered).0 in
      let long : length (stream later c) ≡ suc (length (stream es c)) = ap length streams in
      omega (arith, number, long);
}
  where
    later : List Effect
    later = answered old.routing.displays (Pump now) es

    both : TablesStandFor later new × Streams es later m.device sent (max now g.between.clock) new.routing
    both = answered_past old new now sent m g es s

    bare_gone : (t : Tables) (c : ℕ) → gone (seen t) c ≡ (channel_of t.routing.channels c).gone
    bare_gone t c = ap (λ x. x.gone) (channel_bare t.routing.channels c)

    last : (c : ℕ) → moved_last es m.device (max now g.between.clock) new.routing c ≡ last_moved later m.device (seen new) c
    last c =
        λ i.
        record {
          seq = sym (bare_gone new c) i;
          moment = max now (s.knows.queue.clock_is i);
          body = moves_from (origin (past_of es) c) m.device (flags_of (cover_in new.routing.covers c m.device))
              (pointers_of (sym (input_bare new.routing.channels c) i) m.device);
        }

-- the dispatcher made both calls
pub moves_on : (old new : Tables) (d : Dispatching) (now sent : ℕ) (m : Motion) → seen old ≡ d → GoesPast now m sent old new
    → MovesOn now (MotionArgs m) sent d (seen new)
moves_on old new d now sent m is g =
    let mid : Tables = record old { queueing = g.between } in
    record {
      between = seen mid;
      first_made = steps_on (Notify now (MotionArgs m)) old mid d is (makes (Notify now (MotionArgs m)) Taken old mid g.notified);
      known = λ es s. bare (answered old.routing.displays (Pump now) es) new (answered_past old new now sent m g es (raw es mid s)).0;
      sends = λ es s. sent_last old new now sent m g es (raw es mid s);
      displays_are = g.displays_are;
      anrs_are = g.anrs_are;
      room_is = g.room_is;
    }

-- it is as after some history still
pub history_past : (old new : Tables) (now sent : ℕ) (m : Motion) → GoesPast now m sent old new → IsOfHistory (seen old) → IsOfHistory (seen new)
history_past old new now sent m g h =
    let mid : Tables = record old { queueing = g.between } in
    let first = history_on (Notify now (MotionArgs m)) old mid (makes (Notify now (MotionArgs m)) Taken old mid g.notified) h in
    let es : List Effect = first.0 in
    (answered old.routing.displays (Pump now) es, bare (answered old.routing.displays (Pump now) es) new (answered_past old new now sent m g es (raw es mid first.1)).0)

-- by what the tables answered: the dispatcher made both calls, ..
pub moves_if : {E : Type 0} (r : Result (Option ℕ) E) (old new : Tables) (d : Dispatching) (now : ℕ) (a : Args) (m : Motion) → a ≡ MotionArgs m
    → seen old ≡ d → IfOk r (λ found. IfSome found (λ sent. GoesPast now m sent old new))
    → IfOk r (λ found. IfSome found (λ sent. MovesOn now a sent d (seen new)))
moves_if (Err e) old new d now a m named is g = tt
moves_if (Ok None) old new d now a m named is g = tt
moves_if (Ok (Some sent)) old new d now a m named is g =
    subst (λ x. MovesOn now x sent d (seen new)) (sym named) (moves_on old new d now sent m is g)

-- .. and it is as after some history still.
pub history_if_past : {E : Type 0} (r : Result (Option ℕ) E) (old new : Tables) (now : ℕ) (m : Motion)
    → IfOk r (λ found. IfSome found (λ sent. GoesPast now m sent old new)) → IfOk r (λ found. found ≡ None → SameAll old new)
    → OnErr r (SameAll old new) → IsOfHistory (seen old) → IsOfHistory (seen new)
history_if_past (Err e) old new now m g none same h = subst IsOfHistory (sym (seen_same old new same)) h
history_if_past (Ok None) old new now m g none same h = subst IsOfHistory (sym (seen_same old new (none refl))) h
history_if_past (Ok (Some sent)) old new now m g none same h = history_past old new now sent m g h
