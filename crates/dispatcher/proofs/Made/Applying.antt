-- What contracts see of the tables.
use Rattle.std.proofs.Common.{◌≡◌, ◌≤◌, ℕ, List, Result, Ok, Err, OnOk, OnErr, sym, ap, subst}
use Rattle.dispatch_calls.specs.declared.call.Call.{Call}
use Rattle.dispatch_calls.specs.declared.call.Call.TheVariants.{Open, Windows, FocusOn, Notify, Pump, Tick, Receive, Finish, Pilfer, Remove}
use Rattle.dispatcher.specs.DispatchChannels.Table.{but_for_room}
use Rattle.dispatch_history.specs.Effect.{Effect, past_of}
use Rattle.dispatch_history.specs.History.{received}
use Rattle.dispatcher.proofs.DispatchTables.Ables.{live_number}
use Rattle.dispatcher.specs.declared.tables.Tables.{Tables}
use Rattle.dispatcher.specs.Dispatching.{Dispatching}
use Rattle.dispatcher.specs.Dispatching.{IsAfter, StandsFor, with_room, with_args_room}
use Rattle.dispatcher.specs.Queueing.{with_room as queue_with_room, with_args_room as queue_with_args_room}
use Rattle.dispatcher.specs.Queue.{Queue}
use Rattle.dispatcher.specs.Roomy.{KeepsPromise}
use Rattle.dispatcher.specs.Tables.{TablesStandFor, SameAll, SameButRoom, kept}
use Rattle.dispatcher.specs.Replying.{MayHand}
use Rattle.dispatcher.proofs.Room.Rooms.{stands_raw, stands_bare, channel_bare}

-- what contracts see of the tables
abbrev pub seen : Tables → Dispatching
seen t =
    record {
      displays = t.routing.displays;
      queue = t.queueing;
      shown = t.routing.shown;
      touches = t.routing.touches;
      covers = t.routing.covers;
      channels = but_for_room t.routing.channels;
      focus = t.routing.focus;
      repeat = t.routing.repeat;
    }

pub raw : (es : List Effect) (t : Tables) → IsAfter es (seen t) → TablesStandFor es t
raw es t s =
    stands_raw t.routing.displays es t.queueing t.routing.shown t.routing.touches t.routing.covers t.routing.channels t.routing.focus t.routing.repeat s

pub bare : (es : List Effect) (t : Tables) → TablesStandFor es t → IsAfter es (seen t)
bare es t s =
    stands_bare t.routing.displays es t.queueing t.routing.shown t.routing.touches t.routing.covers t.routing.channels t.routing.focus t.routing.repeat s

-- out of memory changes nothing but the room
pub seen_same : (old new : Tables) → SameAll old new → seen new ≡ seen old
seen_same old new h =
    λ i.
    record {
      displays = (h.routing_is.0 i).displays;
      queue = h.queueing_is i;
      shown = (h.routing_is.0 i).shown;
      touches = (h.routing_is.0 i).touches;
      covers = (h.routing_is.0 i).covers;
      channels = (h.routing_is.0 i).channels;
      focus = (h.routing_is.0 i).focus;
      repeat = (h.routing_is.0 i).repeat;
    }

-- what stands for a history has not released the message that is received next
pub may_hand : (es : List Effect) (t : Tables) (call : Call) → StandsFor es (seen t) → MayHand es (kept t.queueing t.routing) call
may_hand es t (Receive c) s = λ lives.
    let number = live_number t.routing.displays es c s.lawful lives in
    subst (λ n. n ≤ received (past_of es) c) (ap (λ x. x.gone) (channel_bare t.routing.channels c)) ((s.may_go c number.0).of_live lives)
may_hand es t (Open terms) s = tt
may_hand es t (Windows now shown) s = tt
may_hand es t (FocusOn now display channel keys) s = tt
may_hand es t (Notify now args) s = tt
may_hand es t (Pump now) s = tt
may_hand es t (Tick now) s = tt
may_hand es t (Finish now c seq) s = tt
may_hand es t (Pilfer now c d) s = tt
may_hand es t (Remove now c) s = tt

-- what stands for a history stands for it with more room for args
pub roomier : (es : List Effect) (d : Dispatching) (n : ℕ) → IsAfter es d → IsAfter es (with_room n d)
roomier es d n s =
    let q = s.knows.queue in
    record {
      lawful = s.lawful;
      rise = s.rise;
      knows =
          record {
            queue = record { clock_is = q.clock_is; place_is = q.place_is; waiting_is = q.waiting_is; down_is = q.down_is };
            shown = s.knows.shown;
            touches = s.knows.touches;
            covers = s.knows.covers;
            delivery = s.knows.delivery;
            inputs = s.knows.inputs;
            keying = s.knows.keying;
          };
    }

-- whether or not there was memory for it
pub roomier_or_not : {A E : Type 0} (r : Result A E) (old new : Dispatching) (n : ℕ) → OnOk r (new ≡ with_room n old) → OnErr r (new ≡ old)
    → (es : List Effect) → IsAfter es old → IsAfter es new
roomier_or_not (Ok a) old new n ok err es s = subst (IsAfter es) (sym ok) (roomier es old n s)
roomier_or_not (Err e) old new n ok err es s = subst (IsAfter es) (sym err) s

-- room was reserved, or memory ran out
pub reserved_stands : {A E : Type 0} (r : Result A E) (old new : Tables) (n : ℕ) → OnOk r (new.queueing ≡ queue_with_room n old.queueing)
    → OnErr r (new.queueing ≡ old.queueing) → SameButRoom old.routing new.routing → (es : List Effect) → IsAfter es (seen old) → IsAfter es (seen new)
reserved_stands (Ok a) old new n ok err same es s =
    let is : seen new ≡ with_room n (seen old) =
    λ i.
    record {
      displays = (same.0 i).displays;
      queue = ok i;
      shown = (same.0 i).shown;
      touches = (same.0 i).touches;
      covers = (same.0 i).covers;
      channels = (same.0 i).channels;
      focus = (same.0 i).focus;
      repeat = (same.0 i).repeat;
    } in
    subst (IsAfter es) (sym is) (roomier es (seen old) n s)
reserved_stands (Err e) old new n ok err same es s = subst (IsAfter es) (sym (seen_same old new (record { queueing_is = err; routing_is = same }))) s

-- the same for room for args
pub args_roomier : (es : List Effect) (d : Dispatching) (n : ℕ) → IsAfter es d → IsAfter es (with_args_room n d)
args_roomier es d n s =
    let q = s.knows.queue in
    record {
      lawful = s.lawful;
      rise = s.rise;
      knows =
          record {
            queue = record { clock_is = q.clock_is; place_is = q.place_is; waiting_is = q.waiting_is; down_is = q.down_is };
            shown = s.knows.shown;
            touches = s.knows.touches;
            covers = s.knows.covers;
            delivery = s.knows.delivery;
            inputs = s.knows.inputs;
            keying = s.knows.keying;
          };
    }

pub args_stand : {A E : Type 0} (r : Result A E) (old : Tables) (later : Queue) (n : ℕ) → OnOk r (later ≡ queue_with_args_room n old.queueing)
    → OnErr r (later ≡ old.queueing) → (es : List Effect) → IsAfter es (seen old) → IsAfter es (seen (record old { queueing = later }))
args_stand (Ok a) old later n ok err es s =
    subst (λ q. IsAfter es (seen (record old { queueing = q }))) (sym ok) (args_roomier es (seen old) n s)
args_stand (Err e) old later n ok err es s = subst (λ q. IsAfter es (seen (record old { queueing = q }))) (sym err) s

-- and the room for pumps stays
pub args_promise : {A E : Type 0} (r : Result A E) (old : Tables) (later : Queue) (n : ℕ) → OnOk r (later ≡ queue_with_args_room n old.queueing)
    → OnErr r (later ≡ old.queueing) → KeepsPromise old → KeepsPromise (record old { queueing = later })
args_promise (Ok a) old later n ok err keeps = subst (λ q. KeepsPromise (record old { queueing = q })) (sym ok) keeps
args_promise (Err e) old later n ok err keeps = subst (λ q. KeepsPromise (record old { queueing = q })) (sym err) keeps
