-- Args that are handed in.
use Rattle.std.proofs.Common.{◌≡◌, ◌≤◌, ◌<◌, ◌^◌, ℕ, ◌+◌, Ok, Err, refl, sym, ap, subst, arith}
use Rattle.input_types.specs.declared.message.Args.{Args}
use Rattle.input_types.specs.DeviceRule.{device_of}
use Rattle.dispatcher.specs.declared.inbound.change.Change.{Change}
use Rattle.dispatcher.specs.declared.inbound.change.Inconsistent.{Inconsistent as Refusal}
use Rattle.dispatcher.specs.InboundArgs.Down.{PlansAt}
use Rattle.dispatch_calls.specs.declared.call.Call.TheVariants.{Notify}
use Rattle.dispatch_calls.specs.declared.reply.Reply.TheVariants.{Taken, Inconsistent}
use Rattle.dispatch_history.specs.PointerOf.{RisesIn}
use Rattle.dispatcher.specs.Queue.{Queue, QueueGoes}
use Rattle.dispatcher.proofs.Laws.Answering.{taken_law, refused_law}
use Rattle.dispatcher.specs.declared.tables.Tables.{Tables}
use Rattle.dispatcher.specs.Queueing.{stepped}
use Rattle.dispatcher.specs.Tables.{GoesOn}
use Rattle.dispatcher.proofs.Made.NoOps.{rested}
use Rattle.dispatcher.proofs.Laws.Gone.{none_gone}

-- args that are accepted
pub accepted_on : (old : Tables) (later : Queue) (now : ℕ) (a : Args) (c : Change)
    → PlansAt old.queueing.down a (Ok c) → 1 ≤ device_of a → device_of a ≤ 8 → RisesIn (Notify now a)
    → QueueGoes (Notify now a) Taken old.queueing later → old.queueing.spare ≤ later.spare + 1
    → GoesOn (Notify now a) Taken old (record old { queueing = later })
accepted_on old later now a c plan low high rises goes room =
    record {
      after = λ es s.
          rested (Notify now a) Taken es old.queueing later old.routing s goes
          (sym (taken_law es old.queueing now a c s.knows.queue low high plan)) rises refl;
      displays_are = refl;
      gone_are = none_gone old.routing.channels;
      room_is = room;
    }

-- args that may not come
pub refused_on : (old : Tables) (later : Queue) (now : ℕ) (a : Args) (e : Refusal)
    → PlansAt old.queueing.down a (Err e) → 1 ≤ device_of a → device_of a ≤ 8 → RisesIn (Notify now a) → e.pointers < 2 ^ 32
    → later ≡ stepped now old.queueing
    → GoesOn (Notify now a) (Inconsistent e.pointers e.key_down) old (record old { queueing = later })
refused_on old later now a e plan low high rises small is =
    record {
      after = λ es s.
          rested (Notify now a) (Inconsistent e.pointers e.key_down) es old.queueing later old.routing s
          (subst (λ q. QueueGoes (Notify now a) (Inconsistent e.pointers e.key_down) old.queueing q) (sym is)
          (record { clock_is = refl; place_is = refl; waiting_is = refl; down_is = refl }))
          (sym (refused_law es old.queueing now a e s.knows.queue low high small plan)) rises refl;
      displays_are = refl;
      gone_are = none_gone old.routing.channels;
      room_is = omega (arith, ap (λ q. q.spare) is);
    }
