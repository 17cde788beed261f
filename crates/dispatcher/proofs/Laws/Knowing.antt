-- All that is kept goes one step on.
use Rattle.std.proofs.Common.{◌≡◌, ℕ, true, List, subst}
use Rattle.dispatcher.specs.CancelSynthesis.Tracked.{Tracked}
use Rattle.dispatch_calls.specs.declared.call.Call.{Call}
use Rattle.dispatch_calls.specs.declared.reply.Reply.{Reply}
use Rattle.dispatch_history.specs.History.{live}
use Rattle.dispatch_history.specs.Effect.{Effect, past_of}
use Rattle.dispatch_history.specs.Effects.{step}
use Rattle.dispatch_history.specs.PointerOf.{RisesIn}
use Rattle.dispatch_history.specs.Reply.{reply_to}
use Rattle.dispatcher.specs.DispatchTables.Delivery.{DeliveryIs}
use Rattle.dispatcher.proofs.DispatchTables.Lawfuls.{lawful_step}
use Rattle.dispatcher.proofs.DispatchTables.Going.{delivery_law}
use Rattle.dispatcher.specs.Queue.{QueueGoes}
use Rattle.dispatcher.specs.Shown.{ShownGoes}
use Rattle.dispatcher.specs.Pointing.{TouchesGo}
use Rattle.dispatcher.specs.Covering.{CoversStep}
use Rattle.dispatcher.specs.Input.{InputIs, InputGoes}
use Rattle.dispatcher.specs.Knows.{Kept, KeyingIs, KeptStandsFor}
use Rattle.dispatcher.specs.Laws.{GoesLaw}
use Rattle.dispatcher.proofs.Laws.QueueLaws.{queue_law}
use Rattle.dispatcher.proofs.Laws.ShownLaws.{shown_law, touches_law, covers_law}
use Rattle.dispatcher.proofs.Laws.Inputs.{input_law}

-- what goes one step on in all other tables, where the channels and what is kept of keys stand for the history with it
pub record GoesWith (ds : List ℕ) (call : Call) (answer : Reply) (es : List Effect) (k later : Kept) : Type 0 where
  pub queue : QueueGoes call answer k.queue later.queue
  pub shown : ShownGoes call k.shown later.shown
  pub touches : TouchesGo ds call answer es k.queue.place k.touches later.touches
  pub covers : CoversStep ds call answer es k.touches k.covers later.covers
  pub delivery : DeliveryIs (step ds call answer es) later.delivery
  pub inputs :
      (w : ℕ) → live (past_of (step ds call answer es)) w ≡ true
      → (old : Tracked) × InputIs ds es w old × InputGoes ds call answer es w old (later.inputs w)
  pub keying : KeyingIs (step ds call answer es) later.focus later.repeat

pub stands_next : (ds : List ℕ) (call : Call) (answer : Reply) (es : List Effect) (k later : Kept) → KeptStandsFor ds es k → answer ≡ reply_to es call
    → RisesIn call → GoesWith ds call answer es k later → KeptStandsFor ds (step ds call answer es) later
stands_next ds call answer es k later stands r rises goes =
    let lawful = lawful_step ds call answer es stands.lawful r in
    record {
      lawful = lawful;
      rise = (rises, stands.rise);
      knows =
          record {
            queue = queue_law ds call answer es k.queue later.queue lawful stands.knows.queue goes.queue;
            shown = shown_law ds call answer es k.shown later.shown stands.knows.shown goes.shown;
            touches =
                touches_law ds call answer es k.touches later.touches stands.knows.touches
                (subst (λ place. TouchesGo ds call answer es place k.touches later.touches) stands.knows.queue.place_is goes.touches);
            covers = covers_law ds call answer es k.touches k.covers later.covers stands.knows.touches stands.knows.covers goes.covers;
            delivery = goes.delivery;
            inputs = λ w lives.
                let from = goes.inputs w lives in
                input_law ds call answer es w from.0 (later.inputs w) lawful (rises, stands.rise) lives from.1 from.2;
            keying = goes.keying;
          };
    }

pub goes_law : GoesLaw
goes_law ds call answer es k later stands r rises goes =
    stands_next ds call answer es k later stands r rises
    (record {
      queue = goes.queue;
      shown = goes.shown;
      touches = goes.touches;
      covers = goes.covers;
      delivery =
          delivery_law ds call answer es goes.changed k.delivery later.delivery (lawful_step ds call answer es stands.lawful r) stands.knows.delivery goes.delivery;
      inputs = goes.inputs;
      keying = goes.keying;
    })
