-- A session, a recording and an order that are accepted, and their result.
use Rattle.std.proofs.Common.{◌∙◌, ℕ, Bool, IsTrue, List, [], ◌∷◌, Option, Ok, ap, sym, subst}
use Rattle.std.proofs.lemmas.Result.{err_from_is_err_and}
use Rattle.outside_io.specs.Outside.{Entry}
use Rattle.raw_events.specs.declared.event.RawEvent.{RawEvent}
use Rattle.raw_events.specs.Line.{Known, known}
use Rattle.session_plan.specs.Plan.{PlanData}
use Rattle.session_plan.specs.View.{plan_view}
use Rattle.command_files.specs.Devices.{devices_of}
use Rattle.command_files.specs.Inputs.{events_file, events_judged, order_file, order_limit, recording_limit, session_file, session_limit}
use Rattle.command_files.specs.Judged.{Ends, IsJudged}
use Rattle.command_files.specs.Logged.{IsRead, RefusesFile}
use Rattle.command_files.proofs.Logs.{any_log, file_by, file_goes, last_by, last_file, then_by}
use Rattle.command_files.proofs.Outcomes.{if_err_map, if_ok_map}
use Rattle.command_answers.specs.Checked.{CheckAnswers, OrderAnswers, OrderedBy}
use Rattle.command_answers.proofs.checked.answer_check.Goals as goal

pub returns-in_err-session-clause-err : goal.returns-in_err-session-clause-err
returns-in_err-session-clause-err g c =
    let told = g.F.Files.entries c.args.files.now in
    let before = g.F.Files.readings c.args.files.now in
    let now = g.F.Files.readings c.read_session.new.files in
    let fb = g.F.Files.faults c.args.files.now in
    let fn = g.F.Files.faults c.read_session.new.files in
    let name = c.args.names.events.now in
    let p = err_from_is_err_and c.from_residual.result c.from_residual.ensures.1 in
    rw (p.1, p.2)
    (file_by told before now c.args.names.session.now session_file ((name, recording_limit) ∷ (c.args.order.now, order_limit) ∷ []) (CheckAnswers name c.args.order.now) fb fn c.in_err-session.field-0.0 c.in_err-session.ensures.err)

pub returns-in_err-devices-clause-err : goal.returns-in_err-devices-clause-err
returns-in_err-devices-clause-err g c =
    let told = g.F.Files.entries c.args.files.now in
    let before = g.F.Files.readings c.args.files.now in
    let now = g.F.Files.readings c.read_session.new.files in
    let fb = g.F.Files.faults c.args.files.now in
    let fn = g.F.Files.faults c.read_session.new.files in
    let name = c.args.names.events.now in
    let p = err_from_is_err_and c.from_residual-in_err-devices.result c.from_residual-in_err-devices.ensures.1 in
    rw (p.1, p.2) (any_log told before now c.args.names.session.now session_limit ((name, recording_limit) ∷ (c.args.order.now, order_limit) ∷ []) _ c.in_ok-session.ensures.ok)

pub returns-in_err-events-clause-err : goal.returns-in_err-events-clause-err
returns-in_err-events-clause-err g c =
    let told = g.F.Files.entries c.args.files.now in
    let before = g.F.Files.readings c.args.files.now in
    let mid = g.F.Files.readings c.read_session.new.files in
    let now = g.F.Files.readings c.read_events.new.files in
    let fb = g.F.Files.faults c.args.files.now in
    let fm = g.F.Files.faults c.read_session.new.files in
    let fn = g.F.Files.faults c.read_events.new.files in
    let plan = plan_view c.in_ok-session.session in
    let name = c.args.names.events.now in
    let devices : Known = devices_of plan in
    let refusal = c.in_err-events.field-0.0 in
    let p = err_from_is_err_and c.from_residual-in_err-events.result c.from_residual-in_err-events.ensures.1 in
    let why : RefusesFile told mid now name (events_file devices) fm fn refusal =
    subst (λ (ds : Known). RefusesFile told mid now name (events_file ds) fm fn refusal) (ap known c.deref.ensures.value ∙ c.in_ok-devices.ensures)
    (subst (λ (o : Option (List Entry)). RefusesFile o mid now name (events_file (known c.deref.result.now)) fm fn refusal) c.in_ok-session.ensures.files.entries
    c.in_err-events.ensures.err) in
    rw (p.1, p.2)
    (then_by told before mid now c.args.names.session.now session_file ((name, recording_limit) ∷ (c.args.order.now, order_limit) ∷ []) plan (CheckAnswers name c.args.order.now) fb fm fn refusal c.in_ok-session.ensures.files.later c.in_ok-session.ensures.ok
    (file_by told mid now name (events_file devices) ((c.args.order.now, order_limit) ∷ []) (OrderedBy c.args.order.now plan) fm fn refusal why))

pub read_order-requires : goal.read_order-requires
read_order-requires g c =
    let plan : PlanData = plan_view c.in_ok-session.session in
    let told = g.F.Files.entries c.args.files.now in
    let name : List ℕ = c.args.names.events.now in
    let events : List RawEvent = c.in_ok-events.events.items in
    let second : IsJudged told name (events_judged (devices_of plan)) (Ok events) =
    subst (λ (ds : Known). IsJudged told name (events_judged ds) (Ok events)) (ap known c.deref.ensures.value ∙ c.in_ok-devices.ensures)
    (subst (λ (o : Option (List Entry)). IsJudged o name (events_judged (known c.deref.result.now)) (Ok events)) c.in_ok-session.ensures.files.entries
    c.in_ok-events.ensures.told) in
    record {
      files = record {
        free = c.in_ok-events.ensures.files.free;
        lends = subst (λ (lends : List ℕ → Bool). IsTrue (lends c.args.order.now)) (sym (c.in_ok-events.ensures.files.names ∙ c.in_ok-session.ensures.files.names))
            (c.requires.order (plan, c.in_ok-session.ensures.told, (events, second)));
      };
    }

pub returns-in_err-order-clause-err : goal.returns-in_err-order-clause-err
returns-in_err-order-clause-err g c =
    let told = g.F.Files.entries c.args.files.now in
    let before = g.F.Files.readings c.args.files.now in
    let mid = g.F.Files.readings c.read_session.new.files in
    let more = g.F.Files.readings c.read_events.new.files in
    let now = g.F.Files.readings c.read_order.new.files in
    let fb = g.F.Files.faults c.args.files.now in
    let fm = g.F.Files.faults c.read_session.new.files in
    let fe = g.F.Files.faults c.read_events.new.files in
    let fn = g.F.Files.faults c.read_order.new.files in
    let plan = plan_view c.in_ok-session.session in
    let session = c.args.names.session.now in
    let name = c.args.names.events.now in
    let last = c.args.order.now in
    let files = (name, recording_limit) ∷ (last, order_limit) ∷ [] in
    let devices = devices_of plan in
    let events : List RawEvent = c.in_ok-events.events.items in
    let two : IsRead told mid more name (events_file devices) (Ok events) =
    (subst (λ (ds : Known). IsRead told mid more name (events_file ds) (Ok c.in_ok-events.events.items)) (ap known c.deref.ensures.value ∙ c.in_ok-devices.ensures)
    (subst (λ (o : Option (List Entry)). IsRead o mid more name (events_file (known c.deref.result.now)) (Ok c.in_ok-events.events.items)) c.in_ok-session.ensures.files.entries
    c.in_ok-events.ensures.ok)) in
    let refusal = c.in_err-order.field-0.0 in
    let why : RefusesFile told more now last order_file fe fn refusal =
    subst (λ (o : Option (List Entry)). RefusesFile o more now last order_file fe fn refusal) (c.in_ok-events.ensures.files.entries ∙ c.in_ok-session.ensures.files.entries) c.in_err-order.ensures.err in
    let p = err_from_is_err_and c.from_residual-in_err-order.result c.from_residual-in_err-order.ensures.1 in
    rw (p.1, p.2)
    (then_by told before mid now session session_file files plan (CheckAnswers name last) fb fm fn refusal c.in_ok-session.ensures.files.later c.in_ok-session.ensures.ok
    (then_by told mid more now name (events_file devices) ((last, order_limit) ∷ []) events (OrderedBy last plan) fm fe fn refusal c.in_ok-events.ensures.files.later two
    (file_by told more now last order_file [] (λ rest lines. Ends (OrderAnswers plan events lines) rest) fe fn refusal why)))

pub returns-clause-ok : goal.returns-clause-ok
returns-clause-ok g c =
    let told = g.F.Files.entries c.args.files.now in
    let before = g.F.Files.readings c.args.files.now in
    let mid = g.F.Files.readings c.read_session.new.files in
    let more = g.F.Files.readings c.read_events.new.files in
    let now = g.F.Files.readings c.read_order.new.files in
    let fb = g.F.Files.faults c.args.files.now in
    let fm = g.F.Files.faults c.read_session.new.files in
    let fe = g.F.Files.faults c.read_events.new.files in
    let fn = g.F.Files.faults c.read_order.new.files in
    let plan = plan_view c.in_ok-session.session in
    let session = c.args.names.session.now in
    let name = c.args.names.events.now in
    let last = c.args.order.now in
    let files = (name, recording_limit) ∷ (last, order_limit) ∷ [] in
    let devices = devices_of plan in
    let events : List RawEvent = c.deref-2.result.now in
    let lines = c.in_ok-order.order in
    let two : IsRead told mid more name (events_file devices) (Ok events) =
    subst (λ (es : List RawEvent). IsRead told mid more name (events_file devices) (Ok es)) (sym c.deref-2.ensures.value)
    (subst (λ (ds : Known). IsRead told mid more name (events_file ds) (Ok c.in_ok-events.events.items)) (ap known c.deref.ensures.value ∙ c.in_ok-devices.ensures)
    (subst (λ (o : Option (List Entry)). IsRead o mid more name (events_file (known c.deref.result.now)) (Ok c.in_ok-events.events.items)) c.in_ok-session.ensures.files.entries
    c.in_ok-events.ensures.ok)) in
    let three : IsRead told more now last order_file (Ok lines) =
    subst (λ (o : Option (List Entry)). IsRead o more now last order_file (Ok lines)) (c.in_ok-events.ensures.files.entries ∙ c.in_ok-session.ensures.files.entries) c.in_ok-order.ensures.ok in
    if_ok_map c.order_text.result _ _
    (λ text h. file_goes told before mid now session session_file files plan (CheckAnswers name last) (Ok text) c.in_ok-session.ensures.ok
    (file_goes told mid more now name (events_file devices) ((last, order_limit) ∷ []) events (OrderedBy last plan) (Ok text) two
    (last_file told more now last order_file lines (OrderAnswers plan events) (Ok text) three h)))
    c.order_text.ensures.ok

pub returns-clause-err : goal.returns-clause-err
returns-clause-err g c =
    let told = g.F.Files.entries c.args.files.now in
    let before = g.F.Files.readings c.args.files.now in
    let mid = g.F.Files.readings c.read_session.new.files in
    let more = g.F.Files.readings c.read_events.new.files in
    let now = g.F.Files.readings c.read_order.new.files in
    let fb = g.F.Files.faults c.args.files.now in
    let fm = g.F.Files.faults c.read_session.new.files in
    let fe = g.F.Files.faults c.read_events.new.files in
    let fn = g.F.Files.faults c.read_order.new.files in
    let plan = plan_view c.in_ok-session.session in
    let session = c.args.names.session.now in
    let name = c.args.names.events.now in
    let last = c.args.order.now in
    let files = (name, recording_limit) ∷ (last, order_limit) ∷ [] in
    let devices = devices_of plan in
    let events : List RawEvent = c.deref-2.result.now in
    let lines = c.in_ok-order.order in
    let two : IsRead told mid more name (events_file devices) (Ok events) =
    subst (λ (es : List RawEvent). IsRead told mid more name (events_file devices) (Ok es)) (sym c.deref-2.ensures.value)
    (subst (λ (ds : Known). IsRead told mid more name (events_file ds) (Ok c.in_ok-events.events.items)) (ap known c.deref.ensures.value ∙ c.in_ok-devices.ensures)
    (subst (λ (o : Option (List Entry)). IsRead o mid more name (events_file (known c.deref.result.now)) (Ok c.in_ok-events.events.items)) c.in_ok-session.ensures.files.entries
    c.in_ok-events.ensures.ok)) in
    let three : IsRead told more now last order_file (Ok lines) =
    subst (λ (o : Option (List Entry)). IsRead o more now last order_file (Ok lines)) (c.in_ok-events.ensures.files.entries ∙ c.in_ok-session.ensures.files.entries) c.in_ok-order.ensures.ok in
    if_err_map c.order_text.result _ _
    (λ r h. then_by told before mid now session session_file files plan (CheckAnswers name last) fb fm fn r c.in_ok-session.ensures.files.later c.in_ok-session.ensures.ok
    (then_by told mid more now name (events_file devices) ((last, order_limit) ∷ []) events (OrderedBy last plan) fm fe fn r c.in_ok-events.ensures.files.later two
    (last_by told more now last order_file lines (OrderAnswers plan events) fe fn r three h)))
    c.order_text.ensures.err
