-- The clock, the queue and what is down, after any step.
use Rattle.std.proofs.Common.{◌≡◌, ℕ, zero, suc, ◌≤◌, max, Bool, true, false, cond, is_some, List, [], ◌∷◌, ◌++◌, length, reverse, drop, Option, refl, sym, ap, ◌∙◌, subst, inl, inr, arith, length-drop}
use Rattle.std.proofs.lemmas.Bool.{cases_cond}
use Rattle.std.proofs.lemmas.List.{reverse-append, length-reverse, drop-append-le}
use Rattle.input_types.specs.declared.message.Args.{Args}
use Rattle.input_types.specs.DeviceRule.{after_args, device_of}
use Rattle.dispatcher.specs.InboundArgs.Kept.{DownSets}
use Rattle.dispatcher.specs.InboundArgs.Down.{DevicesStandFor}
use Rattle.dispatcher.proofs.InboundArgs.Accepting.{accepts}
use Rattle.dispatch_calls.specs.declared.call.Call.{Call}
use Rattle.dispatch_calls.specs.declared.call.Call.TheVariants.{Open, Windows, FocusOn, Notify, Pump, Tick, Receive, Finish, Pilfer, Remove}
use Rattle.dispatch_calls.specs.declared.reply.Reply.{Reply}
use Rattle.dispatch_calls.specs.declared.reply.Reply.TheVariants.{Taken, Inconsistent, Repeated, Idle}
use Rattle.dispatch_history.specs.History.{clock, moment_of}
use Rattle.dispatch_history.specs.Queue.{accepted, accepted_after, dispatches, dispatches_after, inbound, down_on}
use Rattle.dispatch_history.specs.Effect.{Effect, past_of}
use Rattle.dispatch_history.specs.KeySent.{repeat_due}
use Rattle.dispatch_history.specs.Reply.{reply_to, pump_reply, is_due, id_bits, is_down}
use Rattle.dispatcher.specs.DispatchTables.Lawful.{Lawful}
use Rattle.dispatcher.proofs.DispatchTables.Lawfuls.{lawful_last, lawful_always}
use Rattle.dispatcher.specs.Queue.{DownGoes, waiting_after}
use Rattle.dispatcher.specs.Laws.{QueueLaw}

-- ---- not more are dispatched than were accepted

abbrev few_after : (acc : List Args) (n : ℕ) (call : Call) (answer : Reply) → Type 0
few_after acc n call answer = dispatches_after call answer n ≤ length (accepted_after call answer acc)

few_notified : (acc : List Args) (n now : ℕ) (a : Args) (c : Bool) (x : ℕ) (y : Bool) (answer : Reply) → n ≤ length acc
    → answer ≡ cond c Taken (Inconsistent x y) → few_after acc n (Notify now a) answer
few_notified acc n now a true x y answer few r = rw r (omega (arith, few))
few_notified acc n now a false x y answer few r = rw r few

few_pumped : (acc : List Args) (n now clock : ℕ) (due : Option ℕ) (answer : Reply) (ws : List Args) → n ≤ length acc → drop n (reverse acc) ≡ ws
    → answer ≡ pump_reply ws due clock → few_after acc n (Pump now) answer
few_pumped acc n now clock due answer [] few e r =
    elim (cases_cond (is_due due clock) Repeated Idle answer r) [ inl x ↦ rw x few | inr x ↦ rw x few ]
few_pumped acc n now clock due answer (w ∷ ws) few e r = rw r (omega (arith, few, length-drop n (reverse acc), length-reverse acc, ap length e))

few_step : (es : List Effect) (call : Call) (answer : Reply) → answer ≡ reply_to es call → dispatches (past_of es) ≤ length (accepted (past_of es))
    → few_after (accepted (past_of es)) (dispatches (past_of es)) call answer
few_step es (Notify now a) answer r few =
    let s = down_on (past_of es) (device_of a) in
    few_notified (accepted (past_of es)) (dispatches (past_of es)) now a (is_some (after_args s a)) (id_bits s.ids) (is_down s a) answer few r
few_step es (Pump now) answer r few =
    few_pumped (accepted (past_of es)) (dispatches (past_of es)) now (max now (clock (past_of es))) (repeat_due es) answer (inbound (past_of es)) few refl r
few_step es (Open terms) answer r few = few
few_step es (Windows now shown) answer r few = few
few_step es (FocusOn now display channel keys) answer r few = few
few_step es (Tick now) answer r few = few
few_step es (Receive channel) answer r few = few
few_step es (Finish now channel seq) answer r few = few
few_step es (Pilfer now channel device) answer r few = few
few_step es (Remove now channel) answer r few = few

few_dispatched : (ds : List ℕ) (es : List Effect) → Lawful ds es → dispatches (past_of es) ≤ length (accepted (past_of es))
few_dispatched ds es l =
    lawful_always ds (λ es. dispatches (past_of es) ≤ length (accepted (past_of es))) (omega arith)
    (λ call answer es l few. few_step es call answer (lawful_last ds call answer es l).0 few) es l

-- ---- what waits

put_behind : (acc : List Args) (n : ℕ) (a : Args) → n ≤ length acc → drop n (reverse (a ∷ acc)) ≡ drop n (reverse acc) ++ a ∷ []
put_behind acc n a few =
    ap (drop n) (reverse-append (a ∷ []) acc) ∙ drop-append-le n (reverse acc) (a ∷ []) (subst (λ k. n ≤ k) (sym (length-reverse acc)) few)

first_taken : (n : ℕ) (xs : List Args) → drop (suc n) xs ≡ drop 1 (drop n xs)
first_taken zero xs = refl
first_taken (suc n) [] = refl
first_taken (suc n) (x ∷ xs) = first_taken n xs

abbrev waits_after : (acc : List Args) (n : ℕ) (call : Call) (answer : Reply) → Type 0
waits_after acc n call answer =
    drop (dispatches_after call answer n) (reverse (accepted_after call answer acc)) ≡ waiting_after call answer (drop n (reverse acc))

waits_notified : (acc : List Args) (n now : ℕ) (a : Args) (c : Bool) (x : ℕ) (y : Bool) (answer : Reply) → n ≤ length acc
    → answer ≡ cond c Taken (Inconsistent x y) → waits_after acc n (Notify now a) answer
waits_notified acc n now a true x y answer few r = rw r (put_behind acc n a few)
waits_notified acc n now a false x y answer few r = rw r refl

waits_pumped : (acc : List Args) (n now clock : ℕ) (due : Option ℕ) (answer : Reply) (ws : List Args)
    → answer ≡ pump_reply ws due clock → waits_after acc n (Pump now) answer
waits_pumped acc n now clock due answer [] r =
    elim (cases_cond (is_due due clock) Repeated Idle answer r) [ inl x ↦ rw x refl | inr x ↦ rw x refl ]
waits_pumped acc n now clock due answer (w ∷ ws) r = rw r (first_taken n (reverse acc))

waits_step : (es : List Effect) (call : Call) (answer : Reply) → answer ≡ reply_to es call → dispatches (past_of es) ≤ length (accepted (past_of es))
    → waits_after (accepted (past_of es)) (dispatches (past_of es)) call answer
waits_step es (Notify now a) answer r few =
    let s = down_on (past_of es) (device_of a) in
    waits_notified (accepted (past_of es)) (dispatches (past_of es)) now a (is_some (after_args s a)) (id_bits s.ids) (is_down s a) answer few r
waits_step es (Pump now) answer r few =
    waits_pumped (accepted (past_of es)) (dispatches (past_of es)) now (max now (clock (past_of es))) (repeat_due es) answer (inbound (past_of es)) r
waits_step es (Open terms) answer r few = refl
waits_step es (Windows now shown) answer r few = refl
waits_step es (FocusOn now display channel keys) answer r few = refl
waits_step es (Tick now) answer r few = refl
waits_step es (Receive channel) answer r few = refl
waits_step es (Finish now channel seq) answer r few = refl
waits_step es (Pilfer now channel device) answer r few = refl
waits_step es (Remove now channel) answer r few = refl

-- ---- what is down

down_notified : (acc : List Args) (old new : List DownSets) (now : ℕ) (a : Args) (c : Bool) (x : ℕ) (y : Bool) (answer : Reply) → DevicesStandFor acc old
    → answer ≡ cond c Taken (Inconsistent x y) → DownGoes (Notify now a) answer old new → DevicesStandFor (accepted_after (Notify now a) answer acc) new
down_notified acc old new now a true x y answer stands r goes =
    let by = rw r at goes in rw r (accepts acc a by.0 old new stands by.1 by.2)
down_notified acc old new now a false x y answer stands r goes =
    let same : new ≡ old = rw r at goes in rw (r, same) stands

down_step : (es : List Effect) (call : Call) (answer : Reply) (old new : List DownSets) → answer ≡ reply_to es call → DevicesStandFor (accepted (past_of es)) old
    → DownGoes call answer old new → DevicesStandFor (accepted_after call answer (accepted (past_of es))) new
down_step es (Notify now a) answer old new r stands goes =
    let s = down_on (past_of es) (device_of a) in
    down_notified (accepted (past_of es)) old new now a (is_some (after_args s a)) (id_bits s.ids) (is_down s a) answer stands r goes
down_step es (Pump now) answer old new r stands goes = rw goes stands
down_step es (Open terms) answer old new r stands goes = rw goes stands
down_step es (Windows now shown) answer old new r stands goes = rw goes stands
down_step es (FocusOn now display channel keys) answer old new r stands goes = rw goes stands
down_step es (Tick now) answer old new r stands goes = rw goes stands
down_step es (Receive channel) answer old new r stands goes = rw goes stands
down_step es (Finish now channel seq) answer old new r stands goes = rw goes stands
down_step es (Pilfer now channel device) answer old new r stands goes = rw goes stands
down_step es (Remove now channel) answer old new r stands goes = rw goes stands

pub queue_law : QueueLaw
queue_law ds call answer es k later l is goes =
    let last : (answer ≡ reply_to es call) × Lawful ds es = lawful_last ds call answer es l in
    record {
      clock_is = goes.clock_is ∙ ap (λ x. max (moment_of call) x) is.clock_is;
      place_is = goes.place_is ∙ ap suc is.place_is;
      waiting_is =
          goes.waiting_is
          ∙ ap (waiting_after call answer) is.waiting_is
          ∙ sym (waits_step es call answer last.0 (few_dispatched ds es last.1));
      down_is = down_step es call answer k.down later.down last.0 is.down_is goes.down_is;
    }
