-- What was accepted, what waits and what was dispatched.
use Rattle.std.proofs.Common.{◌≡◌, ◌==◌, ℕ, zero, suc, ◌≤◌, Bool, true, false, cond, is_some, List, [], ◌∷◌, ◌++◌, length, reverse, drop, max, Option, Some, None, refl, sym, ap, ◌∙◌, subst, option_and_then, unwrap_or, inl, inr, arith, append_assoc, length-drop}
use Rattle.std.proofs.lemmas.Bool.{cases_cond, true≢false, eqb-true}
use Rattle.std.proofs.lemmas.List.{reverse-append, length-reverse, drop-append-le}
use Rattle.input_types.specs.declared.message.Args.{Args}
use Rattle.input_types.specs.DeviceRule.{DeviceState, after_args, device_of, device_state, nothing_down}
use Rattle.dispatch_calls.specs.declared.call.Call.TheVariants.{Open, Windows, FocusOn, Notify, Pump, Tick, Receive, Finish, Pilfer, Remove}
use Rattle.dispatch_calls.specs.declared.reply.Reply.{Reply}
use Rattle.dispatch_calls.specs.declared.reply.Reply.TheVariants.{Taken, Inconsistent, Repeated, Idle}
use Rattle.dispatch_history.specs.History.{History, clock}
use Rattle.dispatch_history.specs.Queue.{accepted, accepted_after, dispatches, dispatches_after, inbound, args_of, down_on}
use Rattle.dispatch_history.specs.Effect.{past_of, dispatched, with_args}
use Rattle.dispatch_history.specs.Effects.{effects}
use Rattle.dispatch_history.specs.KeySent.{repeat_due}
use Rattle.dispatch_history.specs.Legal.{Legal}
use Rattle.dispatch_history.specs.Reply.{pump_reply, is_due, id_bits, is_down}
use Rattle.dispatch_history.specs.Laws.{QueueLaw, DeviceLaw}
use Rattle.dispatch_history.proofs.LegalLaws.{effects_law}

-- a queue of accepted args, of which the first n, this list, were dispatched
record Stands (acc : List Args) (n : ℕ) (out : List Args) : Type 0 where
  few : n ≤ length acc
  splits : acc ≡ reverse (drop n (reverse acc)) ++ out

reverse_cons : (a : Args) (xs : List Args) → reverse (a ∷ xs) ≡ reverse xs ++ a ∷ []
reverse_cons a xs = reverse-append (a ∷ []) xs

-- args are put behind the queue
put : (a : Args) (acc : List Args) (n : ℕ) (out : List Args) → Stands acc n out → Stands (a ∷ acc) n out
put a acc n out s =
    let le : n ≤ length (reverse acc) = subst (λ k. n ≤ k) (sym (length-reverse acc)) s.few in
    let e : reverse (drop n (reverse (a ∷ acc))) ≡ a ∷ reverse (drop n (reverse acc)) =
    ap (λ xs. reverse (drop n xs)) (reverse_cons a acc)
    ∙ ap reverse (drop-append-le n (reverse acc) (a ∷ []) le)
    ∙ reverse-append (drop n (reverse acc)) (a ∷ []) in
    record { few = omega (arith, s.few); splits = ap (λ xs. a ∷ xs) s.splits ∙ ap (λ xs. xs ++ out) (sym e) }

drop_next : (n : ℕ) (xs : List Args) (w : Args) (ws : List Args) → drop n xs ≡ w ∷ ws → drop (suc n) xs ≡ ws
drop_next zero [] w ws e = absurd (cc e)
drop_next zero (x ∷ xs) w ws e = cc
drop_next (suc n) [] w ws e = absurd (cc e)
drop_next (suc n) (x ∷ xs) w ws e = drop_next n xs w ws e

-- the first args of the queue are taken out
taken_out : (acc : List Args) (n : ℕ) (out : List Args) (w : Args) (ws : List Args) → Stands acc n out → drop n (reverse acc) ≡ w ∷ ws → Stands acc (suc n) (w ∷ out)
taken_out acc n out w ws s e =
    record {
      few = omega (arith, s.few, length-drop n (reverse acc), length-reverse acc, ap length e);
      splits =
          s.splits
          ∙ ap (λ xs. reverse xs ++ out) e
          ∙ ap (λ xs. xs ++ out) (reverse_cons w ws)
          ∙ append_assoc (reverse ws) (w ∷ []) out
          ∙ ap (λ xs. reverse xs ++ w ∷ out) (sym (drop_next n (reverse acc) w ws e));
    }

-- a pump, by what waits
pumped : (acc : List Args) (n now clock : ℕ) (due : Option ℕ) (out : List Args) (answer : Reply) (ws : List Args) → Stands acc n out → drop n (reverse acc) ≡ ws
    → answer ≡ pump_reply ws due clock → Stands acc (dispatches_after (Pump now) answer n) (with_args (args_of (Pump now) answer ws) out)
pumped acc n now clock due out answer [] s e r =
    elim (cases_cond (is_due due clock) Repeated Idle answer r) [ inl x ↦ rw x s | inr x ↦ rw x s ]
pumped acc n now clock due out answer (w ∷ ws) s e r = rw r (taken_out acc n out w ws s e)

-- a notify, by whether it is accepted
notified : (acc : List Args) (n now : ℕ) (c : Bool) (x : ℕ) (y : Bool) (out : List Args) (a : Args) (answer : Reply) → Stands acc n out
    → answer ≡ cond c Taken (Inconsistent x y) → Stands (accepted_after (Notify now a) answer acc) n out
notified acc n now true x y out a answer s r = rw r (put a acc n out s)
notified acc n now false x y out a answer s r = rw r s

stands : (ds : List ℕ) (h : History) → Legal ds h → Stands (accepted h) (dispatches h) (dispatched (effects ds h))
stands ds [] l = record { few = omega arith; splits = refl }
stands ds ((Pump now, answer) ∷ h) l =
    pumped (accepted h) (dispatches h) now (max now (clock (past_of (effects ds h)))) (repeat_due (effects ds h)) (dispatched (effects ds h)) answer
    (inbound (past_of (effects ds h))) (stands ds h l.1) (ap inbound (sym (effects_law ds h))) l.0
stands ds ((Notify now a, answer) ∷ h) l =
    let state = down_on (past_of (effects ds h)) (device_of a) in
    notified (accepted h) (dispatches h) now (is_some (after_args state a)) (id_bits state.ids) (is_down state a) (dispatched (effects ds h)) a answer
    (stands ds h l.1) l.0
stands ds ((Open terms, answer) ∷ h) l = stands ds h l.1
stands ds ((Windows now shown, answer) ∷ h) l = stands ds h l.1
stands ds ((FocusOn now y channel keys, answer) ∷ h) l = stands ds h l.1
stands ds ((Tick now, answer) ∷ h) l = stands ds h l.1
stands ds ((Receive channel, answer) ∷ h) l = stands ds h l.1
stands ds ((Finish now channel seq, answer) ∷ h) l = stands ds h l.1
stands ds ((Pilfer now channel device, answer) ∷ h) l = stands ds h l.1
stands ds ((Remove now channel, answer) ∷ h) l = stands ds h l.1

pub queue_law : QueueLaw
queue_law ds h l = (stands ds h l).splits

-- args that keep the rule of a device kept it before the last one too
pub older_kept : (d : ℕ) (xs ys : List Args) → is_some (device_state d (xs ++ ys)) ≡ true → is_some (device_state d ys) ≡ true
older_kept d [] ys e = e
older_kept d (x ∷ xs) ys e = older_kept d xs ys (some_before (device_of x == d) (device_state d (xs ++ ys)) x e)
  where
    some_before : (c : Bool) (o : Option DeviceState) (x : Args) → is_some (cond c (option_and_then (λ s. after_args s x) o) o) ≡ true → is_some o ≡ true
    some_before true None x e = e
    some_before true (Some s) x e = refl
    some_before false o x e = e

-- args that are accepted keep the rule of their device, and do not change another one
taken_keep : (d : ℕ) (acc : List Args) (a : Args) → ((e : ℕ) → is_some (device_state e acc) ≡ true)
    → is_some (after_args (unwrap_or (device_state (device_of a) acc) nothing_down) a) ≡ true → is_some (device_state d (a ∷ acc)) ≡ true
taken_keep d acc a all k = by_device (device_of a == d) refl
  where
    kept : (o : Option DeviceState) → is_some o ≡ true → is_some (after_args (unwrap_or o nothing_down) a) ≡ true → is_some (option_and_then (λ s. after_args s a) o) ≡ true
    kept None e k = absurd (true≢false (sym e))
    kept (Some s) e k = k

    by_device : (c : Bool) → (device_of a == d) ≡ c → is_some (cond c (option_and_then (λ s. after_args s a) (device_state d acc)) (device_state d acc)) ≡ true
    by_device true e = let P : ℕ → Type 0 = λ x. is_some (option_and_then (λ s. after_args s a) (device_state x acc)) ≡ true in subst P (eqb-true (device_of a) d e) (kept (device_state (device_of a) acc) (all (device_of a)) k)
    by_device false e = all d

accepted_keep : (c : Bool) (x : ℕ) (y : Bool) (now : ℕ) (a : Args) (answer : Reply) (acc : List Args) → answer ≡ cond c Taken (Inconsistent x y)
    → ((e : ℕ) → is_some (device_state e acc) ≡ true) → (c ≡ true → (e : ℕ) → is_some (device_state e (a ∷ acc)) ≡ true)
    → (e : ℕ) → is_some (device_state e (accepted_after (Notify now a) answer acc)) ≡ true
accepted_keep true x y now a answer acc r old new e = rw r (new refl e)
accepted_keep false x y now a answer acc r old new e = rw r (old e)

pub keeps : (ds : List ℕ) (h : History) → Legal ds h → (d : ℕ) → is_some (device_state d (accepted h)) ≡ true
keeps ds [] l d = refl
keeps ds ((Notify now a, answer) ∷ h) l d =
    let state = down_on (past_of (effects ds h)) (device_of a) in
    accepted_keep (is_some (after_args state a)) (id_bits state.ids) (is_down state a) now a answer (accepted h) l.0 (λ e. keeps ds h l.1 e)
    (λ c e.
    taken_keep e (accepted h) a (λ x. keeps ds h l.1 x)
    (subst (λ past. is_some (after_args (down_on past (device_of a)) a) ≡ true) (effects_law ds h) c))
    d
keeps ds ((Pump now, answer) ∷ h) l d = keeps ds h l.1 d
keeps ds ((Open terms, answer) ∷ h) l d = keeps ds h l.1 d
keeps ds ((Windows now shown, answer) ∷ h) l d = keeps ds h l.1 d
keeps ds ((FocusOn now y channel keys, answer) ∷ h) l d = keeps ds h l.1 d
keeps ds ((Tick now, answer) ∷ h) l d = keeps ds h l.1 d
keeps ds ((Receive channel, answer) ∷ h) l d = keeps ds h l.1 d
keeps ds ((Finish now channel seq, answer) ∷ h) l d = keeps ds h l.1 d
keeps ds ((Pilfer now channel device, answer) ∷ h) l d = keeps ds h l.1 d
keeps ds ((Remove now channel, answer) ∷ h) l d = keeps ds h l.1 d

pub device_law : DeviceLaw
device_law ds h d l = (
  keeps ds h l d,
  older_kept d (reverse (inbound h)) (dispatched (effects ds h)) (subst (λ xs. is_some (device_state d xs) ≡ true) (queue_law ds h l) (keeps ds h l d)),
)
