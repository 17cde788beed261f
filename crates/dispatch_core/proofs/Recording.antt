-- A dispatcher with its history, and what follows from the history.
use Rattle.std.proofs.Common.{◌≡◌, ℕ, Bool, true, false, if◌then◌else◌, suc, ◌+◌, ◌-◌, ◌^◌, ◌<◌, ◌≤◌, max, List, [], ◌∷◌, ◌++◌, length, reverse, arith, refl, sym, subst, ap, ◌∙◌}
use Rattle.std.proofs.lemmas.List.{length-reverse, reverse-append}
use Rattle.input_types.specs.StreamRule.{stream_state}
use Rattle.dispatch_calls.specs.declared.call.Call.{Call}
use Rattle.dispatch_calls.specs.declared.call.Call.TheVariants.{Open, Windows, FocusOn, Notify, Pump, Tick, Receive, Finish, Pilfer, Remove}
use Rattle.dispatch_calls.specs.declared.call.Entry.{Entry}
use Rattle.dispatch_history.specs.Effect.{stream}
use Rattle.dispatch_history.specs.Effects.{effects, step}
use Rattle.dispatch_history.specs.History.{History, live}
use Rattle.dispatch_history.specs.Legal.{Legal, reply}
use Rattle.dispatch_history.specs.PointerOf.{AllRise}
use Rattle.dispatch_history.proofs.LegalLaws.{effects_law}
use Rattle.dispatch_history.proofs.WholeLaws.{whole_law, well_formed_law, removed_law, removed_state_law, gone_law}
use Rattle.dispatcher.specs.Access.{gone, anrs_released}
use Rattle.dispatcher.specs.Dispatching.{Dispatching, StandsFor}
use Rattle.dispatcher.specs.Memory.{MayCount}
use Rattle.dispatcher.proofs.Laws.Standing.{after_of}
use Rattle.dispatcher.specs.Queueing.{args_in, is_input}
use Rattle.dispatch_core.specs.Recorded.{history_of, pumps_left, IsRecorded, IsSound, AnswersGone, HasRoom}

-- the history is legal
pub legal_of : (entries : List Entry) (d : Dispatching) → IsRecorded entries d → Legal d.displays (history_of entries)
legal_of entries d r = subst (Legal d.displays) (effects_law d.displays (history_of entries)) r.stands.lawful.legal

-- the pointers of each motion in it have rising ids
pub rise_of : (entries : List Entry) (d : Dispatching) → IsRecorded entries d → AllRise (history_of entries)
rise_of entries d r = subst AllRise (effects_law d.displays (history_of entries)) r.stands.rise

-- a dispatcher that answered one more call stands for one more entry
pub recorded_more : (e : Entry) (entries : List Entry) (old new : Dispatching)
    → IsRecorded entries old
    → StandsFor (step old.displays e.call e.reply (effects old.displays (history_of entries))) new
    → new.displays ≡ old.displays
    → ((c : ℕ) → 1 ≤ c → gone new c ≡ gone old c)
    → anrs_released new ≡ anrs_released old
    → IsRecorded (e ∷ entries) new
recorded_more e entries old new r s same kept noted =
    let stands = subst (λ ds. StandsFor (effects ds (history_of (e ∷ entries))) new) (sym same) s in
    record {
      stands = stands;
      after = after_of (effects new.displays (history_of (e ∷ entries))) new stands;
      kept = λ c low. kept c low ∙ r.kept c low;
      noted = noted ∙ r.noted;
    }

-- the last reply is that of the entries before it
pub replied : (e : Entry) (entries : List Entry) (d : Dispatching) → IsRecorded (e ∷ entries) d
    → e.reply ≡ reply d.displays (history_of entries) e.call
replied e entries d r = (legal_of (e ∷ entries) d r).0

-- what is known about its history
pub sound_of : (entries : List Entry) (d : Dispatching) (n m : ℕ) → IsRecorded entries d
    → IsSound (record { displays = d.displays; entries = entries; spare = n; pumps = m })
sound_of entries d n m r =
    let legal : Legal d.displays (history_of entries) = legal_of entries d r in
    let rise : AllRise (history_of entries) = rise_of entries d r in
    record {
      legal = legal;
      well_formed = λ c. well_formed_law d.displays (history_of entries) c legal rise;
      whole = λ c l. whole_law d.displays (history_of entries) c legal rise l;
      removed =
          λ later before now c is.
          let so = subst (Legal d.displays) is legal in
          let kept = removed_law d.displays later before now c so in (
            ap (λ h. live h c) is ∙ kept.0,
            ap (λ h. stream (effects d.displays h) c) is ∙ kept.1,
            ap (λ h. stream_state (stream (effects d.displays h) c)) is
                ∙ removed_state_law d.displays later before now c so (subst AllRise is rise),
          );
    }

-- calls on a channel that is not live reply Gone
pub gone_of : (ds : List ℕ) (h : History) (call : Call) → AnswersGone h call (reply ds h call)
gone_of ds h (Open terms) = tt
gone_of ds h (Windows now snapshot) = tt
gone_of ds h (FocusOn now display channel keys) = tt
gone_of ds h (Notify now args) = tt
gone_of ds h (Pump now) = tt
gone_of ds h (Tick now) = tt
gone_of ds h (Receive c) = λ n. (gone_law ds h c n).0
gone_of ds h (Finish now c seq) = λ n. (gone_law ds h c n).1 now seq
gone_of ds h (Pilfer now c device) = λ n. (gone_law ds h c n).2 now device
gone_of ds h (Remove now c) = λ n. (gone_law ds h c n).3 now

-- an entry appended to the others is the newest one
pub recorded_behind : (e : Entry) (items later : List Entry) (d : Dispatching)
    → later ≡ items ++ e ∷ [] → IsRecorded (e ∷ reverse items) d → IsRecorded (reverse later) d
recorded_behind e items later d is r = subst (λ es. IsRecorded es d) (sym (ap reverse is ∙ reverse-append items (e ∷ []))) r

-- one more entry takes one of the reserved places, if there are any
pub room_after : (len capacity spare len' capacity' spare' : ℕ)
    → HasRoom len capacity (max 1 spare) → len' ≡ len + 1 → capacity' ≡ capacity → spare' ≡ spare - 1 → HasRoom len' capacity' spare'
room_after len capacity spare len' capacity' spare' r l c s =
    let room : len + max 1 spare ≤ capacity = r.room in
    let few : len + max 1 spare < 2 ^ 64 = r.few in
    record { room = omega arith; few = omega arith }

-- there are as many effects as entries
pub effects_length : (ds : List ℕ) (entries : List Entry) → length (effects ds (history_of entries)) ≡ length entries
effects_length ds [] = refl
effects_length ds (e ∷ entries) = ap suc (effects_length ds entries)

-- as long as there is room, the next step can be counted
pub may_count : (ds : List ℕ) (items : List Entry) (len capacity spare : ℕ)
    → length items ≡ len → HasRoom len capacity spare → 1 ≤ spare → MayCount (effects ds (history_of (reverse items)))
may_count ds items len capacity spare is r some =
    let count : length (effects ds (history_of (reverse items))) ≡ len = effects_length ds (reverse items) ∙ length-reverse items ∙ is in
    let few : len + spare < 2 ^ 64 = r.few in
    omega arith

-- a call hands in at most one args
pub one_in : (call : Call) → args_in call ≤ 1
one_in (Open terms) = omega arith
one_in (Windows now snapshot) = omega arith
one_in (FocusOn now display channel keys) = omega arith
one_in (Notify now args) = omega arith
one_in (Pump now) = omega arith
one_in (Tick now) = omega arith
one_in (Receive c) = omega arith
one_in (Finish now c seq) = omega arith
one_in (Pilfer now c device) = omega arith
one_in (Remove now c) = omega arith

-- how much room for pumps a call leaves, by whether it is a Notify or a Pump
left_fits : (b : Bool) (pumps old new : ℕ) → pumps ≤ old → (b ≡ true → old ≤ new + 1) → (if b then pumps - 1 else 0) ≤ new
left_fits true pumps old new fits one = let less : old ≤ new + 1 = one refl in omega (arith, fits, less)
left_fits false pumps old new fits one = omega arith

-- the dispatcher has room for the pumps that a call leaves room for
pub pumps_fit : (call : Call) (pumps left old new : ℕ) → pumps ≤ old → (is_input call ≡ true → old ≤ new + 1) → left ≡ pumps_left call pumps → left ≤ new
pumps_fit call pumps left old new fits one is = subst (λ n. n ≤ new) (sym is) (left_fits (is_input call) pumps old new fits one)
