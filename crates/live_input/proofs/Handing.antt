-- What must still be handed in, one after another.
use Rattle.std.proofs.lemmas.Bool.{true≢false, eqb-true, ne_eqb}
use Rattle.dispatcher.specs.Access.{any_waits}
use Rattle.std.proofs.Common.{◌≡◌, ℕ, ℤ, ◌==◌, not, drop, remove, length, slice_get, Some, None, ◌&&◌, Bool, true, false, List, [], ◌∷◌, ◌++◌, Result, Ok, Err, ◌||◌, refl, sym, ap, ap₂, ◌∙◌, subst, arith}
use Rattle.input_types.specs.declared.message.Args.{Args}
use Rattle.raw_events.specs.declared.event.RawEvent.{RawEvent}
use Rattle.device_reader.specs.Reading.{Reading}
use Rattle.std.specs.Prelude.{Option}
use Rattle.dispatch_calls.specs.declared.call.Call.TheVariants.{Notify}
use Rattle.dispatch_history.specs.Effect.{Effect}
use Rattle.dispatch_history.specs.Legal.{answered}
use Rattle.dispatch_history.specs.Reply.{reply_to}
use Rattle.live_input.specs.declared.refused.ArgsRefused.{ArgsRefused}
use Rattle.live_input.specs.declared.refused.ArgsRefused.TheVariants.{NoDevice, Inconsistent, Memory, Waits}
use Rattle.live_input.specs.declared.refused.FinishRefused.{FinishRefused}
use Rattle.live_input.specs.declared.refused.FinishRefused.TheVariants.{UnknownSeq}
use Rattle.window_snapshot.specs.Mask.{mask_has}
use Rattle.live_input.specs.Advancing.{Advances, Advanced}
use Rattle.dispatch_calls.specs.declared.call.Call.{Call}
use Rattle.dispatch_history.specs.History.{moment_of}
use Rattle.live_input.specs.Answers.{Finishes, Makes, is_done, is_taken}
use Rattle.live_input.specs.declared.client.Client.{Client}
use Rattle.live_input.specs.Closing.{forgotten, hidden}
use Rattle.live_input.specs.Opening.{Closes}
use Rattle.live_input.specs.Settling.{Settles, is_reported_in, next_left}
use Rattle.live_input.specs.Giving.{HandedInPart, Delivers, Gives, all_taken, notified}
use Rattle.live_input.specs.Standing.{LiveIs}
use Rattle.live_input.specs.State.{LiveState}

-- the first of a list, and the others
pub got_first : (xs : List Args) (a : Args) → slice_get xs 0 ≡ Some a → xs ≡ a ∷ drop 1 xs
got_first [] a e = absurd cc
got_first (x ∷ xs) a e = let same : x ≡ a = cc in ap (λ y. y ∷ xs) same

pub got_none : (xs : List Args) → slice_get xs 0 ≡ None → xs ≡ []
got_none [] e = refl
got_none (x ∷ xs) e = absurd cc

pub drop_none : (xs : List Args) → (length xs == 0) ≡ true → xs ≡ drop 1 xs
drop_none [] e = refl
drop_none (x ∷ xs) e = let z = eqb-true (length (x ∷ xs)) 0 e in absurd (omega (arith, z))

pub remove_first : (xs : List Args) → (length xs == 0) ≡ false → remove xs 0 ≡ drop 1 xs
remove_first [] e = absurd (true≢false e)
remove_first (x ∷ xs) e = refl

-- some args wait if the list is not empty
pub some_wait : (xs : List Args) → not (length xs == 0) ≡ any_waits xs
some_wait [] = refl
some_wait (x ∷ xs) = ap not (ne_eqb (length (x ∷ xs)) 0 (λ e. absurd (omega (arith, e))))

-- an event with another value that is the same
abbrev pub event_at : (device moment kind code : ℕ) → ℤ → RawEvent
event_at d m k c v = record { device = d; moment = m; kind = k; code = c; value = v }

pub same_value : (device moment kind code : ℕ) (v w : ℤ) → v ≡ w → event_at device moment kind code v ≡ event_at device moment kind code w
same_value d m k c v w e = ap (event_at d m k c) e

-- what is kept of devices is separate from the history, and so is the clock
pub beside_goes : (ds : List ℕ) (es : List Effect) (s : LiveState) → LiveIs ds es s → (devices : List (Option Reading)) (pending : List Args)
    → (clock : ℕ) → LiveIs ds es (record s { clock = clock; devices = devices; pending = pending })
beside_goes ds es s h devices pending clock =
    record {
      stands = h.stands;
      displays_are = h.displays_are;
      windows_are = h.windows_are;
      requests_are = h.requests_are;
      seats_are = h.seats_are;
      tenants_are = h.tenants_are;
      reported_are = h.reported_are;
      release = h.release;
      steps_are = h.steps_are;
    }

-- some of what had to be handed in is, and all of it was accepted or not; handing in the rest has the same result as
-- handing in all
pub record HandsIn (ds : List ℕ) (now : ℕ) (es : List Effect) (args : List Args) (s : LiveState) (fits : Bool) : Type 0 where
  pub so_far : List Effect
  pub is : LiveIs ds so_far s
  pub rest : notified ds now so_far s.pending ≡ notified ds now es args
  pub taken : (fits && all_taken ds now so_far s.pending) ≡ all_taken ds now es args

pub hands_first : (ds : List ℕ) (now : ℕ) (es : List Effect) (s : LiveState) → LiveIs ds es s → HandsIn ds now es s.pending s true
hands_first ds now es s h = record { so_far = es; is = h; rest = refl; taken = refl }

-- the next one is handed in
pub hands_more : (ds : List ℕ) (now : ℕ) (es : List Effect) (args : List Args) (s t : LiveState) (fits took : Bool) (a : Args) (left : List Args)
    → (x : HandsIn ds now es args s fits) → s.pending ≡ a ∷ left → t.pending ≡ left
    → LiveIs ds (answered ds (Notify now a) x.so_far) t → took ≡ is_taken (reply_to x.so_far (Notify now a))
    → HandsIn ds now es args t (fits && took)
hands_more ds now es args s t fits took a left x was is h e =
    record {
      so_far = answered ds (Notify now a) x.so_far;
      is = h;
      rest = ap (notified ds now (answered ds (Notify now a) x.so_far)) is ∙ sym (ap (notified ds now x.so_far) was) ∙ x.rest;
      taken =
          ap (λ xs. (fits && took) && all_taken ds now (answered ds (Notify now a) x.so_far) xs) is
          ∙ ap (λ b. (fits && b) && all_taken ds now (answered ds (Notify now a) x.so_far) left) e
          ∙ and_more fits (is_taken (reply_to x.so_far (Notify now a))) (all_taken ds now (answered ds (Notify now a) x.so_far) left)
          ∙ sym (ap (λ xs. fits && all_taken ds now x.so_far xs) was)
          ∙ x.taken;
    }
  where
    and_more : (a b c : Bool) → ((a && b) && c) ≡ (a && (b && c))
    and_more true b c = refl
    and_more false b c = refl

and_true : (b : Bool) → (b && true) ≡ b
and_true true = refl
and_true false = refl

-- nothing remains
pub hands_all : (ds : List ℕ) (now : ℕ) (es : List Effect) (args : List Args) (s : LiveState) (fits : Bool)
    → HandsIn ds now es args s fits → s.pending ≡ [] → LiveIs ds (notified ds now es args) s × (fits ≡ all_taken ds now es args)
hands_all ds now es args s fits x none = (
  subst (λ fs. LiveIs ds fs s) (sym (ap (notified ds now x.so_far) none) ∙ x.rest) x.is,
  sym (and_true fits) ∙ sym (ap (λ xs. fits && all_taken ds now x.so_far xs) none) ∙ x.taken,
)

pub hands_part : (ds : List ℕ) (now : ℕ) (es : List Effect) (args : List Args) (s : LiveState) (fits : Bool)
    → HandsIn ds now es args s fits → HandedInPart ds now es args s
hands_part ds now es args s fits x = record { so_far = x.so_far; is = x.is; rest = x.rest }

-- what is delivered after what still had to be handed in
pub delivers_in : (ds : List ℕ) (now : ℕ) (es : List Effect) (args all : List Args) (X : Type 0) (r : Result (Unit {0}) ArgsRefused) (old new : LiveState)
    → all ≡ old.pending ++ args → X → new.clock ≡ now → Delivers ds now es all r new → Gives ds now es args X r old new
delivers_in ds now es args all X (Ok done) old new e x k d = (x, k, subst (λ xs. Delivers ds now es xs (Ok done) new) e d)
delivers_in ds now es args all X (Err Inconsistent) old new e x k d = (x, k, subst (λ xs. Delivers ds now es xs (Err Inconsistent) new) e d)
delivers_in ds now es args all X (Err Waits) old new e x k d = (x, k, subst (λ xs. Delivers ds now es xs (Err Waits) new) e d)
delivers_in ds now es args all X (Err NoDevice) old new e x k d = (x, k, d)
delivers_in ds now es args all X (Err Memory) old new e x k d = absurd d

pub beside_same : (s : LiveState) (devices : List (Option Reading)) (pending : List Args) → devices ≡ s.devices → pending ≡ s.pending
    → (record s { devices = devices; pending = pending }) ≡ s
beside_same s devices pending d p = ap₂ (λ x y. record s { devices = x; pending = y }) d p

-- nothing is there, and something is given
pub not_there : (b : Bool) → true ≡ b → b ≡ false → ⊥
not_there true e f = absurd (true≢false f)
not_there false e f = absurd (true≢false e)

-- what is due, from a state in which the same channels were reported
pub advances_from : (ds : List ℕ) (now : ℕ) (es : List Effect) (s t new : LiveState) → s.reported ≡ t.reported → Advances ds now es s new → Advances ds now es t new
advances_from ds now es s t new e a =
    record {
      calls = a.calls;
      follows = a.follows;
      is = a.is;
      reported_are = λ c. a.reported_are c ∙ ap (λ n. mask_has n c || is_reported_in ds es a.calls c) e;
    }

pub advanced_from : (ds : List ℕ) (now : ℕ) (es : List Effect) (mask : ℕ) (s t new : LiveState) → s.reported ≡ t.reported
    → Advanced ds now es mask s new → Advanced ds now es mask t new
advanced_from ds now es mask s t new e a =
    record {
      calls = a.calls;
      follows = a.follows;
      done = a.done;
      is = a.is;
      reported_are = λ c. a.reported_are c ∙ ap (λ n. mask_has n c || is_reported_in ds es a.calls c) e;
      outgoing = a.outgoing;
    }

-- the clock is raised, and with it a call is made
pub live_later : (ds : List ℕ) (es : List Effect) (s : LiveState) (n : ℕ) → LiveIs ds es s → LiveIs ds es (record s { clock = n })
live_later ds es s n h = beside_goes ds es s h s.devices s.pending n

pub made : (ds : List ℕ) (es : List Effect) (s : LiveState) (n : ℕ) (call other : Call) → call ≡ other → n ≡ moment_of other
    → LiveIs ds (answered ds call es) s → Makes ds es other (record s { clock = n })
made ds es s n call other e m h = (live_later ds (answered ds other es) s n (subst (λ k. LiveIs ds (answered ds k es) s) e h), m)

-- a finish was made, of a message that could be finished, or not
pub finishes_ok : (ds : List ℕ) (es : List Effect) (call : Call) (r : Result (Unit {0}) FinishRefused) (old new : LiveState) → r ≡ Ok tt
    → is_done (reply_to es call) ≡ true → Makes ds es call new → Finishes ds es call r old new
finishes_ok ds es call r old new e done goes = subst (λ x. Finishes ds es call x old new) (sym e) ((done, goes))

pub finishes_not : (ds : List ℕ) (es : List Effect) (call : Call) (r : Result (Unit {0}) FinishRefused) (old new : LiveState) → r ≡ Err UnknownSeq
    → is_done (reply_to es call) ≡ false → Makes ds es call new → Finishes ds es call r old new
finishes_not ds es call r old new e done goes = subst (λ x. Finishes ds es call x old new) (sym e) ((done, goes))

-- a client is closed at the clock, whichever way that is said
pub closed_at : (ds : List ℕ) (es : List Effect) (k : Client) (old new : LiveState) (n m : ℕ) → n ≡ m → Closes k old new → new.clock ≡ m
    → Settles ds (next_left n k.channel) (forgotten ds n k.channel (hidden ds n k.channel es)) new
    → Closes k old new × (new.clock ≡ m) × Settles ds (next_left m k.channel) (forgotten ds m k.channel (hidden ds m k.channel es)) new
closed_at ds es k old new n m e closes clock settles =
    (closes, clock, subst (λ t. Settles ds (next_left t k.channel) (forgotten ds t k.channel (hidden ds t k.channel es)) new) e settles)

-- what fits is not refused
pub not_refused : (ds : List ℕ) (now : ℕ) (es : List Effect) (all args : List Args) (r : Result (Unit {0}) ArgsRefused) (new : LiveState)
    → all ≡ args → all_taken ds now es args ≡ true → r ≡ Err Inconsistent → Delivers ds now es all r new → ⊥
not_refused ds now es all args r new e fits refused d =
    let no : all_taken ds now es all ≡ false = (subst (λ x. Delivers ds now es all x new) refused d).0 in
    true≢false (sym fits ∙ ap (all_taken ds now es) (sym e) ∙ no)
