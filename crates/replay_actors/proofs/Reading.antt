-- The order of a history, and the stream of a channel that was never opened.
use Rattle.std.proofs.Common.{◌≡◌, ℕ, ◌≤◌, ◌&&◌, false, cond, List, [], ◌∷◌, ◌++◌, flat_map, reverse, subst, Some, None, refl, sym, ap, ap₂, ◌∙◌, append_assoc, append-nil, inl, inr}
use Rattle.std.specs.Prelude.{nat_le, Result, Ok, Err, OnOk}
use mathlib.Core.List.{reverse-cons}
use Rattle.std.proofs.lemmas.Bool.{cases_Bool, le-leb, leb-false}
use Rattle.std.proofs.lemmas.Grind.{flat_map-append}
use Rattle.dispatch_calls.specs.declared.call.Entry.{Entry}
use Rattle.dispatcher.specs.Access.{is_opened}
use Rattle.dispatch_core.specs.Recorded.{Recorded, history_of, effects_of, stream_of}
use Rattle.dispatch_history.specs.Effect.{past_of, stream}
use Rattle.dispatch_history.specs.History.{opened}
use Rattle.dispatch_history.specs.Legal.{Legal}
use Rattle.dispatcher.proofs.DispatchTables.Keeping.{kept_unopened}
use Rattle.dispatcher.proofs.DispatchTables.Lawfuls.{lawful_effects}
use Rattle.stream_text.specs.OrderHistory.{lane_from, made_by, order_of_history}
use Rattle.stream_text.specs.StreamsHistory.{streams_text}
use Rattle.replay_actors.specs.Texts.{lines_of, race_output, ReadsAgain}
use Rattle.stream_text.specs.Order.{order_spelling}
use Rattle.stream_text.specs.declared.order_line.OrderLine.{OrderLine}

-- the order of a history, read from its first entry on
pub order_is : (seats : List ℕ) (es : List Entry) → lines_of seats (reverse es) ≡ order_of_history seats es
order_is seats [] = refl
order_is seats (e ∷ es) =
    let f = λ (x : Entry). made_by (lane_from 1 seats x.seat) x.call in
    ap (flat_map f) (reverse-cons e es)
    ∙ flat_map-append f (reverse es) (e ∷ [])
    ∙ ap₂ (λ xs ys. xs ++ ys) (order_is seats es) (append-nil (f e))

-- a channel that was never opened was sent nothing
pub stream_none : (r : Recorded) (c : ℕ) → Legal r.displays (history_of r.entries) → 1 ≤ c → None ≡ stream_of r c → [] ≡ reverse (stream (effects_of r) c)
stream_none r c l one none =
    elim (cases_Bool (is_opened (effects_of r) c)) [
      | inl y ↦ absurd (let bad : None ≡ Some (reverse (stream (effects_of r) c)) = none ∙ ap (λ b. cond b (Some (reverse (stream (effects_of r) c))) None) y in cc)
      | inr n ↦
          let high : nat_le c (opened (past_of (effects_of r))) ≡ false = sym (ap (λ b. b && nat_le c (opened (past_of (effects_of r)))) (le-leb 1 c one)) ∙ n in
          let kept = kept_unopened r.displays (effects_of r) c (lawful_effects r.displays (history_of r.entries) l) (leb-false c (opened (past_of (effects_of r))) high) in
          ap (λ s. s.messages) kept.is
    ]

-- the order behind a text, and then the streams
pub output_is : (names : List (List ℕ)) (seats : List ℕ) (r : Recorded) (before mid after : List ℕ) (history : List Entry) (lines : List OrderLine)
    → history ≡ reverse r.entries → lines ≡ lines_of seats history → mid ≡ before ++ order_spelling lines → after ≡ mid ++ streams_text names (effects_of r)
    → after ≡ before ++ race_output names seats r
output_is names seats r before mid after history lines h l m a =
    let same : lines ≡ order_of_history seats r.entries = l ∙ ap (lines_of seats) h ∙ order_is seats r.entries in
    a
    ∙ ap (λ xs. xs ++ streams_text names (effects_of r)) (m ∙ ap (λ ls. before ++ order_spelling ls) same)
    ∙ append_assoc before (order_spelling (order_of_history seats r.entries)) (streams_text names (effects_of r))

-- what follows from what holds on success
pub on_ok : {T E : Type 0} (r : Result T E) (P Q : Type 0) → (P → Q) → OnOk r P → OnOk r Q
on_ok (Ok x) P Q f p = f p
on_ok (Err e) P Q f p = tt

-- lines that are read again are the order of the history
pub reads_again : (seats : List ℕ) (entries history : List Entry) (lines : List OrderLine) → history ≡ reverse entries → lines ≡ lines_of seats history
    → ReadsAgain lines → ReadsAgain (order_of_history seats entries)
reads_again seats entries history lines h l again = subst ReadsAgain (l ∙ ap (lines_of seats) h ∙ order_is seats entries) again

-- what holds whatever was answered holds on success
pub ok_any : {T E : Type 0} (r : Result T E) (P : Type 0) → P → OnOk r P
ok_any (Ok x) P p = p
ok_any (Err e) P p = tt
