-- Nothing remains on a channel.
use Rattle.std.proofs.Common.{◌≡◌, ℕ, zero, suc, ◌<◌, ◌==◌, ◌||◌, Bool, true, false, not, cond, List, [], ◌∷◌, length, map, Option, Some, None, option_map, refl, sym, ap, ◌∙◌, subst, inl, inr, arith}
use Rattle.std.specs.Prelude.{nat_le, nat_lt, slice_get}
use Rattle.std.proofs.lemmas.Bool.{cases_Bool, eq-eqb, true≢false, ltb-false, leb-false}
use Rattle.focus_resolver.specs.Resolver.{is_at}
use Rattle.dispatcher.specs.InputChannel.Order.{Within}
use Rattle.input_types.specs.declared.message.Message.{Message}
use Rattle.window_snapshot.specs.declared.window.Window.{Window}
use Rattle.window_snapshot.specs.Named.{is_named}
use Rattle.dispatch_calls.specs.declared.call.Call.{Call}
use Rattle.dispatch_calls.specs.declared.call.Call.TheVariants.{Finish, FocusOn, Receive}
use Rattle.dispatch_history.specs.Delivery.{delivery, published, unfinished}
use Rattle.dispatch_history.specs.Effect.{Effect, past_of, stream}
use Rattle.dispatch_history.specs.Focus.{requested}
use Rattle.dispatch_history.specs.History.{received}
use Rattle.dispatch_history.specs.Legal.{answered}
use Rattle.dispatcher.specs.DispatchTables.Lawful.{Lawful}
use Rattle.dispatcher.proofs.DispatchTables.Kept.{channel_law}
use Rattle.dispatcher.proofs.DispatchTables.Waiting.{with_delivery}
use Rattle.live_input.specs.Closing.{forgotten, forgotten_on, without}
use Rattle.live_input.specs.Settling.{left_call, next_left}
use Rattle.live_input.specs.Standing.{IsDone}
use Rattle.live_input.proofs.Unshown.{named_filter}

none_parts : (b : Bool) (call : Call) (o : Option Call) → cond b (Some call) o ≡ None → (b ≡ false) × (o ≡ None)
none_parts true call o e = absurd cc
none_parts false call o e = (refl, e)

-- if nothing is to be done next, everything was received and finished
pub left_none : (ds : List ℕ) (es : List Effect) (now c : ℕ) → Lawful ds es → next_left now c es ≡ None → IsDone es c
left_none ds es now c l e = by_list (unfinished es c) refl
  where
    r : ℕ
    r = received (past_of es) c

    n : ℕ
    n = length (stream es c)

    by_list : (us : List Message) → unfinished es c ≡ us → IsDone es c
    by_list [] none =
        let x = none_parts (nat_lt r n) (Receive c) None (sym (ap (λ us. left_call now c r n (option_map (λ m. m.seq) (slice_get us 0))) none) ∙ e) in
        let all = channel_law ds es c 0 0 l (omega arith) in
        let high = ltb-false r n x.0 in
        let first = all.0.received_published in
        let second = all.0.published_sent in
        let sent = all.1 in
        record { received_all = omega (arith, high, first, second, sent); finished_all = none }
    by_list (m ∷ ms) some =
        let x = none_parts (nat_le m.seq r) (Finish now c m.seq) (cond (nat_lt r n) (Some (Receive c)) None)
        (sym (ap (λ us. left_call now c r n (option_map (λ m. m.seq) (slice_get us 0))) some) ∙ e) in
        let y = none_parts (nat_lt r n) (Receive c) None x.1 in
        let all = channel_law ds es c 0 0 l (omega arith) in
        let above = leb-false m.seq r x.0 in
        let high = ltb-false r n y.0 in
        let within = subst (λ us. Within (published es c) (map (with_delivery (delivery es c)) us)) some all.0.numbered in
        let low = within.1 in
        let second = all.0.published_sent in
        let sent = all.1 in
        absurd (omega (arith, above, high, low, second, sent))

-- the windows without that of a channel contain no window of it
pub named_without : (c : ℕ) (ws : List Window) → is_named (without c ws) c ≡ false
named_without c [] = refl
named_without c (w ∷ ws) = by_test (w.channel == c) refl (named_without c ws)
  where
    by_test : (b : Bool) → (w.channel == c) ≡ b → is_named (without c ws) c ≡ false
        → is_named (cond (not b) (w ∷ without c ws) (without c ws)) c ≡ false
    by_test true e more = more
    by_test false e more = ap (λ b. b || is_named (without c ws) c) e ∙ more

pub named_less : (c d : ℕ) (ws : List Window) → is_named (without c ws) d ≡ true → is_named ws d ≡ true
named_less c d ws e =
    elim (cases_Bool (is_named ws d)) [
      | inl y ↦ y
      | inr n ↦ absurd (true≢false (sym e ∙ named_filter (λ v. not (v.channel == c)) ws d n))
    ]

-- a request for the channel on a display is taken back, and none is made elsewhere
gone_on : (ds : List ℕ) (now c y : ℕ) (es : List Effect) → is_at (requested (past_of (forgotten_on ds now c y es)) y) c ≡ false
gone_on ds now c y es = by_test (is_at (requested (past_of es) y) c) refl
  where
    by_test : (b : Bool) → is_at (requested (past_of es) y) c ≡ b
        → is_at (requested (past_of (cond b (answered ds (FocusOn now y None false) es) es)) y) c ≡ false
    by_test true e = ap (λ b. is_at (cond b None (requested (past_of es) y)) c) (eq-eqb y y refl)
    by_test false e = e

stays_on : (ds : List ℕ) (now c y z : ℕ) (es : List Effect) → is_at (requested (past_of es) z) c ≡ false
    → is_at (requested (past_of (forgotten_on ds now c y es)) z) c ≡ false
stays_on ds now c y z es e = by_test (is_at (requested (past_of es) y) c) (z == y)
  where
    by_display : (b : Bool) → is_at (cond b None (requested (past_of es) z)) c ≡ false
    by_display true = refl
    by_display false = e

    by_test : (b d : Bool) → is_at (requested (past_of (cond b (answered ds (FocusOn now y None false) es) es)) z) c ≡ false
    by_test true d = by_display (z == y)
    by_test false d = e

each_of_four : (p : ℕ → Bool) → p 0 ≡ false → p 1 ≡ false → p 2 ≡ false → p 3 ≡ false → (y : ℕ) → y < 4 → p y ≡ false
each_of_four p a b c d zero low = a
each_of_four p a b c d (suc zero) low = b
each_of_four p a b c d (suc (suc zero)) low = c
each_of_four p a b c d (suc (suc (suc zero))) low = d
each_of_four p a b c d (suc (suc (suc (suc y)))) low = absurd (omega (arith, low))

-- then the focus of no display was requested last for it
pub unasked : (ds : List ℕ) (now c : ℕ) (es : List Effect) (y : ℕ) → y < 4 → is_at (requested (past_of (forgotten ds now c es)) y) c ≡ false
unasked ds now c es =
    let one = forgotten_on ds now c 0 es in
    let two = forgotten_on ds now c 1 one in
    let three = forgotten_on ds now c 2 two in
    each_of_four (λ y. is_at (requested (past_of (forgotten ds now c es)) y) c)
    (stays_on ds now c 3 0 three (stays_on ds now c 2 0 two (stays_on ds now c 1 0 one (gone_on ds now c 0 es))))
    (stays_on ds now c 3 1 three (stays_on ds now c 2 1 two (gone_on ds now c 1 one)))
    (stays_on ds now c 3 2 three (gone_on ds now c 2 two))
    (gone_on ds now c 3 three)
