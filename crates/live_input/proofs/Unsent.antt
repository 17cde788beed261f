-- The owner of a channel whose window is not shown knows of nothing that is down, and has no focus.
use Rattle.std.proofs.Common.{◌≡◌, ℕ, ◌==◌, Bool, true, false, cond, List, [], ◌∷◌, ◌++◌, filter, Some, None, refl, ap, ◌∙◌, subst}
use Rattle.std.proofs.Math.Path.{fun_ext}
use Rattle.std.specs.List.{list_any}
use Rattle.std.specs.Option.{option_and_then}
use Rattle.input_types.specs.declared.message.Message.{Message}
use Rattle.input_types.specs.StreamRule.{stream_state, unsent, after_body}
use Rattle.routing_rules.specs.Marks.{held}
use Rattle.routing_rules.specs.Pairs.{has}
use Rattle.routing_rules.specs.Outgoing.{devices}
use Rattle.window_snapshot.specs.Named.{is_named}
use Rattle.dispatch_history.specs.Effect.{Effect, past_of, stream, down_ids}
use Rattle.dispatch_history.specs.Focus.{has_focus}
use Rattle.dispatch_history.specs.History.{live, snapshot}
use Rattle.dispatch_history.specs.Keys.{keys}
use Rattle.dispatch_history.specs.Known.{known_state, held_ids, held_key, next_repeat, last_message}
use Rattle.dispatch_history.specs.PointerOf.{AllRise}
use Rattle.dispatch_history.specs.Step.{marks}
use Rattle.dispatch_history.proofs.WholeLaws.{whole_law}
use Rattle.dispatcher.specs.DispatchTables.Lawful.{Lawful}
use Rattle.live_input.proofs.Unshown.{none_pass, no_pointer, not_target, not_focused, no_keys}

pub known_unsent : (ds : List ℕ) (es : List Effect) (w : ℕ) → Lawful ds es → is_named (snapshot (past_of es)) w ≡ false → known_state es w ≡ unsent
known_unsent ds es w l e = λ i. record { ids = fun_ext ids i; repeats = fun_ext (λ d. fun_ext (repeats d)) i; focus = focus i }
  where
    ids_by : (d : ℕ) (b : Bool) → cond b (filter (has (held (marks es)) w d) (down_ids es d)) [] ≡ []
    ids_by d true = none_pass (has (held (marks es)) w d) (λ i. no_pointer ds es w d i l e) (down_ids es d)
    ids_by d false = refl

    ids : (d : ℕ) → held_ids es w d ≡ []
    ids d = ids_by d (list_any (λ x. x == d) devices)

    repeats : (d s : ℕ) → next_repeat (held_key (keys es w) d s) (last_message d s (stream es w)) ≡ None
    repeats d s = ap (λ ks. next_repeat (held_key ks d s) (last_message d s (stream es w))) (no_keys ds w es l (not_target (past_of es) w e))

    focus : has_focus (past_of es) w ≡ false
    focus = not_focused (past_of es) w e

-- what the owner of a live channel knows from all of its messages is what its window holds
pub knows_all : (ds : List ℕ) (es : List Effect) (w : ℕ) → Lawful ds es → AllRise (past_of es) → live (past_of es) w ≡ true
    → stream_state (stream es w) ≡ Some (known_state es w)
knows_all ds es w l r lives =
    subst (λ xs. stream_state (stream xs w) ≡ Some (known_state xs w)) l.whole (whole_law ds (past_of es) w l.legal r lives)

-- messages after others that leave nothing known say the same as on their own
pub state_alone : (newer older : List Message) → stream_state older ≡ Some unsent → stream_state (newer ++ older) ≡ stream_state newer
state_alone [] older e = e
state_alone (m ∷ ms) older e = ap (λ o. option_and_then (λ s. after_body s m.body) o) (state_alone ms older e)

pub unsent_law : (ds : List ℕ) (es : List Effect) (w : ℕ) → Lawful ds es → AllRise (past_of es) → live (past_of es) w ≡ true
    → is_named (snapshot (past_of es)) w ≡ false → stream_state (stream es w) ≡ Some unsent
unsent_law ds es w l r lives e = knows_all ds es w l r lives ∙ ap Some (known_unsent ds es w l e)
