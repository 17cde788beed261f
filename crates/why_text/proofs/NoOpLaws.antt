-- Steps that send nothing, or no focus change.
use Rattle.std.proofs.Common.{◌≡◌, ℕ, true, false, List, [], ◌∷◌, ◌++◌, Option, Some, None, refl, ap, ap₂, ◌∙◌}
use Rattle.std.specs.Prelude.{codes, flat_map}
use Rattle.std.specs.Fmt.{decimal}
use Rattle.std.proofs.lemmas.Bool.{eq-eqb, both_ways}
use Rattle.focus_resolver.specs.Resolver.{all_displays}
use Rattle.dispatch_calls.specs.declared.call.Call.{Call}
use Rattle.dispatch_calls.specs.declared.call.Call.TheVariants.{Open, Windows, FocusOn, Notify, Pump, Tick, Receive, Finish, Pilfer, Remove}
use Rattle.dispatch_calls.specs.declared.reply.Reply.{Reply}
use Rattle.dispatch_calls.specs.declared.reply.Reply.TheVariants.{Opened, Done, Idle}
use Rattle.dispatch_history.specs.History.{History, clock}
use Rattle.dispatch_history.specs.Effect.{Effect, past_of}
use Rattle.dispatch_history.specs.Focus.{focus, key_target}
use Rattle.why_text.specs.Lines.{call_words}
use Rattle.why_text.specs.Text.{change_words, focus_words, line, same_channel, step_words}
use Rattle.why_text.specs.Laws.{FocusLaw, SilentLaw, is_silent, may_move_focus}

same : (o : Option ℕ) → same_channel o o ≡ true
same None = refl
same (Some c) = eq-eqb c c refl

no_change : (words : List ℕ) (o : Option ℕ) → change_words words o o ≡ []
no_change words o = rw (same o) refl

none_of : (h : History) (ys : List ℕ) → flat_map (λ y. change_words (codes "focus " ++ decimal y ++ codes " ") (focus h y) (focus h y)) ys ≡ []
none_of h [] = refl
none_of h (y ∷ ys) = ap₂ (λ a b. a ++ b) (no_change (codes "focus " ++ decimal y ++ codes " ") (focus h y)) (none_of h ys)

-- a history that is not changed changes no focus
stays : (h : History) → focus_words h h ≡ []
stays h = ap₂ (λ a b. a ++ b) (none_of h all_displays) (no_change (codes "target ") (key_target h))

pub focus_law : FocusLaw
focus_law (Notify now args) reply h e = stays h
focus_law (Pump now) reply h e = stays h
focus_law (Tick now) reply h e = stays h
focus_law (Receive channel) reply h e = stays h
focus_law (Finish now channel seq) reply h e = stays h
focus_law (Pilfer now channel device) reply h e = stays h
focus_law (Windows now ws) reply h e = absurd (both_ways true e refl)
focus_law (FocusOn now display channel keys) reply h e = absurd (both_ways true e refl)
focus_law (Open terms) (Opened k) h e = absurd (both_ways true e refl)
focus_law (Open terms) reply h e = stays h
focus_law (Remove now channel) Done h e = absurd (both_ways true e refl)
focus_law (Remove now channel) reply h e = stays h

-- it has no line of its own
no_line : (displays : List ℕ) (call : Call) (reply : Reply) (x : Effect) (before : List Effect) → is_silent call reply ≡ true
    → (call_words displays call reply x before ≡ []) × (may_move_focus call reply ≡ false)
no_line displays (Notify now args) reply x before e = (refl, refl)
no_line displays (Receive channel) reply x before e = (refl, refl)
no_line displays (Pump now) Idle x before e = (refl, refl)
no_line displays (Pump now) reply x before e = absurd (both_ways false refl e)
no_line displays call reply x before e = absurd (both_ways false refl e)

pub silent_law : SilentLaw
silent_law displays x before call reply is e =
    let n = no_line displays call reply x before e in
    let words : step_words displays x.past x before ≡ [] =
    ap (λ h. step_words displays h x before) is
    ∙ ap₂ (λ a b. a ++ b) n.0 (ap (λ h. focus_words (past_of before) h) is ∙ focus_law call reply (past_of before) n.1)
    in ap (flat_map (line (clock x.past))) words
