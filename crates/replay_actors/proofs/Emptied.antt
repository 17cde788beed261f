-- A core that was settled has nothing left to do.
use Rattle.std.proofs.Common.{◌≡◌, ◌≤◌, ◌+◌, ℕ, Bool, [], ◌∷◌, ◌++◌, refl, sym, ap, subst, ◌∙◌, arith}
use Rattle.std.proofs.lemmas.List.{map-append}
use Rattle.dispatch_history.specs.History.{History, opened}
use Rattle.dispatch_history.specs.Legal.{Legal}
use Rattle.dispatch_history.specs.Settled.{Settled}
use Rattle.dispatch_calls.specs.declared.call.Call.{Call}
use Rattle.dispatch_calls.specs.declared.reply.Reply.{Reply}
use Rattle.dispatch_core.specs.Machine.{called, steps}
use Rattle.dispatch_core.specs.Recorded.{Recorded, history_of, IsSound}
use Rattle.turnstile.specs.History.{Entry as Called}
use Rattle.replay_actors.specs.Came.{Came}
use Rattle.replay_actors.specs.Finishing.{IsQuiet}
use Rattle.replay_actors.specs.Race.{Each}
use Rattle.replay_actors.specs.Settling.{receives_from}
use Rattle.replay_actors.proofs.Deeds.{of_settles}
use Rattle.replay_actors.proofs.Orders.{history_same}
use Rattle.replay_actors.proofs.Races.{open_same}
use Rattle.replay_actors.proofs.SettleSteps.{At, Settles, Straight, settled_so_far, settled_at}

-- calls that settle open no channel
opened_still : (s h : History) → Each (λ e. Settles e.0) s → opened (s ++ h) ≡ opened h
opened_still [] h a = refl
opened_still (e ∷ s) h a = open_same e.0 e.1 (s ++ h) (of_settles e.0 a.0).opens_is ∙ opened_still s h a.1

-- Where the caller has taken from all channels, nothing is left to do.
pub nothing_left : (f : ℕ → Bool) (n : ℕ) (old new : Recorded) → Came f old (receives_from (n + 1)) new → IsSound new
    → IsQuiet f (history_of old.entries) → opened (history_of old.entries) ≤ n → Settled new.displays (history_of new.entries) f
nothing_left f n old new came sound quiet few =
    let ds = new.displays in
    let since = steps came.since in
    let before = history_of old.entries in
    let is : history_of new.entries ≡ since ++ before =
    sym (history_same new.entries)
    ∙ ap steps came.entries_are
    ∙ map-append (λ (e : Called Call Reply). (e.1, e.2)) came.since (called old.entries)
    ∙ ap (λ h. since ++ h) (history_same old.entries) in
    let legal : Legal ds (since ++ before) = subst (Legal ds) is sound.legal in
    let so_far = settled_so_far ds f since before legal quiet (subst Straight (sym came.stands) tt) in
    let at : At ds f (receives_from (n + 1)) (since ++ before) = subst (λ s. At ds f s (since ++ before)) came.stands so_far.at in
    let still = opened_still since before so_far.settles_each in
    subst (λ h. Settled ds h f) (sym is) (settled_at ds f (since ++ before) n legal (omega (arith, few, still)) at)
