-- The focus after any step.
use Rattle.std.proofs.Common.{◌≡◌, ℕ, ◌&&◌, false, List, refl, sym, ap, ◌∙◌, subst}
use Rattle.window_snapshot.specs.declared.window.Window.{Window}
use Rattle.window_snapshot.specs.Mask.{mask_has}
use Rattle.window_snapshot.specs.Named.{is_focusable_on}
use Rattle.focus_resolver.specs.Resolver.{FocusState}
use Rattle.dispatch_calls.specs.declared.call.Call.{Call}
use Rattle.dispatch_calls.specs.declared.call.Call.TheVariants.{Open, Windows, FocusOn, Notify, Pump, Tick, Receive, Finish, Pilfer, Remove}
use Rattle.dispatch_calls.specs.declared.reply.Reply.{Reply}
use Rattle.dispatch_history.specs.History.{live, snapshot}
use Rattle.dispatch_history.specs.Effect.{Effect, past_of}
use Rattle.dispatch_history.specs.Effects.{step}
use Rattle.dispatcher.specs.KeyTables.Focused.{FocusIs, is_request}
use Rattle.dispatcher.proofs.KeyTables.Focusing.{focus_requested, focus_shown, focus_left, focus_masks}
use Rattle.dispatcher.specs.Sending.{Refocuses, FocusGoes}

refocused : (ds : List ℕ) (call : Call) (answer : Reply) (es : List Effect) (f g : FocusState) (ws : List Window) (alive : ℕ) → is_request call ≡ false → FocusIs es f
    → ws ≡ snapshot (past_of (step ds call answer es)) → ((c : ℕ) → mask_has alive c ≡ live (past_of (step ds call answer es)) c)
    → Refocuses ws alive f g → FocusIs (step ds call answer es) g
refocused ds call answer es f g ws alive none is shown lives r =
    let h = past_of (step ds call answer es) in
    subst (FocusIs (step ds call answer es)) (sym r.1)
    (focus_shown ds call answer es f r.0 none
    (focus_masks h r.0 alive lives (λ y c lt. r.2 y c lt ∙ ap (λ x. mask_has alive c && is_focusable_on x y c) shown)) is)

pub focus_goes : (ds : List ℕ) (call : Call) (answer : Reply) (es : List Effect) (f g : FocusState) (ws : List Window) (alive : ℕ) → FocusIs es f
    → ws ≡ snapshot (past_of (step ds call answer es)) → ((c : ℕ) → mask_has alive c ≡ live (past_of (step ds call answer es)) c)
    → FocusGoes call ws alive f g → FocusIs (step ds call answer es) g
focus_goes ds (FocusOn now y c keys) answer es f g ws alive is shown lives goes =
    subst (FocusIs (step ds (FocusOn now y c keys) answer es)) (sym goes.1) (focus_requested ds now y c keys answer es f goes.0 is)
focus_goes ds (Open terms) answer es f g ws alive is shown lives goes = refocused ds (Open terms) answer es f g ws alive refl is shown lives goes
focus_goes ds (Windows now next) answer es f g ws alive is shown lives goes = refocused ds (Windows now next) answer es f g ws alive refl is shown lives goes
focus_goes ds (Remove now c) answer es f g ws alive is shown lives goes = refocused ds (Remove now c) answer es f g ws alive refl is shown lives goes
focus_goes ds (Notify now a) answer es f g ws alive is shown lives goes = subst (FocusIs (step ds (Notify now a) answer es)) (sym goes) (focus_left ds (Notify now a) answer es f refl is)
focus_goes ds (Pump now) answer es f g ws alive is shown lives goes = subst (FocusIs (step ds (Pump now) answer es)) (sym goes) (focus_left ds (Pump now) answer es f refl is)
focus_goes ds (Tick now) answer es f g ws alive is shown lives goes = subst (FocusIs (step ds (Tick now) answer es)) (sym goes) (focus_left ds (Tick now) answer es f refl is)
focus_goes ds (Receive c) answer es f g ws alive is shown lives goes = subst (FocusIs (step ds (Receive c) answer es)) (sym goes) (focus_left ds (Receive c) answer es f refl is)
focus_goes ds (Finish now c n) answer es f g ws alive is shown lives goes = subst (FocusIs (step ds (Finish now c n) answer es)) (sym goes) (focus_left ds (Finish now c n) answer es f refl is)
focus_goes ds (Pilfer now c d) answer es f g ws alive is shown lives goes = subst (FocusIs (step ds (Pilfer now c d) answer es)) (sym goes) (focus_left ds (Pilfer now c d) answer es f refl is)
