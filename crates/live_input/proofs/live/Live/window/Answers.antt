-- The window is put among the others, and put back if there is no memory.
use Rattle.std.proofs.Common.{◌≡◌, Some, true, false, max, sym, ap, ap₂, ◌∙◌, subst}
use Rattle.dispatch_calls.specs.declared.call.Call.TheVariants.{Windows}
use Rattle.window_snapshot.specs.declared.window.Window.{Window}
use Rattle.window_snapshot.specs.Mask.{is_channel}
use Rattle.window_snapshot.specs.Named.{is_named, window_of as window_on}
use Rattle.live_input.specs.Replacing.{replaced}
use Rattle.live_input.specs.Seats.{is_open}
use Rattle.live_input.specs.Standing.{AreOfHeld, LiveIs}
use Rattle.live_input.specs.State.{LiveState, latest}
use Rattle.live_input.proofs.Handing.{made}
use Rattle.live_input.proofs.Opened.{channel_of_open}
use Rattle.live_input.proofs.Replaced.{as_before, found_channel, none_named, none_replaced, put_back, some_named, still_held}
use Rattle.live_input.proofs.live.Live.window.Goals as goal

pub put-requires : goal.put-requires
put-requires c =
    let there : is_open c.args.self.now.seats c.args.client ≡ true =
    ap (λ (s : LiveState). is_open s.seats c.args.client) (sym c.self.view_is) ∙ sym c.is_open.ensures ∙ c.if-not-is_open.false in
    ap (λ (v : Window). is_channel v.channel) c.into_window.ensures ∙ channel_of_open c.args.self.now.seats c.args.client there

pub put-requires-in-Err : goal.put-requires-in-Err
put-requires-in-Err c =
    let there : is_open c.args.self.now.seats c.args.client ≡ true =
    ap (λ (s : LiveState). is_open s.seats c.args.client) (sym c.self.view_is) ∙ sym c.is_open.ensures ∙ c.if-not-is_open.false in
    let w = c.into_window.result in
    ap is_channel (found_channel c.self.inside.windows w.channel c.in-Some.was (sym c.put.ensures.was ∙ c.in-Some.is))
    ∙ ap (λ (v : Window). is_channel v.channel) c.into_window.ensures
    ∙ channel_of_open c.args.self.now.seats c.args.client there

pub returns-in_default-clause-after : goal.returns-in_default-clause-after
returns-in_default-clause-after c = λ ds es h.
    let kept = c.self.inside.windows in
    let w = c.into_window.result in
    let there : is_open c.args.self.now.seats c.args.client ≡ true =
    ap (λ (s : LiveState). is_open s.seats c.args.client) (sym c.self.view_is) ∙ sym c.is_open.ensures ∙ c.if-not-is_open.false in
    let none : is_named kept w.channel ≡ false = none_named kept w.channel (sym c.put.ensures.was ∙ c.in_default.is) in (
      there,
      ap₂ (λ (s : LiveState) (v : Window). is_named s.windows v.channel) (sym c.self.view_is) (sym c.into_window.ensures) ∙ none,
      as_before _ _ c.put.new.windows c.self.view_is (c.put.ensures.replaced ∙ none_replaced w kept none),
    )

pub returns-in-Ok-clause-after : goal.returns-in-Ok-clause-after
returns-in-Ok-clause-after c = λ ds es h.
    let kept = c.self.inside.windows in
    let w = c.into_window.result in
    let there : is_open c.args.self.now.seats c.args.client ≡ true =
    ap (λ (s : LiveState). is_open s.seats c.args.client) (sym c.self.view_is) ∙ sym c.is_open.ensures ∙ c.if-not-is_open.false in
    let named : is_named kept w.channel ≡ true = some_named kept w.channel c.in-Some.was (sym c.put.ensures.was ∙ c.in-Some.is) in
    let at : c.later-now.result ≡ latest c.args.now c.args.self.now =
    c.later-now.ensures ∙ ap (λ (s : LiveState). max c.args.now s.clock) c.self.view_is in
    let before = subst (LiveIs ds es) (sym c.self.view_is) h in
    let own : AreOfHeld kept c.self.inside.seats =
    subst (λ ws. AreOfHeld ws c.self.inside.seats) (sym before.windows_are) before.tenants_are.shown in
    let still : AreOfHeld c.put.new.windows c.self.inside.seats =
    subst (λ ws. AreOfHeld ws c.self.inside.seats) (sym c.put.ensures.replaced) (still_held w kept c.self.inside.seats own) in
    let shown = c.put.ensures.replaced ∙ ap₂ (λ (s : LiveState) v. replaced s.windows v) c.self.view_is c.into_window.ensures in (
      there,
      ap₂ (λ (s : LiveState) (v : Window). is_named s.windows v.channel) (sym c.self.view_is) (sym c.into_window.ensures) ∙ named,
      made ds es _ c.later-now.result _ _ (ap₂ (λ n ws. Windows n ws) at shown) at
          (subst (LiveIs ds _) (sym c.self-2.view_is) (c.in-Ok.ensures.after ds es kept before still)),
    )

pub returns-in-Err-clause-after : goal.returns-in-Err-clause-after
returns-in-Err-clause-after c = λ ds es h.
    let kept = c.self.inside.windows in
    let w = c.into_window.result in
    let there : is_open c.args.self.now.seats c.args.client ≡ true =
    ap (λ (s : LiveState). is_open s.seats c.args.client) (sym c.self.view_is) ∙ sym c.is_open.ensures ∙ c.if-not-is_open.false in
    let found : window_on kept w.channel ≡ Some c.in-Some.was = sym c.put.ensures.was ∙ c.in-Some.is in
    let one = ap (λ (v : Window). is_channel v.channel) c.into_window.ensures ∙ channel_of_open c.args.self.now.seats c.args.client there in
    let same = c.self-2.view_is ∙ c.in-Err.ensures.err in
    let back : c.put-in-Err.new.windows ≡ kept =
    c.put-in-Err.ensures.replaced
    ∙ ap (λ ws. replaced ws c.in-Some.was) (ap (λ (s : LiveState). s.windows) same ∙ c.put.ensures.replaced)
    ∙ put_back w c.in-Some.was kept one c.put.ensures.valid found in (
      there,
      ap₂ (λ (s : LiveState) (v : Window). is_named s.windows v.channel) (sym c.self.view_is) (sym c.into_window.ensures)
          ∙ some_named kept w.channel c.in-Some.was found,
      ap (λ (s : LiveState). record s { windows = c.put-in-Err.new.windows }) same ∙ as_before _ _ c.put-in-Err.new.windows c.self.view_is back,
    )
