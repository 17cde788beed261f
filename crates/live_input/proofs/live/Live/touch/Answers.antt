-- What the reader gives is delivered.
use Rattle.std.proofs.Common.{◌≡◌, ◌-◌, ◌++◌, max, map, slice_set, Ok, Err, sym, ap, ◌∙◌, subst}
use Rattle.device_table.specs.Table.{StandsAt, reader_of}
use Rattle.dispatcher.specs.Access.{is_waiting}
use Rattle.live_input.specs.declared.refused.FingerRefused.TheVariants.{Device}
use Rattle.live_input.specs.Fingers.{Planned, TouchGoes, TouchGoesAtOnce, behind, given}
use Rattle.live_input.specs.Strokes.{said}
use Rattle.live_input.specs.Standing.{LiveIs}
use Rattle.live_input.specs.State.{LiveState, latest}
use Rattle.live_input.proofs.Handing.{beside_goes}
use Rattle.live_input.proofs.Panels.{fingers_go, touched}
use Rattle.live_input.proofs.Roomy.{count_args, less_room, no_wait, same_room, with_args}
use Rattle.live_input.proofs.live.Live.touch.Goals as goal

pub returns-in-Ok-deliver-clause-after : goal.returns-in-Ok-deliver-clause-after
returns-in-Ok-deliver-clause-after c = λ ds es plan past h st.
    let clocked : c.later-now.result ≡ latest c.args.now c.args.self.now =
    c.later-now.ensures ∙ ap (λ (s : LiveState). max c.args.now s.clock) c.self.view_is in
    let n = c.later-now.result in
    let d = c.args.device in
    let t = c.in-Ok.ensures.ok plan past st in
    let p : Planned = record { strokes = c.args.strokes.now; after = c.args.after } in
    let back = c.self-in-Ok.view_is in
    let there =
    fingers_go ds es _
    (subst (LiveIs ds es) (sym back)
    (subst (LiveIs ds es) (sym c.take_all.ensures.rest) (beside_goes ds es _ h c.take_all.new.self.devices c.take_all.new.self.pending c.args.self.now.clock)))
    n c.set_fingers.new.all in
    subst (λ m. TouchGoes ds m es plan past d (Ok p) (Ok tt) c.args.self.now c.deliver.new.self) clocked
    (touched ds n es plan past d p c.self-in-Ok.inside.pending.items (Ok tt) c.args.self.now c.deliver.new.self
    (ap (λ (s : LiveState). s.pending) back ∙ t.pending_is)
    (subst (StandsAt plan (behind past (map (said d n) c.args.strokes.now)) d) (sym (c.deliver.ensures.devices ∙ ap (λ (s : LiveState). s.devices) back)) t.stands)
    (c.deliver.ensures.seats.fingers_are ∙ c.set_fingers.ensures ∙ ap (λ (s : LiveState). slice_set s.fingers (d - 1) c.args.after) (back ∙ c.take_all.ensures.rest))
    c.deliver.ensures.clock
    (c.in-Ok-deliver.ensures.after ds es there))

pub returns-in-Err-deliver-clause-after : goal.returns-in-Err-deliver-clause-after
returns-in-Err-deliver-clause-after c = λ ds es plan past h st.
    let clocked : c.later-now.result ≡ latest c.args.now c.args.self.now =
    c.later-now.ensures ∙ ap (λ (s : LiveState). max c.args.now s.clock) c.self.view_is in
    let n = c.later-now.result in
    let d = c.args.device in
    let t = c.in-Ok.ensures.ok plan past st in
    let p : Planned = record { strokes = c.args.strokes.now; after = c.args.after } in
    let back = c.self-in-Ok.view_is in
    let there =
    fingers_go ds es _
    (subst (LiveIs ds es) (sym back)
    (subst (LiveIs ds es) (sym c.take_all.ensures.rest) (beside_goes ds es _ h c.take_all.new.self.devices c.take_all.new.self.pending c.args.self.now.clock)))
    n c.set_fingers.new.all in
    subst (λ m. TouchGoes ds m es plan past d (Ok p) (Err (Device c.in-Err-deliver.refused)) c.args.self.now c.deliver.new.self) clocked
    (touched ds n es plan past d p c.self-in-Ok.inside.pending.items (Err c.in-Err-deliver.refused) c.args.self.now c.deliver.new.self
    (ap (λ (s : LiveState). s.pending) back ∙ t.pending_is)
    (subst (StandsAt plan (behind past (map (said d n) c.args.strokes.now)) d) (sym (c.deliver.ensures.devices ∙ ap (λ (s : LiveState). s.devices) back)) t.stands)
    (c.deliver.ensures.seats.fingers_are ∙ c.set_fingers.ensures ∙ ap (λ (s : LiveState). slice_set s.fingers (d - 1) c.args.after) (back ∙ c.take_all.ensures.rest))
    c.deliver.ensures.clock
    (c.in-Err-deliver.ensures.after ds es there))

pub returns-in-Ok-deliver-clause-others : goal.returns-in-Ok-deliver-clause-others
returns-in-Ok-deliver-clause-others c = λ d le ne.
    ap (λ rs. reader_of rs d) (c.deliver.ensures.devices ∙ ap (λ (s : LiveState). s.devices) c.self-in-Ok.view_is) ∙ c.take_all.ensures.others d le ne

pub returns-in-Err-deliver-clause-others : goal.returns-in-Err-deliver-clause-others
returns-in-Err-deliver-clause-others c = λ d le ne.
    ap (λ rs. reader_of rs d) (c.deliver.ensures.devices ∙ ap (λ (s : LiveState). s.devices) c.self-in-Ok.view_is) ∙ c.take_all.ensures.others d le ne

pub returns-in-Ok-deliver-clause-reserved : goal.returns-in-Ok-deliver-clause-reserved
returns-in-Ok-deliver-clause-reserved c = λ k ds es plan past h st idle.
    let clocked : c.later-now.result ≡ latest c.args.now c.args.self.now =
    c.later-now.ensures ∙ ap (λ (s : LiveState). max c.args.now s.clock) c.self.view_is in
    let n = c.later-now.result in
    let d = c.args.device in
    let t = c.in-Ok.ensures.ok plan past st in
    let p : Planned = record { strokes = c.args.strokes.now; after = c.args.after } in
    let back = c.self-in-Ok.view_is in
    let there =
    fingers_go ds es _
    (subst (LiveIs ds es) (sym back)
    (subst (LiveIs ds es) (sym c.take_all.ensures.rest) (beside_goes ds es _ h c.take_all.new.self.devices c.take_all.new.self.pending c.args.self.now.clock)))
    n c.set_fingers.new.all in
    let quiet = no_wait (is_waiting es) c.args.self.now.pending idle in
    let gave =
    ap (λ (s : LiveState). s.pending) back ∙ t.pending_is ∙ ap (λ ps. ps ++ given plan past (map (said d n) c.args.strokes.now)) quiet.1 in
    subst (λ m. TouchGoesAtOnce k m es plan past d (Ok p) (Ok tt) c.args.self.now c.deliver.new.self) clocked
    (λ room few.
    c.in-Ok-deliver.ensures.reserved k ds es there quiet.0
    (with_args _ _ k c.args.self.now _ gave (ap (λ (s : LiveState). s.dispatcher) (back ∙ c.take_all.ensures.rest)) room) (count_args _ _ es gave few))

pub returns-in-Err-deliver-clause-reserved : goal.returns-in-Err-deliver-clause-reserved
returns-in-Err-deliver-clause-reserved c = λ k ds es plan past h st idle.
    let clocked : c.later-now.result ≡ latest c.args.now c.args.self.now =
    c.later-now.ensures ∙ ap (λ (s : LiveState). max c.args.now s.clock) c.self.view_is in
    let n = c.later-now.result in
    let d = c.args.device in
    let t = c.in-Ok.ensures.ok plan past st in
    let p : Planned = record { strokes = c.args.strokes.now; after = c.args.after } in
    let back = c.self-in-Ok.view_is in
    let there =
    fingers_go ds es _
    (subst (LiveIs ds es) (sym back)
    (subst (LiveIs ds es) (sym c.take_all.ensures.rest) (beside_goes ds es _ h c.take_all.new.self.devices c.take_all.new.self.pending c.args.self.now.clock)))
    n c.set_fingers.new.all in
    let quiet = no_wait (is_waiting es) c.args.self.now.pending idle in
    let gave =
    ap (λ (s : LiveState). s.pending) back ∙ t.pending_is ∙ ap (λ ps. ps ++ given plan past (map (said d n) c.args.strokes.now)) quiet.1 in
    subst (λ m. TouchGoesAtOnce k m es plan past d (Ok p) (Err (Device c.in-Err-deliver.refused)) c.args.self.now c.deliver.new.self) clocked
    (λ room few.
    c.in-Err-deliver.ensures.reserved k ds es there quiet.0
    (with_args _ _ k c.args.self.now _ gave (ap (λ (s : LiveState). s.dispatcher) (back ∙ c.take_all.ensures.rest)) room) (count_args _ _ es gave few))

pub returns-in-Err-clause-reserved : goal.returns-in-Err-clause-reserved
returns-in-Err-clause-reserved c = λ n ds es plan past h st idle room few.
    same_room n c.args.self.now _ (ap (λ (s : LiveState). s.dispatcher) c.take_all.ensures.rest) (less_room _ n c.args.self.now room)
