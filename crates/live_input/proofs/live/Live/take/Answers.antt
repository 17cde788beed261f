-- The reader takes the event.
use Rattle.std.proofs.Common.{◌∷◌, ◌++◌, sym, ap, ◌∙◌, subst}
use Rattle.raw_events.specs.declared.event.RawEvent.{RawEvent}
use Rattle.device_reader.specs.Cooked.{args_of}
use Rattle.device_table.specs.Table.{StandsAt}
use Rattle.live_input.specs.Strokes.{said}
use Rattle.live_input.specs.State.{LiveState}
use Rattle.live_input.proofs.Panels.{both_ok, takes_one}
use Rattle.live_input.proofs.live.Live.take.Goals as goal

pub returns-clause-ok : goal.returns-clause-ok
returns-clause-ok c = λ plan past st.
    let e = said c.args.device c.args.now c.args.stroke.now in
    let at =
    subst (λ d. StandsAt plan past d c.self.inside.devices) (sym (ap (λ (x : RawEvent). x.device) c.said.ensures))
    (subst (λ (s : LiveState). StandsAt plan past c.args.device s.devices) (sym c.self.view_is) st) in
    both_ok c.take_into.result _ _ _ (c.take_into.ensures.ok plan past at) (c.take_into.ensures.after plan past at)
    (λ given stands.
    takes_one plan past e c.args.device c.args.self.now _
    (subst (λ (x : RawEvent). StandsAt plan (x ∷ past) x.device c.take_into.new.self) c.said.ensures stands)
    (given
    ∙ ap (λ (s : LiveState). s.pending ++ args_of plan past c.said.result) c.self.view_is
    ∙ ap (λ x. c.args.self.now.pending ++ args_of plan past x) c.said.ensures)
    (ap (λ (s : LiveState). record s { devices = c.take_into.new.self; pending = c.take_into.new.args.items }) c.self.view_is))
