-- A piece is taken behind those before.
use Rattle.std.proofs.Common.{sym, ◌∙◌, ap, subst}
use Rattle.raw_events.specs.Line.{known}
use Rattle.recording_counts.specs.LineTally.{LinesState, LineTallyStandsFor}
use Rattle.recording_counts.proofs.Joining.{took}
use Rattle.recording_counts.proofs.line_tally.LineTally.feed.Goals as goal

pub returns : goal.returns
returns c = λ devices bytes h.
    let s = subst (λ (t : LinesState). LineTallyStandsFor devices bytes t) (sym c.self.view_is) h in
    took c.go_on.result devices (known c.self.inside.devices.items) (known c.deref.result.now) bytes c.args.piece.now c.self.inside.begun.items c.go_on.new.begun.items
    c.self.inside.counts c.go_on.new.counts s.devices_are (ap known c.deref.ensures.value ∙ s.devices_are) s.begun_is s.lines_stand
    c.go_on.ensures.counts c.go_on.ensures.begun
