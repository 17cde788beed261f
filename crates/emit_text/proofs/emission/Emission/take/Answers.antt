use Rattle.std.proofs.Common.{refl, sym, ◌∙◌}
use Rattle.emit_text.proofs.Lines.{section_begins}
use Rattle.emit_text.proofs.emission.Emission.take.Goals as goal

pub returns-then-begins : goal.returns-then-begins
returns-then-begins c = λ events w.
    section_begins c.args.self.now _ events c.args.line c.args.says.now c.in-Before.is (sym c.begins.ensures ∙ c.if-begins.true) w refl refl refl refl
