use Rattle.std.proofs.Common.{OnOk, sym, subst}
use Rattle.dispatch_calls.specs.declared.call.Call.{Call}
use Rattle.why_lines.specs.Explaining.{ExplainsAfter}
use Rattle.why_lines.proofs.calls.explain.Goals as goal

pub returns-in-Pilfer-clause-known : goal.returns-in-Pilfer-clause-known
returns-in-Pilfer-clause-known c =
    λ es s.
    subst
    (λ (call : Call). OnOk c.pilfer.result (ExplainsAfter call es c.args.dispatcher.now.displays c.args.lines.now.items c.pilfer.new.lines.items c.pilfer.new.dispatcher))
    (sym c.in-Pilfer.is)
    (c.pilfer.ensures.known es s)
