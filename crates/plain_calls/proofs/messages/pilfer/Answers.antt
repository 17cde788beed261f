-- The client is the one that the plain numbers stand for.
use Rattle.std.proofs.Common.{◌∙◌, sym, subst}
use Rattle.plain_calls.specs.Getting.{Pilfered}
use Rattle.plain_calls.proofs.Reading.{read_as}
use Rattle.plain_calls.proofs.messages.pilfer.Goals as goal

pub returns : goal.returns
returns c =
    let now = c.in-Some.now in let d = c.in-Some-device_of.device in let old = c.args.live.now in let new = c.pilfer.new.self in
    let all = c.pilfer.ensures in
    let pilfered : Pilfered now c.read.result d old new c.pilfer.result =
    record { stale = all.stale; after = all.after; clients = all.clients; named = all.named; reports = all.reports } in
    read_as _ now _ _ _ (sym c.moment_of.ensures ∙ c.in-Some.is)
    (read_as _ d _ _ _ (sym c.device_of.ensures ∙ c.in-Some-device_of.is)
    (c.pilfer.result, (c.pilfer_status.ensures, subst (λ k. Pilfered now k d old new c.pilfer.result) c.read.ensures pilfered)))
