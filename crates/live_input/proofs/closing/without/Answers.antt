-- Windows of a snapshot without one of them are a snapshot.
use Rattle.std.proofs.Common.{sym, ap, ◌∙◌, subst}
use Rattle.window_snapshot.specs.Snapshot.{snapshot_of}
use Rattle.window_snapshot.specs.WindowList.{IsSnapshot}
use Rattle.live_input.proofs.Fewer.{without_snapshot, err≢ok}
use Rattle.live_input.proofs.closing.without.Goals as goal

pub unreachable-requires : goal.unreachable-requires
unreachable-requires c =
    err≢ok _ _
    (sym c.in-Err.is ∙ c.new.ensures ∙ ap snapshot_of c.in_ok-others.ensures
    ∙ without_snapshot c.args.channel c.windows.result.now (subst IsSnapshot (sym c.windows.ensures.windows) c.windows.ensures.valid))
