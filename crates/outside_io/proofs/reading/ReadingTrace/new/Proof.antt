-- `new` makes the value without a field, and its list is empty.
use Rattle.std.proofs.Common.{[], ◌∷◌, refl}
use types.Kit.{‵, raw, ◌$◌, ◌∵◌, !, qed, done, keep, join, fjoin, suffices}
use types.Part.{agg}
use types.Run.{enter, returns, no_more}
use types.ByLocal.{alloc_all, pass_all, free_all, look_at, sets}
use base.Fml.{ftrue}
use denote.Steps.{nothing}
use denote.Triple.Entry.{on_entry}
use denote.Triple.Walked.{says, ends_at}
use Rattle.std.proofs.raw_atomic.Walks.{proved}
use Rattle.outside_io.proofs.Walks.{blank, bare_made}
use Rattle.outside_io.specs.Trace.{going}
use Rattle.outside_io.specs.declared.reading.ReadingTrace.{ReadingTrace}
use Rattle.outside_io.specs.contracts.reading.ReadingTrace.new as f
use Rattle.outside_io.proofs.reading.ReadingTrace.new.Statement.{statement}
use Rattle.outside_io.proofs.reading.ReadingTrace.new.Code as code

abbrev made : ReadingTrace
made = record { reading = record { name = []; given = []; stage = going } }

pub new_spec : {M : Type 1} → statement M
new_spec 𝓤 𝓛 𝓜 𝓡 wired =
    let c = f.clauses 𝓛 𝓜.mem 𝓡.returns in
    proved 𝓛 f.ended tt c 𝓜 𝓡 tt f.Key.name code.function (code.unfolded 𝓤 𝓛.H 𝓜 𝓡 wired) (λ κs. tt) (λ κs. tt) (λ κs qs bounds a _ are.
    qed 𝓛 (raw (on_entry 𝓛 f.signature κs qs a tt) ∷ ‵ ftrue ∷ []) ∵ keep ! [] $
    enter ! _ _ _ _ _ $ alloc_all ! (λ l. pass_all ! refl tt $
    sets ! (agg ! (no_more !)) refl (tt, tt) $
    returns ! (look_at ! 0 refl) $ free_all ! refl $
    nothing ! $ bare_made ! $ fjoin ! $
    suffices ! _ (ends_at 𝓛 f.ended tt c ((κs, qs, bounds, a, tt), tt) blank made tt tt) $ says ! refl $
    nothing ! $ join ! $ nothing ! $ done !))
