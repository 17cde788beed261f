-- The borrow is opened, and closed at the end.
use Rattle.std.proofs.Common.{List, [], ◌∷◌, refl}
use mir.Syntax.{named}
use mir.Val.{Val, vunit}
use base.Fml.{ftrue, flft}
use base.Logic.{id⊢}
use types.Kit.{‵, ◌⊛◌, ◌$◌, ◌∵◌, !, qed, done, move, keep, drop, use1, split, join, fsplit, fsplit3, fjoin, fjoin3, feq_i, suffices, frame}
use types.Run.{enter, of_opd, unit_lit, returns}
use types.ByLocal.{alloc_all, pass_all, free_all, look_at, sets}
use denote.RattleType.{owns}
use denote.Ref.{MutRef, mut_vals, mut_Tells}
use denote.Signature.{plain}
use denote.Steps.{opens, closes}
use denote.Triple.Walked.{says, Stays, stay_ref, Goes-ref, ends_at}
use Rattle.std.proofs.raw_atomic.Walks.{proved}
use Rattle.outside_io.specs.Trace.{at_end}
use Rattle.outside_io.specs.declared.reading.ReadingTrace.{ReadingTrace}
use Rattle.outside_io.specs.contracts.reading.ReadingTrace as T
use Rattle.outside_io.specs.contracts.reading.ReadingTrace.end as f
use Rattle.outside_io.proofs.reading.ReadingTrace.end.Statement.{statement}
use Rattle.outside_io.proofs.reading.ReadingTrace.end.Code as code

abbrev stayed : Stays f.ended.signature.params f.ended.kept
stayed = (stay_ref (0 ∷ []) tt (plain (λ _. T.the_row)), tt)

pub end_spec : {M : Type 1} → statement M
end_spec 𝓤 𝓛 𝓜 𝓡 wired =
    let c = f.clauses 𝓛 𝓜.mem 𝓡.returns in
    proved 𝓛 f.ended stayed c 𝓜 𝓡 (Goes-ref 𝓛 1 0 tt (plain (λ _. T.the_row)), tt)
    f.Key.name code.function (code.unfolded 𝓤 𝓛.H 𝓜 𝓡 wired)
    (λ κs. (mut_vals, tt)) (λ κs. (mut_Tells (named 0) κs.0 T.the_row, tt)) (λ κs qs bounds a _ are.
    let b = a.0.ref_ptr.0 in let o = a.0.ref_ptr.1 in let h : ReadingTrace = a.0.now in
    let h' : ReadingTrace = record { reading = record h.reading { stage = at_end } } in
    let at : List Val × Unit {0} = (mut_vals a.0, tt) in
    qed 𝓛 (((‵ (flft κs.0 qs.0) ⊛ ‵ ftrue) ⊛ ‵ (owns (MutRef (named 0) κs.0 T.the_row ∷ []) a at)) ∷ ‵ ftrue ∷ []) ∵
    keep ! (0 ∷ []) $ split ! $ split ! $ move ! (2 ∷ []) $ fsplit ! $ fsplit3 ! $ drop ! $ move ! (0 ∷ 1 ∷ 3 ∷ []) $
    enter ! _ _ _ _ _ $ alloc_all ! (λ l. pass_all ! refl ((tt, tt), tt) $
    move ! (0 ∷ 1 ∷ 2 ∷ []) $ opens ! tt T.the_row {h = h} b o (λ us.
    sets ! (of_opd ! (unit_lit !)) refl (tt, tt) $
    move ! (1 ∷ []) $ use1 𝓛 (‵ ((T.the_row).own_val h' us)) (id⊢ 𝓤 _) $ move ! (1 ∷ 0 ∷ []) $ closes ! tt T.the_row h' us b o $
    returns ! (look_at ! 0 refl) $ free_all ! refl $ keep ! (0 ∷ 1 ∷ 2 ∷ 3 ∷ 4 ∷ []) $
    suffices ! _ (ends_at 𝓛 f.ended stayed c ((κs, qs, bounds, a, at), tt) vunit tt (h', tt) (tt, tt)) $ says ! refl $
    move ! (2 ∷ 4 ∷ []) $ join ! $ frame ! $ feq_i ! (List Val) (mut_vals a.0) (mut_vals a.0) refl $ fjoin3 ! $ fjoin ! $
    feq_i ! (List Val) (vunit ∷ []) (vunit ∷ []) refl $ move ! (1 ∷ 0 ∷ []) $ done !)))
