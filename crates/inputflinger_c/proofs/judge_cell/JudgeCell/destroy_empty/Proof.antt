-- The cell owns nothing beside its address and the allocator, which are left where the struct lay.
use mathlib.Core.Path.{◌≡◌, refl}
use mathlib.Core.List.{List, [], ◌∷◌, ◌++◌}
use mir.Val.{Val, vunit}
use base.Fml.{ftrue, fsep}
use prog.Wp.{WpFn}
use contract.Monad.{fact}
use contract.Running.{tables}
use types.Kit.{prop, ‵, raw, ◌⊛◌, ◌$◌, ◌∵◌, !, qed, by, keep, drop, split, fsplit, fjoin, feq_i, regoal}
use types.Run.{of_opd, unit_lit, returns, enter}
use types.ByLocal.{alloc_all, free_all, pass_all, look_at, sets}
use denote.Exit.{yes}
use denote.Signature.{plain}
use denote.Steps.{nothing}
use denote.Triple.Walked.{Stays, stay_dropped, walk_of, Goes-dropped}
use Rattle.std.specs.Prelude.{None}
use Rattle.std.proofs.raw_atomic.Walks.{proved_at, leaves}
use Rattle.inputflinger_c.specs.contracts.judge_cell.JudgeCell as Cell
use Rattle.inputflinger_c.specs.contracts.judge_cell.JudgeCell.destroy_empty as f
use Rattle.inputflinger_c.proofs.JudgeBox.{global}
use Rattle.inputflinger_c.proofs.Walking.{good_pair, taken_apart}
use Rattle.inputflinger_c.proofs.judge_cell.JudgeCell.destroy_empty.Statement.{statement}
use Rattle.inputflinger_c.proofs.judge_cell.JudgeCell.destroy_empty.Code as code

abbrev gone : Stays f.ended.signature.params f.ended.kept
gone = (stay_dropped (plain (λ _. Cell.the_row)) yes, tt)

pub destroy_empty_spec : {M : Type 1} → statement M
destroy_empty_spec 𝓤 𝓛 𝓜 𝓡 wired =
    let c = f.clauses 𝓛 𝓜.mem 𝓡.returns in let Ends = (walk_of 𝓛 f.ended gone c).post in let 𝓣 = tables 𝓤 𝓛.H 𝓜 𝓡 𝓡.env in
    proved_at 𝓛 f.ended gone c 𝓜 𝓡 (Goes-dropped 𝓛 0 (plain (λ _. Cell.the_row)) yes (λ κs x w. refl), tt)
    f.Key.name code.function (code.unfolded 𝓤 𝓛.H 𝓜 𝓡 wired) (λ y are.
    let cell = y.0.3.0 in let words = y.0.4.0 in
    qed 𝓛 ((‵ ftrue ⊛ ‵ (fsep (Cell.the_row.own_val cell words) ftrue)) ∷ raw (fact 𝓤 (cell.told ≡ None)) ∷ []) ∵
    split ! $ drop ! $ fsplit ! $ fsplit ! $
    taken_apart global ! cell.at cell.alloc words (λ v are_pair fits.
    regoal ! (λ (ws : List Val). prop (WpFn 𝓤 𝓛.H 𝓣.C 𝓣.Λ code.function (ws ++ []) (Ends y))) are_pair refl $
    enter ! _ _ _ _ _ $ alloc_all ! (λ ls. pass_all ! refl (good_pair global cell.at v fits, tt) $
    sets ! (of_opd ! (unit_lit !)) refl (tt, tt) $
    returns ! (look_at ! 0 refl) $ free_all ! refl $ keep ! [] $
    nothing ! $ feq_i ! (List Val) (vunit ∷ []) (vunit ∷ []) refl $ nothing ! $ nothing ! $ fjoin ! $ nothing ! $
    by ! (leaves 𝓛 f.ended gone c y vunit tt (tt, tt) (tt, tt)))))
