-- Null stands beside the allocator: such a cell owns nothing.
use mathlib.Core.Path.{refl}
use mathlib.Core.List.{List, [], ◌∷◌, ◌++◌}
use mir.Val.{Val}
use base.Fml.{ftrue, fsep}
use base.Logic.{id⊢}
use prog.Wp.{WpFn}
use contract.Running.{tables}
use types.Kit.{prop, ‵, ◌⊛◌, ◌$◌, ◌∵◌, !, qed, by, keep, drop, use1, split, fsplit, fjoin, regoal}
use types.Part.{agg}
use types.Run.{lit, no_more, and_then, returns, enter}
use types.ByLocal.{alloc_all, free_all, pass_all, get, look_at, sets}
use denote.Exit.{yes}
use denote.RawPtr.{null_ptr}
use denote.Signature.{plain}
use denote.Triple.Walked.{Stays, stay_dropped, walk_of, Goes-dropped}
use Rattle.core.proofs.alloc.Calls.{handle_tells}
use Rattle.std.specs.Prelude.{None}
use Rattle.std.proofs.raw_atomic.Walks.{proved_at, leaves}
use Rattle.inputflinger_c.specs.contracts.live_cell.LiveCell as Cell
use Rattle.inputflinger_c.specs.contracts.live_cell.LiveCell.empty as f
use Rattle.inputflinger_c.proofs.JudgeBox.{global}
use Rattle.inputflinger_c.proofs.Walking.{pair, good_pair, put_together, answered}
use Rattle.inputflinger_c.proofs.live_cell.LiveCell.empty.Statement.{statement}
use Rattle.inputflinger_c.proofs.live_cell.LiveCell.empty.Code as code

abbrev gone : Stays f.ended.signature.params f.ended.kept
gone = (stay_dropped _ yes, tt)

pub empty_spec : {M : Type 1} → statement M
empty_spec 𝓤 𝓛 𝓜 𝓡 wired =
    let c = f.clauses 𝓛 𝓜.mem 𝓡.returns in let Ends = (walk_of 𝓛 f.ended gone c).post in let 𝓣 = tables 𝓤 𝓛.H 𝓜 𝓡 𝓡.env in
    proved_at 𝓛 f.ended gone c 𝓜 𝓡 (Goes-dropped 𝓛 0 (plain (λ _. global.row)) yes (λ κs x w. refl), tt)
    f.Key.name code.function (code.unfolded 𝓤 𝓛.H 𝓜 𝓡 wired) (λ y are.
    let alloc = y.0.3.0 in
    let cell : Cell.the_row.Denot = record { at = null_ptr; alloc = alloc; state = None } in
    qed 𝓛 ((‵ ftrue ⊛ ‵ (fsep (global.row.own_val alloc y.0.4.0) ftrue)) ∷ ‵ ftrue ∷ []) ∵
    split ! $ drop ! $ fsplit ! $
    handle_tells global ! alloc y.0.4.0 (λ v is fits.
    put_together global ! null_ptr alloc v $ fjoin ! $
    regoal ! (λ (ws : List Val). prop (WpFn 𝓤 𝓛.H 𝓣.C 𝓣.Λ code.function (ws ++ []) (Ends y))) is refl $
    enter ! _ _ _ _ _ $ alloc_all ! (λ ls. pass_all ! refl (fits, tt) $
    sets ! (agg ! (and_then ! (lit ! tt) (and_then ! (get ! refl) (no_more !)))) refl (good_pair global null_ptr v fits) $
    returns ! (look_at ! 0 refl) $ free_all ! refl $
    use1 𝓛 (‵ (Cell.the_row.own_val cell (pair null_ptr v ∷ []))) (id⊢ 𝓤 _) $ keep ! (0 ∷ []) $
    answered ! refl $ by ! (leaves 𝓛 f.ended gone c y (pair null_ptr v) cell (tt, tt) (tt, tt)))))
