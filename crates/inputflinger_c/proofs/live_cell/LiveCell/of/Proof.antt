-- The two fields become the two of the cell, and the service in its block goes with them.
use mathlib.Core.Path.{refl}
use mathlib.Core.List.{List, [], ◌∷◌, ◌++◌}
use mir.Val.{Val}
use base.Fml.{ftrue, fsep}
use base.Logic.{id⊢}
use prog.Wp.{WpFn}
use contract.Running.{tables}
use types.Kit.{prop, ‵, ◌⊛◌, ◌$◌, ◌∵◌, !, qed, by, keep, drop, use1, split, fsplit, fjoin, regoal}
use types.Part.{whole, sub, agg}
use types.Run.{stop, fld, no_more, and_then, of_opd, returns, enter}
use types.ByLocal.{alloc_all, free_all, pass_all, get, look_at, get_in, sets}
use denote.Exit.{yes}
use denote.RattleType.{RattleType}
use denote.Signature.{plain}
use denote.Triple.Walked.{Stays, stay_dropped, walk_of, Goes-dropped}
use Rattle.std.specs.Prelude.{Some}
use Rattle.std.proofs.raw_atomic.Walks.{proved_at, leaves}
use Rattle.live_input.specs.contracts.limit.Limited as Live
use Rattle.inputflinger_c.specs.contracts.live_cell.LiveCell as Cell
use Rattle.inputflinger_c.specs.contracts.unboxed.Unboxed as Unboxed
use Rattle.inputflinger_c.specs.contracts.live_cell.LiveCell.of as f
use Rattle.inputflinger_c.proofs.JudgeBox.{global}
use Rattle.inputflinger_c.proofs.Walking.{pair, good_pair, good_address, taken_apart, put_together, answered}
use Rattle.inputflinger_c.proofs.live_cell.LiveCell.of.Statement.{statement}
use Rattle.inputflinger_c.proofs.live_cell.LiveCell.of.Code as code

-- what the box of a service held together
abbrev From : RattleType
From = Unboxed.the_row Live.the_row global.row global.g

abbrev gone : Stays f.ended.signature.params f.ended.kept
gone = (stay_dropped (plain (λ _. From)) yes, tt)

pub of_spec : {M : Type 1} → statement M
of_spec 𝓤 𝓛 𝓜 𝓡 wired =
    let c = f.clauses 𝓛 𝓜.mem 𝓡.returns in let Ends = (walk_of 𝓛 f.ended gone c).post in let 𝓣 = tables 𝓤 𝓛.H 𝓜 𝓡 𝓡.env in
    proved_at 𝓛 f.ended gone c 𝓜 𝓡 (Goes-dropped 𝓛 0 (plain (λ _. From)) yes (λ κs x w. refl), tt)
    f.Key.name code.function (code.unfolded 𝓤 𝓛.H 𝓜 𝓡 wired) (λ y are.
    let service = y.0.3.0 in let words = y.0.4.0 in
    let cell : Cell.the_row.Denot = record { at = service.at; alloc = service.alloc; state = Some service.value } in
    qed 𝓛 ((‵ ftrue ⊛ ‵ (fsep (From.own_val service words) ftrue)) ∷ ‵ ftrue ∷ []) ∵
    split ! $ drop ! $ fsplit ! $ fsplit ! $
    taken_apart global ! service.at service.alloc words (λ v are_pair fits.
    -- [the allocator; the service in its block; nothing; nothing]
    put_together global ! service.at service.alloc v $ fjoin ! $
    regoal ! (λ (ws : List Val). prop (WpFn 𝓤 𝓛.H 𝓣.C 𝓣.Λ code.function (ws ++ []) (Ends y))) are_pair refl $
    enter ! _ _ _ _ _ $ alloc_all ! (λ ls. pass_all ! refl (good_pair global service.at v fits, tt) $
    sets ! (of_opd ! (get_in ! (fld ! refl (stop !)) (sub ! 0 refl (whole !)))) refl (good_address service.at) $
    sets ! (of_opd ! (get_in ! (fld ! refl (stop !)) (sub ! 1 refl (whole !)))) refl fits $
    sets ! (of_opd ! (get ! refl)) refl (good_address service.at) $
    sets ! (agg ! (and_then ! (get ! refl) (and_then ! (get ! refl) (no_more !)))) refl (good_pair global service.at v fits) $
    returns ! (look_at ! 0 refl) $ free_all ! refl $
    use1 𝓛 (‵ (Cell.the_row.own_val cell (pair service.at v ∷ []))) (id⊢ 𝓤 _) $ keep ! (0 ∷ []) $
    answered ! refl $ by ! (leaves 𝓛 f.ended gone c y (pair service.at v) cell (tt, tt) (tt, tt)))))
