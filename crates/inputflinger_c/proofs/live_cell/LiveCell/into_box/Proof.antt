-- The address and the allocator of the cell go to `from_raw` with the service in its block, and the box comes back.
use mathlib.Core.Path.{◌≡◌, refl, sym, ap, ◌∙◌}
use mathlib.Core.List.{List, [], ◌∷◌, ◌++◌}
use base.Fraction.{full_share}
use mir.Val.{Val}
use base.Fml.{ftrue, fsep, flft}
use base.Logic.{SProp, ent, sep, ex, guard, emp, id⊢}
use contract.BorrowLft.{◌⊑◌}
use contract.Monad.{Fun, fact, fact_i}
use contract.Running.{tables}
use prog.Memory.{Memory}
use prog.Routine.{Routine}
use prog.Wp.{WpFn}
use seplogic.Ra.Ura.{Ura}
use types.Logic.{Logic, sem}
use types.Kit.{prop, at_ret, ‵, raw, given, ◌⊛◌, some, later, ◌$◌, ◌∵◌, !, qed, by, move, keep, drop, use0, use1, use2, split, split3, join, fsplit, fjoin, feq_i, pick, await, rewrite, regoal, learn, show, check, updating, now, done}
use types.Part.{whole, sub}
use types.Run.{stop, fld, no_more, and_then, of_opd, first, blocks, exec, returns, enter}
use types.ByLocal.{alloc_all, free_all, pass_all, get, look_at, get_in, sets, lands_last, env}
use denote.Exit.{yes}
use denote.Param.NoDrop.{glues}
use denote.RattleType.{RattleType}
use denote.Param.Laws.{Laws}
use denote.RawPtr.{Ptr, ptr_val}
use denote.Signature.{plain, type_at}
use denote.Steps.{nothing, heard}
use denote.Triple.Call.{calls_at_last}
use denote.Triple.Spec.{triple_of}
use denote.Triple.Statement.{Contract}
use denote.Triple.Table.{framed}
use denote.Triple.Walked.{Stays, stay_dropped, walk_of, Goes-dropped}
use Rattle.std.specs.Global.{Global}
use Rattle.std.specs.Prelude.{Option, Some, IsSome}
use Rattle.std.proofs.raw_atomic.Walks.{proved_at, leaves}
use Rattle.std_alloc.specs.contracts.boxed.Box.from_raw as g
use Rattle.std_alloc.proofs.boxed.Box.from_raw.Met as g-met
use Rattle.std_heap.proofs.GlobalAllocator.TheImpl.Met as heap-met
use Rattle.std_heap.proofs.Global.TheLaws as heap
use Rattle.live_input.specs.declared.limit.Limited.{Limited}
use Rattle.live_input.specs.contracts.limit.Limited as Live
use Rattle.live_input.proofs.limit.Limited.TheLaws as live
use Rattle.inputflinger_c.specs.LiveOwning.{live_owns}
use Rattle.inputflinger_c.specs.contracts.live_cell.LiveCell as Cell
use Rattle.inputflinger_c.specs.contracts.live_cell.LiveCell.into_box as f
use Rattle.inputflinger_c.proofs.Destruct++none.drop.Code as no_drop
use Rattle.inputflinger_c.proofs.JudgeBox.{global, spent, spent_laws, some_of}
use Rattle.inputflinger_c.proofs.Walking.{good_pair, good_address, good_answer, taken_apart, put_together, answered}
use Rattle.inputflinger_c.proofs.live_cell.LiveCell.into_box.Statement.{statement}
use Rattle.inputflinger_c.proofs.live_cell.LiveCell.into_box.Code as code

abbrev gone : Stays f.ended.signature.params f.ended.kept
gone = (stay_dropped (plain (λ _. Cell.the_row)) yes, tt)

abbrev Answer : RattleType
Answer = type_at (f.ended).signature.result tt

-- the types that the call is made at
abbrev X : RattleType
X = spent Live.the_row

abbrev A : RattleType
A = spent global.row

in_X : Laws X
in_X = spent_laws Live.the_row live.the_row_laws refl

in_A : Laws A
in_A = spent_laws global.row global.laws refl

module _ {M : Type 1} {𝓤 : Ura M} (𝓛 : Logic 𝓤) (at_mem : Memory → SProp 𝓤) (answers : Routine → Fun 𝓤) where
  -- what `from_raw` asks for and gives
  abbrev Asks : Contract 𝓤
  Asks = triple_of 𝓛 (g.signature X A global.g global.d global.drops) (g.spec X A global.g global.d global.drops 𝓛 at_mem answers)

  module _ (at : Ptr) (alloc : Global) (v : Val) (state : Limited) where
    -- the call: it lasts as long as the program, and is of the service that the cell has
    abbrev call : Asks.Ghost
    call = ((([], ([], tt)), (full_share, (full_share, tt)), tt, (alloc, (at, tt)), (v ∷ [], (ptr_val at ∷ [], tt))), state)

    -- what it asks for is made of what the cell owns, since the tokens of such a lifetime cost nothing
    asked : ent 𝓤 (sep 𝓤 (sem 𝓛 (live_owns alloc at (Some state))) (sem 𝓛 (global.row.own_val alloc (v ∷ [])))) (Asks.pre call)
    asked =
        qed 𝓛 (‵ (live_owns alloc at (Some state)) ∷ ‵ (global.row.own_val alloc (v ∷ [])) ∷ []) ∵
        use0 𝓛 (raw (fact 𝓤 ([] ⊑ A.lives))) (fact_i 𝓤 ([] ⊑ A.lives) (emp 𝓤) (heap.the_within [])) $ join ! $
        use0 𝓛 (raw (fact 𝓤 ([] ⊑ X.lives))) (fact_i 𝓤 ([] ⊑ X.lives) (emp 𝓤) (live.the_within [])) $ join ! $
        nothing ! $ feq_i ! (List Val) (ptr_val at ∷ []) (ptr_val at ∷ []) refl $ fjoin ! $ move ! (2 ∷ 0 ∷ []) $ fjoin ! $
        nothing ! $ use0 𝓛 (‵ (flft [] full_share)) (𝓛.lfts.lft-nil full_share) $ join ! $ use0 𝓛 (‵ (flft [] full_share)) (𝓛.lfts.lft-nil full_share) $ join ! $
        join ! $ join ! $ done !

    -- and it gives a box of the same service
    given_back : (u : Val) → ent 𝓤 (Asks.post call u) (𝓛.H.⇛ (ex 𝓤 (λ (box : Answer.Denot). guard 𝓤 (box.value ≡ state) (sem 𝓛 (Answer.own_val box (u ∷ []))))))
    given_back u =
        qed 𝓛 (raw (Asks.post call u) ∷ []) ∵ updating ! $
        use1 𝓛 (later (some (λ (box : Answer.Denot). ((‵ (flft [] full_share) ⊛ ‵ (flft [] full_share) ⊛ ‵ ftrue) ⊛ ‵ (Answer.own_val box (u ∷ []))) ⊛ some (λ (ws : Unit {0} × (Unit {0} × Unit {0})).
        ‵ (fsep ftrue (fsep ftrue ftrue)) ⊛ (raw (fact 𝓤 (box.value ≡ state)) ⊛ raw (fact 𝓤 (box.alloc ≡ alloc))))))) (id⊢ 𝓤 _) $
        await ! tt $ pick ! (λ box. split ! $ split ! $ move ! (2 ∷ []) $ pick ! (λ ws. split3 ! $ drop ! $ heard ! (box.value ≡ state) (λ same.
        now ! $ show ! (λ (b : Answer.Denot). guard 𝓤 (b.value ≡ state) (sem 𝓛 (Answer.own_val b (u ∷ [])))) box $ check ! same $ keep ! (2 ∷ []) $ done !)))

pub into_box_spec : {M : Type 1} → statement M
unfolding no_drop.code
into_box_spec {M} 𝓤 𝓛 𝓜 𝓡 wired =
    let c = f.clauses 𝓛 𝓜.mem 𝓡.returns in let Ends = (walk_of 𝓛 f.ended gone c).post in let 𝓣 = tables 𝓤 𝓛.H 𝓜 𝓡 𝓡.env in
    let From_raw = Asks 𝓛 𝓜.mem 𝓡.returns in
    let allocates = heap-met.passed 𝓡.env (code.calls-std_heap::GlobalAllocator::allocate 𝓡.env wired) (code.calls-std_heap::GlobalAllocator::deallocate 𝓡.env wired)
    (code.calls-std_heap::GlobalAllocator::grow 𝓡.env wired) (code.calls-std_heap::GlobalAllocator::shrink 𝓡.env wired) M 𝓤 𝓛 𝓜 𝓡 in
    let drops_nothing = glues "inputflinger_c::Destruct++none::drop" 𝓡.env (code.calls-inputflinger_c::Destruct++none::drop 𝓡.env wired) A in_A M 𝓤 𝓛 𝓜 𝓡 in
    let known = g-met.met 𝓤 𝓛 𝓜 𝓡 (code.calls-std_alloc::boxed::Box::from_raw 𝓡.env wired) X A in_X in_A global.g global.d global.drops allocates drops_nothing in
    proved_at 𝓛 f.ended gone c 𝓜 𝓡 (Goes-dropped 𝓛 0 (plain (λ _. Cell.the_row)) yes (λ κs x w. refl), tt)
    f.Key.name code.function (code.unfolded 𝓤 𝓛.H 𝓜 𝓡 wired) (λ y are.
    let cell = y.0.3.0 in let words = y.0.4.0 in
    qed 𝓛 ((‵ ftrue ⊛ ‵ (fsep (Cell.the_row.own_val cell words) ftrue)) ∷ raw (fact 𝓤 (IsSome cell.state)) ∷ []) ∵
    move ! (1 ∷ []) $ heard ! (IsSome cell.state) (λ there. let state = some_of cell.state there in
    split ! $ drop ! $ fsplit ! $ fsplit ! $
    taken_apart global ! cell.at cell.alloc words (λ v are_pair fits.
    -- [the allocator; what the cell owns; nothing]
    move ! (1 ∷ []) $ rewrite ! 0 (λ (o : Option Limited). ‵ (live_owns cell.alloc cell.at o)) state.1 refl $
    regoal ! (λ (ws : List Val). prop (WpFn 𝓤 𝓛.H 𝓣.C 𝓣.Λ code.function (ws ++ []) (Ends y))) are_pair refl $
    enter ! _ _ _ _ _ $ alloc_all ! (λ ls. pass_all ! refl (good_pair global cell.at v fits, tt) $
    sets ! (of_opd ! (get_in ! (fld ! refl (stop !)) (sub ! 0 refl (whole !)))) refl (good_address cell.at) $
    sets ! (of_opd ! (get_in ! (fld ! refl (stop !)) (sub ! 1 refl (whole !)))) refl fits $
    first ! $ blocks ! $ sets ! (of_opd ! (get ! refl)) refl (good_address cell.at) $
    let this = call 𝓛 𝓜.mem 𝓡.returns cell.at cell.alloc v state.0 in
    use2 𝓛 (raw (From_raw.pre this)) (asked 𝓛 𝓜.mem 𝓡.returns cell.at cell.alloc v state.0) $
    calls_at_last ! (framed 𝓤 𝓛.H 𝓜 𝓣) From_raw known this (and_then ! (get ! refl) (and_then ! (get ! refl) (no_more !))) (λ u.
    use1 𝓛 (later (some (λ (box : Answer.Denot). given (box.value ≡ state.0) (‵ (Answer.own_val box (u ∷ []))))))
    (given_back 𝓛 𝓜.mem 𝓡.returns cell.at cell.alloc v state.0 u) $
    await ! tt $ pick ! (λ box. learn ! (λ same. fsplit ! $
    taken_apart global ! box.ptr box.alloc (u ∷ []) (λ w answer fits_too.
    put_together global ! box.ptr box.alloc w $ fjoin ! $ rewrite ! 0 (λ (us : List Val). ‵ (Answer.own_val box us)) (sym answer) refl $
    let good = good_answer global box.ptr w u answer fits_too in
    lands_last ! refl good $ exec ! 𝓣.C 𝓣.Λ (env (code.function).locals ls) code.Mir.t-4 (at_ret _ (Ends y)) $
    sets ! (of_opd ! (get ! refl)) refl good $
    returns ! (look_at ! 0 refl) $ free_all ! refl $ keep ! (0 ∷ []) $
    answered ! (state.1 ∙ ap Some (sym same)) $ by ! (leaves 𝓛 f.ended gone c y u box (tt, tt) (tt, tt))))))))))
