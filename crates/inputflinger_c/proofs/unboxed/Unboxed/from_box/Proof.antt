-- What the box owns is what the call asks for, as it stands. The pair that comes back becomes the two fields, and the value in its block goes with them.
use mathlib.Core.Path.{◌≡◌, refl, sym, ap}
use mathlib.Core.List.{List, [], ◌∷◌, ◌++◌}
use seplogic.Ra.Ura.{Ura}
use mir.Syntax.{Args, Dict, a_type, dcons, dnil}
use mir.MapTy.{inst_fn}
use mir.Val.{Val}
use base.Logic.{SProp, ent, sep, ex, emp, id⊢}
use contract.Monad.{Fun, fact, fact_i}
use contract.Running.{tables}
use prog.Memory.{Memory}
use prog.Routine.{Routine}
use prog.Wp.{WpFn}
use types.Logic.{Logic, sem}
use types.Kit.{prop, ‵, raw, ◌⊛◌, some, later, ◌$◌, ◌∵◌, !, qed, by, move, keep, drop, use0, use1, split, split3, fjoin, pick, await, rewrite, regoal, show, updating, now, done}
use types.Part.{whole, sub, agg}
use types.Run.{stop, fld, no_more, and_then, of_opd, returns, enter}
use types.ByLocal.{alloc_all, pass_all, free_all, look_at, get, get_in, sets, lands_as}
use denote.Exit.{no}
use denote.Param.{param, bounded}
use denote.Param.Laws.{Laws}
use denote.RattleType.{RattleType}
use denote.RawPtr.{Ptr}
use denote.Signature.{plain}
use denote.Steps.{heard, nothing, only}
use denote.Triple.Call.{calls_at}
use denote.Triple.Clauses.{Ended, Lasts, lasts}
use denote.Triple.Entry.{alive}
use denote.Triple.Spec.{triple_of}
use denote.Triple.Statement.{Contract}
use denote.Triple.Table.{framed}
use denote.Triple.Walked.{Stays, stay_dropped, walk_of}
use Rattle.core.proofs.alloc.Calls.{Al, token, Goes-blank}
use Rattle.core.specs.declared.alloc.Allocator.{Ghosts}
use Rattle.std.proofs.raw_atomic.Walks.{proved_at, leaves}
use Rattle.std_alloc.specs.Box.Ownership.{box_owns}
use Rattle.std_alloc.specs.contracts.boxed.Box as Box
use Rattle.std_alloc.specs.contracts.boxed.Box.into_raw_with_allocator as g
use Rattle.std_alloc.proofs.boxed.Box.into_raw_with_allocator.Met as g-met
use Rattle.inputflinger_c.specs.contracts.unboxed.Unboxed as Unboxed
use Rattle.inputflinger_c.specs.contracts.unboxed.Unboxed.from_box as f
use Rattle.inputflinger_c.proofs.Walking.{pair, fields, good_pair, good_address, as_pair, taken_apart, put_together}
use Rattle.inputflinger_c.proofs.unboxed.Unboxed.from_box.Statement.{statement}
use Rattle.inputflinger_c.proofs.unboxed.Unboxed.from_box.Code as code

module _ (T A : RattleType) (in_A : Laws A) (ghosts : Ghosts A.Denot) (allocator drop_A drop_T : Dict) where
  abbrev heap : Al
  heap = record { row = A; laws = in_A; g = ghosts; d = allocator; drops = drop_A }

  abbrev Owner : RattleType
  Owner = Box.the_row (param 0 T) (param 1 A) ghosts

  abbrev Loose : RattleType
  Loose = Unboxed.the_row (param 0 T) (param 1 A) ghosts

  abbrev passed : Args
  passed = bounded (a_type ∷ a_type ∷ []) (T, (A, tt)) (dcons allocator (dcons drop_A (dcons drop_T dnil)))

  abbrev ended : Ended
  ended = f.ended T A ghosts allocator drop_A drop_T

  abbrev gone : Stays ended.signature.params ended.kept
  gone = (stay_dropped (plain (λ _. Owner)) no, tt)

  module _ {M : Type 1} {𝓤 : Ura M} (𝓛 : Logic 𝓤) (at_mem : Memory → SProp 𝓤) (run : Routine → Fun 𝓤) where
    -- what the call asks for and gives: it asks for the box, as this function does
    abbrev Asks : Contract 𝓤
    Asks = triple_of 𝓛 (g.signature T A ghosts allocator drop_A drop_T) (g.spec T A ghosts allocator drop_A drop_T 𝓛 at_mem run)

    -- it gives the two fields in a pair, and the value in its block with the right to free it
    given_back : (y : Asks.Ghost) (u : Val)
        → ent 𝓤 (Asks.post y u) (𝓛.H.⇛ (ex 𝓤 (λ (r : Ptr × A.Denot). sep 𝓤 (sem 𝓛 (fields heap r.0 r.1 (u ∷ [])))
        (sep 𝓤 (sem 𝓛 (box_owns (token heap r.1) (param 0 T) r.0 y.0.3.0.value)) (alive 𝓛 ended.signature y.0.0 y.0.1)))))
    given_back y u =
        let box = y.0.3.0 in
        qed 𝓛 (raw (Asks.post y u) ∷ []) ∵ updating ! $
        use1 𝓛 (later (some (λ (r : Ptr × A.Denot). (raw (alive 𝓛 ended.signature y.0.0 y.0.1) ⊛ ‵ (fields heap r.0 r.1 (u ∷ []))) ⊛ some (λ (ws : Lasts ended y.0.0 y.0.3).
        ‵ (lasts ended y.0.0 y.0.3 ws) ⊛ (raw (fact 𝓤 (r.1 ≡ box.alloc)) ⊛ ‵ (box_owns (token heap box.alloc) (param 0 T) r.0 box.value)))))) (id⊢ 𝓤 _) $
        await ! tt $ pick ! (λ r. split ! $ split ! $ move ! (2 ∷ []) $ pick ! (λ ws. split3 ! $ drop ! $ heard ! (r.1 ≡ box.alloc) (λ same.
        rewrite ! 0 (λ (a : A.Denot). ‵ (box_owns (token heap a) (param 0 T) r.0 box.value)) (sym same) refl $ move ! (2 ∷ 0 ∷ 1 ∷ []) $
        now ! $ show ! (λ (s : Ptr × A.Denot). sep 𝓤 (sem 𝓛 (fields heap s.0 s.1 (u ∷ [])))
        (sep 𝓤 (sem 𝓛 (box_owns (token heap s.1) (param 0 T) s.0 box.value)) (alive 𝓛 ended.signature y.0.0 y.0.1))) r $ done !)))

pub from_box_spec : {M : Type 1} → statement M
from_box_spec 𝓤 𝓛 𝓜 𝓡 wired T A in_T in_A ghosts allocator drop_A drop_T allocates drops_A drops_T =
    let Z = heap T A in_A ghosts allocator drop_A drop_T in let En = ended T A in_A ghosts allocator drop_A drop_T in let To = Loose T A in_A ghosts allocator drop_A drop_T in
    let args = passed T A in_A ghosts allocator drop_A drop_T in let body = inst_fn args code.function in let nothing_kept = gone T A in_A ghosts allocator drop_A drop_T in
    let c = f.clauses T A ghosts allocator drop_A drop_T 𝓛 𝓜.mem 𝓡.returns in let Ends = (walk_of 𝓛 En nothing_kept c).post in let 𝓣 = tables 𝓤 𝓛.H 𝓜 𝓡 𝓡.env in
    let Call = Asks T A in_A ghosts allocator drop_A drop_T 𝓛 𝓜.mem 𝓡.returns in
    let known = g-met.met 𝓤 𝓛 𝓜 𝓡 (code.calls-std_alloc::boxed::Box::into_raw_with_allocator 𝓡.env wired) T A in_T in_A ghosts allocator drop_A drop_T allocates drops_A drops_T in
    proved_at 𝓛 En nothing_kept c 𝓜 𝓡 (Goes-blank 𝓛 2 (plain (λ _. Owner T A in_A ghosts allocator drop_A drop_T)) no (λ κs x w. tt), tt)
    (f.Key.name args) body (code.unfolded 𝓤 𝓛.H 𝓜 𝓡 wired (T, (A, tt)) allocator drop_A drop_T) (λ y are.
    let box = y.0.3.0 in let words = y.0.4.0 in let call : List Val → Call.Ghost = λ ws. ((y.0.0, y.0.1, tt, (box, tt), (ws, tt)), tt) in
    let is = as_pair Z 𝓛 box.ptr box.alloc words are.0.0 in
    qed 𝓛 (raw (Call.pre (call words)) ∷ []) ∵
    rewrite ! 0 (λ (ws : List Val). raw (Call.pre (call ws))) is.1.0 refl $
    regoal ! (λ (ws : List Val). prop (WpFn 𝓤 𝓛.H 𝓣.C 𝓣.Λ body (ws ++ []) (Ends y))) is.1.0 refl $
    enter ! _ _ _ _ _ $ alloc_all ! (λ ls. pass_all ! refl (good_pair Z box.ptr is.0 is.1.1, tt) $
    sets ! (of_opd ! (get ! refl)) refl (good_pair Z box.ptr is.0 is.1.1) $
    calls_at ! (framed 𝓤 𝓛.H 𝓜 𝓣) Call known (call (pair box.ptr is.0 ∷ [])) (and_then ! (get ! refl) (no_more !)) (λ u.
    use1 𝓛 (later (some (λ (r : Ptr × A.Denot). ‵ (fields Z r.0 r.1 (u ∷ [])) ⊛ ‵ (box_owns (token Z r.1) (param 0 T) r.0 box.value) ⊛ raw (alive 𝓛 En.signature y.0.0 y.0.1))))
    (given_back T A in_A ghosts allocator drop_A drop_T 𝓛 𝓜.mem 𝓡.returns (call (pair box.ptr is.0 ∷ [])) u) $
    await ! tt $ pick ! (λ r. split3 ! $
    taken_apart Z ! r.0 r.1 (u ∷ []) (λ v are_pair fits.
    lands_as ! (ap only are_pair) refl (good_pair Z r.0 v fits) $
    sets ! (of_opd ! (get_in ! (fld ! refl (stop !)) (sub ! 0 refl (whole !)))) refl (good_address r.0) $
    sets ! (of_opd ! (get_in ! (fld ! refl (stop !)) (sub ! 1 refl (whole !)))) refl fits $
    sets ! (of_opd ! (get ! refl)) refl fits $
    sets ! (agg ! (and_then ! (get ! refl) (and_then ! (get ! refl) (no_more !)))) refl (good_pair Z r.0 v fits) $
    returns ! (look_at ! 0 refl) $ free_all ! refl $
    -- [the allocator; the value in its block; the tokens]
    put_together Z ! r.0 r.1 v $ fjoin ! $
    let made : To.Denot = record { at = r.0; alloc = r.1; value = box.value } in
    use1 𝓛 (‵ (To.own_val made (pair r.0 v ∷ []))) (id⊢ 𝓤 _) $
    use0 𝓛 (raw (fact 𝓤 (box.value ≡ box.value))) (fact_i 𝓤 (box.value ≡ box.value) (emp 𝓤) refl) $ nothing ! $ nothing ! $ fjoin ! $
    keep ! (3 ∷ 0 ∷ 2 ∷ 1 ∷ []) $ by ! (leaves 𝓛 En nothing_kept c y (pair r.0 v) made ((tt, (tt, tt)), tt) (tt, tt)))))))
