use Rattle.std.proofs.Common.{◌≡◌, suc, ◌+◌, ◌++◌, drop, take, get_or, set, sym, ap, ap₂, ◌∙◌, subst, arith}
use Rattle.std.proofs.lemmas.Bool.{true≢false}
use Rattle.input_types.specs.declared.pointer.Pointer.{Pointer}
use Rattle.input_types.specs.Pointers.{unused}
use Rattle.window_snapshot.specs.Origins.{place_from}
use Rattle.dispatcher.specs.InputChannel.Moves.{counted_from}
use Rattle.stream_text.proofs.Moved.{at_place, get_any, moved_next}
use Rattle.stream_text.proofs.writing.kept_pointers.move_all.Goals.{then-same, else-same}
use Rattle.stream_text.proofs.writing.kept_pointers.move_all.Goals as goal

pub loop-i-preserved : goal.loop-i-preserved
loop-i-preserved c =
    let i = c.loop-i.i in
    let o = c.args.origin in
    let ps = c.args.list.now in
    let ks = c.args.kept.now in
    let new = c.move_one-stays.new.kept in
    let at : c.place_from-at.result ≡ place_from o (get_or ps i unused).at =
    c.place_from-at.ensures ∙ ap (λ (p : Pointer). place_from o p.at) (get_any ps i c.index-list-i.result unused (omega (arith, c.loop-i-test.true))) in
    let next : new ≡ counted_from o (take (suc i) ps) ++ drop (suc i) ks =
    c.move_one-stays.ensures.list
    ∙ ap₂ (λ xs a. set xs i (at_place (get_or xs i unused).id a)) c.loop-i.invariant.0 at
    ∙ moved_next o ks ps i c.requires (omega (arith, c.loop-i-test.true)) in
    let up : suc i ≡ i + 1 = omega arith in (
      subst (λ n. new ≡ counted_from o (take n ps) ++ drop n ks) up next,
      elim c.if-same.branch [
        | then-same w ↦ λ e. c.move_one-stays.ensures.same (sym w.same-is ∙ e) ∙ c.loop-i.invariant.1 w.if-same.true
        | else-same w ↦ λ e. absurd (true≢false (sym e ∙ w.same-is ∙ w.if-same.false))
      ],
    )
