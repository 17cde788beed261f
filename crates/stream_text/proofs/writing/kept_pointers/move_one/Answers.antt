use Rattle.std.proofs.Common.{◌≡◌, get_or, List, sym, ap, ◌∙◌}
use Rattle.input_types.specs.Pointers.{unused}
use Rattle.input_types.specs.declared.pointer.Pointer.{Pointer}
use Rattle.stream_text.proofs.Moved.{get_any, same_place, same_put}
use Rattle.stream_text.proofs.writing.kept_pointers.move_one.Goals as goal

pub returns-then-eq-clause-list : goal.returns-then-eq-clause-list
returns-then-eq-clause-list c =
    let ks = c.args.kept.now in
    let i = c.args.i in
    let r = c.index-as_slice-i.result in
    let there : (get_or ks i unused).at ≡ c.args.at =
    ap (λ (p : Pointer). p.at) (get_any ks i unused r c.requires)
    ∙ ap (λ (ps : List Pointer). (get_or ps i r).at) (sym c.as_slice.ensures.value)
    ∙ same_place _ c.args.at (sym c.eq.ensures ∙ c.if-eq.true) in
    same_put ks i c.args.at there
