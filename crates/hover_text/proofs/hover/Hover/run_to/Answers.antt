use Rattle.std.proofs.Common.{◌≡◌, ◌≤◌, ◌∙◌, ℕ, None, ap, sym, subst}
use Rattle.std.specs.Prelude.{slice_get}
use Rattle.std.proofs.lemmas.Result.{on_err_weaker, on_ok_weaker}
use Rattle.cursor_core.specs.Calls.{moment_of}
use Rattle.cursor_core.specs.Kept.{CursorState}
use Rattle.hover_text.specs.Running.{HasMade, due_of}
use Rattle.hover_text.specs.State.{HoverState}
use Rattle.hover_text.proofs.Running.{motion_made}
use Rattle.hover_text.proofs.hover.Hover.run_to.Goals as goal

pub returns-clause-made : goal.returns-clause-made
returns-clause-made c = λ d all t h le up.
    let steps = c.args.steps.now in
    let m = c.args.motion in
    let at : c.moment.result ≡ moment_of m = c.moment.ensures in
    let k : HoverState = record { cursor = c.self.inside.cursor; reader = c.self.inside.reader; next = c.self.inside.next } in
    let here : HasMade d steps all (moment_of m) k =
    subst (λ (s : HoverState). HasMade d steps all (moment_of m) s) (sym c.self.view_is)
    (subst (λ (n : ℕ). HasMade d steps all n c.steps_up_to.new.self) at (c.in_ok-steps_up_to.ensures.made d all t h (subst (λ (n : ℕ). t ≤ n) (sym at) le))) in
    let none : due_of (moment_of m) (slice_get steps k.next) ≡ None =
    ap (λ (n : ℕ). due_of n (slice_get steps k.next)) (sym at)
    ∙ ap (λ (s : HoverState). due_of c.moment.result (slice_get steps s.next)) c.self.view_is
    ∙ c.in_ok-steps_up_to.ensures.left in
    on_ok_weaker c.apply.result (λ stands. motion_made d steps all m k c.apply.new.self here none up stands) (c.apply.ensures.stands d here.made here.stands)

-- the motion was not taken
pub returns-clause-err : goal.returns-clause-err
returns-clause-err c = λ d all t h le.
    let steps = c.args.steps.now in
    let m = c.args.motion in
    let at : c.moment.result ≡ moment_of m = c.moment.ensures in
    let k : HoverState = record { cursor = c.self.inside.cursor; reader = c.self.inside.reader; next = c.self.inside.next } in
    let here : HasMade d steps all (moment_of m) k =
    subst (λ (s : HoverState). HasMade d steps all (moment_of m) s) (sym c.self.view_is)
    (subst (λ (n : ℕ). HasMade d steps all n c.steps_up_to.new.self) at (c.in_ok-steps_up_to.ensures.made d all t h (subst (λ (n : ℕ). t ≤ n) (sym at) le))) in
    on_err_weaker c.apply.result
    (λ same. subst (λ (x : CursorState). HasMade d steps all (moment_of m) (record { cursor = x; reader = c.self.inside.reader; next = c.self.inside.next })) (sym same) here)
    c.apply.ensures.err
