use Rattle.std.proofs.Common.{◌≡◌, ℕ, true, ◌&&◌, not, bit_and, sym, ap, ap₂, ◌∙◌}
use Rattle.window_snapshot.specs.Mask.{is_channel, mask_has}
use Rattle.window_snapshot.specs.Blocking.{blockers, is_walled}
use Rattle.window_snapshot.specs.Hits.{is_spy_at, touched}
use Rattle.window_snapshot.specs.Occlusion.{is_blocked_at}
use Rattle.routing_rules.specs.Choice.{is_candidate}
use Rattle.routing_rules.specs.Watching.{is_watching}
use Rattle.why_text.specs.Down.{down_of, targets}
use Rattle.why_lines.proofs.Masks.{able_targets, and_turned, blocked_targets, given_targets, same_candidates, watching_rest}
use Rattle.why_lines.proofs.causes.down_causes.Goals as goal

pub returns : goal.returns
returns c s seen k =
    let m = c.args.motion.now in
    let p = c.args.pointer.now in
    let d = m.device in
    let e = seen.sees in
    let choice_is = c.choice-choice.ensures s seen.stands e in
    let spies_are : (w : ℕ) → mask_has c.spies_at-spies.result w ≡ is_spy_at s.windows (s.reach d) p.at.x p.at.y w =
    λ w. c.spies_at-spies.ensures w ∙ ap₂ (λ ws r. is_spy_at ws r p.at.x p.at.y w) (sym e.windows_are) (sym e.reach_is) in
    let targets_are : (w : ℕ) → is_channel w ≡ true → mask_has c.target_mask-targets.result w ≡ targets s m p w = c.target_mask-targets.ensures s seen in
    let able = bit_and c.target_mask-targets.result c.args.sight.now.able in
    let able_are : (w : ℕ) → is_channel w ≡ true → mask_has able w ≡ (targets s m p w && s.able w) =
    λ w number. able_targets s m p c.target_mask-targets.result c.args.sight.now.able w e.able_is (targets_are w number) in
    let blocked_are : (w : ℕ)
    → mask_has c.blocked_at-blocked.result w ≡ (mask_has able w && is_blocked_at s.windows (s.reach d) p.at.x p.at.y w) =
    λ w. c.blocked_at-blocked.ensures w
    ∙ ap₂ (λ ws r. mask_has able w && is_blocked_at ws r p.at.x p.at.y w) (sym e.windows_are) (sym e.reach_is) in
    let given_are : (w : ℕ) → is_channel w ≡ true → mask_has c.mask_less-given.result w ≡ (down_of s m p).given w =
    λ w number. given_targets s m p c.mask_less-given.result c.blocked_at-blocked.result able w (c.mask_less-given.ensures.channels w) (able_are w number)
    (blocked_are w) in
    record {
      touched_is = c.touched_at.ensures ∙ ap₂ (λ ws r. touched ws r p.at.x p.at.y) (sym e.windows_are) (sym e.reach_is);
      choice_is = choice_is;
      spies_are = λ w number. spies_are w;
      pilfering_are = λ w number.
          c.pilfering.ensures s seen w number
          ∙ ap (λ b. b && s.pilfering w d)
          (same_candidates s d p.at c.choice-choice.result.window (mask_has c.spies_at-spies.result) w (spies_are w)
          ∙ ap (λ o. is_candidate s d p.at o w) (ap (λ x. x.window) choice_is));
      given_are = given_are;
      mute_are = λ w number.
          c.mask_less.ensures.channels w
          ∙ ap₂ (λ a b. not a && b) (sym (ap (λ f. f w) e.able_is)) (targets_are w number)
          ∙ and_turned (not (s.able w)) (targets s m p w);
      outside_are = λ w number.
          watching_rest s m p _ c.watchers.result _ w k (c.mask_less-2.ensures.channels w) (given_are w number)
          (c.watchers.ensures s e w ∙ ap (λ o. is_watching s m o w) k.changed_is);
      blocked_are = λ w number. blocked_targets s m p c.blocked_at-blocked.result able w (able_are w number) (blocked_are w);
      blockers_are = ap₂ (λ ws r. blockers ws r p.at.x p.at.y) (sym e.windows_are) (sym e.reach_is);
      walled_are = ap₂ (λ ws r. is_walled ws r p.at.x p.at.y) (sym e.windows_are) (sym e.reach_is);
    }
