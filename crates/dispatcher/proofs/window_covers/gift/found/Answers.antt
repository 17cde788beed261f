use Rattle.std.proofs.Common.{◌≡◌, Bool, true, false, not, ◌&&◌, refl, sym, ap, ap₂, ◌∙◌, to_z, of_z, rules}
use Rattle.std.specs.Int.{w32}
use Rattle.std.proofs.lemmas.Int.{to_z-of_z}
use Rattle.window_snapshot.specs.Mask.{mask_has}
use Rattle.window_snapshot.specs.Occlusion.{is_obscured_at, is_overlapped_on}
use Rattle.window_snapshot.specs.Walls.{reaches}
use Rattle.routing_rules.specs.Cover.{Cover}
use Rattle.dispatcher.proofs.window_covers.gift.found.Goals as goal

-- of the windows that are not obscured, those that are overlapped
only_partly : (w o p : Bool) → ((not (w && o) && w) && p) ≡ (w && (not o && p))
only_partly true true p = refl
only_partly true false p = refl
only_partly false o p = refl

pub returns-clause-found : goal.returns-clause-found
returns-clause-found c = λ s shown reach w.
    let cover : Bool → Bool → Cover = λ o p. record { obscured = o; partly = p } in
    let x = c.args.at.x in
    let y = c.args.at.y in
    let given = mask_has c.args.windows w in
    let o = is_obscured_at c.args.shown.now (reaches c.args.reach.now) x y w in
    let p = is_overlapped_on c.args.shown.now (reaches c.args.reach.now) w in
    let o_is : is_obscured_at s.windows (s.reach c.args.device) x y w ≡ o = ap₂ (λ ws live. is_obscured_at ws live x y w) shown reach in
    let p_is : is_overlapped_on s.windows (s.reach c.args.device) w ≡ p = ap₂ (λ ws live. is_overlapped_on ws live w) shown reach in
    let x_is : to_z w32 (of_z w32 c.args.at.x) ≡ x = to_z-of_z w32 c.args.at.x (search rules) in
    let y_is : to_z w32 (of_z w32 c.args.at.y) ≡ y = to_z-of_z w32 c.args.at.y (search rules) in
    let over : mask_has c.obscured-obscured.result w ≡ (given && o) =
    c.obscured-obscured.ensures w ∙ ap₂ (λ a b. given && is_obscured_at c.args.shown.now (reaches c.args.reach.now) a b w) x_is y_is in
    ap₂ cover
    (over ∙ sym (ap (λ b. given && b) o_is))
    (c.overlapped-partly.ensures w
    ∙ ap (λ b. b && p) (c.mask_less.ensures.channels w ∙ ap (λ b. not b && given) over)
    ∙ only_partly given o p
    ∙ sym (ap₂ (λ a b. given && (not a && b)) o_is p_is))
