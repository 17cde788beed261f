use Rattle.std.proofs.Common.{◌≡◌, ℕ, Bool, true, false, ◌&&◌, ◌||◌, ◌==◌, ap, ap₂, sym, refl, ◌∙◌}
use Rattle.std.proofs.lemmas.Bool.{eq-eqb, true≢false}
use Rattle.window_snapshot.specs.Mask.{is_channel, mask_has}
use Rattle.window_snapshot.proofs.Masks.{mask_has-with, mask_has-zero, mask_has_channel}
use Rattle.routing_rules.specs.Choice.{may_take}
use Rattle.route_split.specs.Seen.{scene_at}
use Rattle.route_split.proofs.Found.{taker_channel}
use Rattle.route_split.proofs.choice.may_take_one.Goals as goal

one_channel : (k m : Bool) → (m ≡ true → k ≡ true) → ((k && true) && m) ≡ m
one_channel true m h = refl
one_channel false true h = absurd (true≢false (sym (h refl)))
one_channel false false h = refl

pub returns : goal.returns
returns c =
    let n = c.args.seen.now in
    let k = c.args.channel in
    record {
      value =
          c.mask_has.ensures ∙ c.may_take.ensures k
          ∙ ap (λ b. b && may_take (scene_at n) c.args.device c.args.at k)
          (ap (λ m. mask_has m k) c.mask_with.ensures ∙ mask_has-with 0 k k
          ∙ ap₂ (λ a b. a || (is_channel k && b)) (mask_has-zero k) (eq-eqb k k refl))
          ∙ one_channel (is_channel k) _ (taker_channel (scene_at n) c.args.device c.args.at n.able k refl);
      channel = λ h. mask_has_channel c.may_take.result k (sym c.mask_has.ensures ∙ h);
    }
