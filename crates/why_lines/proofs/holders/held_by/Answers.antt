use Rattle.std.proofs.Common.{◌≡◌, true, map, IfSome, is_some, Some, sym, ap, ◌∙◌, subst}
use Rattle.std.proofs.lemmas.Bool.{true≢false}
use Rattle.dispatch_history.specs.Effect.{past_of}
use Rattle.dispatch_history.specs.History.{live}
use Rattle.dispatcher.specs.Access.{HoldsInput}
use Rattle.why_lines.proofs.KeyHolders.{untargeted}
use Rattle.why_lines.proofs.Targets.{lives_channel, lives_opened, target_lives}
use Rattle.why_lines.proofs.holders.held_by.Goals as goal

pub returns-in-Some : goal.returns-in-Some
returns-in-Some c es st e =
    let ds = c.args.dispatcher.now.displays in
    let w = c.args.window in
    let lives : live (past_of es) w ≡ true = target_lives (past_of es) w e in
    let input : HoldsInput es w c.in-Some.input.now =
    subst (λ o. IfSome o (λ input. HoldsInput es w input.now)) c.in-Some.is (c.input.ensures.value es st lives) in
    record {
      number = lives_channel ds es w st.lawful lives;
      keys_are = ap (map (λ m. m.key)) c.keys.ensures ∙ input.keys_are.keys_are;
      others = λ v other. untargeted ds es (Some w) v st.lawful e other;
    }

pub returns-in-None : goal.returns-in-None
returns-in-None c es st e =
    let w = c.args.window in
    absurd
    (true≢false
    (sym (lives_opened c.args.dispatcher.now.displays es w st.lawful (target_lives (past_of es) w e))
    ∙ sym (c.input.ensures.some es st)
    ∙ ap is_some c.in-None.is))
