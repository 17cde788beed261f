-- Steps that send a channel nothing.
use Rattle.std.proofs.Common.{◌≡◌, ℕ, Bool, true, false, not, ◌&&◌, ◌||◌, cond, List, [], ◌∷◌, ◌++◌, map, filter, flat_map, None, refl, sym, ap, ap₂, ◌∙◌}
use Rattle.std.proofs.lemmas.Bool.{not-true, true≢false}
use Rattle.input_types.specs.declared.key.KeyArgs.{KeyArgs}
use Rattle.input_types.specs.declared.message.Body.TheVariants.{Key, Motion as MotionBody}
use Rattle.input_types.specs.declared.motion.Motion.{Motion}
use Rattle.window_snapshot.specs.Mask.{mask_has}
use Rattle.routing_rules.specs.Cover.{under_all}
use Rattle.routing_rules.specs.Marks.{Mark, covered}
use Rattle.routing_rules.specs.Scene.{Scene, Step, Mutes, NoOp}
use Rattle.routing_rules.specs.Given.{mark}
use Rattle.routing_rules.specs.Outgoing.{sent_with, devices}
use Rattle.routing_rules.proofs.SentLaws.{quiet_law}
use Rattle.dispatch_calls.specs.declared.call.Call.{Call}
use Rattle.dispatch_calls.specs.declared.call.Call.TheVariants.{Open, Notify, Pump, Tick, Receive, Finish, Pilfer, Remove}
use Rattle.dispatch_calls.specs.declared.reply.Reply.{Reply}
use Rattle.dispatch_calls.specs.declared.reply.Reply.TheVariants.{Full, Done, Idle, Named, Gone}
use Rattle.dispatch_history.specs.History.{History, live, origin}
use Rattle.dispatch_history.specs.Effect.{Effect, past_of}
use Rattle.dispatch_history.specs.Delivery.{able, reports}
use Rattle.dispatch_history.specs.Focus.{has_focus, is_target, focus_sent}
use Rattle.dispatch_history.specs.Keys.{keys, ends, loses_all}
use Rattle.dispatch_history.specs.KeySent.{keys_sent, key_cancelled, repeat_by, last_key}
use Rattle.dispatch_history.specs.Said.{said, motion_from, motions_said, keys_said}
use Rattle.dispatch_history.specs.Step.{scene, marks}
use Rattle.dispatcher.specs.DispatchTables.Laws.{SilentCalls}

-- nothing ends a key if no args are dispatched
none_end : (ks : List KeyArgs) → filter (ends None) ks ≡ []
none_end [] = refl
none_end (k ∷ ks) = none_end ks

no_keys : (gets loses : Bool) (ks : List KeyArgs) → loses ≡ false → keys_sent None gets loses ks ≡ []
no_keys gets loses ks e = ap (λ b. map key_cancelled (cond b ks (filter (ends None) ks))) e ∙ ap (map key_cancelled) (none_end ks)

no_focus : (b : Bool) → focus_sent b b ≡ []
no_focus true = refl
no_focus false = refl

-- a channel that stays what it was loses no key
keeps_keys : (before later named lives : Bool) → later ≡ before → named ≡ false → lives ≡ true
    → (before && not later || named || not lives) ≡ false
keeps_keys before later named lives e f g = rw (e, f, g) (same before)
  where
    same : (b : Bool) → (b && not b || false || false) ≡ false
    same true = refl
    same false = refl

-- a step without args after which a channel has the focus as before, is not reported, and is sent no motion
said_none : (after : History) (es : List Effect) (s : Scene) (e : Step) (k : Mark) (c : ℕ)
    → flat_map (sent_with s e k c) devices ≡ [] → is_target after c ≡ is_target (past_of es) c → reports after c ≡ false
    → has_focus after c ≡ has_focus (past_of es) c → repeat_by after (last_key es) c ≡ []
    → said after None s e k es c ≡ []
said_none after es s e k c motions target named focus repeats = by_live (live after c) refl
  where
    outgoing : live after c ≡ true → keys_said after None es c ≡ []
    outgoing y =
        ap₂ (λ xs ys. map Key (xs ++ ys))
        (no_keys (is_target (past_of es) c && able es c) (loses_all after (past_of es) c) (keys es c)
        (keeps_keys (is_target (past_of es) c) (is_target after c) (reports after c) (live after c) target named y))
        repeats

    nothing : live after c ≡ true
        → motions_said s e k (covered (k ∷ marks es) c) (origin (past_of es) c) c ++ keys_said after None es c ++ focus_sent (has_focus (past_of es) c) (has_focus after c)
        ≡ []
    nothing y =
        ap (λ ms. map (λ m. MotionBody (motion_from (origin (past_of es) c) m)) (under_all (covered (k ∷ marks es) c) ms) ++ keys_said after None es c ++ focus_sent (has_focus (past_of es) c) (has_focus after c)) motions
        ∙ ap₂ (λ xs b. xs ++ focus_sent (has_focus (past_of es) c) b) (outgoing y) focus
        ∙ no_focus (has_focus (past_of es) c)

    by_live : (b : Bool) → live after c ≡ b
        → cond (live after c) (motions_said s e k (covered (k ∷ marks es) c) (origin (past_of es) c) c ++ keys_said after None es c ++ focus_sent (has_focus (past_of es) c) (has_focus after c)) []
        ≡ []
    by_live true y =
        ap (λ b. cond b (motions_said s e k (covered (k ∷ marks es) c) (origin (past_of es) c) c ++ keys_said after None es c ++ focus_sent (has_focus (past_of es) c) (has_focus after c)) []) y
        ∙ nothing y
    by_live false y =
        ap (λ b. cond b (motions_said s e k (covered (k ∷ marks es) c) (origin (past_of es) c) c ++ keys_said after None es c ++ focus_sent (has_focus (past_of es) c) (has_focus after c)) []) y

-- devices of which nothing is sent
flat_none : (f : ℕ → List Motion) (ds : List ℕ) → ((d : ℕ) → f d ≡ []) → flat_map f ds ≡ []
flat_none f [] none = refl
flat_none f (d ∷ ds) none = ap (λ xs. xs ++ flat_map f ds) (none d) ∙ flat_none f ds none

-- a tick sends no motions to a channel that it does not report
not_muted : (s : Scene) (mask c d : ℕ) → mask_has mask c ≡ false
    → sent_with s (Mutes (mask_has mask)) (mark s (Mutes (mask_has mask))) c d ≡ []
not_muted s mask c d n = quiet_law s (Mutes (mask_has mask)) c d refl (λ j. n)

-- a step that is no motion, and changes neither the windows nor the focus
rested : (ds : List ℕ) (call : Call) (answer : Reply) (es : List Effect) (c : ℕ)
    → let after : History = (call, answer) ∷ past_of es in
    is_target after c ≡ is_target (past_of es) c → reports after c ≡ false → has_focus after c ≡ has_focus (past_of es) c → repeat_by after (last_key es) c ≡ []
    → said ((call, answer) ∷ past_of es) None (scene ds es) NoOp (mark (scene ds es) NoOp) es c ≡ []
rested ds call answer es c target named focus repeats =
    said_none ((call, answer) ∷ past_of es) es (scene ds es) NoOp (mark (scene ds es) NoOp) c refl target named focus repeats

pub silent_calls : SilentCalls
silent_calls ds (Receive channel) answer es c e = rested ds (Receive channel) answer es c refl refl refl refl
silent_calls ds (Finish now channel seq) answer es c e = rested ds (Finish now channel seq) answer es c refl refl refl refl
silent_calls ds (Notify now args) answer es c e = rested ds (Notify now args) answer es c refl refl refl refl
silent_calls ds (Pump now) Idle es c e = rested ds (Pump now) Idle es c refl refl refl refl
silent_calls ds (Tick now) (Named mask) es c e =
    let n = not-true (mask_has mask c) e in
    let s = scene ds es in
    said_none ((Tick now, Named mask) ∷ past_of es) es s (Mutes (mask_has mask)) (mark s (Mutes (mask_has mask))) c
    (flat_none (sent_with s (Mutes (mask_has mask)) (mark s (Mutes (mask_has mask))) c) devices (λ d. not_muted s mask c d n)) refl n refl refl
silent_calls ds (Pilfer now channel device) Done es c e = absurd (true≢false (sym e))
silent_calls ds (Pilfer now channel device) answer es c e = rested ds (Pilfer now channel device) answer es c refl refl refl refl
silent_calls ds (Remove now channel) Gone es c e = rested ds (Remove now channel) Gone es c refl refl refl refl
silent_calls ds (Open terms) Full es c e = rested ds (Open terms) Full es c refl refl refl refl
silent_calls ds call answer es c e = absurd (true≢false (sym e))
