-- A channel whose window is shown neither before a step nor after it is sent nothing at it.
use Rattle.std.proofs.Common.{◌≡◌, ℕ, ◌==◌, ◌&&◌, Bool, true, false, not, cond, max, List, [], ◌∷◌, ◌++◌, map, Option, Some, None, refl, sym, ap, ap₂, ◌∙◌}
use Rattle.std.specs.List.{list_any, flat_map}
use Rattle.std.proofs.lemmas.Bool.{eqb-true, and_left, and_right}
use Rattle.input_types.specs.declared.key.KeyMsg.{KeyMsg}
use Rattle.input_types.specs.declared.message.Args.{Args}
use Rattle.input_types.specs.declared.message.Args.TheVariants.{Key as KeyOfDevice, Reset, Motion as MotionArgs}
use Rattle.input_types.specs.declared.message.Body.{Body}
use Rattle.input_types.specs.declared.message.Body.TheVariants.{Motion as MotionBody, Key}
use Rattle.input_types.specs.declared.motion.Motion.{Motion}
use Rattle.input_types.specs.declared.motion.MotionAction.TheVariants.{Outside}
use Rattle.input_types.specs.declared.pointer.Pointer.{Pointer}
use Rattle.key_repeat.specs.Due.{Sent, due_by, repeated}
use Rattle.window_snapshot.specs.Named.{is_named}
use Rattle.routing_rules.specs.Cover.{under_all}
use Rattle.routing_rules.specs.Marks.{Mark, covered}
use Rattle.routing_rules.specs.Given.{mark, changed}
use Rattle.routing_rules.specs.Scene.{Scene, Step, Moves, Resets, Pilfers, Shows, Mutes, Removes, NoOp}
use Rattle.routing_rules.specs.Outgoing.{after, listing, cancels, cancels_of, moves, outside, opening, closing, is_up, is_cancelled, is_first, plain, or_else, sent_motion, sent_with, devices}
use Rattle.dispatch_calls.specs.declared.call.Call.{Call}
use Rattle.dispatch_calls.specs.declared.call.Call.TheVariants.{Pump}
use Rattle.dispatch_calls.specs.declared.reply.Reply.{Reply}
use Rattle.dispatch_calls.specs.declared.reply.Reply.TheVariants.{Repeated}
use Rattle.dispatch_history.specs.Delivery.{able}
use Rattle.dispatch_history.specs.Effect.{Effect, past_of}
use Rattle.dispatch_history.specs.Effects.{step, said_at}
use Rattle.dispatch_history.specs.Focus.{has_focus, is_target, focus_sent}
use Rattle.dispatch_history.specs.History.{History, live, clock, snapshot, origin, repeats_of}
use Rattle.dispatch_history.specs.Keys.{keys, loses_all, same_key}
use Rattle.dispatch_history.specs.KeySent.{keys_sent, repeat_sent, last_key, while_held, repeat_due}
use Rattle.dispatch_history.specs.Queue.{inbound, args_of}
use Rattle.dispatch_history.specs.Reply.{reply_to, pump_reply}
use Rattle.dispatch_history.specs.Said.{motions_said, keys_said, motion_from}
use Rattle.dispatch_history.specs.Step.{marks, scene, step_of}
use Rattle.dispatch_history.proofs.FitLaws.{held_then}
use Rattle.dispatcher.specs.DispatchTables.Lawful.{Lawful}
use Rattle.dispatcher.proofs.DispatchTables.Lawfuls.{lawful_last}
use Rattle.live_input.proofs.Unshown.{none_pass, no_watcher, no_pointer, not_target, not_focused, no_keys}

-- nothing is sent for pointers if a window holds none, before and after
no_cancels : (d : ℕ) (last : List Pointer) (before later : ℕ → Bool) → ((i : ℕ) → before i ≡ false) → cancels d last before later ≡ []
no_cancels d last before later b =
    ap (cancels_of d (listing before last) (listing later last))
    (none_pass (λ p. before p.id && not (later p.id)) (λ p. and_left (before p.id) (not (later p.id)) (b p.id)) last)

no_moves : (d : ℕ) (ps : List Pointer) (later : ℕ → Bool) → ((i : ℕ) → later i ≡ false) → moves d (listing later ps) ≡ []
no_moves d ps later a = ap (moves d) (none_pass (λ p. later p.id) (λ p. a p.id) ps)

no_outside : (s : Scene) (m : Motion) (p : Pointer) (w : ℕ) → is_named s.windows w ≡ false → outside s m p w ≡ []
no_outside s m p w e =
    ap (λ b. cond b (plain m.device Outside (p ∷ []) ∷ []) [])
    (and_right (is_first m.action && s.able w) _ (no_watcher s.windows (s.reach m.device) p.at.x p.at.y w e))

no_motion : (s : Scene) (m : Motion) (o : Option Pointer) (w : ℕ) (before later : ℕ → Bool) → is_named s.windows w ≡ false
    → ((i : ℕ) → before i ≡ false) → ((i : ℕ) → later i ≡ false) → sent_motion s m o w before later ≡ []
no_motion s m None w before later e b a =
    ap₂ or_else (no_cancels m.device (s.last m.device) before later b) (no_moves m.device m.pointers later a)
no_motion s m (Some p) w before later e b a =
    ap₂ (λ x y. cond x (opening m.device p.id (listing later m.pointers) ∷ [])
    (cond y (closing m.device p.id (is_cancelled m.action m.flags) (listing before m.pointers) ∷ [])
    (or_else (cancels m.device (s.last m.device) before later) (or_else (moves m.device (listing later m.pointers)) (outside s m p w)))))
    (and_left (later p.id) (not (before p.id)) (a p.id))
    (and_right (is_up m.action) (before p.id) (b p.id))
    ∙ ap₂ or_else (no_cancels m.device (s.last m.device) before later b)
    (ap₂ or_else (no_moves m.device m.pointers later a) (no_outside s m p w e))

no_sent : (s : Scene) (e : Step) (k : Mark) (w d : ℕ) → is_named s.windows w ≡ false
    → ((i : ℕ) → s.holds w d i ≡ false) → ((i : ℕ) → after s k w d i ≡ false) → sent_with s e k w d ≡ []
no_sent s (Moves m) k w d e b a = by_device (m.device == d) refl
  where
    by_device : (x : Bool) → (m.device == d) ≡ x → cond x (sent_motion s m (changed m) w (s.holds w d) (after s k w d)) [] ≡ []
    by_device true same = no_motion s m (changed m) w (s.holds w d) (after s k w d) e b a
    by_device false other = refl
no_sent s (Removes v) k w d e b a = refl
no_sent s NoOp k w d e b a = refl
no_sent s (Resets r) k w d e b a = no_cancels d (s.last d) (s.holds w d) (after s k w d) b
no_sent s (Pilfers v r) k w d e b a = no_cancels d (s.last d) (s.holds w d) (after s k w d) b
no_sent s (Shows stays) k w d e b a = no_cancels d (s.last d) (s.holds w d) (after s k w d) b
no_sent s (Mutes muted) k w d e b a = no_cancels d (s.last d) (s.holds w d) (after s k w d) b

flat_none : (f : ℕ → List Motion) (ds : List ℕ) → ((d : ℕ) → f d ≡ []) → flat_map f ds ≡ []
flat_none f [] e = refl
flat_none f (d ∷ ds) e = ap₂ (λ xs ys. xs ++ ys) (e d) (flat_none f ds e)

-- nor for keys if it holds none and keys do not go to it
none_sent : (o : Option Args) (loses : Bool) → keys_sent o false loses [] ≡ []
none_sent None true = refl
none_sent None false = refl
none_sent (Some (MotionArgs m)) true = refl
none_sent (Some (MotionArgs m)) false = refl
none_sent (Some (Reset d)) true = refl
none_sent (Some (Reset d)) false = refl
none_sent (Some (KeyOfDevice k)) loses = by_down k.down
  where
    by_down : (b : Bool) → cond {A = List KeyMsg} b [] [] ≡ []
    by_down true = refl
    by_down false = refl

none_repeated : (es : List Effect) (last : Option Sent) (w : ℕ) (call : Call) (answer : Reply) → last_key es ≡ last → keys es w ≡ []
    → answer ≡ reply_to es call → repeat_sent call answer last w ≡ []
none_repeated es (Some s) w (Pump now) Repeated known none reply = by_channel (w == s.channel) refl
  where
    not_due : (w == s.channel) ≡ true → repeat_due es ≡ None
    not_due same =
        ap (λ o. due_by (repeats_of (past_of es)) (while_held es o)) known
        ∙ ap (λ ks. due_by (repeats_of (past_of es)) (cond (list_any (same_key s.key.key) ks) (Some s) None))
        (ap (keys es) (sym (eqb-true w s.channel same)) ∙ none)

    never : (waiting : List Args) (now : ℕ) → pump_reply waiting None now ≡ Repeated → ⊥
    never [] now e = cc
    never (a ∷ later) now e = cc

    by_channel : (b : Bool) → (w == s.channel) ≡ b → cond b (repeated s.key ∷ []) [] ≡ []
    by_channel false other = refl
    by_channel true same =
        absurd (never (inbound (past_of es)) (max now (clock (past_of es)))
        (sym (reply ∙ ap (λ o. pump_reply (inbound (past_of es)) o (max now (clock (past_of es)))) (not_due same))))
none_repeated es None w (Pump now) Repeated known none reply = refl
none_repeated es last w call answer known none reply = refl

-- all together
pub sent_nothing : (ds : List ℕ) (call : Call) (answer : Reply) (es : List Effect) (w : ℕ) → Lawful ds (step ds call answer es)
    → is_named (snapshot (past_of es)) w ≡ false → is_named (snapshot ((call, answer) ∷ past_of es)) w ≡ false
    → said_at ds call answer es w ≡ []
sent_nothing ds call answer es w l was is =
    let h : History = (call, answer) ∷ past_of es in
    let before = lawful_last ds call answer es l in
    let o : Option Args = args_of call answer (inbound (past_of es)) in
    let s : Scene = scene ds es in
    let e : Step = step_of (snapshot (past_of es)) call answer o in
    let k : Mark = mark s e in
    let motions : motions_said s e k (covered (k ∷ marks es) w) (origin (past_of es) w) w ≡ [] =
    ap (λ ms. map (λ m. MotionBody (motion_from (origin (past_of es) w) m)) (under_all (covered (k ∷ marks es) w) ms))
    (flat_none (sent_with s e k w) devices
    (λ d. no_sent s e k w d was (λ i. no_pointer ds es w d i before.1 was)
    (λ i. sym (held_then k (marks es) w d i) ∙ no_pointer ds (step ds call answer es) w d i l is))) in
    let target : is_target (past_of es) w ≡ false = not_target (past_of es) w was in
    let none : keys es w ≡ [] = no_keys ds w es before.1 target in
    let keys_none : keys_said h o es w ≡ [] =
    ap (map Key)
    (ap₂ (λ a b. a ++ b)
    (ap₂ (λ gets ks. keys_sent o (gets && able es w) (loses_all h (past_of es) w) ks) target none
    ∙ none_sent o (loses_all h (past_of es) w))
    (none_repeated es (last_key es) w call answer refl none before.0)) in
    let focus_none : focus_sent (has_focus (past_of es) w) (has_focus h w) ≡ [] =
    ap₂ focus_sent (not_focused (past_of es) w was) (not_focused h w is) in
    by_live (live h w)
    (ap₂ (λ a b. a ++ b) (ap₂ (λ a b. a ++ b) motions keys_none) focus_none)
  where
    by_live : (b : Bool) → {bs : List Body} → bs ≡ [] → cond b bs [] ≡ []
    by_live true e = e
    by_live false e = refl
