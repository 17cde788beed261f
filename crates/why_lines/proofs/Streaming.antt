-- What streams say of pointers that go down.
use Rattle.std.proofs.Common.{◌≡◌, ◌≤◌, ℕ, Bool, true, false, cond, ◌==◌, ◌&&◌, ◌||◌, List, [], ◌∷◌, ◌++◌, map, flat_map, Option, Some, None, refl, ap, ap₂, ◌∙◌, arith}
use Rattle.std.specs.List.{list_any}
use Rattle.std.proofs.lemmas.Bool.{eqb-true, true≢false}
use Rattle.std.proofs.lemmas.Bool.Decides.{nat_tests}
use Rattle.std.proofs.lemmas.List.Folds.{list_any-append}
use Rattle.input_types.specs.declared.axis.Pixel.{Pixel}
use Rattle.input_types.specs.declared.key.KeyMsg.{KeyMsg}
use Rattle.input_types.specs.declared.message.Args.{Args}
use Rattle.input_types.specs.declared.message.Args.TheVariants.{Motion as MotionArgs, Key as KeyOfDevice, Reset}
use Rattle.input_types.specs.declared.message.Body.TheVariants.{Motion as MotionBody, Key}
use Rattle.input_types.specs.declared.motion.Motion.{Motion}
use Rattle.window_snapshot.specs.declared.window.Window.{Window}
use Rattle.dispatch_calls.specs.declared.call.Call.{Call}
use Rattle.dispatch_calls.specs.declared.call.Call.TheVariants.{Open, Windows, FocusOn, Notify, Pump, Tick, Receive, Finish, Pilfer, Remove}
use Rattle.dispatch_calls.specs.declared.reply.Reply.{Reply}
use Rattle.dispatch_calls.specs.declared.reply.Reply.TheVariants.{Dispatched, Done, Named}
use Rattle.routing_rules.specs.Fits.{is_motion_of}
use Rattle.routing_rules.specs.Given.{mark}
use Rattle.routing_rules.specs.Cover.{Cover, under_all}
use Rattle.routing_rules.specs.Marks.{Mark, covered}
use Rattle.routing_rules.specs.Scene.{Scene, Step, Moves}
use Rattle.routing_rules.specs.Outgoing.{devices, is_down, outgoing, sent_with}
use Rattle.dispatch_history.specs.Delivery.{able}
use Rattle.dispatch_history.specs.Effect.{Effect, past_of}
use Rattle.dispatch_history.specs.Focus.{focus_sent, has_focus, is_target}
use Rattle.dispatch_history.specs.History.{History, live, origin, snapshot}
use Rattle.dispatch_history.specs.KeySent.{keys_sent, last_key, repeat_by}
use Rattle.dispatch_history.specs.Keys.{keys, loses_all}
use Rattle.dispatch_history.specs.Queue.{args_of, inbound}
use Rattle.dispatch_history.specs.Said.{keys_said, motion_from, motions_said, said}
use Rattle.dispatch_history.specs.Step.{scene, step_of, marks}
use Rattle.why_text.specs.Laws.{sends_down}
use Rattle.why_text.proofs.GivenLaws.{given_law, others_law}
use Rattle.why_lines.specs.Laws.{DownLaw, NoDownLaw, is_motion, says_down}
use Rattle.why_lines.proofs.Coming.{may_come}

motions_say : (cover : ℕ → Cover) (o : Pixel) (ms : List Motion) → list_any says_down (map (λ m. MotionBody (motion_from o m)) (under_all cover ms)) ≡ sends_down ms
motions_say cover o [] = refl
motions_say cover o (m ∷ ms) = ap (λ b. is_down m.action || b) (motions_say cover o ms)

no_key : (ks : List KeyMsg) → list_any says_down (map Key ks) ≡ false
no_key [] = refl
no_key (k ∷ ks) = no_key ks

keys_say : (after : History) (args : Option Args) (es : List Effect) (w : ℕ) → list_any says_down (keys_said after args es w) ≡ false
keys_say after args es w =
    no_key
    (keys_sent args (is_target (past_of es) w && able es w) (loses_all after (past_of es) w) (keys es w) ++ repeat_by after (last_key es) w)

focus_says : (before later : Bool) → list_any says_down (focus_sent before later) ≡ false
focus_says true true = refl
focus_says true false = refl
focus_says false true = refl
focus_says false false = refl

or_false : (b : Bool) → ((b || false) || false) ≡ b
or_false true = refl
or_false false = refl

-- what a window is sent of pointers that go down comes in motions, device by device
said_down : (after : History) (args : Option Args) (s : Scene) (e : Step) (k : Mark) (es : List Effect) (w : ℕ) → live after w ≡ true
    → list_any says_down (said after args s e k es w) ≡ sends_down (flat_map (sent_with s e k w) devices)
said_down after args s e k es w lives =
    let o = origin (past_of es) w in
    let cover = covered (k ∷ marks es) w in
    let pressed = keys_said after args es w in
    let focus = focus_sent (has_focus (past_of es) w) (has_focus after w) in
    ap (λ b. list_any says_down (cond b (motions_said s e k cover o w ++ pressed ++ focus) [])) lives
    ∙ list_any-append says_down (motions_said s e k cover o w ++ pressed) focus
    ∙ ap₂ (λ a b. a || b)
    (list_any-append says_down (motions_said s e k cover o w) pressed
    ∙ ap₂ (λ a b. a || b) (motions_say cover o (flat_map (sent_with s e k w) devices)) (keys_say after args es w))
    (focus_says (has_focus (past_of es) w) (has_focus after w))
    ∙ or_false (sends_down (flat_map (sent_with s e k w) devices))

absorbs : (t r : Bool) → (t || (r && t)) ≡ t
absorbs true r = refl
absorbs false true = refl
absorbs false false = refl

-- if no other device sends a Down, one is sent exactly if this device is listed and sends one
one_device : (f : ℕ → List Motion) (d : ℕ) (ds : List ℕ) → ((e : ℕ) → (e == d) ≡ false → sends_down (f e) ≡ false)
    → sends_down (flat_map f ds) ≡ (list_any (λ e. e == d) ds && sends_down (f d))
one_device f d [] others = refl
one_device f d (e ∷ es) others =
    list_any-append (λ n. is_down n.action) (f e) (flat_map f es) ∙ ap (λ b. sends_down (f e) || b) (one_device f d es others) ∙ by_device (e == d) refl
  where
    rest : Bool
    rest = list_any (λ n. n == d) es

    by_device : (b : Bool) → (e == d) ≡ b → (sends_down (f e) || (rest && sends_down (f d))) ≡ ((b || rest) && sends_down (f d))
    by_device true same = ap (λ n. sends_down (f n) || (rest && sends_down (f d))) (eqb-true e d same) ∙ absorbs (sends_down (f d)) rest
    by_device false other = ap (λ b. b || (rest && sends_down (f d))) (others e other)

none_sends : (f : ℕ → List Motion) (ds : List ℕ) → ((e : ℕ) → sends_down (f e) ≡ false) → sends_down (flat_map f ds) ≡ false
none_sends f [] none = refl
none_sends f (e ∷ es) none = list_any-append (λ n. is_down n.action) (f e) (flat_map f es) ∙ ap₂ (λ a b. a || b) (none e) (none_sends f es none)

is_a_device : (d : ℕ) → 1 ≤ d → d ≤ 8 → list_any (λ e. e == d) devices ≡ true
is_a_device d low high = grind (arith, nat_tests)

other_device : (m : Motion) (d : ℕ) → (d == m.device) ≡ false → is_motion_of (Moves m) d ≡ false
other_device m d other = grind (arith, nat_tests)

pub down_law : DownLaw
down_law ds es now m w l r e low high lives =
    let h = past_of es in
    let s = scene ds es in
    let after = (Pump now, Dispatched) ∷ h in
    let may = may_come ds es m l r e in
    ap
    (λ o. list_any says_down (said after o s (step_of (snapshot h) (Pump now) Dispatched o) (mark s (step_of (snapshot h) (Pump now) Dispatched o)) es w))
    e
    ∙ said_down after (Some (MotionArgs m)) s (Moves m) (mark s (Moves m)) es w lives
    ∙ one_device (outgoing s (Moves m) w) m.device devices (λ d other. others_law s (Moves m) w d (other_device m d other))
    ∙ ap (λ b. b && sends_down (outgoing s (Moves m) w m.device)) (is_a_device m.device low high)
    ∙ given_law s m w may.down may.next may.fits may.rises may.comes

-- a step that dispatches no motion is a motion of no device
no_motion : (ws : List Window) (call : Call) (answer : Reply) (o : Option Args) (d : ℕ) → is_motion o ≡ false → is_motion_of (step_of ws call answer o) d ≡ false
no_motion ws (Pump now) answer (Some (MotionArgs m)) d e = absurd (true≢false e)
no_motion ws (Pump now) answer (Some (Reset v)) d e = refl
no_motion ws (Pump now) answer (Some (KeyOfDevice k)) d e = refl
no_motion ws (Pump now) answer None d e = refl
no_motion ws (Windows now shown) answer o d e = refl
no_motion ws (Tick now) (Named mask) o d e = refl
no_motion ws (Tick now) answer o d e = refl
no_motion ws (Pilfer now c v) Done o d e = refl
no_motion ws (Pilfer now c v) answer o d e = refl
no_motion ws (Remove now c) Done o d e = refl
no_motion ws (Remove now c) answer o d e = refl
no_motion ws (Open terms) answer o d e = refl
no_motion ws (FocusOn now y c keys) answer o d e = refl
no_motion ws (Notify now a) answer o d e = refl
no_motion ws (Receive c) answer o d e = refl
no_motion ws (Finish now c seq) answer o d e = refl

pub no_down_law : NoDownLaw
no_down_law ds call answer es w none = by_life (live after w) refl
  where
    after : History
    after = (call, answer) ∷ past_of es

    args : Option Args
    args = args_of call answer (inbound (past_of es))

    e : Step
    e = step_of (snapshot (past_of es)) call answer args

    s : Scene
    s = scene ds es

    by_life : (b : Bool) → live after w ≡ b → list_any says_down (said after args s e (mark s e) es w) ≡ false
    by_life true lives =
        said_down after args s e (mark s e) es w lives
        ∙ none_sends (outgoing s e w) devices (λ d. others_law s e w d (no_motion (snapshot (past_of es)) call answer args d none))
    by_life false dead =
        ap
        (λ b. list_any says_down
        (cond b
        (motions_said s e (mark s e) (covered (mark s e ∷ marks es) w) (origin (past_of es) w) w ++ keys_said after args es w
        ++ focus_sent (has_focus (past_of es) w) (has_focus after w))
        []))
        dead
