-- The focus in the stream of a channel.
use Rattle.std.proofs.Common.{◌≡◌, ℕ, Bool, true, false, cond, is_some, List, [], ◌∷◌, ◌++◌, map, flat_map, length, Option, Some, None, refl, sym, ap, ◌∙◌, subst, inl, inr, ◌+◌}
use Rattle.std.proofs.lemmas.Bool.{cases_Bool, both_ways, true≢false, and_parts, or_cases, eqb-true}
use Rattle.std.specs.List.{list_any}
use Rattle.input_types.specs.declared.key.KeyMsg.{KeyMsg}
use Rattle.input_types.specs.declared.message.Args.{Args}
use Rattle.input_types.specs.declared.message.Body.{Body}
use Rattle.input_types.specs.declared.message.Body.TheVariants.{Motion as MotionBody, Key}
use Rattle.input_types.specs.declared.message.Message.{Message}
use Rattle.input_types.specs.declared.motion.Motion.{Motion}
use Rattle.input_types.specs.declared.axis.Pixel.{Pixel}
use Rattle.dispatch_calls.specs.declared.call.Call.{Call}
use Rattle.dispatch_calls.specs.declared.reply.Reply.{Reply}
use Rattle.window_snapshot.specs.Named.{is_focusable_on}
use Rattle.routing_rules.specs.Cover.{under_all}
use Rattle.routing_rules.specs.Marks.{covered}
use Rattle.routing_rules.specs.Given.{mark}
use Rattle.routing_rules.specs.Outgoing.{sent_with, devices}
use Rattle.dispatch_history.specs.History.{History, clock, live, origin, snapshot}
use Rattle.dispatch_history.specs.Queue.{inbound, args_of}
use Rattle.dispatch_history.specs.Effect.{Effect, past_of, stream, sent_on, focus_after, sent_focus}
use Rattle.dispatch_history.specs.Effects.{effects, said_at}
use Rattle.focus_resolver.specs.Resolver.{all_displays, focus_if, is_at}
use Rattle.dispatch_history.specs.Focus.{focus, may_focus, requested, has_focus, focus_sent}
use Rattle.dispatch_history.specs.Said.{motions_said, keys_said, motion_from}
use Rattle.dispatch_history.specs.Step.{scene, step_of, marks}
use Rattle.dispatch_history.specs.Laws.{FocusLaw, FocusComesLaw}
use Rattle.dispatch_history.proofs.LegalLaws.{effects_law}
use Rattle.dispatch_history.proofs.StreamLaws.{stream_step, silent_law}
use Rattle.dispatch_history.proofs.SentMotions.{shifted}
use Rattle.dispatch_history.proofs.MotionLaws.{live_said, unopened, new_channel}

-- how bodies change what is known
unfoldable pub bodies_after : {X : Type 0} → (Body → Option X → Option X) → List Body → Option X → Option X
bodies_after f [] x = x
bodies_after f (b ∷ bs) x = bodies_after f bs (f b x)

pub bodies_after-append : {X : Type 0} (f : Body → Option X → Option X) (xs ys : List Body) (x : Option X)
    → bodies_after f (xs ++ ys) x ≡ bodies_after f ys (bodies_after f xs x)
unfolding bodies_after
bodies_after-append f [] ys x = refl
bodies_after-append f (b ∷ xs) ys x = bodies_after-append f xs ys (f b x)

-- bodies that do nothing
pub motions_after : {X : Type 0} (f : Body → Option X → Option X) → ((m : Motion) (x : Option X) → f (MotionBody m) x ≡ x) → (o : Pixel) (ms : List Motion) (x : Option X)
    → bodies_after f (shifted o ms) x ≡ x
unfolding bodies_after
motions_after f none o [] x = refl
motions_after f none o (m ∷ ms) x = ap (bodies_after f (shifted o ms)) (none (motion_from o m) x) ∙ motions_after f none o ms x

sent_focus_on : (now : ℕ) (bs : List Body) (ms : List Message) → sent_focus (sent_on now bs ms) ≡ bodies_after focus_after bs (sent_focus ms)
unfolding bodies_after
sent_focus_on now [] ms = refl
sent_focus_on now (b ∷ bs) ms = sent_focus_on now bs (record { seq = 1 + length ms; moment = now; body = b } ∷ ms)

keys_focus : (ks : List KeyMsg) (x : Option Bool) → bodies_after focus_after (map Key ks) x ≡ x
unfolding bodies_after
keys_focus [] x = refl
keys_focus (k ∷ ks) x = keys_focus ks x

moved_focus : (a b : Bool) → bodies_after focus_after (focus_sent a b) (Some a) ≡ Some b
unfolding bodies_after
moved_focus true true = refl
moved_focus true false = refl
moved_focus false true = refl
moved_focus false false = refl

-- a focused channel is live
focus_live : (h : History) (y : ℕ) (o : Option ℕ) (w : ℕ) → is_at (focus_if (may_focus h y) o) w ≡ true → live h w ≡ true
focus_live h y None w e = absurd (true≢false (sym e))
focus_live h y (Some c) w e = by_test (may_focus h y c) refl e
  where
    by_test : (b : Bool) → may_focus h y c ≡ b → is_at (cond b (Some c) None) w ≡ true → live h w ≡ true
    by_test true q e = subst (λ x. live h x ≡ true) (sym (eqb-true w c e)) (and_parts (live h c) (is_focusable_on (snapshot h) y c) q).0
    by_test false q e = absurd (true≢false (sym e))

focused_live : (h : History) (w : ℕ) (ys : List ℕ) → list_any (λ y. is_at (focus h y) w) ys ≡ true → live h w ≡ true
focused_live h w [] e = absurd (true≢false (sym e))
focused_live h w (y ∷ ys) e =
    elim (or_cases (is_at (focus h y) w) (list_any (λ z. is_at (focus h z) w) ys) e)
    [ inl t ↦ focus_live h y (requested h y) w t | inr k ↦ focused_live h w ys k ]

no_focus : (h : History) (w : ℕ) → live h w ≡ false → has_focus h w ≡ false
no_focus h w n = elim (cases_Bool (has_focus h w)) [ inl y ↦ absurd (both_ways (live h w) n (focused_live h w all_displays y)) | inr f ↦ f ]

step_focus : (ds : List ℕ) (call : Call) (answer : Reply) (es : List Effect) (w : ℕ) → live ((call, answer) ∷ past_of es) w ≡ true
    → bodies_after focus_after (said_at ds call answer es w) (Some (has_focus (past_of es) w)) ≡ Some (has_focus ((call, answer) ∷ past_of es) w)
step_focus ds call answer es w n =
    let after_it : History = (call, answer) ∷ past_of es in
    let args = args_of call answer (inbound (past_of es)) in
    let s = scene ds es in
    let e = step_of (snapshot (past_of es)) call answer args in
    let o = origin (past_of es) w in
    let x : Option Bool = Some (has_focus (past_of es) w) in
    let cover = covered (mark s e ∷ marks es) w in
    let m = motions_said s e (mark s e) cover o w in
    let k = keys_said after_it args es w in
    let f = focus_sent (has_focus (past_of es) w) (has_focus after_it w) in
    ap (λ bs. bodies_after focus_after bs x) (live_said ds call answer es w n)
    ∙ bodies_after-append focus_after (m ++ k) f x
    ∙ ap (bodies_after focus_after f) (bodies_after-append focus_after m k x)
    ∙ ap (λ y. bodies_after focus_after f (bodies_after focus_after k y)) (motions_after focus_after (λ v y. refl) o (under_all cover (flat_map (sent_with s e (mark s e) w) devices)) x)
    ∙ ap (bodies_after focus_after f) (keys_said_focus after_it answer args es w x)
    ∙ moved_focus (has_focus (past_of es) w) (has_focus after_it w)
  where
    keys_said_focus : (after_it : History) (answer : Reply) (args : Option Args) (es : List Effect) (w : ℕ) (x : Option Bool)
        → bodies_after focus_after (keys_said after_it args es w) x ≡ x
    keys_said_focus after_it answer args es w x = keys_focus _ x

pub focus_law : FocusLaw
focus_law ds [] w l e = absurd (true≢false (sym e))
focus_law ds ((call, answer) ∷ h) w l e =
    let es = effects ds h in
    let p = effects_law ds h in
    let now_live : live ((call, answer) ∷ past_of es) w ≡ true = subst (λ past. live ((call, answer) ∷ past) w ≡ true) (sym p) e in
    let before : sent_focus (stream es w) ≡ Some (has_focus h w) =
    elim (cases_Bool (live h w)) [
      | inl y ↦ focus_law ds h w l.1 y
      | inr n ↦ ap sent_focus (unopened ds h w l.1 (new_channel ds call answer h w l n e)) ∙ ap Some (sym (no_focus h w n))
    ] in
    ap sent_focus (stream_step ds call answer h w l)
    ∙ sent_focus_on (clock ((call, answer) ∷ h)) (said_at ds call answer es w) (stream es w)
    ∙ ap (bodies_after focus_after (said_at ds call answer es w)) (before ∙ ap (λ past. Some (has_focus past w)) (sym p))
    ∙ step_focus ds call answer es w now_live
    ∙ ap (λ past. Some (has_focus ((call, answer) ∷ past) w)) p

pub focus_comes : FocusComesLaw
focus_comes ds [] w l = refl
focus_comes ds ((call, answer) ∷ h) w l =
    elim (cases_Bool (live ((call, answer) ∷ h) w)) [
      | inl y ↦ ap is_some (focus_law ds ((call, answer) ∷ h) w l y)
      | inr f ↦ ap (λ ms. is_some (sent_focus ms)) (silent_law ds call answer h w f) ∙ focus_comes ds h w l.1
    ]
