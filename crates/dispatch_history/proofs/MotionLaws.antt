-- The motions in the stream of a channel.
use Rattle.std.proofs.Common.{◌≡◌, ℕ, ◌+◌, ◌≤◌, ◌<◌, ◌==◌, ◌&&◌, nat_lt, Bool, true, false, not, cond, is_some, List, [], ◌∷◌, ◌++◌, filter, Option, Some, None, refl, sym, ap, ◌∙◌, subst, inl, inr, arith}
use Rattle.std.specs.List.{list_any}
use Rattle.std.proofs.lemmas.Bool.{cases_Bool, cases_cond, both_ways, true≢false, or_cases, and_parts, eqb-true, not-true}
use Rattle.std.proofs.lemmas.List.Elements.{filter_agree}
use Rattle.window_snapshot.specs.declared.window.Window.{Window}
use Rattle.input_types.specs.declared.message.Args.{Args}
use Rattle.input_types.specs.declared.message.Args.TheVariants.{Motion as MotionArgs, Key as KeyOfDevice, Reset}
use Rattle.dispatch_calls.specs.declared.call.Call.{Call}
use Rattle.dispatch_calls.specs.declared.call.Call.TheVariants.{Open, Windows, FocusOn, Notify, Pump, Tick, Receive, Finish, Pilfer, Remove}
use Rattle.dispatch_calls.specs.declared.reply.Reply.{Reply}
use Rattle.dispatch_calls.specs.declared.terms.Terms.{Terms}
use Rattle.dispatch_calls.specs.declared.reply.Reply.TheVariants.{Opened, Full, Named, Done}
use Rattle.dispatch_history.specs.History.{History, clock, live, live_after, opened, opened_after, origin, snapshot}
use Rattle.dispatch_history.specs.Queue.{inbound, args_of}
use Rattle.dispatch_history.specs.Step.{scene, step_of, marks}
use Rattle.dispatch_history.specs.Effects.{effects, said_at}
use Rattle.dispatch_history.specs.Legal.{Legal}
use Rattle.dispatch_history.specs.PointerOf.{AllRise}
use Rattle.dispatch_history.specs.Laws.{MotionsLaw, MotionsComeLaw}
use Rattle.routing_rules.proofs.SentLaws.{sent_law, filter_none}
use Rattle.dispatch_history.proofs.LegalLaws.{effects_law}
use Rattle.dispatch_history.proofs.FitLaws.{held_then, step_facts, fit_law}
use Rattle.dispatch_history.proofs.StreamLaws.{live_law, removed_live, stream_step, silent_law}
use Rattle.dispatch_history.proofs.HolderLaws.{holder_law}
use Rattle.routing_rules.specs.Marks.{covered}
use Rattle.routing_rules.specs.Given.{mark}
use Rattle.routing_rules.specs.Outgoing.{sent_with, outgoing, after, devices}
use Rattle.routing_rules.specs.Fits.{sent_ids, Leaves}
use Rattle.dispatch_history.specs.Effect.{Effect, past_of, stream, sent_down, down_ids}
use Rattle.dispatch_history.specs.Focus.{has_focus, is_target, focus_sent}
use Rattle.dispatch_history.specs.Delivery.{able, unresponsive}
use Rattle.dispatch_history.specs.Keys.{keys, loses_all}
use Rattle.dispatch_history.specs.KeySent.{keys_sent, repeat_by, last_key}
use Rattle.dispatch_history.specs.Said.{motions_said, keys_said}
use Rattle.dispatch_history.proofs.SentMotions.{sent_of, bodies_down, sent_down_on, bodies_down-append, keys_down, focus_down, none_of_devices, one_of_devices, devices_differ}

-- a step that removes a window leaves it not live
pub removes_other : (ws : List Window) (call : Call) (answer : Reply) (args : Option Args) (w : ℕ) (before : Bool) → live_after call answer w before ≡ true → Leaves (step_of ws call answer args) w
removes_other ws (Remove now k) Done args w before e = not-true (w == k) (and_parts (not (w == k)) before e).0
removes_other ws (Remove now k) _ args w before e = tt
removes_other ws (Pump now) answer (Some (MotionArgs m)) w before e = tt
removes_other ws (Pump now) answer (Some (KeyOfDevice k)) w before e = tt
removes_other ws (Pump now) answer (Some (Reset d)) w before e = tt
removes_other ws (Pump now) answer None w before e = tt
removes_other ws (Tick now) (Named mask) args w before e = tt
removes_other ws (Tick now) _ args w before e = tt
removes_other ws (Pilfer now c d) Done args w before e = tt
removes_other ws (Pilfer now c d) _ args w before e = tt
removes_other ws (Windows now shown) answer args w before e = tt
removes_other ws (Open terms) answer args w before e = tt
removes_other ws (FocusOn now y c keys) answer args w before e = tt
removes_other ws (Notify now a) answer args w before e = tt
removes_other ws (Receive c) answer args w before e = tt
removes_other ws (Finish now c n) answer args w before e = tt

-- what a live channel is sent, in its three parts
pub live_said : (ds : List ℕ) (call : Call) (answer : Reply) (es : List Effect) (w : ℕ) → live ((call, answer) ∷ past_of es) w ≡ true
    → said_at ds call answer es w
    ≡ (let after_it = (call, answer) ∷ past_of es in
    let args = args_of call answer (inbound (past_of es)) in
    let s = scene ds es in
    let e = step_of (snapshot (past_of es)) call answer args in
    motions_said s e (mark s e) (covered (mark s e ∷ marks es) w) (origin (past_of es) w) w ++ keys_said after_it args es w ++ focus_sent (has_focus (past_of es) w) (has_focus after_it w))
live_said ds call answer es w n = rw n refl

keys_said_down : (d : ℕ) (after_it : History) (answer : Reply) (args : Option Args) (es : List Effect) (w : ℕ) (x : Option (List ℕ))
    → bodies_down d (keys_said after_it args es w) x ≡ x
keys_said_down d after_it answer args es w x =
    keys_down d
    (keys_sent args (is_target (past_of es) w && able es w) (loses_all after_it (past_of es) w) (keys es w) ++ repeat_by after_it (last_key es) w) x

-- a step changes the ids that a window knows of a device by what it sends for that device
step_down : (ds : List ℕ) (call : Call) (answer : Reply) (es : List Effect) (w d : ℕ) (ids next : List ℕ) → live ((call, answer) ∷ past_of es) w ≡ true → list_any (λ e. e == d) devices ≡ true
    → sent_ids ids (outgoing (scene ds es) (step_of (snapshot (past_of es)) call answer (args_of call answer (inbound (past_of es)))) w d) ≡ Some next
    → bodies_down d (said_at ds call answer es w) (Some ids) ≡ Some next
step_down ds call answer es w d ids next n h t =
    let after_it : History = (call, answer) ∷ past_of es in
    let args = args_of call answer (inbound (past_of es)) in
    let s = scene ds es in
    let e = step_of (snapshot (past_of es)) call answer args in
    let o = origin (past_of es) w in
    let cover = covered (mark s e ∷ marks es) w in
    let m = motions_said s e (mark s e) cover o w in
    let k = keys_said after_it args es w in
    let f = focus_sent (has_focus (past_of es) w) (has_focus after_it w) in
    ap (λ bs. bodies_down d bs (Some ids)) (live_said ds call answer es w n)
    ∙ bodies_down-append d (m ++ k) f (Some ids)
    ∙ focus_down d (has_focus (past_of es) w) (has_focus after_it w) (bodies_down d (m ++ k) (Some ids))
    ∙ bodies_down-append d m k (Some ids)
    ∙ keys_said_down d after_it answer args es w (bodies_down d m (Some ids))
    ∙ one_of_devices cover (sent_with s e (mark s e) w) d o devices ids next (λ v. sent_of s e (mark s e) w v) devices_differ h t

-- nothing is sent for a device without one of the numbers
step_skips : (ds : List ℕ) (call : Call) (answer : Reply) (es : List Effect) (w d : ℕ) (x : Option (List ℕ)) → live ((call, answer) ∷ past_of es) w ≡ true → list_any (λ e. e == d) devices ≡ false
    → bodies_down d (said_at ds call answer es w) x ≡ x
step_skips ds call answer es w d x n h =
    let after_it : History = (call, answer) ∷ past_of es in
    let args = args_of call answer (inbound (past_of es)) in
    let s = scene ds es in
    let e = step_of (snapshot (past_of es)) call answer args in
    let o = origin (past_of es) w in
    let cover = covered (mark s e ∷ marks es) w in
    let m = motions_said s e (mark s e) cover o w in
    let k = keys_said after_it args es w in
    let f = focus_sent (has_focus (past_of es) w) (has_focus after_it w) in
    ap (λ bs. bodies_down d bs x) (live_said ds call answer es w n)
    ∙ bodies_down-append d (m ++ k) f x
    ∙ focus_down d (has_focus (past_of es) w) (has_focus after_it w) (bodies_down d (m ++ k) x)
    ∙ bodies_down-append d m k x
    ∙ keys_said_down d after_it answer args es w (bodies_down d m x)
    ∙ none_of_devices cover (sent_with s e (mark s e) w) d o devices x (λ v. sent_of s e (mark s e) w v) h

-- a channel that is not opened yet was sent nothing
pub opened_mono : (call : Call) (answer : Reply) (n : ℕ) → n ≤ opened_after call answer n
opened_mono (Open terms) (Opened k) n = omega arith
opened_mono (Open terms) _ n = omega arith
opened_mono _ answer n = omega arith

pub unopened : (ds : List ℕ) (h : History) (w : ℕ) → Legal ds h → opened h < w → stream (effects ds h) w ≡ []
unopened ds [] w l lt = refl
unopened ds ((call, answer) ∷ h) w l lt =
    let n : live ((call, answer) ∷ h) w ≡ false =
    elim (cases_Bool (live ((call, answer) ∷ h) w))
    [ inl y ↦ absurd (omega (arith, (live_law ds ((call, answer) ∷ h) w l y).1, lt)) | inr f ↦ f ] in
    silent_law ds call answer h w n ∙ unopened ds h w l.1 (omega (arith, opened_mono call answer (opened h), lt))

-- a channel that a step makes live is the next one
opens_next : (n w : ℕ) (terms : Terms) (answer : Reply) (before : Bool) → before ≡ false → answer ≡ cond (nat_lt n 64) (Opened (n + 1)) Full
    → live_after (Open terms) answer w before ≡ true → n < w
opens_next n w terms answer before b r e =
    elim (cases_cond (nat_lt n 64) (Opened (n + 1)) Full answer r) [
      | inl q ↦
          elim (or_cases (w == n + 1) before (subst (λ a. live_after (Open terms) a w before ≡ true) q e))
          [ inl y ↦ let z : w ≡ n + 1 = eqb-true w (n + 1) y in omega (arith, z) | inr k ↦ absurd (both_ways before b k) ]
      | inr q ↦ absurd (both_ways before b (subst (λ a. live_after (Open terms) a w before ≡ true) q e))
    ]

pub new_channel : (ds : List ℕ) (call : Call) (answer : Reply) (h : History) (w : ℕ) → Legal ds ((call, answer) ∷ h) → live h w ≡ false → live ((call, answer) ∷ h) w ≡ true → opened h < w
new_channel ds (Open terms) answer h w l n e =
    opens_next (opened h) w terms answer (live h w) n
    (subst (λ past. answer ≡ cond (nat_lt (opened past) 64) (Opened (opened past + 1)) Full) (effects_law ds h) l.0) e
new_channel ds (Remove now k) answer h w l n e = absurd (both_ways (live h w) n (removed_live now k w answer (live h w) e))
new_channel ds (Windows now shown) answer h w l n e = absurd (both_ways (live h w) n e)
new_channel ds (FocusOn now y c keys) answer h w l n e = absurd (both_ways (live h w) n e)
new_channel ds (Notify now a) answer h w l n e = absurd (both_ways (live h w) n e)
new_channel ds (Pump now) answer h w l n e = absurd (both_ways (live h w) n e)
new_channel ds (Tick now) answer h w l n e = absurd (both_ways (live h w) n e)
new_channel ds (Receive c) answer h w l n e = absurd (both_ways (live h w) n e)
new_channel ds (Finish now c k) answer h w l n e = absurd (both_ways (live h w) n e)
new_channel ds (Pilfer now c d) answer h w l n e = absurd (both_ways (live h w) n e)

-- a channel that is not live holds nothing
holds_none : (ds : List ℕ) (h : History) (w d : ℕ) → live h w ≡ false → (i : ℕ) → (scene ds (effects ds h)).holds w d i ≡ false
holds_none ds h w d n i =
    elim (cases_Bool ((scene ds (effects ds h)).holds w d i)) [
      | inl y ↦
          absurd
          (both_ways (live h w) n
          (subst (λ past. live past w ≡ true) (effects_law ds h)
          (and_parts (live (past_of (effects ds h)) w) (not (unresponsive (effects ds h) w)) (holder_law ds h w d i y).0).0))
      | inr f ↦ f
    ]

abbrev Known : List ℕ → History → ℕ → ℕ → Type 0
Known ds h w d = sent_down d (stream (effects ds h) w) ≡ Some (filter ((scene ds (effects ds h)).holds w d) (down_ids (effects ds h) d))

-- if the channel is live after a step, its window knows before it what it holds
known_before : (ds : List ℕ) (call : Call) (answer : Reply) (h : History) (w d : ℕ) → Legal ds ((call, answer) ∷ h) → live ((call, answer) ∷ h) w ≡ true → (live h w ≡ true → Known ds h w d) → Known ds h w d
known_before ds call answer h w d l e known =
    elim (cases_Bool (live h w)) [
      | inl y ↦ known y
      | inr n ↦
          ap (sent_down d) (unopened ds h w l.1 (new_channel ds call answer h w l n e))
          ∙ ap Some (sym (filter_none ((scene ds (effects ds h)).holds w d) (down_ids (effects ds h) d) (holds_none ds h w d n)))
    ]

pub motions_law : MotionsLaw
motions_law ds [] w d l r e k = absurd (true≢false (sym e))
motions_law ds ((call, answer) ∷ h) w d l r e k =
    let es = effects ds h in
    let args = args_of call answer (inbound (past_of es)) in
    let x = step_facts ds call answer h d l r in
    let s = scene ds es in
    let step = step_of (snapshot (past_of es)) call answer args in
    let now_live : live ((call, answer) ∷ past_of es) w ≡ true = subst (λ past. live ((call, answer) ∷ past) w ≡ true) (sym (effects_law ds h)) e in
    let before : Known ds h w d = known_before ds call answer h w d l e (λ y. motions_law ds h w d l.1 r.1 y k) in
    let next = down_ids (effects ds ((call, answer) ∷ h)) d in
    let sent_it = sent_law s step w d (down_ids es d) next (fit_law ds h d l.1 r.1) x.rises (removes_other (snapshot (past_of es)) call answer args w (live (past_of es) w) now_live) x.down in
    ap (sent_down d) (stream_step ds call answer h w l)
    ∙ sent_down_on d (clock ((call, answer) ∷ h)) (said_at ds call answer es w) (stream es w)
    ∙ ap (bodies_down d (said_at ds call answer es w)) before
    ∙ step_down ds call answer es w d (filter (s.holds w d) (down_ids es d)) (filter (after s (mark s step) w d) next) now_live k sent_it
    ∙ ap Some (sym (filter_agree ((scene ds (effects ds ((call, answer) ∷ h))).holds w d) (after s (mark s step) w d) (λ i. held_then (mark s step) (marks es) w d i) next))

-- nothing is known about a device without a number
pub none_known : (ds : List ℕ) (h : History) (w d : ℕ) → Legal ds h → list_any (λ e. e == d) devices ≡ false → sent_down d (stream (effects ds h) w) ≡ Some []
none_known ds [] w d l n = refl
none_known ds ((call, answer) ∷ h) w d l n =
    elim (cases_Bool (live ((call, answer) ∷ h) w)) [
      | inl y ↦
          ap (sent_down d) (stream_step ds call answer h w l)
          ∙ sent_down_on d (clock ((call, answer) ∷ h)) (said_at ds call answer (effects ds h) w) (stream (effects ds h) w)
          ∙ step_skips ds call answer (effects ds h) w d (sent_down d (stream (effects ds h) w))
          (subst (λ past. live ((call, answer) ∷ past) w ≡ true) (sym (effects_law ds h)) y) n
          ∙ none_known ds h w d l.1 n
      | inr f ↦ ap (sent_down d) (silent_law ds call answer h w f) ∙ none_known ds h w d l.1 n
    ]

some_known : (ds : List ℕ) (h : History) (w d : ℕ) → Legal ds h → AllRise h → list_any (λ e. e == d) devices ≡ true → is_some (sent_down d (stream (effects ds h) w)) ≡ true
some_known ds [] w d l r k = refl
some_known ds ((call, answer) ∷ h) w d l r k =
    elim (cases_Bool (live ((call, answer) ∷ h) w)) [
      | inl y ↦ ap is_some (motions_law ds ((call, answer) ∷ h) w d l r y k)
      | inr f ↦ ap (λ ms. is_some (sent_down d ms)) (silent_law ds call answer h w f) ∙ some_known ds h w d l.1 r.1 k
    ]

pub motions_come : MotionsComeLaw
motions_come ds h w d l r =
    elim (cases_Bool (list_any (λ e. e == d) devices))
    [ inl y ↦ some_known ds h w d l r y | inr n ↦ ap is_some (none_known ds h w d l n) ]
