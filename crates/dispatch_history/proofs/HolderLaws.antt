-- Every window that holds a pointer is able, and the snapshot shows it on the display of the device.
use Rattle.std.proofs.Common.{◌≡◌, ℕ, ◌==◌, ◌&&◌, ◌||◌, ◌⊎◌, Bool, true, false, not, cond, List, [], ◌∷◌, filter, Option, Some, None, refl, sym, ap, ◌∙◌, subst, inl, inr}
use Rattle.std.proofs.lemmas.Bool.{and_parts, and_from, or_cases, or_parts, or_left, or_right, both_ways, true≢false, not-true, not-false, eqb-true, eq-eqb}
use Rattle.input_types.specs.Displays.{device_display}
use Rattle.input_types.specs.declared.message.Args.{Args}
use Rattle.input_types.specs.declared.message.Args.TheVariants.{Motion as MotionArgs, Key, Reset}
use Rattle.window_snapshot.specs.declared.window.Window.{Window}
use Rattle.window_snapshot.specs.Named.{is_named, is_shown_on}
use Rattle.window_snapshot.specs.Walls.{wall_on}
use Rattle.dispatch_calls.specs.declared.call.Call.TheVariants.{Open, Windows, FocusOn, Notify, Pump, Tick, Receive, Finish, Pilfer, Remove}
use Rattle.dispatch_calls.specs.declared.reply.Reply.{Reply}
use Rattle.dispatch_calls.specs.declared.terms.Terms.{Terms}
use Rattle.dispatch_calls.specs.declared.reply.Reply.TheVariants.{Opened, Named, Done}
use Rattle.routing_rules.specs.Pairs.{Pair, has, has_any}
use Rattle.routing_rules.specs.Taking.{takes}
use Rattle.routing_rules.specs.Marks.{Mark, held}
use Rattle.routing_rules.specs.Scene.{Scene, Shows, NoOp, stays, is_missed}
use Rattle.routing_rules.specs.Given.{changed, given, taken, mark}
use Rattle.dispatch_history.specs.History.{History, live, live_after, snapshot}
use Rattle.dispatch_history.specs.Queue.{inbound, args_of}
use Rattle.dispatch_history.specs.Effect.{Effect, past_of}
use Rattle.dispatch_history.specs.Effects.{effects, effect_of}
use Rattle.dispatch_history.specs.Delivery.{able, unresponsive, reports, is_reported_by}
use Rattle.dispatch_history.specs.Step.{marks, scene, step_of}
use Rattle.dispatch_history.specs.Laws.{HolderLaw}
use Rattle.dispatch_history.proofs.AbleLaws.{able_step}
use Rattle.dispatch_history.proofs.LegalLaws.{effects_law}
use Rattle.dispatch_history.proofs.FitLaws.{held_then}
use Rattle.dispatch_history.proofs.MotionGives.{ForDevice, motion_given}

-- who holds something of a device holds some pointer of it
some_id : (qs : List Pair) (w d : ℕ) → has_any qs w d ≡ true → (i : ℕ) × (has qs w d i ≡ true)
some_id [] w d e = absurd (true≢false (sym e))
some_id (q ∷ qs) w d e =
    elim (or_cases (q.window == w && q.device == d) (has_any qs w d) e) [
      | inl t ↦ (q.id, or_left (q.window == w && q.device == d && q.id == q.id) (has qs w d q.id) (and_from (q.window == w && q.device == d) (q.id == q.id) t (eq-eqb q.id q.id refl)))
      | inr k ↦ let r = some_id qs w d k in (r.0, or_right (q.window == w && q.device == d && q.id == r.0) (has qs w d r.0) r.1)
    ]

-- a window that is not missing from the next snapshot is shown there on the display on which it was
not_missed : (before next : List Window) (y w : ℕ) → is_shown_on before y w ≡ true → is_missed before next w ≡ false → is_shown_on next y w ≡ true
not_missed [] next y w s n = absurd (true≢false (sym s))
not_missed (v ∷ vs) next y w s n =
    let p = or_parts (v.channel == w && not (is_shown_on next v.display w)) (is_missed vs next w) n in
    by_display (v.display == y) refl p.0 (λ k. not_missed vs next y w k p.1) s
  where
    by_display : (b : Bool) → (v.display == y) ≡ b → (v.channel == w && not (is_shown_on next v.display w)) ≡ false
        → (is_shown_on vs y w ≡ true → is_shown_on next y w ≡ true) → is_named (cond b (v ∷ filter (λ u. u.display == y) vs) (filter (λ u. u.display == y) vs)) w ≡ true
        → is_shown_on next y w ≡ true
    by_display true q m more k =
        elim (or_cases (v.channel == w) (is_shown_on vs y w) k) [
          | inl same ↦
              let shown : is_shown_on next v.display w ≡ true = not-false (is_shown_on next v.display w) (sym (ap (λ b. b && not (is_shown_on next v.display w)) same) ∙ m) in
              subst (λ z. is_shown_on next z w ≡ true) (eqb-true v.display y q) shown
          | inr rest ↦ more rest
        ]
    by_display false q m more k = more k

-- what is held after a step was given by it, or held before and not taken
held_parts : (k : Mark) (ms : List Mark) (w d i : ℕ) → has (held (k ∷ ms)) w d i ≡ true
    → (has k.given w d i ≡ true) ⊎ ((has (held ms) w d i ≡ true) × (takes k.taken w d i ≡ false))
held_parts k ms w d i h =
    elim (or_cases (has k.given w d i) (has (held ms) w d i && not (takes k.taken w d i)) (sym (held_then k ms w d i) ∙ h)) [
      | inl g ↦ inl g
      | inr b ↦ let p = and_parts (has (held ms) w d i) (not (takes k.taken w d i)) b in inr (p.0, not-true (takes k.taken w d i) p.1)
    ]

-- a window is able after some steps, and shown on the display of a device
abbrev Stands : List ℕ → List Effect → ℕ → ℕ → Type 0
Stands ds es w d = (able es w ≡ true) × (is_shown_on (snapshot (past_of es)) (device_display ds d) w ≡ true)

-- it stays so while it stays live, is not reported unresponsive, and is shown
remains : (ds : List ℕ) (x : Effect) (es : List Effect) (w d : ℕ) → able es w ≡ true → live x.past w ≡ true → reports x.past w ≡ false
    → is_shown_on (snapshot x.past) (device_display ds d) w ≡ true → Stands ds (x ∷ es) w d
remains ds x es w d a l n s =
    let p = and_parts (live (past_of es) w) (not (unresponsive es w)) a in
    ((able_step x es w).0 (not-true (unresponsive es w) p.1) ∙ and_from (live x.past w) (not (reports x.past w)) l (ap not n), s)

was_live : (es : List Effect) (w : ℕ) → able es w ≡ true → live (past_of es) w ≡ true
was_live es w a = (and_parts (live (past_of es) w) (not (unresponsive es w)) a).0

open_live : (terms : Terms) (answer : Reply) (c : ℕ) (before : Bool) → before ≡ true → live_after (Open terms) answer c before ≡ true
open_live terms (Opened k) c before e = or_right (c == k) before e
open_live terms _ c before e = e

remove_live : (ws : List Window) (s : Scene) (now k w d i : ℕ) (answer : Reply) (before : Bool) → before ≡ true
    → takes (taken s (step_of ws (Remove now k) answer None)) w d i ≡ false → live_after (Remove now k) answer w before ≡ true
remove_live ws s now k w d i Done before e n = and_from (not (w == k)) before (ap not n) e
remove_live ws s now k w d i _ before e n = e

remove_gives : (ws : List Window) (s : Scene) (now k w d i : ℕ) (answer : Reply) → has (given s (step_of ws (Remove now k) answer None)) w d i ≡ false
remove_gives ws s now k w d i Done = refl
remove_gives ws s now k w d i _ = refl

tick_names : (ws : List Window) (s : Scene) (now w d i : ℕ) (answer : Reply) → takes (taken s (step_of ws (Tick now) answer None)) w d i ≡ false → is_reported_by (Tick now) answer w ≡ false
tick_names ws s now w d i (Named mask) n = n
tick_names ws s now w d i _ n = refl

tick_gives : (ws : List Window) (s : Scene) (now w d i : ℕ) (answer : Reply) → has (given s (step_of ws (Tick now) answer None)) w d i ≡ false
tick_gives ws s now w d i (Named mask) = refl
tick_gives ws s now w d i _ = refl

pilfer_gives : (ws : List Window) (s : Scene) (now c e w d i : ℕ) (answer : Reply) → has (given s (step_of ws (Pilfer now c e) answer None)) w d i ≡ false
pilfer_gives ws s now c e w d i Done = refl
pilfer_gives ws s now c e w d i _ = refl

-- a motion gives to able windows, so what it reaches counts where it is able
pump_gives : (ds : List ℕ) (ws : List Window) (s : Scene) (now w d i : ℕ) (answer : Reply) (o : Option Args)
    → ((e : ℕ) → ForDevice (λ v. not (s.able v) || is_shown_on ws (device_display ds e) v) s e)
    → has (given s (step_of ws (Pump now) answer o)) w d i ≡ true → (s.able w ≡ true) × (is_shown_on ws (device_display ds d) w ≡ true)
pump_gives ds ws s now w d i answer (Some (MotionArgs m)) f h =
    let g = motion_given (λ v. not (s.able v) || is_shown_on ws (device_display ds m.device) v) s m m.action (changed m) w d i (f m.device) h in
    let shown = sym (ap (λ b. not b || is_shown_on ws (device_display ds m.device) w) g.0) ∙ g.1 in
    (g.0, subst (λ e. is_shown_on ws (device_display ds e) w ≡ true) (eqb-true m.device d g.2) shown)
pump_gives ds ws s now w d i answer (Some (Key k)) f h = absurd (true≢false (sym h))
pump_gives ds ws s now w d i answer (Some (Reset r)) f h = absurd (true≢false (sym h))
pump_gives ds ws s now w d i answer None f h = absurd (true≢false (sym h))

-- a step that gives nothing leaves only what was held
only_kept : (k : Mark) (ms : List Mark) (w d i : ℕ) → has k.given w d i ≡ false → has (held (k ∷ ms)) w d i ≡ true
    → (has (held ms) w d i ≡ true) × (takes k.taken w d i ≡ false)
only_kept k ms w d i n h = elim (held_parts k ms w d i h) [ inl g ↦ absurd (both_ways (has k.given w d i) n g) | inr b ↦ b ]

-- a motion reaches windows that are shown on its display, and walls, which are not able
reached_able : (es : List Effect) (ws : List Window) (y v : ℕ)
    → (live (past_of es) v && is_shown_on ws y v || (not (live (past_of es) v) && v == wall_on y)) ≡ true → (not (able es v) || is_shown_on ws y v) ≡ true
reached_able es ws y v k =
    let lives = live (past_of es) v in
    elim (or_cases (lives && is_shown_on ws y v) (not lives && v == wall_on y) k) [
      | inl on ↦ or_right (not (able es v)) (is_shown_on ws y v) (and_parts lives (is_shown_on ws y v) on).1
      | inr wall ↦
          let dead : lives ≡ false = not-true lives (and_parts (not lives) (v == wall_on y) wall).0 in
          or_left (not (able es v)) (is_shown_on ws y v) (ap (λ b. not (b && not (unresponsive es v))) dead)
    ]

holders : (ds : List ℕ) (h : History) (w d i : ℕ) → has (held (marks (effects ds h))) w d i ≡ true → Stands ds (effects ds h) w d
holders ds [] w d i h = absurd (true≢false (sym h))
holders ds ((Pump now, answer) ∷ h) w d i x =
    let es = effects ds h in
    let ws = snapshot (past_of es) in
    let o = args_of (Pump now) answer (inbound (past_of es)) in
    let y = effect_of ds (Pump now) answer o es in
    let done : Stands ds es w d → Stands ds (y ∷ es) w d = λ q. remains ds y es w d q.0 (was_live es w q.0) refl q.1 in
    let for_device : (e : ℕ) → ForDevice (λ v. not (able es v) || is_shown_on ws (device_display ds e) v) (scene ds es) e =
    λ e. record {
      held = λ v k.
          let r = some_id (held (marks es)) v e k in
          or_right (not (able es v)) (is_shown_on ws (device_display ds e) v) (holders ds h v e r.0 r.1).1;
      reached = λ v k. reached_able es ws (device_display ds e) v k;
    } in
    elim (held_parts (mark (scene ds es) (step_of ws (Pump now) answer o)) (marks es) w d i x)
    [ inl g ↦ done (pump_gives ds ws (scene ds es) now w d i answer o for_device g) | inr b ↦ done (holders ds h w d i b.0) ]
holders ds ((Windows now next, answer) ∷ h) w d i x =
    let es = effects ds h in
    let ws = snapshot (past_of es) in
    let b = only_kept (mark (scene ds es) (Shows (stays ws next))) (marks es) w d i refl x in
    let q = holders ds h w d i b.0 in
    let kept = and_parts (is_named next w) (not (is_missed ws next w)) (not-false (stays ws next w) b.1) in
    remains ds (effect_of ds (Windows now next) answer None es) es w d q.0 (was_live es w q.0) refl
    (not_missed ws next (device_display ds d) w q.1 (not-true (is_missed ws next w) kept.1))
holders ds ((Tick now, answer) ∷ h) w d i x =
    let es = effects ds h in
    let ws = snapshot (past_of es) in
    let b = only_kept (mark (scene ds es) (step_of ws (Tick now) answer None)) (marks es) w d i (tick_gives ws (scene ds es) now w d i answer) x in
    let q = holders ds h w d i b.0 in
    remains ds (effect_of ds (Tick now) answer None es) es w d q.0 (was_live es w q.0) (tick_names ws (scene ds es) now w d i answer b.1) q.1
holders ds ((Pilfer now c v, answer) ∷ h) w d i x =
    let es = effects ds h in
    let ws = snapshot (past_of es) in
    let b = only_kept (mark (scene ds es) (step_of ws (Pilfer now c v) answer None)) (marks es) w d i (pilfer_gives ws (scene ds es) now c v w d i answer) x in
    let q = holders ds h w d i b.0 in
    remains ds (effect_of ds (Pilfer now c v) answer None es) es w d q.0 (was_live es w q.0) (refl) q.1
holders ds ((Remove now k, answer) ∷ h) w d i x =
    let es = effects ds h in
    let ws = snapshot (past_of es) in
    let b = only_kept (mark (scene ds es) (step_of ws (Remove now k) answer None)) (marks es) w d i (remove_gives ws (scene ds es) now k w d i answer) x in
    let q = holders ds h w d i b.0 in
    remains ds (effect_of ds (Remove now k) answer None es) es w d q.0 (remove_live ws (scene ds es) now k w d i answer (live (past_of es) w) (was_live es w q.0) b.1) (refl) q.1
holders ds ((Open terms, answer) ∷ h) w d i x =
    let es = effects ds h in
    let b = only_kept (mark (scene ds es) NoOp) (marks es) w d i refl x in
    let q = holders ds h w d i b.0 in
    remains ds (effect_of ds (Open terms) answer None es) es w d q.0 (open_live terms answer w (live (past_of es) w) (was_live es w q.0)) refl q.1
holders ds ((FocusOn now y c keys, answer) ∷ h) w d i x =
    let es = effects ds h in
    let b = only_kept (mark (scene ds es) NoOp) (marks es) w d i refl x in
    let q = holders ds h w d i b.0 in
    remains ds (effect_of ds (FocusOn now y c keys) answer None es) es w d q.0 (was_live es w q.0) refl q.1
holders ds ((Notify now a, answer) ∷ h) w d i x =
    let es = effects ds h in
    let b = only_kept (mark (scene ds es) NoOp) (marks es) w d i refl x in
    let q = holders ds h w d i b.0 in
    remains ds (effect_of ds (Notify now a) answer None es) es w d q.0 (was_live es w q.0) refl q.1
holders ds ((Receive c, answer) ∷ h) w d i x =
    let es = effects ds h in
    let b = only_kept (mark (scene ds es) NoOp) (marks es) w d i refl x in
    let q = holders ds h w d i b.0 in
    remains ds (effect_of ds (Receive c) answer None es) es w d q.0 (was_live es w q.0) refl q.1
holders ds ((Finish now c n, answer) ∷ h) w d i x =
    let es = effects ds h in
    let b = only_kept (mark (scene ds es) NoOp) (marks es) w d i refl x in
    let q = holders ds h w d i b.0 in
    remains ds (effect_of ds (Finish now c n) answer None es) es w d q.0 (was_live es w q.0) refl q.1

pub holder_law : HolderLaw
holder_law ds h w d i x =
    let q = holders ds h w d i x in
    (q.0, subst (λ past. is_shown_on (snapshot past) (device_display ds d) w ≡ true) (effects_law ds h) q.1)
