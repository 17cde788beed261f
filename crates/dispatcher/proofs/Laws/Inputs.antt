-- What windows were sent, after any step.
use Rattle.std.proofs.Common.{◌≡◌, ◌≤◌, ℕ, zero, suc, Bool, true, false, cond, List, [], ◌∷◌, ◌++◌, flat_map, map, Option, Some, None, refl, sym, ap, ◌∙◌, subst, arith, eq-eqb}
use Rattle.std.proofs.lemmas.Bool.{and_parts}
use Rattle.window_snapshot.specs.Named.{is_focusable_on}
use Rattle.input_types.specs.declared.motion.Motion.{Motion}
use Rattle.input_types.specs.declared.message.Body.{Body}
use Rattle.input_types.specs.declared.message.Body.TheVariants.{Motion as MotionBody, Key}
use Rattle.focus_resolver.specs.Resolver.{focus_if, is_at}
use Rattle.key_repeat.specs.Due.{Sent}
use Rattle.dispatcher.specs.CancelSynthesis.Tracked.{pointers_of}
use Rattle.dispatcher.specs.CancelSynthesis.Laws.{pointers_sent, keys_sent}
use Rattle.routing_rules.specs.Cover.{under, under_all}
use Rattle.routing_rules.specs.Marks.{covered}
use Rattle.routing_rules.specs.Outgoing.{sent_with, devices}
use Rattle.dispatch_calls.specs.declared.call.Call.{Call}
use Rattle.dispatch_calls.specs.declared.reply.Reply.{Reply}
use Rattle.dispatch_history.specs.History.{History, live, clock, origin, snapshot}
use Rattle.dispatch_history.specs.Focus.{key_target, may_focus, requested, asked, is_target, has_focus, focus_sent}
use Rattle.dispatch_history.specs.Effect.{Effect, past_of}
use Rattle.dispatch_history.specs.Effects.{step, said_at}
use Rattle.dispatch_history.specs.Said.{motion_from}
use Rattle.dispatch_history.specs.Step.{marks, scene}
use Rattle.dispatcher.specs.DispatchTables.Lawful.{Lawful}
use Rattle.dispatcher.specs.KeyTables.Held.{KeysAre, key_messages}
use Rattle.dispatcher.specs.KeyTables.Repeats.{RepeatIs, repeat_next}
use Rattle.dispatcher.proofs.KeyTables.Focusing.{focus_left}
use Rattle.dispatcher.proofs.KeyTables.Lasting.{keys_step, keys_at_first}
use Rattle.dispatcher.proofs.KeyTables.Repeating.{repeat_step, repeat_left}
use Rattle.dispatcher.proofs.KeyTables.Saying.{said_parts}
use Rattle.dispatcher.specs.Pointing.{step_at, mark_at}
use Rattle.dispatcher.specs.Laws.{InputLaw, InputFirst, InputQuiet, KeyingQuiet}
use Rattle.dispatcher.proofs.Laws.Pointed.{pointers_law, pointers_first}

pub input_law : InputLaw
input_law ds call answer es w old new l rise lives is goes =
    record {
      pointers_are = pointers_law ds call answer es w old new l rise lives is.pointers_are goes.pointers_are;
      keys_are = subst (λ ks. KeysAre (step ds call answer es) w ks) (sym goes.keys_are) (keys_step ds call answer es w old.keys l lives is.keys_are);
    }

pub input_first : InputFirst
input_first ds es w input l n unsent no_keys =
    record {
      pointers_are = pointers_first ds es w input l n unsent;
      keys_are = subst (λ ks. KeysAre es w ks) (sym no_keys) (keys_at_first ds es w l n);
    }

-- ---- a step that sends nothing

none_of : {X : Type 0} (xs ys : List X) → xs ++ ys ≡ [] → (xs ≡ []) × (ys ≡ [])
none_of [] ys e = (refl, e)
none_of (x ∷ xs) ys e = absurd (cc e)

none_mapped : {X Y : Type 0} (f : X → Y) (xs : List X) → map f xs ≡ [] → xs ≡ []
none_mapped f [] e = refl
none_mapped f (x ∷ xs) e = absurd (cc e)

-- of no device, by the rest of the devices
none_each : (f : ℕ → List Motion) (d : ℕ) → flat_map f devices ≡ [] → 1 ≤ d → d ≤ 8 → f d ≡ []
none_each f d e low high =
    let a = none_of (f 1) (flat_map f (2 ∷ 3 ∷ 4 ∷ 5 ∷ 6 ∷ 7 ∷ 8 ∷ [])) e in
    let b = none_of (f 2) (flat_map f (3 ∷ 4 ∷ 5 ∷ 6 ∷ 7 ∷ 8 ∷ [])) a.1 in
    let c = none_of (f 3) (flat_map f (4 ∷ 5 ∷ 6 ∷ 7 ∷ 8 ∷ [])) b.1 in
    let g = none_of (f 4) (flat_map f (5 ∷ 6 ∷ 7 ∷ 8 ∷ [])) c.1 in
    let h = none_of (f 5) (flat_map f (6 ∷ 7 ∷ 8 ∷ [])) g.1 in
    let i = none_of (f 6) (flat_map f (7 ∷ 8 ∷ [])) h.1 in
    let j = none_of (f 7) (flat_map f (8 ∷ [])) i.1 in
    let k = none_of (f 8) [] j.1 in
    one_of f d a.0 b.0 c.0 g.0 h.0 i.0 j.0 k.0 low high
  where
    one_of : (f : ℕ → List Motion) (d : ℕ) → f 1 ≡ [] → f 2 ≡ [] → f 3 ≡ [] → f 4 ≡ [] → f 5 ≡ [] → f 6 ≡ [] → f 7 ≡ [] → f 8 ≡ [] → 1 ≤ d → d ≤ 8
        → f d ≡ []
    one_of f zero a b c g h i j k low high = absurd (omega arith)
    one_of f (suc zero) a b c g h i j k low high = a
    one_of f (suc (suc zero)) a b c g h i j k low high = b
    one_of f (suc (suc (suc zero))) a b c g h i j k low high = c
    one_of f (suc (suc (suc (suc zero)))) a b c g h i j k low high = g
    one_of f (suc (suc (suc (suc (suc zero))))) a b c g h i j k low high = h
    one_of f (suc (suc (suc (suc (suc (suc zero)))))) a b c g h i j k low high = i
    one_of f (suc (suc (suc (suc (suc (suc (suc zero))))))) a b c g h i j k low high = j
    one_of f (suc (suc (suc (suc (suc (suc (suc (suc zero)))))))) a b c g h i j k low high = k
    one_of f (suc (suc (suc (suc (suc (suc (suc (suc (suc n))))))))) a b c g h i j k low high = absurd (omega (arith, high))

-- a window that is said nothing is sent no motion and no key
pub record Unsaid (ds : List ℕ) (call : Call) (answer : Reply) (es : List Effect) (w : ℕ) : Type 0 where
  pub motions : flat_map (sent_with (scene ds es) (step_at call answer es) (mark_at ds call answer es) w) devices ≡ []
  pub keys : key_messages call answer es w ≡ []

pub unsaid : (ds : List ℕ) (call : Call) (answer : Reply) (es : List Effect) (w : ℕ) → live (past_of (step ds call answer es)) w ≡ true
    → said_at ds call answer es w ≡ [] → Unsaid ds call answer es w
unsaid ds call answer es w lives e =
    let raw = flat_map (sent_with (scene ds es) (step_at call answer es) (mark_at ds call answer es) w) devices in
    let cover = covered (mark_at ds call answer es ∷ marks es) w in
    let ms = under_all cover raw in
    let Shift : Motion → Body = λ m. MotionBody (motion_from (origin (past_of es) w) m) in
    let ks = key_messages call answer es w in
    let a =
    none_of (map Shift ms ++ map Key ks) (focus_sent (has_focus (past_of es) w) (has_focus (past_of (step ds call answer es)) w))
    (sym (said_parts ds call answer es w lives) ∙ e) in
    let b = none_of (map Shift ms) (map Key ks) a.0 in
    record { motions = none_mapped (λ m. under (cover m.device) m) raw (none_mapped Shift ms b.0); keys = none_mapped Key ks b.1 }

pub input_quiet : InputQuiet
input_quiet ds call answer es w input lives e =
    let u = unsaid ds call answer es w lives e in
    record {
      pointers_are = λ d low high.
          ap (λ ms. pointers_sent ms (pointers_of input d))
          (sym (none_each (sent_with (scene ds es) (step_at call answer es) (mark_at ds call answer es) w) d u.motions low high));
      keys_are = ap (λ ms. keys_sent ms input.keys) (sym u.keys);
    }

may_be : (may : ℕ → Bool) (o : Option ℕ) (t : ℕ) → focus_if may o ≡ Some t → may t ≡ true
may_be may None t e = absurd (cc e)
may_be may (Some c) t e = by_test (may c) refl e
  where
    by_test : (b : Bool) → may c ≡ b → cond b (Some c) None ≡ Some t → may t ≡ true
    by_test true q e = let same : c ≡ t = cc in subst (λ x. may x ≡ true) same q
    by_test false q e = absurd (cc e)

-- the key target is live
pub target_live : (h : History) (t : ℕ) → key_target h ≡ Some t → live h t ≡ true
target_live h t e =
    (and_parts (live h t) (is_focusable_on (snapshot h) (asked h) t) (may_be (may_focus h (asked h)) (requested h (asked h)) t e)).0

-- what is kept of the last key message, by whether there is a key target
pub repeat_quiet : (ds : List ℕ) (call : Call) (answer : Reply) (es : List Effect) (repeat : Option Sent) (target : Option ℕ)
    → Lawful ds (step ds call answer es)
    → ((w : ℕ) → live (past_of (step ds call answer es)) w ≡ live (past_of es) w)
    → ((w : ℕ) → live (past_of (step ds call answer es)) w ≡ true → said_at ds call answer es w ≡ [])
    → RepeatIs es repeat → key_target (past_of es) ≡ target → RepeatIs (step ds call answer es) repeat
repeat_quiet ds call answer es repeat None l same quiet is e = repeat_left ds call answer es repeat l e is
repeat_quiet ds call answer es repeat (Some t) l same quiet is e =
    let now = clock (past_of (step ds call answer es)) in
    let at : is_target (past_of es) t ≡ true = ap (λ o. is_at o t) e ∙ eq-eqb t t refl in
    let lives : live (past_of (step ds call answer es)) t ≡ true = same t ∙ target_live (past_of es) t e in
    subst (RepeatIs (step ds call answer es))
    (ap (λ b. repeat_next b now t (key_messages call answer es t) repeat) lives
    ∙ ap (λ ms. repeat_next true now t ms repeat) (unsaid ds call answer es t lives (quiet t lives)).keys)
    (repeat_step ds call answer es t repeat l at is)

pub keying_quiet : KeyingQuiet
keying_quiet ds call answer es focus repeat l leaves same quiet is =
    record {
      focus_is = focus_left ds call answer es focus leaves is.focus_is;
      repeat_is = repeat_quiet ds call answer es repeat (key_target (past_of es)) l same quiet is.repeat_is refl;
    }
