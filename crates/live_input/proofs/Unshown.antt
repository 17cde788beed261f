-- A channel whose window is not shown: it has no focus, holds nothing, and is sent nothing.
use Rattle.std.proofs.Common.{◌≡◌, ℕ, zero, suc, ℤ, ◌==◌, ◌&&◌, ◌||◌, Bool, true, false, not, cond, is_some, List, [], ◌∷◌, filter, take, Option, Some, None, refl, sym, ap, ap₂, ◌∙◌, subst, inl, inr}
use Rattle.std.specs.List.{prefix_len}
use Rattle.std.proofs.lemmas.Bool.{cases_Bool, cases_eq, both_ways, ne_eqb, or_parts, and_right}
use Rattle.input_types.specs.Displays.{device_display}
use Rattle.input_types.specs.declared.key.KeyArgs.{KeyArgs}
use Rattle.input_types.specs.declared.message.Args.{Args}
use Rattle.window_snapshot.specs.declared.window.Window.{Window}
use Rattle.window_snapshot.specs.Hits.{is_watcher_at, watches, in_front, takes_touch, touched_window}
use Rattle.window_snapshot.specs.Named.{is_named, is_shown_on, is_focusable_on}
use Rattle.window_snapshot.specs.Window.{is_focusable}
use Rattle.focus_resolver.specs.Resolver.{focus_if, is_at}
use Rattle.routing_rules.specs.Marks.{held}
use Rattle.routing_rules.specs.Pairs.{has}
use Rattle.dispatch_calls.specs.declared.call.Call.{Call}
use Rattle.dispatch_calls.specs.declared.call.Call.TheVariants.{Open, Windows, FocusOn, Notify, Pump, Tick, Receive, Finish, Pilfer, Remove}
use Rattle.dispatch_calls.specs.declared.reply.Reply.{Reply}
use Rattle.dispatch_history.specs.Delivery.{able, reports}
use Rattle.dispatch_history.specs.Effect.{Effect, past_of}
use Rattle.dispatch_history.specs.Effects.{step}
use Rattle.dispatch_history.specs.Focus.{requested, asked, may_focus, focus, has_focus, is_target}
use Rattle.dispatch_history.specs.History.{History, live, snapshot}
use Rattle.dispatch_history.specs.Keys.{keys, key_given, goes_down, ends, loses_all}
use Rattle.dispatch_history.specs.Queue.{inbound, args_of}
use Rattle.dispatch_history.specs.Step.{marks, scene}
use Rattle.dispatch_history.proofs.HolderLaws.{holder_law}
use Rattle.dispatcher.specs.DispatchTables.Lawful.{Lawful}
use Rattle.dispatcher.proofs.DispatchTables.Lawfuls.{lawful_always}

-- if nothing of a list passes, nothing of it remains
pub none_pass : {X : Type 0} (p : X → Bool) → ((x : X) → p x ≡ false) → (xs : List X) → filter p xs ≡ []
none_pass p f [] = refl
none_pass p f (x ∷ xs) = ap (λ b. cond b (x ∷ filter p xs) (filter p xs)) (f x) ∙ none_pass p f xs

-- a channel that no window has is that of none of some of the windows
pub named_filter : (p : Window → Bool) (ws : List Window) (c : ℕ) → is_named ws c ≡ false → is_named (filter p ws) c ≡ false
named_filter p [] c e = refl
named_filter p (w ∷ ws) c e =
    let x = or_parts (w.channel == c) (is_named ws c) e in
    by_test (p w) x.0 (named_filter p ws c x.1)
  where
    by_test : (b : Bool) → (w.channel == c) ≡ false → is_named (filter p ws) c ≡ false → is_named (cond b (w ∷ filter p ws) (filter p ws)) c ≡ false
    by_test true x more = ap (λ b. b || is_named (filter p ws) c) x ∙ more
    by_test false x more = more

named_take : (n : ℕ) (ws : List Window) (c : ℕ) → is_named ws c ≡ false → is_named (take n ws) c ≡ false
named_take zero ws c e = refl
named_take (suc n) [] c e = refl
named_take (suc n) (w ∷ ws) c e =
    let x = or_parts (w.channel == c) (is_named ws c) e in
    ap (λ b. b || is_named (take n ws) c) x.0 ∙ named_take n ws c x.1

-- its window does not watch
pub no_watcher : (ws : List Window) (live : ℕ → Bool) (x y : ℤ) (c : ℕ) → is_named ws c ≡ false → is_watcher_at ws live x y c ≡ false
no_watcher ws live x y c e = by_touched (is_some (touched_window ws live x y))
  where
    by_touched : (b : Bool) → is_named (cond b (filter (watches live) (in_front ws live x y)) []) c ≡ false
    by_touched true = named_filter (watches live) (in_front ws live x y) c (named_take (prefix_len (λ v. not (takes_touch live x y v)) ws) ws c e)
    by_touched false = refl

-- it has the focus of no display
pub no_focus : (h : History) (w y : ℕ) → is_named (snapshot h) w ≡ false → is_at (focus h y) w ≡ false
no_focus h w y e = by_request (requested h y)
  where
    may_not : may_focus h y w ≡ false
    may_not = and_right (live h w) (is_focusable_on (snapshot h) y w) (named_filter (λ v. v.display == y && is_focusable v) (snapshot h) w e)

    by_channel : (c : ℕ) (b : Bool) → may_focus h y c ≡ b → is_at (cond b (Some c) None) w ≡ false
    by_channel c false m = refl
    by_channel c true m =
        elim (cases_eq w c) [
          | inl same ↦ absurd (both_ways (may_focus h y w) may_not (subst (λ k. may_focus h y k ≡ true) (sym same) m))
          | inr other ↦ ne_eqb w c other
        ]

    by_request : (o : Option ℕ) → is_at (focus_if (may_focus h y) o) w ≡ false
    by_request None = refl
    by_request (Some c) = by_channel c (may_focus h y c) refl

pub not_focused : (h : History) (w : ℕ) → is_named (snapshot h) w ≡ false → has_focus h w ≡ false
not_focused h w e = rw (no_focus h w 0 e) (rw (no_focus h w 1 e) (rw (no_focus h w 2 e) (rw (no_focus h w 3 e) refl)))

pub not_target : (h : History) (w : ℕ) → is_named (snapshot h) w ≡ false → is_target h w ≡ false
not_target h w e = no_focus h w (asked h) e

-- a window that keys do not go to holds none
none_given : (o : Option KeyArgs) (ks : List KeyArgs) → key_given o false ks ≡ ks
none_given None ks = refl
none_given (Some k) ks = refl

none_left : (b : Bool) (o : Option Args) → cond b [] (filter (λ k. not (ends o k)) []) ≡ []
none_left true o = refl
none_left false o = refl

abbrev HoldsNone : ℕ → List Effect → Type 0
HoldsNone w es = is_target (past_of es) w ≡ false → keys es w ≡ []

-- if it was not the target before, it held none
was_none : (ds : List ℕ) (w : ℕ) (call : Call) (answer : Reply) (es : List Effect) → is_target (past_of es) w ≡ false → keys es w ≡ [] → keys (step ds call answer es) w ≡ []
was_none ds w call answer es t k =
    let o = args_of call answer (inbound (past_of es)) in
    let b = loses_all ((call, answer) ∷ past_of es) (past_of es) w in
    ap₂ (λ gets old. key_given (goes_down o) (gets && able es w) (cond b [] (filter (λ k. not (ends o k)) old))) t k
    ∙ none_given (goes_down o) (cond b [] (filter (λ k. not (ends o k)) []))
    ∙ none_left b o

-- if it was the target, and no longer is, it loses all keys
loses_them : (ds : List ℕ) (w : ℕ) (call : Call) (answer : Reply) (es : List Effect) → args_of call answer (inbound (past_of es)) ≡ None
    → is_target (past_of es) w ≡ true → is_target ((call, answer) ∷ past_of es) w ≡ false → keys (step ds call answer es) w ≡ []
loses_them ds w call answer es none was not_now =
    let after : History = (call, answer) ∷ past_of es in
    let lost : loses_all after (past_of es) w ≡ true = ap₂ (λ a b. a && not b || reports after w || not (live after w)) was not_now in
    ap₂ (λ o b. key_given (goes_down o) (is_target (past_of es) w && able es w) (cond b [] (filter (λ k. not (ends o k)) (keys es w)))) none lost

keys_step : (ds : List ℕ) (w : ℕ) (call : Call) (answer : Reply) (es : List Effect) → HoldsNone w es
    → args_of call answer (inbound (past_of es)) ≡ None → HoldsNone w (step ds call answer es)
keys_step ds w call answer es before none now =
    elim (cases_Bool (is_target (past_of es) w)) [
      | inl was ↦ loses_them ds w call answer es none was now
      | inr was ↦ was_none ds w call answer es was (before was)
    ]

pub no_keys : (ds : List ℕ) (w : ℕ) (es : List Effect) → Lawful ds es → HoldsNone w es
no_keys ds w = lawful_always ds (HoldsNone w) (λ e. refl) (λ call answer es l before. by_call call answer es before)
  where
    by_call : (call : Call) (answer : Reply) (es : List Effect) → HoldsNone w es → HoldsNone w (step ds call answer es)
    by_call (Pump now) answer es before = λ t. was_none ds w (Pump now) answer es t (before t)
    by_call (Open terms) answer es before = keys_step ds w (Open terms) answer es before refl
    by_call (Windows now ws) answer es before = keys_step ds w (Windows now ws) answer es before refl
    by_call (FocusOn now y c b) answer es before = keys_step ds w (FocusOn now y c b) answer es before refl
    by_call (Notify now a) answer es before = keys_step ds w (Notify now a) answer es before refl
    by_call (Tick now) answer es before = keys_step ds w (Tick now) answer es before refl
    by_call (Receive c) answer es before = keys_step ds w (Receive c) answer es before refl
    by_call (Finish now c n) answer es before = keys_step ds w (Finish now c n) answer es before refl
    by_call (Pilfer now c d) answer es before = keys_step ds w (Pilfer now c d) answer es before refl
    by_call (Remove now c) answer es before = keys_step ds w (Remove now c) answer es before refl

-- it holds no pointer
named_shown : (ws : List Window) (y c : ℕ) → is_named ws c ≡ false → is_shown_on ws y c ≡ false
named_shown ws y c e = named_filter (λ v. v.display == y) ws c e

pub no_pointer : (ds : List ℕ) (es : List Effect) (w d i : ℕ) → Lawful ds es → is_named (snapshot (past_of es)) w ≡ false → has (held (marks es)) w d i ≡ false
no_pointer ds es w d i l e =
    elim (cases_Bool (has (held (marks es)) w d i)) [
      | inl h ↦
          let x : (able es w ≡ true) × (is_shown_on (snapshot (past_of es)) (device_display ds d) w ≡ true) =
          subst (λ xs. (scene ds xs).holds w d i ≡ true → (able xs w ≡ true) × (is_shown_on (snapshot (past_of es)) (device_display ds d) w ≡ true)) l.whole
          (holder_law ds (past_of es) w d i) h in
          absurd (both_ways (is_shown_on (snapshot (past_of es)) (device_display ds d) w) (named_shown (snapshot (past_of es)) (device_display ds d) w e) x.1)
      | inr n ↦ n
    ]
