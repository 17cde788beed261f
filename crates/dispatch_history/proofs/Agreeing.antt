-- The rule of streams, field by field.
use Rattle.std.proofs.Common.{◌≡◌, ℕ, ◌==◌, ◌&&◌, Bool, true, false, cond, is_some, List, [], ◌∷◌, option_and_then, option_map, Option, Some, None, refl, sym, ap, ap₂, ◌∙◌, inl, inr}
use Rattle.std.proofs.lemmas.Bool.{cases_Bool, both_ways, true≢false, eqb-true, eq-eqb, ne_eqb}
use Rattle.input_types.specs.declared.key.KeyMsg.{KeyMsg}
use Rattle.input_types.specs.declared.message.Body.{Body}
use Rattle.input_types.specs.declared.message.Body.TheVariants.{Motion as MotionBody, Key as KeyBody, Focus as FocusBody}
use Rattle.input_types.specs.declared.message.Message.{Message}
use Rattle.input_types.specs.declared.motion.Motion.{Motion}
use Rattle.input_types.specs.Gestures.{after_sent, allowed, differ}
use Rattle.input_types.specs.StreamRule.{StreamState, unsent, after_key, after_body, stream_state, with_ids, with_repeat}
use Rattle.dispatch_history.specs.Effect.{ids_after, sent_down, focus_after, sent_focus}
use Rattle.dispatch_history.specs.Known.{is_key, repeat_after, sent_repeat}

-- messages each of which may come, by the ids of each device, by each key and by the focus
pub record Comes (ms : List Message) : Type 0 where
  pub ids : (d : ℕ) → is_some (sent_down d ms) ≡ true
  pub repeats : (d s : ℕ) → is_some (sent_repeat d s ms) ≡ true
  pub focus : is_some (sent_focus ms) ≡ true

-- what they leave known
pub record Agrees (ms : List Message) : Type 0 where
  pub state : StreamState
  pub is : stream_state ms ≡ Some state
  pub ids : (d : ℕ) → sent_down d ms ≡ Some (state.ids d)
  pub repeats : (d s : ℕ) → sent_repeat d s ms ≡ Some (state.repeats d s)
  pub focus : sent_focus ms ≡ Some state.focus

some_before : {X : Type 0} (c : Bool) (f : X → Option X) (o : Option X) → is_some (cond c (option_and_then f o) o) ≡ true → is_some o ≡ true
some_before c f (Some x) e = refl
some_before true f None e = e
some_before false f None e = e

ids_before : (d : ℕ) (b : Body) (x : Option (List ℕ)) → is_some (ids_after d b x) ≡ true → is_some x ≡ true
ids_before d (MotionBody m) x e = some_before (m.device == d) (λ down. after_sent down m) x e
ids_before d (KeyBody m) x e = e
ids_before d (FocusBody b) x e = e

repeat_before : (d s : ℕ) (b : Body) (x : Option (Option ℕ)) → is_some (repeat_after d s b x) ≡ true → is_some x ≡ true
repeat_before d s (KeyBody m) x e = some_before (is_key d s m.key) (λ due. after_key due m) x e
repeat_before d s (MotionBody m) x e = e
repeat_before d s (FocusBody b) x e = e

focus_before : (b : Body) (x : Option Bool) → is_some (focus_after b x) ≡ true → is_some x ≡ true
focus_before (FocusBody b) x e = some_before true (λ has. allowed (differ b has) b) x e
focus_before (MotionBody m) x e = e
focus_before (KeyBody m) x e = e

comes_before : (m : Message) (past : List Message) → Comes (m ∷ past) → Comes past
comes_before m past c =
    record {
      ids = λ d. ids_before d m.body (sent_down d past) (c.ids d);
      repeats = λ d s. repeat_before d s m.body (sent_repeat d s past) (c.repeats d s);
      focus = focus_before m.body (sent_focus past) c.focus;
    }

-- what is there
the_some : {X : Type 0} (o : Option X) → is_some o ≡ true → (x : X) × (o ≡ Some x)
the_some None e = absurd (true≢false (sym e))
the_some (Some x) e = (x, refl)

-- one number is tested in either order
turned : (a b : ℕ) → (a == b) ≡ (b == a)
turned a b =
    elim (cases_Bool (a == b)) [
      | inl y ↦ y ∙ sym (eq-eqb b a (sym (eqb-true a b y)))
      | inr n ↦ n ∙ sym (ne_eqb b a (λ e. both_ways (a == b) n (eq-eqb a b (sym e))))
    ]

motion_agrees : (m : Message) (k : Motion) (past : List Message) → m.body ≡ MotionBody k → Comes (m ∷ past) → Agrees past → Agrees (m ∷ past)
motion_agrees m k past b c a =
    let d = k.device in
    let came : is_some (after_sent (a.state.ids d) k) ≡ true =
    sym (ap (λ body. is_some (ids_after d body (sent_down d past))) b ∙ ap (λ x. is_some (cond (d == d) (option_and_then (λ down. after_sent down k) x) x)) (a.ids d)
    ∙ ap (λ t. is_some (cond t (after_sent (a.state.ids d) k) (Some (a.state.ids d)))) (eq-eqb d d refl))
    ∙ c.ids d in
    let next = the_some (after_sent (a.state.ids d) k) came in
    let state : StreamState = record { ids = with_ids a.state.ids d next.0; repeats = a.state.repeats; focus = a.state.focus } in
    record {
      state = state;
      is =
          ap (λ body. option_and_then (λ s. after_body s body) (stream_state past)) b
          ∙ ap (option_and_then (λ s. after_body s (MotionBody k))) a.is
          ∙ ap (option_map (λ ids. record { ids = with_ids a.state.ids d ids; repeats = a.state.repeats; focus = a.state.focus })) next.1;
      ids =
          λ e. ap (λ body. ids_after e body (sent_down e past)) b
          ∙ ap (λ x. cond (d == e) (option_and_then (λ down. after_sent down k) x) x) (a.ids e)
          ∙ at_device e (d == e) refl next.0 next.1;
      repeats = λ e s. ap (λ body. repeat_after e s body (sent_repeat e s past)) b ∙ a.repeats e s;
      focus = ap (λ body. focus_after body (sent_focus past)) b ∙ a.focus;
    }
  where
    at_device : (e : ℕ) (t : Bool) → (k.device == e) ≡ t → (next : List ℕ) → after_sent (a.state.ids k.device) k ≡ Some next
        → cond t (after_sent (a.state.ids e) k) (Some (a.state.ids e)) ≡ Some (with_ids a.state.ids k.device next e)
    at_device e true q next r =
        ap (λ x. after_sent (a.state.ids x) k) (sym (eqb-true k.device e q)) ∙ r ∙ sym (ap (λ t. Some (cond t next (a.state.ids e))) (turned e k.device ∙ q))
    at_device e false q next r = sym (ap (λ t. Some (cond t next (a.state.ids e))) (turned e k.device ∙ q))

key_agrees : (m : Message) (k : KeyMsg) (past : List Message) → m.body ≡ KeyBody k → Comes (m ∷ past) → Agrees past → Agrees (m ∷ past)
key_agrees m k past b c a =
    let d = k.key.device in
    let s = k.key.scan in
    let own : is_key d s k.key ≡ true = ap₂ (λ x y. x && y) (eq-eqb d d refl) (eq-eqb s s refl) in
    let came : is_some (after_key (a.state.repeats d s) k) ≡ true =
    sym (ap (λ body. is_some (repeat_after d s body (sent_repeat d s past))) b ∙ ap (λ x. is_some (cond (is_key d s k.key) (option_and_then (λ due. after_key due k) x) x)) (a.repeats d s)
    ∙ ap (λ t. is_some (cond t (after_key (a.state.repeats d s) k) (Some (a.state.repeats d s)))) own)
    ∙ c.repeats d s in
    let next = the_some (after_key (a.state.repeats d s) k) came in
    let state : StreamState = record { ids = a.state.ids; repeats = with_repeat a.state.repeats d s next.0; focus = a.state.focus } in
    record {
      state = state;
      is =
          ap (λ body. option_and_then (λ st. after_body st body) (stream_state past)) b
          ∙ ap (option_and_then (λ st. after_body st (KeyBody k))) a.is
          ∙ ap (option_map (λ due. record { ids = a.state.ids; repeats = with_repeat a.state.repeats d s due; focus = a.state.focus })) next.1;
      ids = λ e. ap (λ body. ids_after e body (sent_down e past)) b ∙ a.ids e;
      repeats =
          λ e u. ap (λ body. repeat_after e u body (sent_repeat e u past)) b
          ∙ ap (λ x. cond (is_key e u k.key) (option_and_then (λ due. after_key due k) x) x) (a.repeats e u)
          ∙ at_key e u (e == d) (u == s) refl refl next.0 next.1;
      focus = ap (λ body. focus_after body (sent_focus past)) b ∙ a.focus;
    }
  where
    at_key : (e u : ℕ) (t v : Bool) → (e == k.key.device) ≡ t → (u == k.key.scan) ≡ v → (next : Option ℕ) → after_key (a.state.repeats k.key.device k.key.scan) k ≡ Some next
        → cond (t && v) (after_key (a.state.repeats e u) k) (Some (a.state.repeats e u)) ≡ Some (cond (t && v) next (a.state.repeats e u))
    at_key e u true true p q next r = ap₂ (λ x y. after_key (a.state.repeats x y) k) (eqb-true e k.key.device p) (eqb-true u k.key.scan q) ∙ r
    at_key e u true false p q next r = refl
    at_key e u false v p q next r = refl

focus_agrees : (m : Message) (f : Bool) (past : List Message) → m.body ≡ FocusBody f → Comes (m ∷ past) → Agrees past → Agrees (m ∷ past)
focus_agrees m f past b c a =
    let came : is_some (allowed (differ f a.state.focus) f) ≡ true =
    sym (ap (λ body. is_some (focus_after body (sent_focus past))) b ∙ ap (λ x. is_some (option_and_then (λ has. allowed (differ f has) f) x)) a.focus) ∙ c.focus in
    let may = is_allowed (differ f a.state.focus) came in
    record {
      state = record { ids = a.state.ids; repeats = a.state.repeats; focus = f };
      is =
          ap (λ body. option_and_then (λ s. after_body s body) (stream_state past)) b
          ∙ ap (option_and_then (λ s. after_body s (FocusBody f))) a.is
          ∙ ap (λ t. allowed t (record { ids = a.state.ids; repeats = a.state.repeats; focus = f })) may;
      ids = λ e. ap (λ body. ids_after e body (sent_down e past)) b ∙ a.ids e;
      repeats = λ e s. ap (λ body. repeat_after e s body (sent_repeat e s past)) b ∙ a.repeats e s;
      focus =
          ap (λ body. focus_after body (sent_focus past)) b
          ∙ ap (option_and_then (λ has. allowed (differ f has) f)) a.focus
          ∙ ap (λ t. allowed t f) may;
    }
  where
    is_allowed : (t : Bool) → is_some (allowed t f) ≡ true → t ≡ true
    is_allowed true e = refl
    is_allowed false e = absurd (true≢false (sym e))

pub agrees : (ms : List Message) → Comes ms → Agrees ms
agrees [] c = record { state = unsent; is = refl; ids = λ d. refl; repeats = λ d s. refl; focus = refl }
agrees (m ∷ past) c = by_body m.body refl (agrees past (comes_before m past c))
  where
    by_body : (b : Body) → m.body ≡ b → Agrees past → Agrees (m ∷ past)
    by_body (MotionBody k) e a = motion_agrees m k past e c a
    by_body (KeyBody k) e a = key_agrees m k past e c a
    by_body (FocusBody f) e a = focus_agrees m f past e c a
