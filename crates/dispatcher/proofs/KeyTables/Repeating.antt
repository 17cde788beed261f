-- What is kept of the last key message, step by step.
use Rattle.std.proofs.Common.{◌≡◌, ℕ, ◌==◌, ◌&&◌, ◌||◌, Bool, true, false, not, cond, List, [], ◌∷◌, map, Option, Some, None, refl, sym, ap, ap₂, ◌∙◌, subst, inl, inr}
use Rattle.std.specs.List.{list_any}
use Rattle.std.proofs.lemmas.Bool.{cases_Bool, both_ways, eqb-true, eq-eqb}
use Rattle.input_types.specs.declared.key.KeyArgs.{KeyArgs}
use Rattle.input_types.specs.declared.key.KeyMsg.{KeyMsg}
use Rattle.focus_resolver.specs.Resolver.{is_at}
use Rattle.key_repeat.specs.Due.{Sent}
use Rattle.dispatcher.specs.CancelSynthesis.Tracked.{with_key as keep, without_key as forget, keys_after}
use Rattle.dispatcher.specs.CancelSynthesis.Laws.{keys_sent as tracked}
use Rattle.dispatch_calls.specs.declared.call.Call.{Call}
use Rattle.dispatch_calls.specs.declared.reply.Reply.{Reply}
use Rattle.dispatch_history.specs.History.{clock, live}
use Rattle.dispatch_history.specs.Effect.{Effect, past_of}
use Rattle.dispatch_history.specs.Effects.{step}
use Rattle.dispatch_history.specs.Focus.{is_target, key_target}
use Rattle.dispatch_history.specs.Keys.{same_key, is_before, keys}
use Rattle.dispatch_history.specs.KeySent.{key_as_is, last_key, while_held}
use Rattle.dispatch_history.specs.Delivery.{able}
use Rattle.dispatcher.specs.DispatchTables.Lawful.{Lawful}
use Rattle.dispatcher.proofs.DispatchTables.Lawfuls.{lawful_last}
use Rattle.dispatcher.specs.KeyTables.Held.{key_messages}
use Rattle.dispatcher.specs.KeyTables.Repeats.{RepeatIs, repeat_after, repeat_next}
use Rattle.dispatcher.specs.KeyTables.Laws.{RepeatStep, RepeatLeft}
use Rattle.dispatcher.proofs.KeyTables.Holders.{keys_of_target}
use Rattle.dispatcher.proofs.KeyTables.KeysLeft.{keys_in}
use Rattle.dispatcher.proofs.KeyTables.Tracking.{keys_stepped, dead_keys}
use Rattle.dispatcher.proofs.KeyTables.Sending.{keys_quiet, one_target}
use Rattle.dispatcher.proofs.KeyTables.LastSent.{sent_in, last_next}

own_key : (k : KeyArgs) → same_key k k ≡ true
own_key k = ap₂ (λ a b. a && b) (eq-eqb k.device k.device refl) (eq-eqb k.scan k.scan refl)

-- a message that is kept is among those kept, and one that ends its key leaves none of it
kept_any : (m : KeyMsg) (held : List KeyMsg) → list_any (same_key m.key) (keys_in (keep m held)) ≡ true
kept_any m [] = ap (λ b. b || false) (own_key m.key)
kept_any m (l ∷ ls) = by_order (is_before l.key m.key) (same_key l.key m.key) (kept_any m ls)
  where
    by_order : (b c : Bool) → list_any (same_key m.key) (keys_in (keep m ls)) ≡ true
        → list_any (same_key m.key) (keys_in (cond b (l ∷ keep m ls) (cond c (m ∷ ls) (m ∷ l ∷ ls)))) ≡ true
    by_order true c more = or_last (same_key m.key l.key) more
      where
        or_last : (a : Bool) → list_any (same_key m.key) (keys_in (keep m ls)) ≡ true → (a || list_any (same_key m.key) (keys_in (keep m ls))) ≡ true
        or_last true e = refl
        or_last false e = e
    by_order false true more = ap (λ b. b || list_any (same_key m.key) (keys_in ls)) (own_key m.key)
    by_order false false more = ap (λ b. b || list_any (same_key m.key) (keys_in (l ∷ ls))) (own_key m.key)

forgotten_any : (m : KeyMsg) (held : List KeyMsg) → list_any (same_key m.key) (keys_in (forget m held)) ≡ false
forgotten_any m [] = refl
forgotten_any m (l ∷ ls) = by_test (same_key m.key l.key) refl (forgotten_any m ls)
  where
    by_test : (b : Bool) → same_key m.key l.key ≡ b → list_any (same_key m.key) (keys_in (forget m ls)) ≡ false
        → list_any (same_key m.key) (keys_in (cond (not b) (l ∷ forget m ls) (forget m ls))) ≡ false
    by_test true e more = more
    by_test false e more = ap₂ (λ a b. a || b) e more

after_any : (m : KeyMsg) (held : List KeyMsg) → list_any (same_key m.key) (keys_in (keys_after m held)) ≡ m.key.down
after_any m held = by_down m.key.down
  where
    by_down : (b : Bool) → list_any (same_key m.key) (keys_in (cond b (keep m held) (forget m held))) ≡ b
    by_down true = kept_any m held
    by_down false = forgotten_any m held

-- the last one of some messages decides
last_decides : (es : List Effect) (now t : ℕ) (m : KeyMsg) (ms : List KeyMsg) (held : List KeyMsg) (o last : Option Sent)
    → keys es t ≡ keys_in (tracked (m ∷ ms) held) → while_held es (sent_in now t (m ∷ ms) o) ≡ repeat_after now t (m ∷ ms) last
last_decides es now t m [] held o last e =
    let s : Sent = record { channel = t; key = m; clock = now } in
    ap (λ b. cond b (Some s) None) (ap (list_any (same_key m.key)) e ∙ after_any m held)
last_decides es now t m (n ∷ ms) held o last e =
    last_decides es now t n ms (keys_after m held) (Some (record { channel = t; key = m; clock = now }))
    (cond m.key.down (Some (record { channel = t; key = m; clock = now })) None) e

-- what is kept of keys, made from the keys of a window
as_kept : (ks : List KeyArgs) → keys_in (map key_as_is ks) ≡ ks
as_kept [] = refl
as_kept (k ∷ ks) = ap (λ ls. k ∷ ls) (as_kept ks)

-- the keys of a window after a step that sends it these messages
keys_then : (ds : List ℕ) (call : Call) (answer : Reply) (es : List Effect) (w : ℕ) (ms : List KeyMsg) → Lawful ds (step ds call answer es)
    → live ((call, answer) ∷ past_of es) w ≡ true → key_messages call answer es w ≡ ms
    → keys (step ds call answer es) w ≡ keys_in (tracked ms (map key_as_is (keys es w)))
keys_then ds call answer es w ms l n e =
    sym (keys_stepped ds call answer es w (map key_as_is (keys es w)) l n (as_kept (keys es w)))
    ∙ ap (λ xs. keys_in (tracked xs (map key_as_is (keys es w)))) e

-- a window that is not the key target holds no key after the step, nor before it
not_target_next : (ds : List ℕ) (call : Call) (answer : Reply) (es : List Effect) (w : ℕ) → Lawful ds (step ds call answer es)
    → is_target (past_of es) w ≡ false → (keys es w ≡ []) × (keys (step ds call answer es) w ≡ [])
not_target_next ds call answer es w l n =
    let before : keys es w ≡ [] = keys_of_target ds es w (lawful_last ds call answer es l).1 (ap (λ b. b && able es w) n) in (
      before,
      elim (cases_Bool (live ((call, answer) ∷ past_of es) w)) [
        | inl y ↦ keys_then ds call answer es w [] l y (keys_quiet ds call answer es w l n) ∙ as_kept (keys es w) ∙ before
        | inr d ↦ dead_keys ds (step ds call answer es) w l d
      ],
    )

-- no message is kept whose window holds no key
none_held : (es : List Effect) (s : Sent) → keys es s.channel ≡ [] → while_held es (Some s) ≡ None
none_held es s e = ap (λ ks. cond (list_any (same_key s.key.key) ks) (Some s) None) e

-- If a step sends no key messages, what was kept stays, unless the key target is no longer live.
unsaid : (ds : List ℕ) (call : Call) (answer : Reply) (es : List Effect) (t : ℕ) (last : Option Sent) → Lawful ds (step ds call answer es)
    → ((w : ℕ) → is_target (past_of es) w ≡ true → (w == t) ≡ true) → cond (live ((call, answer) ∷ past_of es) t) (key_messages call answer es t) [] ≡ []
    → RepeatIs es last
    → while_held (step ds call answer es) (last_key es) ≡ cond (live ((call, answer) ∷ past_of es) t) last None
unsaid ds call answer es t last l only none r = by_last (last_key es) refl
  where
    next : List Effect
    next = step ds call answer es

    alive : Bool
    alive = live ((call, answer) ∷ past_of es) t

    either_none : (b : Bool) (o : Option Sent) → o ≡ None → None ≡ cond b o None
    either_none true o e = sym e
    either_none false o e = refl

    by_last : (o : Option Sent) → last_key es ≡ o → while_held (step ds call answer es) o ≡ cond (live ((call, answer) ∷ past_of es) t) last None
    by_last None q = either_none (live ((call, answer) ∷ past_of es) t) last (r ∙ ap (while_held es) q)
    by_last (Some s) q =
        elim (cases_Bool (is_target (past_of es) s.channel)) [
          | inl y ↦ at_target (eqb-true s.channel t (only s.channel y))
          | inr n ↦
              let k = not_target_next ds call answer es s.channel l n in
              none_held (step ds call answer es) s k.1
              ∙ either_none (live ((call, answer) ∷ past_of es) t) last (r ∙ ap (while_held es) q ∙ none_held es s k.0)
        ]
      where
        at_target : s.channel ≡ t → while_held (step ds call answer es) (Some s) ≡ cond (live ((call, answer) ∷ past_of es) t) last None
        at_target same = by_live (live ((call, answer) ∷ past_of es) t) refl none
          where
            by_live : (b : Bool) → live ((call, answer) ∷ past_of es) t ≡ b → cond b (key_messages call answer es t) [] ≡ []
                → while_held (step ds call answer es) (Some s) ≡ cond b last None
            by_live true y m =
                let kept : keys (step ds call answer es) s.channel ≡ keys es s.channel =
                subst (λ v. keys (step ds call answer es) v ≡ keys es v) (sym same) (keys_then ds call answer es t [] l y m ∙ as_kept (keys es t)) in
                ap (λ ks. cond (list_any (same_key s.key.key) ks) (Some s) None) kept ∙ sym (r ∙ ap (while_held es) q)
            by_live false n m =
                none_held (step ds call answer es) s (dead_keys ds (step ds call answer es) s.channel l (ap (live ((call, answer) ∷ past_of es)) same ∙ n))

pub repeat_step : RepeatStep
repeat_step ds call answer es t last l is r =
    sym
    (ap (while_held (step ds call answer es)) (last_next ds call answer es t l quiet) ∙ by_live (live ((call, answer) ∷ past_of es) t) (key_messages call answer es t) refl refl)
  where
    quiet : (w : ℕ) → (w == t) ≡ false → key_messages call answer es w ≡ []
    quiet w e =
        elim (cases_Bool (is_target (past_of es) w)) [
          | inl y ↦ absurd (both_ways (w == t) e (eq-eqb w t (one_target (key_target (past_of es)) w t y is)))
          | inr n ↦ keys_quiet ds call answer es w l n
        ]

    only : (w : ℕ) → is_target (past_of es) w ≡ true → (w == t) ≡ true
    only w y = eq-eqb w t (one_target (key_target (past_of es)) w t y is)

    by_live : (b : Bool) (ms : List KeyMsg) → live ((call, answer) ∷ past_of es) t ≡ b → key_messages call answer es t ≡ ms
        → while_held (step ds call answer es) (sent_in (clock ((call, answer) ∷ past_of es)) t (cond b ms []) (last_key es))
        ≡ repeat_next b (clock ((call, answer) ∷ past_of es)) t ms last
    by_live true (m ∷ ms) y e =
        last_decides (step ds call answer es) (clock ((call, answer) ∷ past_of es)) t m ms (map key_as_is (keys es t)) (last_key es) last
        (keys_then ds call answer es t (m ∷ ms) l y e)
    by_live true [] y e =
        unsaid ds call answer es t last l only (ap₂ (λ b ks. cond b ks []) y e) r ∙ ap (λ b. cond b last None) y
    by_live false ms n e =
        unsaid ds call answer es t last l only (ap (λ b. cond b (key_messages call answer es t) []) n) r ∙ ap (λ b. cond b last None) n

pub repeat_left : RepeatLeft
repeat_left ds call answer es last l n r =
    sym
    (ap (while_held (step ds call answer es)) (last_next ds call answer es 0 l (λ w e. quiet w) ∙ ap (λ ms. sent_in now 0 ms (last_key es)) none)
    ∙ unsaid ds call answer es 0 last l (λ w y. absurd (both_ways (is_target (past_of es) w) (nobody w) y)) none r
    ∙ either (live ((call, answer) ∷ past_of es) 0) last (r ∙ by_last (last_key es)))
  where
    now : ℕ
    now = clock ((call, answer) ∷ past_of es)

    nobody : (w : ℕ) → is_target (past_of es) w ≡ false
    nobody w = ap (λ o. is_at o w) n

    quiet : (w : ℕ) → key_messages call answer es w ≡ []
    quiet w = keys_quiet ds call answer es w l (nobody w)

    none : cond (live ((call, answer) ∷ past_of es) 0) (key_messages call answer es 0) [] ≡ []
    none = ap (λ ms. cond (live ((call, answer) ∷ past_of es) 0) ms []) (quiet 0) ∙ same (live ((call, answer) ∷ past_of es) 0)
      where
        same : (b : Bool) → cond {A = List KeyMsg} b [] [] ≡ []
        same true = refl
        same false = refl

    by_last : (o : Option Sent) → while_held es o ≡ None
    by_last None = refl
    by_last (Some s) = none_held es s (not_target_next ds call answer es s.channel l (nobody s.channel)).0

    either : (b : Bool) (o : Option Sent) → o ≡ None → cond b o None ≡ o
    either true o e = refl
    either false o e = sym e
