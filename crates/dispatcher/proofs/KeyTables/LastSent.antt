-- Which of the key messages of a step is the last one that is sent.
use Rattle.std.proofs.Common.{◌≡◌, ℕ, zero, suc, ◌≤◌, ◌==◌, ◌||◌, Bool, true, false, cond, List, [], ◌∷◌, ◌++◌, map, flat_map, Option, Some, refl, ap, ◌∙◌, inl, inr, arith, ◌≢◌}
use Rattle.std.specs.List.{list_any}
use Rattle.std.proofs.lemmas.Bool.{cases_eq, eqb-true, eq-eqb}
use Rattle.input_types.specs.declared.key.KeyMsg.{KeyMsg}
use Rattle.input_types.specs.declared.message.Body.{Body}
use Rattle.input_types.specs.declared.message.Body.TheVariants.{Motion as MotionBody, Key as KeyBody, Focus as FocusBody}
use Rattle.key_repeat.specs.Due.{Sent}
use Rattle.dispatch_calls.specs.declared.call.Call.{Call}
use Rattle.dispatch_calls.specs.declared.reply.Reply.{Reply}
use Rattle.dispatch_history.specs.History.{History, clock, live, opened}
use Rattle.dispatch_history.specs.Effect.{Effect, Outgoing, past_of}
use Rattle.dispatch_history.specs.Effects.{channels, step, said_at}
use Rattle.dispatch_history.specs.KeySent.{key_in, last_key}
use Rattle.dispatch_history.proofs.StreamLaws.{live_law}
use Rattle.dispatcher.specs.DispatchTables.Lawful.{Lawful}
use Rattle.dispatcher.specs.KeyTables.Held.{key_messages}
use Rattle.dispatcher.proofs.KeyTables.Saying.{key_bodies, said_keys}

-- the last of some messages that a channel was sent at a clock, or else the one before
abbrev pub sent_in : (now w : ℕ) → List KeyMsg → Option Sent → Option Sent
sent_in now w [] before = before
sent_in now w (m ∷ ms) before = sent_in now w ms (Some (record { channel = w; key = m; clock = now }))

abbrev send : (ℕ → List Body) → ℕ → List Outgoing
send f w = map (λ b. record { channel = w; body = b }) (f w)

in_one : (now w : ℕ) (bs : List Body) (o : Option Sent) → key_in now (map (λ b. record { channel = w; body = b }) bs) o ≡ sent_in now w (key_bodies bs) o
in_one now w [] o = refl
in_one now w (KeyBody m ∷ bs) o = in_one now w bs (Some (record { channel = w; key = m; clock = now }))
in_one now w (MotionBody m ∷ bs) o = in_one now w bs o
in_one now w (FocusBody b ∷ bs) o = in_one now w bs o

in_both : (now : ℕ) (xs ys : List Outgoing) (o : Option Sent) → key_in now (xs ++ ys) o ≡ key_in now ys (key_in now xs o)
in_both now [] ys o = refl
in_both now (x ∷ xs) ys o = in_both now xs ys _

sent_twice : (now w : ℕ) (ms : List KeyMsg) (o : Option Sent) → sent_in now w ms (sent_in now w ms o) ≡ sent_in now w ms o
sent_twice now w [] o = refl
sent_twice now w (m ∷ ms) o = refl

-- if at most one channel is sent key messages, the last message is that channel's
in_all : (now : ℕ) (f : ℕ → List Body) (t : ℕ) → ((w : ℕ) → (w == t) ≡ false → key_bodies (f w) ≡ []) → (ws : List ℕ) (o : Option Sent)
    → key_in now (flat_map (send f) ws) o ≡ cond (list_any (λ w. w == t) ws) (sent_in now t (key_bodies (f t)) o) o
in_all now f t quiet [] o = refl
in_all now f t quiet (w ∷ ws) o =
    in_both now (send f w) (flat_map (send f) ws) o
    ∙ ap (key_in now (flat_map (send f) ws)) (in_one now w (f w) o)
    ∙ by_channel (w == t) refl (λ p. in_all now f t quiet ws p)
  where
    own : (b : Bool) → cond b (sent_in now t (key_bodies (f t)) (sent_in now t (key_bodies (f t)) o)) (sent_in now t (key_bodies (f t)) o) ≡ sent_in now t (key_bodies (f t)) o
    own true = sent_twice now t (key_bodies (f t)) o
    own false = refl

    by_channel : (b : Bool) → (w == t) ≡ b
        → ((p : Option Sent) → key_in now (flat_map (send f) ws) p ≡ cond (list_any (λ v. v == t) ws) (sent_in now t (key_bodies (f t)) p) p)
        → key_in now (flat_map (send f) ws) (sent_in now w (key_bodies (f w)) o) ≡ cond (b || list_any (λ v. v == t) ws) (sent_in now t (key_bodies (f t)) o) o
    by_channel true e more =
        ap (λ v. key_in now (flat_map (send f) ws) (sent_in now v (key_bodies (f v)) o)) (eqb-true w t e)
        ∙ more (sent_in now t (key_bodies (f t)) o)
        ∙ own (list_any (λ v. v == t) ws)
    by_channel false e more =
        ap (λ ms. key_in now (flat_map (send f) ws) (sent_in now w ms o)) (quiet w e) ∙ more o

any_append : (p : ℕ → Bool) (xs ys : List ℕ) → list_any p (xs ++ ys) ≡ (list_any p xs || list_any p ys)
any_append p [] ys = refl
any_append p (x ∷ xs) ys = first (p x) (any_append p xs ys)
  where
    first : (b : Bool) → list_any p (xs ++ ys) ≡ (list_any p xs || list_any p ys) → (b || list_any p (xs ++ ys)) ≡ ((b || list_any p xs) || list_any p ys)
    first true e = refl
    first false e = e

in_channels : (t n : ℕ) → 1 ≤ t → t ≤ n → list_any (λ w. w == t) (channels n) ≡ true
in_channels t zero one le = absurd (omega (arith, one, le))
in_channels t (suc n) one le =
    any_append (λ w. w == t) (channels n) (suc n ∷ [])
    ∙ elim (cases_eq (suc n) t) [
      | inl e ↦ ap (λ b. list_any (λ w. w == t) (channels n) || (b || false)) (eq-eqb (suc n) t e) ∙ or_true (list_any (λ w. w == t) (channels n))
      | inr ne ↦ ap (λ b. b || ((suc n == t) || false)) (in_channels t n one (below ne))
    ]
  where
    or_true : (b : Bool) → (b || true) ≡ true
    or_true true = refl
    or_true false = refl

    below : suc n ≢ t → t ≤ n
    below ne = omega (arith, le, ne)

-- the last key message after a step that sends key messages to one channel only
pub last_next : (ds : List ℕ) (call : Call) (answer : Reply) (es : List Effect) (t : ℕ) → Lawful ds (step ds call answer es)
    → ((w : ℕ) → (w == t) ≡ false → key_messages call answer es w ≡ [])
    → last_key (step ds call answer es)
    ≡ sent_in (clock ((call, answer) ∷ past_of es)) t (cond (live ((call, answer) ∷ past_of es) t) (key_messages call answer es t) []) (last_key es)
last_next ds call answer es t l quiet =
    in_all now f t silent (channels (opened after)) (last_key es)
    ∙ ap (λ ms. cond (list_any (λ w. w == t) (channels (opened after))) (sent_in now t ms (last_key es)) (last_key es)) (said_keys ds call answer es t)
    ∙ by_live (live after t) refl
  where
    after : History
    after = (call, answer) ∷ past_of es

    now : ℕ
    now = clock after

    f : ℕ → List Body
    f w = said_at ds call answer es w

    silent : (w : ℕ) → (w == t) ≡ false → key_bodies (f w) ≡ []
    silent w e = said_keys ds call answer es w ∙ by_either (live after w)
      where
        by_either : (b : Bool) → cond b (key_messages call answer es w) [] ≡ []
        by_either true = quiet w e
        by_either false = refl

    by_live : (b : Bool) → live after t ≡ b
        → cond (list_any (λ w. w == t) (channels (opened after))) (sent_in now t (cond b (key_messages call answer es t) []) (last_key es)) (last_key es)
        ≡ sent_in now t (cond b (key_messages call answer es t) []) (last_key es)
    by_live true e =
        let r = live_law ds after t l.legal e in
        ap (λ b. cond b (sent_in now t (key_messages call answer es t) (last_key es)) (last_key es)) (in_channels t (opened after) r.0 r.1)
    by_live false e = same (list_any (λ w. w == t) (channels (opened after)))
      where
        same : (b : Bool) → cond b (last_key es) (last_key es) ≡ last_key es
        same true = refl
        same false = refl
