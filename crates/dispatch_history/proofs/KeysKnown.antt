-- What a window knows about a key from its stream, and which key message is the last of all.
use Rattle.std.proofs.Common.{◌≡◌, ℕ, ◌+◌, ◌==◌, ◌&&◌, Bool, true, false, cond, length, List, [], ◌∷◌, ◌++◌, map, filter, flat_map, option_and_then, Option, Some, None, refl, ap, ◌∙◌, subst}
use Rattle.std.proofs.lemmas.Bool.{eq-eqb}
use Rattle.input_types.specs.declared.axis.Pixel.{Pixel}
use Rattle.input_types.specs.declared.key.KeyMsg.{KeyMsg}
use Rattle.input_types.specs.declared.message.Body.{Body}
use Rattle.input_types.specs.declared.message.Body.TheVariants.{Motion as MotionBody, Key as KeyBody, Focus as FocusBody}
use Rattle.input_types.specs.declared.message.Message.{Message}
use Rattle.input_types.specs.declared.motion.Motion.{Motion}
use Rattle.input_types.specs.StreamRule.{after_key}
use Rattle.key_repeat.specs.Due.{Sent}
use Rattle.routing_rules.specs.Cover.{under_all}
use Rattle.routing_rules.specs.Marks.{covered}
use Rattle.routing_rules.specs.Given.{mark}
use Rattle.routing_rules.specs.Outgoing.{sent_with, devices}
use Rattle.dispatch_calls.specs.declared.call.Call.{Call}
use Rattle.dispatch_calls.specs.declared.reply.Reply.{Reply}
use Rattle.dispatch_history.specs.History.{History, clock, live, origin, snapshot}
use Rattle.dispatch_history.specs.Queue.{inbound, args_of}
use Rattle.dispatch_history.specs.Effect.{Outgoing, past_of, stream, sent_on, sent_to}
use Rattle.dispatch_history.specs.Effects.{effects, said_at}
use Rattle.dispatch_history.specs.Step.{scene, step_of, marks}
use Rattle.dispatch_history.specs.Focus.{has_focus, is_target, focus_sent}
use Rattle.dispatch_history.specs.Delivery.{able}
use Rattle.dispatch_history.specs.Keys.{loses_all, keys}
use Rattle.dispatch_history.specs.KeySent.{keys_sent, key_in, last_key, repeat_by}
use Rattle.dispatch_history.specs.Said.{motions_said, keys_said}
use Rattle.dispatch_history.specs.Legal.{Legal}
use Rattle.dispatch_history.specs.Known.{is_key, last_message, last_message_after, sent_repeat, repeat_after, newest_key, newest_key_after}
use Rattle.dispatch_history.specs.Laws.{LastKeyLaw}
use Rattle.dispatch_history.proofs.StreamLaws.{stream_step}
use Rattle.dispatch_history.proofs.SentMotions.{shifted}
use Rattle.dispatch_history.proofs.MotionLaws.{live_said}
use Rattle.dispatch_history.proofs.KeySends.{Known, one, all}

-- how messages and bodies change what is known about a key
abbrev pub body_known : ℕ → ℕ → Body → Known → Known
body_known d s (KeyBody m) x = one d s m x
body_known d s body x = x

abbrev pub known : ℕ → ℕ → List Message → Known
known d s [] = (Some None, None)
known d s (m ∷ past) = body_known d s m.body (known d s past)

unfoldable bodies_known : ℕ → ℕ → List Body → Known → Known
bodies_known d s [] x = x
bodies_known d s (b ∷ bs) x = bodies_known d s bs (body_known d s b x)

first_of : (b : Bool) (x y : Known) → (cond b x y).0 ≡ cond b x.0 y.0
first_of true x y = refl
first_of false x y = refl

second_of : (b : Bool) (x y : Known) → (cond b x y).1 ≡ cond b x.1 y.1
second_of true x y = refl
second_of false x y = refl

pub known_repeat : (d s : ℕ) (ms : List Message) → (known d s ms).0 ≡ sent_repeat d s ms
known_repeat d s [] = refl
known_repeat d s (m ∷ past) = of_body m.body ∙ ap (repeat_after d s m.body) (known_repeat d s past)
  where
    of_body : (b : Body) → (body_known d s b (known d s past)).0 ≡ repeat_after d s b (known d s past).0
    of_body (KeyBody k) = first_of (is_key d s k.key) (option_and_then (λ due. after_key due k) (known d s past).0, Some k) (known d s past)
    of_body (MotionBody k) = refl
    of_body (FocusBody b) = refl

pub known_last : (d s : ℕ) (ms : List Message) → (known d s ms).1 ≡ last_message d s ms
known_last d s [] = refl
known_last d s (m ∷ past) = of_body m.body ∙ ap (last_message_after d s m.body) (known_last d s past)
  where
    of_body : (b : Body) → (body_known d s b (known d s past)).1 ≡ last_message_after d s b (known d s past).1
    of_body (KeyBody k) = second_of (is_key d s k.key) (option_and_then (λ due. after_key due k) (known d s past).0, Some k) (known d s past)
    of_body (MotionBody k) = refl
    of_body (FocusBody b) = refl

known_on : (d s now : ℕ) (bs : List Body) (ms : List Message) → known d s (sent_on now bs ms) ≡ bodies_known d s bs (known d s ms)
unfolding bodies_known
known_on d s now [] ms = refl
known_on d s now (b ∷ bs) ms = known_on d s now bs (record { seq = 1 + length ms; moment = now; body = b } ∷ ms)

bodies_known-append : (d s : ℕ) (xs ys : List Body) (x : Known) → bodies_known d s (xs ++ ys) x ≡ bodies_known d s ys (bodies_known d s xs x)
unfolding bodies_known
bodies_known-append d s [] ys x = refl
bodies_known-append d s (b ∷ xs) ys x = bodies_known-append d s xs ys (body_known d s b x)

motions_known : (d s : ℕ) (o : Pixel) (ms : List Motion) (x : Known) → bodies_known d s (shifted o ms) x ≡ x
unfolding bodies_known
motions_known d s o [] x = refl
motions_known d s o (m ∷ ms) x = motions_known d s o ms x

focus_known : (d s : ℕ) (a b : Bool) (x : Known) → bodies_known d s (focus_sent a b) x ≡ x
unfolding bodies_known
focus_known d s true true x = refl
focus_known d s true false x = refl
focus_known d s false true x = refl
focus_known d s false false x = refl

keys_known : (d s : ℕ) (ks : List KeyMsg) (x : Known) → bodies_known d s (map KeyBody ks) x ≡ all d s ks x
unfolding bodies_known
keys_known d s [] x = refl
keys_known d s (k ∷ ks) x = keys_known d s ks (one d s k x)

-- a step changes what is known about a key by what it sends about keys
pub said_known : (ds : List ℕ) (call : Call) (answer : Reply) (h : History) (w d s : ℕ) → Legal ds ((call, answer) ∷ h) → live ((call, answer) ∷ past_of (effects ds h)) w ≡ true
    → known d s (stream (effects ds ((call, answer) ∷ h)) w)
    ≡ (let es = effects ds h in
    all d s
    (keys_sent (args_of call answer (inbound (past_of es))) (is_target (past_of es) w && able es w) (loses_all ((call, answer) ∷ past_of es) (past_of es) w) (keys es w)
    ++ repeat_by ((call, answer) ∷ past_of es) (last_key es) w)
    (known d s (stream es w)))
said_known ds call answer h w d s l n =
    let es = effects ds h in
    let after_it : History = (call, answer) ∷ past_of es in
    let args = args_of call answer (inbound (past_of es)) in
    let sc = scene ds es in
    let e = step_of (snapshot (past_of es)) call answer args in
    let o = origin (past_of es) w in
    let x = known d s (stream es w) in
    let cover = covered (mark sc e ∷ marks es) w in
    let m = motions_said sc e (mark sc e) cover o w in
    let k = keys_said after_it args es w in
    let f = focus_sent (has_focus (past_of es) w) (has_focus after_it w) in
    ap (known d s) (stream_step ds call answer h w l)
    ∙ known_on d s (clock ((call, answer) ∷ h)) (said_at ds call answer es w) (stream es w)
    ∙ ap (λ bs. bodies_known d s bs x) (live_said ds call answer es w n)
    ∙ bodies_known-append d s (m ++ k) f x
    ∙ focus_known d s (has_focus (past_of es) w) (has_focus after_it w) (bodies_known d s (m ++ k) x)
    ∙ bodies_known-append d s m k x
    ∙ ap (bodies_known d s k) (motions_known d s o (under_all cover (flat_map (sent_with sc e (mark sc e) w) devices)) x)
    ∙ keys_known d s
    (keys_sent args (is_target (past_of es) w && able es w) (loses_all after_it (past_of es) w) (keys es w) ++ repeat_by after_it (last_key es) w) x

-- The last key message of all is the newest one in the stream of its channel.
abbrev Follows : Option Sent → (ℕ → List Message) → Type 0
Follows o st = (m : Sent) → o ≡ Some m → newest_key (st m.channel) ≡ Some m.key

sent_first : (now : ℕ) (t : Outgoing) (ts : List Outgoing) (st : List Message) (c : ℕ)
    → sent_on now (sent_to (t ∷ ts) c) st ≡ sent_on now (sent_to ts c) (cond (t.channel == c) (record { seq = 1 + length st; moment = now; body = t.body } ∷ st) st)
sent_first now t ts st c = by_test (t.channel == c)
  where
    by_test : (b : Bool)
        → sent_on now (map (λ u. u.body) (cond b (t ∷ filter (λ u. u.channel == c) ts) (filter (λ u. u.channel == c) ts))) st
        ≡ sent_on now (sent_to ts c) (cond b (record { seq = 1 + length st; moment = now; body = t.body } ∷ st) st)
    by_test true = refl
    by_test false = refl

follows : (now : ℕ) (ts : List Outgoing) (o : Option Sent) (st : ℕ → List Message) → Follows o st → Follows (key_in now ts o) (λ c. sent_on now (sent_to ts c) (st c))
follows now [] o st f = f
follows now (t ∷ ts) o st f = by_body t.channel t.body (λ p su g. follows now ts p su g)
  where
    by_body : (e : ℕ) (b : Body)
        → ((p : Option Sent) (su : ℕ → List Message) → Follows p su → Follows (key_in now ts p) (λ c. sent_on now (sent_to ts c) (su c)))
        → Follows (key_in now (record { channel = e; body = b } ∷ ts) o) (λ c. sent_on now (sent_to (record { channel = e; body = b } ∷ ts) c) (st c))
    by_body e (KeyBody k) more =
        λ m q. ap newest_key (sent_first now (record { channel = e; body = KeyBody k }) ts (st m.channel) m.channel)
        ∙ more (Some (record { channel = e; key = k; clock = now })) (λ c. cond (e == c) (record { seq = 1 + length (st c); moment = now; body = KeyBody k } ∷ st c) (st c))
        (λ n r.
        let same : record { channel = e; key = k; clock = now } ≡ n = cc in
        subst (λ v. newest_key (cond (e == v.channel) (record { seq = 1 + length (st v.channel); moment = now; body = KeyBody k } ∷ st v.channel) (st v.channel)) ≡ Some v.key) same
        (ap (λ b. newest_key (cond b (record { seq = 1 + length (st e); moment = now; body = KeyBody k } ∷ st e) (st e))) (eq-eqb e e refl)))
        m q
    by_body e (MotionBody k) more =
        λ m q. ap newest_key (sent_first now (record { channel = e; body = MotionBody k }) ts (st m.channel) m.channel)
        ∙ more o (λ c. cond (e == c) (record { seq = 1 + length (st c); moment = now; body = MotionBody k } ∷ st c) (st c))
        (λ n r. silent (e == n.channel) (record { seq = 1 + length (st n.channel); moment = now; body = MotionBody k }) (st n.channel) refl ∙ f n r)
        m q
      where
        silent : (b : Bool) (msg : Message) (ms : List Message) → newest_key (msg ∷ ms) ≡ newest_key ms → newest_key (cond b (msg ∷ ms) ms) ≡ newest_key ms
        silent true msg ms s = s
        silent false msg ms s = refl
    by_body e (FocusBody k) more =
        λ m q. ap newest_key (sent_first now (record { channel = e; body = FocusBody k }) ts (st m.channel) m.channel)
        ∙ more o (λ c. cond (e == c) (record { seq = 1 + length (st c); moment = now; body = FocusBody k } ∷ st c) (st c))
        (λ n r. silent (e == n.channel) (record { seq = 1 + length (st n.channel); moment = now; body = FocusBody k }) (st n.channel) refl ∙ f n r)
        m q
      where
        silent : (b : Bool) (msg : Message) (ms : List Message) → newest_key (msg ∷ ms) ≡ newest_key ms → newest_key (cond b (msg ∷ ms) ms) ≡ newest_key ms
        silent true msg ms s = s
        silent false msg ms s = refl

last_follows : (ds : List ℕ) (h : History) → Follows (last_key (effects ds h)) (λ c. stream (effects ds h) c)
last_follows ds [] = λ m e. absurd (cc e)
last_follows ds ((call, answer) ∷ h) =
    follows (clock ((call, answer) ∷ past_of (effects ds h))) _ (last_key (effects ds h)) (λ c. stream (effects ds h) c) (last_follows ds h)

pub last_key_law : LastKeyLaw
last_key_law ds h last e = last_follows ds h last e

-- the newest key message is the last one of its key
pub newest_last : (d s : ℕ) (m : KeyMsg) (ms : List Message) → newest_key ms ≡ Some m → is_key d s m.key ≡ true → last_message d s ms ≡ Some m
newest_last d s m [] e q = absurd (cc e)
newest_last d s m (x ∷ past) e q = by_body x.body e (λ f. newest_last d s m past f q)
  where
    by_body : (b : Body) → newest_key_after b (newest_key past) ≡ Some m → (newest_key past ≡ Some m → last_message d s past ≡ Some m)
        → last_message_after d s b (last_message d s past) ≡ Some m
    by_body (KeyBody k) e more =
        let same : k ≡ m = cc in
        ap (λ b. cond b (Some k) (last_message d s past)) (ap (λ n. is_key d s n.key) same ∙ q) ∙ ap Some same
    by_body (MotionBody k) e more = more e
    by_body (FocusBody k) e more = more e
