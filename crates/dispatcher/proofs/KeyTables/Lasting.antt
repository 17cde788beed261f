-- The messages kept of keys are their last ones.
use Rattle.std.proofs.Common.{◌≡◌, ℕ, ◌+◌, ◌==◌, ◌&&◌, ◌||◌, nat_lt, Bool, true, false, not, cond, length, List, [], ◌∷◌, Option, Some, refl, sym, ap, ap₂, ◌∙◌, subst, subst₂, inl, inr, arith}
use Rattle.std.proofs.lemmas.Bool.{cases_Bool, both_ways, and_parts, eq-eqb, eqb-true, le-ltb}
use Rattle.input_types.specs.declared.key.KeyArgs.{KeyArgs}
use Rattle.input_types.specs.declared.key.KeyMsg.{KeyMsg}
use Rattle.input_types.specs.declared.message.Body.{Body}
use Rattle.input_types.specs.declared.message.Body.TheVariants.{Motion as MotionBody, Key as KeyBody, Focus as FocusBody}
use Rattle.input_types.specs.declared.message.Message.{Message}
use Rattle.dispatcher.specs.CancelSynthesis.Tracked.{with_key as keep, without_key as forget, keys_after}
use Rattle.dispatcher.specs.CancelSynthesis.Laws.{keys_sent as tracked}
use Rattle.dispatch_history.specs.History.{clock}
use Rattle.dispatch_history.specs.Effect.{past_of, stream, sent_on}
use Rattle.dispatch_history.specs.Effects.{step, said_at}
use Rattle.dispatch_history.specs.Keys.{same_key, is_before}
use Rattle.dispatch_history.specs.Known.{is_key, last_message}
use Rattle.dispatch_history.proofs.KeysDown.{is_key-parts}
use Rattle.dispatch_history.proofs.StreamLaws.{stream_step}
use Rattle.dispatcher.proofs.DispatchTables.Lawfuls.{lawful_last}
use Rattle.dispatcher.specs.KeyTables.Held.{Above, Rising, AllLast, key_messages}
use Rattle.dispatcher.specs.KeyTables.Laws.{KeysAtFirst, KeysStep}
use Rattle.dispatcher.proofs.KeyTables.Rising.{other_way, above_all, rising_filter, keys_rise}
use Rattle.dispatcher.proofs.KeyTables.Saying.{key_bodies, said_keys}
use Rattle.dispatcher.proofs.KeyTables.KeysLeft.{keys_in, filter_keys}
use Rattle.dispatcher.proofs.KeyTables.Tracking.{keys_stepped, dead_keys}

-- what is known about the last message of each key, after one more message, and after some
abbrev Last : Type 0
Last = ℕ → ℕ → Option KeyMsg

abbrev with_message : KeyMsg → Last → Last
with_message m x d s = cond (is_key d s m.key) (Some m) (x d s)

abbrev with_messages : List KeyMsg → Last → Last
with_messages [] x = x
with_messages (m ∷ ms) x = with_messages ms (with_message m x)

abbrev Lasts : Last → List KeyMsg → Type 0
Lasts x [] = Unit {0}
Lasts x (m ∷ ms) = (x m.key.device m.key.scan ≡ Some m) × Lasts x ms

-- of two keys in order neither is the other
differs : (k l : KeyArgs) → is_before k l ≡ true → is_key k.device k.scan l ≡ false
differs k l e =
    elim (cases_Bool (is_key k.device k.scan l)) [
      | inl y ↦ let p = is_key-parts k.device k.scan l y in absurd (both_ways (is_before k l) (same k.device l.device k.scan l.scan p.0 p.1) e)
      | inr n ↦ n
    ]
  where
    same : (a b c d : ℕ) → a ≡ b → c ≡ d → (nat_lt a b || a == b && nat_lt c d) ≡ false
    same a b c d p q = rw (le-ltb a b (omega (arith, p)), eq-eqb a b p, le-ltb c d (omega (arith, q))) refl

turned_key : (k l : KeyArgs) → is_key k.device k.scan l ≡ false → is_key l.device l.scan k ≡ false
turned_key k l n =
    elim (cases_Bool (is_key l.device l.scan k)) [
      | inl y ↦
          let p = is_key-parts l.device l.scan k y in
          absurd (both_ways (is_key k.device k.scan l) n (ap₂ (λ a b. a && b) (eq-eqb k.device l.device (sym p.0)) (eq-eqb k.scan l.scan (sym p.1))))
      | inr f ↦ f
    ]

own : (m : KeyMsg) (x : Last) → with_message m x m.key.device m.key.scan ≡ Some m
own m x =
    ap (λ b. cond b (Some m) (x m.key.device m.key.scan))
    (ap₂ (λ a b. a && b) (eq-eqb m.key.device m.key.device refl) (eq-eqb m.key.scan m.key.scan refl))

other : (m : KeyMsg) (x : Last) (l : KeyMsg) → is_key l.key.device l.key.scan m.key ≡ false → x l.key.device l.key.scan ≡ Some l → with_message m x l.key.device l.key.scan ≡ Some l
other m x l n e = ap (λ b. cond b (Some m) (x l.key.device l.key.scan)) n ∙ e

-- a message does not change the keys above it
lasts_above : (m : KeyMsg) (x : Last) (ls : List KeyMsg) → Above m.key (keys_in ls) → Lasts x ls → Lasts (with_message m x) ls
lasts_above m x [] a h = tt
lasts_above m x (l ∷ ls) a h = (other m x l (turned_key m.key l.key (differs m.key l.key a.0)) h.0, lasts_above m x ls a.1 h.1)

-- the same key comes before the same keys
above_same : (k l : KeyArgs) (ks : List KeyArgs) → same_key l k ≡ true → Above l ks → Above k ks
above_same k l [] e a = tt
above_same k l (j ∷ js) e a =
    let p = and_parts (l.device == k.device) (l.scan == k.scan) e in (
      subst₂ (λ d s. (nat_lt d j.device || d == j.device && nat_lt s j.scan) ≡ true) (eqb-true l.device k.device p.0) (eqb-true l.scan k.scan p.1) a.0,
      above_same k l js e a.1,
    )

above_keep : (j : KeyArgs) (m : KeyMsg) (ls : List KeyMsg) → is_before j m.key ≡ true → Above j (keys_in ls) → Above j (keys_in (keep m ls))
above_keep j m [] e a = (e, tt)
above_keep j m (l ∷ ls) e a = by_order (is_before l.key m.key) (same_key l.key m.key) (above_keep j m ls e a.1)
  where
    by_order : (b c : Bool) → Above j (keys_in (keep m ls)) → Above j (keys_in (cond b (l ∷ keep m ls) (cond c (m ∷ ls) (m ∷ l ∷ ls))))
    by_order true c more = (a.0, more)
    by_order false true more = (e, a.1)
    by_order false false more = (e, a)

-- the keys that are kept stay in order, with the last message of each
abbrev Kept : Last → List KeyMsg → Type 0
Kept x held = Rising (keys_in held) × Lasts x held

keeps : (m : KeyMsg) (x : Last) (held : List KeyMsg) → Kept x held → Kept (with_message m x) (keep m held)
keeps m x [] k = ((tt, tt), (own m x, tt))
keeps m x (l ∷ ls) k =
    by_order (is_before l.key m.key) (same_key l.key m.key) refl refl (keeps m x ls (k.0.1, k.1.1))
  where
    by_order : (b c : Bool) → is_before l.key m.key ≡ b → same_key l.key m.key ≡ c → Kept (with_message m x) (keep m ls)
        → Kept (with_message m x) (cond b (l ∷ keep m ls) (cond c (m ∷ ls) (m ∷ l ∷ ls)))
    by_order true c e f more =
        ((above_keep l.key m ls e k.0.0, more.0), (other m x l (differs l.key m.key e) k.1.0, more.1))
    by_order false true e f more =
        let a = above_same m.key l.key (keys_in ls) f k.0.0 in ((a, k.0.1), (own m x, lasts_above m x ls a k.1.1))
    by_order false false e f more =
        let first : is_before m.key l.key ≡ true = other_way l.key m.key f ∙ ap not e in
        let a : Above m.key (keys_in (l ∷ ls)) = (first, above_all m.key l.key (keys_in ls) first k.0.0) in
        ((a, k.0), (own m x, lasts_above m x (l ∷ ls) a k.1))

forgets : (m : KeyMsg) (x : Last) (ls : List KeyMsg) → Lasts x ls → Lasts (with_message m x) (forget m ls)
forgets m x [] h = tt
forgets m x (l ∷ ls) h = by_test (same_key m.key l.key) refl (forgets m x ls h.1)
  where
    by_test : (b : Bool) → same_key m.key l.key ≡ b → Lasts (with_message m x) (forget m ls) → Lasts (with_message m x) (cond (not b) (l ∷ forget m ls) (forget m ls))
    by_test true e more = more
    by_test false e more = (other m x l (turned_key m.key l.key e) h.0, more)

kept_after : (m : KeyMsg) (x : Last) (held : List KeyMsg) → Kept x held → Kept (with_message m x) (keys_after m held)
kept_after m x held k = by_down m.key.down
  where
    by_down : (b : Bool) → Kept (with_message m x) (cond b (keep m held) (forget m held))
    by_down true = keeps m x held k
    by_down false =
        (subst Rising (filter_keys (λ l. not (same_key m.key l)) held) (rising_filter (λ l. not (same_key m.key l)) (keys_in held) k.0), forgets m x held k.1)

kept_tracked : (ms : List KeyMsg) (x : Last) (held : List KeyMsg) → Kept x held → Kept (with_messages ms x) (tracked ms held)
kept_tracked [] x held k = k
kept_tracked (m ∷ ms) x held k = kept_tracked ms (with_message m x) (keys_after m held) (kept_after m x held k)

-- bodies are messages of a stream
last_sent : (d s now : ℕ) (bs : List Body) (past : List Message) (x : Last) → x d s ≡ last_message d s past
    → with_messages (key_bodies bs) x d s ≡ last_message d s (sent_on now bs past)
last_sent d s now [] past x e = e
last_sent d s now (KeyBody m ∷ bs) past x e =
    last_sent d s now bs (record { seq = 1 + length past; moment = now; body = KeyBody m } ∷ past) (with_message m x) (ap (cond (is_key d s m.key) (Some m)) e)
last_sent d s now (MotionBody m ∷ bs) past x e = last_sent d s now bs (record { seq = 1 + length past; moment = now; body = MotionBody m } ∷ past) x e
last_sent d s now (FocusBody b ∷ bs) past x e = last_sent d s now bs (record { seq = 1 + length past; moment = now; body = FocusBody b } ∷ past) x e

to_lasts : (past : List Message) (ms : List KeyMsg) → AllLast past ms → Lasts (λ d s. last_message d s past) ms
to_lasts past [] a = tt
to_lasts past (m ∷ ms) a = (a.0, to_lasts past ms a.1)

from_lasts : (x : Last) (past : List Message) (ms : List KeyMsg) → ((d s : ℕ) → x d s ≡ last_message d s past) → Lasts x ms → AllLast past ms
from_lasts x past [] e h = tt
from_lasts x past (m ∷ ms) e h = (sym (e m.key.device m.key.scan) ∙ h.0, from_lasts x past ms e h.1)

pub keys_step : KeysStep
keys_step ds call answer es w held l n k =
    let old = (lawful_last ds call answer es l).1 in
    let ms = key_messages call answer es w in
    let x : Last = λ d s. last_message d s (stream es w) in
    let kept = kept_tracked ms x held (subst Rising (sym k.keys_are) (keys_rise ds es w old), to_lasts (stream es w) held k.lasts_are) in
    let said : key_bodies (said_at ds call answer es w) ≡ ms = said_keys ds call answer es w ∙ ap (λ b. cond b ms []) n in
    let outgoing : stream (step ds call answer es) w ≡ sent_on (clock ((call, answer) ∷ past_of es)) (said_at ds call answer es w) (stream es w) =
    subst
    (λ xs. stream (step ds call answer xs) w ≡ sent_on (clock ((call, answer) ∷ past_of es)) (said_at ds call answer xs w) (stream xs w))
    old.whole (stream_step ds call answer (past_of es) w l.legal) in
    record {
      keys_are = keys_stepped ds call answer es w held l n k.keys_are;
      lasts_are =
          from_lasts (with_messages ms x) (stream (step ds call answer es) w) (tracked ms held)
          (λ d s.
          ap (λ ns. with_messages ns x d s) (sym said)
          ∙ last_sent d s (clock ((call, answer) ∷ past_of es)) (said_at ds call answer es w) (stream es w) x refl
          ∙ ap (last_message d s) (sym outgoing))
          kept.1;
    }

pub keys_at_first : KeysAtFirst
keys_at_first ds es w l n = record { keys_are = sym (dead_keys ds es w l n); lasts_are = tt }
