-- Closing a client leaves keys where they go.
use Rattle.std.proofs.Common.{◌≡◌, ℕ, ◌==◌, ◌&&◌, ◌||◌, Bool, true, false, not, cond, List, [], ◌∷◌, filter, Option, Some, None, refl, sym, ap, ap₂, ◌∙◌, subst, inl, inr}
use Rattle.std.proofs.lemmas.Bool.{cases_Bool, eq-eqb, eqb-true, true≢false}
use Rattle.input_types.specs.declared.key.KeyArgs.{KeyArgs}
use Rattle.window_snapshot.specs.declared.window.Window.{Window}
use Rattle.window_snapshot.specs.Named.{is_focusable_on, is_named}
use Rattle.window_snapshot.specs.Window.{is_focusable}
use Rattle.focus_resolver.specs.Resolver.{focus_if, is_at}
use Rattle.dispatch_calls.specs.declared.call.Call.{Call}
use Rattle.dispatch_calls.specs.declared.call.Call.TheVariants.{Open, Windows, FocusOn, Notify, Pump, Tick, Receive, Finish, Pilfer, Remove}
use Rattle.dispatch_calls.specs.declared.reply.Reply.{Reply}
use Rattle.dispatch_history.specs.Delivery.{able, reports}
use Rattle.dispatch_history.specs.Effect.{Effect, past_of}
use Rattle.dispatch_history.specs.Effects.{step}
use Rattle.dispatch_history.specs.Focus.{asked, is_target, key_target, may_focus, requested}
use Rattle.dispatch_history.specs.History.{History, live, snapshot}
use Rattle.dispatch_history.specs.Keys.{ends, goes_down, key_given, keys, loses_all}
use Rattle.dispatch_history.specs.Legal.{answered}
use Rattle.dispatch_history.specs.Ordered.{extend}
use Rattle.dispatch_history.specs.Queue.{args_of, inbound}
use Rattle.dispatch_history.specs.Reply.{reply_to}
use Rattle.live_input.specs.Closing.{forgotten, forgotten_on, hidden, without}
use Rattle.live_input.specs.ClosingLaws.{ClosedKeysLaw, KeysStay, PartKeysLaw}
use Rattle.live_input.specs.Settling.{Follows, next_left}
use Rattle.live_input.specs.Taking.{TakeAll, Takes}
use Rattle.live_input.proofs.Emptied.{named_without}
use Rattle.live_input.proofs.Taken.{all_left}
use Rattle.live_input.proofs.Unshown.{named_filter}

-- ---- keys that are held

-- nothing ends a key where no args are dispatched
none_end : (ks : List KeyArgs) → filter (λ k. not (ends None k)) ks ≡ ks
none_end [] = refl
none_end (k ∷ ks) = ap (λ xs. k ∷ xs) (none_end ks)

-- a step that dispatches nothing leaves the keys of a live channel that it does not report, if keys go to it as before
pub keys_kept : (ds : List ℕ) (call : Call) (answer : Reply) (es : List Effect) (d : ℕ) → args_of call answer (inbound (past_of es)) ≡ None
    → (is_target (past_of es) d && not (is_target ((call, answer) ∷ past_of es) d)) ≡ false → reports ((call, answer) ∷ past_of es) d ≡ false
    → live ((call, answer) ∷ past_of es) d ≡ true → keys (step ds call answer es) d ≡ keys es d
keys_kept ds call answer es d none stays quiet lives =
    let after : History = (call, answer) ∷ past_of es in
    let lost : loses_all after (past_of es) d ≡ false =
    ap₂ (λ a b. a || b || not (live after d)) stays quiet ∙ ap (λ b. false || false || not b) lives in
    ap₂ (λ o b. key_given (goes_down o) (is_target (past_of es) d && able es d) (cond b [] (filter (λ k. not (ends o k)) (keys es d)))) none lost
    ∙ none_end (keys es d)

-- ---- the windows without that of a channel

-- another channel has the windows that it had
named_but : (p : Window → Bool) (c d : ℕ) (ws : List Window) → (d == c) ≡ false → is_named (filter p (without c ws)) d ≡ is_named (filter p ws) d
named_but p c d [] other = refl
named_but p c d (w ∷ ws) other = by_test (w.channel == c) refl (named_but p c d ws other)
  where
    not_its : (w.channel == c) ≡ true → (w.channel == d) ≡ false
    not_its same =
        elim (cases_Bool (w.channel == d)) [
          | inl here ↦
              absurd (true≢false (sym (eq-eqb d c (sym (eqb-true w.channel d here) ∙ eqb-true w.channel c same)) ∙ other))
          | inr there ↦ there
        ]

    gone : (b : Bool) → (w.channel == d) ≡ false → is_named (filter p ws) d ≡ is_named (cond b (w ∷ filter p ws) (filter p ws)) d
    gone true e = sym (ap (λ x. x || is_named (filter p ws) d) e)
    gone false e = refl

    kept : (b : Bool) → is_named (filter p (without c ws)) d ≡ is_named (filter p ws) d
        → is_named (cond b (w ∷ filter p (without c ws)) (filter p (without c ws))) d ≡ is_named (cond b (w ∷ filter p ws) (filter p ws)) d
    kept true e = ap (λ x. (w.channel == d) || x) e
    kept false e = e

    by_test : (b : Bool) → (w.channel == c) ≡ b → is_named (filter p (without c ws)) d ≡ is_named (filter p ws) d
        → is_named (filter p (cond (not b) (w ∷ without c ws) (without c ws))) d ≡ is_named (cond (p w) (w ∷ filter p ws) (filter p ws)) d
    by_test true same more = more ∙ gone (p w) (not_its same)
    by_test false differ more = kept (p w) more

-- the key target is the same without the window of another channel
target_without : (lives : ℕ → Bool) (ws : List Window) (y c : ℕ) (o : Option ℕ)
    → is_at (focus_if (λ k. lives k && is_focusable_on ws y k) o) c ≡ false
    → focus_if (λ k. lives k && is_focusable_on (without c ws) y k) o ≡ focus_if (λ k. lives k && is_focusable_on ws y k) o
target_without lives ws y c None other = refl
target_without lives ws y c (Some d) other =
    elim (cases_Bool (d == c)) [
      | inl same ↦
          let is : d ≡ c = eqb-true d c same in
          let none_there : is_focusable_on (without c ws) y d ≡ false =
          ap (is_focusable_on (without c ws) y) is ∙ named_filter (λ v. v.display == y && is_focusable v) (without c ws) c (named_without c ws) in
          ap (λ b. cond (lives d && b) (Some d) None) none_there ∙ none_left (lives d) d ∙ sym (was_none (lives d && is_focusable_on ws y d) d is other)
      | inr differ ↦
          ap (λ b. cond (lives d && b) (Some d) None) (named_but (λ v. v.display == y && is_focusable v) c d ws differ)
    ]
  where
    none_left : (b : Bool) (d : ℕ) → cond (b && false) (Some d) None ≡ None
    none_left true d = refl
    none_left false d = refl

    was_none : (b : Bool) (d : ℕ) → d ≡ c → is_at (cond b (Some d) None) c ≡ false → cond b (Some d) None ≡ None
    was_none true d is e = absurd (true≢false (sym (eq-eqb c d (sym is)) ∙ e))
    was_none false d is e = refl

-- the key target is the same without a request for another channel
target_unasked : (may : ℕ → Bool) (y z c : ℕ) (request : ℕ → Option ℕ) → is_at (request z) c ≡ true → is_at (focus_if may (request y)) c ≡ false
    → focus_if may (cond (y == z) None (request y)) ≡ focus_if may (request y)
target_unasked may y z c request its other = by_test (y == z) refl
  where
    none : (o : Option ℕ) → is_at o c ≡ true → is_at (focus_if may o) c ≡ false → None ≡ focus_if may o
    none None at e = refl
    none (Some d) at e = by_may (may d) e
      where
        by_may : (b : Bool) → is_at (cond b (Some d) None) c ≡ false → None ≡ cond b (Some d) None
        by_may true e = absurd (true≢false (sym at ∙ e))
        by_may false e = refl

    by_test : (b : Bool) → (y == z) ≡ b → focus_if may (cond b None (request y)) ≡ focus_if may (request y)
    by_test true same = none (request y) (ap (λ x. is_at (request x) c) (eqb-true y z same) ∙ its) other
    by_test false differ = refl

-- ---- one call, and all of them

-- where the key target stays unless it is one channel, it stays for each other one
others_stay : (old new : Option ℕ) (c d : ℕ) → (d == c) ≡ false → (is_at old c ≡ false → new ≡ old) → (is_at old d && not (is_at new d)) ≡ false
others_stay None new c d other same = refl
others_stay (Some k) new c d other same =
    elim (cases_Bool (c == k)) [
      | inl its ↦
          let apart : (d == k) ≡ false = ap (λ x. d == x) (sym (eqb-true c k its)) ∙ other in
          ap (λ b. b && not (is_at new d)) apart
      | inr not_its ↦ ap (λ o. (d == k) && not (is_at o d)) (same not_its) ∙ never (d == k)
    ]
  where
    never : (b : Bool) → (b && not b) ≡ false
    never true = refl
    never false = refl

module _ (ds : List ℕ) (now c : ℕ) where
  -- keys stay, and so do the live channels
  abbrev Stays : List Effect → List Effect → Type 0
  Stays es fs = KeysStay c es fs × ((d : ℕ) → live (past_of fs) d ≡ live (past_of es) d)

  stays_none : (es : List Effect) → Stays es es
  stays_none es = (record { display_is = refl; target_is = λ e. refl; keys_are = λ d other lives. refl }, λ d. refl)

  stays_then : (es fs gs : List Effect) → Stays es fs → Stays fs gs → Stays es gs
  stays_then es fs gs p q = (
    record {
      display_is = q.0.display_is ∙ p.0.display_is;
      target_is = λ e. q.0.target_is (ap (λ o. is_at o c) (p.0.target_is e) ∙ e) ∙ p.0.target_is e;
      keys_are = λ d other lives. q.0.keys_are d other (p.1 d ∙ lives) ∙ p.0.keys_are d other lives;
    },
    λ d. q.1 d ∙ p.1 d,
  )

  -- by what a call does to the display, the key target and the live channels
  stays_by : (call : Call) (es : List Effect) → args_of call (reply_to es call) (inbound (past_of es)) ≡ None
      → ((d : ℕ) → reports ((call, reply_to es call) ∷ past_of es) d ≡ false)
      → ((d : ℕ) → live ((call, reply_to es call) ∷ past_of es) d ≡ live (past_of es) d)
      → asked ((call, reply_to es call) ∷ past_of es) ≡ asked (past_of es)
      → (is_target (past_of es) c ≡ false → key_target ((call, reply_to es call) ∷ past_of es) ≡ key_target (past_of es))
      → Stays es (answered ds call es)
  stays_by call es none quiet lives display target = (
    record {
      display_is = display;
      target_is = target;
      keys_are = λ d other is.
          keys_kept ds call (reply_to es call) es d none
          (others_stay (key_target (past_of es)) (key_target ((call, reply_to es call) ∷ past_of es)) c d other target) (quiet d) (lives d ∙ is);
    },
    lives,
  )

  stays_windows : (es : List Effect) (t : ℕ) (ws : List Window) → ws ≡ without c (snapshot (past_of es)) → Stays es (answered ds (Windows t ws) es)
  stays_windows es t ws is =
      let h = past_of es in
      stays_by (Windows t ws) es refl (λ d. refl) (λ d. refl) refl
      (λ other.
      ap (λ vs. focus_if (λ k. live h k && is_focusable_on vs (asked h) k) (requested h (asked h))) is
      ∙ target_without (live h) (snapshot h) (asked h) c (requested h (asked h)) other)

  stays_request : (es : List Effect) (t z : ℕ) (r : Option ℕ) (along : Bool) → r ≡ None → along ≡ false → is_at (requested (past_of es) z) c ≡ true
      → Stays es (answered ds (FocusOn t z r along) es)
  stays_request es t z r along none left its =
      subst (λ o. Stays es (answered ds (FocusOn t z o along) es)) (sym none)
      (subst (λ b. Stays es (answered ds (FocusOn t z None b) es)) (sym left)
      (stays_by (FocusOn t z None false) es refl (λ d. refl) (λ d. refl) refl
      (λ other. let h = past_of es in target_unasked (may_focus h (asked h)) (asked h) z c (requested h) its other)))

  stays_one : (es : List Effect) (call : Call) → Takes now c es call → Stays es (answered ds call es)
  stays_one es (Windows t ws) x = stays_windows es t ws x.1
  stays_one es (FocusOn t z r along) x = stays_request es t z r along x.1 x.2 x.3
  stays_one es (Receive k) x = stays_by (Receive k) es refl (λ d. refl) (λ d. refl) refl (λ other. refl)
  stays_one es (Finish t k seq) x = stays_by (Finish t k seq) es refl (λ d. refl) (λ d. refl) refl (λ other. refl)
  stays_one es (Open terms) x = absurd x
  stays_one es (Notify t a) x = absurd x
  stays_one es (Pump t) x = absurd x
  stays_one es (Tick t) x = absurd x
  stays_one es (Pilfer t k d) x = absurd x
  stays_one es (Remove t k) x = absurd x

  stays_all : (es : List Effect) (calls : List Call) → TakeAll ds now c es calls → Stays es (extend ds es calls)
  stays_all es [] t = stays_none es
  stays_all es (k ∷ ks) t =
      stays_then es (answered ds k es) (extend ds (answered ds k es) ks) (stays_one es k t.0) (stays_all (answered ds k es) ks t.1)

  -- the window goes, if there is one, and each request
  stays_hidden : (es : List Effect) → Stays es (hidden ds now c es)
  stays_hidden es = by_test (is_named (snapshot (past_of es)) c)
    where
      by_test : (b : Bool) → Stays es (cond b (answered ds (Windows now (without c (snapshot (past_of es)))) es) es)
      by_test true = stays_windows es now (without c (snapshot (past_of es))) refl
      by_test false = stays_none es

  stays_on : (z : ℕ) (es : List Effect) → Stays es (forgotten_on ds now c z es)
  stays_on z es = by_test (is_at (requested (past_of es) z) c) refl
    where
      by_test : (b : Bool) → is_at (requested (past_of es) z) c ≡ b → Stays es (cond b (answered ds (FocusOn now z None false) es) es)
      by_test true its = stays_request es now z None false refl refl its
      by_test false other = stays_none es

  stays_forgotten : (es : List Effect) → Stays es (forgotten ds now c es)
  stays_forgotten es =
      let one = forgotten_on ds now c 0 es in
      let two = forgotten_on ds now c 1 one in
      let three = forgotten_on ds now c 2 two in
      stays_then es three (forgotten_on ds now c 3 three)
      (stays_then es two three (stays_then es one two (stays_on 0 es) (stays_on 1 one)) (stays_on 2 two)) (stays_on 3 three)

  pub all_stays : (es : List Effect) (calls : List Call) → Follows (next_left now c) ds (forgotten ds now c (hidden ds now c es)) calls
      → KeysStay c es (extend ds (forgotten ds now c (hidden ds now c es)) calls)
  all_stays es calls f =
      let gone = hidden ds now c es in
      let left = forgotten ds now c gone in
      (stays_then es left (extend ds left calls) (stays_then es gone left (stays_hidden es) (stays_forgotten gone))
      (stays_all left calls (all_left ds now c left calls f))).0

  pub part_stays : (es : List Effect) (calls : List Call) → TakeAll ds now c es calls → KeysStay c es (extend ds es calls)
  part_stays es calls t = (stays_all es calls t).0

pub closed_keys : ClosedKeysLaw
closed_keys ds now c es calls f = all_stays ds now c es calls f

pub part_keys : PartKeysLaw
part_keys ds now c es calls t = part_stays ds now c es calls t
