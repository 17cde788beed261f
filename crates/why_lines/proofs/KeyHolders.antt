-- Which window holds a key.
use Rattle.std.proofs.Common.{◌≡◌, ℕ, Bool, true, false, not, cond, ◌&&◌, ◌||◌, List, [], ◌∷◌, map, filter, Option, Some, None, refl, sym, ap, ap₂, ◌∙◌}
use Rattle.std.specs.List.{list_any}
use Rattle.std.proofs.lemmas.Bool.{eq-eqb}
use Rattle.focus_resolver.specs.Resolver.{is_at}
use Rattle.input_types.specs.declared.key.KeyArgs.{KeyArgs}
use Rattle.input_types.specs.declared.key.KeyMsg.{KeyMsg}
use Rattle.input_types.specs.declared.message.Args.{Args}
use Rattle.input_types.specs.declared.message.Args.TheVariants.{Key as KeyOfDevice}
use Rattle.dispatch_history.specs.Delivery.{able}
use Rattle.dispatch_history.specs.Effect.{Effect, past_of}
use Rattle.dispatch_history.specs.Focus.{is_target, key_target}
use Rattle.dispatch_history.specs.Keys.{ends, goes_down, is_before, key_given, keys, loses_all, same_key, with_key}
use Rattle.dispatcher.specs.DispatchTables.Lawful.{Lawful}
use Rattle.dispatcher.proofs.KeyTables.Holders.{keys_of_target}
use Rattle.why_text.specs.Lines.{first_of, key_holders}
use Rattle.why_lines.specs.Holding.{if_able, OnlyHolds}
use Rattle.why_lines.specs.declared.holders.KeyHolder.{KeyHolder}
use Rattle.why_lines.proofs.OneChannel.{first_is, first_none}
use Rattle.why_lines.proofs.Targets.{lives_channel, target_lives}

-- a window that is not the key target holds no keys
pub untargeted : (ds : List ℕ) (es : List Effect) (o : Option ℕ) (w : ℕ) → Lawful ds es → key_target (past_of es) ≡ o → is_at o w ≡ false → keys es w ≡ []
untargeted ds es o w l e n = keys_of_target ds es w l (ap (λ b. b && able es w) (ap (λ t. is_at t w) e ∙ n))

-- a test of the keys of messages
any_key : (k : KeyArgs) (ms : List KeyMsg) → list_any (same_key k) (map (λ m. m.key) ms) ≡ list_any (λ m. same_key k m.key) ms
any_key k [] = refl
any_key k (m ∷ ms) = ap (λ b. same_key k m.key || b) (any_key k ms)

-- the window of these keys holds a key that is among them
pub held_by : (es : List Effect) (h : KeyHolder) (k : KeyArgs) → OnlyHolds es h
    → first_of (key_holders es k) ≡ cond (list_any (λ m. same_key k m.key) h.keys.now) (Some h.window) None
held_by es h k only =
    first_is (λ w. list_any (same_key k) (keys es w)) h.window only.number (λ w other. ap (list_any (same_key k)) (only.others w other))
    ∙ ap (λ b. cond b (Some h.window) None) (ap (list_any (same_key k)) (sym only.keys_are) ∙ any_key k h.keys.now)

-- where no window holds keys, none holds this one
pub held_none : (es : List Effect) (k : KeyArgs) → ((w : ℕ) → keys es w ≡ []) → first_of (key_holders es k) ≡ None
held_none es k none = first_none (λ w. list_any (same_key k) (keys es w)) (λ w. ap (list_any (same_key k)) (none w))

-- a key is the same as itself
pub same_itself : (k : KeyArgs) → same_key k k ≡ true
same_itself k = ap₂ (λ a b. a && b) (eq-eqb k.device k.device refl) (eq-eqb k.scan k.scan refl)

-- a key that was put among keys is there
with_it : (k : KeyArgs) (ks : List KeyArgs) → list_any (same_key k) (with_key k ks) ≡ true
with_it k [] = ap (λ b. b || false) (same_itself k)
with_it k (l ∷ ls) = by_order (is_before k l) (with_it k ls)
  where
    or_true : (b : Bool) → (b || true) ≡ true
    or_true true = refl
    or_true false = refl

    by_order : (b : Bool) → list_any (same_key k) (with_key k ls) ≡ true → list_any (same_key k) (cond b (k ∷ l ∷ ls) (l ∷ with_key k ls)) ≡ true
    by_order true more = ap (λ b. b || list_any (same_key k) (l ∷ ls)) (same_itself k)
    by_order false more = ap (λ b. same_key k l || b) more ∙ or_true (same_key k l)

-- a key that goes down is held by the window that is sent it
gets_it : (k : KeyArgs) (gets loses : Bool) (p : KeyArgs → Bool) (held : List KeyArgs) → (gets ≡ false → held ≡ [])
    → list_any (same_key k) (key_given (Some k) gets (cond loses [] (filter p held))) ≡ gets
gets_it k true loses p held none = with_it k (cond loses [] (filter p held))
gets_it k false loses p held none = ap (λ ks. list_any (same_key k) (cond loses [] (filter p ks))) (none refl) ∙ by_loss loses
  where
    by_loss : (b : Bool) → list_any (same_key k) (cond b [] []) ≡ false
    by_loss true = refl
    by_loss false = refl

down_key : (k : KeyArgs) (o : Option Args) → o ≡ Some (KeyOfDevice k) → k.down ≡ true → goes_down o ≡ Some k
down_key k o e d = ap goes_down e ∙ ap (λ b. cond b (Some k) None) d

-- at the step of a key that goes down, the window that comes to hold it is the key target, where that is able
comes_to_hold : (ds : List ℕ) (es : List Effect) (x : Effect) (k : KeyArgs) (w : ℕ) → Lawful ds es → x.args ≡ Some (KeyOfDevice k) → k.down ≡ true
    → list_any (same_key k) (keys (x ∷ es) w) ≡ (is_target (past_of es) w && able es w)
comes_to_hold ds es x k w l e d =
    ap
    (λ g. list_any (same_key k)
    (key_given g (is_target (past_of es) w && able es w) (cond (loses_all x.past (past_of es) w) [] (filter (λ j. not (ends x.args j)) (keys es w)))))
    (down_key k x.args e d)
    ∙ gets_it k (is_target (past_of es) w && able es w) (loses_all x.past (past_of es) w) (λ j. not (ends x.args j)) (keys es w) (keys_of_target ds es w l)

pub given_is : (ds : List ℕ) (es : List Effect) (x : Effect) (k : KeyArgs) → Lawful ds es → x.args ≡ Some (KeyOfDevice k) → k.down ≡ true
    → first_of (key_holders (x ∷ es) k) ≡ if_able (able es) (key_target (past_of es))
given_is ds es x k l e d = by_target (key_target (past_of es)) refl
  where
    holds : (o : Option ℕ) → key_target (past_of es) ≡ o → (w : ℕ) → list_any (same_key k) (keys (x ∷ es) w) ≡ (is_at o w && able es w)
    holds o q w = comes_to_hold ds es x k w l e d ∙ ap (λ t. is_at t w && able es w) q

    by_target : (o : Option ℕ) → key_target (past_of es) ≡ o → first_of (key_holders (x ∷ es) k) ≡ if_able (able es) o
    by_target None q = first_none (λ w. list_any (same_key k) (keys (x ∷ es) w)) (holds None q)
    by_target (Some t) q =
        first_is (λ w. list_any (same_key k) (keys (x ∷ es) w)) t (lives_channel ds es t l (target_lives (past_of es) t q))
        (λ w other. holds (Some t) q w ∙ ap (λ b. b && able es w) other)
        ∙ ap (λ b. cond b (Some t) None) (holds (Some t) q t ∙ ap (λ b. b && able es t) (eq-eqb t t refl))
