-- What windows lose to a request of the focus.
use Rattle.std.proofs.Common.{◌≡◌, ℕ, Bool, true, false, not, cond, ◌&&◌, List, [], ◌∷◌, ◌++◌, map, filter, flat_map, Option, Some, None, refl, sym, ap, ap₂, ◌∙◌, append-nil}
use Rattle.std.proofs.Math.Path.{fun_ext}
use Rattle.focus_resolver.specs.Resolver.{is_at}
use Rattle.dispatch_calls.specs.declared.call.Call.TheVariants.{FocusOn}
use Rattle.dispatch_calls.specs.declared.reply.Reply.{Reply}
use Rattle.routing_rules.specs.Marks.{held}
use Rattle.routing_rules.specs.Pairs.{has}
use Rattle.routing_rules.specs.Outgoing.{devices}
use Rattle.dispatch_history.specs.Effect.{Effect, past_of}
use Rattle.dispatch_history.specs.Effects.{effect_of, step}
use Rattle.dispatch_history.specs.Focus.{key_target}
use Rattle.dispatch_history.specs.Keys.{keys}
use Rattle.dispatch_history.specs.Queue.{args_of, inbound}
use Rattle.dispatch_history.specs.Step.{marks}
use Rattle.dispatcher.specs.DispatchTables.Lawful.{Lawful}
use Rattle.why_text.specs.Lines.{gone_word, gone_words}
use Rattle.why_text.specs.Lost.{are_some, holds, ids_item, ids_lost, key_item, lost_items, lost_word}
use Rattle.why_text.specs.Words.{ids_that}
use Rattle.why_lines.proofs.Passing.{no_channel}
use Rattle.why_lines.specs.Gone.{gone_line, keys_gone, target_keys, target_line}
use Rattle.why_lines.proofs.Losers.{all_pass, keys_lost_are}
use Rattle.why_lines.proofs.KeyHolders.{untargeted}
use Rattle.why_lines.proofs.OneChannel.{that_is}
use Rattle.why_lines.proofs.Targets.{lives_channel, target_lives}

-- the effect of a request with this reply
abbrev requested : List ℕ → List Effect → (now y : ℕ) → Option ℕ → Bool → Reply → Effect
requested ds es now y c along answer = effect_of ds (FocusOn now y c along) answer (args_of (FocusOn now y c along) answer (inbound (past_of es))) es

-- windows hold the same pointers as before
pub same_holds : (ds : List ℕ) (es : List Effect) (now y : ℕ) (c : Option ℕ) (along : Bool) (answer : Reply) (w d i : ℕ)
    → holds (step ds (FocusOn now y c along) answer es) w d i ≡ holds es w d i
same_holds ds es now y c along answer w d i =
    ap (λ qs. has qs w d i) (append-nil (filter (λ q. true) (held (marks es))) ∙ all_pass (held (marks es)))

no_ids : ids_that (λ i. false) ≡ []
unfolding ids_that
no_ids = refl

and_not : (b : Bool) → (b && not b) ≡ false
and_not true = refl
and_not false = refl

ids_stay : (ds : List ℕ) (es : List Effect) (now y : ℕ) (c : Option ℕ) (along : Bool) (answer : Reply) (w d : ℕ)
    → ids_lost (requested ds es now y c along answer) es w d ≡ []
ids_stay ds es now y c along answer w d =
    ap ids_that (fun_ext (λ i. ap (λ b. holds es w d i && not b) (same_holds ds es now y c along answer w d i) ∙ and_not (holds es w d i))) ∙ no_ids

-- a window loses its keys alone
keys_alone : (ds : List ℕ) (es : List Effect) (now y : ℕ) (c : Option ℕ) (along : Bool) (answer : Reply) (w : ℕ) → Lawful ds (step ds (FocusOn now y c along) answer es)
    → (let x = requested ds es now y c along answer in map key_item (keys_gone w (keys es w) (key_target x.past)) ≡ lost_items x es w)
keys_alone ds es now y c along answer w l =
    let x = requested ds es now y c along answer in
    sym
    (ap₂ (λ (f : ℕ → List ℕ) ks. flat_map (λ d. ids_item d (f d)) devices ++ map key_item ks) (fun_ext (ids_stay ds es now y c along answer w))
    (sym (keys_lost_are ds x es w l refl refl)))

-- The only window that loses something is the one which keys went to.
pub refocused : (ds : List ℕ) (es : List Effect) (now y : ℕ) (c : Option ℕ) (along : Bool) (answer : Reply) (o : Option ℕ) → Lawful ds es
    → Lawful ds (step ds (FocusOn now y c along) answer es) → key_target (past_of es) ≡ o
    → (let x = requested ds es now y c along answer in target_line o (target_keys es o) (key_target x.past) ≡ gone_words x es)
refocused ds es now y c along answer o before after e = by_target o e
  where
    x : Effect
    x = requested ds es now y c along answer

    word : ℕ → List ℕ
    word w = gone_word w (lost_word x es w)

    loses : ℕ → Bool
    loses w = are_some (lost_items x es w)

    none_of_none : (b : Bool) → map key_item (cond b [] []) ≡ []
    none_of_none true = refl
    none_of_none false = refl

    unheld : (w : ℕ) → keys es w ≡ [] → loses w ≡ false
    unheld w none =
        ap are_some
        (sym (keys_alone ds es now y c along answer w after)
        ∙ ap (λ ks. map key_item (keys_gone w ks (key_target x.past))) none
        ∙ none_of_none (is_at (key_target x.past) w))

    by_test : (v : ℕ) (b : Bool) → cond b (word v ∷ []) [] ≡ map word (cond b (v ∷ []) [])
    by_test v true = refl
    by_test v false = refl

    by_target : (o : Option ℕ) → key_target (past_of es) ≡ o → target_line o (target_keys es o) (key_target x.past) ≡ gone_words x es
    by_target None e = sym (ap (map word) (no_channel loses (λ w. unheld w (untargeted ds es None w before e refl))))
    by_target (Some v) e =
        ap (gone_line v) (keys_alone ds es now y c along answer v after)
        ∙ by_test v (loses v)
        ∙ ap (map word)
        (sym
        (that_is loses v (lives_channel ds es v before (target_lives (past_of es) v e))
        (λ w other. unheld w (untargeted ds es (Some v) w before e other))))
