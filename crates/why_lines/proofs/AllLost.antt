-- A window that loses all.
use Rattle.std.proofs.Common.{◌≡◌, ℕ, Bool, true, false, not, cond, ◌&&◌, ◌==◌, List, [], ◌∷◌, ◌++◌, map, filter, flat_map, refl, sym, ap, ap₂, ◌∙◌, subst}
use Rattle.std.proofs.Math.Path.{fun_ext}
use Rattle.std.specs.List.{list_any}
use Rattle.std.proofs.lemmas.Bool.{eq-eqb, eqb-true, false_from_ne_true, true≢false}
use Rattle.input_types.specs.declared.key.KeyArgs.{KeyArgs}
use Rattle.window_snapshot.specs.Mask.{is_channel}
use Rattle.dispatch_calls.specs.declared.call.Call.TheVariants.{Remove}
use Rattle.dispatch_calls.specs.declared.reply.Reply.{Reply}
use Rattle.dispatch_calls.specs.declared.reply.Reply.TheVariants.{Done, Gone}
use Rattle.routing_rules.specs.Outgoing.{devices}
use Rattle.dispatch_history.specs.Delivery.{able, unresponsive}
use Rattle.dispatch_history.specs.Effect.{Effect, past_of}
use Rattle.dispatch_history.specs.Effects.{effect_of, step}
use Rattle.dispatch_history.specs.Focus.{is_target}
use Rattle.dispatch_history.specs.History.{live, live_after}
use Rattle.dispatch_history.specs.Keys.{keys, same_key}
use Rattle.dispatch_history.specs.Queue.{args_of, inbound}
use Rattle.dispatch_history.specs.Step.{scene}
use Rattle.dispatch_history.proofs.HolderLaws.{holder_law}
use Rattle.dispatcher.specs.DispatchTables.Lawful.{Lawful}
use Rattle.dispatcher.proofs.DispatchTables.Lawfuls.{lawful_last}
use Rattle.dispatcher.proofs.KeyTables.Holders.{keys_of_target}
use Rattle.why_text.specs.Lost.{holds, ids_item, ids_lost, key_item, lost_items}
use Rattle.why_text.specs.Words.{ids_that}
use Rattle.why_lines.specs.Holding.{OnlyHolds}
use Rattle.why_lines.specs.declared.holders.KeyHolder.{KeyHolder}
use Rattle.why_lines.specs.Losing.{LosesAll}
use Rattle.why_lines.proofs.Keyed.{and_false, and_true}
use Rattle.why_lines.proofs.Targets.{lives_channel}

-- a window that is not able after a step holds nothing then
pub loses_all : (ds : List ℕ) (x : Effect) (es : List Effect) (w : ℕ) → Lawful ds (x ∷ es) → able (x ∷ es) w ≡ false → LosesAll x es w
loses_all ds x es w l mute =
    record {
      no_ids = λ d i. false_from_ne_true (holds (x ∷ es) w d i) (λ held. true≢false (sym (able_then d i held) ∙ mute));
      no_keys = keys_of_target ds (x ∷ es) w l (ap (λ b. is_target x.past w && b) mute ∙ and_false (is_target x.past w));
    }
  where
    able_then : (d i : ℕ) → holds (x ∷ es) w d i ≡ true → able (x ∷ es) w ≡ true
    able_then d i held = subst (λ xs. (scene ds xs).holds w d i ≡ true → able xs w ≡ true) l.whole (λ h. (holder_law ds x.past w d i h).0) held

all_kept : (ks : List KeyArgs) → filter (λ k. not (list_any (same_key k) [])) ks ≡ ks
all_kept [] = refl
all_kept (k ∷ ks) = ap (λ js. k ∷ js) (all_kept ks)

-- what it loses is all that it held
pub all_lost : (x : Effect) (es : List Effect) (w : ℕ) → LosesAll x es w
    → flat_map (λ d. ids_item d (ids_that (holds es w d))) devices ++ map key_item (keys es w) ≡ lost_items x es w
all_lost x es w loses =
    sym
    (ap₂ (λ (f : ℕ → List ℕ) ks. flat_map (λ d. ids_item d (f d)) devices ++ map key_item ks) (fun_ext ids)
    (ap (λ after. filter (λ k. not (list_any (same_key k) after)) (keys es w)) loses.no_keys ∙ all_kept (keys es w)))
  where
    ids : (d : ℕ) → ids_lost x es w d ≡ ids_that (holds es w d)
    ids d = ap ids_that (fun_ext (λ i. ap (λ b. holds es w d i && not b) (loses.no_ids d i) ∙ and_true (holds es w d i)))

-- the keys of the window that holds some
pub keys_here : (es : List Effect) (h : KeyHolder) (w : ℕ) → OnlyHolds es h → cond (w == h.window) (map (λ m. m.key) h.keys.now) [] ≡ keys es w
keys_here es h w only = by_window (w == h.window) refl
  where
    by_window : (b : Bool) → (w == h.window) ≡ b → cond b (map (λ m. m.key) h.keys.now) [] ≡ keys es w
    by_window true e = only.keys_are ∙ ap (keys es) (sym (eqb-true w h.window e))
    by_window false e = sym (only.others w e)

-- a channel that is removed loses all
pub remove_loses : (ds : List ℕ) (es : List Effect) (now w : ℕ) (answer : Reply) → Lawful ds (step ds (Remove now w) answer es) → live (past_of es) w ≡ true
    → LosesAll (effect_of ds (Remove now w) answer (args_of (Remove now w) answer (inbound (past_of es))) es) es w
remove_loses ds es now w answer l lives =
    let x = effect_of ds (Remove now w) answer (args_of (Remove now w) answer (inbound (past_of es))) es in
    let done : answer ≡ Done = (lawful_last ds (Remove now w) answer es l).0 ∙ ap (λ b. cond b Done Gone) lives in
    let dead : live_after (Remove now w) answer w (live (past_of es) w) ≡ false =
    ap (λ r. live_after (Remove now w) r w (live (past_of es) w)) done ∙ ap (λ b. not b && live (past_of es) w) (eq-eqb w w refl) in
    loses_all ds x es w l (ap (λ b. b && not (unresponsive (x ∷ es) w)) dead)

-- a number that is no channel's is not live
pub no_channel : (ds : List ℕ) (es : List Effect) (c : ℕ) → Lawful ds es → is_channel c ≡ false → live (past_of es) c ≡ false
no_channel ds es c l e = false_from_ne_true (live (past_of es) c) (λ lives. true≢false (sym (lives_channel ds es c l lives) ∙ e))
