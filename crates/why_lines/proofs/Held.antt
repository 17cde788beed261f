-- What windows that held something lose, line by line.
use Rattle.std.proofs.Common.{◌≡◌, ◌+◌, ◌==◌, ℕ, suc, Bool, true, false, not, cond, ◌&&◌, List, [], ◌∷◌, ◌++◌, map, filter, flat_map, Option, Some, None, refl, sym, ap, ap₂, ◌∙◌, append-nil, add-one}
use Rattle.std.proofs.Math.Path.{fun_ext}
use Rattle.std.proofs.lemmas.Bool.{eqb-true}
use Rattle.std.proofs.lemmas.List.Concat.{flat_map-append}
use Rattle.focus_resolver.specs.Resolver.{is_at}
use Rattle.input_types.specs.declared.key.KeyArgs.{KeyArgs}
use Rattle.routing_rules.specs.Outgoing.{devices}
use Rattle.dispatch_history.specs.Effect.{Effect, past_of}
use Rattle.dispatch_history.specs.Effects.{channels}
use Rattle.dispatch_history.specs.Focus.{key_target}
use Rattle.dispatch_history.specs.Keys.{keys}
use Rattle.dispatcher.specs.DispatchTables.Lawful.{Lawful}
use Rattle.why_text.specs.Lines.{gone_word, gone_words}
use Rattle.why_text.specs.Lost.{are_some, holds, ids_item, key_item, lost_items, lost_word}
use Rattle.why_text.specs.Words.{channels_that, ids_that}
use Rattle.why_lines.specs.Gone.{gone_line, keys_gone, target_keys}
use Rattle.why_lines.specs.Growing.{with_lines}
use Rattle.why_lines.specs.Held.{IsQuiet}
use Rattle.why_lines.proofs.Losers.{keys_lost_are}
use Rattle.why_lines.proofs.Growing.{more_lines}
use Rattle.why_lines.proofs.KeyHolders.{untargeted}

-- only the window which keys go to holds some
pub keys_there : (ds : List ℕ) (es : List Effect) (w : ℕ) (o : Option ℕ) → Lawful ds es → key_target (past_of es) ≡ o
    → cond (is_at o w) (target_keys es o) [] ≡ keys es w
keys_there ds es w None l e = sym (untargeted ds es None w l e refl)
keys_there ds es w (Some t) l e = by_window (w == t) refl
  where
    by_window : (b : Bool) → (w == t) ≡ b → cond b (keys es t) [] ≡ keys es w
    by_window true q = ap (keys es) (sym (eqb-true w t q))
    by_window false q = sym (untargeted ds es (Some t) w l e q)

-- the ids that it holds before a quiet step and not after it, and the keys that it loses, are all that a window loses
pub items_lost : (ds : List ℕ) (x : Effect) (es : List Effect) (w : ℕ) (later : ℕ → ℕ → Bool) (ks : List KeyArgs) → Lawful ds (x ∷ es) → IsQuiet x
    → ((d i : ℕ) → later d i ≡ holds (x ∷ es) w d i) → ks ≡ keys es w
    → flat_map (λ d. ids_item d (ids_that (λ i. holds es w d i && not (later d i)))) devices ++ map key_item (keys_gone w ks (key_target x.past)) ≡ lost_items x es w
items_lost ds x es w later ks l quiet same held =
    ap₂ (λ (f : ℕ → List ℕ) js. flat_map (λ d. ids_item d (f d)) devices ++ map key_item js)
    (fun_ext (λ d. ap ids_that (fun_ext (λ i. ap (λ b. holds es w d i && not b) (same d i)))))
    (ap (λ js. keys_gone w js (key_target x.past)) held ∙ keys_lost_are ds x es w l quiet.no_args (quiet.unnamed w))

-- the lines of the windows 1 to n
abbrev pub lines_to : Effect → List Effect → ℕ → List (List ℕ)
lines_to x es n = flat_map (λ w. gone_line w (lost_items x es w)) (channels n)

-- those of one window more
pub line_more : (t : ℕ) (x : Effect) (es : List Effect) (n : ℕ) (all old new : List ℕ) → new ≡ with_lines t (gone_line (n + 1) (lost_items x es (n + 1))) old
    → old ≡ with_lines t (lines_to x es n) all → new ≡ with_lines t (lines_to x es (n + 1)) all
line_more t x es n all old new added before =
    added
    ∙ ap₂ (λ m text. with_lines t (gone_line m (lost_items x es m)) text) (add-one n) before
    ∙ more_lines t (lines_to x es n) (gone_line (suc n) (lost_items x es (suc n))) all
    ∙ ap (λ ls. with_lines t (lines_to x es n ++ ls) all) (sym (append-nil (gone_line (suc n) (lost_items x es (suc n)))))
    ∙ ap (λ ls. with_lines t ls all) (sym (flat_map-append (λ w. gone_line w (lost_items x es w)) (channels n) (suc n ∷ [])))
    ∙ ap (λ m. with_lines t (lines_to x es m) all) (sym (add-one n))

each_that : (test : ℕ → Bool) (word : ℕ → List ℕ) (ws : List ℕ) → flat_map (λ w. cond (test w) (word w ∷ []) []) ws ≡ map word (filter test ws)
each_that test word [] = refl
each_that test word (w ∷ ws) = ap (λ ls. cond (test w) (word w ∷ []) [] ++ ls) (each_that test word ws) ∙ by_test (test w)
  where
    by_test : (b : Bool) → cond b (word w ∷ []) [] ++ map word (filter test ws) ≡ map word (cond b (w ∷ filter test ws) (filter test ws))
    by_test true = refl
    by_test false = refl

-- the lines of all windows
pub all_lines : (x : Effect) (es : List Effect) → lines_to x es 64 ≡ gone_words x es
unfolding channels_that
all_lines x es = each_that (λ w. are_some (lost_items x es w)) (λ w. gone_word w (lost_word x es w)) (channels 64)
