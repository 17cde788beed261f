-- The words of the causes.
use Rattle.std.proofs.Common.{◌≡◌, ◌≤◌, ℕ, zero, suc, ◌&&◌, Bool, true, cond, [], ◌∷◌, ◌++◌, filter, flat_map, Option, refl, sym, ap, ap₂, ◌∙◌, arith}
use Rattle.std.specs.Prelude.{codes}
use Rattle.std.proofs.lemmas.Bool.{lt-ltb, le-leb}
use Rattle.std.proofs.lemmas.List.Elements.{filter-append}
use Rattle.window_snapshot.specs.Mask.{is_channel}
use Rattle.dispatch_history.specs.Effects.{channels}
use Rattle.routing_rules.specs.declared.choice.Choice.{Choice}
use Rattle.why_text.specs.Words.{channels_that, row_word, set_word, some_window_word, windows_word}
use Rattle.why_text.specs.Down.{Down}
use Rattle.why_text.specs.Lines.{blocked_word, blocked_words, choice_words, pointer_words, sets_words}
use Rattle.why_lines.specs.declared.lines.downs.Causes.{Causes}
use Rattle.why_lines.specs.Causes.{AreCauses, down_with}
use Rattle.why_lines.specs.Laws.{WordsLaw}

-- tests that agree on the channels pass the same of the first n
same_upto : (p q : ℕ → Bool) (n : ℕ) → n ≤ 64 → ((w : ℕ) → is_channel w ≡ true → p w ≡ q w) → filter p (channels n) ≡ filter q (channels n)
same_upto p q zero few same = refl
same_upto p q (suc n) few same =
    filter-append p (channels n) (suc n ∷ [])
    ∙ ap₂ (λ xs b. xs ++ cond b (suc n ∷ []) []) (same_upto p q n (omega arith) same) (same (suc n) number)
    ∙ sym (filter-append q (channels n) (suc n ∷ []))
  where
    number : is_channel (suc n) ≡ true
    number = ap₂ (λ a b. a && b) (lt-ltb 0 (suc n) (omega arith)) (le-leb (suc n) 64 few)

same_channels : (p q : ℕ → Bool) → ((w : ℕ) → is_channel w ≡ true → p w ≡ q w) → channels_that p ≡ channels_that q
unfolding channels_that
same_channels p q same = same_upto p q 64 (omega arith) same

pub same_windows : (p q : ℕ → Bool) → ((w : ℕ) → is_channel w ≡ true → p w ≡ q w) → windows_word p ≡ windows_word q
same_windows p q same = ap set_word (same_channels p q same)

same_choice : (c : Causes) (k : Down) → AreCauses c k → choice_words (down_with c) ≡ choice_words k
same_choice c k h =
    ap₂
    (λ (t : Option ℕ) (x : Choice). codes " touched " ++ some_window_word t ++ codes " row " ++ row_word x.row ++ codes " chosen " ++ some_window_word x.window)
    h.touched_is h.choice_is

same_sets : (c : Causes) (k : Down) → AreCauses c k → sets_words (down_with c) ≡ sets_words k
same_sets c k h =
    rw (
      same_windows _ k.spies h.spies_are,
      same_windows _ k.pilfering h.pilfering_are,
      same_windows _ k.given h.given_are,
      same_windows _ k.mute h.mute_are,
      same_windows _ k.outside h.outside_are,
    )
    refl

same_blocked : (c : Causes) (k : Down) → AreCauses c k → blocked_words (down_with c).blocked (down_with c).blockers (down_with c).walled ≡ blocked_words k.blocked k.blockers k.walled
same_blocked c k h =
    ap₂ (λ (f : ℕ → ℕ → Bool) (g : ℕ → Bool). blocked_words (down_with c).blocked f g) h.blockers_are h.walled_are
    ∙ ap (λ cs. flat_map (blocked_word k.blockers k.walled) cs) (same_channels _ k.blocked h.blocked_are)

pub words_law : WordsLaw
words_law d p c k h =
    ap₂ (λ xs ys. codes "down " ++ pointer_words d p ++ xs ++ ys ++ blocked_words (down_with c).blocked (down_with c).blockers (down_with c).walled) (same_choice c k h)
    (same_sets c k h)
    ∙ ap (λ ys. codes "down " ++ pointer_words d p ++ choice_words k ++ sets_words k ++ ys) (same_blocked c k h)
