-- Where there is no hint, something is cooked.
use Rattle.std.proofs.Common.{◌≡◌, ℕ, ◌<◌, Bool, true, false, cond, List, [], ◌∷◌, length, Option, Some, None, refl, subst, arith}
use Rattle.std.specs.Prelude.{codes, nat_eq}
use Rattle.std.specs.Option.{option_or}
use Rattle.input_types.specs.declared.message.Args.{Args}
use Rattle.device_reader.specs.Cooked.{Keys, device_args}
use Rattle.recording_counts.specs.declared.events.EventCounts.{EventCounts}
use Rattle.recording_counts.specs.Events.{event_counts, is_keys_used}
use Rattle.recording_counts.specs.KeyTally.{key_counts}
use Rattle.inspect_text.specs.Hints.{keys_word, scans_down, still_down}
use Rattle.inspect_text.specs.Laws.{KeysHintLaw}

some_word : (c : EventCounts) (o : Option (List ℕ)) → option_or (keys_word c (key_counts [])) o ≡ None → ⊥
some_word c o e = by_test (nat_eq c.events 0) e
  where
    by_test : (b : Bool) → option_or (cond b (Some (codes "silent")) (Some (codes "no keys"))) o ≡ None → ⊥
    by_test true f = absurd (cc)
    by_test false f = absurd (cc)

pub keys_hint_law : KeysHintLaw
keys_hint_law plan es none = by_args (device_args (Keys plan) es) refl
  where
    by_args : (xs : List Args) → device_args (Keys plan) es ≡ xs → 0 < length xs
    by_args [] e =
        absurd (some_word (event_counts is_keys_used es) (still_down (scans_down es))
        (subst (λ (ys : List Args). option_or (keys_word (event_counts is_keys_used es) (key_counts ys)) (still_down (scans_down es)) ≡ None) e none))
    by_args (x ∷ xs) e = omega arith
