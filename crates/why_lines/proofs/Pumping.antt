-- The causes of a pump, by what waits.
use Rattle.std.proofs.Common.{◌≡◌, ◌+◌, ℕ, max, Bool, true, false, cond, List, [], ◌∷◌, slice_get, is_some, Option, Some, None, refl, sym, ap, ◌∙◌}
use Rattle.std.specs.List.{list_any}
use Rattle.std.proofs.lemmas.Bool.{true≢false}
use Rattle.input_types.specs.declared.key.KeyMsg.{KeyMsg}
use Rattle.input_types.specs.declared.message.Args.{Args}
use Rattle.key_repeat.specs.Due.{Sent, delay_after, due_after, due_by, is_repeated, next_of, repeated}
use Rattle.key_repeat.specs.declared.delays.Repeats.{Repeats}
use Rattle.dispatch_calls.specs.declared.call.Call.TheVariants.{Pump}
use Rattle.dispatch_calls.specs.declared.reply.Reply.TheVariants.{Dispatched, Repeated, Idle}
use Rattle.dispatch_history.specs.Effect.{Effect, past_of}
use Rattle.dispatch_history.specs.Effects.{effect_of}
use Rattle.dispatch_history.specs.History.{clock, repeats_of}
use Rattle.dispatch_history.specs.Keys.{keys, same_key}
use Rattle.dispatch_history.specs.KeySent.{last_key, repeat_due, while_held}
use Rattle.dispatch_history.specs.Queue.{args_of, inbound}
use Rattle.dispatch_history.specs.Reply.{is_due, pump_reply}
use Rattle.dispatcher.specs.Access.{any_waits, is_waiting}
use Rattle.why_text.specs.Lines.{args_words, call_words, repeat_word, repeat_words}
use Rattle.why_lines.specs.Pumping.{pump_words}
use Rattle.why_lines.proofs.Coming.{dispatches}

pub pump_first : (ds : List ℕ) (es : List Effect) (now : ℕ) (a : Args) → slice_get (inbound (past_of es)) 0 ≡ Some a
    → pump_words ds now es ≡ args_words ds (Some a) (effect_of ds (Pump now) Dispatched (Some a) es) es
pump_first ds es now a e =
    ap (λ r. call_words ds (Pump now) r (effect_of ds (Pump now) r (args_of (Pump now) r (inbound (past_of es))) es) es) (dispatches es now a e)
    ∙ ap (λ o. args_words ds o (effect_of ds (Pump now) Dispatched o es) es) e

no_args : (waiting : List Args) → slice_get waiting 0 ≡ None → waiting ≡ []
no_args [] e = refl
no_args (a ∷ waiting) e = absurd (cc e)

pub pump_none : (ds : List ℕ) (es : List Effect) (now : ℕ) → slice_get (inbound (past_of es)) 0 ≡ None
    → pump_words ds now es ≡ cond (is_due (repeat_due es) (max now (clock (past_of es)))) (repeat_words (last_key es)) []
pump_none ds es now e =
    ap (λ r. call_words ds (Pump now) r (effect_of ds (Pump now) r (args_of (Pump now) r (inbound (past_of es))) es) es)
    (ap (λ waiting. pump_reply waiting (repeat_due es) (max now (clock (past_of es)))) (no_args (inbound (past_of es)) e))
    ∙ by_due (is_due (repeat_due es) (max now (clock (past_of es))))
  where
    by_due : (b : Bool)
        → (let r = cond b Repeated Idle in call_words ds (Pump now) r (effect_of ds (Pump now) r (args_of (Pump now) r (inbound (past_of es))) es) es)
        ≡ cond b (repeat_words (last_key es)) []
    by_due true = refl
    by_due false = refl

-- the line of a repeat for a window
abbrev pub next_words : Option (ℕ × KeyMsg) → List (List ℕ)
next_words None = []
next_words (Some n) = repeat_word n.1 n.0 ∷ []

-- if a repeat is due, its line is that of the repeat that is made
pub next_sent : (es : List Effect) → is_some (repeat_due es) ≡ true → repeat_words (last_key es) ≡ next_words (next_of (while_held es (last_key es)))
next_sent es e = by_last (last_key es) e
  where
    by_repeat : (delays : Option Repeats) (s : Sent) (b : Bool) → is_repeated s.key ≡ b → is_some (due_after delays s) ≡ true
        → repeat_words (Some s) ≡ next_words (cond b (Some (s.channel, repeated s.key)) None)
    by_repeat delays s true q e = refl
    by_repeat None s false q e = absurd (true≢false (sym e))
    by_repeat (Some delays) s false q e =
        absurd (true≢false (sym e ∙ ap (λ b. is_some (cond b (Some (s.clock + delay_after delays s.key.repeat)) None)) q))

    by_held : (s : Sent) (b : Bool) → is_some (due_by (repeats_of (past_of es)) (cond b (Some s) None)) ≡ true
        → repeat_words (Some s) ≡ next_words (next_of (cond b (Some s) None))
    by_held s true e = by_repeat (repeats_of (past_of es) s.channel) s (is_repeated s.key) refl e
    by_held s false e = absurd (true≢false (sym e))

    by_last : (o : Option Sent) → is_some (due_by (repeats_of (past_of es)) (while_held es o)) ≡ true → repeat_words o ≡ next_words (next_of (while_held es o))
    by_last None e = absurd (true≢false (sym e))
    by_last (Some s) e = by_held s (list_any (same_key s.key.key) (keys es s.channel)) e

-- where nothing waits, nothing is to be dispatched
pub none_waits : (es : List Effect) → slice_get (inbound (past_of es)) 0 ≡ None → is_waiting es ≡ false
none_waits es e = ap any_waits (no_args (inbound (past_of es)) e)

-- what is due is there
pub due_some : (o : Option ℕ) (now : ℕ) → is_due o now ≡ true → is_some o ≡ true
due_some None now e = absurd (true≢false (sym e))
due_some (Some at) now e = refl
