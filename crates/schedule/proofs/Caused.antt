-- The causes of a run with one step more.
use Rattle.std.proofs.Common.{◌≡◌, ℕ, List, ◌++◌, Option, Some, refl, sym, ap, ◌∙◌, append-nil, None, is_some, false}
use Rattle.std.specs.Prelude.{option_map}
use Rattle.dispatch_calls.specs.declared.call.Call.{Call}
use Rattle.dispatch_calls.specs.declared.call.Call.TheVariants.{Receive}
use Rattle.dispatch_calls.specs.declared.reply.Reply.{Reply}
use Rattle.dispatch_history.specs.Effect.{Effect, past_of}
use Rattle.dispatch_history.specs.Effects.{effect_of, step}
use Rattle.dispatch_history.specs.Queue.{args_of, inbound}
use Rattle.why_text.specs.Text.{why_text}
use Rattle.why_text.proofs.NoOpLaws.{silent_law}
use Rattle.schedule.specs.declared.keeping.Lines.{Lines}
use Rattle.schedule.specs.declared.keeping.Lines.TheVariants.{Kept, Counted, Causes}
use Rattle.dispatcher.specs.Dispatching.{Dispatching, IsAfter}
use Rattle.why_lines.specs.Explaining.{ExplainsAfter}
use Rattle.schedule.specs.Causes.{Applies, and_more, causes_of, sent_of}

-- those of the step come behind those before
pub causes_next : (how : Lines) (ds : List ℕ) (call : Call) (answer : Reply) (es : List Effect) (old new : Option (List ℕ)) → old ≡ causes_of how ds es
    → new ≡ and_more (sent_of ds call answer es) old → new ≡ causes_of how ds (step ds call answer es)
causes_next how ds call answer es old new before more = more ∙ ap (and_more (sent_of ds call answer es)) before ∙ by_way how
  where
    by_way : (h : Lines) → and_more (sent_of ds call answer es) (causes_of h ds es) ≡ causes_of h ds (step ds call answer es)
    by_way Kept = refl
    by_way Counted = refl
    by_way Causes = refl

-- a receive has none
pub causes_stay : (how : Lines) (ds : List ℕ) (c : ℕ) (answer : Reply) (es : List Effect) → causes_of how ds es ≡ causes_of how ds (step ds (Receive c) answer es)
causes_stay Kept ds c answer es = refl
causes_stay Counted ds c answer es = refl
causes_stay Causes ds c answer es =
    let x = effect_of ds (Receive c) answer (args_of (Receive c) answer (inbound (past_of es))) es in
    ap Some (sym (append-nil (why_text ds es)) ∙ ap (λ more. why_text ds es ++ more) (sym (silent_law ds x es (Receive c) answer refl refl)))

-- a call whose causes are written
pub applies_sent : (call : Call) (es : List Effect) (ds old new : List ℕ) (d : Dispatching) → ExplainsAfter call es ds old new d → Applies call es ds (Some old) (Some new) d
applies_sent call es ds old new d t = record { answer = t.answer; stands = t.stands; causes = ap (λ text. Some text) t.text_is }

-- a call of a run that writes no causes
pub applies_alone : (call : Call) (es : List Effect) (ds : List ℕ) (d : Dispatching) → (answer : Reply) × IsAfter (step ds call answer es) d
    → Applies call es ds None None d
applies_alone call es ds d there = record { answer = there.0; stands = there.1; causes = refl }

-- the same, where there is no text
pub applies_silent : {X : Type 0} (call : Call) (es : List Effect) (ds : List ℕ) (o : Option X) (f : X → List ℕ) (d : Dispatching) → is_some o ≡ false
    → (answer : Reply) × IsAfter (step ds call answer es) d → Applies call es ds (option_map f o) (option_map f o) d
applies_silent call es ds None f d none there = applies_alone call es ds d there
applies_silent call es ds (Some x) f d none there = absurd (cc none)
