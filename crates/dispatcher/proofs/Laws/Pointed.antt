-- The pointers that a window was sent, after any step.
use Rattle.std.proofs.Common.{◌≡◌, ℕ, Bool, true, false, not, List, [], ◌∷◌, refl, sym, ap, ◌∙◌, subst}
use Rattle.std.proofs.lemmas.Bool.{true≢false, and_parts}
use Rattle.input_types.specs.declared.pointer.Pointer.{Pointer}
use Rattle.dispatch_calls.specs.declared.call.Call.{Call}
use Rattle.dispatch_calls.specs.declared.reply.Reply.{Reply}
use Rattle.routing_rules.specs.Outgoing.{listing, outgoing, after}
use Rattle.routing_rules.specs.Fits.{Fits, last_then}
use Rattle.dispatcher.specs.CancelSynthesis.Laws.{pointers_sent}
use Rattle.dispatcher.proofs.CancelSynthesis.Tracking.{tracks_law}
use Rattle.dispatch_history.specs.History.{live, snapshot}
use Rattle.dispatch_history.specs.Queue.{inbound, args_of}
use Rattle.dispatch_history.specs.Effect.{Effect, past_of, last, down_ids}
use Rattle.dispatch_history.specs.Effects.{step}
use Rattle.dispatch_history.specs.Delivery.{able, unresponsive}
use Rattle.dispatch_history.specs.Step.{marks, scene}
use Rattle.dispatch_history.proofs.FitLaws.{held_then, fit_law, StepFacts, step_facts}
use Rattle.dispatch_history.proofs.HolderLaws.{holder_law}
use Rattle.dispatch_history.proofs.MotionLaws.{removes_other}
use Rattle.dispatcher.specs.DispatchTables.Lawful.{Lawful}
use Rattle.dispatcher.proofs.DispatchTables.Lawfuls.{lawful_last}
use Rattle.dispatcher.specs.Pointing.{step_at, mark_at}
use Rattle.dispatcher.specs.Laws.{PointersLaw, PointersFirst}

-- what is held after a step
holds_next : (ds : List ℕ) (call : Call) (answer : Reply) (es : List Effect) (w d : ℕ)
    → after (scene ds es) (mark_at ds call answer es) w d ≡ (scene ds (step ds call answer es)).holds w d
holds_next ds call answer es w d p i = sym (held_then (mark_at ds call answer es) (marks es) w d i) p

pub pointers_law : PointersLaw
pointers_law ds call answer es w old new l rise lives are goes d low high =
    let before : Lawful ds es = (lawful_last ds call answer es l).1 in
    let fits : Fits (scene ds es) d (down_ids es d) =
    subst (λ xs. Fits (scene ds xs) d (down_ids xs d)) before.whole (fit_law ds (past_of es) d before.legal rise.1) in
    let facts : StepFacts ds call answer (args_of call answer (inbound (past_of es))) es d (down_ids (step ds call answer es) d) =
    subst (λ xs. StepFacts ds call answer (args_of call answer (inbound (past_of xs))) xs d (down_ids (step ds call answer xs) d)) before.whole
    (step_facts ds call answer (past_of es) d l.legal rise) in
    goes d low high
    ∙ ap (pointers_sent (outgoing (scene ds es) (step_at call answer es) w d)) (are d low high)
    ∙ tracks_law (scene ds es) (step_at call answer es) w d (down_ids es d) (down_ids (step ds call answer es) d) fits facts.rises
    (removes_other (snapshot (past_of es)) call answer (args_of call answer (inbound (past_of es))) w (live (past_of es) w) lives) facts.down
    ∙ ap (λ set. listing set (last_then (step_at call answer es) d (last es d))) (holds_next ds call answer es w d)
    ∙ ap (listing ((scene ds (step ds call answer es)).holds w d)) (sym facts.last_is)

-- nothing is listed of what nobody holds
none_listed : (set : ℕ → Bool) (ps : List Pointer) → ((i : ℕ) → set i ≡ false) → listing set ps ≡ []
none_listed set [] h = refl
none_listed set (p ∷ ps) h = rw (h p.id) (none_listed set ps h)

not_held : (b alive : Bool) → (b ≡ true → alive ≡ true) → alive ≡ false → b ≡ false
not_held false alive h n = refl
not_held true alive h n = absurd (true≢false (sym (h refl) ∙ n))

holds_none : (ds : List ℕ) (es : List Effect) (w d i : ℕ) → Lawful ds es → live (past_of es) w ≡ false → (scene ds es).holds w d i ≡ false
holds_none ds es w d i l n =
    let shown : (scene ds es).holds w d i ≡ true → able es w ≡ true =
    subst (λ xs. (scene ds xs).holds w d i ≡ true → able xs w ≡ true) l.whole (λ y. (holder_law ds (past_of es) w d i y).0) in
    not_held ((scene ds es).holds w d i) (live (past_of es) w) (λ y. (and_parts (live (past_of es) w) (not (unresponsive es w)) (shown y)).0) n

pub pointers_first : PointersFirst
pointers_first ds es w input l n unsent d low high =
    unsent d ∙ sym (none_listed ((scene ds es).holds w d) (last es d) (λ i. holds_none ds es w d i l n))
