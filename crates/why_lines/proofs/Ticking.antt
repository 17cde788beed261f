-- A tick: who is reported, and what that window loses.
use Rattle.std.proofs.Common.{◌≡◌, ℕ, suc, ◌+◌, max, Bool, true, false, not, cond, ◌&&◌, ◌||◌, List, [], ◌∷◌, map, filter, is_some, Option, Some, None, refl, sym, ap, ◌∙◌}
use Rattle.std.specs.Prelude.{option_map}
use Rattle.std.specs.Fmt.{decimal}
use Rattle.std.proofs.Math.Path.{fun_ext}
use Rattle.std.proofs.lemmas.Bool.{and_parts, true≢false}
use Rattle.std.proofs.lemmas.List.{map-append}
use Rattle.std.proofs.lemmas.List.Elements.{filter-append}
use Rattle.input_types.specs.declared.message.Message.{Message}
use Rattle.dispatch_calls.specs.declared.call.Call.TheVariants.{Tick}
use Rattle.dispatch_calls.specs.declared.reply.Reply.{Reply}
use Rattle.dispatch_history.specs.Delivery.{able, delivery, finishes, has_late, is_reported_by, reports, oldest, unresponsive}
use Rattle.dispatch_history.specs.Effect.{Effect, past_of}
use Rattle.dispatch_history.specs.Effects.{channels, effect_of, step}
use Rattle.dispatch_history.specs.History.{clock, limit_of, live}
use Rattle.dispatch_history.specs.Queue.{args_of, inbound}
use Rattle.dispatch_history.specs.Reply.{is_due, reply_to}
use Rattle.dispatch_history.proofs.AbleLaws.{unresponsive_step}
use Rattle.dispatcher.specs.DispatchTables.Dues.{due_moment}
use Rattle.dispatcher.specs.DispatchTables.Lawful.{Lawful}
use Rattle.dispatcher.proofs.DispatchTables.Duties.{named_law}
use Rattle.dispatcher.proofs.DispatchTables.Lawfuls.{lawful_last}
use Rattle.dispatcher.specs.Access.{is_opened, oldest_delivery}
use Rattle.why_text.specs.Lines.{call_words, seq_word, timeout_words}
use Rattle.why_text.specs.Words.{channels_that}
use Rattle.why_lines.specs.Growing.{with_lines}
use Rattle.why_lines.specs.Losing.{LosesAll}
use Rattle.why_lines.proofs.AllLost.{loses_all}
use Rattle.why_lines.proofs.Growing.{more_lines}
use Rattle.why_lines.proofs.Keyed.{and_false}
use Rattle.why_lines.proofs.Targets.{lives_opened}

due_parts : {T : Type 0} (b : Bool) (o : Option T) (f : T → ℕ) (at : ℕ) → is_due (cond b (option_map f o) None) at ≡ true
    → (b ≡ true) × (is_some o ≡ true)
due_parts true (Some m) f at e = (refl, refl)
due_parts true None f at e = absurd (true≢false (sym e))
due_parts false o f at e = absurd (true≢false (sym e))

-- a channel that is due is able, and has an oldest message
due_is : (es : List Effect) (c at : ℕ) → is_due (due_moment es c) at ≡ true → (able es c ≡ true) × (is_some (oldest es c) ≡ true)
due_is es c at e = due_parts (able es c) (oldest es c) (λ m. delivery es c m.seq + limit_of (past_of es) c) at e

-- it was opened
pub due_opened : (ds : List ℕ) (es : List Effect) (c at : ℕ) → Lawful ds es → is_due (due_moment es c) at ≡ true → is_opened es c ≡ true
due_opened ds es c at l e = lives_opened ds es c l (and_parts (live (past_of es) c) (not (unresponsive es c)) (due_is es c at e).0).0

-- the number of its oldest message
pub seq_is : (es : List Effect) (c : ℕ) (p : ℕ × ℕ) → oldest_delivery es c ≡ Some p → decimal p.0 ≡ seq_word (oldest es c)
seq_is es c p e = by_oldest (oldest es c) refl
  where
    number : Option (ℕ × ℕ) → ℕ
    number None = p.0
    number (Some q) = q.0

    by_oldest : (o : Option Message) → oldest es c ≡ o → decimal p.0 ≡ seq_word o
    by_oldest None q =
        let here : oldest_delivery es c ≡ None = rw q refl in
        let clash : None ≡ Some p = sym here ∙ e in
        absurd (cc clash)
    by_oldest (Some m) q =
        let here : oldest_delivery es c ≡ Some (m.seq, delivery es c m.seq) = rw q refl in
        ap decimal (ap number (sym e ∙ here))

-- one without such a message is not due
pub none_due : (es : List Effect) (c at : ℕ) → oldest_delivery es c ≡ None → is_due (due_moment es c) at ≡ true → ⊥
none_due es c at none e = by_oldest (oldest es c) refl (due_is es c at e).1
  where
    by_oldest : (o : Option Message) → oldest es c ≡ o → is_some o ≡ true → ⊥
    by_oldest None q f = true≢false (sym f)
    by_oldest (Some m) q f =
        let here : oldest_delivery es c ≡ Some (m.seq, delivery es c m.seq) = rw q refl in
        let clash : Some (m.seq, delivery es c m.seq) ≡ None = sym here ∙ none in
        cc clash

-- a channel that a tick reports loses everything
pub named_loses : (ds : List ℕ) (es : List Effect) (now w : ℕ) (answer : Reply) → Lawful ds (step ds (Tick now) answer es)
    → is_due (due_moment es w) (max now (clock (past_of es))) ≡ true
    → LosesAll (effect_of ds (Tick now) answer (args_of (Tick now) answer (inbound (past_of es))) es) es w
named_loses ds es now w answer l due =
    let x = effect_of ds (Tick now) answer (args_of (Tick now) answer (inbound (past_of es))) es in
    let last = lawful_last ds (Tick now) answer es l in
    let is_named : reports x.past w ≡ true = ap (λ r. is_reported_by (Tick now) r w) last.0 ∙ (named_law ds es now last.1).1 w ∙ due in
    loses_all ds x es w l
    (ap (λ b. live x.past w && not b)
    (unresponsive_step x es w ∙ ap (λ b. b || (unresponsive es w && not (finishes x.past w && not (has_late (x ∷ es) w)))) is_named)
    ∙ and_false (live x.past w))

-- the lines of a tick are those of the channels that are due
pub named_words : (ds : List ℕ) (es : List Effect) (now : ℕ) (x : Effect) (answer : Reply) → Lawful ds es → answer ≡ reply_to es (Tick now)
    → map (timeout_words x es) (channels_that (λ w. is_due (due_moment es w) (max now (clock (past_of es))))) ≡ call_words ds (Tick now) answer x es
named_words ds es now x answer l a =
    ap (λ (p : ℕ → Bool). map (timeout_words x es) (channels_that p)) (sym (fun_ext (λ w. (named_law ds es now l).1 w)))
    ∙ ap (λ r. call_words ds (Tick now) r x es) (sym a)

-- a text with the lines of the first channels that pass a test
abbrev pub grown_to : ℕ → (ℕ → List ℕ) → (ℕ → Bool) → ℕ → List ℕ → List ℕ
grown_to t words test n text = with_lines t (map words (filter test (channels n))) text

-- one channel more
pub one_channel : (t : ℕ) (words : ℕ → List ℕ) (test : ℕ → Bool) (n m : ℕ) (start old new : List ℕ) → m ≡ suc n → old ≡ grown_to t words test n start
    → new ≡ with_lines t (map words (cond (test m) (m ∷ []) [])) old → new ≡ grown_to t words test m start
one_channel t words test n m start old new next before added =
    let here = cond (test (suc n)) (suc n ∷ []) [] in
    added
    ∙ ap (λ k. with_lines t (map words (cond (test k) (k ∷ []) [])) old) next
    ∙ ap (with_lines t (map words here)) before
    ∙ more_lines t (map words (filter test (channels n))) (map words here) start
    ∙ ap (λ ws. with_lines t ws start)
    (sym (map-append words (filter test (channels n)) here) ∙ ap (map words) (sym (filter-append test (channels n) (suc n ∷ []))))
    ∙ ap (λ k. grown_to t words test k start) (sym next)

-- those of all channels
pub all_channels : (t : ℕ) (words : ℕ → List ℕ) (test : ℕ → Bool) (n : ℕ) (start text : List ℕ) → n ≡ 64 → text ≡ grown_to t words test n start
    → text ≡ with_lines t (map words (channels_that test)) start
unfolding channels_that
all_channels t words test n start text all e = e ∙ ap (λ k. grown_to t words test k start) all
