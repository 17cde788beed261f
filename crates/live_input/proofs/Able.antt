-- A channel of which every message is finished can be given input.
use Rattle.std.proofs.Common.{◌≡◌, ℕ, ◌==◌, ◌&&◌, ◌||◌, Bool, true, false, not, cond, List, [], ◌∷◌, ◌++◌, map, refl, sym, ap, ap₂, ◌∙◌, subst, inl, inr, arith}
use Rattle.std.specs.Prelude.{slice_get}
use Rattle.std.specs.List.{list_any}
use Rattle.std.proofs.lemmas.Bool.{true≢false, and_from, cases_Bool}
use Rattle.dispatcher.specs.InputChannel.State.{ChannelState}
use Rattle.input_types.specs.declared.message.Body.{Body}
use Rattle.input_types.specs.declared.message.Message.{Message}
use Rattle.dispatch_calls.specs.declared.call.Call.{Call}
use Rattle.dispatch_calls.specs.declared.call.Call.TheVariants.{Open, Tick, Receive, Finish}
use Rattle.dispatch_calls.specs.declared.reply.Reply.{Reply}
use Rattle.dispatch_calls.specs.declared.reply.Reply.TheVariants.{Opened, Got, Done}
use Rattle.dispatch_history.specs.Delivery.{able, has_late, is_finish_of, is_late, is_reported_by, unfinished, unresponsive}
use Rattle.dispatch_history.specs.Effect.{Effect, past_of}
use Rattle.dispatch_history.specs.Effects.{effect_of, step, said_at}
use Rattle.dispatch_history.specs.History.{clock, live}
use Rattle.dispatch_history.specs.Queue.{args_of, inbound}
use Rattle.dispatch_history.proofs.AbleLaws.{unresponsive_step}
use Rattle.dispatcher.specs.DispatchTables.Channel.{Opens, Receives, Finishes, Untouched, part_of, with_part, channel_at, enqueued_all}
use Rattle.dispatcher.specs.DispatchTables.Lawful.{Lawful}
use Rattle.dispatcher.proofs.DispatchTables.Channels.{channel_step}
use Rattle.dispatcher.proofs.DispatchTables.Lawfuls.{lawful_always, lawful_last}
use Rattle.live_input.proofs.Reported.{tick_mask}

-- only a finish takes from the unfinished messages
part_leaves : (call : Call) (answer : Reply) (c : ℕ) (s : ChannelState) → is_finish_of call answer c ≡ false
    → (with_part (part_of call answer c) s).unfinished ≡ s.unfinished
part_leaves (Finish now k seq) Done c s e = ap (λ b. (with_part (cond b (Finishes seq) Untouched) s).unfinished) e
part_leaves (Open terms) (Opened k) c s e = by_channel (c == k)
  where
    by_channel : (b : Bool) → (with_part (cond b (Opens terms) Untouched) s).unfinished ≡ s.unfinished
    by_channel true = refl
    by_channel false = refl
part_leaves (Receive k) (Got m) c s e = by_channel (c == k)
  where
    by_channel : (b : Bool) → (with_part (cond b Receives Untouched) s).unfinished ≡ s.unfinished
    by_channel true = refl
    by_channel false = refl
part_leaves call answer c s e = refl

sending_leaves : (bs : List Body) (now : ℕ) (s : ChannelState) → (enqueued_all bs now s).unfinished ≡ s.unfinished
sending_leaves [] now s = refl
sending_leaves (b ∷ bs) now s = sending_leaves bs now _

front_none : {X : Type 0} (xs ys : List X) → xs ++ ys ≡ [] → xs ≡ []
front_none [] ys e = refl
front_none (x ∷ xs) ys e = absurd cc

none_mapped : {X Y : Type 0} (f : X → Y) (xs : List X) → map f xs ≡ [] → xs ≡ []
none_mapped f [] e = refl
none_mapped f (x ∷ xs) e = absurd cc

none_before : (ds : List ℕ) (call : Call) (answer : Reply) (es : List Effect) (c : ℕ) → Lawful ds (step ds call answer es)
    → is_finish_of call answer c ≡ false → unfinished (step ds call answer es) c ≡ [] → unfinished es c ≡ []
none_before ds call answer es c l other none =
    let bs = said_at ds call answer es c in
    let now = clock (past_of (step ds call answer es)) in
    let s = channel_at es c 0 0 in
    let stepped = ap (λ (x : ChannelState). x.unfinished) (channel_step ds call answer es c 0 0 l (omega arith)) in
    let before = sending_leaves bs now (with_part (part_of call answer c) s) ∙ part_leaves call answer c s other in
    none_mapped _ (unfinished es c) (sym before ∙ front_none _ _ (sym stepped ∙ ap (map _) none))

-- a step that reports a channel leaves its late message
not_reported : (ds : List ℕ) (call : Call) (answer : Reply) (es : List Effect) (c : ℕ) → Lawful ds (step ds call answer es)
    → is_finish_of call answer c ≡ false → unfinished (step ds call answer es) c ≡ [] → is_reported_by call answer c ≡ false
not_reported ds call answer es c l other none =
    let last = lawful_last ds call answer es l in
    elim (cases_Bool (is_reported_by call answer c)) [
      | inl is ↦
          absurd
          (tick_mask ds es last.1 call c
          (subst (λ a. is_reported_by call a c ≡ true) last.0 is)
          (ap (λ (us : List Message). slice_get us 0) (none_before ds call answer es c l other none)))
      | inr not ↦ not
    ]

no_finish_named : (call : Call) (answer : Reply) (c : ℕ) → is_finish_of call answer c ≡ true → is_reported_by call answer c ≡ false
no_finish_named (Tick now) answer c e = absurd (true≢false (sym e))
no_finish_named call answer c e = refl

AllFinished : ℕ → List Effect → Type 0
AllFinished c es = unfinished es c ≡ [] → unresponsive es c ≡ false

and_false : (b : Bool) → (b && false) ≡ false
and_false true = refl
and_false false = refl

-- a step after which nothing is unfinished leaves the channel responsive
by_finish : (ds : List ℕ) (call : Call) (answer : Reply) (es : List Effect) (c : ℕ) → Lawful ds (step ds call answer es)
    → (unfinished es c ≡ [] → unresponsive es c ≡ false) → unfinished (step ds call answer es) c ≡ []
    → (b : Bool) → is_finish_of call answer c ≡ b
    → (is_reported_by call answer c || unresponsive es c && not (b && not (has_late (step ds call answer es) c))) ≡ false
by_finish ds call answer es c l before none true is =
    let late : has_late (step ds call answer es) c ≡ false =
    ap (λ us. list_any (is_late (step ds call answer es) c (clock (past_of (step ds call answer es)))) us) none in
    ap₂ (λ n t. n || unresponsive es c && not (not t)) (no_finish_named call answer c is) late ∙ and_false (unresponsive es c)
by_finish ds call answer es c l before none false is =
    ap₂ (λ n u. n || u && true) (not_reported ds call answer es c l is none) (before (none_before ds call answer es c l is none))

finished_step : (ds : List ℕ) (c : ℕ) (call : Call) (answer : Reply) (es : List Effect) → Lawful ds (step ds call answer es) → AllFinished c es
    → AllFinished c (step ds call answer es)
unfolding AllFinished
finished_step ds c call answer es l before none =
    unresponsive_step (effect_of ds call answer (args_of call answer (inbound (past_of es))) es) es c ∙ by_finish ds call answer es c l before none (is_finish_of call answer c) refl

none_unresponsive : (ds : List ℕ) (c : ℕ) (es : List Effect) → Lawful ds es → unfinished es c ≡ [] → unresponsive es c ≡ false
unfolding AllFinished
none_unresponsive ds c es l = lawful_always ds (AllFinished c) (λ e. refl) (finished_step ds c) es l

pub done_able : (ds : List ℕ) (es : List Effect) (c : ℕ) → Lawful ds es → live (past_of es) c ≡ true → unfinished es c ≡ [] → able es c ≡ true
done_able ds es c l lives none = and_from (live (past_of es) c) (not (unresponsive es c)) lives (ap not (none_unresponsive ds c es l none))
