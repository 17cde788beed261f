-- Steps that send nobody anything.
use Rattle.std.proofs.Common.{◌≡◌, ◌≤◌, ℕ, ◌&&◌, ◌||◌, not, Bool, true, false, cond, List, [], ◌∷◌, ◌++◌, filter, filter_map, None, refl, sym, ap, ◌∙◌, subst}
use Rattle.std.proofs.Math.Path.{fun_ext}
use Rattle.std.proofs.lemmas.Bool.{true≢false, and_parts}
use Rattle.std.proofs.lemmas.List.{append-nil}
use Rattle.input_types.specs.declared.axis.Pixel.{Pixel}
use Rattle.input_types.specs.declared.message.Args.{Args}
use Rattle.window_snapshot.specs.declared.window.Window.{Window}
use Rattle.window_snapshot.specs.Mask.{mask_has}
use Rattle.window_snapshot.proofs.Masks.{mask_has-zero}
use Rattle.routing_rules.specs.Marks.{Mark as RuleMark, held, pilfering}
use Rattle.routing_rules.specs.Pairs.{has_any}
use Rattle.routing_rules.specs.Given.{given}
use Rattle.routing_rules.specs.Scene.{NoOp}
use Rattle.routing_rules.specs.Taking.{pilfers}
use Rattle.touch_state.specs.Touches.{Touches, none}
use Rattle.pilfer_monitor.proofs.Takes.{unchanged}
use Rattle.route_split.specs.Following.{Follows}
use Rattle.route_split.specs.Tables.{table_of}
use Rattle.route_split.specs.declared.mark.Mark.TheVariants.{NoOp as NoOpMark, Mute}
use Rattle.route_split.specs.Marking.{IsStepOf, IsMark}
use Rattle.route_split.proofs.Steps.{other_law}
use Rattle.dispatch_calls.specs.declared.call.Call.{Call}
use Rattle.dispatch_calls.specs.declared.call.Call.TheVariants.{Open, Notify, Pump, Tick, Receive, Finish, Pilfer, Remove}
use Rattle.dispatch_calls.specs.declared.reply.Reply.{Reply}
use Rattle.dispatch_calls.specs.declared.reply.Reply.TheVariants.{Full, Done, Idle, Named, Got, Gone}
use Rattle.dispatch_history.specs.History.{History, clock, live, opened, live_after, windows_after, origin_after, snapshot}
use Rattle.dispatch_history.specs.Queue.{inbound, args_of}
use Rattle.dispatch_history.specs.Effect.{Effect, past_of}
use Rattle.dispatch_history.specs.Effects.{step, said_at, channels}
use Rattle.dispatch_history.specs.Delivery.{able}
use Rattle.dispatch_history.specs.Due.{anrs}
use Rattle.dispatch_history.specs.Focus.{key_target}
use Rattle.dispatch_history.specs.Step.{marks, scene, step_of}
use Rattle.dispatch_history.specs.PointerOf.{RisesIn}
use Rattle.dispatch_history.specs.Reply.{reply_to}
use Rattle.dispatcher.specs.KeyTables.Focused.{FocusIs, MasksAre, is_request}
use Rattle.dispatcher.proofs.KeyTables.Focusing.{focus_shown}
use Rattle.dispatcher.specs.DispatchTables.Lawful.{Lawful}
use Rattle.dispatcher.specs.DispatchTables.Silent.{is_silent, is_no_op}
use Rattle.dispatcher.specs.DispatchTables.Delivery.{Delivery, DeliveryIs, NotedIs}
use Rattle.dispatcher.specs.DispatchTables.Dues.{anr_in}
use Rattle.dispatcher.proofs.DispatchTables.Ables.{able_law}
use Rattle.dispatcher.proofs.DispatchTables.Duties.{anrs_law}
use Rattle.dispatcher.proofs.DispatchTables.Keeping.{kept_quiet}
use Rattle.dispatcher.proofs.DispatchTables.Lawfuls.{lawful_step}
use Rattle.dispatcher.proofs.DispatchTables.Silence.{silent_calls}
use Rattle.dispatcher.proofs.DispatchTables.NoOps.{delivery_no_op}
use Rattle.dispatcher.specs.Shown.{Shown, ShownGoes, origin_at}
use Rattle.dispatcher.specs.Pointing.{TouchesGo, step_at, mark_at}
use Rattle.dispatcher.specs.Input.{InputGoes}
use Rattle.dispatcher.specs.Knows.{Kept, KeptStandsFor}
use Rattle.dispatcher.specs.Carrying.{TakesMark}
use Rattle.dispatcher.specs.Staying.{StaysBut}
use Rattle.dispatcher.specs.Laws.{NoOpLaw, TickIdleLaw}
use Rattle.dispatcher.proofs.Laws.ShownLaws.{touches_scene_law}
use Rattle.dispatcher.proofs.Laws.Inputs.{input_quiet, repeat_quiet}
use Rattle.dispatcher.proofs.Laws.Knowing.{stands_next}

-- a step that leaves windows and who is live as they are, requests no focus, and sends nobody anything
pub record Still (call : Call) (answer : Reply) : Type 0 where
  pub windows : (ws : List Window) → windows_after call ws ≡ ws
  pub origins : (w : ℕ) (p : Pixel) → origin_after call w p ≡ p
  pub live : (c : ℕ) (b : Bool) → live_after call answer c b ≡ b
  pub silent : (c : ℕ) → is_silent call answer c ≡ true
  pub request : is_request call ≡ false
  pub masks : (h : History) (masks : List ℕ) → MasksAre masks h → MasksAre masks ((call, answer) ∷ h)

no_op_still : (call : Call) (answer : Reply) → is_no_op call answer ≡ true → Still call answer
no_op_still call (Named mask) e = absurd (true≢false (sym e))
no_op_still (Notify now args) answer e =
    record { windows = λ ws. refl; origins = λ w p. refl; live = λ c b. refl; silent = λ c. refl; request = refl; masks = λ h ms is. is }
no_op_still (Receive channel) (Got m) e = absurd (true≢false (sym e))
no_op_still (Receive channel) answer e =
    record { windows = λ ws. refl; origins = λ w p. refl; live = λ c b. refl; silent = λ c. refl; request = refl; masks = λ h ms is. is }
no_op_still (Finish now channel seq) Done e = absurd (true≢false (sym e))
no_op_still (Finish now channel seq) answer e =
    record { windows = λ ws. refl; origins = λ w p. refl; live = λ c b. refl; silent = λ c. refl; request = refl; masks = λ h ms is. is }
no_op_still (Pilfer now channel device) Done e = absurd (true≢false (sym e))
no_op_still (Pilfer now channel device) answer e =
    record { windows = λ ws. refl; origins = λ w p. refl; live = λ c b. refl; silent = λ c. refl; request = refl; masks = λ h ms is. is }
no_op_still (Pump now) Idle e =
    record { windows = λ ws. refl; origins = λ w p. refl; live = λ c b. refl; silent = λ c. refl; request = refl; masks = λ h ms is. is }
no_op_still (Remove now channel) Gone e =
    record { windows = λ ws. refl; origins = λ w p. refl; live = λ c b. refl; silent = λ c. refl; request = refl; masks = λ h ms is. is }
no_op_still (Open terms) Full e =
    record { windows = λ ws. refl; origins = λ w p. refl; live = λ c b. refl; silent = λ c. refl; request = refl; masks = λ h ms is. is }
no_op_still call answer e = absurd (true≢false (sym e))

-- to the rules of routing such a step is none
no_op_step : (call : Call) (answer : Reply) (ws : List Window) (waiting : List Args) → is_no_op call answer ≡ true
    → step_of ws call answer (args_of call answer waiting) ≡ NoOp
no_op_step call (Named mask) ws waiting e = absurd (true≢false (sym e))
no_op_step (Notify now args) answer ws waiting e = refl
no_op_step (Receive channel) (Got m) ws waiting e = absurd (true≢false (sym e))
no_op_step (Receive channel) answer ws waiting e = refl
no_op_step (Finish now channel seq) Done ws waiting e = absurd (true≢false (sym e))
no_op_step (Finish now channel seq) answer ws waiting e = refl
no_op_step (Pilfer now channel device) Done ws waiting e = absurd (true≢false (sym e))
no_op_step (Pilfer now channel device) answer ws waiting e = refl
no_op_step (Pump now) Idle ws waiting e = refl
no_op_step (Remove now channel) Gone ws waiting e = refl
no_op_step (Open terms) Full ws waiting e = refl
no_op_step call answer ws waiting e = absurd (true≢false (sym e))

pub receive_still : (c : ℕ) (answer : Reply) → Still (Receive c) answer
receive_still c answer =
    record { windows = λ ws. refl; origins = λ w p. refl; live = λ c b. refl; silent = λ c. refl; request = refl; masks = λ h ms is. is }

pub finish_still : (now c seq : ℕ) (answer : Reply) → Still (Finish now c seq) answer
finish_still now c seq answer =
    record { windows = λ ws. refl; origins = λ w p. refl; live = λ c b. refl; silent = λ c. refl; request = refl; masks = λ h ms is. is }

tick_still : (now : ℕ) → Still (Tick now) (Named 0)
tick_still now =
    record { windows = λ ws. refl; origins = λ w p. refl; live = λ c b. refl; silent = λ c. ap not (mask_has-zero c); request = refl; masks = λ h ms is. is }

shown_still : (call : Call) (k later : Shown) → ((ws : List Window) → windows_after call ws ≡ ws)
    → ((w : ℕ) (p : Pixel) → origin_after call w p ≡ p) → later ≡ k → ShownGoes call k later
shown_still call k later windows origins e =
    record {
      windows_are = ap (λ s. s.windows) e ∙ sym (windows k.windows);
      origins_are = λ w low high. ap (λ s. origin_at s.origins w) e ∙ sym (origins w (origin_at k.origins w));
    }

-- a window that is pilfering a device holds a pointer of it
pilfering_holds : (ms : List RuleMark) (w d : ℕ) → pilfering ms w d ≡ true → has_any (held ms) w d ≡ true
pilfering_holds [] w d e = absurd (true≢false (sym e))
pilfering_holds (m ∷ ms) w d e = (and_parts (has_any (held (m ∷ ms)) w d) (pilfers m.taken w d || pilfering ms w d) e).0

-- tables that follow the marks are, as they are, the tables after a no-op
pub no_op_as_is : (ms : List RuleMark) (ts : List Touches) (place : ℕ) → Follows ms ts → TakesMark NoOpMark place ts ts
no_op_as_is ms ts place f d =
    unchanged (table_of ts d) none
    (λ w e. sym (f.any_are w d) ∙ pilfering_holds ms w d (f.pilfering_are w d ∙ e))
    (λ w i h. refl)
    place

-- the tables of touches do not change
pub touches_rest : (ds : List ℕ) (call : Call) (answer : Reply) (es : List Effect) (k later : Kept) → KeptStandsFor ds es k → step_at call answer es ≡ NoOp
    → StaysBut call answer k later → TouchesGo ds call answer es k.queue.place k.touches later.touches
touches_rest ds call answer es k later stands e stays =
    let s = scene ds es in
    record {
      by = NoOpMark;
      is_mark =
          other_law s k.touches NoOpMark (step_at call answer es) (touches_scene_law ds es k.touches stands.knows.touches)
          (subst (IsStepOf NoOpMark) (sym e) tt);
      changes =
          subst (TakesMark NoOpMark k.queue.place k.touches) (sym stays.touches_are)
          (no_op_as_is (marks es) k.touches k.queue.place stands.knows.touches);
    }

-- a step that is none gives nothing
none_given : (ds : List ℕ) (call : Call) (answer : Reply) (es : List Effect) → step_at call answer es ≡ NoOp
    → (w d : ℕ) → has_any (mark_at ds call answer es).given w d ≡ false
none_given ds call answer es e w d = ap (λ x. has_any (given (scene ds es) x) w d) e

-- such a step keeps what stands, where the channels go on
pub still_goes : (ds : List ℕ) (call : Call) (answer : Reply) (es : List Effect) (k later : Kept) → KeptStandsFor ds es k → answer ≡ reply_to es call
    → RisesIn call → Still call answer → TouchesGo ds call answer es k.queue.place k.touches later.touches
    → ((w d : ℕ) → has_any (mark_at ds call answer es).given w d ≡ false) → StaysBut call answer k later
    → DeliveryIs (step ds call answer es) later.delivery
    → KeptStandsFor ds (step ds call answer es) later
still_goes ds call answer es k later stands r rises still touches nothing stays delivery =
    let lawful = lawful_step ds call answer es stands.lawful r in
    let quiet : (w : ℕ) → said_at ds call answer es w ≡ [] = λ w. silent_calls ds call answer es w (still.silent w) in
    let same : (w : ℕ) → live (past_of (step ds call answer es)) w ≡ live (past_of es) w = λ w. still.live w (live (past_of es) w) in
    stands_next ds call answer es k later stands r rises
    (record {
      queue = stays.queue;
      shown = shown_still call k.shown later.shown still.windows still.origins stays.shown_is;
      touches = touches;
      covers = record { gift = None; is_gift = nothing; changes = stays.covers_are };
      delivery = delivery;
      inputs = λ w lives. (
        k.inputs w,
        stands.knows.inputs w (sym (same w) ∙ lives),
        subst (λ f. InputGoes ds call answer es w (k.inputs w) (f w)) (sym stays.inputs_are) (input_quiet ds call answer es w (k.inputs w) lives (quiet w)),
      );
      keying =
          record {
            focus_is =
                subst (FocusIs (step ds call answer es)) (sym stays.focus_is)
                (focus_shown ds call answer es k.focus k.focus.focusable still.request
                (still.masks (past_of es) k.focus.focusable stands.knows.keying.focus_is.masks_are) stands.knows.keying.focus_is);
            repeat_is =
                stays.repeat_is
                ∙ repeat_quiet ds call answer es k.repeat (key_target (past_of es)) lawful same (λ w lives. quiet w) stands.knows.keying.repeat_is refl;
          };
    })

pub no_op_law : NoOpLaw
no_op_law ds call answer es k later stands r rises rests stays =
    still_goes ds call answer es k later stands r rises (no_op_still call answer rests)
    (touches_rest ds call answer es k later stands (no_op_step call answer (snapshot (past_of es)) (inbound (past_of es)) rests) stays.but)
    (none_given ds call answer es (no_op_step call answer (snapshot (past_of es)) (inbound (past_of es)) rests))
    stays.but
    (subst (DeliveryIs (step ds call answer es)) (sym stays.delivery_is)
    (delivery_no_op ds call answer es k.delivery (lawful_step ds call answer es stands.lawful r) rests stands.knows.delivery))

-- ---- a tick that reports nobody

none_in : (cs : List ℕ) → filter (mask_has 0) cs ≡ []
none_in [] = refl
none_in (c ∷ cs) = ap (λ b. cond b (c ∷ filter (mask_has 0) cs) (filter (mask_has 0) cs)) (mask_has-zero c) ∙ none_in cs

tick_delivery : (ds : List ℕ) (now : ℕ) (es : List Effect) (d : Delivery) → Lawful ds (step ds (Tick now) (Named 0) es) → DeliveryIs es d
    → DeliveryIs (step ds (Tick now) (Named 0) es) d
tick_delivery ds now es d l is =
    let later = step ds (Tick now) (Named 0) es in
    let at = clock (past_of later) in
    record {
      count_is = is.count_is;
      keeps = λ c from to.
          kept_quiet ds (Tick now) (Named 0) es c (d.channel c) l (is.keeps c from to)
          (silent_calls ds (Tick now) (Named 0) es c (ap not (mask_has-zero c))) refl;
      live_is = is.live_is;
      able_is = fun_ext (λ c.
          ap (λ f. f c) is.able_is
          ∙ sym (able_law ds (Tick now) (Named 0) es c l ∙ ap (λ b. not b && able es c) (mask_has-zero c)));
      noted_is =
          let same : anrs (step ds (Tick now) (Named 0) es) ≡ anrs es =
          anrs_law ds (Tick now) 0 es d.channel (λ c from to. is.keeps c from (subst (λ n. c ≤ n) (sym is.count_is) to))
          ∙ ap (λ xs. anrs es ++ xs)
          (ap (filter_map (λ c. anr_in at c (d.channel c))) (none_in (channels (opened (past_of es)))))
          ∙ append-nil (anrs es)
          in subst (λ xs. NotedIs xs d.noted) (sym same) is.noted_is;
    }

pub tick_idle : TickIdleLaw
tick_idle ds now es k later stands r stays =
    let call = Tick now in
    let s = scene ds es in
    let lawful = lawful_step ds call (Named 0) es stands.lawful r in
    let mutes : IsMark k.touches (Mute 0) (mark_at ds call (Named 0) es) =
    other_law s k.touches (Mute 0) (step_at call (Named 0) es) (touches_scene_law ds es k.touches stands.knows.touches) (λ w number. refl) in
    still_goes ds call (Named 0) es k later stands r tt (tick_still now)
    (record {
      by = NoOpMark;
      is_mark =
          record {
            given_are = mutes.given_are;
            taken_are = λ w d i number. mutes.taken_are w d i number ∙ mask_has-zero w;
            pilfers_are = mutes.pilfers_are;
          };
      changes =
          subst (TakesMark NoOpMark k.queue.place k.touches) (sym stays.but.touches_are)
          (no_op_as_is (marks es) k.touches k.queue.place stands.knows.touches);
    })
    (λ w d. refl)
    stays.but
    (subst (DeliveryIs (step ds call (Named 0) es)) (sym stays.delivery_is) (tick_delivery ds now es k.delivery lawful stands.knows.delivery))
