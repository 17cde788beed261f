-- What each step is to the rules, by what is kept.
use Rattle.std.proofs.Common.{◌≡◌, ◌≤◌, ◌==◌, ℕ, ◌&&◌, ◌||◌, not, Bool, true, false, List, slice_get, Some, refl, sym, ap, ap₂, ◌∙◌, subst}
use Rattle.std.proofs.Math.Path.{fun_ext}
use Rattle.std.proofs.lemmas.Bool.{and_right, eqb-true}
use Rattle.input_types.specs.Displays.{device_display}
use Rattle.input_types.specs.declared.message.Args.{Args}
use Rattle.input_types.specs.declared.message.Args.TheVariants.{Motion as MotionArgs, Key as KeyOfDevice, Reset}
use Rattle.window_snapshot.specs.Mask.{mask_has}
use Rattle.window_snapshot.specs.Named.{is_shown_on}
use Rattle.window_snapshot.specs.Walls.{wall_on}
use Rattle.window_snapshot.proofs.Masks.{mask_has-wall, mask_has-zero}
use Rattle.routing_rules.specs.Scene.{stays}
use Rattle.route_split.specs.Marking.{IsStepOf}
use Rattle.route_split.specs.declared.mark.Mark.TheVariants.{NoOp, Empty}
use Rattle.dispatch_calls.specs.declared.call.Call.TheVariants.{Pump}
use Rattle.dispatch_calls.specs.declared.reply.Reply.TheVariants.{Dispatched}
use Rattle.dispatch_history.specs.History.{live, snapshot}
use Rattle.dispatch_history.specs.Effect.{Effect, past_of}
use Rattle.dispatch_history.specs.Step.{scene, step_of}
use Rattle.dispatcher.proofs.DispatchTables.Keeping.{kept_facts}
use Rattle.dispatcher.specs.Pointing.{step_at}
use Rattle.dispatcher.specs.Knows.{Kept, KeptStandsFor}
use Rattle.dispatcher.specs.RoundLaws.{SeesLaw, MotionStepLaw, OtherStepsLaw, TimelyLaw, SameFocusLaw}
use Rattle.dispatcher.proofs.Laws.ShownLaws.{touches_scene_law}
use Rattle.dispatcher.proofs.Laws.Listing.{listed_law}

-- what a pump dispatches, by what waits
dispatches : (ds : List ℕ) (es : List Effect) (k : Kept) (now : ℕ) (a : Args) → KeptStandsFor ds es k → slice_get k.queue.waiting 0 ≡ Some a
    → step_at (Pump now) Dispatched es ≡ step_of (snapshot (past_of es)) (Pump now) Dispatched (Some a)
dispatches ds es k now a s e =
    ap (step_of (snapshot (past_of es)) (Pump now) Dispatched) (ap (λ ws. slice_get ws 0) (sym s.knows.queue.waiting_is) ∙ e)

-- no wall is live
no_wall_lives : (alive y c : ℕ) (lives : Bool) → lives ≡ mask_has alive c → (not lives && c == wall_on y) ≡ (c == wall_on y)
no_wall_lives alive y c lives e = by_number (c == wall_on y) refl
  where
    by_number : (b : Bool) → (c == wall_on y) ≡ b → (not lives && b) ≡ b
    by_number false q = and_right (not lives) false refl
    by_number true q = ap (λ x. not x && true) (e ∙ ap (mask_has alive) (eqb-true c (wall_on y) q) ∙ mask_has-wall alive y)

pub sees_law : SeesLaw
sees_law ds es k d mask s has =
    record {
      windows_are = sym s.knows.shown.windows_are;
      reach_is = fun_ext (λ c.
          let y = device_display ds d in
          let lives : live (past_of es) c ≡ mask_has k.delivery.live c = sym (ap (λ f. f c) s.knows.delivery.live_is) in
          ap₂ (λ a b. a || b)
          (ap (λ b. b && is_shown_on (snapshot (past_of es)) y c) lives
          ∙ ap (λ ws. mask_has k.delivery.live c && is_shown_on ws y c) (sym s.knows.shown.windows_are)
          ∙ sym (has c))
          (no_wall_lives k.delivery.live y c (live (past_of es) c) lives));
      able_is = sym s.knows.delivery.able_is;
    }

pub motion_step : MotionStepLaw
motion_step ds now es k m by watchers mask s first has marks watches =
    let sees = sees_law ds es k m.device mask s has in (
      dispatches ds es k now (MotionArgs m) s first,
      marks (scene ds es) (touches_scene_law ds es k.touches s.knows.touches) sees,
      listed_law ds es m.device s.lawful s.rise,
      watches (scene ds es) sees,
    )

pub other_steps : OtherStepsLaw
other_steps ds es k s =
    record {
      resets = λ now d watchers e. subst (IsStepOf (Empty d)) (sym (dispatches ds es k now (Reset d) s e)) refl;
      keys = λ now watchers a e. subst (IsStepOf NoOp) (sym (dispatches ds es k now (KeyOfDevice a) s e)) tt;
      repeats = λ now watchers. tt;
      shows = λ now watchers mask next has w number.
          ap (λ ws. stays ws next w) (sym s.knows.shown.windows_are)
          ∙ ap (λ b. b && stays k.shown.windows next w) (sym number)
          ∙ sym (has w);
      focuses = λ now watchers y c keys. tt;
      opens = λ terms number watchers. tt;
      ticks = λ now mask watchers w number. refl;
      pilfers = λ now c d watchers. (refl, refl);
      removes = λ now c watchers. refl;
    }

pub timely_law : TimelyLaw
timely_law ds es k c at s le from to =
    (kept_facts ds es c (k.delivery.channel c) s.lawful (s.knows.delivery.keeps c from to)).3 at (subst (λ n. n ≤ at) s.knows.queue.clock_is le)

pub same_focus : SameFocusLaw
same_focus f c = mask_has-zero c ∙ sym (none (f c))
  where
    none : (b : Bool) → (b && not b) ≡ false
    none true = refl
    none false = refl
