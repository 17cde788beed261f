-- A motion that is dispatched.
use Rattle.std.proofs.Common.{◌≡◌, ℕ, Bool, true, false, ◌&&◌, List, [], Some, refl, sym, ap, ◌∙◌, subst, bit_and}
use Rattle.input_types.specs.declared.message.Args.TheVariants.{Motion as MotionArgs}
use Rattle.input_types.specs.declared.motion.Motion.{Motion}
use Rattle.input_types.specs.Displays.{device_display}
use Rattle.window_snapshot.specs.declared.window.Window.{Window}
use Rattle.window_snapshot.specs.Mask.{is_channel, mask_has}
use Rattle.window_snapshot.specs.Named.{is_shown_on}
use Rattle.window_snapshot.specs.Walls.{reaches}
use Rattle.routing_rules.specs.Scene.{Scene, Moves}
use Rattle.routing_rules.specs.Given.{changed, mark as rule_mark}
use Rattle.route_split.specs.declared.mark.Mark.{Mark}
use Rattle.route_split.specs.Marking.{IsMark, IsWhole}
use Rattle.route_split.specs.Seen.{Sees}
use Rattle.route_split.specs.Tables.{Stands}
use Rattle.routing_rules.specs.Watching.{is_watching}
use Rattle.dispatch_calls.specs.declared.reply.Reply.TheVariants.{Dispatched}
use Rattle.dispatcher.proofs.DispatchChannels.Picking.{mask_has-and}
use Rattle.dispatcher.specs.declared.dispatch_round.round.Round.{Round}
use Rattle.dispatcher.specs.WindowCovers.Covers.{IsGiftOf}
use Rattle.dispatcher.specs.declared.tables.Routing.{Routing}
use Rattle.dispatcher.specs.Carrying.{CarriesFrom, IsOf}
use Rattle.dispatcher.specs.Keying.{target_number}
use Rattle.dispatcher.specs.RoundLaws.{reach_on}
use Rattle.dispatcher.specs.Tables.{Pumps}
use Rattle.dispatcher.proofs.Rounds.Calls.{motion_pumps}

-- what is in a mask is a channel
both_channels : (a b x : Bool) → ((a && b) && (a && x)) ≡ ((a && b) && x)
both_channels true b x = refl
both_channels false b x = refl

-- a motion can reach a channel that is live and shown on the display of its device
pub on_display : (live shown : ℕ) (windows : List Window) (display c : ℕ) → mask_has shown c ≡ (is_channel c && is_shown_on windows display c)
    → mask_has (bit_and live shown) c ≡ (mask_has live c && is_shown_on windows display c)
on_display live shown windows display c shows =
    mask_has-and live shown c ∙ ap (λ b. mask_has live c && b) shows ∙ both_channels (is_channel c) _ (is_shown_on windows display c)

-- by what is found of it in the tables
pub motion_sent : (old new : Routing) (place clk : ℕ) (m : Motion) (r : Round) (by : Mark) (live shown able : ℕ) (windows : List Window) (display : ℕ)
    → IsOf by (Some m) (target_number old.focus) [] 0 0 r
    → CarriesFrom r place clk old new
    → windows ≡ old.shown.windows → live ≡ old.channels.live → able ≡ old.channels.able → display ≡ device_display old.displays m.device
    → ((c : ℕ) → mask_has shown c ≡ (is_channel c && is_shown_on windows display c))
    → ((s : Scene) → Stands s old.touches → Sees s windows (reach_on (bit_and live shown) display) able m.device → IsMark old.touches by (rule_mark s (Moves m)))
    → ((s : Scene) → Sees s windows (reach_on (bit_and live shown) display) able m.device → (w : ℕ) → mask_has r.watchers w ≡ is_watching s m (changed m) w)
    → IsWhole by
    → ((s : Scene) → s.windows ≡ windows → s.reach m.device ≡ reaches (reach_on (bit_and live shown) display) → IsGiftOf s by m r.gift)
    → Pumps (Some (MotionArgs m)) Dispatched place clk old new
motion_sent old new place clk m r by live shown able windows display is from ws l a d shows marks watches whole found =
    let mask = bit_and live shown in
    let sees : (s : Scene) → Sees s old.shown.windows (reach_on mask (device_display old.displays m.device)) old.channels.able m.device
    → Sees s windows (reach_on mask display) able m.device =
    λ s h.
    subst (λ v. Sees s v (reach_on mask display) able m.device) (sym ws)
    (subst (λ n. Sees s old.shown.windows (reach_on mask display) n m.device) (sym a)
    (subst (λ y. Sees s old.shown.windows (reach_on mask y) old.channels.able m.device) (sym d) h)) in
    motion_pumps old new place clk m r by mask is from
    (λ c.
    on_display live shown windows display c (shows c)
    ∙ ap (λ n. mask_has n c && is_shown_on windows display c) l
    ∙ ap (λ v. mask_has old.channels.live c && is_shown_on v display c) ws
    ∙ ap (λ y. mask_has old.channels.live c && is_shown_on old.shown.windows y c) d)
    (λ s st h. marks s st (sees s h))
    (λ s h. watches s (sees s h))
    whole
    (λ s at in_reach. found s (at ∙ sym ws) (in_reach ∙ ap (λ y. reaches (reach_on mask y)) (sym d)))
