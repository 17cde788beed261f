-- The effects of a history, step by step.
use Rattle.std.specs.Prelude.{ℕ, suc, zero, List, [], ◌∷◌, ◌++◌, map, flat_map, Option}
use Rattle.input_types.specs.declared.message.Args.{Args}
use Rattle.input_types.specs.declared.message.Body.{Body}
use Rattle.dispatch_calls.specs.declared.call.Call.{Call}
use Rattle.dispatch_calls.specs.declared.reply.Reply.{Reply}
use Rattle.routing_rules.specs.Marks.{Mark}
use Rattle.routing_rules.specs.Scene.{Scene, Step}
use Rattle.routing_rules.specs.Given.{mark}
use Rattle.dispatch_history.specs.History.{History, opened, snapshot}
use Rattle.dispatch_history.specs.Queue.{inbound, args_of}
use Rattle.dispatch_history.specs.Effect.{Effect, Outgoing, past_of}
use Rattle.dispatch_history.specs.Step.{scene, step_of}
use Rattle.dispatch_history.specs.Said.{said}

-- the channels 1 to n
abbrev pub channels : ℕ → List ℕ
channels zero = []
channels (suc n) = channels n ++ suc n ∷ []

-- what a step sends, channel by channel
abbrev pub sent_by : (ℕ → List Body) → ℕ → List Outgoing
sent_by said_to n = flat_map (λ w. map (λ b. record { channel = w; body = b }) (said_to w)) (channels n)

-- what a step with this mark sends to a channel
abbrev pub said_with : History → Option Args → List Effect → Scene → Step → Mark → ℕ → List Body
said_with after args before s e k c = said after args s e k before c

-- the effect of a step that has this mark
abbrev pub effect_with : History → Option Args → List Effect → Scene → Step → Mark → Effect
effect_with after args before s e k =
    record { past = after; args = args; mark = k; outgoing = sent_by (said_with after args before s e k) (opened after) }

-- the effect of a step, from what it is to the rules
abbrev pub effect_in : History → Option Args → List Effect → Scene → Step → Effect
effect_in after args before s e = effect_with after args before s e (mark s e)

-- the effect of the step with this call and reply, which dispatches these args, for devices on these displays
abbrev pub effect_of : List ℕ → Call → Reply → Option Args → List Effect → Effect
effect_of displays call reply args before =
    effect_in ((call, reply) ∷ past_of before) args before (scene displays before) (step_of (snapshot (past_of before)) call reply args)

-- one step more
abbrev pub step : List ℕ → Call → Reply → List Effect → List Effect
step displays call reply before = effect_of displays call reply (args_of call reply (inbound (past_of before))) before ∷ before

-- the effects of a history, newest first, for devices on these displays
abbrev pub effects : List ℕ → History → List Effect
effects displays [] = []
effects displays (e ∷ h) = step displays e.0 e.1 (effects displays h)

-- what the step with this call and reply sends to a channel
abbrev pub said_at : List ℕ → Call → Reply → List Effect → ℕ → List Body
said_at displays call reply before c =
    let args = args_of call reply (inbound (past_of before)) in
    let s = scene displays before in
    let e = step_of (snapshot (past_of before)) call reply args in
    said_with ((call, reply) ∷ past_of before) args before s e (mark s e) c
