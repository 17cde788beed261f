-- Args that may come when they come, and replies that refuse none.
use Rattle.std.specs.Prelude.{◌≡◌, ℕ, Bool, true, false, List, [], ◌∷◌, map, reverse, is_some, IsTrue}
use Rattle.input_types.specs.declared.message.Args.{Args}
use Rattle.input_types.specs.DeviceRule.{device_state}
use Rattle.dispatch_calls.specs.declared.reply.Reply.{Reply}
use Rattle.dispatch_calls.specs.declared.reply.Reply.TheVariants.{Inconsistent}
use Rattle.dispatch_history.specs.History.{History}
use Rattle.dispatch_history.specs.Ordered.{is_notified}
use Rattle.dispatch_history.specs.Plan.{Cooked, ScriptStep}

-- Args, in the order in which they are handed in, keep the rule of each device.
abbrev pub KeepRule : List Cooked → Type 0
KeepRule cs = (d : ℕ) → IsTrue (is_some (device_state d (reverse (map (λ (a : Cooked). a.args) cs))))

-- args with their moments, newest first, turned into the order in which they are handed in
abbrev pub handed : List (ℕ × Args) → List Cooked
handed gs = map (λ (g : ℕ × Args). record { moment = g.0; args = g.1 }) (reverse gs)

-- The steps of scripts hand in no args themselves.
abbrev pub HandNone : List ScriptStep → Type 0
HandNone [] = Unit {0}
HandNone (s ∷ ss) = (is_notified s.call ≡ 0) × HandNone ss

-- a reply that refuses args
abbrev pub refuses : Reply → Bool
refuses (Inconsistent pointers key_down) = true
refuses answer = false

-- No args of a history were refused.
abbrev pub NoneRefused : History → Type 0
NoneRefused [] = Unit {0}
NoneRefused (e ∷ h) = (refuses e.1 ≡ false) × NoneRefused h
