-- What is kept of the keys of a window, and which key messages it is sent.
use Rattle.std.specs.Prelude.{◌≡◌, ℕ, Bool, true, List, [], ◌∷◌, ◌++◌, ◌&&◌, map, Option, Some, None, option_map, if◌then◌else◌}
use Rattle.std.specs.List.{list_any}
use Rattle.input_types.specs.declared.key.KeyArgs.{KeyArgs}
use Rattle.input_types.specs.declared.key.KeyMsg.{KeyMsg}
use Rattle.input_types.specs.declared.message.Args.{Args}
use Rattle.input_types.specs.declared.message.Args.TheVariants.{Key as KeyOfDevice, Reset}
use Rattle.input_types.specs.declared.message.Body.{Body}
use Rattle.input_types.specs.declared.message.Message.{Message}
use Rattle.window_snapshot.specs.Mask.{mask_has}
use Rattle.key_repeat.specs.Due.{Sent, next_of}
use Rattle.dispatcher.specs.CancelSynthesis.Ends.{keys_cancelled, of_device}
use Rattle.dispatcher.specs.CancelSynthesis.Tracked.{keys_then}
use Rattle.dispatch_calls.specs.declared.call.Call.{Call}
use Rattle.dispatch_calls.specs.declared.call.Call.TheVariants.{Pump, Tick}
use Rattle.dispatch_calls.specs.declared.reply.Reply.{Reply}
use Rattle.dispatch_calls.specs.declared.reply.Reply.TheVariants.{Dispatched, Repeated, Named}
use Rattle.dispatch_history.specs.Queue.{inbound, args_of}
use Rattle.dispatch_history.specs.Effect.{Effect, past_of, stream}
use Rattle.dispatch_history.specs.Delivery.{able}
use Rattle.dispatch_history.specs.Focus.{is_target}
use Rattle.dispatch_history.specs.Keys.{same_key, is_before, loses_all, keys}
use Rattle.dispatch_history.specs.Known.{last_message}
use Rattle.dispatch_history.specs.KeySent.{key_as_is, keys_sent, repeat_by, last_key}

-- the key comes before all of these
abbrev pub Above : KeyArgs → List KeyArgs → Type 0
Above k [] = Unit {0}
Above k (l ∷ ls) = (is_before k l ≡ true) × Above k ls

-- keys stand in rising order
abbrev pub Rising : List KeyArgs → Type 0
Rising [] = Unit {0}
Rising (k ∷ ks) = Above k ks × Rising ks

-- each of these messages is the last one of its key
abbrev pub AllLast : List Message → List KeyMsg → Type 0
AllLast past [] = Unit {0}
AllLast past (m ∷ ms) = (last_message m.key.device m.key.scan past ≡ Some m) × AllLast past ms

-- what is kept are the keys that the window holds after a history with these effects, each with the last message of it
pub record KeysAre (es : List Effect) (w : ℕ) (held : List KeyMsg) : Type 0 where
  pub keys_are : map (λ m. m.key) held ≡ keys es w
  pub lasts_are : AllLast (stream es w) held

-- what is kept of keys once these bodies are tracked, the first one first
abbrev pub bodies_tracked : List Body → List KeyMsg → List KeyMsg
bodies_tracked [] held = held
bodies_tracked (b ∷ bs) held = bodies_tracked bs (keys_then b held)

-- the key messages that the step with this call and reply sends to a channel that is live after it
abbrev pub key_messages : Call → Reply → List Effect → ℕ → List KeyMsg
key_messages call answer before w =
    let after = (call, answer) ∷ past_of before in
    let args = args_of call answer (inbound (past_of before)) in
    keys_sent args (is_target (past_of before) w && able before w) (loses_all after (past_of before) w) (keys before w)
    ++ repeat_by after (last_key before) w

-- a dispatched key is sent as it is: a down if the window gets keys, an up if it holds the key
abbrev pub sent_for_key : KeyArgs → (gets : Bool) → List KeyMsg → Option KeyMsg
sent_for_key k gets held =
    if (if k.down then gets else list_any (λ m. same_key k m.key) held) then Some (key_as_is k) else None

-- an optional message, for any channel
abbrev pub one_sent : Option KeyMsg → List KeyMsg
one_sent None = []
one_sent (Some m) = m ∷ []

-- What the key target is sent for keys, from what is kept of its keys and of the last key message. It gets keys if it
-- is able. A reset of a device cancels its keys of that device. All its keys are cancelled if a tick reports it, or
-- if it is no longer the key target.
abbrev pub target_sent : Call → Reply → Option Args → ℕ → (gets stays : Bool) → List KeyMsg → Option Sent → List KeyMsg
target_sent (Pump now) Dispatched (Some (KeyOfDevice k)) w gets stays held last = one_sent (sent_for_key k gets held)
target_sent (Pump now) Dispatched (Some (Reset d)) w gets stays held last = keys_cancelled (of_device d held)
target_sent (Pump now) Repeated args w gets stays held last = one_sent (option_map (λ n. n.1) (next_of last))
target_sent (Pump now) answer args w gets stays held last = []
target_sent (Tick now) (Named mask) args w gets stays held last = if mask_has mask w then keys_cancelled held else []
target_sent call answer args w gets stays held last = if stays then [] else keys_cancelled held
