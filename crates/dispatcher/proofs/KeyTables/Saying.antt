-- The key messages that a step sends to a channel.
use Rattle.std.proofs.Common.{◌≡◌, ℕ, Bool, true, false, cond, List, [], ◌∷◌, ◌++◌, map, flat_map, refl, sym, ap, ap₂, ◌∙◌, inl, inr, append-nil}
use Rattle.std.proofs.lemmas.Bool.{cases_Bool}
use Rattle.input_types.specs.declared.axis.Pixel.{Pixel}
use Rattle.input_types.specs.declared.key.KeyMsg.{KeyMsg}
use Rattle.input_types.specs.declared.message.Body.{Body}
use Rattle.input_types.specs.declared.message.Body.TheVariants.{Motion as MotionBody, Key as KeyBody, Focus as FocusBody}
use Rattle.input_types.specs.declared.motion.Motion.{Motion}
use Rattle.routing_rules.specs.Cover.{under_all}
use Rattle.routing_rules.specs.Marks.{covered}
use Rattle.routing_rules.specs.Given.{mark}
use Rattle.routing_rules.specs.Outgoing.{sent_with, devices}
use Rattle.dispatch_calls.specs.declared.call.Call.{Call}
use Rattle.dispatch_calls.specs.declared.reply.Reply.{Reply}
use Rattle.dispatch_history.specs.History.{live, origin, snapshot}
use Rattle.dispatch_history.specs.Queue.{inbound, args_of}
use Rattle.dispatch_history.specs.Effect.{Effect, past_of}
use Rattle.dispatch_history.specs.Effects.{said_at}
use Rattle.dispatch_history.specs.Step.{scene, step_of, marks}
use Rattle.dispatch_history.specs.Focus.{has_focus, focus_sent}
use Rattle.dispatch_history.specs.Said.{motion_from}
use Rattle.dispatch_history.proofs.MotionLaws.{live_said}
use Rattle.dispatcher.specs.KeyTables.Held.{key_messages}
use Rattle.dispatcher.specs.KeyTables.Laws.{SaidParts}

-- the key messages among bodies
abbrev pub key_bodies : List Body → List KeyMsg
key_bodies [] = []
key_bodies (KeyBody m ∷ bs) = m ∷ key_bodies bs
key_bodies (b ∷ bs) = key_bodies bs

parts_append : (xs ys : List Body) → key_bodies (xs ++ ys) ≡ key_bodies xs ++ key_bodies ys
parts_append [] ys = refl
parts_append (KeyBody m ∷ xs) ys = ap (λ ms. m ∷ ms) (parts_append xs ys)
parts_append (MotionBody m ∷ xs) ys = parts_append xs ys
parts_append (FocusBody b ∷ xs) ys = parts_append xs ys

no_motions : (o : Pixel) (ms : List Motion) → key_bodies (map (λ m. MotionBody (motion_from o m)) ms) ≡ []
no_motions o [] = refl
no_motions o (m ∷ ms) = no_motions o ms

all_keys : (ks : List KeyMsg) → key_bodies (map KeyBody ks) ≡ ks
all_keys [] = refl
all_keys (k ∷ ks) = ap (λ ms. k ∷ ms) (all_keys ks)

no_focus : (a b : Bool) → key_bodies (focus_sent a b) ≡ []
no_focus true true = refl
no_focus true false = refl
no_focus false true = refl
no_focus false false = refl

parts : (o : Pixel) (ms : List Motion) (ks : List KeyMsg) (a b : Bool)
    → key_bodies (map (λ m. MotionBody (motion_from o m)) ms ++ map KeyBody ks ++ focus_sent a b) ≡ ks
parts o ms ks a b =
    parts_append (map (λ m. MotionBody (motion_from o m)) ms ++ map KeyBody ks) (focus_sent a b)
    ∙ ap₂ (λ xs ys. xs ++ ys)
    (parts_append (map (λ m. MotionBody (motion_from o m)) ms) (map KeyBody ks) ∙ ap₂ (λ xs ys. xs ++ ys) (no_motions o ms) (all_keys ks)) (no_focus a b)
    ∙ append-nil ks

-- the key messages that a step sends to a channel
pub said_keys : (ds : List ℕ) (call : Call) (answer : Reply) (es : List Effect) (w : ℕ)
    → key_bodies (said_at ds call answer es w) ≡ cond (live ((call, answer) ∷ past_of es) w) (key_messages call answer es w) []
said_keys ds call answer es w =
    elim (cases_Bool (live ((call, answer) ∷ past_of es) w)) [
      | inl y ↦
          let s = scene ds es in
          let e = step_of (snapshot (past_of es)) call answer (args_of call answer (inbound (past_of es))) in
          ap key_bodies (live_said ds call answer es w y)
          ∙ parts (origin (past_of es) w) (under_all (covered (mark s e ∷ marks es) w) (flat_map (sent_with s e (mark s e) w) devices)) (key_messages call answer es w) (has_focus (past_of es) w)
          (has_focus ((call, answer) ∷ past_of es) w)
          ∙ sym (ap (λ b. cond b (key_messages call answer es w) []) y)
      | inr n ↦ rw n refl
    ]

pub said_parts : SaidParts
said_parts ds call answer es w n = live_said ds call answer es w n
