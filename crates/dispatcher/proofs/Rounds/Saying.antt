-- What a step sends a window, with its places counted from the origin of the window.
use Rattle.std.proofs.Common.{◌≡◌, Bool, true, false, List, [], ◌∷◌, ◌++◌, map, refl, sym, ap, ◌∙◌}
use Rattle.input_types.specs.declared.axis.Pixel.{Pixel}
use Rattle.input_types.specs.declared.key.KeyMsg.{KeyMsg}
use Rattle.input_types.specs.declared.message.Body.{Body}
use Rattle.input_types.specs.declared.message.Body.TheVariants.{Motion as MotionBody, Key}
use Rattle.input_types.specs.declared.motion.Motion.{Motion}
use Rattle.dispatch_history.specs.History.{origin}
use Rattle.dispatch_history.specs.Effect.{past_of}
use Rattle.dispatch_history.specs.Effects.{step}
use Rattle.dispatch_history.specs.Focus.{has_focus, focus_sent}
use Rattle.dispatch_history.specs.Said.{motion_from}
use Rattle.dispatch_history.specs.Step.{marks}
use Rattle.routing_rules.specs.Cover.{under_all}
use Rattle.routing_rules.specs.Marks.{covered}
use Rattle.dispatcher.specs.DispatchChannels.FromOrigin.{body_from}
use Rattle.dispatcher.specs.KeyTables.Held.{key_messages}
use Rattle.dispatcher.proofs.KeyTables.Saying.{said_parts}
use Rattle.dispatcher.specs.Pointing.{mark_at}
use Rattle.dispatcher.specs.Tracking.{motions_at}
use Rattle.dispatcher.specs.RoundLaws.{SaidLaw}

moved : (o : Pixel) (ms : List Motion) (rest : List Body)
    → map (body_from o) (map MotionBody ms ++ rest) ≡ map (λ m. MotionBody (motion_from o m)) ms ++ map (body_from o) rest
moved o [] rest = refl
moved o (m ∷ ms) rest = ap (λ bs. MotionBody (motion_from o m) ∷ bs) (moved o ms rest)

keys_stay : (o : Pixel) (ks : List KeyMsg) (rest : List Body) → map (body_from o) (map Key ks ++ rest) ≡ map Key ks ++ map (body_from o) rest
keys_stay o [] rest = refl
keys_stay o (k ∷ ks) rest = ap (λ bs. Key k ∷ bs) (keys_stay o ks rest)

focus_stays : (o : Pixel) (a b : Bool) → map (body_from o) (focus_sent a b) ≡ focus_sent a b
focus_stays o true true = refl
focus_stays o true false = refl
focus_stays o false true = refl
focus_stays o false false = refl

joined : (xs ys zs : List Body) → (xs ++ ys) ++ zs ≡ xs ++ (ys ++ zs)
joined [] ys zs = refl
joined (x ∷ xs) ys zs = ap (λ bs. x ∷ bs) (joined xs ys zs)

pub said_law : SaidLaw
said_law ds call answer es w lives =
    let o = origin (past_of es) w in
    let ms = under_all (covered (mark_at ds call answer es ∷ marks es) w) (motions_at ds call answer es w) in
    let ks = key_messages call answer es w in
    let f = focus_sent (has_focus (past_of es) w) (has_focus (past_of (step ds call answer es)) w) in
    said_parts ds call answer es w lives
    ∙ joined (map (λ m. MotionBody (motion_from o m)) ms) (map Key ks) f
    ∙ ap (λ bs. map (λ m. MotionBody (motion_from o m)) ms ++ (map Key ks ++ bs)) (sym (focus_stays o (has_focus (past_of es) w) (has_focus (past_of (step ds call answer es)) w)))
    ∙ ap (λ bs. map (λ m. MotionBody (motion_from o m)) ms ++ bs) (sym (keys_stay o ks f))
    ∙ sym (moved o ms (map Key ks ++ f))
    ∙ ap (map (body_from o)) (sym (joined (map MotionBody ms) (map Key ks) f))
