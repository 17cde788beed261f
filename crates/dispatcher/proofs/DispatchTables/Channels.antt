-- What is kept of the channels after a legal history.
use Rattle.std.proofs.Common.{◌≡◌, ℕ, ◌-◌, ◌≤◌, List, [], ◌∷◌, length, reverse, refl, sym, subst, arith}
use Rattle.std.proofs.lemmas.Bool.{true≢false}
use Rattle.dispatch_calls.specs.declared.call.Call.{Call}
use Rattle.dispatch_calls.specs.declared.reply.Reply.{Reply}
use Rattle.dispatch_history.specs.History.{clock}
use Rattle.dispatch_history.specs.Effect.{Effect, past_of, stream, sent_on}
use Rattle.dispatch_history.specs.Effects.{step, said_at}
use Rattle.dispatch_history.specs.Known.{IsNumbered}
use Rattle.dispatch_history.proofs.StreamLaws.{stream_step}
use Rattle.dispatch_history.proofs.WholeLaws.{numbers_law}
use Rattle.dispatcher.specs.DispatchTables.Lawful.{Lawful}
use Rattle.dispatcher.specs.DispatchTables.Channel.{NumberedFrom, part_of, with_part, channel_at, enqueued_all}
use Rattle.dispatcher.specs.InputChannel.State.{published_at}
use Rattle.dispatcher.proofs.DispatchTables.Lawfuls.{lawful_last, lawful_always}
use Rattle.dispatcher.proofs.DispatchTables.Numbering.{numbered-reverse}
use Rattle.dispatcher.proofs.DispatchTables.Parts.{terms_part, received_part, finished_part, can_be}
use Rattle.dispatcher.proofs.DispatchTables.Stepping.{Sound, Stepped, stepped_sound, stepped_channel}

pub numbered : (ds : List ℕ) (es : List Effect) (c : ℕ) → Lawful ds es → NumberedFrom 0 (reverse (stream es c))
numbered ds es c l = numbered-reverse (stream es c) (subst (λ xs. IsNumbered (stream xs c)) l.whole (numbers_law ds (past_of es) c).0)

pub stepped : (ds : List ℕ) (call : Call) (answer : Reply) (es : List Effect) (c : ℕ)
    → Lawful ds (step ds call answer es) → Sound es c
    → Stepped es (step ds call answer es) c (part_of call answer c) (said_at ds call answer es c)
stepped ds call answer es c l h =
    let last = lawful_last ds call answer es l in
    record {
      sound = h;
      can = can_be es c call answer last.0;
      terms_is = terms_part call answer c _;
      received_is = received_part call answer c _;
      finished_is = finished_part call answer c _;
      stream_is =
          subst (λ xs. stream (step ds call answer xs) c ≡ sent_on (clock ((call, answer) ∷ past_of es)) (said_at ds call answer xs c) (stream xs c))
          last.1.whole (stream_step ds call answer (past_of es) c l.legal);
      delivery_is = λ k. refl;
      numbered = numbered ds (step ds call answer es) c l;
    }

sound_start : (c : ℕ) → Sound [] c
sound_start c = record { received_published = omega arith; done_received = λ k e. absurd (true≢false (sym e)) }

pub sound : (ds : List ℕ) (es : List Effect) (c : ℕ) → Lawful ds es → Sound es c
sound ds es c l =
    lawful_always ds (λ xs. Sound xs c) (sound_start c)
    (λ call answer xs k h. stepped_sound xs (step ds call answer xs) c (part_of call answer c) (said_at ds call answer xs c) (stepped ds call answer xs c k h))
    es l

pub channel_step : (ds : List ℕ) (call : Call) (answer : Reply) (es : List Effect) (c gone spare : ℕ)
    → Lawful ds (step ds call answer es) → gone ≤ length (stream es c)
    → let outgoing = said_at ds call answer es c in let now = clock (past_of (step ds call answer es)) in channel_at (step ds call answer es) c gone (spare - length outgoing)
    ≡ published_at now (enqueued_all outgoing now (with_part (part_of call answer c) (channel_at es c gone spare)))
channel_step ds call answer es c gone spare l le =
    stepped_channel es (step ds call answer es) c (part_of call answer c) (said_at ds call answer es c) gone spare
    (stepped ds call answer es c l (sound ds es c (lawful_last ds call answer es l).1))
    le
