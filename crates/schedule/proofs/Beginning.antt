-- A run whose channels are being opened.
use Rattle.std.proofs.Common.{◌≡◌, ℕ, ◌+◌, ◌<◌, ◌≤◌, List, [], ◌∷◌, ◌++◌, length, map, take, get_or, refl, sym, ap, ◌∙◌, arith, add-one, take-suc}
use Rattle.std.specs.Prelude.{sum_by}
use Rattle.std.proofs.lemmas.List.{map-append, length-map, length-take-le}
use Rattle.std.proofs.Math.Seq.{take-length}
use Rattle.dispatch_calls.specs.declared.call.Call.TheVariants.{Open}
use Rattle.dispatch_history.specs.History.{opened}
use Rattle.dispatch_history.specs.Effect.{Effect, past_of, stream}
use Rattle.dispatch_history.specs.Effects.{channels}
use Rattle.dispatch_history.specs.Legal.{answered}
use Rattle.dispatch_history.specs.Plan.{Plan, ChannelOf}
use Rattle.dispatch_history.specs.Given.{opens}
use Rattle.dispatch_history.specs.Ordered.{extend, begun, scripted, start}
use Rattle.schedule.specs.declared.keeping.Lines.{Lines}
use Rattle.schedule.specs.declared.plan.Channel.{Channel}
use Rattle.schedule.specs.Planned.{channel_of}
use Rattle.dispatcher.specs.Access.{gone}
use Rattle.schedule.specs.Released.{released}
use Rattle.schedule.specs.Run.{messages_in}
use Rattle.schedule.specs.State.{ScheduleState, HasWith, RanWith}
use Rattle.schedule.proofs.Going.{sum_agree}
use Rattle.schedule.proofs.Released.{sum_low}
use Rattle.schedule.proofs.Releases.{gone_few}
use Rattle.schedule.proofs.Opening.{Fresh, fresh_start, fresh_more, fresh_begun, fresh_caught}
use Rattle.schedule.proofs.Receiving.{extend_append}

-- after the first channels were opened
abbrev pub opened_first : List ℕ → List Channel → ℕ → List Effect
opened_first ds cs i = extend ds [] (opens (map channel_of (take i cs)))

pub none_scripted : (ds : List ℕ) (cs : List Channel) (i : ℕ) → i ≤ length cs → length cs ≤ 64 → scripted (past_of (opened_first ds cs i)) ≡ 0
none_scripted ds cs i le few =
    (fresh_more ds [] 0 (map channel_of (take i cs)) (fresh_start ds)
    (omega (arith, length-map (take i cs) channel_of, length-take-le i cs le, le, few))).none_scripted

pub one_opened : (ds : List ℕ) (cs : List Channel) (i : ℕ) (x : Channel) → i < length cs → x ≡ get_or cs i x
    → answered ds (Open x.terms) (opened_first ds cs i) ≡ opened_first ds cs (i + 1)
one_opened ds cs i x lt is =
    sym (extend_append ds [] (opens (map channel_of (take i cs))) (Open x.terms ∷ []))
    ∙ ap (extend ds [])
    (sym (ap (λ ys. opens (map channel_of ys)) (ap (λ k. take k cs) (add-one i) ∙ take-suc cs i x lt ∙ ap (λ y. take i cs ++ y ∷ []) (sym is))
    ∙ ap opens (map-append channel_of (take i cs) (x ∷ []))
    ∙ map-append (λ (c : ChannelOf). Open c.terms) (map channel_of (take i cs)) (channel_of x ∷ [])))

pub all_opened : (ds : List ℕ) (cs : List Channel) → opened_first ds cs (length cs) ≡ extend ds [] (opens (map channel_of cs))
all_opened ds cs = ap (λ ys. extend ds [] (opens (map channel_of ys))) (take-length cs)

none_summed : (ns : List ℕ) → sum_by (λ c. 0) ns ≡ 0
none_summed [] = refl
none_summed (n ∷ ns) = omega (arith, none_summed ns)

no_messages : (ds : List ℕ) (es : List Effect) (n : ℕ) → Fresh ds es n → messages_in es ≡ 0
no_messages ds es n h = sum_agree (λ c. length (stream es c)) (λ c. 0) (opened (past_of es)) (λ c. ap length (h.no_stream c)) ∙ none_summed (channels (opened (past_of es)))

-- the run begins
pub begins : (how : Lines) (plan : Plan) (s : ScheduleState) → length plan.channels ≤ 64 → HasWith how plan (begun plan) s → s.messages ≡ 0 → s.latest ≡ 0 → RanWith how plan [] s
begins how plan s few has messages latest =
    let f = fresh_begun plan few in
    record {
      es = begun plan;
      ready =
          record {
            has = has;
            caught = fresh_caught plan.displays (begun plan) (length plan.channels) f;
            opened_is = f.opened_is;
            all_released = λ c low. all_had c low;
            messages_are = omega (arith, messages, no_messages plan.displays (begun plan) (length plan.channels) f);
          };
      rounds = λ later. start;
      taken = λ w. f.none_notified;
      latest_is = latest;
    }
  where
    all_had : (c : ℕ) → 1 ≤ c → gone s.dispatcher c ≡ length (stream (begun plan) c)
    all_had c low =
        let none : length (stream (begun plan) c) ≡ 0 = ap length ((fresh_begun plan few).no_stream c) in
        omega (arith, none, gone_few (begun plan) s.dispatcher c has.stands low)

-- none are released in its beginning
pub none_counted : (how : Lines) (plan : Plan) (s : ScheduleState) → length plan.channels ≤ 64 → HasWith how plan (begun plan) s → s.messages ≡ 0
none_counted how plan s few has =
    let none : released (begun plan) s.dispatcher ≡ 0 =
    sum_low (gone s.dispatcher) (λ c. 0) (opened (past_of (begun plan))) (λ c low high. none_of c low) ∙ none_summed (channels (opened (past_of (begun plan)))) in
    omega (arith, has.released_are, none)
  where
    none_of : (c : ℕ) → 1 ≤ c → gone s.dispatcher c ≡ 0
    none_of c low =
        let none : length (stream (begun plan) c) ≡ 0 = ap length ((fresh_begun plan few).no_stream c) in
        omega (arith, none, gone_few (begun plan) s.dispatcher c has.stands low)
