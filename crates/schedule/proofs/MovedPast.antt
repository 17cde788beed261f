-- A run that explains no causes, with a Move that bypassed the channels.
use Rattle.std.proofs.Common.{◌≡◌, ℕ, zero, suc, ◌+◌, ◌≤◌, nat_le, Bool, true, false, cond, List, [], ◌∷◌, ◌++◌, length, reverse, take, None, refl, sym, ap, ap₂, ◌∙◌, subst, arith, inl, inr}
use Rattle.std.specs.Prelude.{sum_by}
use Rattle.std.proofs.lemmas.Bool.{cases_Bool, leb-true, leb-false}
use Rattle.std.proofs.lemmas.List.{length-reverse, reverse-append, take_all}
use Rattle.input_types.specs.DeviceRule.{device_of}
use Rattle.input_types.specs.declared.message.Args.{Args}
use Rattle.input_types.specs.declared.message.Message.{Message}
use Rattle.window_snapshot.specs.Mask.{mask_has}
use Rattle.dispatch_calls.specs.declared.call.Call.TheVariants.{Notify, Pump}
use Rattle.dispatch_history.specs.Effect.{Effect, past_of, stream}
use Rattle.dispatch_history.specs.Effects.{channels}
use Rattle.dispatch_history.specs.History.{opened}
use Rattle.dispatch_history.specs.Legal.{answered}
use Rattle.dispatch_history.specs.Ordered.{is_scripted, scripted}
use Rattle.dispatch_history.specs.Plan.{Plan}
use Rattle.dispatch_history.specs.Reply.{reply_to}
use Rattle.dispatcher.proofs.DispatchChannels.Picking.{channel_low}
use Rattle.dispatcher.specs.Access.{gone, is_opened}
use Rattle.dispatcher.specs.Dispatching.{Dispatching, IsAfter}
use Rattle.dispatcher.specs.MovedOn.{MovesOn, last_moved}
use Rattle.dispatcher.proofs.Made.Following.{known_so}
use Rattle.stream_text.specs.Spelling.{message_line, message_lines}
use Rattle.schedule.specs.declared.keeping.Lines.{Lines}
use Rattle.schedule.specs.Draining.{WithLast, count_to}
use Rattle.schedule.specs.Lines.{lines_at}
use Rattle.schedule.specs.More.{ComesTo}
use Rattle.schedule.specs.Released.{AllReleased, KeepsUnfinished}
use Rattle.schedule.specs.State.{ScheduleState, HasWith, ReadyWith, counted}
use Rattle.schedule.proofs.Caused.{causes_next}
use Rattle.schedule.proofs.Counting.{opened_between}
use Rattle.schedule.proofs.Drained.{lines_next}
use Rattle.schedule.proofs.Going.{first_call}
use Rattle.schedule.proofs.More.{one_more}
use Rattle.schedule.proofs.Released.{left_by, released_stay, silent_stream, sum_next}
use Rattle.schedule.proofs.Releases.{none_gone}
use Rattle.schedule.proofs.Stepping.{has_step, lawful_of}
use Rattle.schedule.proofs.Twice.{no_more, quietly}

-- a sum over the channels where those of a mask have one more
pub moved_sum : (f g : ℕ → ℕ) (mask n : ℕ) → ((c : ℕ) → 1 ≤ c → c ≤ n → g c ≡ cond (mask_has mask c) (f c + 1) (f c))
    → sum_by g (channels n) ≡ sum_by f (channels n) + count_to n mask
moved_sum f g mask zero same = omega arith
moved_sum f g mask (suc n) same =
    let before : sum_by g (channels n) ≡ sum_by f (channels n) + count_to n mask = moved_sum f g mask n (λ c low high. same c low (omega (arith, high))) in
    let here : g (suc n) ≡ f (suc n) + cond (mask_has mask (suc n)) 1 0 =
    same (suc n) (omega arith) (omega arith) ∙ one (mask_has mask (suc n)) (f (suc n)) in
    omega (arith, sum_next f n, sum_next g n, sum_next (λ c. cond (mask_has mask c) 1 0) n, before, here)
  where
    one : (b : Bool) (m : ℕ) → cond b (m + 1) m ≡ m + cond b 1 0
    one true m = refl
    one false m = omega arith

module _ (how : Lines) (plan : Plan) (es : List Effect) (s t : ScheduleState) (now : ℕ) (args : Args) (sent : ℕ) (h : HasWith how plan es s)
    (moves : MovesOn now args sent s.dispatcher t.dispatcher) where
  abbrev one : List Effect
  one = answered plan.displays (Notify now args) es

  abbrev two : List Effect
  two = answered plan.displays (Pump now) one

  abbrev mid : ScheduleState
  mid = record s { dispatcher = moves.between; calls = counted (s.calls + 1) }

  -- the Move is handed in
  has_one : s.causes ≡ None → HasWith how plan one mid
  has_one none =
      let next : s.next ≡ is_scripted (Notify now args) + scripted (past_of es) = omega (arith, h.next_is) in
      has_step how plan es s mid h moves.first_made.displays_are moves.first_made.gone_are moves.first_made.anrs_are refl (Notify now args)
      (quietly (Notify now args) es s.dispatcher.displays s.causes s.causes moves.between none refl
      (known_so (Notify now args) s.dispatcher moves.between moves.first_made es h.stands))
      refl refl next refl

  -- and bypasses the channels
  there : HasWith how plan one mid → IsAfter two t.dispatcher
  there has = subst (λ ds. IsAfter (answered ds (Pump now) one) t.dispatcher) has.displays_are (moves.known one has.stands)

  abbrev last : ℕ → Message
  last c = last_moved two (device_of args) t.dispatcher c

  streams : HasWith how plan one mid → (c : ℕ) → 1 ≤ c → stream two c ≡ cond (mask_has sent c) (last c ∷ stream one c) (stream one c)
  streams has c low =
      subst (λ ds. stream (answered ds (Pump now) one) c
      ≡ cond (mask_has sent c) (last_moved (answered ds (Pump now) one) (device_of args) t.dispatcher c ∷ stream one c) (stream one c))
      has.displays_are ((moves.sends one has.stands).streams_are c low)

  gone_one : HasWith how plan one mid → (c : ℕ) → 1 ≤ c → gone t.dispatcher c ≡ cond (mask_has sent c) (gone moves.between c + 1) (gone moves.between c)
  gone_one has c low = (moves.sends one has.stands).gone_are c low

  all_gone : HasWith how plan one mid → (c : ℕ) → mask_has sent c ≡ true → gone t.dispatcher c ≡ length (stream two c)
  all_gone has c y =
      subst (λ ds. gone t.dispatcher c ≡ length (stream (answered ds (Pump now) one) c)) has.displays_are ((moves.sends one has.stands).all_gone c y)

  -- only channels that were opened were sent it
  bound : HasWith how plan one mid → (c : ℕ) → 1 ≤ c → mask_has sent c ≡ true → c ≤ opened (past_of one)
  bound has c low y = elim (cases_Bool (nat_le c (opened (past_of one)))) [
    | inl le ↦ leb-true c (opened (past_of one)) le
    | inr gt ↦
        let none : gone t.dispatcher c ≡ 0 = none_gone two t.dispatcher c (there has) (leb-false c (opened (past_of one)) gt) in
        let some : gone t.dispatcher c ≡ gone moves.between c + 1 =
        gone_one has c low ∙ ap (λ b. cond b (gone moves.between c + 1) (gone moves.between c)) y in
        absurd (omega (arith, none, some))
  ]

  -- its lines are behind those before
  line_here : HasWith how plan one mid → (c : ℕ) → 1 ≤ c → c ≤ length s.lines → mask_has sent c ≡ true
      → lines_at s.lines c ++ message_line (last c) ≡ message_lines (take (gone t.dispatcher c) (reverse (stream two c)))
  line_here has c low high y =
      let more : stream two c ≡ last c ∷ stream one c = streams has c low ∙ ap (λ b. cond b (last c ∷ stream one c) (stream one c)) y in
      let long : length (stream two c) ≡ suc (length (stream one c)) = ap length more in
      let all : gone t.dispatcher c ≡ length (stream two c) = all_gone has c y in
      let next : gone t.dispatcher c ≡ gone moves.between c + 1 =
      gone_one has c low ∙ ap (λ b. cond b (gone moves.between c + 1) (gone moves.between c)) y in
      let before : length (reverse (stream one c)) ≤ gone moves.between c = omega (arith, long, all, next, length-reverse (stream one c)) in
      let after : length (reverse (stream two c)) ≤ gone t.dispatcher c = omega (arith, all, length-reverse (stream two c)) in
      ap (λ ls. ls ++ message_line (last c)) (has.drained c low high)
      ∙ ap (λ ms. message_lines ms ++ message_line (last c)) (take_all (gone moves.between c) (reverse (stream one c)) before)
      ∙ sym (lines_next (reverse (stream one c)) (last c))
      ∙ ap message_lines (sym (reverse-append (last c ∷ []) (stream one c)))
      ∙ ap (λ ms. message_lines (reverse ms)) (sym more)
      ∙ ap message_lines (sym (take_all (gone t.dispatcher c) (reverse (stream two c)) after))

  line_other : HasWith how plan one mid → (c : ℕ) → 1 ≤ c → c ≤ length s.lines → mask_has sent c ≡ false
      → lines_at s.lines c ≡ message_lines (take (gone t.dispatcher c) (reverse (stream two c)))
  line_other has c low high n =
      let same : stream two c ≡ stream one c = streams has c low ∙ ap (λ b. cond b (last c ∷ stream one c) (stream one c)) n in
      let stays : gone t.dispatcher c ≡ gone moves.between c =
      gone_one has c low ∙ ap (λ b. cond b (gone moves.between c + 1) (gone moves.between c)) n in
      has.drained c low high ∙ ap₂ (λ g (ms : List Message). message_lines (take g (reverse ms))) (sym stays) (sym same)

  pub has_moved : s.causes ≡ None → t.causes ≡ s.causes → t.next ≡ s.next → t.calls ≡ counted (s.calls + 2)
      → ((n : ℕ) → ((c : ℕ) → mask_has sent c ≡ true → c ≤ n) → t.messages ≡ counted (s.messages + count_to n sent))
      → ((fs : List Effect) → IsAfter fs t.dispatcher → ((c : ℕ) → mask_has sent c ≡ true → is_opened fs c ≡ true)
      → ((c : ℕ) → mask_has sent c ≡ true → gone t.dispatcher c ≡ length (stream fs c))
      → WithLast sent (device_of args) fs t.dispatcher s.lines t.lines)
      → HasWith how plan (answered plan.displays (Pump now) (answered plan.displays (Notify now args) es)) t
  has_moved none causes next calls messages lines =
      let has = has_one none in
      let counts : t.messages ≡ counted (s.messages + count_to (opened (past_of one)) sent) =
      messages (opened (past_of one)) (λ c y. bound has c (channel_low sent c y) y) in
      let sum : sum_by (gone t.dispatcher) (channels (opened (past_of one)))
      ≡ sum_by (gone moves.between) (channels (opened (past_of one))) + count_to (opened (past_of one)) sent =
      moved_sum (gone moves.between) (gone t.dispatcher) sent (opened (past_of one)) (λ c low high. gone_one has c low) in
      let more = lines two (there has)
      (λ c y. opened_between two c (channel_low sent c y) (bound has c (channel_low sent c y) y)) (all_gone has) in
      let next_then : t.next ≡ is_scripted (Pump now) + scripted (past_of one) = omega (arith, next, has.next_is) in
      record {
        stands = there has;
        displays_are = moves.displays_are ∙ has.displays_are;
        noted = moves.anrs_are ∙ has.noted;
        drained = λ c low high.
            let within : c ≤ length s.lines = subst (λ n. c ≤ n) more.0 high in
            elim (cases_Bool (mask_has sent c)) [
              | inl y ↦
                  more.1 c low within
                  ∙ ap (λ b. cond b (lines_at s.lines c ++ message_line (last c)) (lines_at s.lines c)) y
                  ∙ line_here has c low within y
              | inr n ↦
                  more.1 c low within
                  ∙ ap (λ b. cond b (lines_at s.lines c ++ message_line (last c)) (lines_at s.lines c)) n
                  ∙ line_other has c low within n
            ];
        as_many = more.0 ∙ has.as_many;
        causes_are = causes_next how plan.displays (Pump now) (reply_to one (Pump now)) one s.causes t.causes has.causes_are (causes ∙ no_more s.causes _ none);
        next_is = next_then;
        calls_are = omega (arith, calls, has.calls_are);
        released_are = omega (arith, counts, has.released_are, sum);
      }

  -- after a round all is released
  pub all_moved : s.causes ≡ None → AllReleased es s.dispatcher → AllReleased two t.dispatcher
  all_moved none all c low =
      let has = has_one none in
      let l = lawful_of how plan es s h in
      let before : AllReleased one moves.between =
      released_stay es one s.dispatcher moves.between (λ d. silent_stream plan.displays (Notify now args) es d l refl) moves.first_made.gone_are all in
      elim (cases_Bool (mask_has sent c)) [
        | inl y ↦ all_gone has c y
        | inr n ↦
            gone_one has c low
            ∙ ap (λ b. cond b (gone moves.between c + 1) (gone moves.between c)) n
            ∙ before c low
            ∙ ap length (sym (streams has c low ∙ ap (λ b. cond b (last c ∷ stream one c) (stream one c)) n))
      ]

-- nothing that was done is lost
pub moved_more : (es : List Effect) (d later : Dispatching) (now : ℕ) (args : Args) (sent : ℕ) → MovesOn now args sent d later → ComesTo es d → ComesTo es later
moved_more es d later now args sent moves k =
    one_more es moves.between later (Pump now) moves.displays_are (λ fs s. (reply_to fs (Pump now), moves.known fs s))
    (one_more es d moves.between (Notify now args) moves.first_made.displays_are (known_so (Notify now args) d moves.between moves.first_made) k)

-- where no channel releases a message, what is kept after a round is unfinished
pub left_two : (how : Lines) (plan : Plan) (es : List Effect) (s : ScheduleState) (d : Dispatching) (now : ℕ) (args : Args) → ReadyWith how plan es s
    → ((c : ℕ) → 1 ≤ c → gone d c ≡ gone s.dispatcher c)
    → KeepsUnfinished (answered plan.displays (Pump now) (answered plan.displays (Notify now args) es)) d
left_two how plan es s d now args r same =
    let one = answered plan.displays (Notify now args) es in
    let l = lawful_of how plan es s r.has in
    let first = first_call plan.displays es (Notify now args) l r.caught refl in
    left_by plan.displays (Pump now) one s.dispatcher d first.lawful refl same
    (released_stay es one s.dispatcher s.dispatcher (λ c. silent_stream plan.displays (Notify now args) es c l refl) (λ c low. refl) r.all_released)
