-- What holds after a client received its next message, and finished it if it finishes by itself.
use Rattle.std.proofs.Common.{◌≡◌, ℕ, suc, ◌+◌, ◌-◌, ◌^◌, ◌≤◌, ◌<◌, ◌==◌, ◌&&◌, ◌||◌, min, Bool, true, false, not, cond, List, [], ◌∷◌, ◌++◌, length, reverse, Option, Some, None, refl, sym, ap, ◌∙◌, subst, inl, inr, arith}
use Rattle.std.specs.Prelude.{nat_lt, nat_le, slice_get}
use Rattle.std.specs.List.{list_any}
use Rattle.std.proofs.lemmas.Bool.{cases_lt, eq-eqb, le-leb, le-ltb, lt-ltb, ltb-true, true≢false}
use Rattle.input_types.specs.declared.message.Message.{Message}
use Rattle.dispatch_calls.specs.declared.call.Call.{Call}
use Rattle.input_types.specs.declared.motion.MotionAction.TheVariants.{Down, Move}
use Rattle.dispatch_calls.specs.declared.call.Call.TheVariants.{Finish, Open, Receive, Windows}
use Rattle.dispatch_calls.specs.declared.reply.Reply.TheVariants.{Done, Empty, Gone, UnknownSeq}
use Rattle.dispatch_history.specs.Delivery.{is_finished, published}
use Rattle.dispatch_history.specs.Effect.{Effect, past_of, stream}
use Rattle.dispatch_history.specs.History.{finished, finished_after, live, received, received_after}
use Rattle.dispatch_history.specs.Legal.{answered, run}
use Rattle.dispatch_history.specs.Reply.{got_reply, receive_reply, reply_to}
use Rattle.dispatch_history.proofs.Worked.{usual, at, moved, one_display, window}
use Rattle.dispatcher.proofs.DispatchTables.Channels.{numbered}
use Rattle.dispatcher.specs.Access.{got}
use Rattle.dispatcher.specs.Memory.{MayCount}
use Rattle.live_input.specs.declared.client.Seat.{Seat}
use Rattle.live_input.specs.Options.{no_options}
use Rattle.live_input.specs.Receiving.{IsEasy, may_count, own_finish, receives, receiving, with_call}
use Rattle.live_input.specs.ReceivingLaws.{OtherFinishLaw, OwnFinishLaw}
use Rattle.live_input.specs.Seats.{IsHeld, taken_by, user_data_of}
use Rattle.live_input.specs.Standing.{LiveIs}
use Rattle.live_input.specs.State.{LiveState}
use Rattle.live_input.proofs.Ordering.{got_published}
use Rattle.live_input.proofs.Outgoing.{got_number, live_lawful}

-- the call by which a client finishes a message needs no memory, and can be counted
pub record IsOwnFinish (seats : List Seat) (counted : Bool) (call : Call) : Type 0 where
  pub easy : IsEasy seats call
  pub may : counted ≡ true

pub own_finish_is : (seats : List Seat) (finishes counted : Bool) (now c : ℕ) (o : Option Message) (call : Call) → IsHeld c seats
    → own_finish finishes counted now c o ≡ Some call → IsOwnFinish seats counted call
own_finish_is seats true true now c (Some m) call held e =
    let same : Finish now c m.seq ≡ call = cc in
    subst (IsOwnFinish seats true) same (record { easy = record { plain = refl; own = held; calm = λ es. tt }; may = refl })
own_finish_is seats true true now c None call held e = absurd cc
own_finish_is seats true false now c o call held e = absurd cc
own_finish_is seats false counted now c o call held e = absurd cc

-- the count that is kept says whether one more call can be counted
pub counted_is : (made n : ℕ) → made ≡ min n (2 ^ 64 - 1) → nat_lt made (2 ^ 64 - 1) ≡ nat_lt n (2 ^ 64 - 1)
counted_is made n is =
    elim (cases_lt n (2 ^ 64 - 1)) [
      | inl lt ↦ lt-ltb made (2 ^ 64 - 1) (omega (arith, is, lt)) ∙ sym (lt-ltb n (2 ^ 64 - 1) lt)
      | inr le ↦ le-ltb made (2 ^ 64 - 1) (omega (arith, is, le)) ∙ sym (le-ltb n (2 ^ 64 - 1) le)
    ]

pub may_count_is : (es : List Effect) → may_count es ≡ true → MayCount es
may_count_is es e = ltb-true (length es) (2 ^ 64 - 1) e

-- what holds of a history, and of one with a finish more if that can be counted, holds of it with the finish that is made
own_keeps : (P : List Effect → Type 0) (ds : List ℕ) (finishes counted : Bool) (now c : ℕ) (o : Option Message) (es : List Effect) → P es
    → (counted ≡ true → (m : Message) → P (answered ds (Finish now c m.seq) es)) → P (with_call ds (own_finish finishes counted now c o) es)
own_keeps P ds true true now c (Some m) es p q = q refl m
own_keeps P ds true true now c None es p q = p
own_keeps P ds true false now c o es p q = p
own_keeps P ds false counted now c o es p q = p

-- it received as many messages as by the receive alone
pub receiving_received : (ds : List ℕ) (s : Seat) (now c : ℕ) (es : List Effect)
    → received (past_of (receiving ds s now c es)) c ≡ received (past_of (answered ds (Receive c) es)) c
receiving_received ds s now c es =
    let fs = answered ds (Receive c) es in
    own_keeps (λ gs. received (past_of gs) c ≡ received (past_of fs) c) ds s.options.finishes (may_count fs) now c (got (reply_to es (Receive c))) fs refl
    (λ few m. refl)

-- and the calls can still be counted
pub receiving_few : (ds : List ℕ) (s : Seat) (now c : ℕ) (es : List Effect) → length es + 1 < 2 ^ 64 → length (receiving ds s now c es) < 2 ^ 64
receiving_few ds s now c es few =
    let fs = answered ds (Receive c) es in
    own_keeps (λ gs. length gs < 2 ^ 64) ds s.options.finishes (may_count fs) now c (got (reply_to es (Receive c))) fs (omega (arith, few))
    (λ may m. let less = may_count_is fs may in omega (arith, less))

-- the same of equal parts
pub received_same : (ds : List ℕ) (es fs : List Effect) (c : ℕ) (f g : Bool) (t u : ℕ) (o p : Option Message) (s : LiveState) → f ≡ g → t ≡ u → o ≡ p
    → LiveIs ds (with_call ds (own_finish f (may_count fs) t c o) fs) s → LiveIs ds (with_call ds (own_finish g (may_count fs) u c p) fs) s
received_same ds es fs c f g t u o p s ef et eo h =
    subst (λ b. LiveIs ds (with_call ds (own_finish b (may_count fs) u c p) fs) s) ef
    (subst (λ n. LiveIs ds (with_call ds (own_finish f (may_count fs) n c p) fs) s) et
    (subst (λ m. LiveIs ds (with_call ds (own_finish f (may_count fs) t c m) fs) s) eo h))

-- the same of what is finished, by what the service finds
pub with_own : (ds : List ℕ) (es : List Effect) (t : LiveState) (o r : Option Call) → r ≡ o → LiveIs ds (with_call ds r es) t → LiveIs ds (with_call ds o es) t
with_own ds es t o r e h = subst (λ q. LiveIs ds (with_call ds q es) t) e h

-- what the service finds to finish is what there is to finish after the history
pub own_is : (es : List Effect) (s : LiveState) (f : Bool) (c : ℕ) (o : Option Message) (r : Option Call) (now made : ℕ)
    → s.steps.made ≡ min (length es) (2 ^ 64 - 1) → now ≡ s.clock → made ≡ s.steps.made
    → r ≡ own_finish f (nat_lt made (2 ^ 64 - 1)) now c o → r ≡ own_finish f (may_count es) s.clock c o
own_is es s f c o r now made is same_now same_made e =
    e ∙ ap (λ n. own_finish f (nat_lt made (2 ^ 64 - 1)) n c o) same_now
    ∙ ap (λ n. own_finish f (nat_lt n (2 ^ 64 - 1)) s.clock c o) same_made
    ∙ ap (λ b. own_finish f b s.clock c o) (counted_is s.steps.made (length es) is)

-- one message more is received
received_one : (es : List Effect) (c : ℕ) (m : Message) → got (reply_to es (Receive c)) ≡ Some m
    → received_after (Receive c) (receive_reply es c) c (received (past_of es) c) ≡ cond (c == c) (suc (received (past_of es) c)) (received (past_of es) c)
received_one es c m =
    by_tests (live (past_of es) c) (nat_lt (received (past_of es) c) (published es c)) (slice_get (reverse (stream es c)) (received (past_of es) c))
  where
    by_tests : (a b : Bool) (o : Option Message) → got (cond (not a) Gone (cond b (got_reply o) Empty)) ≡ Some m
        → received_after (Receive c) (cond (not a) Gone (cond b (got_reply o) Empty)) c (received (past_of es) c)
        ≡ cond (c == c) (suc (received (past_of es) c)) (received (past_of es) c)
    by_tests false b o e = absurd cc
    by_tests true false o e = absurd cc
    by_tests true true None e = absurd cc
    by_tests true true (Some x) e = refl

-- a received message of a live channel is finished after a finish, whether or not it was before
finish_done : (ds : List ℕ) (es : List Effect) (now c seq : ℕ) → live (past_of es) c ≡ true → 1 ≤ seq → seq ≤ received (past_of es) c
    → is_finished (past_of (answered ds (Finish now c seq) es)) c seq ≡ true
finish_done ds es now c seq lives low high =
    by_tests (live (past_of es) c) (nat_le 1 seq) (nat_le seq (received (past_of es) c)) (is_finished (past_of es) c seq) lives (le-leb 1 seq low)
    (le-leb seq (received (past_of es) c) high) refl
  where
    by_tests : (a b d f : Bool) → a ≡ true → b ≡ true → d ≡ true → is_finished (past_of es) c seq ≡ f
        → list_any (λ n. n == seq) (finished_after (Finish now c seq) (cond (not a) Gone (cond (b && d && not f) Done UnknownSeq)) c (finished (past_of es) c)) ≡ true
    by_tests false b d f ea eb ed e = absurd (true≢false (sym ea))
    by_tests true false d f ea eb ed e = absurd (true≢false (sym eb))
    by_tests true true false f ea eb ed e = absurd (true≢false (sym ed))
    by_tests true true true true ea eb ed e = e
    by_tests true true true false ea eb ed e =
        ap (λ b. list_any (λ n. n == seq) (cond b (seq ∷ (finished (past_of es) c)) (finished (past_of es) c))) (eq-eqb c c refl)
        ∙ ap (λ b. b || list_any (λ n. n == seq) (finished (past_of es) c)) (eq-eqb seq seq refl)

pub own_finish_law : OwnFinishLaw
own_finish_law ds es s c m h f g few =
    let fs = answered ds (Receive c) es in
    let now = s.clock in
    let o = got (reply_to es (Receive c)) in
    let l = live_lawful ds es s h in
    let number = got_number es c m (numbered ds es c l) g in
    let lives = (got_published es c m g).0 in
    let more : received (past_of fs) c ≡ suc (received (past_of es) c) =
    received_one es c m g ∙ ap (λ b. cond b (suc (received (past_of es) c)) (received (past_of es) c)) (eq-eqb c c refl) in
    let is : receives ds es s c ≡ answered ds (Finish now c m.seq) fs =
    ap (λ b. with_call ds (own_finish b (may_count fs) now c o) fs) f
    ∙ ap (λ b. with_call ds (own_finish true b now c o) fs) (lt-ltb (length fs) (2 ^ 64 - 1) (omega (arith, few)))
    ∙ ap (λ p. with_call ds (own_finish true true now c p) fs) g in
    ap (λ gs. is_finished (past_of gs) c m.seq) is ∙ finish_done ds fs now c m.seq lives (omega (arith, number)) (omega (arith, number, more))

pub other_finish_law : OtherFinishLaw
other_finish_law ds es s c f =
    let fs = answered ds (Receive c) es in
    ap (λ b. with_call ds (own_finish b (may_count fs) s.clock c (got (reply_to es (Receive c)))) fs) f

-- A finger goes down and moves. A client that finishes by itself receives the first message, and another one does.
abbrev touched : List Effect
touched =
    run one_display
    (reverse
    (Open usual ∷ Windows 0 (window 1 0 0 0 1080 2400 ∷ []) ∷ [] ++ moved 1000 Down 0 (at 0 540 1200 ∷ []) ++ moved 2000 Move 0 (at 0 541 1200 ∷ [])))

abbrev own : Seat
own = taken_by 1 0 (record { user_data = 7; finishes = true })

it_is_finished_as_it_is_received : finished (past_of (receiving one_display own 2000 1 touched)) 1 ≡ 1 ∷ []
it_is_finished_as_it_is_received = refl

and_then_the_next_one : finished (past_of (receiving one_display own 2000 1 (receiving one_display own 2000 1 touched))) 1 ≡ 2 ∷ 1 ∷ []
and_then_the_next_one = refl

of_another_client_it_is_not : finished (past_of (receiving one_display (taken_by 1 0 no_options) 2000 1 touched)) 1 ≡ []
of_another_client_it_is_not = refl

where_there_is_no_message_nothing_is_finished :
    length (receiving one_display own 2000 1 (receiving one_display own 2000 1 (receiving one_display own 2000 1 touched))) ≡ length touched + 5
where_there_is_no_message_nothing_is_finished = refl

it_has_its_user_data : user_data_of (own ∷ []) (record { channel = 1; generation = 1 }) ≡ Some 7
it_has_its_user_data = refl

an_earlier_client_has_not : user_data_of (own ∷ []) (record { channel = 1; generation = 0 }) ≡ None
an_earlier_client_has_not = refl
