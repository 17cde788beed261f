-- What the part of a channel in a step changes, and which parts there can be.
use Rattle.std.proofs.Common.{◌≡◌, ℕ, suc, ◌+◌, ◌≤◌, ◌<◌, ◌==◌, nat_le, nat_lt, Bool, true, false, not, ◌&&◌, cond, List, ◌∷◌, length, Option, refl, sym, subst, inl, inr, arith}
use Rattle.std.proofs.lemmas.Bool.{cases_eq, eq-eqb, ne_eqb, and_parts, ltb-true, leb-true, not-true}
use Rattle.input_types.specs.declared.message.Message.{Message}
use Rattle.dispatcher.specs.declared.input_channel.unfinished.Unfinished.{Unfinished}
use Rattle.dispatcher.specs.InputChannel.Order.{without}
use Rattle.dispatcher.specs.InputChannel.State.{ChannelState}
use Rattle.dispatch_calls.specs.declared.call.Call.{Call}
use Rattle.dispatch_calls.specs.declared.call.Call.TheVariants.{Open, Receive, Finish}
use Rattle.dispatch_calls.specs.declared.reply.Reply.{Reply}
use Rattle.dispatch_calls.specs.declared.reply.Reply.TheVariants.{Opened, Done, Got, Gone, Empty, UnknownSeq}
use Rattle.dispatch_history.specs.History.{live, terms_after, received, received_after, finished_after}
use Rattle.dispatch_history.specs.Effect.{Effect, past_of}
use Rattle.dispatch_history.specs.Delivery.{published, is_finished}
use Rattle.dispatch_history.specs.Reply.{reply_to, receive_reply, finish_reply, got_reply}
use Rattle.dispatcher.specs.DispatchTables.Channel.{Part, Opens, Receives, Finishes, Untouched, part_of, with_part}
use Rattle.dispatch_calls.specs.declared.terms.Terms.{Terms}

-- the terms, the count of received messages and the finished numbers after a part
abbrev pub terms_by : Part → Terms → Terms
terms_by (Opens terms) before = terms
terms_by part before = before

abbrev pub received_by : Part → ℕ → ℕ
received_by Receives before = suc before
received_by part before = before

abbrev pub finished_by : Part → List ℕ → List ℕ
finished_by (Finishes seq) before = seq ∷ before
finished_by part before = before

abbrev pub count_by : Part → ℕ → ℕ
count_by (Finishes seq) before = before + 1
count_by part before = before

abbrev pub unfinished_by : Part → List Unfinished → List Unfinished
unfinished_by (Finishes seq) before = without seq before
unfinished_by part before = before

pub terms_part : (call : Call) (answer : Reply) (c : ℕ) (n : Terms)
    → terms_after call answer c n ≡ terms_by (part_of call answer c) n
terms_part (Open terms) (Opened k) c n = here (c == k)
  where
    here : (b : Bool) → cond b terms n ≡ terms_by (cond b (Opens terms) Untouched) n
    here true = refl
    here false = refl
terms_part (Receive k) (Got m) c n = here (c == k)
  where
    here : (b : Bool) → n ≡ terms_by (cond b Receives Untouched) n
    here true = refl
    here false = refl
terms_part (Finish now k seq) Done c n = here (c == k)
  where
    here : (b : Bool) → n ≡ terms_by (cond b (Finishes seq) Untouched) n
    here true = refl
    here false = refl
terms_part call answer c n = refl

pub received_part : (call : Call) (answer : Reply) (c n : ℕ)
    → received_after call answer c n ≡ received_by (part_of call answer c) n
received_part (Open terms) (Opened k) c n = here (c == k)
  where
    here : (b : Bool) → n ≡ received_by (cond b (Opens terms) Untouched) n
    here true = refl
    here false = refl
received_part (Receive k) (Got m) c n = here (c == k)
  where
    here : (b : Bool) → cond b (suc n) n ≡ received_by (cond b Receives Untouched) n
    here true = refl
    here false = refl
received_part (Finish now k seq) Done c n = here (c == k)
  where
    here : (b : Bool) → n ≡ received_by (cond b (Finishes seq) Untouched) n
    here true = refl
    here false = refl
received_part call answer c n = refl

pub finished_part : (call : Call) (answer : Reply) (c : ℕ) (ns : List ℕ)
    → finished_after call answer c ns ≡ finished_by (part_of call answer c) ns
finished_part (Open terms) (Opened k) c ns = here (c == k)
  where
    here : (b : Bool) → ns ≡ finished_by (cond b (Opens terms) Untouched) ns
    here true = refl
    here false = refl
finished_part (Receive k) (Got m) c ns = here (c == k)
  where
    here : (b : Bool) → ns ≡ finished_by (cond b Receives Untouched) ns
    here true = refl
    here false = refl
finished_part (Finish now k seq) Done c ns = here (c == k)
  where
    here : (b : Bool) → cond b (seq ∷ ns) ns ≡ finished_by (cond b (Finishes seq) Untouched) ns
    here true = refl
    here false = refl
finished_part call answer c ns = refl

pub count_part : (p : Part) (ns : List ℕ) → length (finished_by p ns) ≡ count_by p (length ns)
count_part (Finishes seq) ns = omega arith
count_part (Opens terms) ns = refl
count_part Receives ns = refl
count_part Untouched ns = refl

-- a channel after its part, field by field
abbrev pub by_part : Part → ChannelState → ChannelState
by_part p s =
    record {
      terms = terms_by p s.terms;
      gone = s.gone;
      messages = s.messages;
      published = s.published;
      received = received_by p s.received;
      finished = count_by p s.finished;
      unfinished = unfinished_by p s.unfinished;
      spare = s.spare;
    }

pub part_fields : (p : Part) (s : ChannelState) → with_part p s ≡ by_part p s
part_fields (Opens terms) s = refl
part_fields Receives s = let same : s.received + 1 ≡ suc s.received = omega arith in λ i. record s { received = same i }
part_fields (Finishes seq) s = refl
part_fields Untouched s = refl

-- a part that can be: what is received is published, and what is finished is received and not finished
abbrev pub CanBe : List Effect → ℕ → Part → Type 0
CanBe es c (Opens terms) = Unit {0}
CanBe es c Receives = received (past_of es) c < published es c
CanBe es c (Finishes seq) = (1 ≤ seq) × (seq ≤ received (past_of es) c) × (is_finished (past_of es) c seq ≡ false)
CanBe es c Untouched = Unit {0}

got_when : (a b : Bool) (o : Option Message) (m : Message) → Got m ≡ cond a Gone (cond b (got_reply o) Empty) → b ≡ true
got_when true b o m e = absurd (cc e)
got_when false true o m e = refl
got_when false false o m e = absurd (cc e)

pub done_when : (a b : Bool) → Done ≡ cond a Gone (cond b Done UnknownSeq) → b ≡ true
done_when true b e = absurd (cc e)
done_when false true e = refl
done_when false false e = absurd (cc e)

can_receive : (es : List Effect) (k : ℕ) (m : Message) → Got m ≡ receive_reply es k
    → received (past_of es) k < published es k
can_receive es k m e =
    ltb-true (received (past_of es) k) (published es k)
    (got_when (not (live (past_of es) k)) (nat_lt (received (past_of es) k) (published es k)) _ m e)

can_finish : (es : List Effect) (k seq : ℕ) → Done ≡ finish_reply es k seq → CanBe es k (Finishes seq)
can_finish es k seq e =
    let b : (nat_le 1 seq && nat_le seq (received (past_of es) k) && not (is_finished (past_of es) k seq)) ≡ true = done_when (not (live (past_of es) k)) _ e in
    let x = and_parts (nat_le 1 seq && nat_le seq (received (past_of es) k)) (not (is_finished (past_of es) k seq)) b in
    let y = and_parts (nat_le 1 seq) (nat_le seq (received (past_of es) k)) x.0 in
    (leb-true 1 seq y.0, leb-true seq (received (past_of es) k) y.1, not-true (is_finished (past_of es) k seq) x.1)

pub can_be : (es : List Effect) (c : ℕ) (call : Call) (answer : Reply) → answer ≡ reply_to es call
    → CanBe es c (part_of call answer c)
can_be es c (Open terms) (Opened k) r = here (c == k)
  where
    here : (b : Bool) → CanBe es c (cond b (Opens terms) Untouched)
    here true = tt
    here false = tt
can_be es c (Receive k) (Got m) r =
    elim (cases_eq c k) [
      | inl e ↦ rw (eq-eqb c k e) (subst (λ j. received (past_of es) j < published es j) (sym e) (can_receive es k m r))
      | inr ne ↦ rw (ne_eqb c k ne) tt
    ]
can_be es c (Finish now k seq) Done r =
    elim (cases_eq c k) [
      | inl e ↦ rw (eq-eqb c k e) (subst (λ j. CanBe es j (Finishes seq)) (sym e) (can_finish es k seq r))
      | inr ne ↦ rw (ne_eqb c k ne) tt
    ]
can_be es c call answer r = tt
