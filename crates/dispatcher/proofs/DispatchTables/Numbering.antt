-- Messages that are sent come behind the others, and all are numbered one by one.
use Rattle.std.proofs.Common.{◌≡◌, ℕ, zero, suc, ◌+◌, ◌-◌, List, [], ◌∷◌, ◌++◌, length, reverse, take, drop, refl, sym, ap, ◌∙◌, subst, arith, append_assoc, append-nil, length-append}
use Rattle.std.proofs.lemmas.List.{reverse-append, length-reverse}
use Rattle.input_types.specs.declared.message.Body.{Body}
use Rattle.input_types.specs.declared.message.Message.{Message}
use Rattle.dispatcher.specs.InputChannel.State.{ChannelState, sent, enqueued}
use Rattle.dispatch_history.specs.Effect.{sent_on}
use Rattle.dispatch_history.specs.Known.{IsNumbered}
use Rattle.dispatcher.specs.DispatchTables.Channel.{NumberedFrom, enqueued_all}

-- what is sent behind n messages, oldest first
abbrev pub messages_from : ℕ → ℕ → List Body → List Message
messages_from now n [] = []
messages_from now n (b ∷ bs) = record { seq = 1 + n; moment = now; body = b } ∷ messages_from now (suc n) bs

pub length-messages : (now n : ℕ) (bs : List Body) → length (messages_from now n bs) ≡ length bs
length-messages now n [] = refl
length-messages now n (b ∷ bs) = ap suc (length-messages now (suc n) bs)

pub reverse_sent : (now : ℕ) (bs : List Body) (ms : List Message)
    → reverse (sent_on now bs ms) ≡ reverse ms ++ messages_from now (length ms) bs
reverse_sent now [] ms = sym (append-nil (reverse ms))
reverse_sent now (b ∷ bs) ms =
    let m : Message = record { seq = 1 + length ms; moment = now; body = b } in
    reverse_sent now bs (m ∷ ms)
    ∙ ap (λ xs. xs ++ messages_from now (suc (length ms)) bs) (reverse-append (m ∷ []) ms)
    ∙ append_assoc (reverse ms) (m ∷ []) (messages_from now (suc (length ms)) bs)

pub length-sent_on : (now : ℕ) (bs : List Body) (ms : List Message) → length (sent_on now bs ms) ≡ length ms + length bs
length-sent_on now [] ms = omega arith
length-sent_on now (b ∷ bs) ms =
    let m : Message = record { seq = 1 + length ms; moment = now; body = b } in
    let more : length (sent_on now bs (m ∷ ms)) ≡ length (m ∷ ms) + length bs = length-sent_on now bs (m ∷ ms) in
    more ∙ omega arith

-- everything that is enqueued at once
pub enqueued_is : (now : ℕ) (bs : List Body) (s : ChannelState) (n : ℕ) → sent s ≡ n
    → enqueued_all bs now s ≡ record s { messages = s.messages ++ messages_from now n bs; spare = s.spare - length bs }
enqueued_is now [] s n e = λ i. record s { messages = sym (append-nil s.messages) i; spare = none i }
  where
    none : s.spare ≡ s.spare - 0
    none = omega arith
enqueued_is now (b ∷ bs) s n e =
    enqueued_is now bs (enqueued b now s) (suc n) more
    ∙ (λ i. record s { messages = (append_assoc s.messages (m (sent s + 1) ∷ []) (messages_from now (suc n) bs) ∙ first) i; spare = less i })
  where
    m : ℕ → Message
    m k = record { seq = k; moment = now; body = b }

    more : sent (enqueued b now s) ≡ suc n
    more = omega (arith, e, length-append s.messages (m (sent s + 1) ∷ []))

    first : s.messages ++ m (sent s + 1) ∷ messages_from now (suc n) bs ≡ s.messages ++ m (1 + n) ∷ messages_from now (suc n) bs
    first = let same : sent s + 1 ≡ 1 + n = omega (arith, e) in ap (λ k. s.messages ++ m k ∷ messages_from now (suc n) bs) same

    less : s.spare - 1 - length bs ≡ s.spare - suc (length bs)
    less = omega arith

-- messages numbered after others
pub numbered-append : (n k : ℕ) (xs ys : List Message) → NumberedFrom n xs → n + length xs ≡ k → NumberedFrom k ys
    → NumberedFrom n (xs ++ ys)
numbered-append n k [] ys h e g = let same : k ≡ n = omega (arith, e) in subst (λ j. NumberedFrom j ys) same g
numbered-append n k (x ∷ xs) ys h e g = (h.0, numbered-append (suc n) k xs ys h.1 (omega (arith, e)) g)

pub numbered-reverse : (ms : List Message) → IsNumbered ms → NumberedFrom 0 (reverse ms)
numbered-reverse [] h = tt
numbered-reverse (m ∷ ms) h =
    let seq : m.seq ≡ suc (length ms) = omega (arith, h.0) in
    subst (λ xs. NumberedFrom 0 xs) (sym (reverse-append (m ∷ []) ms))
    (numbered-append 0 (length ms) (reverse ms) (m ∷ []) (numbered-reverse ms h.1) (omega (arith, length-reverse ms)) (seq, tt))

pub numbered-take : (n k : ℕ) (ms : List Message) → NumberedFrom n ms → NumberedFrom n (take k ms)
numbered-take n zero ms h = tt
numbered-take n (suc k) [] h = tt
numbered-take n (suc k) (m ∷ ms) h = (h.0, numbered-take (suc n) k ms h.1)

pub numbered-drop : (n k : ℕ) (ms : List Message) → NumberedFrom n ms → NumberedFrom (n + k) (drop k ms)
numbered-drop n zero ms h = let same : n ≡ n + 0 = omega arith in subst (λ j. NumberedFrom j ms) same h
numbered-drop n (suc k) [] h = tt
numbered-drop n (suc k) (m ∷ ms) h = let same : suc n + k ≡ n + suc k = omega arith in subst (λ j. NumberedFrom j (drop k ms)) same (numbered-drop (suc n) k ms h.1)
