-- A message that is finished leaves the others as they were.
use Rattle.std.specs.Prelude.{◌≡◌, ℕ, zero, suc, ◌+◌, ◌<◌, ◌≤◌, Bool, true, false, not, ◌&&◌, ◌||◌, ◌==◌, nat_le, cond, nat_lt, List, [], ◌∷◌, length, get_or, Some, None}
use Rattle.std.specs.List.{position, position_or_len, remove}
use Rattle.std.proofs.Common.{refl, sym, ◌∙◌, ap, arith}
use Rattle.std.proofs.lemmas.Bool.Decides.{nat_tests}
use Rattle.std.proofs.lemmas.List.Sums.{prefix_len_passes}
use Rattle.std.proofs.lemmas.List.Folds.{list_any_none}
use Rattle.std.proofs.lemmas.List.Quantifiers.{position-Some}
use Rattle.dispatcher.specs.declared.input_channel.unfinished.Unfinished.{Unfinished}
use Rattle.dispatcher.specs.InputChannel.Order.{has_seq, without, Within, Follow, IsInOrder}
use Rattle.dispatcher.specs.InputChannel.State.{ChannelState, IsChannel}

unseen : (b : Bool) (n : ℕ) → cond b (Some n) None ≡ None → b ≡ false
unseen true n h = cc
unseen false n h = refl

not_true : (b : Bool) → not b ≡ true → b ≡ false
not_true true h = sym h
not_true false h = refl

-- a number that has no place is not among them
pub absent : (seq : ℕ) (us : List Unfinished) → position (λ u. u.seq == seq) us ≡ None → has_seq seq us ≡ false
absent seq us h =
    let far : nat_lt (position_or_len (λ u. u.seq == seq) us) (length us) ≡ false = unseen _ _ h in
    list_any_none (λ (u : Unfinished). u.seq == seq) us
    (λ k d lt. not_true _ (prefix_len_passes (λ (u : Unfinished). not (u.seq == seq)) us k d (grind (arith, nat_tests))))

or_true : (b : Bool) → (b || true) ≡ true
or_true true = refl
or_true false = refl

has_seq-at : (seq : ℕ) (us : List Unfinished) (i : ℕ) (d : Unfinished) → i < length us
    → ((get_or us i d).seq == seq) ≡ true
    → has_seq seq us ≡ true
has_seq-at seq [] i d lt h = absurd (omega arith)
has_seq-at seq (u ∷ us) zero d lt h = ap (λ b. b || has_seq seq us) h
has_seq-at seq (u ∷ us) (suc i) d lt h =
    ap (λ b. (u.seq == seq) || b) (has_seq-at seq us i d (omega arith) h) ∙ or_true (u.seq == seq)

-- a number that has a place is among them
pub present : (seq : ℕ) (us : List Unfinished) (i : ℕ) (d : Unfinished) → position (λ u. u.seq == seq) us ≡ Some i
    → has_seq seq us ≡ true
present seq us i d h =
    let here = position-Some (λ (u : Unfinished). u.seq == seq) us i d h in
    has_seq-at seq us i d here.0 here.1

follow_at : (u : Unfinished) (us : List Unfinished) (i : ℕ) (d : Unfinished) → Follow u us → i < length us
    → u.seq < (get_or us i d).seq
follow_at u [] i d h lt = absurd (omega arith)
follow_at u (v ∷ vs) zero d h lt = h.0
follow_at u (v ∷ vs) (suc i) d h lt = follow_at u vs i d h.2 (omega arith)

-- those with greater numbers are all others
without-follow : (seq : ℕ) (u : Unfinished) (us : List Unfinished) → (u.seq == seq) ≡ true → Follow u us
    → without seq us ≡ us
without-follow seq u [] same h = refl
without-follow seq u (v ∷ vs) same h =
    let other : (v.seq == seq) ≡ false = grind (arith, nat_tests, h.0) in
    rw other (ap (λ ws. v ∷ ws) (without-follow seq u vs same h.2))

without-other : (seq : ℕ) (u : Unfinished) (us ws : List Unfinished) → (u.seq == seq) ≡ false → ws ≡ without seq us
    → u ∷ ws ≡ without seq (u ∷ us)
without-other seq u us ws other h = rw other (ap (λ vs. u ∷ vs) h)

without-same : (seq : ℕ) (u : Unfinished) (us : List Unfinished) → (u.seq == seq) ≡ true → us ≡ without seq us
    → us ≡ without seq (u ∷ us)
without-same seq u us same h = rw same h

remove-without : (seq : ℕ) (us : List Unfinished) (i : ℕ) (d : Unfinished) → IsInOrder us → i < length us
    → ((get_or us i d).seq == seq) ≡ true → remove us i ≡ without seq us
remove-without seq [] i d order lt h = absurd (omega arith)
remove-without seq (u ∷ us) zero d order lt h = without-same seq u us h (sym (without-follow seq u us h order.0))
remove-without seq (u ∷ us) (suc i) d order lt h =
    let within : i < length us = omega arith in
    let before : u.seq < (get_or us i d).seq = follow_at u us i d order.0 within in
    let other : (u.seq == seq) ≡ false = grind (arith, nat_tests) in
    without-other seq u us (remove us i) other (remove-without seq us i d order.1 within h)

-- at its place stands the only message with this number
pub removed : (seq : ℕ) (us : List Unfinished) (i : ℕ) (d : Unfinished) → IsInOrder us
    → position (λ u. u.seq == seq) us ≡ Some i
    → remove us i ≡ without seq us
removed seq us i d order h =
    let here = position-Some (λ (u : Unfinished). u.seq == seq) us i d h in
    remove-without seq us i d order here.0 here.1

within-if : (n : ℕ) (b : Bool) (u : Unfinished) (us : List Unfinished) → 1 ≤ u.seq → u.seq ≤ n → Within n us
    → Within n (cond b (u ∷ us) us)
within-if n true u us low high h = (low, high, h)
within-if n false u us low high h = h

within-without : (n seq : ℕ) (us : List Unfinished) → Within n us → Within n (without seq us)
within-without n seq [] h = tt
within-without n seq (u ∷ us) h =
    within-if n (not (u.seq == seq)) u (without seq us) h.0 h.1 (within-without n seq us h.2)

follow-if : (u : Unfinished) (b : Bool) (v : Unfinished) (vs : List Unfinished) → u.seq < v.seq
    → u.delivery ≤ v.delivery → Follow u vs
    → Follow u (cond b (v ∷ vs) vs)
follow-if u true v vs lt le h = (lt, le, h)
follow-if u false v vs lt le h = h

follow-without : (seq : ℕ) (u : Unfinished) (us : List Unfinished) → Follow u us → Follow u (without seq us)
follow-without seq u [] h = tt
follow-without seq u (v ∷ vs) h =
    follow-if u (not (v.seq == seq)) v (without seq vs) h.0 h.1 (follow-without seq u vs h.2)

in_order-if : (b : Bool) (u : Unfinished) (us : List Unfinished) → Follow u us → IsInOrder us
    → IsInOrder (cond b (u ∷ us) us)
in_order-if true u us first h = (first, h)
in_order-if false u us first h = h

in_order-without : (seq : ℕ) (us : List Unfinished) → IsInOrder us → IsInOrder (without seq us)
in_order-without seq [] h = tt
in_order-without seq (u ∷ us) h =
    in_order-if (not (u.seq == seq)) u (without seq us) (follow-without seq u us h.0) (in_order-without seq us h.1)

-- a channel once a message is finished
pub finished_channel : (s : ChannelState) (seq : ℕ) (us : List Unfinished) → IsChannel s → us ≡ without seq s.unfinished
    → length us + 1 ≡ length s.unfinished → IsChannel (record s { finished = s.finished + 1; unfinished = us })
finished_channel s seq us h is shorter = record {
  received_published = h.received_published;
  published_sent = h.published_sent;
  counted = omega (arith, h.counted, shorter);
  few = omega (arith, h.few, shorter);
  numbered = rw is (within-without s.published seq s.unfinished h.numbered);
  in_order = rw is (in_order-without seq s.unfinished h.in_order);
}

-- a received message that is not finished may be finished, and one that is may not
pub may : (seq received : ℕ) (b : Bool) → seq ≤ received → b ≡ true → true ≡ (nat_le seq received && b)
may seq received b le h = grind (arith, nat_tests)

pub may_not : (a b : Bool) → b ≡ false → false ≡ (a && b)
may_not true b h = sym h
may_not false b h = refl
