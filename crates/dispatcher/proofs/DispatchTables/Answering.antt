-- What is kept of a channel determines the replies.
use Rattle.std.proofs.Common.{◌≡◌, ℕ, zero, suc, ◌+◌, ◌-◌, ◌≤◌, ◌<◌, nat_lt, nat_le, Bool, true, false, not, ◌&&◌, ◌||◌, cond, List, [], ◌∷◌, length, reverse, drop, map, Option, Some, None, refl, sym, ap, ◌∙◌, subst, inl, inr, arith}
use Rattle.std.specs.Prelude.{slice_get, option_map, if◌then◌else◌}
use Rattle.std.specs.List.{list_any}
use Rattle.std.proofs.lemmas.Bool.{cases_Bool, leb-true, le-leb}
use Rattle.std.proofs.lemmas.Bool.Decides.{nat_tests}
use Rattle.std.proofs.lemmas.List.{length-reverse}
use Rattle.std.proofs.lemmas.Option.{slice_get-map}
use Rattle.input_types.specs.declared.message.Message.{Message}
use Rattle.dispatch_calls.specs.declared.reply.Reply.{Reply}
use Rattle.dispatch_calls.specs.declared.reply.Reply.TheVariants.{Done, Gone, Empty, UnknownSeq}
use Rattle.dispatch_history.specs.History.{clock, limit_of, live, opened, received, finished}
use Rattle.dispatch_history.specs.Effect.{Effect, past_of, stream}
use Rattle.dispatch_history.specs.Delivery.{published, delivery, is_finished, unfinished, oldest, has_late}
use Rattle.dispatch_history.specs.Reply.{got_reply, receive_reply, finish_reply}
use Rattle.dispatch_history.specs.Due.{counts}
use Rattle.dispatcher.specs.InputChannel.State.{next_of, may_finish, oldest_of}
use Rattle.dispatcher.specs.InputChannel.State.{has_late as late_at}
use Rattle.dispatcher.specs.DispatchTables.Lawful.{Lawful}
use Rattle.dispatcher.specs.DispatchTables.Channel.{Hands, channel_at, counts_of}
use Rattle.dispatcher.proofs.DispatchTables.Waiting.{with_delivery}
use Rattle.dispatcher.proofs.DispatchTables.Channels.{sound}
use Rattle.dispatcher.proofs.DispatchTables.Unfinished.{has_seq_law}
use Rattle.dispatcher.proofs.DispatchTables.Kept.{channel_law}

slice_get-drop : {X : Type 0} (xs : List X) (g n : ℕ) → slice_get (drop g xs) n ≡ slice_get xs (g + n)
slice_get-drop xs zero n = let same : n ≡ 0 + n = omega arith in ap (slice_get xs) same
slice_get-drop [] (suc g) n = refl
slice_get-drop (x ∷ xs) (suc g) n =
    let same : suc (g + n) ≡ suc g + n = omega arith in
    slice_get-drop xs g n ∙ ap (slice_get (x ∷ xs)) same

next_when : (b : Bool) (o : Option Message) → cond b (got_reply o) Empty ≡ got_reply (cond b o None)
next_when true o = refl
next_when false o = refl

where_live : (a : Bool) (x y : Reply) → (a ≡ true → x ≡ y) → cond (not a) Gone x ≡ cond (not a) Gone y
where_live true x y f = f refl
where_live false x y f = refl

pub receive_law : (ds : List ℕ) (es : List Effect) (c gone spare : ℕ)
    → (live (past_of es) c ≡ true → gone ≤ received (past_of es) c)
    → receive_reply es c
    ≡ (if not (live (past_of es) c) then Gone else got_reply (next_of (channel_at es c gone spare)))
receive_law ds es c gone spare le =
    let n = received (past_of es) c in
    let b = nat_lt n (published es c) in
    let left = slice_get (drop gone (reverse (stream es c))) (n - gone) in
    where_live (live (past_of es) c) (cond b (got_reply (slice_get (reverse (stream es c)) n)) Empty)
    (got_reply (next_of (channel_at es c gone spare)))
    (λ lives.
    let rest : gone + (n - gone) ≡ n = omega (arith, le lives) in
    next_when b (slice_get (reverse (stream es c)) n)
    ∙ ap (λ o. got_reply (cond b o None)) (sym (slice_get-drop (reverse (stream es c)) gone (n - gone) ∙ ap (slice_get (reverse (stream es c))) rest))
    ∙ ap (λ t. got_reply (cond (t && b) left None)) (sym (le-leb gone n (le lives))))

there : (ms : List Message) (n : ℕ) → n < length ms → (m : Message) × (slice_get ms n ≡ Some m)
there [] n lt = absurd (omega (arith, lt))
there (m ∷ ms) zero lt = (m, refl)
there (m ∷ ms) (suc n) lt = there ms n (omega (arith, lt))

hands : (b : Bool) (o : Option Message) → (b ≡ true → (m : Message) × (o ≡ Some m)) → Hands b (cond b (got_reply o) Empty)
hands true o f = let x = f refl in (x.0, ap got_reply x.1)
hands false o f = refl

-- whatever was released, the next message is received if there is one
pub pass_law : (ds : List ℕ) (es : List Effect) (c : ℕ) → Lawful ds es → live (past_of es) c ≡ true
    → Hands (nat_lt (received (past_of es) c) (published es c)) (receive_reply es c)
pass_law ds es c l lives =
    let n = received (past_of es) c in
    let b = nat_lt n (published es c) in
    let o = slice_get (reverse (stream es c)) n in
    let most : published es c ≤ length (stream es c) = omega arith in
    let within : b ≡ true → n < length (reverse (stream es c)) = λ lt.
    let less : n < published es c = grind (arith, nat_tests, lt) in omega (arith, less, most, length-reverse (stream es c)) in
    subst (λ a. Hands b (cond (not a) Gone (cond b (got_reply o) Empty))) (sym lives)
    (hands b o (λ lt. there (reverse (stream es c)) n (within lt)))

-- what is received is published
within : (a x : Bool) (seq r p : ℕ) → r ≤ p → (a && nat_le seq r && x) ≡ (nat_le seq r && (a && nat_le seq p && x))
within a x seq r p le =
    elim (cases_Bool (nat_le seq r)) [
      | inl y ↦ let z : nat_le seq p ≡ true = le-leb seq p (omega (arith, le, leb-true seq r y)) in rw (y, z) refl
      | inr n ↦ rw n (none a)
    ]
  where
    none : (a : Bool) → (a && false && x) ≡ false
    none true = refl
    none false = refl

pub finish_law : (ds : List ℕ) (es : List Effect) (c gone spare seq : ℕ) → Lawful ds es
    → finish_reply es c seq
    ≡ (if not (live (past_of es) c) then Gone else if may_finish seq (channel_at es c gone spare) then Done else UnknownSeq)
finish_law ds es c gone spare seq l =
    let r = received (past_of es) c in
    let x = not (is_finished (past_of es) c seq) in
    ap (λ b. cond (not (live (past_of es) c)) Gone (cond b Done UnknownSeq))
    (within (nat_le 1 seq) x seq r (published es c) (sound ds es c l).received_published
    ∙ ap (λ b. nat_le seq r && b) (sym (has_seq_law ds es c seq l)))

pub oldest_law : (es : List Effect) (c gone spare : ℕ)
    → oldest_of (channel_at es c gone spare) ≡ option_map (λ m. (m.seq, delivery es c m.seq)) (oldest es c)
oldest_law es c gone spare =
    ap (option_map {U = ℕ × ℕ} (λ u. (u.seq, u.delivery))) (slice_get-map (with_delivery (delivery es c)) (unfinished es c) 0)
    ∙ twice (slice_get (unfinished es c) 0)
  where
    twice : (o : Option Message)
        → option_map {U = ℕ × ℕ} (λ u. (u.seq, u.delivery)) (option_map (with_delivery (delivery es c)) o)
        ≡ option_map {U = ℕ × ℕ} (λ m. (m.seq, delivery es c m.seq)) o
    twice None = refl
    twice (Some m) = refl

pub late_law : (es : List Effect) (c gone spare : ℕ)
    → late_at (clock (past_of es)) (channel_at es c gone spare) ≡ has_late es c
late_law es c gone spare = each (unfinished es c)
  where
    each : (ms : List Message)
        → list_any (λ u. nat_le (u.delivery + limit_of (past_of es) c) (clock (past_of es))) (map (with_delivery (delivery es c)) ms)
        ≡ list_any (λ m. nat_le (delivery es c m.seq + limit_of (past_of es) c) (clock (past_of es))) ms
    each [] = refl
    each (m ∷ ms) = ap (λ b. nat_le (delivery es c m.seq + limit_of (past_of es) c) (clock (past_of es)) || b) (each ms)

pub counts_law : (ds : List ℕ) (es : List Effect) (c gone spare : ℕ) → Lawful ds es → gone ≤ length (stream es c)
    → counts es c
    ≡ (if nat_le 1 c && nat_le c (opened (past_of es)) then Some (counts_of (live (past_of es) c) (channel_at es c gone spare)) else None)
counts_law ds es c gone spare l le =
    ap (λ n. cond (nat_le 1 c && nat_le c (opened (past_of es)))
    (Some (record { sent = n; received = received (past_of es) c; finished = length (finished (past_of es) c); published = published es c; live = live (past_of es) c })) None)
    (sym (channel_law ds es c gone spare l le).1)
