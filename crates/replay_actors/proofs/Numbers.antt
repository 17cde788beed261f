-- The messages that the owner of a channel is given have the numbers 1, 2, 3 and so on.
use Rattle.std.proofs.Common.{◌≡◌, ℕ, zero, suc, ◌+◌, ◌<◌, ◌==◌, ◌||◌, not, Bool, true, false, cond, List, [], ◌∷◌, length, reverse, Option, Some, None, refl, sym, ap, ap₂, ◌∙◌, inl, inr, ◌⊎◌, arith}
use Rattle.std.specs.Prelude.{nat_lt, slice_get}
use Rattle.std.proofs.lemmas.Bool.{cases_eq, eq-eqb, ne_eqb}
use Rattle.input_types.specs.declared.message.Message.{Message}
use Rattle.dispatch_calls.specs.declared.call.Call.TheVariants.{Open, Windows, FocusOn, Notify, Pump, Tick, Receive, Finish, Pilfer, Remove}
use Rattle.dispatch_calls.specs.declared.reply.Reply.TheVariants.{Opened, Full, Done, Taken, Inconsistent, Dispatched, Repeated, Idle, Named, Got, Empty, Gone, UnknownSeq, NotSpy, NothingHeld}
use Rattle.dispatch_history.specs.History.{History, live, received}
use Rattle.dispatch_history.specs.Delivery.{published}
use Rattle.dispatch_history.specs.Effect.{Effect, past_of, stream}
use Rattle.dispatch_history.specs.Effects.{effects}
use Rattle.dispatch_history.specs.Legal.{Legal, reply}
use Rattle.dispatch_history.specs.Reply.{receive_reply, got_reply}
use Rattle.dispatch_history.proofs.LegalLaws.{effects_law}
use Rattle.dispatcher.specs.DispatchTables.Channel.{NumberedFrom}
use Rattle.dispatcher.proofs.DispatchTables.Kept.{numbered_law}
use Rattle.dispatcher.proofs.DispatchTables.Lawfuls.{lawful_effects}
use Rattle.replay_actors.specs.Finishing.{given, is_among}

-- n, and then down to 1
abbrev pub count_down : ℕ → List ℕ
count_down zero = []
count_down (suc n) = suc n ∷ count_down n

pub length-count_down : (n : ℕ) → length (count_down n) ≡ n
length-count_down zero = refl
length-count_down (suc n) = ap suc (length-count_down n)

-- a number above is not among them
pub not_among : (n k : ℕ) → n < k → is_among (count_down n) k ≡ false
not_among zero k lt = refl
not_among (suc n) k lt = ap₂ (λ a b. a || b) (ne_eqb (suc n) k (λ e. absurd (omega arith))) (not_among n k (omega arith))

-- the first is among them
pub first_among : (n : ℕ) (ns : List ℕ) → is_among (n ∷ ns) n ≡ true
first_among n ns = ap (λ b. b || is_among ns n) (eq-eqb n n refl)

-- a message at a place has the next number
number_at : (k n : ℕ) (ms : List Message) (m : Message) → NumberedFrom k ms → slice_get ms n ≡ Some m → m.seq ≡ suc (k + n)
number_at k zero [] m h e = absurd (cc)
number_at k zero (x ∷ ms) m h e = let same : x ≡ m = cc in let s : m.seq ≡ x.seq = ap (λ y. y.seq) (sym same) in omega (arith, s, h.0)
number_at k (suc n) [] m h e = absurd (cc)
number_at k (suc n) (x ∷ ms) m h e = omega (arith, number_at (suc k) n ms m h.1 e)

-- what a message was given for
pub got_at : (es : List Effect) (c : ℕ) (m : Message) → Got m ≡ receive_reply es c
    → (live (past_of es) c ≡ true) × (nat_lt (received (past_of es) c) (published es c) ≡ true)
    × (slice_get (reverse (stream es c)) (received (past_of es) c) ≡ Some m)
got_at es c m e = by_live (live (past_of es) c) (nat_lt (received (past_of es) c) (published es c)) (slice_get (reverse (stream es c)) (received (past_of es) c)) refl refl refl e
  where
    by_live : (l p : Bool) (o : Option Message) → live (past_of es) c ≡ l → nat_lt (received (past_of es) c) (published es c) ≡ p
        → slice_get (reverse (stream es c)) (received (past_of es) c) ≡ o → Got m ≡ cond (not l) Gone (cond p (got_reply o) Empty)
        → (live (past_of es) c ≡ true) × (nat_lt (received (past_of es) c) (published es c) ≡ true)
        × (slice_get (reverse (stream es c)) (received (past_of es) c) ≡ Some m)
    by_live false p o a b d e = absurd (cc)
    by_live true false o a b d e = absurd (cc)
    by_live true true None a b d e = absurd (cc)
    by_live true true (Some x) a b d e = let same : x ≡ m = cc in (a, b, d ∙ ap Some same)

pub got_seq : (ds : List ℕ) (h : History) (c : ℕ) (m : Message) → Legal ds h → Got m ≡ reply ds h (Receive c) → m.seq ≡ suc (received h c)
got_seq ds h c m l e =
    let at = got_at (effects ds h) c m e in
    let n : m.seq ≡ suc (0 + received (past_of (effects ds h)) c) = number_at 0 (received (past_of (effects ds h)) c) (reverse (stream (effects ds h) c)) m (numbered_law ds (effects ds h) c (lawful_effects ds h l)) at.2 in
    let same : received (past_of (effects ds h)) c ≡ received h c = ap (λ g. received g c) (effects_law ds h) in
    omega (arith, n, same)

given_more : (ds : List ℕ) (h : History) (c k : ℕ) (m : Message) → Legal ds ((Receive k, Got m) ∷ h) → given h c ≡ count_down (received h c)
    → cond (c == k) (m.seq ∷ given h c) (given h c) ≡ count_down (cond (c == k) (suc (received h c)) (received h c))
given_more ds h c k m l is = by_channel (cases_eq c k)
  where
    by_channel : (c ≡ k) ⊎ (c ≡ k → ⊥) → cond (c == k) (m.seq ∷ given h c) (given h c) ≡ count_down (cond (c == k) (suc (received h c)) (received h c))
    by_channel (inl e) =
        ap (λ b. cond b (m.seq ∷ given h c) (given h c)) (eq-eqb c k e)
        ∙ ap₂ (λ n ns. n ∷ ns) (got_seq ds h c m l.1 (l.0 ∙ ap (λ k. reply ds h (Receive k)) (sym e))) is
        ∙ ap (λ b. count_down (cond b (suc (received h c)) (received h c))) (sym (eq-eqb c k e))
    by_channel (inr ne) =
        ap (λ b. cond b (m.seq ∷ given h c) (given h c)) (ne_eqb c k ne) ∙ is
        ∙ ap (λ b. count_down (cond b (suc (received h c)) (received h c))) (sym (ne_eqb c k ne))

-- the numbers of the messages that were given
pub given_is : (ds : List ℕ) (h : History) (c : ℕ) → Legal ds h → given h c ≡ count_down (received h c)
given_is ds [] c l = refl
given_is ds ((Receive k, Got m) ∷ h) c l = given_more ds h c k m l (given_is ds h c l.1)
given_is ds ((Receive k, Opened n) ∷ h) c l = given_is ds h c l.1
given_is ds ((Receive k, Full) ∷ h) c l = given_is ds h c l.1
given_is ds ((Receive k, Done) ∷ h) c l = given_is ds h c l.1
given_is ds ((Receive k, Taken) ∷ h) c l = given_is ds h c l.1
given_is ds ((Receive k, Inconsistent a b) ∷ h) c l = given_is ds h c l.1
given_is ds ((Receive k, Dispatched) ∷ h) c l = given_is ds h c l.1
given_is ds ((Receive k, Repeated) ∷ h) c l = given_is ds h c l.1
given_is ds ((Receive k, Idle) ∷ h) c l = given_is ds h c l.1
given_is ds ((Receive k, Named mask) ∷ h) c l = given_is ds h c l.1
given_is ds ((Receive k, Empty) ∷ h) c l = given_is ds h c l.1
given_is ds ((Receive k, Gone) ∷ h) c l = given_is ds h c l.1
given_is ds ((Receive k, UnknownSeq) ∷ h) c l = given_is ds h c l.1
given_is ds ((Receive k, NotSpy) ∷ h) c l = given_is ds h c l.1
given_is ds ((Receive k, NothingHeld) ∷ h) c l = given_is ds h c l.1
given_is ds ((Open terms, r) ∷ h) c l = given_is ds h c l.1
given_is ds ((Windows now shown, r) ∷ h) c l = given_is ds h c l.1
given_is ds ((FocusOn now display channel keys, r) ∷ h) c l = given_is ds h c l.1
given_is ds ((Notify now args, r) ∷ h) c l = given_is ds h c l.1
given_is ds ((Pump now, r) ∷ h) c l = given_is ds h c l.1
given_is ds ((Tick now, r) ∷ h) c l = given_is ds h c l.1
given_is ds ((Finish now channel seq, r) ∷ h) c l = given_is ds h c l.1
given_is ds ((Pilfer now channel device, r) ∷ h) c l = given_is ds h c l.1
given_is ds ((Remove now channel, r) ∷ h) c l = given_is ds h c l.1
