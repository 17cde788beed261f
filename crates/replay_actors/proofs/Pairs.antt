-- What owners were given and what they asked to be finished, channel by channel and step by step.
use Rattle.std.proofs.Common.{◌≡◌, ℕ, zero, suc, ◌≤◌, ◌==◌, ◌&&◌, not, Bool, true, false, cond, List, ◌∷◌, length, refl, sym, ap, ap₂, ◌∙◌, arith}
use Rattle.std.specs.Prelude.{nat_le}
use Rattle.std.proofs.lemmas.Bool.{eq-eqb, true≢false, le-leb}
use Rattle.input_types.specs.declared.message.Message.{Message}
use Rattle.dispatch_calls.specs.declared.call.Call.{Call}
use Rattle.dispatch_calls.specs.declared.call.Call.TheVariants.{Open, Windows, FocusOn, Notify, Pump, Tick, Receive, Finish, Pilfer, Remove}
use Rattle.dispatch_calls.specs.declared.reply.Reply.{Reply}
use Rattle.dispatch_calls.specs.declared.reply.Reply.TheVariants.{Opened, Full, Done, Taken, Inconsistent, Dispatched, Repeated, Idle, Named, Got, Empty, Gone, UnknownSeq, NotSpy, NothingHeld}
use Rattle.dispatch_history.specs.History.{History, live, live_after, received, finished, finished_after}
use Rattle.dispatch_history.specs.Delivery.{is_finished}
use Rattle.dispatch_history.specs.Effect.{past_of}
use Rattle.dispatch_history.specs.Effects.{effects}
use Rattle.dispatch_history.specs.Legal.{Legal}
use Rattle.dispatch_history.proofs.LegalLaws.{effects_law}
use Rattle.replay_actors.specs.Race.{opens}
use Rattle.replay_actors.specs.Finishing.{given, given_after, asked, asked_after, is_among, IsOrderly}
use Rattle.replay_actors.proofs.Numbers.{count_down, given_is, not_among, first_among, length-count_down}

-- all that the owner of a channel was given it asked to be finished
abbrev pub Even : ℕ → History → Type 0
Even c h = given h c ≡ asked h c

-- all but the last message, which has this number
abbrev pub Owes : ℕ → ℕ → History → Type 0
Owes c seq h = given h c ≡ seq ∷ asked h c

-- what was asked to be finished is finished, while the channel is live
abbrev pub Keeps : ℕ → History → Type 0
Keeps c h = live h c ≡ true → finished h c ≡ asked h c

-- a call is about a channel
abbrev pub is_about : Call → ℕ → Bool
is_about (Receive k) c = c == k
is_about (Finish now k seq) c = c == k
is_about call c = false

-- one that is about another leaves what this one was given, asked and finished
pub given_same : (call : Call) (answer : Reply) (c : ℕ) (ns : List ℕ) → is_about call c ≡ false → given_after call answer c ns ≡ ns
given_same (Receive k) (Got m) c ns e = ap (λ b. cond b (m.seq ∷ ns) ns) e
given_same (Receive k) (Opened n) c ns e = refl
given_same (Receive k) Full c ns e = refl
given_same (Receive k) Done c ns e = refl
given_same (Receive k) Taken c ns e = refl
given_same (Receive k) (Inconsistent a b) c ns e = refl
given_same (Receive k) Dispatched c ns e = refl
given_same (Receive k) Repeated c ns e = refl
given_same (Receive k) Idle c ns e = refl
given_same (Receive k) (Named mask) c ns e = refl
given_same (Receive k) Empty c ns e = refl
given_same (Receive k) Gone c ns e = refl
given_same (Receive k) UnknownSeq c ns e = refl
given_same (Receive k) NotSpy c ns e = refl
given_same (Receive k) NothingHeld c ns e = refl
given_same (Open terms) answer c ns e = refl
given_same (Windows now shown) answer c ns e = refl
given_same (FocusOn now display channel keys) answer c ns e = refl
given_same (Notify now args) answer c ns e = refl
given_same (Pump now) answer c ns e = refl
given_same (Tick now) answer c ns e = refl
given_same (Finish now k seq) answer c ns e = refl
given_same (Pilfer now k device) answer c ns e = refl
given_same (Remove now k) answer c ns e = refl

pub asked_same : (call : Call) (c : ℕ) (ns : List ℕ) → is_about call c ≡ false → asked_after call c ns ≡ ns
asked_same (Finish now k seq) c ns e = ap (λ b. cond b (seq ∷ ns) ns) e
asked_same (Open terms) c ns e = refl
asked_same (Windows now shown) c ns e = refl
asked_same (FocusOn now display channel keys) c ns e = refl
asked_same (Notify now args) c ns e = refl
asked_same (Pump now) c ns e = refl
asked_same (Tick now) c ns e = refl
asked_same (Receive k) c ns e = refl
asked_same (Pilfer now k device) c ns e = refl
asked_same (Remove now k) c ns e = refl

pub finished_same : (call : Call) (answer : Reply) (c : ℕ) (ns : List ℕ) → is_about call c ≡ false → finished_after call answer c ns ≡ ns
finished_same (Finish now k seq) Done c ns e = ap (λ b. cond b (seq ∷ ns) ns) e
finished_same (Finish now k seq) (Got m) c ns e = refl
finished_same (Finish now k seq) (Opened n) c ns e = refl
finished_same (Finish now k seq) Full c ns e = refl
finished_same (Finish now k seq) Taken c ns e = refl
finished_same (Finish now k seq) (Inconsistent a b) c ns e = refl
finished_same (Finish now k seq) Dispatched c ns e = refl
finished_same (Finish now k seq) Repeated c ns e = refl
finished_same (Finish now k seq) Idle c ns e = refl
finished_same (Finish now k seq) (Named mask) c ns e = refl
finished_same (Finish now k seq) Empty c ns e = refl
finished_same (Finish now k seq) Gone c ns e = refl
finished_same (Finish now k seq) UnknownSeq c ns e = refl
finished_same (Finish now k seq) NotSpy c ns e = refl
finished_same (Finish now k seq) NothingHeld c ns e = refl
finished_same (Open terms) answer c ns e = refl
finished_same (Windows now shown) answer c ns e = refl
finished_same (FocusOn now display channel keys) answer c ns e = refl
finished_same (Notify now args) answer c ns e = refl
finished_same (Pump now) answer c ns e = refl
finished_same (Tick now) answer c ns e = refl
finished_same (Receive k) answer c ns e = refl
finished_same (Pilfer now k device) answer c ns e = refl
finished_same (Remove now k) answer c ns e = refl

-- a channel that is live after a call that is no opening was live before it
pub was_live : (call : Call) (answer : Reply) (c : ℕ) (b : Bool) → opens call ≡ false → live_after call answer c b ≡ true → b ≡ true
was_live (Open terms) answer c b shut e = absurd (true≢false shut)
was_live (Remove now k) Done c b shut e = by_both (c == k) b e
  where
    by_both : (x y : Bool) → (not x && y) ≡ true → y ≡ true
    by_both true y e = absurd (true≢false (sym e))
    by_both false y e = e
was_live (Remove now k) (Got m) c b shut e = e
was_live (Remove now k) (Opened n) c b shut e = e
was_live (Remove now k) Full c b shut e = e
was_live (Remove now k) Taken c b shut e = e
was_live (Remove now k) (Inconsistent x y) c b shut e = e
was_live (Remove now k) Dispatched c b shut e = e
was_live (Remove now k) Repeated c b shut e = e
was_live (Remove now k) Idle c b shut e = e
was_live (Remove now k) (Named mask) c b shut e = e
was_live (Remove now k) Empty c b shut e = e
was_live (Remove now k) Gone c b shut e = e
was_live (Remove now k) UnknownSeq c b shut e = e
was_live (Remove now k) NotSpy c b shut e = e
was_live (Remove now k) NothingHeld c b shut e = e
was_live (Windows now shown) answer c b shut e = e
was_live (FocusOn now display channel keys) answer c b shut e = e
was_live (Notify now args) answer c b shut e = e
was_live (Pump now) answer c b shut e = e
was_live (Tick now) answer c b shut e = e
was_live (Receive k) answer c b shut e = e
was_live (Finish now k seq) answer c b shut e = e
was_live (Pilfer now k device) answer c b shut e = e

-- a call about another channel, or about none
pub even_other : (call : Call) (answer : Reply) (c : ℕ) (h : History) → is_about call c ≡ false → Even c h → Even c ((call, answer) ∷ h)
even_other call answer c h e even = given_same call answer c (given h c) e ∙ even ∙ sym (asked_same call c (asked h c) e)

pub owes_other : (call : Call) (answer : Reply) (c seq : ℕ) (h : History) → is_about call c ≡ false → Owes c seq h → Owes c seq ((call, answer) ∷ h)
owes_other call answer c seq h e owes = given_same call answer c (given h c) e ∙ owes ∙ ap (λ ns. seq ∷ ns) (sym (asked_same call c (asked h c) e))

pub keeps_other : (call : Call) (answer : Reply) (c : ℕ) (h : History) → opens call ≡ false → is_about call c ≡ false → Keeps c h → Keeps c ((call, answer) ∷ h)
keeps_other call answer c h shut e keeps lives =
    finished_same call answer c (finished h c) e ∙ keeps (was_live call answer c (live h c) shut lives) ∙ sym (asked_same call c (asked h c) e)

-- a receive
pub got_owes : (c : ℕ) (m : Message) (h : History) → Even c h → Owes c m.seq ((Receive c, Got m) ∷ h)
got_owes c m h even = ap (λ b. cond b (m.seq ∷ given h c) (given h c)) (eq-eqb c c refl) ∙ ap (λ ns. m.seq ∷ ns) even

pub none_given : (k : ℕ) (answer : Reply) (c : ℕ) (ns : List ℕ) → ((m : Message) → answer ≡ Got m → ⊥) → given_after (Receive k) answer c ns ≡ ns
none_given k (Got m) c ns never = absurd (never m refl)
none_given k (Opened n) c ns never = refl
none_given k Full c ns never = refl
none_given k Done c ns never = refl
none_given k Taken c ns never = refl
none_given k (Inconsistent a b) c ns never = refl
none_given k Dispatched c ns never = refl
none_given k Repeated c ns never = refl
none_given k Idle c ns never = refl
none_given k (Named mask) c ns never = refl
none_given k Empty c ns never = refl
none_given k Gone c ns never = refl
none_given k UnknownSeq c ns never = refl
none_given k NotSpy c ns never = refl
none_given k NothingHeld c ns never = refl

-- what is owed is the last message that was given, and was not asked to be finished
pub owed : (ds : List ℕ) (h : History) (c seq : ℕ) → Legal ds h → Owes c seq h → (seq ≡ received h c) × (is_among (asked h c) seq ≡ false) × (1 ≤ seq)
owed ds h c seq l owes = by_count (received h c) (sym (given_is ds h c l) ∙ owes)
  where
    by_count : (n : ℕ) → count_down n ≡ seq ∷ asked h c → (seq ≡ n) × (is_among (asked h c) seq ≡ false) × (1 ≤ seq)
    by_count zero e = absurd (cc)
    by_count (suc n) e =
        let s : suc n ≡ seq = cc in
        let a : count_down n ≡ asked h c = cc in
        (sym s, ap₂ is_among (sym a) (sym s) ∙ not_among n (suc n) (omega arith), omega arith)

pub orderly : (ds : List ℕ) (h : History) (finishing : ℕ → Bool) (now c seq : ℕ) → Legal ds h → finishing c ≡ true → Owes c seq h → IsOrderly finishing h (Finish now c seq)
orderly ds h finishing now c seq l f owes = (f, ap (λ ns. is_among ns seq) owes ∙ first_among seq (asked h c), (owed ds h c seq l owes).1)

-- its finish is done, while the channel is live
pub finish_even : (answer : Reply) (now c seq : ℕ) (h : History) → Owes c seq h → Even c ((Finish now c seq, answer) ∷ h)
finish_even answer now c seq h owes = owes ∙ ap (λ b. cond b (seq ∷ asked h c) (asked h c)) (sym (eq-eqb c c refl))

pub finish_keeps : (ds : List ℕ) (answer : Reply) (now c seq : ℕ) (h : History) → Legal ds ((Finish now c seq, answer) ∷ h) → Owes c seq h → Keeps c h → Keeps c ((Finish now c seq, answer) ∷ h)
finish_keeps ds answer now c seq h l owes keeps lives =
    let o = owed ds h c seq l.1 owes in
    let past : past_of (effects ds h) ≡ h = effects_law ds h in
    let alive : live (past_of (effects ds h)) c ≡ true = ap (λ g. live g c) past ∙ lives in
    let low : nat_le 1 seq ≡ true = le-leb 1 seq o.2 in
    let high : nat_le seq (received (past_of (effects ds h)) c) ≡ true = ap (λ g. nat_le seq (received g c)) past ∙ at_most seq (received h c) o.0 in
    let open_yet : is_finished (past_of (effects ds h)) c seq ≡ false = ap (λ g. is_finished g c seq) past ∙ ap (λ ns. is_among ns seq) (keeps lives) ∙ o.1 in
    let done : answer ≡ Done = l.0 ∙ by_tests (live (past_of (effects ds h)) c) (nat_le 1 seq) (nat_le seq (received (past_of (effects ds h)) c)) (is_finished (past_of (effects ds h)) c seq) alive low high open_yet in
    ap (λ r. finished_after (Finish now c seq) r c (finished h c)) done
    ∙ ap (λ b. cond b (seq ∷ finished h c) (finished h c)) (eq-eqb c c refl)
    ∙ ap (λ ns. seq ∷ ns) (keeps lives)
    ∙ ap (λ b. cond b (seq ∷ asked h c) (asked h c)) (sym (eq-eqb c c refl))
  where
    at_most : (a b : ℕ) → a ≡ b → nat_le a b ≡ true
    at_most a b e = le-leb a b (omega (arith, e))

    by_tests : (a b c d : Bool) → a ≡ true → b ≡ true → c ≡ true → d ≡ false → cond (not a) Gone (cond (b && c && not d) Done UnknownSeq) ≡ Done
    by_tests true true true false a b c d = refl
    by_tests false b c d e f g h = absurd (true≢false (sym e))
    by_tests true false c d e f g h = absurd (true≢false (sym f))
    by_tests true true false d e f g h = absurd (true≢false (sym g))
    by_tests true true true true e f g h = absurd (true≢false h)

-- how many messages were finished where all that were given were asked to be
pub all_finished : (ds : List ℕ) (h : History) (c : ℕ) → Legal ds h → Even c h → Keeps c h → live h c ≡ true → length (finished h c) ≡ received h c
all_finished ds h c l even keeps lives = ap length (keeps lives ∙ sym even ∙ given_is ds h c l) ∙ length-count_down (received h c)
