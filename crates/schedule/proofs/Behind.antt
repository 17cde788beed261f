-- What a channel's owner has received was delivered when it was received, and what it has not received is delivered now.
use Rattle.std.proofs.Common.{◌≡◌, ◌⊎◌, ℕ, zero, suc, ◌+◌, ◌<◌, ◌≤◌, nat_le, nat_lt, ◌==◌, ◌&&◌, max, not, Bool, true, false, cond, List, [], ◌∷◌, reverse, Option, Some, None, refl, sym, ap, ap₂, ◌∙◌, subst, inl, inr, arith}
use Rattle.std.specs.Prelude.{slice_get}
use Rattle.std.proofs.lemmas.Bool.{cases_eq, eq-eqb, ne_eqb, leb-true, le-leb}
use Rattle.input_types.specs.declared.message.Message.{Message}
use Rattle.dispatch_calls.specs.declared.call.Call.{Call}
use Rattle.dispatch_calls.specs.declared.call.Call.TheVariants.{Open, Windows, FocusOn, Notify, Pump, Tick, Receive, Finish, Pilfer, Remove}
use Rattle.dispatch_calls.specs.declared.reply.Reply.{Reply}
use Rattle.dispatch_calls.specs.declared.reply.Reply.TheVariants.{Opened, Done, Got, Empty, Gone}
use Rattle.dispatch_history.specs.History.{clock, live, moment_of, received}
use Rattle.dispatch_history.specs.Effect.{Effect, past_of, stream}
use Rattle.dispatch_history.specs.Effects.{step, said_at}
use Rattle.dispatch_history.specs.Delivery.{published, delivery}
use Rattle.dispatch_history.specs.Ordered.{is_receive_of, received_at}
use Rattle.dispatch_history.specs.Reply.{reply_to, receive_reply, got_reply}
use Rattle.dispatcher.specs.DispatchTables.Lawful.{Lawful}
use Rattle.dispatcher.specs.DispatchTables.Channel.{Part, Opens, Receives, Finishes, Untouched, part_of, NumberedFrom}
use Rattle.schedule.specs.State.{Behind}
use Rattle.dispatcher.proofs.DispatchTables.Lawfuls.{lawful_last}
use Rattle.dispatcher.proofs.DispatchTables.Channels.{numbered, sound, stepped}
use Rattle.dispatcher.proofs.DispatchTables.Parts.{received_by, CanBe}
use Rattle.dispatcher.proofs.DispatchTables.Stepping.{Stepped, Sound}

-- the number of a message is its place
pub numbered_get : (n i : ℕ) (ms : List Message) (m : Message) → NumberedFrom n ms → slice_get ms i ≡ Some m → m.seq ≡ suc (n + i)
numbered_get n zero (x ∷ xs) m h e = let same : x ≡ m = cc in ap (λ y. y.seq) (sym same) ∙ h.0 ∙ omega arith
numbered_get n (suc i) (x ∷ xs) m h e = numbered_get (suc n) i xs m h.1 e ∙ omega arith
numbered_get n i [] m h e = absurd (none i e)
  where
    none : (j : ℕ) → slice_get [] j ≡ Some m → ⊥
    none zero e = cc
    none (suc j) e = cc

got_at : (a b : Bool) (o : Option Message) (m : Message) → Got m ≡ cond a Gone (cond b (got_reply o) Empty) → o ≡ Some m
got_at true b o m e = absurd (cc e)
got_at false true None m e = absurd (cc e)
got_at false true (Some n) m e = cc e
got_at false false o m e = absurd (cc e)

-- what the owner gets is the message behind those that it has
pub got_next : (es : List Effect) (c : ℕ) (m : Message) → Got m ≡ receive_reply es c → slice_get (reverse (stream es c)) (received (past_of es) c) ≡ Some m
got_next es c m e =
    got_at (not (live (past_of es) c)) (nat_lt (received (past_of es) c) (published es c)) (slice_get (reverse (stream es c)) (received (past_of es) c)) m e

-- a step that is no receive of the channel
quiet_at : (call : Call) (answer : Reply) (c k : ℕ) → (part_of call answer c ≡ Receives → ⊥) → is_receive_of call answer c k ≡ false
quiet_at (Receive d) (Got m) c k never =
    elim (cases_eq c d) [
      | inl e ↦ absurd (never (rw (eq-eqb c d e) refl))
      | inr ne ↦ rw (ne_eqb d c (λ e. ne (sym e))) refl
    ]
quiet_at (Receive d) answer c k never = refl
quiet_at (Open terms) answer c k never = refl
quiet_at (Windows now shown) answer c k never = refl
quiet_at (FocusOn now y channel keys) answer c k never = refl
quiet_at (Notify now a) answer c k never = refl
quiet_at (Pump now) answer c k never = refl
quiet_at (Tick now) answer c k never = refl
quiet_at (Finish now d seq) answer c k never = refl
quiet_at (Pilfer now d device) answer c k never = refl
quiet_at (Remove now d) answer c k never = refl

part_case : (p : Part) → (p ≡ Receives) ⊎ (p ≡ Receives → ⊥)
part_case Receives = inl refl
part_case (Opens terms) = inr (λ e. cc)
part_case (Finishes seq) = inr (λ e. cc)
part_case Untouched = inr (λ e. cc)

pub others : (p : Part) (n : ℕ) → (p ≡ Receives → ⊥) → received_by p n ≡ n
others Receives n never = absurd (never refl)
others (Opens terms) n never = refl
others (Finishes seq) n never = refl
others Untouched n never = refl

-- a receive of the channel, with what its owner gets
pub is_receive : (call : Call) (answer : Reply) (c : ℕ) → part_of call answer c ≡ Receives → (m : Message) × (call ≡ Receive c) × (answer ≡ Got m)
is_receive (Receive d) (Got m) c e =
    elim (cases_eq c d) [
      | inl same ↦ (m, ap Receive (sym same), refl)
      | inr ne ↦ let u : Untouched ≡ Receives = rw (ne_eqb c d ne) at e in absurd (cc u)
    ]
is_receive (Open terms) (Opened k) c e = absurd (no_open (c == k) e)
  where
    no_open : (b : Bool) → cond b (Opens terms) Untouched ≡ Receives → ⊥
    no_open true e = cc
    no_open false e = cc
is_receive (Open terms) answer c e = absurd (cc e)
is_receive (Windows now shown) answer c e = absurd (cc e)
is_receive (FocusOn now y channel keys) answer c e = absurd (cc e)
is_receive (Notify now a) answer c e = absurd (cc e)
is_receive (Pump now) answer c e = absurd (cc e)
is_receive (Tick now) answer c e = absurd (cc e)
is_receive (Finish now d seq) Done c e = absurd (no_finish (c == d) e)
  where
    no_finish : (b : Bool) → cond b (Finishes seq) Untouched ≡ Receives → ⊥
    no_finish true e = cc
    no_finish false e = cc
is_receive (Finish now d seq) answer c e = absurd (cc e)
is_receive (Pilfer now d device) answer c e = absurd (cc e)
is_receive (Remove now d) answer c e = absurd (cc e)
is_receive (Receive d) answer c e = absurd (cc e)

module _ (ds : List ℕ) (call : Call) (answer : Reply) (es : List Effect) (c : ℕ) (l : Lawful ds (step ds call answer es)) (b : Behind es c)
    (at_once : (received (past_of es) c ≡ published es c) ⊎ (clock (past_of (step ds call answer es)) ≡ clock (past_of es))) where
  before : Sound es c
  before = sound ds es c (lawful_last ds call answer es l).1

  more : Stepped es (step ds call answer es) c (part_of call answer c) (said_at ds call answer es c)
  more = stepped ds call answer es c l before

  was_delivered : (k : ℕ) → k ≤ published es c → delivery (step ds call answer es) c k ≡ delivery es c k
  was_delivered k le = more.delivery_is k ∙ ap (λ v. cond v (delivery es c k) (clock (past_of (step ds call answer es)))) (le-leb k (published es c) le)

  is_fresh : (k : ℕ) → received (past_of es) c < k → delivery (step ds call answer es) c k ≡ clock (past_of (step ds call answer es))
  is_fresh k lt =
      more.delivery_is k
      ∙ (elim (nat_le k (published es c)) as (λ v. nat_le k (published es c) ≡ v → cond v (delivery es c k) (clock (past_of (step ds call answer es))) ≡ clock (past_of (step ds call answer es))) [
        | true ↦ λ e. b.fresh k lt (leb-true k (published es c) e) ∙ sym (same (leb-true k (published es c) e))
        | false ↦ λ e. refl
      ]) refl
    where
      same : k ≤ published es c → clock (past_of (step ds call answer es)) ≡ clock (past_of es)
      same le = elim at_once [ inl e ↦ absurd (omega (arith, e)) | inr e ↦ e ]

  resting : (part_of call answer c ≡ Receives → ⊥) → Behind (step ds call answer es) c
  resting never =
      let r : received (past_of (step ds call answer es)) c ≡ received (past_of es) c = more.received_is ∙ others (part_of call answer c) (received (past_of es) c) never in
      record {
        taken =
            λ k low high.
            let le : k ≤ received (past_of es) c = omega (arith, r) in
            ap (λ v. cond v (clock (past_of (step ds call answer es))) (received_at (past_of es) c k)) (quiet_at call answer c k never)
            ∙ b.taken k low le
            ∙ sym (was_delivered k (omega (arith, before.received_published)));
        fresh = λ k low high. is_fresh k (omega (arith, r));
      }

  -- the number of what its owner gets, and when it was delivered
  receiving : (m : Message) → call ≡ Receive c → answer ≡ Got m → part_of call answer c ≡ Receives → Behind (step ds call answer es) c
  receiving m is got part =
      let r : received (past_of (step ds call answer es)) c ≡ suc (received (past_of es) c) = more.received_is ∙ ap (λ p. received_by p (received (past_of es) c)) part in
      let less : received (past_of es) c < published es c = subst (λ p. CanBe es c p) part more.can in
      let still : clock (past_of (step ds call answer es)) ≡ clock (past_of es) = ap (λ x. max (moment_of x) (clock (past_of es))) is ∙ omega arith in
      let reply : Got m ≡ receive_reply es c = sym got ∙ (lawful_last ds call answer es l).0 ∙ ap (reply_to es) is in
      let seq : m.seq ≡ suc (received (past_of es) c) =
      numbered_get 0 (received (past_of es) c) (reverse (stream es c)) m (numbered ds es c (lawful_last ds call answer es l).1) (got_next es c m reply) ∙ omega arith in
      record {
        taken =
            λ k low high.
            here k low (omega (arith, r)) seq less still (subst (λ x. received_at ((x, answer) ∷ past_of es) c k ≡ received_at ((Receive c, answer) ∷ past_of es) c k) (sym is) refl
            ∙ subst (λ x. received_at ((Receive c, x) ∷ past_of es) c k ≡ cond (c == c && m.seq == k) (clock ((Receive c, x) ∷ past_of es)) (received_at (past_of es) c k)) (sym got) refl);
        fresh = λ k low high. is_fresh k (omega (arith, r));
      }
    where
      now : clock ((Receive c, answer) ∷ past_of es) ≡ clock (past_of es)
      now = omega arith

      here : (k : ℕ) → 1 ≤ k → k ≤ suc (received (past_of es) c) → m.seq ≡ suc (received (past_of es) c) → received (past_of es) c < published es c
          → clock (past_of (step ds call answer es)) ≡ clock (past_of es)
          → received_at (past_of (step ds call answer es)) c k ≡ cond (c == c && m.seq == k) (clock ((Receive c, answer) ∷ past_of es)) (received_at (past_of es) c k)
          → received_at (past_of (step ds call answer es)) c k ≡ delivery (step ds call answer es) c k
      here k low high seq less still at =
          elim (cases_eq m.seq k) [
            | inl e ↦
                at
                ∙ ap₂ (λ u v. cond (u && v) (clock ((Receive c, answer) ∷ past_of es)) (received_at (past_of es) c k)) (eq-eqb c c refl) (eq-eqb m.seq k e)
                ∙ now
                ∙ sym (b.fresh k (omega (arith, e, seq)) (omega (arith, e, seq)))
                ∙ sym (was_delivered k (omega (arith, e, seq)))
            | inr ne ↦
                let le : k ≤ received (past_of es) c = omega (arith, ne, seq) in
                at
                ∙ ap₂ (λ u v. cond (u && v) (clock ((Receive c, answer) ∷ past_of es)) (received_at (past_of es) c k)) (eq-eqb c c refl) (ne_eqb m.seq k ne)
                ∙ b.taken k low le
                ∙ sym (was_delivered k (omega (arith, less)))
          ]

  -- so it is after a step that raises the clock only where nothing was left to receive
  pub behind_step : Behind (step ds call answer es) c
  behind_step =
      elim (part_case (part_of call answer c)) [
        | inl e ↦ let is = is_receive call answer c e in receiving is.0 is.1 is.2 e
        | inr never ↦ resting never
      ]

-- before any call nothing is received or published
pub behind_start : (c : ℕ) → Behind [] c
behind_start c = record { taken = λ k low high. absurd (omega arith); fresh = λ k low high. absurd (omega arith) }
