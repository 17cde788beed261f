-- What the owners of channels were given and asked to be finished, along a race.
use Rattle.std.proofs.Common.{◌≡◌, ℕ, zero, suc, ◌+◌, ◌≤◌, ◌<◌, ◌==◌, ◌&&◌, Bool, true, false, cond, List, [], ◌∷◌, ◌++◌, length, refl, sym, ap, subst, ◌∙◌, inl, inr, ◌⊎◌, arith, eq-eqb, ne_eqb}
use Rattle.std.proofs.lemmas.Bool.{cases_eq, cases_lt, and_parts, eqb-true, true≢false}
use Rattle.dispatch_calls.specs.declared.call.Call.{Call}
use Rattle.dispatch_calls.specs.declared.call.Call.TheVariants.{Open, Windows, FocusOn, Notify, Pump, Tick, Receive, Finish, Pilfer, Remove}
use Rattle.dispatch_calls.specs.declared.reply.Reply.{Reply}
use Rattle.dispatch_calls.specs.declared.reply.Reply.TheVariants.{Got}
use Rattle.dispatch_history.specs.History.{History}
use Rattle.dispatch_history.specs.Legal.{Legal}
use Rattle.dispatch_core.specs.Machine.{steps}
use Rattle.turnstile.specs.History.{Entry as Called, calls_by, of_zero}
use Rattle.replay_actors.specs.Finishing.{given, IsOrderly, AreOrderly}
use Rattle.replay_actors.specs.Lanes.{Own, Receiving, receives, owes, strays_off, next_channel, after_receive, receiving_then, receiving}
use Rattle.replay_actors.specs.Raced.{OnlyOpens}
use Rattle.replay_actors.specs.Race.{Each, opens}
use Rattle.replay_actors.proofs.Deeds.{Deed, about, caller, reader, dispatcher, script, app}
use Rattle.replay_actors.proofs.Firsts.{begun, none_else}
use Rattle.replay_actors.proofs.Gathering.{Entries}
use Rattle.replay_actors.proofs.Stages.{weigh, idle_one, Belongs, one_owner, ReceivesOn, ReceiveCount, received_on, took}
use Rattle.replay_actors.proofs.Pairs.{Even, Owes, Keeps, is_about, even_other, owes_other, keeps_other, got_owes, none_given, orderly, finish_even, finish_keeps}

-- what a channel's owner was given and asked, where an application stands so
abbrev PairAt : ℕ → Receiving → History → Type 0
PairAt c (receives n d) h = Even c h
PairAt c (owes n d seq) h = (d ≡ c → Owes c seq h) × ((d ≡ c → ⊥) → Even c h)
PairAt c strays_off h = ⊥

-- a call about another channel leaves it
pair_other : (stage : Receiving) (call : Call) (answer : Reply) (c : ℕ) (h : History) → is_about call c ≡ false → PairAt c stage h → PairAt c stage ((call, answer) ∷ h)
pair_other (receives n d) call answer c h other p = even_other call answer c h other p
pair_other (owes n d seq) call answer c h other p = (λ e. owes_other call answer c seq h other (p.0 e), λ ne. even_other call answer c h other (p.1 ne))
pair_other strays_off call answer c h other p = absurd p

module _ (ds : List ℕ) (f : ℕ → Bool) (channels j : ℕ) where
  record Paired (c : ℕ) (later : Receiving) (call : Call) (answer : Reply) (h : History) : Type 0 where
    at : PairAt c later ((call, answer) ∷ h)
    keeps : Keeps c ((call, answer) ∷ h)
    order : is_about call c ≡ true → IsOrderly f h call

  receive_keeps : (c d : ℕ) (answer : Reply) (h : History) → Keeps c h → Keeps c ((Receive d, answer) ∷ h)
  receive_keeps c d answer h k = k

  pair_take : (c n d : ℕ) (answer : Reply) (h : History) → f c ≡ true → Even c h → Keeps c h → Paired c (after_receive f channels j n d answer) (Receive d) answer h
  pair_take c n d (Got m) h on even keeps = by_set (f d) refl
    where
      by_set : (b : Bool) → f d ≡ b → Paired c (cond b (owes n d m.seq) (receives n (next_channel channels j d))) (Receive d) (Got m) h
      by_set true yes_d =
          record {
            at = (λ e. subst (λ x. Owes c m.seq ((Receive x, Got m) ∷ h)) (sym e) (got_owes c m h even), λ ne. even_other (Receive d) (Got m) c h (ne_eqb c d (λ e. ne (sym e))) even);
            keeps = keeps;
            order = λ a. tt;
          }
      by_set false off =
          record { at = even_other (Receive d) (Got m) c h (ne_eqb c d (λ e. true≢false (sym on ∙ ap f e ∙ off))) even; keeps = keeps; order = λ a. tt }
  pair_take c n d answer h on even keeps = record { at = none_given d answer c (given h c) (λ m e. absurd (cc)) ∙ even; keeps = keeps; order = λ a. tt }

  pair_step : (stage : Receiving) (call : Call) (answer : Reply) (c i : ℕ) (h : History) → Legal ds ((call, answer) ∷ h) → f c ≡ true → ReceiveCount f channels j stage i
      → ReceivesOn f channels j (receiving_then f channels j stage call answer) → PairAt c stage h → Keeps c h → Paired c (receiving_then f channels j stage call answer) call answer h
  pair_step (receives n d) (Receive x) answer c i h l on k s p keeps = by_channel (x == d) refl s
    where
      by_channel : (b : Bool) → x == d ≡ b → ReceivesOn f channels j (cond b (after_receive f channels j n d answer) strays_off)
          → Paired c (cond b (after_receive f channels j n d answer) strays_off) (Receive x) answer h
      by_channel true e s = subst (λ y. Paired c (after_receive f channels j n d answer) (Receive y) answer h) (sym (eqb-true x d e)) (pair_take c n d answer h on p keeps)
      by_channel false e s = absurd s
  pair_step (owes n d seq) (Finish now x y) answer c i h l on k s p keeps = by_tests (now == 0 && x == d && y == seq) refl s
    where
      paired : Legal ds ((Finish now d seq, answer) ∷ h) → (d ≡ c) ⊎ (d ≡ c → ⊥) → Paired c (receives n (next_channel channels j d)) (Finish now d seq) answer h
      paired l (inl e) =
          let owed : Owes c seq h = p.0 e in
          let l' : Legal ds ((Finish now c seq, answer) ∷ h) = subst (λ x. Legal ds ((Finish now x seq, answer) ∷ h)) e l in
          subst (λ x. Paired c (receives n (next_channel channels j d)) (Finish now x seq) answer h) (sym e)
          (record { at = finish_even answer now c seq h owed; keeps = finish_keeps ds answer now c seq h l' owed keeps; order = λ a. orderly ds h f now c seq l'.1 on owed })
      paired l (inr ne) =
          let other : is_about (Finish now d seq) c ≡ false = ne_eqb c d (λ e. ne (sym e)) in
          record {
            at = even_other (Finish now d seq) answer c h other (p.1 ne);
            keeps = keeps_other (Finish now d seq) answer c h refl other keeps;
            order = λ a. absurd (true≢false (sym a ∙ other));
          }

      by_tests : (b : Bool) → (now == 0 && x == d && y == seq) ≡ b → ReceivesOn f channels j (cond b (receives n (next_channel channels j d)) strays_off)
          → Paired c (cond b (receives n (next_channel channels j d)) strays_off) (Finish now x y) answer h
      by_tests true e s =
          let a = and_parts (now == 0 && x == d) (y == seq) e in
          let b = and_parts (now == 0) (x == d) a.0 in
          let same : x ≡ d = eqb-true x d b.1 in
          let number : y ≡ seq = eqb-true y seq a.1 in
          subst (λ z. Paired c (receives n (next_channel channels j d)) (Finish now z y) answer h) (sym same)
          (subst (λ z. Paired c (receives n (next_channel channels j d)) (Finish now d z) answer h) (sym number)
          (paired (subst (λ z. Legal ds ((Finish now d z, answer) ∷ h)) number (subst (λ z. Legal ds ((Finish now z y, answer) ∷ h)) same l)) (cases_eq d c)))
      by_tests false e s = absurd s
  pair_step stage call answer c i h l on k s p keeps = absurd s

-- who has a channel
owner : (c : ℕ) → (c ≡ 0) ⊎ ((j : ℕ) × (j < 4) × Belongs j c)
owner zero = inl refl
owner (suc c) =
    elim (owner c) [
      | inl z ↦ inr (0, omega arith, (0, omega (arith, z)))
      | inr o ↦
          elim (cases_lt o.0 3) [
            | inl lt ↦ inr (o.0 + 1, omega arith, (o.2.0, omega (arith, o.2.1)))
            | inr ge ↦ inr (0, omega arith, (o.2.0 + 1, let lt = o.1 in omega (arith, o.2.1, lt, ge)))
          ]
    ]

module _ (ds : List ℕ) (f : ℕ → Bool) (channels s m : ℕ) (own : List Own) where
  -- the stage of an application in a history
  abbrev stage : ℕ → Entries → Receiving
  stage j h = receiving f channels j (calls_by (3 + s + j) h)

  -- all applications make the calls that are due
  abbrev pub AllOn : Entries → Type 0
  AllOn h = (j : ℕ) → j < m → ReceivesOn f channels j (stage j h)

  calls_same : (k : ℕ) (e : Called Call Reply) (h : Entries) → e.0 ≡ k → calls_by k (e ∷ h) ≡ (length h, e.1, e.2) ∷ calls_by k h
  calls_same k e h is = ap (λ b. cond b ((length h, e.1, e.2) ∷ calls_by k h) (calls_by k h)) (eq-eqb e.0 k is)

  calls_other : (k : ℕ) (e : Called Call Reply) (h : Entries) → (e.0 ≡ k → ⊥) → calls_by k (e ∷ h) ≡ calls_by k h
  calls_other k e h ne = ap (λ b. cond b ((length h, e.1, e.2) ∷ calls_by k h) (calls_by k h)) (ne_eqb e.0 k ne)

  on_before : (e : Called Call Reply) (h : Entries) → AllOn (e ∷ h) → AllOn h
  on_before e h on j lt =
      elim (cases_eq e.0 (3 + s + j)) [
        | inl y ↦ received_on f channels j (stage j h) e.1 e.2 (subst (λ o. ReceivesOn f channels j (receiving f channels j o)) (calls_same (3 + s + j) e h y) (on j lt))
        | inr ne ↦ subst (λ o. ReceivesOn f channels j (receiving f channels j o)) (calls_other (3 + s + j) e h ne) (on j lt)
      ]

  -- a channel that an application has
  owned : (j c : ℕ) (later : Entries) → m ≤ 4 → j < m → Belongs j c → f c ≡ true → OnlyOpens own → Legal ds (steps (later ++ of_zero own))
      → Each (λ e. Deed s m f channels e.0 e.1 e.2) later → Each (λ e. opens e.1 ≡ false) later → AllOn (later ++ of_zero own)
      → PairAt c (stage j (later ++ of_zero own)) (steps (later ++ of_zero own)) × Keeps c (steps (later ++ of_zero own))
  owned j c [] few lt b on only l deeds shut all =
      let g = begun own c only in (
        subst (λ o. PairAt c (receiving f channels j o) (steps (of_zero own))) (sym (none_else (3 + s + j) own (omega arith))) (g.given_none ∙ sym g.asked_none),
        λ lives. g.finished_none ∙ sym g.asked_none,
      )
  owned j c (e ∷ later) few lt b on only l deeds shut all =
      let h : Entries = later ++ of_zero own in
      let before = owned j c later few lt b on only l.1 deeds.1 shut.1 (on_before e h all) in
      elim (cases_eq e.0 (3 + s + j)) [
        | inl y ↦
            let now_on = subst (λ o. ReceivesOn f channels j (receiving f channels j o)) (calls_same (3 + s + j) e h y) (all j lt) in
            let k = took f channels j (calls_by (3 + s + j) h) (on_before e h all j lt) in
            let p = pair_step ds f channels j (stage j h) e.1 e.2 c (weigh idle_one (calls_by (3 + s + j) h)) (steps h) l on k.count now_on before.0 before.1 in
            (subst (λ o. PairAt c (receiving f channels j o) (steps (e ∷ h))) (sym (calls_same (3 + s + j) e h y)) p.at, p.keeps)
        | inr ne ↦
            let other : is_about e.1 c ≡ false = about deeds.0 c (λ i low is has. ne (is ∙ ap (λ x. 3 + s + x) (one_owner i j c (omega arith) (omega arith) has b))) in (
              subst (λ o. PairAt c (receiving f channels j o) (steps (e ∷ h))) (sym (calls_other (3 + s + j) e h ne)) (pair_other (stage j h) e.1 e.2 c (steps h) other before.0),
              keeps_other e.1 e.2 c (steps h) shut.0 other before.1,
            )
      ]

  -- a channel that none has
  unowned : (c : ℕ) (later : Entries) → ((j : ℕ) → j < m → Belongs j c → ⊥) → OnlyOpens own
      → Each (λ e. Deed s m f channels e.0 e.1 e.2) later → Each (λ e. opens e.1 ≡ false) later
      → Even c (steps (later ++ of_zero own)) × Keeps c (steps (later ++ of_zero own))
  unowned c [] nobody only deeds shut = let g = begun own c only in (g.given_none ∙ sym g.asked_none, λ lives. g.finished_none ∙ sym g.asked_none)
  unowned c (e ∷ later) nobody only deeds shut =
      let before = unowned c later nobody only deeds.1 shut.1 in
      let other : is_about e.1 c ≡ false = about deeds.0 c (λ i low is has. nobody i low has) in
      (even_other e.1 e.2 c (steps (later ++ of_zero own)) other before.0, keeps_other e.1 e.2 c (steps (later ++ of_zero own)) shut.0 other before.1)

  -- where all applications have finished what they owe
  abbrev pub AllEven : Entries → Type 0
  AllEven h = (j : ℕ) → j < m → (n : ℕ) × (c : ℕ) × (stage j h ≡ receives n c)

  pub even_all : (c : ℕ) (later : Entries) → m ≤ 4 → f c ≡ true → OnlyOpens own → Legal ds (steps (later ++ of_zero own))
      → Each (λ e. Deed s m f channels e.0 e.1 e.2) later → Each (λ e. opens e.1 ≡ false) later → AllOn (later ++ of_zero own) → AllEven (later ++ of_zero own)
      → Even c (steps (later ++ of_zero own)) × Keeps c (steps (later ++ of_zero own))
  even_all c later few on only l deeds shut all ends =
      elim (owner c) [
        | inl z ↦ unowned c later (λ j lt b. absurd (omega (arith, z, b.1))) only deeds shut
        | inr o ↦
            elim (cases_lt o.0 m) [
              | inl lt ↦
                  let p = owned o.0 c later few lt o.2 on only l deeds shut all in
                  let a = ends o.0 lt in
                  (subst (λ x. PairAt c x (steps (later ++ of_zero own))) a.2 p.0, p.1)
              | inr ge ↦
                  unowned c later (λ j lt b. absurd (let same = one_owner j o.0 c (omega arith) o.1 b o.2 in omega (arith, same, lt, ge))) only deeds shut
            ]
      ]

  -- each finish is of a message that was given and not asked to be finished before
  orderly_one : (e : Called Call Reply) (later : Entries) → m ≤ 4 → OnlyOpens own → Legal ds (steps (e ∷ later ++ of_zero own))
      → Each (λ e. Deed s m f channels e.0 e.1 e.2) (e ∷ later) → Each (λ e. opens e.1 ≡ false) (e ∷ later) → AllOn (e ∷ later ++ of_zero own)
      → IsOrderly f (steps (later ++ of_zero own)) e.1
  orderly_one (k, Finish now c seq, r) later few only l deeds shut all = by_deed deeds.0
    where
      h : Entries
      h = later ++ of_zero own

      e : Called Call Reply
      e = (k, Finish now c seq, r)

      by_deed : Deed s m f channels k (Finish now c seq) r → IsOrderly f (steps h) (Finish now c seq)
      by_deed (caller a o) = absurd (true≢false (sym o))
      by_deed (reader a o) = absurd (omega (arith, o))
      by_deed (dispatcher a o) = absurd o
      by_deed (script i lt a o) = absurd (omega (arith, o))
      by_deed (app j lt y o) =
          let p = owned j c later few lt o.1 o.2 only l.1 deeds.1 shut.1 (on_before e h all) in
          let now_on = subst (λ o. ReceivesOn f channels j (receiving f channels j o)) (calls_same (3 + s + j) e h y) (all j lt) in
          let t = took f channels j (calls_by (3 + s + j) h) (on_before e h all j lt) in
          (pair_step ds f channels j (stage j h) (Finish now c seq) r c (weigh idle_one (calls_by (3 + s + j) h)) (steps h) l o.2 t.count now_on p.0 p.1).order (eq-eqb c c refl)
  orderly_one (k, Open terms, r) later few only l deeds shut all = tt
  orderly_one (k, Windows now shown, r) later few only l deeds shut all = tt
  orderly_one (k, FocusOn now display channel keys, r) later few only l deeds shut all = tt
  orderly_one (k, Notify now a, r) later few only l deeds shut all = tt
  orderly_one (k, Pump now, r) later few only l deeds shut all = tt
  orderly_one (k, Tick now, r) later few only l deeds shut all = tt
  orderly_one (k, Receive c, r) later few only l deeds shut all = tt
  orderly_one (k, Pilfer now c d, r) later few only l deeds shut all = tt
  orderly_one (k, Remove now c, r) later few only l deeds shut all = tt

  pub orderly_all : (later : Entries) → m ≤ 4 → OnlyOpens own → Legal ds (steps (later ++ of_zero own))
      → Each (λ e. Deed s m f channels e.0 e.1 e.2) later → Each (λ e. opens e.1 ≡ false) later → AllOn (later ++ of_zero own)
      → AreOrderly f (steps (later ++ of_zero own))
  orderly_all [] few only l deeds shut all = (begun own 0 only).orderly f
  orderly_all (e ∷ later) few only l deeds shut all =
      (orderly_one e later few only l deeds shut all, orderly_all later few only l.1 deeds.1 shut.1 (on_before e (later ++ of_zero own) all))
