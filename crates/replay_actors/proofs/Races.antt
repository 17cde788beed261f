-- What the lanes of a race leave behind, once it is settled.
use Rattle.std.proofs.Common.{◌≡◌, ℕ, zero, suc, ◌+◌, ◌≤◌, ◌<◌, ◌==◌, ◌||◌, min, Bool, true, false, cond, List, [], ◌∷◌, ◌++◌, length, map, filter, reverse, Some, refl, sym, ap, ap₂, subst, ◌∙◌, inl, inr, ◌⊎◌, arith, eq-eqb, ne_eqb, append_assoc}
use Rattle.std.specs.Prelude.{slice_get}
use Rattle.std.proofs.lemmas.Bool.{cases_eq, true≢false}
use Rattle.std.proofs.lemmas.List.{map-append}
use Rattle.std.proofs.lemmas.List.Elements.{filter-append}
use Rattle.input_types.specs.declared.message.Args.{Args}
use Rattle.dispatch_calls.specs.declared.call.Call.{Call}
use Rattle.dispatch_calls.specs.declared.call.Call.TheVariants.{Open, Windows, FocusOn, Notify, Pump, Tick, Receive, Finish, Pilfer, Remove}
use Rattle.dispatch_calls.specs.declared.reply.Reply.{Reply}
use Rattle.dispatch_history.specs.History.{History, opened}
use Rattle.dispatch_history.specs.Effect.{past_of}
use Rattle.dispatch_history.specs.Effects.{effects}
use Rattle.dispatch_history.specs.Legal.{Legal}
use Rattle.dispatch_history.specs.Ordered.{is_notified, is_scripted}
use Rattle.dispatch_history.specs.Settled.{Settled}
use Rattle.dispatch_history.proofs.LegalLaws.{effects_law}
use Rattle.dispatcher.proofs.DispatchTables.Ables.{opened_few}
use Rattle.dispatcher.proofs.DispatchTables.Lawfuls.{lawful_effects}
use Rattle.dispatch_core.specs.Machine.{IsLegal, steps}
use Rattle.turnstile.specs.History.{Entry as Called, calls_by, of_zero}
use Rattle.replay_actors.specs.Counting.{ticks, moves, idles}
use Rattle.replay_actors.specs.Finishing.{AreOrderly, IsQuiet}
use Rattle.replay_actors.specs.Lanes.{Own, receiving}
use Rattle.replay_actors.specs.Laws.{RaceLaw}
use Rattle.replay_actors.specs.Raced.{Raced}
use Rattle.replay_actors.specs.Race.{Each, has_seat, seats_from, SeatsDiffer, calls_of_seat, notified_in, IsTimeless, opens, IsScripts, ScriptsMade}
use Rattle.replay_actors.specs.Settling.{settling, receives_from}
use Rattle.replay_actors.proofs.Along.{AllOn, AllEven, even_all, orderly_all}
use Rattle.replay_actors.proofs.Deeds.{Deed, deeds, of_settles, reads, timeless, shut, below, scripted, no_tick, no_idle}
use Rattle.replay_actors.proofs.Firsts.{firsts, begun}
use Rattle.replay_actors.proofs.Gathering.{Entries, seat_is, projected, weight, part_weighs, one_weighs, weights, sum_below, times, sum_bounded, ticks_are, idles_are, moves_are, weight_append}
use Rattle.replay_actors.proofs.Listing.{each_append, each_first, each_map, each_under}
use Rattle.replay_actors.proofs.Stages.{worked, tick_one, idle_one, weigh, PumpsOn, PumpCount, pumped, ReceivesOn, ReceiveCount, took}
use Rattle.replay_actors.proofs.Pairs.{Even, Keeps}
use Rattle.replay_actors.proofs.SettleSteps.{At, Count, Settles, Straight, settled_so_far, settled_at}

each_both : {A : Type 0} (P Q R : A → Type 0) → ((x : A) → P x → Q x → R x) → (xs : List A) → Each P xs → Each Q xs → Each R xs
each_both P Q R f [] a b = tt
each_both P Q R f (x ∷ xs) a b = (f x a.0 b.0, each_both P Q R f xs a.1 b.1)

-- seats in a row
seat_out : (k n j : ℕ) → (j < k) ⊎ (k + n ≤ j) → has_seat (seats_from k n) j ≡ false
seat_out k zero j out = refl
seat_out k (suc n) j (inl lt) = ap₂ (λ a b. a || b) (ne_eqb k j (λ e. absurd (omega arith))) (seat_out (k + 1) n j (inl (omega arith)))
seat_out k (suc n) j (inr ge) = ap₂ (λ a b. a || b) (ne_eqb k j (λ e. absurd (omega arith))) (seat_out (k + 1) n j (inr (omega arith)))

seat_in : (k n j : ℕ) → k ≤ j → j < k + n → has_seat (seats_from k n) j ≡ true
seat_in k zero j low high = absurd (omega arith)
seat_in k (suc n) j low high =
    elim (cases_eq k j) [
      | inl e ↦ ap (λ b. b || has_seat (seats_from (k + 1) n) j) (eq-eqb k j e)
      | inr ne ↦ ap₂ (λ a b. a || b) (ne_eqb k j ne) (seat_in (k + 1) n j (omega (arith, ne)) (omega arith))
    ]

seats_apart : (k n : ℕ) → SeatsDiffer (seats_from k n)
seats_apart k zero = tt
seats_apart k (suc n) = (seat_out (k + 1) n k (inl (omega arith)), seats_apart (k + 1) n)

-- scripts in a row
scripts_from : (k : ℕ) (scripts : List (List Call)) (h : Entries)
    → ((l : ℕ) (steps : List Call) → slice_get scripts l ≡ Some steps → calls_of_seat (k + l) h ≡ reverse steps) → ScriptsMade (seats_from k (length scripts)) scripts h
scripts_from k [] h made = tt
scripts_from k (calls ∷ scripts) h made =
    let here : k + 0 ≡ k = omega arith in (
      ap (λ n. calls_of_seat n h) (sym here) ∙ made 0 calls refl,
      scripts_from (k + 1) scripts h (λ l x e. (let next : k + 1 + l ≡ k + suc l = omega arith in ap (λ n. calls_of_seat n h) next ∙ made (suc l) x e)),
    )

-- calls that open nothing leave the count of channels
pub open_same : (call : Call) (answer : Reply) (h : History) → opens call ≡ false → opened ((call, answer) ∷ h) ≡ opened h
open_same (Open terms) answer h e = absurd (true≢false e)
open_same (Windows now shown) answer h e = refl
open_same (FocusOn now display channel keys) answer h e = refl
open_same (Notify now a) answer h e = refl
open_same (Pump now) answer h e = refl
open_same (Tick now) answer h e = refl
open_same (Receive c) answer h e = refl
open_same (Finish now c seq) answer h e = refl
open_same (Pilfer now c d) answer h e = refl
open_same (Remove now c) answer h e = refl

opened_behind : (later base : Entries) → Each (λ e. opens e.1 ≡ false) later → opened (steps (later ++ base)) ≡ opened (steps base)
opened_behind [] base a = refl
opened_behind (e ∷ later) base a = open_same e.1 e.2 (steps (later ++ base)) a.0 ∙ opened_behind later base a.1

-- a number whose calls weigh nothing
weigh_none : (w : Call → Reply → ℕ) (k : ℕ) (h : Entries) → Each (λ e. e.0 ≡ k → w e.1 e.2 ≡ 0) h → weigh w (calls_by k h) ≡ 0
weigh_none w k [] none = refl
weigh_none w k (e ∷ h) none =
    elim (cases_eq e.0 k) [
      | inl y ↦
          let a : weigh w (calls_by k (e ∷ h)) ≡ w e.1 e.2 + weigh w (calls_by k h) = ap (λ b. weigh w (cond b ((length h, e.1, e.2) ∷ calls_by k h) (calls_by k h))) (eq-eqb e.0 k y) in
          let z = none.0 y in let r = weigh_none w k h none.1 in omega (arith, a, z, r)
      | inr ne ↦ ap (λ b. weigh w (cond b ((length h, e.1, e.2) ∷ calls_by k h) (calls_by k h))) (ne_eqb e.0 k ne) ∙ weigh_none w k h none.1
    ]

times_nothing : (n : ℕ) → times n 0 ≡ 0
times_nothing zero = refl
times_nothing (suc n) = let e = times_nothing n in omega (arith, e)

times_most : (m n b : ℕ) → m ≤ n → times m b ≤ times n b
times_most zero n b le = omega arith
times_most (suc m) zero b le = absurd (omega arith)
times_most (suc m) (suc n) b le = let e = times_most m n b (omega arith) in omega (arith, e)

module _ (ds : List ℕ) (f : ℕ → Bool) (own : List Own) (cooked : List (ℕ × Args)) (scripts : List (List Call)) (h : Entries)
    (r : Raced ds f (length own) own cooked scripts h) (made : Each (Each (λ call. is_scripted call ≡ 1)) scripts) where
  apps : ℕ
  apps = min 4 (length own)

  all_deeds : Each (λ e. Deed (length scripts) (min 4 (length own)) f (length own) e.0 e.1 e.2) h
  all_deeds = deeds ds f (length own) own cooked scripts h r made

  -- how often all lanes called for nothing
  lanes_idle : weight idle_one h ≤ 81920
  lanes_idle =
      let s : ℕ = length scripts in
      let m : ℕ = min 4 (length own) in
      let g : ℕ → ℕ = λ k. weigh idle_one (calls_by k h) in
      let low = each_map (λ (e : Called Call Reply). Deed s m f (length own) e.0 e.1 e.2) (λ e. e.0 < 3 + s + m) (λ e d. below d) h all_deeds in
      let all = weights idle_one (3 + s + m) h low in
      let none : (k : ℕ) → (k ≡ 2 → ⊥) → k < 3 + s → g k ≡ 0 =
      λ k ne lt. weigh_none idle_one k h (each_map (λ (e : Called Call Reply). Deed s m f (length own) e.0 e.1 e.2) (λ e. e.0 ≡ k → idle_one e.1 e.2 ≡ 0)
      (λ e d same. no_idle d (λ two. ne (sym same ∙ two)) (subst (λ n. n < 3 + s) (sym same) lt)) h all_deeds) in
      let app : (i : ℕ) → i < m → g (3 + s + i) ≤ 16384 =
      λ i lt. (let a = r.applications i lt in
      let on : ReceivesOn f (length own) i (receiving f (length own) i (calls_by (3 + s + i) h)) = subst (ReceivesOn f (length own) i) (sym a.1) tt in
      (subst (λ x. ReceiveCount f (length own) i x (g (3 + s + i))) a.1 (took f (length own) i (calls_by (3 + s + i) h) on).count).1) in
      let pump = subst (λ x. PumpCount x (g 2) (weigh tick_one (calls_by 2 h)) (weigh worked (calls_by 2 h))) r.dispatcher
      (pumped (calls_by 2 h) (subst PumpsOn (sym r.dispatcher) tt)).count in
      let a : sum_below (3 + s + m) g ≤ times m 16384 + sum_below (3 + s) g = sum_bounded (3 + s) m 16384 g app in
      let b : sum_below (3 + s) g ≤ times s 0 + sum_below 3 g = sum_bounded 3 s 0 g (λ i lt. (let z = none (3 + i) (λ e. absurd (omega arith)) (omega arith) in omega (arith, z))) in
      let c : times s 0 ≡ 0 = times_nothing s in
      let d : times m 16384 ≤ 65536 = times_most m 4 16384 (omega arith) in
      let z0 : g 0 ≡ 0 = none 0 (λ e. absurd (omega arith)) (omega arith) in
      let z1 : g 1 ≡ 0 = none 1 (λ e. absurd (omega arith)) (omega arith) in
      let z2 : g 2 ≡ 16384 = pump.0 in
      let t : sum_below 3 g ≡ g 2 + (g 1 + (g 0 + 0)) = refl in
      omega (arith, all, a, b, c, d, z0, z1, z2, t)

  -- the dispatcher ticks once for each answer but Idle
  lanes_tick : weight tick_one h ≤ weight worked h
  lanes_tick =
      let s : ℕ = length scripts in
      let m : ℕ = min 4 (length own) in
      let one = one_weighs tick_one 2 h (each_map (λ (e : Called Call Reply). Deed s m f (length own) e.0 e.1 e.2) (λ e. (e.0 ≡ 2 → ⊥) → tick_one e.1 e.2 ≡ 0) (λ e d ne. no_tick d ne) h all_deeds) in
      let pump = subst (λ x. PumpCount x (weigh idle_one (calls_by 2 h)) (weigh tick_one (calls_by 2 h)) (weigh worked (calls_by 2 h))) r.dispatcher
      (pumped (calls_by 2 h) (subst PumpsOn (sym r.dispatcher) tt)).count in
      let part = part_weighs worked 2 h in
      omega (arith, one, pump.1, part)

  -- the lanes' calls behind the caller's
  split : (later : Entries) × (h ≡ later ++ of_zero own) × Each (λ e. e.0 ≡ 0 → ⊥) later
  split = firsts h own r.opened r.only_opens

  shut_later : (later : Entries) → h ≡ later ++ of_zero own → Each (λ e. e.0 ≡ 0 → ⊥) later → Each (λ e. opens e.1 ≡ false) later
  shut_later later is others =
      let D = λ (e : Called Call Reply). Deed (length scripts) (min 4 (length own)) f (length own) e.0 e.1 e.2 in
      each_both D (λ e. e.0 ≡ 0 → ⊥) (λ e. opens e.1 ≡ false) (λ e d ne. shut d ne) later (each_first D later (of_zero own) (subst (Each D) is all_deeds)) others

  -- where the lanes stand at the end
  all_on : AllOn ds f (length own) (length scripts) (min 4 (length own)) own h
  all_on j lt = (let a = r.applications j lt in subst (ReceivesOn f (length own) j) (sym a.1) tt)

  quiet_lanes : IsQuiet f (steps h) × AreOrderly f (steps h) × (opened (steps h) ≡ length own)
  quiet_lanes =
      let p = split in
      let D = λ (e : Called Call Reply). Deed (length scripts) (min 4 (length own)) f (length own) e.0 e.1 e.2 in
      let later : Entries = p.0 in
      let closed = shut_later later p.1 p.2 in
      let legal : Legal ds (steps (later ++ of_zero own)) = subst (IsLegal ds) p.1 r.legal in
      let done = each_first D later (of_zero own) (subst (Each D) p.1 all_deeds) in
      let on = subst (AllOn ds f (length own) (length scripts) (min 4 (length own)) own) p.1 all_on in
      let ends : AllEven ds f (length own) (length scripts) (min 4 (length own)) own (later ++ of_zero own) =
      subst (AllEven ds f (length own) (length scripts) (min 4 (length own)) own) p.1 (λ j lt. (let a = r.applications j lt in (16384, a.0, a.1))) in
      let back = λ (x : Entries). steps x in (
        λ c yes_c. subst (λ x. Even c (steps x) × Keeps c (steps x)) (sym p.1) (even_all ds f (length own) (length scripts) (min 4 (length own)) own c later (omega arith) yes_c r.only_opens legal done closed on ends),
        subst (λ x. AreOrderly f (steps x)) (sym p.1) (orderly_all ds f (length own) (length scripts) (min 4 (length own)) own later (omega arith) r.only_opens legal done closed on),
        ap (λ x. opened (steps x)) p.1 ∙ opened_behind later (of_zero own) closed ∙ (begun own 0 r.only_opens).opened_all,
      )

-- a seat's calls in two histories, of which the first has only another seat's
seat_behind : (k : ℕ) (s h : Entries) → Each (λ e. e.0 ≡ 0) s → 0 < k → calls_of_seat k (s ++ h) ≡ calls_of_seat k h
seat_behind k [] h zeros lt = refl
seat_behind k (e ∷ s) h zeros lt =
    ap (λ b. map (λ x. x.1) (cond b (e ∷ filter (λ x. x.0 == k) (s ++ h)) (filter (λ x. x.0 == k) (s ++ h)))) (ne_eqb e.0 k (λ y. (let z = zeros.0 in absurd (omega arith))))
    ∙ seat_behind k s h zeros.1 lt

none_notified : (s : Entries) → Each (λ e. Settles e.1) s → notified_in s ≡ []
none_notified [] a = refl
none_notified (e ∷ s) a =
    ap (λ b. cond b (e.1 ∷ notified_in s) (notified_in s)) (ap (λ n. n == 1) (of_settles e.1 a.0).notified_is) ∙ none_notified s a.1

pub race_law : RaceLaw
race_law ds f own cooked scripts s h r made legal zeros stage =
    let apart : steps (s ++ h) ≡ steps s ++ steps h = map-append (λ (e : Called Call Reply). (e.1, e.2)) s h in
    let legal_parts : Legal ds (steps s ++ steps h) = subst (Legal ds) apart legal in
    let q = quiet_lanes ds f own cooked scripts h r made in
    let straight : Straight (settling f (steps s)) = subst Straight (sym stage) tt in
    let so_far = settled_so_far ds f (steps s) (steps h) legal_parts q.0 straight in
    let at : At ds f (receives_from (length own + 1)) (steps s ++ steps h) = subst (λ x. At ds f x (steps s ++ steps h)) stage so_far.at in
    let counted : Count (receives_from (length own + 1)) (ticks (steps s)) (idles (steps s)) = subst (λ x. Count x (ticks (steps s)) (idles (steps s))) stage so_far.counted in
    let settles : Each (λ e. Settles e.1) s = each_under (λ (e : Called Call Reply). (e.1, e.2)) (λ (e : Call × Reply). Settles e.0) s so_far.settles_each in
    let p = split ds f own cooked scripts h r made in
    let closed = shut_later ds f own cooked scripts h r made p.0 p.1 p.2 in
    let later : Entries = s ++ p.0 in
    let begins : s ++ h ≡ later ++ of_zero own = ap (λ x. s ++ x) p.1 ∙ sym (append_assoc s p.0 (of_zero own)) in
    let D = λ (e : Called Call Reply). Deed (length scripts) (min 4 (length own)) f (length own) e.0 e.1 e.2 in
    let done : Each D h = all_deeds ds f own cooked scripts h r made in
    let no_open : Each (λ e. opens e.1 ≡ false) later =
    each_append (λ (e : Called Call Reply). opens e.1 ≡ false) s p.0 (each_map (λ (e : Called Call Reply). Settles e.1) (λ e. opens e.1 ≡ false) (λ e x. (of_settles e.1 x).opens_is) s settles) closed in
    let all_open : opened (steps (s ++ h)) ≡ length own = ap (λ x. opened (steps x)) begins ∙ opened_behind later (of_zero own) no_open ∙ (begun own 0 r.only_opens).opened_all in
    let few : length own ≤ 64 =
    (let few_past = opened_few ds (effects ds (steps (s ++ h))) (lawful_effects ds (steps (s ++ h)) legal) in
    let past : opened (past_of (effects ds (steps (s ++ h)))) ≡ opened (steps (s ++ h)) = ap opened (effects_law ds (steps (s ++ h))) in
    omega (arith, few_past, past, all_open)) in
    let ticks_all : ticks (steps (s ++ h)) ≡ weight tick_one s + weight tick_one h = ticks_are (s ++ h) ∙ weight_append tick_one s h in
    let idles_all : idles (steps (s ++ h)) ≡ weight idle_one s + weight idle_one h = idles_are (s ++ h) ∙ weight_append idle_one s h in
    let moves_all : moves (steps (s ++ h)) ≡ weight worked s + weight worked h = moves_are ds (s ++ h) legal ∙ weight_append worked s h in
    let tick_s : ticks (steps s) ≡ weight tick_one s = ticks_are s in
    let idle_s : idles (steps s) ≡ weight idle_one s = idles_are s in
    let tick_h = lanes_tick ds f own cooked scripts h r made in
    let idle_h = lanes_idle ds f own cooked scripts h r made in
    record {
      legal = legal;
      later = later;
      begins = begins;
      no_open = no_open;
      timeless =
          each_append (λ (e : Called Call Reply). IsTimeless e.1) s h
          (each_map (λ (e : Called Call Reply). Settles e.1) (λ e. IsTimeless e.1) (λ e x. (of_settles e.1 x).timeless) s settles)
          (each_map D (λ e. IsTimeless e.1) (λ e d. timeless d) h done);
      args =
          ap (filter (λ call. is_notified call == 1)) (map-append (λ (e : Called Call Reply). e.1) s h)
          ∙ filter-append (λ call. is_notified call == 1) (map (λ e. e.1) s) (map (λ e. e.1) h)
          ∙ ap (λ xs. xs ++ notified_in h) (none_notified s settles)
          ∙ projected (λ call. is_notified call == 1) 1 h (each_map D (λ e. (is_notified e.1 == 1) ≡ (e.0 == 1)) (λ e d. reads d) h done)
          ∙ r.reader;
      scripts_made =
          scripts_from 3 scripts (s ++ h)
          (λ l calls e. seat_behind (3 + l) s h zeros (omega arith) ∙ seat_is (3 + l) h ∙ r.scripted l calls e);
      seats_differ = seats_apart 3 (length scripts);
      alone =
          each_append (IsScripts (seats_from 3 (length scripts))) s h
          (each_both (λ (e : Called Call Reply). Settles e.1) (λ e. e.0 ≡ 0) (IsScripts (seats_from 3 (length scripts)))
          (λ e x z. seat_out 3 (length scripts) e.0 (inl (omega (arith, z))) ∙ ap (λ n. n == 1) (sym (of_settles e.1 x).scripted_is)) s settles zeros)
          (each_map D (IsScripts (seats_from 3 (length scripts)))
          (λ e d.
          elim (scripted d) [
            | inl x ↦ seat_in 3 (length scripts) e.0 x.1 x.2 ∙ ap (λ n. n == 1) (sym x.0)
            | inr x ↦
                (elim x.1 [
                  | inl low ↦ seat_out 3 (length scripts) e.0 (inl low) ∙ ap (λ n. n == 1) (sym x.0)
                  | inr high ↦ seat_out 3 (length scripts) e.0 (inr high) ∙ ap (λ n. n == 1) (sym x.0)
                ])
          ]) h done);
      orderly = subst (AreOrderly f) (sym apart) (so_far.orderly_all q.1);
      settled =
          subst (λ x. Settled ds x f) (sym apart)
          (settled_at ds f (steps s ++ steps h) (length own) legal_parts (let e : opened (steps s ++ steps h) ≡ length own = ap opened (sym apart) ∙ all_open in omega (arith, e)) at);
      few_ticks = omega (arith, ticks_all, moves_all, tick_s, counted.0, tick_h);
      few_idles = omega (arith, idles_all, idle_s, counted.1, idle_h, few);
    }
