-- Who made which call of a race.
use Rattle.std.proofs.Common.{◌≡◌, ℕ, zero, suc, ◌+◌, ◌-◌, ◌≤◌, ◌<◌, ◌==◌, min, Some, Bool, true, false, List, [], ◌∷◌, length, refl, sym, ap, subst, ◌∙◌, inl, inr, ◌⊎◌, arith, eq-eqb, ne_eqb}
use Rattle.std.specs.Prelude.{slice_get}
use Rattle.std.proofs.lemmas.Bool.{cases_lt, true≢false}
use Rattle.std.proofs.lemmas.Option.{slice_get_cases}
use Rattle.input_types.specs.declared.message.Args.{Args}
use Rattle.dispatch_calls.specs.declared.call.Call.{Call}
use Rattle.dispatch_calls.specs.declared.call.Call.TheVariants.{Open, Windows, FocusOn, Notify, Pump, Tick, Receive, Finish, Pilfer, Remove}
use Rattle.dispatch_calls.specs.declared.reply.Reply.{Reply}
use Rattle.dispatch_history.specs.Ordered.{is_notified, is_scripted}
use Rattle.turnstile.specs.History.{calls_by}
use Rattle.replay_actors.specs.Lanes.{Own, notifies, receiving}
use Rattle.replay_actors.specs.Raced.{Raced, OnlyOpens, is_opening}
use Rattle.replay_actors.specs.Race.{Each, opens, IsTimeless}
use Rattle.replay_actors.proofs.Listing.{each_reverse, each_under}
use Rattle.replay_actors.proofs.SettleSteps.{Settles}
use Rattle.replay_actors.proofs.Stages.{tick_one, idle_one, IsPumping, PumpsOn, pumped, Belongs, IsTaking, ReceivesOn, took}
use Rattle.replay_actors.proofs.Gathering.{Entries, each_by}
use Rattle.replay_actors.proofs.Pairs.{is_about}

-- what a number may have done in a race with so many scripts and applications
pub data Deed (scripts apps : ℕ) (f : ℕ → Bool) (channels k : ℕ) (call : Call) (answer : Reply) : Type 0 where
  caller : k ≡ 0 → is_opening call answer ≡ true → Deed scripts apps f channels k call answer
  reader : k ≡ 1 → is_notified call ≡ 1 → Deed scripts apps f channels k call answer
  dispatcher : k ≡ 2 → IsPumping call → Deed scripts apps f channels k call answer
  script : (l : ℕ) → l < scripts → k ≡ 3 + l → is_scripted call ≡ 1 → Deed scripts apps f channels k call answer
  app : (j : ℕ) → j < apps → k ≡ 3 + scripts + j → IsTaking f channels j call → Deed scripts apps f channels k call answer

each_one : {A : Type 0} (P Q : A → Type 0) → ((x : A) → P x → Q x) → (xs : List A) → Each P xs → Each Q xs
each_one P Q f [] a = tt
each_one P Q f (x ∷ xs) a = (f x a.0, each_one P Q f xs a.1)

each_open : (own : List Own) → OnlyOpens own → Each (λ o. is_opening o.1 o.2 ≡ true) own
each_open [] a = tt
each_open (o ∷ own) a = (a.1, each_open own a.2)

each_notify : (cooked : List (ℕ × Args)) → Each (λ call. is_notified call ≡ 1) (notifies cooked)
each_notify [] = tt
each_notify (a ∷ cooked) = (refl, each_notify cooked)

each_at : {A : Type 0} (P : A → Type 0) (xs : List A) (i : ℕ) (x : A) → Each P xs → slice_get xs i ≡ Some x → P x
each_at P [] i x a e = absurd (cc)
each_at P (y ∷ xs) zero x a e = let same : y ≡ x = cc in subst P same a.0
each_at P (y ∷ xs) (suc i) x a e = each_at P xs i x a.1 e

module _ (ds : List ℕ) (f : ℕ → Bool) (channels : ℕ) (own : List Own) (cooked : List (ℕ × Args)) (scripts : List (List Call)) (h : Entries) where
  deeds_of : Raced ds f channels own cooked scripts h → Each (Each (λ call. is_scripted call ≡ 1)) scripts → (k : ℕ)
      → Each (λ o. Deed (length scripts) (min 4 channels) f channels k o.1 o.2) (calls_by k h)
  deeds_of r steps zero =
      each_one (λ o. is_opening o.1 o.2 ≡ true) (λ o. Deed (length scripts) (min 4 channels) f channels 0 o.1 o.2) (λ o e. caller refl e) (calls_by 0 h)
      (subst (Each (λ o. is_opening o.1 o.2 ≡ true)) (sym r.opened) (each_open own r.only_opens))
  deeds_of r steps (suc zero) =
      each_one (λ o. is_notified o.1 ≡ 1) (λ o. Deed (length scripts) (min 4 channels) f channels 1 o.1 o.2) (λ o e. reader refl e) (calls_by 1 h)
      (each_under (λ (o : Own). o.1) (λ call. is_notified call ≡ 1) (calls_by 1 h)
      (subst (Each (λ call. is_notified call ≡ 1)) (sym r.reader) (each_reverse (λ call. is_notified call ≡ 1) (notifies cooked) (each_notify cooked))))
  deeds_of r steps (suc (suc zero)) =
      each_one (λ o. IsPumping o.1) (λ o. Deed (length scripts) (min 4 channels) f channels 2 o.1 o.2) (λ o e. dispatcher refl e) (calls_by 2 h)
      (pumped (calls_by 2 h) (subst PumpsOn (sym r.dispatcher) tt)).each
  deeds_of r steps (suc (suc (suc k))) = by_range (cases_lt k (length scripts))
    where
      by_app : length scripts ≤ k → (k < length scripts + min 4 channels) ⊎ (length scripts + min 4 channels ≤ k) → Each (λ o. Deed (length scripts) (min 4 channels) f channels (suc (suc (suc k))) o.1 o.2) (calls_by (suc (suc (suc k))) h)
      by_app high (inl low) =
          let j : ℕ = k - length scripts in
          let below : j < min 4 channels = omega arith in
          let same : 3 + length scripts + j ≡ suc (suc (suc k)) = omega arith in
          let a = r.applications j below in
          let on : ReceivesOn f channels j (receiving f channels j (calls_by (3 + length scripts + j) h)) = subst (ReceivesOn f channels j) (sym a.1) tt in
          subst (λ n. Each (λ o. Deed (length scripts) (min 4 channels) f channels n o.1 o.2) (calls_by n h)) same
          (each_one (λ o. IsTaking f channels j o.1) (λ o. Deed (length scripts) (min 4 channels) f channels (3 + length scripts + j) o.1 o.2) (λ o e. app j below refl e)
          (calls_by (3 + length scripts + j) h) (took f channels j (calls_by (3 + length scripts + j) h) on).each)
      by_app high (inr over) =
          subst (Each (λ o. Deed (length scripts) (min 4 channels) f channels (suc (suc (suc k))) o.1 o.2)) (sym (r.others (suc (suc (suc k))) (omega arith))) tt

      by_range : (k < length scripts) ⊎ (length scripts ≤ k) → Each (λ o. Deed (length scripts) (min 4 channels) f channels (suc (suc (suc k))) o.1 o.2) (calls_by (suc (suc (suc k))) h)
      by_range (inl low) =
          elim (slice_get_cases scripts k).1 [
            | inl x ↦
                let same : 3 + k ≡ suc (suc (suc k)) = omega arith in
                let made = r.scripted k x.0 x.2 in
                subst (λ n. Each (λ o. Deed (length scripts) (min 4 channels) f channels n o.1 o.2) (calls_by n h)) same
                (each_one (λ o. is_scripted o.1 ≡ 1) (λ o. Deed (length scripts) (min 4 channels) f channels (3 + k) o.1 o.2) (λ o e. script k low refl e) (calls_by (3 + k) h)
                (each_under (λ (o : Own). o.1) (λ call. is_scripted call ≡ 1) (calls_by (3 + k) h)
                (subst (Each (λ call. is_scripted call ≡ 1)) (sym made) (each_reverse (λ call. is_scripted call ≡ 1) x.0 (each_at (Each (λ call. is_scripted call ≡ 1)) scripts k x.0 steps x.2)))))
            | inr x ↦ absurd (omega (arith, x.0))
          ]
      by_range (inr high) = by_app high (cases_lt k (length scripts + min 4 channels))

  -- each entry is a deed of its number
  pub deeds : Raced ds f channels own cooked scripts h → Each (Each (λ call. is_scripted call ≡ 1)) scripts
      → Each (λ e. Deed (length scripts) (min 4 channels) f channels e.0 e.1 e.2) h
  deeds r steps = each_by (Deed (length scripts) (min 4 channels) f channels) h (deeds_of r steps)

-- whether a call hands in args, makes a step of a script and opens a channel; its moment is 0 where the caller may choose it
pub record Traits (notified scripted : ℕ) (opening : Bool) (call : Call) : Type 0 where
  pub notified_is : is_notified call ≡ notified
  pub scripted_is : is_scripted call ≡ scripted
  pub opens_is : opens call ≡ opening
  pub timeless : IsTimeless call

pub of_open : (call : Call) (answer : Reply) → is_opening call answer ≡ true → Traits 0 0 true call
of_open (Open terms) answer e = record { notified_is = refl; scripted_is = refl; opens_is = refl; timeless = tt }
of_open call answer e = absurd (true≢false (sym e))

pub of_notify : (call : Call) → is_notified call ≡ 1 → Traits 1 0 false call
of_notify (Notify now a) e = record { notified_is = refl; scripted_is = refl; opens_is = refl; timeless = tt }
of_notify call e = absurd (omega (arith, e))

pub of_pumping : (call : Call) → IsPumping call → Traits 0 0 false call
of_pumping (Pump now) e = record { notified_is = refl; scripted_is = refl; opens_is = refl; timeless = e }
of_pumping (Tick now) e = record { notified_is = refl; scripted_is = refl; opens_is = refl; timeless = e }
of_pumping call e = absurd e

pub of_script : (call : Call) → is_scripted call ≡ 1 → Traits 0 1 false call
of_script (Windows now shown) e = record { notified_is = refl; scripted_is = refl; opens_is = refl; timeless = tt }
of_script (FocusOn now display channel keys) e = record { notified_is = refl; scripted_is = refl; opens_is = refl; timeless = tt }
of_script (Pilfer now channel device) e = record { notified_is = refl; scripted_is = refl; opens_is = refl; timeless = tt }
of_script (Remove now channel) e = record { notified_is = refl; scripted_is = refl; opens_is = refl; timeless = tt }
of_script call e = absurd (omega (arith, e))

pub of_taking : (f : ℕ → Bool) (channels j : ℕ) (call : Call) → IsTaking f channels j call → Traits 0 0 false call
of_taking f channels j (Receive c) e = record { notified_is = refl; scripted_is = refl; opens_is = refl; timeless = tt }
of_taking f channels j (Finish now c seq) e = record { notified_is = refl; scripted_is = refl; opens_is = refl; timeless = e.0 }
of_taking f channels j call e = absurd e

pub of_settles : (call : Call) → Settles call → Traits 0 0 false call
of_settles (Pump now) e = record { notified_is = refl; scripted_is = refl; opens_is = refl; timeless = e }
of_settles (Tick now) e = record { notified_is = refl; scripted_is = refl; opens_is = refl; timeless = e }
of_settles (Receive c) e = record { notified_is = refl; scripted_is = refl; opens_is = refl; timeless = tt }
of_settles (Finish now c seq) e = record { notified_is = refl; scripted_is = refl; opens_is = refl; timeless = e }
of_settles call e = absurd e

-- who calls about a channel
about_open : (call : Call) (answer : Reply) (c : ℕ) → is_opening call answer ≡ true → is_about call c ≡ false
about_open (Open terms) answer c e = refl
about_open call answer c e = absurd (true≢false (sym e))

about_notify : (call : Call) (c : ℕ) → is_notified call ≡ 1 → is_about call c ≡ false
about_notify (Notify now a) c e = refl
about_notify call c e = absurd (omega (arith, e))

about_pumping : (call : Call) (c : ℕ) → IsPumping call → is_about call c ≡ false
about_pumping (Pump now) c e = refl
about_pumping (Tick now) c e = refl
about_pumping call c e = absurd e

about_script : (call : Call) (c : ℕ) → is_scripted call ≡ 1 → is_about call c ≡ false
about_script (Windows now shown) c e = refl
about_script (FocusOn now display channel keys) c e = refl
about_script (Pilfer now channel device) c e = refl
about_script (Remove now channel) c e = refl
about_script call c e = absurd (omega (arith, e))

about_taking : (f : ℕ → Bool) (channels j : ℕ) (call : Call) (c : ℕ) → IsTaking f channels j call → (Belongs j c → ⊥) → is_about call c ≡ false
about_taking f channels j (Receive d) c e other = ne_eqb c d (λ same. other (subst (Belongs j) (sym same) e))
about_taking f channels j (Finish now d seq) c e other = ne_eqb c d (λ same. other (subst (Belongs j) (sym same) e.1))
about_taking f channels j call c e other = absurd e

module _ {s m : ℕ} {f : ℕ → Bool} {channels k : ℕ} {call : Call} {answer : Reply} where
  -- no number calls about a channel but the application that has it
  pub about : Deed s m f channels k call answer → (c : ℕ) → ((j : ℕ) → j < m → k ≡ 3 + s + j → Belongs j c → ⊥) → is_about call c ≡ false
  about (caller e o) c other = about_open call answer c o
  about (reader e o) c other = about_notify call c o
  about (dispatcher e o) c other = about_pumping call c o
  about (script l lt e o) c other = about_script call c o
  about (app j lt e o) c other = about_taking f channels j call c o (other j lt e)

  pub reads : Deed s m f channels k call answer → (is_notified call == 1) ≡ (k == 1)
  reads (caller e o) = ap (λ n. n == 1) (of_open call answer o).notified_is ∙ sym (ne_eqb k 1 (λ x. absurd (omega arith)))
  reads (reader e o) = ap (λ n. n == 1) o ∙ sym (eq-eqb k 1 e)
  reads (dispatcher e o) = ap (λ n. n == 1) (of_pumping call o).notified_is ∙ sym (ne_eqb k 1 (λ x. absurd (omega arith)))
  reads (script l lt e o) = ap (λ n. n == 1) (of_script call o).notified_is ∙ sym (ne_eqb k 1 (λ x. absurd (omega arith)))
  reads (app j lt e o) = ap (λ n. n == 1) (of_taking f channels j call o).notified_is ∙ sym (ne_eqb k 1 (λ x. absurd (omega arith)))

  -- pumps, ticks and finishes hand in moment 0
  pub timeless : Deed s m f channels k call answer → IsTimeless call
  timeless (caller e o) = (of_open call answer o).timeless
  timeless (reader e o) = (of_notify call o).timeless
  timeless (dispatcher e o) = (of_pumping call o).timeless
  timeless (script l lt e o) = (of_script call o).timeless
  timeless (app j lt e o) = (of_taking f channels j call o).timeless

  -- only the caller opens channels
  pub shut : Deed s m f channels k call answer → (k ≡ 0 → ⊥) → opens call ≡ false
  shut (caller e o) ne = absurd (ne e)
  shut (reader e o) ne = (of_notify call o).opens_is
  shut (dispatcher e o) ne = (of_pumping call o).opens_is
  shut (script l lt e o) ne = (of_script call o).opens_is
  shut (app j lt e o) ne = (of_taking f channels j call o).opens_is

  -- numbers end with the applications
  pub below : Deed s m f channels k call answer → k < 3 + s + m
  below (caller e o) = omega arith
  below (reader e o) = omega arith
  below (dispatcher e o) = omega arith
  below (script l lt e o) = omega arith
  below (app j lt e o) = omega arith

  -- steps of scripts are made by the numbers from 3 on, as many as there are scripts
  pub scripted : Deed s m f channels k call answer → ((is_scripted call ≡ 1) × (3 ≤ k) × (k < 3 + s)) ⊎ ((is_scripted call ≡ 0) × ((k < 3) ⊎ (3 + s ≤ k)))
  scripted (caller e o) = inr ((of_open call answer o).scripted_is, inl (omega arith))
  scripted (reader e o) = inr ((of_notify call o).scripted_is, inl (omega arith))
  scripted (dispatcher e o) = inr ((of_pumping call o).scripted_is, inl (omega arith))
  scripted (script l lt e o) = inl (o, omega arith, omega arith)
  scripted (app j lt e o) = inr ((of_taking f channels j call o).scripted_is, inr (omega arith))

  -- only the dispatcher ticks
  pub no_tick : Deed s m f channels k call answer → (k ≡ 2 → ⊥) → tick_one call answer ≡ 0
  no_tick (caller e o) ne = open_ticks call answer o
    where
      open_ticks : (call : Call) (answer : Reply) → is_opening call answer ≡ true → tick_one call answer ≡ 0
      open_ticks (Open terms) answer e = refl
      open_ticks call answer e = absurd (true≢false (sym e))
  no_tick (reader e o) ne = note_ticks call o
    where
      note_ticks : (call : Call) → is_notified call ≡ 1 → tick_one call answer ≡ 0
      note_ticks (Notify now a) e = refl
      note_ticks call e = absurd (omega (arith, e))
  no_tick (dispatcher e o) ne = absurd (ne e)
  no_tick (script l lt e o) ne = script_ticks call o
    where
      script_ticks : (call : Call) → is_scripted call ≡ 1 → tick_one call answer ≡ 0
      script_ticks (Tick now) e = absurd (omega (arith, e))
      script_ticks call e = refl
  no_tick (app j lt e o) ne = take_ticks call o
    where
      take_ticks : (call : Call) → IsTaking f channels j call → tick_one call answer ≡ 0
      take_ticks (Tick now) e = absurd e
      take_ticks call e = refl

  -- what hands in args, opens channels and makes steps of scripts asks for nothing in vain
  pub no_idle : Deed s m f channels k call answer → (k ≡ 2 → ⊥) → k < 3 + s → idle_one call answer ≡ 0
  no_idle (caller e o) ne low = open_idles call answer o
    where
      open_idles : (call : Call) (answer : Reply) → is_opening call answer ≡ true → idle_one call answer ≡ 0
      open_idles (Open terms) answer e = refl
      open_idles call answer e = absurd (true≢false (sym e))
  no_idle (reader e o) ne low = note_idles call o
    where
      note_idles : (call : Call) → is_notified call ≡ 1 → idle_one call answer ≡ 0
      note_idles (Notify now a) e = refl
      note_idles call e = absurd (omega (arith, e))
  no_idle (dispatcher e o) ne low = absurd (ne e)
  no_idle (script l lt e o) ne low = script_idles call o
    where
      script_idles : (call : Call) → is_scripted call ≡ 1 → idle_one call answer ≡ 0
      script_idles (Pump now) e = absurd (omega (arith, e))
      script_idles (Receive c) e = absurd (omega (arith, e))
      script_idles call e = refl
  no_idle (app j lt e o) ne low = absurd (omega arith)
