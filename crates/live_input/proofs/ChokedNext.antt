-- Which channels are choked from now on, one channel after another, and what is reported of them.
use Rattle.std.proofs.Common.{◌≡◌, ℕ, ◌-◌, ◌==◌, ◌&&◌, ◌||◌, Bool, true, false, not, cond, List, length, Option, Some, None, refl, sym, ap, ap₂, ◌∙◌, inl, inr}
use Rattle.std.specs.Prelude.{is_some, nat_le, nat_lt, slice_get, option_map}
use Rattle.std.proofs.lemmas.Bool.{and_parts, and_right, cases_Bool, cases_eq, cases_lt, eq-eqb, leb-true, ne_eqb, or_cases, true≢false}
use Rattle.input_types.specs.declared.message.Message.{Message}
use Rattle.window_snapshot.specs.Mask.{is_channel, mask_has, mask_with}
use Rattle.window_snapshot.proofs.Masks.{mask_has-with, mask_has-zero}
use Rattle.dispatch_calls.specs.declared.counts.Counts.{Counts}
use Rattle.dispatch_history.specs.Delivery.{oldest, published}
use Rattle.dispatch_history.specs.Due.{counts}
use Rattle.dispatch_history.specs.Effect.{Effect, past_of, stream}
use Rattle.dispatch_history.specs.History.{finished, live, opened, received}
use Rattle.dispatcher.specs.Access.{is_opened}
use Rattle.dispatcher.specs.DispatchTables.Lawful.{Lawful}
use Rattle.dispatcher.proofs.DispatchTables.Unopened.{unopened_not_live}
use Rattle.live_input.specs.declared.limit.Limited.{Limited}
use Rattle.live_input.specs.declared.client.Seat.{Seat}
use Rattle.live_input.specs.Easing.{Chokes, IsCalm, KeepsReported}
use Rattle.live_input.specs.Limit.{is_choked, unreceived}
use Rattle.live_input.specs.Seats.{IsHeld, is_held, seat_of}
use Rattle.live_input.specs.Standing.{AreSeated, IsMaskOfHeld, LiveIs}
use Rattle.live_input.specs.State.{LiveState}
use Rattle.live_input.specs.Wanted.{Wanted}
use Rattle.live_input.proofs.Noting.{channel_in}
use Rattle.live_input.proofs.Opened.{opened_at}

and_true : (b : Bool) → (b && true) ≡ b
and_true true = refl
and_true false = refl

-- a live channel was opened
pub live_opened : (ds : List ℕ) (es : List Effect) (c : ℕ) → Lawful ds es → is_channel c ≡ true → live (past_of es) c ≡ true
    → is_opened es c ≡ true
live_opened ds es c l channel is =
    elim (cases_lt (opened (past_of es)) c) [
      | inl lt ↦ absurd (true≢false (sym is ∙ unopened_not_live ds es c l lt))
      | inr le ↦ opened_at es c (channel_in c channel).0 le
    ]

-- what the dispatcher counts of an opened channel
abbrev counted : List Effect → ℕ → Counts
counted es c =
    record { sent = length (stream es c); received = received (past_of es) c; finished = length (finished (past_of es) c); published = published es c; live = live (past_of es) c }

pub counted_unreceived : (es : List Effect) (c : ℕ) (k : Counts) → is_opened es c ≡ true → Some k ≡ counts es c
    → k.sent - k.received ≡ unreceived es c
counted_unreceived es c k is e = by_test (is_opened es c) is e
  where
    by_test : (b : Bool) → b ≡ true → Some k ≡ cond b (Some (counted es c)) None → k.sent - k.received ≡ unreceived es c
    by_test true is e = let same : k ≡ counted es c = cc in ap (λ (x : Counts). x.sent - x.received) same
    by_test false is e = absurd (true≢false (sym is))

pub counted_some : (es : List Effect) (c : ℕ) → is_opened es c ≡ true → None ≡ counts es c → ⊥
counted_some es c is e = by_test (is_opened es c) is e
  where
    by_test : (b : Bool) → b ≡ true → None ≡ cond b (Some (counted es c)) None → ⊥
    by_test true is e = cc
    by_test false is e = true≢false (sym is)

-- a channel with an unfinished message has a client
unfinished_held : (ds : List ℕ) (es : List Effect) (s : LiveState) (c : ℕ) → LiveIs ds es s → is_channel c ≡ true → is_opened es c ≡ true
    → is_some (oldest es c) ≡ true → is_held (seat_of s.seats c) ≡ true
unfinished_held ds es s c h channel is some =
    elim (cases_Bool (is_held (seat_of s.seats c))) [
      | inl y ↦ y
      | inr vacant ↦
          let le = leb-true c (opened (past_of es)) (and_parts (nat_le 1 c) (nat_le c (opened (past_of es))) is).1 in
          let none = (h.tenants_are.left c (channel_in c channel).0 le vacant).finished_all in
          absurd (true≢false (sym some ∙ ap (λ (us : List Message). is_some (slice_get us 0)) none))
    ]

-- it was choked, or has more than the most
abbrev is_past : (most choked : ℕ) → List Effect → ℕ → Bool
is_past most choked es c = mask_has choked c || nat_lt most (unreceived es c)

-- So the client of an opened channel is choked if something is unfinished there, and it was choked or has too much.
pub choked_opened : (ds : List ℕ) (es : List Effect) (s : LiveState) (most choked c : ℕ) → LiveIs ds es s → is_channel c ≡ true
    → is_opened es c ≡ true → is_choked most choked s.seats es c ≡ (is_past most choked es c && is_some (oldest es c))
choked_opened ds es s most choked c h channel opened = by_some (is_some (oldest es c)) refl
  where
    by_some : (b : Bool) → is_some (oldest es c) ≡ b → is_choked most choked s.seats es c ≡ (is_past most choked es c && is_some (oldest es c))
    by_some true e =
        ap (λ k. k && (is_held (seat_of s.seats c) && (is_some (oldest es c) && is_past most choked es c))) channel
        ∙ ap (λ k. k && (is_some (oldest es c) && is_past most choked es c)) (unfinished_held ds es s c h channel opened e)
        ∙ ap (λ k. k && is_past most choked es c) e
        ∙ sym (ap (λ k. is_past most choked es c && k) e ∙ and_true (is_past most choked es c))
    by_some false e =
        ap (λ k. is_channel c && (is_held (seat_of s.seats c) && (k && is_past most choked es c))) e
        ∙ ap (λ k. is_channel c && k) (and_right (is_held (seat_of s.seats c)) false refl)
        ∙ and_right (is_channel c) false refl
        ∙ sym (ap (λ k. is_past most choked es c && k) e ∙ and_right (is_past most choked es c) false refl)

pub is_past_by : (most choked : ℕ) (es : List Effect) (c count : ℕ) (was : Bool) → was ≡ mask_has choked c → count ≡ unreceived es c
    → (was || nat_lt most count) ≡ is_past most choked es c
is_past_by most choked es c count was e f = ap₂ (λ b n. b || nat_lt most n) e f

pub some_mapped : (o : Option Message) → is_some (option_map (λ m. m.seq) o) ≡ is_some o
some_mapped None = refl
some_mapped (Some m) = refl

-- what a choked client has
pub choked_parts : (most choked : ℕ) (seats : List Seat) (es : List Effect) (c : ℕ) → is_choked most choked seats es c ≡ true
    → (is_channel c ≡ true) × (is_held (seat_of seats c) ≡ true) × (is_some (oldest es c) ≡ true)
choked_parts most choked seats es c y =
    let x = and_parts (is_channel c) (is_held (seat_of seats c) && (is_some (oldest es c) && is_past most choked es c)) y in
    let v = and_parts (is_held (seat_of seats c)) (is_some (oldest es c) && is_past most choked es c) x.1 in
    (x.0, v.0, (and_parts (is_some (oldest es c)) (is_past most choked es c) v.1).0)

pub choked_held : (most choked : ℕ) (seats : List Seat) (es : List Effect) (c : ℕ) → is_choked most choked seats es c ≡ true → IsHeld c seats
choked_held most choked seats es c y =
    let x = choked_parts most choked seats es c y in
    let range = channel_in c x.0 in
    (range.0, range.1, x.1)

-- a channel that is live only if nothing is unfinished there is not choked
pub none_choked : (es : List Effect) (seats : List Seat) (most choked c : ℕ) → AreSeated (past_of es) seats
    → (live (past_of es) c ≡ true → oldest es c ≡ None) → is_choked most choked seats es c ≡ false
none_choked es seats most choked c h none =
    elim (cases_Bool (is_choked most choked seats es c)) [
      | inr n ↦ n
      | inl y ↦
          let x = choked_parts most choked seats es c y in
          let range = channel_in c x.0 in
          let lives = h.lives c range.0 (h.held c range.0 range.1 x.1) in
          absurd (true≢false (sym x.2 ∙ ap is_some (none lives)))
    ]

-- Before any channel is looked at: those that are not in the mask are not choked.
pub choked_first : (es : List Effect) (seats : List Seat) (most choked rest : ℕ) → AreSeated (past_of es) seats
    → ((c : ℕ) → live (past_of es) c ≡ true → mask_has rest c ≡ false → oldest es c ≡ None)
    → (c : ℕ) → mask_has 0 c ≡ (not (mask_has rest c) && is_choked most choked seats es c)
choked_first es seats most choked rest h none c = mask_has-zero c ∙ by_test (mask_has rest c) refl
  where
    by_test : (b : Bool) → mask_has rest c ≡ b → false ≡ (not (mask_has rest c) && is_choked most choked seats es c)
    by_test true e = sym (ap (λ k. not k && is_choked most choked seats es c) e)
    by_test false e =
        sym (ap (λ k. not k && is_choked most choked seats es c) e ∙ none_choked es seats most choked c h (λ is. none c is e))

-- One channel more is looked at.
pub choked_more : (f : ℕ → Bool) (mask rest later n : ℕ) → is_channel n ≡ true → mask_has rest n ≡ true
    → ((c : ℕ) → mask_has later c ≡ (not (c == n) && mask_has rest c))
    → ((c : ℕ) → mask_has mask c ≡ (not (mask_has rest c) && f c))
    → (c : ℕ) → mask_has (cond (f n) (mask_with mask n) mask) c ≡ (not (mask_has later c) && f c)
choked_more f mask rest later n channel has out before c =
    elim (cases_eq c n) [
      | inl same ↦
          ap (mask_has (cond (f n) (mask_with mask n) mask)) same
          ∙ itself (f n) refl
          ∙ sym (ap (λ k. not k && f c) (out c ∙ ap (λ k. not k && mask_has rest c) (eq-eqb c n same)) ∙ ap f same)
      | inr other ↦
          another (f n) other
          ∙ before c
          ∙ sym (ap (λ k. not k && f c) (out c ∙ ap (λ k. not k && mask_has rest c) (ne_eqb c n other)))
    ]
  where
    itself : (b : Bool) → f n ≡ b → mask_has (cond b (mask_with mask n) mask) n ≡ b
    itself true e =
        mask_has-with mask n n
        ∙ ap (λ k. mask_has mask n || k) (ap₂ (λ a b. a && b) channel (eq-eqb n n refl))
        ∙ or_true (mask_has mask n)
      where
        or_true : (b : Bool) → (b || true) ≡ true
        or_true true = refl
        or_true false = refl
    itself false e = before n ∙ ap (λ k. not k && f n) has

    another : (b : Bool) → (c ≡ n → ⊥) → mask_has (cond b (mask_with mask n) mask) c ≡ mask_has mask c
    another true ne =
        mask_has-with mask n c
        ∙ ap (λ k. mask_has mask c || k) (ap (λ b. is_channel c && b) (ne_eqb n c (λ e. ne (sym e))) ∙ and_right (is_channel c) false refl)
        ∙ or_nothing (mask_has mask c)
      where
        or_nothing : (b : Bool) → (b || false) ≡ b
        or_nothing true = refl
        or_nothing false = refl
    another false ne = refl

pub choked_last : (f : ℕ → Bool) (mask rest c : ℕ) → rest ≡ 0 → mask_has mask c ≡ (not (mask_has rest c) && f c) → mask_has mask c ≡ f c
choked_last f mask rest c none e = e ∙ ap (λ k. not (mask_has k c) && f c) none ∙ ap (λ k. not k && f c) (mask_has-zero c)

-- who is choked and reported is unchanged
not_and_so : (b : Bool) → (b && not b) ≡ false
not_and_so true = refl
not_and_so false = refl

or_none : (a b : Bool) → b ≡ false → a ≡ (a || b)
or_none true b e = refl
or_none false b e = sym e

pub chokes_same : (es : List Effect) (s : Limited)
    → ((c : ℕ) → mask_has s.wanted.choked c ≡ is_choked s.wanted.most s.wanted.choked s.live.seats es c) → Chokes es s s
chokes_same es s are =
    record {
      choked_are = are;
      reported_are = λ c. or_none (mask_has s.live.reported c) _ (not_and_so (mask_has s.wanted.choked c));
      shown_is = sym (ap (λ b. s.wanted.is_shown && b) (eq-eqb s.wanted.choked s.wanted.choked refl) ∙ and_true s.wanted.is_shown);
      live_is = refl;
      wanted_is = refl;
    }

-- others are choked than before
pub chokes_other : (es : List Effect) (old : Limited) (live : LiveState) (wanted : Wanted) (mask named : ℕ)
    → live ≡ record old.live { reported = named } → wanted ≡ record old.wanted { choked = mask; is_shown = false }
    → ((c : ℕ) → mask_has mask c ≡ is_choked old.wanted.most old.wanted.choked old.live.seats es c)
    → ((c : ℕ) → mask_has named c ≡ (mask_has old.live.reported c || (mask_has mask c && not (mask_has old.wanted.choked c))))
    → (((c : ℕ) → mask_has mask c ≡ mask_has old.wanted.choked c) → ⊥) → Chokes es old (record { live = live; wanted = wanted })
chokes_other es old live wanted mask named el ew are reported other =
    record {
      choked_are = λ c. ap (λ (w : Wanted). mask_has w.choked c) ew ∙ are c;
      reported_are = λ c.
          ap (λ (l : LiveState). mask_has l.reported c) el
          ∙ reported c
          ∙ sym (ap (λ (w : Wanted). mask_has old.live.reported c || (mask_has w.choked c && not (mask_has old.wanted.choked c))) ew);
      shown_is =
          ap (λ (w : Wanted). w.is_shown) ew
          ∙ sym (ap (λ (w : Wanted). old.wanted.is_shown && (w.choked == old.wanted.choked)) ew
          ∙ ap (λ b. old.wanted.is_shown && b) (ne_eqb mask old.wanted.choked (λ e. other (λ c. ap (λ m. mask_has m c) e)))
          ∙ and_right old.wanted.is_shown false refl);
      live_is = el ∙ sym (ap (λ (l : LiveState). record old.live { reported = l.reported }) el);
      wanted_is = ew ∙ sym (ap (λ (w : Wanted). record old.wanted { choked = w.choked; is_shown = w.is_shown }) ew);
    }

-- what is reported: those that were, and those that are choked from now on and were not
pub reports : (now before : ℕ) (named late new : ℕ) → ((c : ℕ) → mask_has new c ≡ (mask_has named c || mask_has late c))
    → ((c : ℕ) → mask_has late c ≡ (not (mask_has before c) && mask_has now c))
    → (c : ℕ) → mask_has new c ≡ (mask_has named c || (mask_has now c && not (mask_has before c)))
reports now before named late new e less c =
    e c ∙ ap (λ b. mask_has named c || b) (less c ∙ and_swap (mask_has before c) (mask_has now c))
  where
    and_swap : (a b : Bool) → (not a && b) ≡ (b && not a)
    and_swap true b = sym (and_right b false refl)
    and_swap false b = sym (and_true b)

-- each of these has a client
pub reported_held : (ds : List ℕ) (es : List Effect) (s : LiveState) (most choked mask named : ℕ) → LiveIs ds es s
    → ((c : ℕ) → mask_has mask c ≡ is_choked most choked s.seats es c)
    → ((c : ℕ) → mask_has named c ≡ (mask_has s.reported c || (mask_has mask c && not (mask_has choked c)))) → IsMaskOfHeld named s.seats
reported_held ds es s most choked mask named h are reported = λ c is.
    elim (or_cases (mask_has s.reported c) (mask_has mask c && not (mask_has choked c)) (sym (reported c) ∙ is)) [
      | inl was ↦ h.reported_are c was
      | inr new ↦
          let x = and_parts (mask_has mask c) (not (mask_has choked c)) new in
          choked_held most choked s.seats es c (sym (are c) ∙ x.0)
    ]

pub reports_keep : (old new : ℕ) (late : ℕ → Bool) → ((c : ℕ) → mask_has new c ≡ (mask_has old c || late c)) → KeepsReported old new
reports_keep old new late e = λ c is. e c ∙ ap (λ b. b || late c) is

-- where nothing is to be eased, the same clients are choked
pub calm_same : (es : List Effect) (s : Limited) (mask : ℕ) → IsCalm es s
    → ((c : ℕ) → mask_has mask c ≡ is_choked s.wanted.most s.wanted.choked s.live.seats es c) → (c : ℕ) → mask_has mask c ≡ mask_has s.wanted.choked c
calm_same es s mask calm are c = are c ∙ calm.choked_are c

-- who is choked, by the limit and the mask that were read
pub choked_by : (es : List Effect) (seats : List Seat) (m most b choked mask : ℕ) → m ≡ most → b ≡ choked
    → ((c : ℕ) → mask_has mask c ≡ is_choked m b seats es c) → (c : ℕ) → mask_has mask c ≡ is_choked most choked seats es c
choked_by es seats m most b choked mask e f are c = are c ∙ ap₂ (λ x y. is_choked x y seats es c) e f
