-- The steps of easing, one after another.
use Rattle.std.proofs.Common.{◌≡◌, ℕ, zero, suc, ◌<◌, ◌≤◌, ◌&&◌, ◌||◌, Bool, true, false, cond, List, map, take, Option, refl, sym, ap, ap₂, ◌∙◌, subst, arith}
use Rattle.std.specs.Prelude.{Result, Ok, Err, OnOk, OnErr}
use Rattle.std.specs.declared.alloc.AllocError.{AllocError}
use Rattle.std.proofs.lemmas.Bool.{and_parts, lt-ltb, true≢false}
use Rattle.window_snapshot.specs.Mask.{mask_has}
use Rattle.dispatch_calls.specs.declared.call.Call.TheVariants.{Windows, FocusOn}
use Rattle.dispatch_history.specs.Effect.{Effect}
use Rattle.dispatch_history.specs.Legal.{answered}
use Rattle.live_input.specs.declared.client.Client.{Client}
use Rattle.live_input.specs.declared.limit.Limited.{Limited}
use Rattle.live_input.specs.declared.windows.ClientWindow.{ClientWindow}
use Rattle.live_input.specs.Answers.{SameClients, SameRest}
use Rattle.live_input.specs.Easing.{AsksWanted, Chokes, Eases, IfElse, IsCalm, KeepsReported, at_clock}
use Rattle.live_input.specs.Limit.{are_placed, asked_on, askings, eased_by, is_choked, is_placed, shown_again, walled, wanted_on}
use Rattle.live_input.specs.Showing.{channel_of}
use Rattle.live_input.specs.Standing.{LiveIs}
use Rattle.live_input.specs.State.{LiveState, latest}
use Rattle.live_input.specs.Wanted.{Wanted}
use Rattle.live_input.specs.Windows.{window_of}

-- the clock is now
pub latest_same : (now : ℕ) (s : LiveState) → s.clock ≡ now → latest now s ≡ now
latest_same now s e = omega (arith, e)

-- a step that is done, or is not needed
pub is_needed : (ds : List ℕ) (s : LiveState) (b : Bool) (es fs : List Effect) → b ≡ false → LiveIs ds fs s → LiveIs ds (cond b es fs) s
is_needed ds s b es fs e h = subst (λ k. LiveIs ds (cond k es fs) s) (sym e) h

pub not_needed : (ds : List ℕ) (s : LiveState) (b : Bool) (es fs : List Effect) → b ≡ true → LiveIs ds es s → LiveIs ds (cond b es fs) s
not_needed ds s b es fs e h = subst (λ k. LiveIs ds (cond k es fs) s) (sym e) h

-- the windows are shown at the clock
pub shown_goes : (ds : List ℕ) (now : ℕ) (w : Wanted) (es : List Effect) (old new : LiveState) (rows : List ClientWindow)
    → rows ≡ walled w.choked w.windows → old.clock ≡ now → w.is_shown ≡ false
    → LiveIs ds (answered ds (Windows (latest now old) (map window_of rows)) es) new → LiveIs ds (shown_again ds now w es) new
shown_goes ds now w es old new rows same at hidden h =
    is_needed ds new w.is_shown es (answered ds (Windows now (map window_of (walled w.choked w.windows))) es) hidden
    (subst (λ vs. LiveIs ds (answered ds (Windows now (map window_of vs)) es) new) same
    (subst (λ n. LiveIs ds (answered ds (Windows n (map window_of rows)) es) new) (latest_same now old at) h))

-- the focus is requested at the clock
pub asked_goes : (ds : List ℕ) (now y : ℕ) (w : Wanted) (es : List Effect) (old new : LiveState) (k : Option Client)
    → k ≡ wanted_on w y → old.clock ≡ now → is_placed w es y ≡ false
    → LiveIs ds (answered ds (FocusOn (latest now old) y (channel_of k) false) es) new → LiveIs ds (asked_on ds now w y es) new
asked_goes ds now y w es old new k same at placed h =
    is_needed ds new (is_placed w es y) es (answered ds (FocusOn now y (channel_of (wanted_on w y)) false) es) placed
    (subst (λ o. LiveIs ds (answered ds (FocusOn now y (channel_of o) false) es) new) same
    (subst (λ n. LiveIs ds (answered ds (FocusOn n y (channel_of k) false) es) new) (latest_same now old at) h))

-- all else is the same
pub rest_none : (s : LiveState) → SameRest s s
rest_none s =
    record { seats_are = refl; opened_is = refl; terms_are = refl; devices_are = refl; pending_is = refl; fingers_are = refl; reported_is = refl; clock_is = refl }

pub rest_same : (s t : LiveState) → t ≡ s → SameRest s t
rest_same s t e = subst (SameRest s) (sym e) (rest_none s)

pub rest_then : (s t u : LiveState) → SameRest s t → SameRest t u → SameRest s u
rest_then s t u p q =
    record {
      seats_are = q.seats_are ∙ p.seats_are;
      opened_is = q.opened_is ∙ p.opened_is;
      terms_are = q.terms_are ∙ p.terms_are;
      devices_are = q.devices_are ∙ p.devices_are;
      pending_is = q.pending_is ∙ p.pending_is;
      fingers_are = q.fingers_are ∙ p.fingers_are;
      reported_is = q.reported_is ∙ p.reported_is;
      clock_is = q.clock_is ∙ p.clock_is;
    }

pub rest_by : (now : ℕ) (s t : LiveState) → SameClients s t → t.reported ≡ s.reported → (s.clock ≤ t.clock) × (t.clock ≤ latest now s) → s.clock ≡ now
    → SameRest s t
rest_by now s t p named clock at =
    let low = clock.0 in let high = clock.1 in
    record {
      seats_are = p.seats_are;
      opened_is = p.opened_is;
      terms_are = p.terms_are;
      devices_are = p.devices_are;
      pending_is = p.pending_is;
      fingers_are = p.fingers_are;
      reported_is = named;
      clock_is = omega (arith, low, high, at);
    }

pub clients_none : (s : LiveState) → SameClients s s
clients_none s = record { seats_are = refl; opened_is = refl; terms_are = refl; devices_are = refl; pending_is = refl; fingers_are = refl }

pub clients_raised : (s t : LiveState) (n : ℕ) → t ≡ record s { clock = n } → SameClients s t
clients_raised s t n e =
    subst (SameClients s) (sym e) (record { seats_are = refl; opened_is = refl; terms_are = refl; devices_are = refl; pending_is = refl; fingers_are = refl })

pub clients_named : (s t : LiveState) (n : ℕ) → t ≡ record s { reported = n } → SameClients s t
clients_named s t n e =
    subst (SameClients s) (sym e) (record { seats_are = refl; opened_is = refl; terms_are = refl; devices_are = refl; pending_is = refl; fingers_are = refl })

pub clients_both : (s t u : LiveState) → SameClients s t → SameClients t u → SameClients s u
clients_both s t u p q =
    record {
      seats_are = q.seats_are ∙ p.seats_are;
      opened_is = q.opened_is ∙ p.opened_is;
      terms_are = q.terms_are ∙ p.terms_are;
      devices_are = q.devices_are ∙ p.devices_are;
      pending_is = q.pending_is ∙ p.pending_is;
      fingers_are = q.fingers_are ∙ p.fingers_are;
    }

pub clients_rest : (s t : LiveState) → SameRest s t → SameClients s t
clients_rest s t p =
    record { seats_are = p.seats_are; opened_is = p.opened_is; terms_are = p.terms_are; devices_are = p.devices_are; pending_is = p.pending_is; fingers_are = p.fingers_are }

-- the first requests are made
pub record AsksFirst (ds : List ℕ) (now n : ℕ) (es : List Effect) (w : Wanted) (old : LiveState) (s : Limited) : Type 0 where
  pub is : LiveIs ds (eased_by (take n (askings ds now w)) es) s.live
  pub wanted_is : s.wanted ≡ w
  pub rest : SameRest old s.live
  pub clock_is : s.live.clock ≡ now

pub asks_none : (ds : List ℕ) (now : ℕ) (es : List Effect) (s : Limited) → LiveIs ds es s.live → s.live.clock ≡ now
    → AsksFirst ds now 0 es s.wanted s.live s
asks_none ds now es s h at = record { is = h; wanted_is = refl; rest = rest_none s.live; clock_is = at }

one_more : (ds : List ℕ) (now n : ℕ) (es : List Effect) (w : Wanted) → n < 3
    → asked_on ds now w n (eased_by (take n (askings ds now w)) es) ≡ eased_by (take (suc n) (askings ds now w)) es
one_more ds now zero es w lt = refl
one_more ds now (suc zero) es w lt = refl
one_more ds now (suc (suc zero)) es w lt = refl
one_more ds now (suc (suc (suc n))) es w lt = absurd (omega (arith, lt))

pub asks_more : (ds : List ℕ) (now n y : ℕ) (es : List Effect) (w : Wanted) (old : LiveState) (s t : Limited) → n < 3 → y ≡ n
    → AsksFirst ds now n es w old s → LiveIs ds (asked_on ds now s.wanted y (eased_by (take n (askings ds now w)) es)) t.live
    → t.wanted ≡ s.wanted → (s.live.clock ≡ now → SameRest s.live t.live) → AsksFirst ds now (suc n) es w old t
asks_more ds now n y es w old s t lt at r h same rest =
    let fs = eased_by (take n (askings ds now w)) es in
    let more = rest r.clock_is in
    record {
      is =
          subst (λ gs. LiveIs ds gs t.live) (one_more ds now n es w lt)
          (subst (λ z. LiveIs ds (asked_on ds now w z fs) t.live) at
          (subst (λ v. LiveIs ds (asked_on ds now v y fs) t.live) r.wanted_is h));
      wanted_is = same ∙ r.wanted_is;
      rest = rest_then old s.live t.live r.rest more;
      clock_is = more.clock_is ∙ r.clock_is;
    }

-- the last one is made, or is not
pub asks_all : (ds : List ℕ) (now y : ℕ) (es : List Effect) (w : Wanted) (old : LiveState) (s t : Limited) (r : Result (Unit {0}) AllocError) → y ≡ 3
    → AsksFirst ds now 3 es w old s → OnOk r (LiveIs ds (asked_on ds now s.wanted y (eased_by (take 3 (askings ds now w)) es)) t.live)
    → OnErr r (t ≡ s) → AsksWanted ds now es w r t.live
asks_all ds now y es w old s t (Ok done) at a ok err =
    let fs = eased_by (take 3 (askings ds now w)) es in
    subst (λ z. LiveIs ds (asked_on ds now w z fs) t.live) at (subst (λ v. LiveIs ds (asked_on ds now v y fs) t.live) a.wanted_is ok)
asks_all ds now y es w old s t (Err e) at a ok err =
    (3, subst (λ (x : Limited). LiveIs ds (eased_by (take 3 (askings ds now w)) es) x.live) (sym err) a.is)

-- one is not, after some
pub asks_some : (ds : List ℕ) (now n : ℕ) (es : List Effect) (w : Wanted) (old : LiveState) (s t : Limited) (r : Result (Unit {0}) AllocError) (e : AllocError)
    → r ≡ Err e → AsksFirst ds now n es w old s → t ≡ s → AsksWanted ds now es w r t.live
asks_some ds now n es w old s t r e failed a same =
    subst (λ x. AsksWanted ds now es w x t.live) (sym failed)
    (n, subst (λ (x : Limited). LiveIs ds (eased_by (take n (askings ds now w)) es) x.live) (sym same) a.is)

-- where all are requested as wanted
pub placed_parts : (w : Wanted) (es : List Effect) → are_placed w es ≡ true
    → (is_placed w es 0 ≡ true) × (is_placed w es 1 ≡ true) × (is_placed w es 2 ≡ true) × (is_placed w es 3 ≡ true)
placed_parts w es e =
    let c = and_parts (is_placed w es 0 && is_placed w es 1 && is_placed w es 2) (is_placed w es 3) e in
    let b = and_parts (is_placed w es 0 && is_placed w es 1) (is_placed w es 2) c.0 in
    let a = and_parts (is_placed w es 0) (is_placed w es 1) b.0 in
    (a.0, a.1, b.1, c.1)

pub calm_next : (ds : List ℕ) (es : List Effect) (s t : Limited) (y z : ℕ) → t ≡ s → y ≡ z → LiveIs ds es s.live → is_placed s.wanted es z ≡ true
    → LiveIs ds es t.live × (is_placed t.wanted es y ≡ true)
calm_next ds es s t y z e f h placed = (
  subst (λ (x : Limited). LiveIs ds es x.live) (sym e) h,
  subst (λ (x : Limited). is_placed x.wanted es y ≡ true) (sym e) (subst (λ i. is_placed s.wanted es i ≡ true) (sym f) placed),
)

-- Whether nothing is to be eased, by the last test.
pub calm_is : (es : List Effect) (s : Limited) (b : Bool)
    → ((c : ℕ) → is_choked s.wanted.most s.wanted.choked s.live.seats es c ≡ mask_has s.wanted.choked c) → s.wanted.is_shown ≡ true
    → b ≡ are_placed s.wanted es → IfElse b (IsCalm es s) (IsCalm es s → ⊥)
calm_is es s true are shown e = record { choked_are = are; shown = shown; placed = sym e }
calm_is es s false are shown e = λ k. true≢false (sym k.placed ∙ sym e)

-- the clock is raised
pub calm_raised : (es : List Effect) (s : Limited) (t : LiveState) (n : ℕ) → t ≡ record s.live { clock = n } → IsCalm es s
    → IsCalm es (record { live = t; wanted = s.wanted })
calm_raised es s t n e k =
    record {
      choked_are = λ c. ap (λ (l : LiveState). is_choked s.wanted.most s.wanted.choked l.seats es c) e ∙ k.choked_are c;
      shown = k.shown;
      placed = k.placed;
    }

pub or_true : (b : Bool) → (b || true) ≡ true
or_true true = refl
or_true false = refl

or_false : (b : Bool) → b ≡ (b || false)
or_false true = refl
or_false false = refl

-- The windows are not shown, so nothing is eased but who is choked.
pub eases_none : (ds : List ℕ) (now : ℕ) (es : List Effect) (a c v : Limited) (r : Result (Unit {0}) AllocError) (e : AllocError) → r ≡ Err e
    → Chokes es (at_clock now a) c → LiveIs ds es c.live → v ≡ c → Eases ds now es r a v
eases_none ds now es a c v r e failed chokes h same =
    subst (λ x. Eases ds now es r a x) (sym same)
    (subst (λ x. Eases ds now es x a c) (sym failed)
    (0, record { choked = c; chokes = chokes; is = h; wanted_is = refl; shown_is = or_false c.wanted.is_shown; rest = rest_none c.live }))

-- The windows are shown, and all requests are made or some.
pub eases_all : (ds : List ℕ) (now : ℕ) (es : List Effect) (a c v t : Limited) (r : Result (Unit {0}) AllocError) → Chokes es (at_clock now a) c
    → v.wanted ≡ record c.wanted { is_shown = true } → SameRest c.live v.live → t.wanted ≡ v.wanted → SameRest v.live t.live
    → AsksWanted ds now (shown_again ds now c.wanted es) v.wanted r t.live → Eases ds now es r a t
eases_all ds now es a c v t (Ok done) chokes shown rest same more asks =
    let is = same ∙ shown in
    let there : t.wanted.is_shown ≡ true = ap (λ (w : Wanted). w.is_shown) is in (
      there,
      record {
        choked = c;
        chokes = chokes;
        is = subst (λ (w : Wanted). LiveIs ds (eased_by (askings ds now w) (shown_again ds now c.wanted es)) t.live) shown asks;
        wanted_is = is ∙ sym (ap (λ (w : Wanted). record c.wanted { is_shown = w.is_shown }) is);
        shown_is = there ∙ sym (or_true c.wanted.is_shown);
        rest = rest_then c.live v.live t.live rest more;
      },
    )
eases_all ds now es a c v t (Err e) chokes shown rest same more asks =
    let is = same ∙ shown in
    let there : t.wanted.is_shown ≡ true = ap (λ (w : Wanted). w.is_shown) is in (
      suc asks.0,
      record {
        choked = c;
        chokes = chokes;
        is = subst (λ (w : Wanted). LiveIs ds (eased_by (take asks.0 (askings ds now w)) (shown_again ds now c.wanted es)) t.live) shown asks.1;
        wanted_is = is ∙ sym (ap (λ (w : Wanted). record c.wanted { is_shown = w.is_shown }) is);
        shown_is = there ∙ sym (ap (λ b. c.wanted.is_shown || b) (lt-ltb 0 (suc asks.0) (omega arith)) ∙ or_true c.wanted.is_shown);
        rest = rest_then c.live v.live t.live rest more;
      },
    )

-- a service below, with what is wanted
abbrev pub limited : LiveState → Wanted → Limited
limited l w = record { live = l; wanted = w }

-- after the clock was raised and clients were choked, it is the time that was returned
pub clocked : (now : ℕ) (old raised choked : LiveState) (n : ℕ) → n ≡ latest now old → raised ≡ record old { clock = latest now old }
    → choked.clock ≡ raised.clock → choked.clock ≡ n
clocked now old raised choked n is e same = same ∙ ap (λ (l : LiveState). l.clock) e ∙ sym is

-- what was reported stays so
pub named_then : (old raised choked new : ℕ) → raised ≡ old → KeepsReported raised choked → new ≡ choked → KeepsReported old new
named_then old raised choked new e keeps same = λ c is.
    ap (λ n. mask_has n c) same ∙ keeps c (ap (λ n. mask_has n c) e ∙ is)

-- the requests are compared one after another
pub placed_all : (w : Wanted) (es : List Effect) (a b c d : Bool) (x y z u : ℕ) → x ≡ 0 → y ≡ 1 → z ≡ 2 → u ≡ 3 → a ≡ is_placed w es x → b ≡ is_placed w es y
    → c ≡ is_placed w es z → d ≡ is_placed w es u → (a && b && c && d) ≡ are_placed w es
placed_all w es a b c d x y z u ex ey ez eu ea eb ec ed =
    ap₂ (λ m n. m && n)
    (ap₂ (λ m n. m && n) (ap₂ (λ m n. m && n) (ea ∙ ap (is_placed w es) ex) (eb ∙ ap (is_placed w es) ey)) (ec ∙ ap (is_placed w es) ez))
    (ed ∙ ap (is_placed w es) eu)
