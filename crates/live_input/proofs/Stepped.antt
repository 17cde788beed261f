-- One thing after another that is due is done, and before each the service is eased.
use Rattle.std.proofs.Common.{◌≡◌, ℕ, true, List, [], None, refl, ap, ◌∙◌, subst, inl, inr}
use Rattle.dispatch_calls.specs.declared.call.Call.{Call}
use Rattle.dispatch_history.specs.Effect.{Effect}
use Rattle.dispatch_history.specs.Legal.{answered}
use Rattle.live_input.specs.declared.limit.Limited.{Limited}
use Rattle.live_input.specs.Answers.{SameClients, SameSeats}
use Rattle.live_input.specs.Easing.{EasesPart, IsCalm}
use Rattle.live_input.specs.Giving.{notified}
use Rattle.live_input.specs.Limit.{eased_by, easings, is_choked}
use Rattle.live_input.specs.LimitedCalls.{EasedAlone}
use Rattle.live_input.specs.Settling.{next_due}
use Rattle.live_input.specs.Standing.{LiveIs}
use Rattle.live_input.specs.State.{LiveState}
use Rattle.live_input.specs.Stepwise.{DoesAll, DoesDue, DoesNext, DoesPart, HandsAll, does_more, does_none}

-- some of what is due was done, and the service stands for that
pub record DoesSome (ds : List ℕ) (now : ℕ) (es : List Effect) (old s : Limited) : Type 0 where
  pub so_far : List Effect
  pub does : DoesDue ds now es old so_far s
  pub is : LiveIs ds so_far s.live

pub does_first : (ds : List ℕ) (now : ℕ) (es : List Effect) (s : Limited) → LiveIs ds es s.live → DoesSome ds now es s s
does_first ds now es s h = record { so_far = es; does = does_none; is = h }

-- one more call, from where the service was eased
pub does_then : (ds : List ℕ) (now : ℕ) (es : List Effect) (old mid eased new : Limited) (call : Call) (d : DoesSome ds now es old mid)
    → (x : DoesNext ds now d.so_far mid call eased new) → DoesSome ds now es old new
does_then ds now es old mid eased new call d x =
    record {
      so_far = answered ds call (eased_by (easings ds now x.part.choked.wanted) d.so_far);
      does = does_more d.so_far mid eased new call d.does x;
      is = x.is;
    }

-- nothing is due any more
pub does_all : (ds : List ℕ) (now : ℕ) (es : List Effect) (mask : ℕ) (old mid eased new : Limited) (d : DoesSome ds now es old mid)
    → eased.wanted.is_shown ≡ true → (part : EasesPart ds now 5 d.so_far mid eased)
    → next_due now (eased_by (easings ds now part.choked.wanted) d.so_far) ≡ None → mask ≡ eased.live.reported
    → LiveIs ds (eased_by (easings ds now part.choked.wanted) d.so_far) new.live
    → new ≡ record eased { live = record eased.live { reported = 0 } } → DoesAll ds now es mask old new
does_all ds now es mask old mid eased new d shown part none same is rest =
    record {
      so_far = d.so_far;
      last = mid;
      does = d.does;
      ends = record { eased = eased; shown = shown; part = part; goes = (none, same, is, rest) };
    }

-- memory ran out
pub does_same : (ds : List ℕ) (now : ℕ) (es : List Effect) (old s : Limited) → DoesSome ds now es old s → DoesPart ds now es old s
does_same ds now es old s d = record { so_far = d.so_far; last = s; does = d.does; ends = inl refl }

pub does_eased : (ds : List ℕ) (now : ℕ) (es : List Effect) (old s new : Limited) (d : DoesSome ds now es old s)
    → EasedAlone ds now d.so_far s new → DoesPart ds now es old new
does_eased ds now es old s new d part = record { so_far = d.so_far; last = s; does = d.does; ends = inr part }

-- the clock was raised, which seats nobody
pub seats_raised : (old raised new : LiveState) (now : ℕ) → raised ≡ record old { clock = now } → SameSeats raised new → SameSeats old new
seats_raised old raised new now e seats =
    record {
      seats_are = seats.seats_are ∙ ap (λ (l : LiveState). l.seats) e;
      opened_is = seats.opened_is ∙ ap (λ (l : LiveState). l.opened) e;
      terms_are = seats.terms_are ∙ ap (λ (l : LiveState). l.terms) e;
      fingers_are = seats.fingers_are ∙ ap (λ (l : LiveState). l.fingers) e;
    }

-- What must be handed in was, from the raised clock.
pub hands_all : (ds : List ℕ) (now n : ℕ) (es : List Effect) (old : Limited) (raised handed : LiveState)
    → raised ≡ record old.live { clock = now } → n ≡ now → LiveIs ds (notified ds n es raised.pending) handed → handed.pending ≡ []
    → SameSeats raised handed → handed.devices ≡ raised.devices → handed.reported ≡ raised.reported → handed.clock ≡ raised.clock
    → HandsAll ds now es old (record { live = handed; wanted = old.wanted })
hands_all ds now n es old raised handed e same h none seats devices named clock =
    record {
      is =
          subst (λ (l : LiveState). LiveIs ds (notified ds now es l.pending) handed) e
          (subst (λ k. LiveIs ds (notified ds k es raised.pending) handed) same h);
      none = none;
      clock_is = clock ∙ ap (λ (l : LiveState). l.clock) e;
      reported_is = named ∙ ap (λ (l : LiveState). l.reported) e;
      devices_are = devices ∙ ap (λ (l : LiveState). l.devices) e;
      seats_are = seats_raised old.live raised handed now e seats;
      wanted_is = refl;
    }

-- the same clients, after both
pub seats_then : (a b c : LiveState) → SameSeats a b → SameClients b c → SameSeats a c
seats_then a b c x y =
    record {
      seats_are = y.seats_are ∙ x.seats_are;
      opened_is = y.opened_is ∙ x.opened_is;
      terms_are = y.terms_are ∙ x.terms_are;
      fingers_are = y.fingers_are ∙ x.fingers_are;
    }

-- with other clients seated as they were, nothing is to be eased either
pub calm_seated : (es : List Effect) (s : Limited) (live : LiveState) → live.seats ≡ s.live.seats → IsCalm es s
    → IsCalm es (record { live = live; wanted = s.wanted })
calm_seated es s live e calm =
    record {
      choked_are = λ c. ap (λ seats. is_choked s.wanted.most s.wanted.choked seats es c) e ∙ calm.choked_are c;
      shown = calm.shown;
      placed = calm.placed;
    }
