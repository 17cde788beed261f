-- What a client has that is choked or not, and what an easing sends at most.
use Rattle.std.proofs.Common.{◌≡◌, ℕ, zero, suc, ◌+◌, ◌*◌, ◌≤◌, ◌<◌, ◌⊎◌, Bool, true, false, cond, List, [], ◌∷◌, ◌++◌, length, take, reverse, Option, refl, sym, ap, ◌∙◌, inl, inr, arith, length-append}
use Rattle.std.proofs.lemmas.Bool.{cases_lt}
use Rattle.std.proofs.lemmas.List.{length-reverse}
use Rattle.window_snapshot.specs.Mask.{mask_has}
use Rattle.window_snapshot.specs.Named.{is_named}
use Rattle.dispatch_calls.specs.declared.call.Call.{Call}
use Rattle.dispatch_calls.specs.declared.call.Call.TheVariants.{Windows, FocusOn}
use Rattle.dispatch_history.specs.Effect.{Effect, past_of, stream}
use Rattle.dispatch_history.specs.History.{opened, snapshot}
use Rattle.dispatch_history.specs.Keys.{keys}
use Rattle.dispatch_history.specs.Legal.{answered}
use Rattle.dispatch_history.specs.Ordered.{extend}
use Rattle.dispatcher.specs.DispatchTables.Lawful.{Lawful}
use Rattle.dispatcher.specs.InputChannel.State.{ChannelState}
use Rattle.dispatcher.proofs.DispatchTables.Ables.{opened_few}
use Rattle.dispatcher.proofs.DispatchTables.Unopened.{unopened_law}
use Rattle.live_input.specs.declared.limit.Limited.{Limited}
use Rattle.live_input.specs.Limit.{asked_on, askings, eased_by, is_choked, is_placed, unreceived, wanted_on}
use Rattle.live_input.specs.LimitLaws.{AllFew, NoneShows}
use Rattle.live_input.specs.Served.{KeysFew}
use Rattle.live_input.specs.Seats.{is_held, seat_of}
use Rattle.live_input.specs.Showing.{channel_of}
use Rattle.live_input.specs.Standing.{LiveIs}
use Rattle.live_input.specs.State.{LiveState}
use Rattle.live_input.specs.Wanted.{Wanted}
use Rattle.live_input.proofs.Draining.{bound_law}
use Rattle.live_input.proofs.Growing.{all_grow, all_received, streams_grow}
use Rattle.live_input.proofs.Outgoing.{live_lawful}
use Rattle.live_input.proofs.Quiet.{all_hidden, all_quiet}

-- at most n calls, of which none shows windows
pub record Goes (ds : List ℕ) (n : ℕ) (es fs : List Effect) : Type 0 where
  pub calls : List Call
  pub is : fs ≡ extend ds es calls
  pub few : length calls ≤ n
  pub none : (c : ℕ) → NoneShows c calls

pub extend_append : (ds : List ℕ) (es : List Effect) (xs ys : List Call) → extend ds es (xs ++ ys) ≡ extend ds (extend ds es xs) ys
extend_append ds es [] ys = refl
extend_append ds es (x ∷ xs) ys = extend_append ds (answered ds x es) xs ys

pub none_append : (c : ℕ) (xs ys : List Call) → NoneShows c xs → NoneShows c ys → NoneShows c (xs ++ ys)
none_append c [] ys p q = q
none_append c (Windows now ws ∷ xs) ys p q = (p.0, none_append c xs ys p.1 q)
none_append c (x ∷ xs) ys p q = none_append c xs ys p q

pub goes_none : (ds : List ℕ) (n : ℕ) (es : List Effect) → Goes ds n es es
goes_none ds n es = record { calls = []; is = refl; few = omega arith; none = λ c. tt }

pub goes_both : (ds : List ℕ) (m n : ℕ) (es fs gs : List Effect) → Goes ds m es fs → Goes ds n fs gs → Goes ds (m + n) es gs
goes_both ds m n es fs gs p q =
    let a = p.few in let b = q.few in
    record {
      calls = p.calls ++ q.calls;
      is = q.is ∙ ap (λ xs. extend ds xs q.calls) p.is ∙ sym (extend_append ds es p.calls q.calls);
      few = omega (arith, length-append p.calls q.calls, a, b);
      none = λ c. none_append c p.calls q.calls (p.none c) (q.none c);
    }

-- a request, or none
pub goes_asked : (ds : List ℕ) (now y : ℕ) (k : Option ℕ) (b : Bool) (es : List Effect) → Goes ds 1 es (cond b es (answered ds (FocusOn now y k false) es))
goes_asked ds now y k true es = goes_none ds 1 es
goes_asked ds now y k false es = record { calls = FocusOn now y k false ∷ []; is = refl; few = omega arith; none = λ c. tt }

abbrev pub AllGo : List ℕ → List (List Effect → List Effect) → Type 0
AllGo ds [] = Unit {0}
AllGo ds (step ∷ steps) = ((es : List Effect) → Goes ds 1 es (step es)) × AllGo ds steps

pub goes_each : (ds : List ℕ) (steps : List (List Effect → List Effect)) (j : ℕ) (es : List Effect) → AllGo ds steps
    → Goes ds (length steps) es (eased_by (take j steps) es)
goes_each ds steps zero es all = goes_none ds (length steps) es
goes_each ds [] (suc j) es all = goes_none ds 0 es
goes_each ds (step ∷ steps) (suc j) es all =
    let rest = goes_both ds 1 (length steps) es (step es) (eased_by (take j steps) (step es)) (all.0 es) (goes_each ds steps j (step es) all.1) in
    let few = rest.few in
    record { calls = rest.calls; is = rest.is; few = omega (arith, few); none = rest.none }

pub goes_askings : (ds : List ℕ) (now j : ℕ) (w : Wanted) (es : List Effect) → Goes ds 4 es (eased_by (take j (askings ds now w)) es)
goes_askings ds now j w es = goes_each ds (askings ds now w) j es (on 0, (on 1, (on 2, (on 3, tt))))
  where
    on : (y : ℕ) (fs : List Effect) → Goes ds 1 fs (asked_on ds now w y fs)
    on y fs = goes_asked ds now y (channel_of (wanted_on w y)) (is_placed w fs y) fs

pub keys_now : (k c : ℕ) (es : List Effect) → KeysFew k es c → length (keys es c) ≤ k
keys_now k c [] few = omega arith
keys_now k c (x ∷ es) few = few.0

pub keys_first : (ds : List ℕ) (k c : ℕ) (es : List Effect) (calls : List Call) → KeysFew k (extend ds es calls) c → KeysFew k es c
keys_first ds k c es [] few = few
keys_first ds k c es (call ∷ calls) few = (keys_first ds k c (answered ds call es) calls few).1

-- a channel that was never opened was sent nothing
pub never_sent : (ds : List ℕ) (es : List Effect) (c : ℕ) → Lawful ds es → opened (past_of es) < c → unreceived es c ≡ 0
never_sent ds es c l lt =
    let none : length (reverse (stream es c)) ≡ 0 = ap (λ (s : ChannelState). length s.messages) (unopened_law ds es c l lt) in
    omega (arith, none, length-reverse (stream es c))

pub unchoked_few : (ds : List ℕ) (es : List Effect) (s : LiveState) (most choked c : ℕ) → 1 ≤ c → LiveIs ds es s
    → is_choked most choked s.seats es c ≡ false → unreceived es c ≤ most
unchoked_few ds es s most choked c low h calm =
    elim (cases_lt (opened (past_of es)) c) [
      | inl lt ↦ let none = never_sent ds es c (live_lawful ds es s h) lt in omega (arith, none)
      | inr le ↦ by_seat le (is_held (seat_of s.seats c)) refl
    ]
  where
    by_seat : c ≤ opened (past_of es) → (b : Bool) → is_held (seat_of s.seats c) ≡ b → unreceived es c ≤ most
    by_seat le true y =
        let few = opened_few ds es (live_lawful ds es s h) in bound_law ds es s most choked c h (low, (omega (arith, le, few)), y) calm
    by_seat le false n = let done = (h.tenants_are.left c low le n).received_all in omega (arith, done)

-- no window of the channel is shown
abbrev pub Hidden : List Effect → ℕ → Type 0
Hidden es c = is_named (snapshot (past_of es)) c ≡ false

-- what a client has to receive, and may yet be told of keys
abbrev pub left_of : List Effect → ℕ → ℕ
left_of es c = unreceived es c + length (keys es c)

pub record Kept (ds : List ℕ) (most n made k : ℕ) (es : List Effect) (s : Limited) (c : ℕ) : Type 0 where
  pub is : LiveIs ds es s.live
  pub limit : s.wanted.most ≤ most
  pub within : made ≤ n + 5
  pub free : mask_has s.wanted.choked c ≡ false → left_of es c ≤ most + k + 131 * made
  pub held : mask_has s.wanted.choked c ≡ true
      → (left_of es c ≤ most + k + 131 * made) ⊎ (Hidden es c × (unreceived es c ≤ most + k + 131 * (n + 6)))
  pub shown : s.wanted.is_shown ≡ true → mask_has s.wanted.choked c ≡ true → Hidden es c

-- either way it has few
pub few_kept : (ds : List ℕ) (most n made k : ℕ) (es : List Effect) (s : Limited) (c : ℕ) → Kept ds most n made k es s c
    → unreceived es c ≤ most + k + 131 * (n + 6)
few_kept ds most n made k es s c x = by_mask (mask_has s.wanted.choked c) refl
  where
    low : left_of es c ≤ most + k + 131 * made → unreceived es c ≤ most + k + 131 * (n + 6)
    low p = let le = x.within in omega (arith, le, p)

    by_mask : (b : Bool) → mask_has s.wanted.choked c ≡ b → unreceived es c ≤ most + k + 131 * (n + 6)
    by_mask true has = elim (x.held has) [
      | inl p ↦ low p
      | inr q ↦ q.1
    ]
    by_mask false none = low (x.free none)

-- calls that do not show a hidden window
pub after_hidden : (ds : List ℕ) (c : ℕ) (es : List Effect) (calls : List Call) → Lawful ds es → Hidden es c → NoneShows c calls
    → Hidden (extend ds es calls) c × (unreceived (extend ds es calls) c ≤ unreceived es c)
after_hidden ds c es calls l hidden none =
    let same = ap length (all_quiet ds es c calls l hidden none) in
    let more = all_received ds es calls c in
    (all_hidden ds es c calls hidden none, omega (arith, same, more))

-- any calls
pub after_any : (ds : List ℕ) (c : ℕ) (es : List Effect) (calls : List Call) → Lawful ds es → AllFew (extend ds es calls)
    → left_of (extend ds es calls) c ≤ left_of es c + 131 * length calls
after_any ds c es calls l few =
    let all = all_grow ds es calls c l few in
    let more = all_received ds es calls c in
    let longer = streams_grow ds es calls c in
    omega (arith, all, more, longer)
