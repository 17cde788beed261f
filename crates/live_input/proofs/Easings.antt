-- After an easing, a client has few unreceived messages, or its window is hidden.
use Rattle.std.proofs.Common.{◌≡◌, ℕ, suc, ◌+◌, ◌*◌, ◌≤◌, ◌==◌, ◌||◌, ◌⊎◌, Bool, true, false, cond, List, [], ◌∷◌, map, take, refl, sym, ap, ◌∙◌, subst, inl, inr, arith}
use Rattle.std.proofs.lemmas.Bool.{and_parts, eqb-true, true≢false}
use Rattle.window_snapshot.specs.Mask.{mask_has}
use Rattle.window_snapshot.specs.Named.{is_named}
use Rattle.dispatch_calls.specs.declared.call.Call.{Call}
use Rattle.dispatch_calls.specs.declared.call.Call.TheVariants.{Windows}
use Rattle.dispatch_history.specs.Effect.{Effect}
use Rattle.dispatch_history.specs.Legal.{answered}
use Rattle.dispatch_history.specs.Ordered.{extend}
use Rattle.dispatch_history.specs.Reply.{reply_to}
use Rattle.dispatcher.specs.DispatchTables.Lawful.{Lawful}
use Rattle.dispatcher.proofs.DispatchTables.Lawfuls.{lawful_step}
use Rattle.live_input.specs.declared.limit.Limited.{Limited}
use Rattle.live_input.specs.Easing.{EasesPart}
use Rattle.live_input.specs.Limit.{askings, eased_by, easings, is_choked, shown_again, unreceived, walled}
use Rattle.live_input.specs.LimitLaws.{AllFew}
use Rattle.live_input.specs.Served.{KeysFew}
use Rattle.live_input.specs.Wanted.{Wanted}
use Rattle.live_input.specs.Windows.{window_of}
use Rattle.live_input.proofs.Draining.{hidden_law}
use Rattle.live_input.proofs.Growing.{few_first}
use Rattle.live_input.proofs.Outgoing.{live_lawful}
use Rattle.live_input.proofs.Surplus.{goes_askings, keys_now, keys_first, unchoked_few, Hidden, left_of, Kept, few_kept, after_hidden, after_any}

-- who is choked
pub choked_new : (ds : List ℕ) (now j : ℕ) (es : List Effect) (old new : Limited) (x : EasesPart ds now j es old new) (c : ℕ)
    → mask_has new.wanted.choked c ≡ is_choked old.wanted.most old.wanted.choked old.live.seats es c
choked_new ds now j es old new x c = ap (λ (w : Wanted). mask_has w.choked c) x.wanted_is ∙ x.chokes.choked_are c

pub most_new : (ds : List ℕ) (now j : ℕ) (es : List Effect) (old new : Limited) → EasesPart ds now j es old new → new.wanted.most ≡ old.wanted.most
most_new ds now j es old new x = ap (λ (w : Wanted). w.most) x.wanted_is ∙ ap (λ (w : Wanted). w.most) x.chokes.wanted_is

-- where the windows need not be shown again, the same clients are choked as before
pub same_mask : (ds : List ℕ) (now j : ℕ) (es : List Effect) (old new : Limited) (x : EasesPart ds now j es old new)
    → x.choked.wanted.is_shown ≡ true → (old.wanted.is_shown ≡ true) × (x.choked.wanted.choked ≡ old.wanted.choked)
same_mask ds now j es old new x on =
    let both = and_parts old.wanted.is_shown (x.choked.wanted.choked == old.wanted.choked) (sym x.chokes.shown_is ∙ on) in
    (both.0, eqb-true x.choked.wanted.choked old.wanted.choked both.1)

-- and so a channel that has no window then had none before
pub hidden_still : (ds : List ℕ) (most n made k now j : ℕ) (es : List Effect) (old new : Limited) (c : ℕ) → Kept ds most n made k es old c
    → (x : EasesPart ds now j es old new) → mask_has x.choked.wanted.choked c ≡ true → x.choked.wanted.is_shown ≡ true → Hidden es c
hidden_still ds most n made k now j es old new c p x has on =
    let same = same_mask ds now j es old new x on in
    p.shown same.0 (sym (ap (λ m. mask_has m c) same.1) ∙ has)

pub or_no : (b : Bool) → (b || false) ≡ true → b ≡ true
or_no true e = refl
or_no false e = absurd (true≢false (sym e))

-- the windows could not be shown
pub kept_waits : (ds : List ℕ) (most n made k now c : ℕ) (es : List Effect) (old new : Limited) → 1 ≤ c → KeysFew k es c
    → Kept ds most n made k es old c → EasesPart ds now 0 es old new → Kept ds most n made k es new c
kept_waits ds most n made k now c es old new low few p x =
    let has = choked_new ds now 0 es old new x c in
    let limit = p.limit in
    let same_most = most_new ds now 0 es old new x in
    record {
      is = x.is;
      limit = omega (arith, limit, same_most);
      within = p.within;
      free = λ e.
          let under = unchoked_few ds es old.live old.wanted.most old.wanted.choked c low p.is (sym has ∙ e) in
          let keys_few = keys_now k c es few in
          omega (arith, under, keys_few, limit);
      held = λ e. by_old (mask_has old.wanted.choked c) refl;
      shown = λ on e.
          hidden_still ds most n made k now 0 es old new c p x (sym (ap (λ (w : Wanted). mask_has w.choked c) x.wanted_is) ∙ e)
          (or_no x.choked.wanted.is_shown (sym x.shown_is ∙ on));
    }
  where
    by_old : (b : Bool) → mask_has old.wanted.choked c ≡ b
        → (left_of es c ≤ most + k + 131 * made) ⊎ (Hidden es c × (unreceived es c ≤ most + k + 131 * (n + 6)))
    by_old true was = p.held was
    by_old false visible = inl (p.free visible)

-- the windows are shown, if they are not
pub record First (ds : List ℕ) (k c : ℕ) (es fs : List Effect) : Type 0 where
  pub lawful : Lawful ds fs
  pub few : AllFew fs → AllFew es
  pub keys_few : KeysFew k fs c → KeysFew k es c
  pub grown : AllFew fs → left_of fs c ≤ left_of es c + 131

pub shown_first : (ds : List ℕ) (k c now : ℕ) (w : Wanted) (es : List Effect) → Lawful ds es → First ds k c es (shown_again ds now w es)
shown_first ds k c now w es l = by_shown w.is_shown
  where
    call : Call
    call = Windows now (map window_of (walled w.choked w.windows))

    by_shown : (b : Bool) → First ds k c es (cond b es (answered ds call es))
    by_shown true = record { lawful = l; few = λ x. x; keys_few = λ x. x; grown = λ x. omega arith }
    by_shown false =
        record {
          lawful = lawful_step ds call (reply_to es call) es l refl;
          few = λ x. x.1;
          keys_few = λ x. x.1;
          grown = λ x. let more = after_any ds c es (call ∷ []) l x in omega (arith, more);
        }

-- A choked client has a wall then, if it had none before.
pub walled_first : (ds : List ℕ) (most n made k now j c : ℕ) (es : List Effect) (old new : Limited) → Kept ds most n made k es old c
    → (x : EasesPart ds now j es old new) → mask_has x.choked.wanted.choked c ≡ true → AllFew (shown_again ds now x.choked.wanted es)
    → Hidden (shown_again ds now x.choked.wanted es) c × (unreceived (shown_again ds now x.choked.wanted es) c ≤ most + k + 131 * (n + 6))
walled_first ds most n made k now j c es old new p x has few = by_shown x.choked.wanted.is_shown refl few
  where
    w : Wanted
    w = x.choked.wanted

    l : Lawful ds es
    l = live_lawful ds es old.live p.is

    call : Call
    call = Windows now (map window_of (walled w.choked w.windows))

    wall : is_named (map window_of (walled w.choked w.windows)) c ≡ false
    wall = hidden_law w.choked w.windows c has

    from : left_of es c ≤ most + k + 131 * made → AllFew (answered ds call es) → unreceived (answered ds call es) c ≤ most + k + 131 * (n + 6)
    from le few = let more = after_any ds c es (call ∷ []) l few in let within = p.within in omega (arith, more, le, within)

    by_old : (b : Bool) → mask_has old.wanted.choked c ≡ b → AllFew (answered ds call es) → unreceived (answered ds call es) c ≤ most + k + 131 * (n + 6)
    by_old true was few = elim (p.held was) [
      | inl le ↦ from le few
      | inr q ↦ let same = (after_hidden ds c es (call ∷ []) l q.0 (wall, tt)).1 in let le = q.1 in omega (arith, same, le)
    ]
    by_old false visible few = from (p.free visible) few

    by_shown : (b : Bool) → w.is_shown ≡ b → AllFew (cond b es (answered ds call es))
        → Hidden (cond b es (answered ds call es)) c × (unreceived (cond b es (answered ds call es)) c ≤ most + k + 131 * (n + 6))
    by_shown true on few = (hidden_still ds most n made k now j es old new c p x has on, few_kept ds most n made k es old c p)
    by_shown false off few = (wall, by_old (mask_has old.wanted.choked c) refl few)

pub kept_eases : (ds : List ℕ) (most n made k now j c : ℕ) (es : List Effect) (old new : Limited) → 1 ≤ c → Kept ds most n made k es old c
    → (x : EasesPart ds now (suc j) es old new) → AllFew (eased_by (take (suc j) (easings ds now x.choked.wanted)) es)
    → KeysFew k (eased_by (take (suc j) (easings ds now x.choked.wanted)) es) c
    → Kept ds most n 5 k (eased_by (take (suc j) (easings ds now x.choked.wanted)) es) new c
kept_eases ds most n made k now j c es old new low p x few keys_few =
    let w = x.choked.wanted in
    let first = shown_again ds now w es in
    let last = eased_by (take j (askings ds now w)) first in
    let has = choked_new ds now (suc j) es old new x c in
    let limit = p.limit in
    let same_most = most_new ds now (suc j) es old new x in
    let f = shown_first ds k c now w es (live_lawful ds es old.live p.is) in
    let g = goes_askings ds now j w first in
    let few_last : AllFew (extend ds first g.calls) = subst AllFew g.is few in
    let few_then : AllFew first = few_first ds first g.calls few_last in
    let keys_last : KeysFew k (extend ds first g.calls) c = subst (λ xs. KeysFew k xs c) g.is keys_few in
    let keys_then : KeysFew k es c = f.keys_few (keys_first ds k c first g.calls keys_last) in
    let walls : mask_has new.wanted.choked c ≡ true → Hidden last c × (unreceived last c ≤ most + k + 131 * (n + 6)) =
    λ e.
    let there : mask_has w.choked c ≡ true = sym (ap (λ (v : Wanted). mask_has v.choked c) x.wanted_is) ∙ e in
    let q = walled_first ds most n made k now (suc j) c es old new p x there few_then in
    let r = after_hidden ds c first g.calls f.lawful q.0 (g.none c) in
    let le = q.1 in let less = r.1 in
    subst (λ xs. Hidden xs c × (unreceived xs c ≤ most + k + 131 * (n + 6))) (sym g.is) (r.0, omega (arith, le, less)) in
    record {
      is = x.is;
      limit = omega (arith, limit, same_most);
      within = omega arith;
      free = λ e.
          let under = unchoked_few ds es old.live old.wanted.most old.wanted.choked c low p.is (sym has ∙ e) in
          let held = keys_now k c es keys_then in
          let one = f.grown few_then in
          let more = after_any ds c first g.calls f.lawful few_last in
          let few_calls = g.few in
          subst (λ xs. left_of xs c ≤ most + k + 131 * 5) (sym g.is) (omega (arith, under, held, one, more, few_calls, limit));
      held = λ e. inr (walls e);
      shown = λ on e. (walls e).0;
    }
