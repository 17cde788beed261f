-- A client never has many more unreceived messages than the limit.
use Rattle.std.proofs.Common.{◌≡◌, ℕ, suc, ◌+◌, ◌*◌, ◌≤◌, ◌<◌, Bool, true, false, List, [], ◌∷◌, length, map, None, refl, sym, ap, ◌∙◌, subst, inl, inr, arith}
use Rattle.std.proofs.lemmas.Bool.{true≢false}
use Rattle.input_types.specs.declared.message.Args.{Args}
use Rattle.window_snapshot.specs.Mask.{mask_has}
use Rattle.window_snapshot.proofs.Masks.{mask_has-zero}
use Rattle.dispatch_calls.specs.declared.call.Call.{Call}
use Rattle.dispatch_calls.specs.declared.call.Call.TheVariants.{Windows, FocusOn, Pump}
use Rattle.dispatch_calls.specs.declared.reply.Reply.{Reply}
use Rattle.dispatch_calls.specs.declared.reply.Reply.TheVariants.{Dispatched}
use Rattle.dispatch_history.specs.Effect.{Effect, past_of, sent_on, stream}
use Rattle.dispatch_history.specs.History.{clock}
use Rattle.dispatch_history.specs.Legal.{answered}
use Rattle.dispatch_history.specs.Queue.{args_of, inbound}
use Rattle.dispatch_history.specs.Reply.{reply_to}
use Rattle.dispatcher.specs.DispatchTables.Lawful.{Lawful}
use Rattle.dispatcher.specs.DispatchTables.Silent.{is_silent}
use Rattle.dispatcher.proofs.DispatchTables.Channels.{sound, stepped}
use Rattle.dispatcher.proofs.DispatchTables.Silence.{silent_calls}
use Rattle.live_input.specs.declared.limit.Limited.{Limited}
use Rattle.live_input.specs.Limit.{eased_by, easings, shown_again, unless_choked, walled}
use Rattle.live_input.specs.LimitLaws.{AllFew, NoneShows}
use Rattle.live_input.specs.Served.{AsksServedLaw, KeepsHidden, KeysFew, Leaves, SameLimit, Served, ServedLaw, ShowsServedLaw, StepsServedLaw, starts, eases, waits, sends, rests, leaves}
use Rattle.live_input.specs.Showing.{channel_of}
use Rattle.live_input.specs.Standing.{LiveIs, is_plain}
use Rattle.live_input.specs.Stepwise.{DoesDue, does_more, does_none}
use Rattle.live_input.specs.Wanted.{Wanted}
use Rattle.live_input.specs.Windows.{window_of}
use Rattle.live_input.proofs.Draining.{hidden_law}
use Rattle.live_input.proofs.Following.{plain_due}
use Rattle.live_input.proofs.Growing.{all_received, few_first, kept_keys}
use Rattle.live_input.proofs.Outgoing.{live_lawful}
use Rattle.live_input.proofs.Quiet.{all_hidden}
use Rattle.live_input.proofs.Surplus.{goes_askings, keys_now, keys_first, left_of, Kept, few_kept, after_hidden, after_any}
use Rattle.live_input.proofs.Easings.{kept_waits, shown_first, kept_eases}

-- ---- other calls

kept_sends : (ds : List ℕ) (most n made k c : ℕ) (es : List Effect) (old new : Limited) (call : Call) → Kept ds most n made k es old c
    → made < n + 5 → LiveIs ds (answered ds call es) new.live → SameLimit old new → KeepsHidden call es old → AllFew (answered ds call es)
    → Kept ds most n (suc made) k (answered ds call es) new c
kept_sends ds most n made k c es old new call p less h same keeps few =
    let l = live_lawful ds es old.live p.is in
    let more = after_any ds c es (call ∷ []) l few in
    let was : (b : Bool) → mask_has new.wanted.choked c ≡ b → mask_has old.wanted.choked c ≡ b =
    λ b e. sym (ap (λ m. mask_has m c) same.choked_is) ∙ e in
    let limit = p.limit in
    let same_most = same.most_is in
    record {
      is = h;
      limit = omega (arith, limit, same_most);
      within = omega (arith, less);
      free = λ e. let le = p.free (was false e) in omega (arith, more, le);
      held = λ e. elim (p.held (was true e)) [
        | inl le ↦ inl (omega (arith, more, le))
        | inr q ↦
            let r = after_hidden ds c es (call ∷ []) l q.0 (keeps c (was true e) q.0) in
            let le = q.1 in let fewer = r.1 in
            inr (r.0, omega (arith, le, fewer))
      ];
      shown = λ on e.
          let hidden = p.shown (sym same.shown_is ∙ on) (was true e) in
          (after_hidden ds c es (call ∷ []) l hidden (keeps c (was true e) hidden)).0;
    }

silent_args : (call : Call) (answer : Reply) (waiting : List Args) (c : ℕ) → is_silent call answer c ≡ true → args_of call answer waiting ≡ None
silent_args (Pump now) Dispatched waiting c e = absurd (true≢false (sym e))
silent_args call answer waiting c e = refl

silent_none : (call : Call) (answer : Reply) (c : ℕ) → is_silent call answer c ≡ true → NoneShows c (call ∷ [])
silent_none (Windows now ws) answer c e = absurd (true≢false (sym e))
silent_none call answer c e = tt

kept_rests : (ds : List ℕ) (most n made k c : ℕ) (es : List Effect) (old new : Limited) (call : Call) → Kept ds most n made k es old c
    → LiveIs ds (answered ds call es) new.live → SameLimit old new → is_silent call (reply_to es call) c ≡ true
    → Kept ds most n made k (answered ds call es) new c
kept_rests ds most n made k c es old new call p h same silent =
    let answer = reply_to es call in
    let l = live_lawful ds es old.live p.is in
    let later = live_lawful ds (answered ds call es) new.live h in
    let none = silent_none call answer c silent in
    let as_long =
    ap length
    ((stepped ds call answer es c later (sound ds es c l)).stream_is
    ∙ ap (λ bs. sent_on (clock ((call, answer) ∷ past_of es)) bs (stream es c)) (silent_calls ds call answer es c silent)) in
    let more = all_received ds es (call ∷ []) c in
    let fewer = kept_keys ds call es c (silent_args call answer (inbound (past_of es)) c silent) in
    let was : (b : Bool) → mask_has new.wanted.choked c ≡ b → mask_has old.wanted.choked c ≡ b =
    λ b e. sym (ap (λ m. mask_has m c) same.choked_is) ∙ e in
    let limit = p.limit in
    let same_most = same.most_is in
    record {
      is = h;
      limit = omega (arith, limit, same_most);
      within = p.within;
      free = λ e. let le = p.free (was false e) in omega (arith, as_long, more, fewer, le);
      held = λ e. elim (p.held (was true e)) [
        | inl le ↦ inl (omega (arith, as_long, more, fewer, le))
        | inr q ↦ let le = q.1 in inr (all_hidden ds es c (call ∷ []) q.0 none, omega (arith, as_long, more, le))
      ];
      shown = λ on e. all_hidden ds es c (call ∷ []) (p.shown (sym same.shown_is ∙ on) (was true e)) none;
    }

kept_leaves : (ds : List ℕ) (most n made k c : ℕ) (es : List Effect) (old new : Limited) → KeysFew k es c → Kept ds most n made k es old c
    → Leaves ds most es old new → Kept ds most n made k es new c
kept_leaves ds most n made k c es old new few p x =
    record {
      is = x.is;
      limit = x.limit;
      within = p.within;
      free = λ e. by_old (mask_has old.wanted.choked c) refl e;
      held = λ e. p.held (x.fewer c e);
      shown = λ on e. p.shown (x.shown on) (x.fewer c e);
    }
  where
    by_old : (b : Bool) → mask_has old.wanted.choked c ≡ b → mask_has new.wanted.choked c ≡ false → left_of es c ≤ most + k + 131 * made
    by_old true was gone =
        let done = (x.left c was gone).received_all in
        let held = keys_now k c es few in
        omega (arith, done, held)
    by_old false visible gone = p.free visible

-- ---- all together

served_lawful : (ds : List ℕ) (most n made : ℕ) (es : List Effect) (s : Limited) → Served ds most n made es s → Lawful ds es
served_lawful ds most n made es s (starts new h none le) = live_lawful ds [] new.live h
served_lawful ds most n made es s (eases before past old new now j r x) = live_lawful ds _ new.live x.is
served_lawful ds most n made es s (waits before past old new now r x) = live_lawful ds past new.live x.is
served_lawful ds most n made es s (sends before past old new call r less h same keeps) = live_lawful ds (answered ds call past) new.live h
served_lawful ds most n made es s (rests before past old new call r h same silent) = live_lawful ds (answered ds call past) new.live h
served_lawful ds most n made es s (leaves before past old new r x) = live_lawful ds past new.live x.is

kept : (ds : List ℕ) (most n k c made : ℕ) (es : List Effect) (s : Limited) → 1 ≤ c → Served ds most n made es s → AllFew es → KeysFew k es c
    → Kept ds most n made k es s c
kept ds most n k c made es s low (starts new h none le) few keys_few =
    let none_is : mask_has new.wanted.choked c ≡ false = ap (λ m. mask_has m c) none ∙ mask_has-zero c in
    record {
      is = h;
      limit = le;
      within = omega arith;
      free = λ e. omega arith;
      held = λ e. absurd (true≢false (sym e ∙ none_is));
      shown = λ on e. absurd (true≢false (sym e ∙ none_is));
    }
kept ds most n k c made es s low (eases before past old new now j r x) few keys_few =
    let w = x.choked.wanted in
    let f = shown_first ds k c now w past (served_lawful ds most n before past old r) in
    let g = goes_askings ds now j w (shown_again ds now w past) in
    let few_then = f.few (few_first ds (shown_again ds now w past) g.calls (subst AllFew g.is few)) in
    let keys_then = f.keys_few (keys_first ds k c (shown_again ds now w past) g.calls (subst (λ xs. KeysFew k xs c) g.is keys_few)) in
    kept_eases ds most n before k now j c past old new low (kept ds most n k c before past old low r few_then keys_then) x few keys_few
kept ds most n k c made es s low (waits before past old new now r x) few keys_few =
    kept_waits ds most n before k now c past old new low keys_few (kept ds most n k c before past old low r few keys_few) x
kept ds most n k c made es s low (sends before past old new call r less h same keeps) few keys_few =
    kept_sends ds most n before k c past old new call (kept ds most n k c before past old low r few.1 keys_few.1) less h same keeps few
kept ds most n k c made es s low (rests before past old new call r h same silent) few keys_few =
    kept_rests ds most n before k c past old new call (kept ds most n k c before past old low r few.1 keys_few.1) h same (silent c)
kept ds most n k c made es s low (leaves before past old new r x) few keys_few =
    kept_leaves ds most n before k c past old new keys_few (kept ds most n k c before past old low r few keys_few) x

pub served_law : ServedLaw
served_law ds most n made k c es s low r few keys_few =
    few_kept ds most n made k es s c (kept ds most n k c made es s low r few keys_few)

-- ---- which calls stay within that

plain_none : (call : Call) (c : ℕ) → is_plain call ≡ true → NoneShows c (call ∷ [])
plain_none (Windows now ws) c e = absurd (true≢false (sym e))
plain_none call c e = tt

same_limit : (old new : Limited) → new.wanted ≡ old.wanted → SameLimit old new
same_limit old new e =
    record {
      choked_is = ap (λ (w : Wanted). w.choked) e;
      shown_is = ap (λ (w : Wanted). w.is_shown) e;
      most_is = ap (λ (w : Wanted). w.most) e;
    }

steps_from : (ds : List ℕ) (most n made now : ℕ) (es : List Effect) (old : Limited) (fs : List Effect) (new : Limited) → 1 ≤ n
    → Served ds most n made es old → DoesDue ds now es old fs new → (after : ℕ) × Served ds most n after fs new
steps_from ds most n made now es old fs new one r does_none = (made, r)
steps_from ds most n made now es old fs new one r (does_more gs mid eased last call d x) =
    let before = steps_from ds most n made now es old gs mid one r d in
    let hs = eased_by (easings ds now x.part.choked.wanted) gs in
    let plain = (plain_due eased.live.seats now hs call x.next).0 in (
      6,
      sends 5 hs eased last call (eases before.0 gs mid eased now 4 before.1 x.part) (omega (arith, one)) x.is
          (same_limit eased last x.wanted_is) (λ c has hidden. plain_none call c plain),
    )

pub steps_served : StepsServedLaw
steps_served ds most n made now es fs old new one r d = steps_from ds most n made now es old fs new one r d

pub shows_served : ShowsServedLaw
shows_served ds most n made now ws es old new one r x =
    let eased = x.eased in
    let hs = eased_by (easings ds now x.part.choked.wanted) es in
    let call = Windows now (map window_of (walled eased.wanted.choked ws)) in (
      answered ds call hs,
      sends 5 hs eased new call (eases made es old eased now 4 r x.part) (omega (arith, one)) x.goes.0.0
          (record {
            choked_is = ap (λ (w : Wanted). w.choked) x.goes.1;
            shown_is = ap (λ (w : Wanted). w.is_shown) x.goes.1;
            most_is = ap (λ (w : Wanted). w.most) x.goes.1;
          })
          (λ c has hidden. (hidden_law eased.wanted.choked ws c has, tt)),
    )

pub asks_served : AsksServedLaw
asks_served ds most n made now y client es old new one r x =
    let g = x.1 in
    let eased = g.eased in
    let hs = eased_by (easings ds now g.part.choked.wanted) es in
    let call = FocusOn now y (channel_of (unless_choked eased.wanted.choked client)) true in (
      answered ds call hs,
      sends 5 hs eased new call (eases made es old eased now 4 r g.part) (omega (arith, one)) g.goes.0.0
          (record {
            choked_is = ap (λ (w : Wanted). w.choked) g.goes.1;
            shown_is = ap (λ (w : Wanted). w.is_shown) g.goes.1;
            most_is = ap (λ (w : Wanted). w.most) g.goes.1;
          })
          (λ c has hidden. tt),
    )
