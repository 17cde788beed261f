-- After channels were opened nobody was sent anything.
use Rattle.std.proofs.Common.{◌≡◌, ℕ, suc, ◌+◌, ◌<◌, ◌≤◌, min, nat_lt, not, Bool, true, false, cond, List, [], ◌∷◌, ◌++◌, length, map, filter, None, refl, sym, ap, ap₂, ◌∙◌, subst, arith}
use Rattle.std.proofs.lemmas.Bool.Decides.{nat_tests}
use Rattle.input_types.specs.declared.key.KeyArgs.{KeyArgs}
use Rattle.input_types.specs.declared.message.Body.{Body}
use Rattle.input_types.specs.declared.message.Body.TheVariants.{Key}
use Rattle.input_types.specs.declared.message.Message.{Message}
use Rattle.dispatch_calls.specs.declared.call.Call.TheVariants.{Open}
use Rattle.dispatch_calls.specs.declared.reply.Reply.{Reply}
use Rattle.dispatch_calls.specs.declared.terms.Terms.{Terms}
use Rattle.dispatch_history.specs.History.{History, clock, live, opened, received, finished}
use Rattle.dispatch_history.specs.Effect.{Effect, past_of, stream, sent_on}
use Rattle.dispatch_history.specs.Effects.{step, said_at}
use Rattle.dispatch_history.specs.Delivery.{published}
use Rattle.dispatch_history.specs.Focus.{requested, has_focus}
use Rattle.dispatch_history.specs.Keys.{keys, ends, loses_all}
use Rattle.dispatch_history.specs.KeySent.{key_cancelled}
use Rattle.dispatch_history.specs.Legal.{answered}
use Rattle.dispatch_history.specs.Reply.{open_reply}
use Rattle.dispatch_history.specs.Plan.{Plan, ChannelOf}
use Rattle.dispatch_history.specs.Given.{opens}
use Rattle.dispatch_history.specs.Ordered.{extend, begun, scripted, notified}
use Rattle.dispatcher.specs.DispatchTables.Lawful.{Lawful}
use Rattle.dispatcher.proofs.DispatchTables.Lawfuls.{lawful_step}
use Rattle.dispatcher.proofs.DispatchTables.Channels.{sound, stepped}
use Rattle.schedule.specs.State.{Caught}

-- channels were opened, and nothing else was done
pub record Fresh (ds : List ℕ) (es : List Effect) (n : ℕ) : Type 0 where
  pub lawful : Lawful ds es
  pub opened_is : opened (past_of es) ≡ n
  pub nothing_requested : (y : ℕ) → requested (past_of es) y ≡ None
  pub no_keys : (w : ℕ) → keys es w ≡ []
  pub no_stream : (c : ℕ) → stream es c ≡ []
  pub none_received : (c : ℕ) → received (past_of es) c ≡ 0
  pub none_scripted : scripted (past_of es) ≡ 0
  pub none_notified : notified (past_of es) ≡ 0

no_focus : (h : History) (w : ℕ) → ((y : ℕ) → requested h y ≡ None) → has_focus h w ≡ false
no_focus h w r = rw (r 0, r 1, r 2, r 3) refl

nothing_ends : (loses : Bool) → map key_cancelled (cond loses [] (filter (ends None) [])) ≡ []
nothing_ends true = refl
nothing_ends false = refl

both_empty : (v : Bool) (ks : List KeyArgs) → ks ≡ [] → cond v [] ks ≡ []
both_empty true ks e = refl
both_empty false ks e = e

nothing_said : (ds : List ℕ) (es : List Effect) (n c : ℕ) (terms : Terms) (answer : Reply) → Fresh ds es n → said_at ds (Open terms) answer es c ≡ []
nothing_said ds es n c terms answer h =
    rw (no_focus (past_of es) c h.nothing_requested, no_focus ((Open terms, answer) ∷ past_of es) c h.nothing_requested, h.no_keys c)
    (by_live (live ((Open terms, answer) ∷ past_of es) c) (loses_all ((Open terms, answer) ∷ past_of es) (past_of es) c))
  where
    by_live : (v w : Bool) → cond v (map Key (map key_cancelled (cond w [] []) ++ []) ++ []) [] ≡ []
    by_live true true = refl
    by_live true false = refl
    by_live false w = refl

opens_next : (n : ℕ) (terms : Terms) (h : History) → opened h ≡ n → n < 64 → opened ((Open terms, open_reply (opened h)) ∷ h) ≡ n + 1
opens_next n terms h e lt = let less : nat_lt (opened h) 64 ≡ true = grind (arith, nat_tests) in rw less (omega (arith, e))

fresh_step : (ds : List ℕ) (es : List Effect) (n : ℕ) (terms : Terms) → Fresh ds es n → n < 64 → Fresh ds (answered ds (Open terms) es) (n + 1)
fresh_step ds es n terms h lt =
    let l : Lawful ds (step ds (Open terms) (open_reply (opened (past_of es))) es) = lawful_step ds (Open terms) (open_reply (opened (past_of es))) es h.lawful refl in
    record {
      lawful = l;
      opened_is = opens_next n terms (past_of es) h.opened_is lt;
      nothing_requested = h.nothing_requested;
      no_keys = λ w. both_empty (loses_all (past_of (answered ds (Open terms) es)) (past_of es) w) (filter (λ k. not (ends None k)) (keys es w)) (ap (filter (λ k. not (ends None k))) (h.no_keys w));
      no_stream =
          λ c.
          (stepped ds (Open terms) (open_reply (opened (past_of es))) es c l (sound ds es c h.lawful)).stream_is
          ∙ ap₂ (λ (bs : List Body) (ms : List Message). sent_on (clock (past_of (answered ds (Open terms) es))) bs ms) (nothing_said ds es n c terms (open_reply (opened (past_of es))) h) (h.no_stream c);
      none_received = h.none_received;
      none_scripted = omega (arith, h.none_scripted);
      none_notified = omega (arith, h.none_notified);
    }

pub fresh_more : (ds : List ℕ) (es : List Effect) (n : ℕ) (cs : List ChannelOf) → Fresh ds es n → n + length cs ≤ 64 → Fresh ds (extend ds es (opens cs)) (n + length cs)
fresh_more ds es n [] h le = let same : n ≡ n + 0 = omega arith in subst (Fresh ds es) same h
fresh_more ds es n (c ∷ cs) h le =
    let same : n + 1 + length cs ≡ n + suc (length cs) = omega arith in
    subst (Fresh ds (extend ds (answered ds (Open c.terms) es) (opens cs))) same
    (fresh_more ds (answered ds (Open c.terms) es) (n + 1) cs (fresh_step ds es n c.terms h (omega (arith, le))) (omega (arith, le)))

pub fresh_start : (ds : List ℕ) → Fresh ds [] 0
fresh_start ds =
    record {
      lawful = record { legal = tt; whole = refl };
      opened_is = refl;
      nothing_requested = λ y. refl;
      no_keys = λ w. refl;
      no_stream = λ c. refl;
      none_received = λ c. refl;
      none_scripted = refl;
      none_notified = refl;
    }

-- the ordered run begins so
pub fresh_begun : (plan : Plan) → length plan.channels ≤ 64 → Fresh plan.displays (begun plan) (length plan.channels)
fresh_begun plan le =
    let all : 0 + length plan.channels ≡ length plan.channels = omega arith in
    subst (Fresh plan.displays (begun plan)) all (fresh_more plan.displays [] 0 plan.channels (fresh_start plan.displays) (omega (arith, le)))

-- nothing is published, and so all is received
pub fresh_caught : (ds : List ℕ) (es : List Effect) (n : ℕ) → Fresh ds es n → Caught es
fresh_caught ds es n h =
    record {
      all = λ c y. h.none_received c ∙ sym (none c);
      behind = λ c y. record { taken = λ k low high. absurd (omega (arith, h.none_received c)); fresh = λ k low high. absurd (omega (arith, none c)) };
    }
  where
    none : (c : ℕ) → published es c ≡ 0
    none c = ap (λ (ms : List Message). min (length ms) (length (finished (past_of es) c) + 64)) (h.no_stream c) ∙ omega arith
