-- Whole streams: each is well-formed, says what its window holds, and ends with its channel.
use Rattle.std.proofs.Common.{◌≡◌, ℕ, ◌+◌, ◌≤◌, ◌==◌, ◌&&◌, Bool, true, false, not, cond, is_some, max, length, filter, List, [], ◌∷◌, ◌++◌, Some, refl, sym, ap, ◌∙◌, subst, inl, inr, arith}
use Rattle.std.specs.List.{list_any}
use Rattle.std.proofs.Math.Path.{fun_ext}
use Rattle.std.proofs.lemmas.Bool.{cases_Bool, eq-eqb}
use Rattle.input_types.specs.declared.message.Body.{Body}
use Rattle.input_types.specs.declared.message.Message.{Message}
use Rattle.input_types.specs.StreamRule.{stream_state}
use Rattle.routing_rules.specs.Outgoing.{devices}
use Rattle.dispatch_calls.specs.declared.call.Call.TheVariants.{Remove}
use Rattle.dispatch_calls.specs.declared.reply.Reply.TheVariants.{Done, Gone}
use Rattle.dispatch_history.specs.History.{History, clock, live, moment_of, opened}
use Rattle.dispatch_history.specs.Effect.{past_of, stream, sent_on, sent_to, sent_down, down_ids}
use Rattle.dispatch_history.specs.Step.{marks}
use Rattle.routing_rules.specs.Pairs.{has}
use Rattle.routing_rules.specs.Marks.{held}
use Rattle.dispatch_history.specs.Effects.{effects}
use Rattle.dispatch_history.specs.Focus.{has_focus}
use Rattle.dispatch_history.specs.Legal.{Legal}
use Rattle.dispatch_history.specs.PointerOf.{AllRise}
use Rattle.dispatch_history.specs.Known.{held_ids, known_state, IsNumbered, NeverFalls}
use Rattle.dispatch_history.specs.Laws.{WholeLaw, WellFormedLaw, RemovedLaw, RemovedStateLaw, GoneLaw, NumbersLaw}
use Rattle.dispatch_history.proofs.LegalLaws.{effects_law}
use Rattle.dispatch_history.proofs.StreamLaws.{live_law, silent_law}
use Rattle.dispatch_history.proofs.MotionLaws.{motions_law, motions_come, none_known, new_channel, opened_mono}
use Rattle.dispatch_history.proofs.FocusLaws.{focus_law, focus_comes}
use Rattle.dispatch_history.proofs.KeyLaws.{keys_law, keys_come}
use Rattle.dispatch_history.proofs.Agreeing.{Agrees, agrees}

-- each field of what is known is Some
whole : (ds : List ℕ) (h : History) (w : ℕ) → Legal ds h → AllRise h → Agrees (stream (effects ds h) w)
whole ds h w l r =
    agrees (stream (effects ds h) w)
    (record { ids = λ d. motions_come ds h w d l r; repeats = λ d s. keys_come ds h w d s l; focus = focus_comes ds h w l })

some_same : {X : Type 0} {x y : X} → Some x ≡ Some y → x ≡ y
some_same e = cc

known_ids : (ds : List ℕ) (h : History) (w d : ℕ) → Legal ds h → AllRise h → live h w ≡ true → sent_down d (stream (effects ds h) w) ≡ Some (held_ids (effects ds h) w d)
known_ids ds h w d l r e =
    let es = effects ds h in
    let ids = filter (has (held (marks es)) w d) (down_ids es d) in
    elim (cases_Bool (list_any (λ e. e == d) devices)) [
      | inl y ↦ motions_law ds h w d l r e y ∙ sym (ap (λ b. Some (cond b ids [])) y)
      | inr n ↦ none_known ds h w d l n ∙ sym (ap (λ b. Some (cond b ids [])) n)
    ]

pub whole_law : WholeLaw
whole_law ds h w l r e =
    let es = effects ds h in
    let a = whole ds h w l r in
    let ids : (d : ℕ) → a.state.ids d ≡ held_ids es w d = λ d. some_same (sym (a.ids d) ∙ known_ids ds h w d l r e) in
    let repeats : (d s : ℕ) → a.state.repeats d s ≡ (known_state es w).repeats d s = λ d s. some_same (sym (a.repeats d s) ∙ keys_law ds h w d s l e) in
    let focus : a.state.focus ≡ has_focus (past_of es) w =
    some_same (sym a.focus ∙ focus_law ds h w l e) ∙ ap (λ past. has_focus past w) (sym (effects_law ds h)) in
    a.is ∙ ap Some (λ i. record { ids = fun_ext ids i; repeats = fun_ext (λ d. fun_ext (repeats d)) i; focus = focus i })

pub well_formed_law : WellFormedLaw
well_formed_law ds h w l r = ap is_some (whole ds h w l r).is

-- numbers and moments
numbered_on : (now : ℕ) (bs : List Body) (ms : List Message) → IsNumbered ms → IsNumbered (sent_on now bs ms)
numbered_on now [] ms n = n
numbered_on now (b ∷ bs) ms n = numbered_on now bs (record { seq = 1 + length ms; moment = now; body = b } ∷ ms) (refl, n)

falls_on : (now : ℕ) (bs : List Body) (ms : List Message) → NeverFalls now ms → NeverFalls now (sent_on now bs ms)
falls_on now [] ms n = n
falls_on now (b ∷ bs) ms n = falls_on now bs (record { seq = 1 + length ms; moment = now; body = b } ∷ ms) (omega arith, n)

falls_below : (a b : ℕ) (ms : List Message) → a ≤ b → NeverFalls a ms → NeverFalls b ms
falls_below a b [] le n = tt
falls_below a b (m ∷ ms) le n = (omega (arith, le, n.0), n.1)

pub numbers_law : NumbersLaw
numbers_law ds [] w = (tt, tt)
numbers_law ds (e ∷ h) w =
    let es = effects ds h in
    let before = numbers_law ds h w in
    let now = clock ((e.0, e.1) ∷ past_of es) in
    let same : now ≡ clock (e ∷ h) = ap (λ past. max (moment_of e.0) (clock past)) (effects_law ds h) in
    let bs = sent_to _ w in (
      numbered_on now bs (stream es w) before.0,
      subst (λ b. NeverFalls b (sent_on now bs (stream es w))) same
          (falls_on now bs (stream es w) (falls_below (clock h) now (stream es w) (omega (arith, same)) before.1)),
    )

-- a removed channel
opened_later : (later h : History) → opened h ≤ opened (later ++ h)
opened_later [] h = omega arith
opened_later (e ∷ later) h = omega (arith, opened_later later h, opened_mono e.0 e.1 (opened (later ++ h)))

legal_before : (ds : List ℕ) (later h : History) → Legal ds (later ++ h) → Legal ds h
legal_before ds [] h l = l
legal_before ds (e ∷ later) h l = legal_before ds later h l.1

was_live : (b : Bool) → Done ≡ cond b Done Gone → b ≡ true
was_live true e = refl
was_live false e = absurd (cc e)

pub removed_law : RemovedLaw
removed_law ds [] h now c l =
    let gone : live ((Remove now c, Done) ∷ h) c ≡ false = ap (λ b. not b && live h c) (eq-eqb c c refl) in
    (gone, silent_law ds (Remove now c) Done h c gone)
removed_law ds (e ∷ later) h now c l =
    let past : History = later ++ (Remove now c, Done) ∷ h in
    let before = removed_law ds later h now c l.1 in
    let r = legal_before ds later ((Remove now c, Done) ∷ h) l.1 in
    let alive : live h c ≡ true = ap (λ k. live k c) (sym (effects_law ds h)) ∙ was_live (live (past_of (effects ds h)) c) r.0 in
    let low : c ≤ opened h = (live_law ds h c r.1 alive).1 in
    let gone : live (e ∷ past) c ≡ false =
    elim (cases_Bool (live (e ∷ past) c)) [
      | inl y ↦ absurd (omega (arith, new_channel ds e.0 e.1 past c l before.0 y, opened_later later ((Remove now c, Done) ∷ h), low))
      | inr n ↦ n
    ] in
    (gone, silent_law ds e.0 e.1 past c gone ∙ before.1)

rise_before : (later h : History) → AllRise (later ++ h) → AllRise h
rise_before [] h r = r
rise_before (e ∷ later) h r = rise_before later h r.1

pub removed_state_law : RemovedStateLaw
removed_state_law ds later h now c l rise =
    let r = legal_before ds later ((Remove now c, Done) ∷ h) l in
    let alive : live h c ≡ true = ap (λ k. live k c) (sym (effects_law ds h)) ∙ was_live (live (past_of (effects ds h)) c) r.0 in
    ap stream_state (removed_law ds later h now c l).1
    ∙ whole_law ds h c r.1 (rise_before later ((Remove now c, Done) ∷ h) rise).1 alive

pub gone_law : GoneLaw
gone_law ds h c n =
    let e : live (past_of (effects ds h)) c ≡ false = ap (λ k. live k c) (effects_law ds h) ∙ n in (
      rw e refl,
      λ now seq. rw e refl,
      λ now device. rw e refl,
      λ now. rw e refl,
    )
