-- What fingers give: nothing before the packet ends, and then what the history accepts.
use Rattle.std.proofs.Common.{◌≡◌, ℕ, pos, negsuc, ◌%◌, ◌^◌, ◌&&◌, List, [], ◌∷◌, ◌++◌, map, refl, sym, ap, ap₂, ◌∙◌, subst, append-nil}
use Rattle.std.proofs.Math.Bool.{and_assoc}
use Rattle.input_types.specs.declared.message.Args.{Args}
use Rattle.raw_events.specs.declared.event.RawEvent.{RawEvent}
use Rattle.device_reader.specs.Cooked.{DevicePlan, args_of}
use Rattle.dispatch_calls.specs.declared.call.Call.TheVariants.{Notify}
use Rattle.dispatch_history.specs.Effect.{Effect}
use Rattle.dispatch_history.specs.Legal.{answered}
use Rattle.dispatch_history.specs.Reply.{reply_to}
use Rattle.live_input.specs.declared.strokes.Stroke.{Stroke}
use Rattle.live_input.specs.Answers.{is_taken}
use Rattle.live_input.specs.FingerLaws.{FittingLaw, GivesNone, RefusedLaw}
use Rattle.live_input.specs.Fingers.{behind, given}
use Rattle.live_input.specs.Giving.{IsFed, all_taken, notified}
use Rattle.live_input.specs.Slots.{first_free, slot_for, slot_of, slot_with}
use Rattle.live_input.specs.Strokes.{report, said, slot_is, tool_is, tracking_is, x_is, y_is}
use Rattle.live_input.proofs.Fed.{fed_law}
use Rattle.live_input.proofs.Panels.{planned_ok, quiet_axis}

-- all but the last are of axes
abbrev AreQuiet : List Stroke → Type 0
AreQuiet [] = Unit {0}
AreQuiet (k ∷ []) = Unit {0}
AreQuiet (k ∷ l ∷ ks) = (k.kind ≡ 3) × AreQuiet (l ∷ ks)

nothing_is : (xs : List RawEvent) (e : RawEvent) (later : List RawEvent) → [] ≡ xs ++ e ∷ later → ⊥
nothing_is [] e later same = cc
nothing_is (x ∷ xs) e later same = cc

quiet_event : (plan : DevicePlan) (past : List RawEvent) (d now : ℕ) (k : Stroke) (x : RawEvent) → k.kind ≡ 3 → said d now k ≡ x
    → args_of plan past x ≡ []
quiet_event plan past d now k x q same =
    subst (λ e. args_of plan past e ≡ []) same
    (subst (λ n. args_of plan past (said d now (record { kind = n; code = k.code; value = k.value })) ≡ []) (sym q) (quiet_axis plan past d now k.code k.value))

-- so those before another one give nothing
quiet_first : (plan : DevicePlan) (past : List RawEvent) (d now : ℕ) (ks : List Stroke) (first : List RawEvent) (next : RawEvent) (later : List RawEvent)
    → AreQuiet ks → map (said d now) ks ≡ first ++ next ∷ later → given plan past first ≡ []
quiet_first plan past d now ks [] next later q e = refl
quiet_first plan past d now [] (x ∷ xs) next later q e = absurd cc
quiet_first plan past d now (k ∷ []) (x ∷ xs) next later q e =
    let rest : [] ≡ xs ++ next ∷ later = cc in absurd (nothing_is xs next later rest)
quiet_first plan past d now (k ∷ l ∷ ks) (x ∷ xs) next later q e =
    let same : said d now k ≡ x = cc in
    let rest : map (said d now) (l ∷ ks) ≡ xs ++ next ∷ later = cc in
    ap₂ (λ xs ys. xs ++ ys) (quiet_event plan past d now k x q.0 same) (quiet_first plan (x ∷ past) d now (l ∷ ks) xs next later q.1 rest)

gives_none : (plan : DevicePlan) (past : List RawEvent) (d now : ℕ) (ks : List Stroke) → AreQuiet ks → GivesNone plan past d now ks
gives_none plan past d now ks q = λ old new part.
    part.takes.pending_is
    ∙ ap (λ xs. old.pending ++ xs) (quiet_first plan past d now ks part.first part.next part.later q part.events_are)
    ∙ append-nil old.pending

pub refused_law : RefusedLaw
refused_law plan past d now f id x y p = (
  planned_ok (λ q. GivesNone plan past d now q.strokes) _ (slot_for (slot_with id f) (first_free f)) p
      (λ s. gives_none plan past d now (slot_is s ∷ tracking_is (pos (f.count % 2 ^ 31)) ∷ tool_is 0 ∷ x_is x ∷ y_is y ∷ []) (refl, (refl, (refl, (refl, tt))))),
  planned_ok (λ q. GivesNone plan past d now q.strokes) _ (slot_of (slot_with id f)) p
      (λ s. gives_none plan past d now (slot_is s ∷ x_is x ∷ y_is y ∷ []) (refl, (refl, tt))),
  planned_ok (λ q. GivesNone plan past d now q.strokes) _ (slot_of (slot_with id f)) p
      (λ s. gives_none plan past d now (slot_is s ∷ tracking_is (negsuc 0) ∷ []) (refl, tt)),
  planned_ok (λ q. GivesNone plan past d now q.strokes) _ (slot_of (slot_with id f)) p
      (λ s. gives_none plan past d now (slot_is s ∷ tool_is 2 ∷ report ∷ []) (refl, (refl, tt))),
  gives_none plan past d now (report ∷ []) tt,
)

-- more args are handed in behind others
notified_more : (ds : List ℕ) (now : ℕ) (xs ys : List Args) (es : List Effect) → notified ds now es (xs ++ ys) ≡ notified ds now (notified ds now es xs) ys
notified_more ds now [] ys es = refl
notified_more ds now (a ∷ xs) ys es = notified_more ds now xs ys (answered ds (Notify now a) es)

taken_more : (ds : List ℕ) (now : ℕ) (xs ys : List Args) (es : List Effect)
    → all_taken ds now es (xs ++ ys) ≡ (all_taken ds now es xs && all_taken ds now (notified ds now es xs) ys)
taken_more ds now [] ys es = refl
taken_more ds now (a ∷ xs) ys es =
    let after = answered ds (Notify now a) es in
    let taken = is_taken (reply_to es (Notify now a)) in
    ap (λ b. taken && b) (taken_more ds now xs ys after)
    ∙ sym (and_assoc taken (all_taken ds now after xs) (all_taken ds now (notified ds now after xs) ys))

pub fitting_law : FittingLaw
fitting_law ds now es plan past [] fed = (refl, fed)
fitting_law ds now es plan past (e ∷ later) fed =
    let xs = args_of plan past e in
    let ys = given plan (e ∷ past) later in
    let one = fed_law ds now es plan past e fed in
    let more = fitting_law ds now (notified ds now es xs) plan (e ∷ past) later one.1 in (
      taken_more ds now xs ys es ∙ ap₂ (λ a b. a && b) one.0 more.0,
      subst (λ s. IsFed plan (behind (e ∷ past) later) s) (sym (notified_more ds now xs ys es)) more.1,
    )
