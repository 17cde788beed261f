-- The focus where a channel is opened: it can gain it, and nobody else gains or loses it.
use Rattle.std.proofs.Common.{◌≡◌, ◌<◌, ℕ, ◌==◌, ◌&&◌, ◌||◌, not, bit_and, Bool, true, false, cond, List, [], Option, Some, None, slice_index_or, refl, sym, ap, ap₂, ◌∙◌, inl, inr, arith}
use Rattle.std.specs.List.{list_any}
use Rattle.std.proofs.lemmas.Bool.{cases_eq, and_parts, eq-eqb, eqb-true, ne_eqb, true≢false}
use Rattle.window_snapshot.specs.Mask.{is_channel, mask_has, mask_with}
use Rattle.window_snapshot.specs.Named.{is_focusable_on}
use Rattle.window_snapshot.proofs.Masks.{mask_has-with, mask_has-zero, mask_has_channel}
use Rattle.focus_resolver.specs.Resolver.{FocusState, all_displays, focus_if, is_at, may_by, is_focused, focus_of, target_of}
use Rattle.dispatcher.proofs.DispatchChannels.Picking.{mask_has-and}
use Rattle.dispatch_calls.specs.declared.call.Call.TheVariants.{Open}
use Rattle.dispatch_calls.specs.declared.reply.Reply.TheVariants.{Opened}
use Rattle.dispatcher.specs.CancelSynthesis.Ends.{keys_cancelled}
use Rattle.dispatch_history.specs.History.{snapshot}
use Rattle.dispatch_history.specs.Effect.{Effect, past_of}
use Rattle.dispatcher.specs.Knows.{Kept, KeptStandsFor}
use Rattle.dispatcher.specs.Sending.{Refocuses, AreKeys, sent_target}
use Rattle.dispatcher.specs.RoundLaws.{OpenFocusLaw, OpenKeysLaw, TargetLiveLaw}
use Rattle.dispatcher.proofs.Laws.Inputs.{target_live}
use Rattle.dispatcher.proofs.Rounds.KeysSent.{target_is}
use Rattle.dispatcher.proofs.Made.Removing.{same_at}

-- a channel that may not have a focus has none
none_at : (may : ℕ → Bool) (o : Option ℕ) (w : ℕ) → may w ≡ false → is_at (focus_if may o) w ≡ false
none_at may None w e = refl
none_at may (Some v) w e =
    elim (cases_eq w v) [
      | inl q ↦ ap (λ b. is_at (cond b (Some v) None) w) (ap may (sym q) ∙ e)
      | inr ne ↦ elsewhere (may v) (ne_eqb w v ne)
    ]
  where
    elsewhere : (b : Bool) → (w == v) ≡ false → is_at (cond b (Some v) None) w ≡ false
    elsewhere true n = n
    elsewhere false n = refl

-- the focus of four displays
any_display : (p q : ℕ → Bool) → ((y : ℕ) → y < 4 → p y ≡ q y) → list_any p all_displays ≡ list_any q all_displays
any_display p q e =
    ap₂ (λ a b. a || b) (e 0 (omega arith))
    (ap₂ (λ a b. a || b) (e 1 (omega arith)) (ap₂ (λ a b. a || b) (e 2 (omega arith)) (ap (λ a. a || false) (e 3 (omega arith)))))

-- who may have the focus before a channel is opened, and after it
may_before : (ds : List ℕ) (es : List Effect) (k : Kept) (y w : ℕ) → KeptStandsFor ds es k → y < 4
    → may_by k.focus.focusable y w ≡ (mask_has k.delivery.live w && is_focusable_on k.shown.windows y w)
may_before ds es k y w s lt =
    s.knows.keying.focus_is.masks_are y w lt
    ∙ ap (λ b. b && is_focusable_on (snapshot (past_of es)) y w) (sym (ap (λ f. f w) s.knows.delivery.live_is))
    ∙ ap (λ ws. mask_has k.delivery.live w && is_focusable_on ws y w) (sym s.knows.shown.windows_are)

-- the same for all channels but the one that is opened
others_live : (mask number w : ℕ) → (w == number) ≡ false → mask_has (mask_with mask number) w ≡ mask_has mask w
others_live mask number w n =
    mask_has-with mask number w
    ∙ ap (λ b. mask_has mask w || (is_channel w && b)) (ne_eqb number w (λ q. true≢false (sym (eq-eqb w number (sym q)) ∙ n)))
    ∙ nothing_more (mask_has mask w) (is_channel w)
  where
    nothing_more : (b c : Bool) → (b || (c && false)) ≡ b
    nothing_more true c = refl
    nothing_more false true = refl
    nothing_more false false = refl

requested_same : (f g : FocusState) (masks : List ℕ) → g ≡ record { requested = f.requested; last = f.last; focusable = masks }
    → (y w : ℕ) → is_at (focus_of g y) w ≡ is_at (focus_if (may_by g.focusable y) (slice_index_or f.requested y None)) w
requested_same f g masks e y w = ap (λ h. is_at (focus_if (may_by g.focusable y) (slice_index_or h.requested y None)) w) e

pub open_focus : OpenFocusLaw
open_focus ds es k g number gained s dead r only w y = by_number (w == number) refl
  where
    may_after : (display : ℕ) → display < 4 → may_by g.focusable display w ≡ (mask_has (mask_with k.delivery.live number) w && is_focusable_on k.shown.windows display w)
    may_after display lt = ap (λ h. may_by h.focusable display w) r.1 ∙ r.2 display w lt

    same : (w == number) ≡ false → is_focused (focus_of g) w ≡ is_focused (focus_of k.focus) w
    same n =
        any_display (λ display. is_at (focus_of g display) w) (λ display. is_at (focus_of k.focus display) w) (λ display lt.
        requested_same k.focus g r.0 r.1 display w
        ∙ same_at (may_by k.focus.focusable display) (may_by g.focusable display) (slice_index_or k.focus.requested display None) w
        (may_after display lt
        ∙ ap (λ b. b && is_focusable_on k.shown.windows display w) (others_live k.delivery.live number w n)
        ∙ sym (may_before ds es k display w s lt)))

    before : (w == number) ≡ true → is_focused (focus_of k.focus) w ≡ false
    before q =
        any_display (λ display. is_at (focus_of k.focus display) w) (λ display. false) (λ display lt.
        none_at (may_by k.focus.focusable display) (slice_index_or k.focus.requested display None) w
        (may_before ds es k display w s lt
        ∙ ap (λ b. b && is_focusable_on k.shown.windows display w) (ap (mask_has k.delivery.live) (eqb-true w number q) ∙ dead)))

    own : mask_has (bit_and gained (mask_with 0 number)) w ≡ (mask_has gained w && (is_channel w && number == w))
    own =
        mask_has-and gained (mask_with 0 number) w
        ∙ ap (λ b. mask_has gained w && b) (mask_has-with 0 number w ∙ ap (λ b. b || is_channel w && number == w) (mask_has-zero w))

    none : (b c : Bool) → (b && (c && false)) ≡ false
    none true true = refl
    none true false = refl
    none false c = refl

    neither : (b : Bool) → (b && not b) ≡ false
    neither true = refl
    neither false = refl

    all : (b : Bool) → (b && true) ≡ b
    all true = refl
    all false = refl

    by_number : (b : Bool) → (w == number) ≡ b
        → (mask_has 0 w ≡ (is_focused (focus_of k.focus) w && not (is_focused (focus_of g) w)))
        × (mask_has (bit_and gained (mask_with 0 number)) w ≡ (is_focused (focus_of g) w && not (is_focused (focus_of k.focus) w)))
    by_number true q =
        let was = before q in
        let here : (is_channel w && number == w) ≡ true =
        ap₂ (λ a b. a && b) (mask_has_channel (mask_with k.delivery.live number) w y) (eq-eqb number w (sym (eqb-true w number q))) in (
          mask_has-zero w ∙ sym (ap (λ b. b && not (is_focused (focus_of g) w)) was),
          own ∙ ap (λ b. mask_has gained w && b) here ∙ all (mask_has gained w) ∙ only w,
        )
    by_number false n =
        let is = same n in (
          mask_has-zero w ∙ sym (ap (λ b. is_focused (focus_of k.focus) w && not b) is ∙ neither (is_focused (focus_of k.focus) w)),
          own
              ∙ ap (λ b. mask_has gained w && (is_channel w && b)) (ne_eqb number w (λ q. true≢false (sym (eq-eqb w number (sym q)) ∙ n)))
              ∙ none (mask_has gained w) (is_channel w)
              ∙ sym (ap (λ b. b && not (is_focused (focus_of k.focus) w)) is ∙ neither (is_focused (focus_of k.focus) w)),
        )

pub target_live_law : TargetLiveLaw
target_live_law ds es k t s e =
    ap (λ f. f t) s.knows.delivery.live_is ∙ target_live (past_of es) t (target_is es k.focus (Some t) s.knows.keying.focus_is e)

-- a focus stays where its channel may have it afterwards
pub stays_at : (may later : ℕ → Bool) (o : Option ℕ) (t : ℕ) → (may t ≡ true → later t ≡ true) → focus_if may o ≡ Some t → focus_if later o ≡ Some t
stays_at may later None t f e = absurd (cc e)
stays_at may later (Some v) t f e = by_may (may v) refl e
  where
    by_may : (b : Bool) → may v ≡ b → cond b (Some v) None ≡ Some t → cond (later v) (Some v) None ≡ Some t
    by_may true q x =
        let same : v ≡ t = cc in
        ap (λ b. cond b (Some v) None) (ap later same ∙ f (ap may (sym same) ∙ q)) ∙ x
    by_may false q x = absurd (cc x)

target_stays : (ds : List ℕ) (es : List Effect) (k : Kept) (g : FocusState) (number t : ℕ) → KeptStandsFor ds es k
    → Refocuses k.shown.windows (mask_with k.delivery.live number) k.focus g → target_of k.focus ≡ Some t → target_of g ≡ Some t
target_stays ds es k g number t s r e =
    let y = k.focus.last in
    let lt = s.knows.keying.focus_is.last_within in
    ap target_of r.1
    ∙ stays_at (may_by k.focus.focusable y) (may_by r.0 y) (slice_index_or k.focus.requested y None) t
    (λ m.
    let x = and_parts (mask_has k.delivery.live t) (is_focusable_on k.shown.windows y t) (sym (may_before ds es k y t s lt) ∙ m) in
    r.2 y t lt ∙ ap₂ (λ a b. a && b) (mask_has-with k.delivery.live number t ∙ ap (λ b. b || is_channel t && number == t) x.0) x.1)
    e

pub open_keys : OpenKeysLaw
open_keys ds es k g terms number channel s r aims = by_target (target_of k.focus) refl
  where
    by_target : (o : Option ℕ) → target_of k.focus ≡ o
        → AreKeys o (mask_with k.delivery.live number) (sent_target (Open terms) (Opened number) k g) channel []
    by_target None e = refl
    by_target (Some t) e = (
      aims t e,
      λ y. sym (ap (λ b. cond b [] (keys_cancelled (k.inputs t).keys)) (ap (λ o. is_at o t) (target_stays ds es k g number t s r e) ∙ eq-eqb t t refl)),
    )
