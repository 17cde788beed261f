-- What is kept of the focus, step by step.
use Rattle.std.proofs.Common.{◌≡◌, ◌<◌, ℕ, ◌-◌, min, ◌==◌, ◌&&◌, not, Bool, true, false, cond, zero, suc, List, [], ◌∷◌, slice_index_or, slice_set, Option, Some, None, refl, sym, ap, ap₂, ◌∙◌, subst, inl, inr, arith}
use Rattle.std.specs.Prelude.{bit_and}
use Rattle.std.specs.Int.{bit_at}
use Rattle.std.proofs.lemmas.Bool.{cases_eq, eq-eqb, ne_eqb, true≢false}
use Rattle.std.proofs.lemmas.List.{get_or-set_same, get_or-set_other, length-set}
use Rattle.std.proofs.lemmas.Nat.Bits.{bit_at_and, bit_at-lt}
use Rattle.window_snapshot.specs.Mask.{is_channel, mask_has}
use Rattle.window_snapshot.proofs.Masks.{mask_has-zero}
use Rattle.window_snapshot.specs.Named.{is_focusable_on}
use Rattle.focus_resolver.specs.Resolver.{FocusState, focus_if, keyed_after, focus_of, is_focused, may_by}
use Rattle.dispatch_calls.specs.declared.call.Call.{Call}
use Rattle.dispatch_calls.specs.declared.call.Call.TheVariants.{Open, Windows, FocusOn, Remove}
use Rattle.dispatch_calls.specs.declared.reply.Reply.{Reply}
use Rattle.dispatch_history.specs.History.{History, snapshot}
use Rattle.dispatch_history.specs.Focus.{requested, asked, may_focus, focus, has_focus, focus_sent}
use Rattle.dispatch_history.specs.Effect.{Effect, past_of}
use Rattle.dispatcher.specs.KeyTables.Focused.{FocusIs, is_request, leaves_focus, change_sent}
use Rattle.dispatcher.specs.KeyTables.Laws.{FocusRead, FocusRequested, FocusShown, FocusLeft, FocusMasks, FocusAtFirst, FocusSent}

same_focus : (may will : ℕ → Bool) (o : Option ℕ) → ((c : ℕ) → may c ≡ will c) → focus_if may o ≡ focus_if will o
same_focus may will None e = refl
same_focus may will (Some c) e = ap (λ b. cond b (Some c) None) (e c)

same_focused : (f g : ℕ → Option ℕ) (w : ℕ) → ((y : ℕ) → y < 4 → f y ≡ g y) → is_focused f w ≡ is_focused g w
same_focused f g w e =
    let a : f 0 ≡ g 0 = e 0 (omega arith) in
    let b : f 1 ≡ g 1 = e 1 (omega arith) in
    let c : f 2 ≡ g 2 = e 2 (omega arith) in
    let d : f 3 ≡ g 3 = e 3 (omega arith) in
    rw (a, b, c, d) refl

pub focus_reads : (es : List Effect) (f : FocusState) → FocusIs es f → (y : ℕ) → y < 4 → focus_of f y ≡ focus (past_of es) y
focus_reads es f is y lt =
    same_focus (may_by f.focusable y) (may_focus (past_of es) y) (slice_index_or f.requested y None) (λ c. is.masks_are y c lt)
    ∙ ap (focus_if (may_focus (past_of es) y)) (is.requested_are y lt)

pub focused_reads : (es : List Effect) (f : FocusState) → FocusIs es f → (w : ℕ) → is_focused (focus_of f) w ≡ has_focus (past_of es) w
focused_reads es f is w = same_focused (focus_of f) (focus (past_of es)) w (focus_reads es f is)

pub focus_read : FocusRead
focus_read es f is = (
  focus_reads es f is,
  focused_reads es f is,
  focus_reads es f is f.last is.last_within ∙ ap (focus (past_of es)) is.last_is,
)

pub focus_requested : FocusRequested
focus_requested ds now display channel keys answer es f lt is =
    record {
      four = length-set f.requested display channel ∙ is.four;
      requested_are = λ y yt. by_display y yt;
      last_is = ap (λ last. keyed_after keys display last) is.last_is;
      last_within = within keys;
      masks_are = is.masks_are;
    }
  where
    within : (k : Bool) → keyed_after k display f.last < 4
    within true = lt
    within false = is.last_within

    by_display : (y : ℕ) → y < 4 → slice_index_or (slice_set f.requested display channel) y None ≡ cond (y == display) channel (requested (past_of es) y)
    by_display y yt =
        elim (cases_eq y display) [
          | inl e ↦
              subst (λ v. slice_index_or (slice_set f.requested display channel) v None ≡ channel) (sym e)
              (get_or-set_same f.requested display channel None (omega (arith, lt, is.four)))
              ∙ sym (ap (λ b. cond b channel (requested (past_of es) y)) (eq-eqb y display e))
          | inr ne ↦
              get_or-set_other f.requested display y channel None ne
              ∙ is.requested_are y yt
              ∙ sym (ap (λ b. cond b channel (requested (past_of es) y)) (ne_eqb y display ne))
        ]

-- a call that is no request leaves what was requested
same_requests : (call : Call) (answer : Reply) (h : History) (y : ℕ) → is_request call ≡ false → requested ((call, answer) ∷ h) y ≡ requested h y
same_requests (FocusOn now display channel keys) answer h y e = absurd (true≢false e)
same_requests _ answer h y e = refl

same_asked : (call : Call) (answer : Reply) (h : History) → is_request call ≡ false → asked ((call, answer) ∷ h) ≡ asked h
same_asked (FocusOn now display channel keys) answer h e = absurd (true≢false e)
same_asked _ answer h e = refl

pub focus_shown : FocusShown
focus_shown ds call answer es f masks e shown is =
    record {
      four = is.four;
      requested_are = λ y lt. is.requested_are y lt ∙ sym (same_requests call answer (past_of es) y e);
      last_is = is.last_is ∙ sym (same_asked call answer (past_of es) e);
      last_within = is.last_within;
      masks_are = shown;
    }

-- and a call that changes neither the windows nor the live channels leaves everything as before
no_request : (call : Call) → leaves_focus call ≡ true → is_request call ≡ false
no_request (FocusOn now display channel keys) e = absurd (true≢false (sym e))
no_request _ e = refl

same_may : (call : Call) (answer : Reply) (h : History) (y c : ℕ) → leaves_focus call ≡ true → may_focus ((call, answer) ∷ h) y c ≡ may_focus h y c
same_may (Open terms) answer h y c e = absurd (true≢false (sym e))
same_may (Windows now shown) answer h y c e = absurd (true≢false (sym e))
same_may (FocusOn now display channel keys) answer h y c e = absurd (true≢false (sym e))
same_may (Remove now channel) answer h y c e = absurd (true≢false (sym e))
same_may _ answer h y c e = refl

pub focus_left : FocusLeft
focus_left ds call answer es f e is =
    focus_shown ds call answer es f f.focusable (no_request call e) (λ y c lt. is.masks_are y c lt ∙ sym (same_may call answer (past_of es) y c e)) is

-- two bits that are both set
min_is_and : (m n : ℕ) → m < 2 → n < 2 → (min m n == 1) ≡ (m == 1 && n == 1)
min_is_and m n p q =
    elim (cases_eq m 0) [
      | inl z ↦ elim (cases_eq n 0) [ inl y ↦ rw (z, y) refl | inr y ↦ let o : n ≡ 1 = omega arith in rw (z, o) refl ]
      | inr z ↦
          let u : m ≡ 1 = omega arith in
          elim (cases_eq n 0) [ inl y ↦ rw (u, y) refl | inr y ↦ let o : n ≡ 1 = omega arith in rw (u, o) refl ]
    ]

-- a channel that is in both of two masks
in_both : (a b c : ℕ) → mask_has (bit_and a b) c ≡ (mask_has a c && mask_has b c)
in_both a b c =
    ap (λ t. is_channel c && t) (ap (λ n. n == 1) (bit_at_and a b (c - 1)) ∙ min_is_and _ _ (bit_at-lt a (c - 1)) (bit_at-lt b (c - 1)))
    ∙ spread (is_channel c) _ _
  where
    spread : (k s t : Bool) → (k && (s && t)) ≡ ((k && s) && (k && t))
    spread true s t = refl
    spread false s t = refl

-- a channel that is in both of two masks, the first with channels that pass a test
pub in_both_so : (named alive c : ℕ) (so : Bool) → mask_has named c ≡ (is_channel c && so) → mask_has (bit_and named alive) c ≡ (mask_has alive c && so)
in_both_so named alive c so n =
    in_both named alive c ∙ turned (is_channel c) (bit_at named (c - 1) == 1) (bit_at alive (c - 1) == 1) so n
  where
    turned : (k s t g : Bool) → (k && s) ≡ (k && g) → ((k && s) && (k && t)) ≡ ((k && t) && g)
    turned true true true g e = e
    turned true true false g e = refl
    turned true false true g e = e
    turned true false false g e = refl
    turned false s t g e = refl

-- four masks, one for each display
pub four_masks : (a b c d : ℕ) (f : ℕ → ℕ → Bool) → ((w : ℕ) → mask_has a w ≡ f 0 w) → ((w : ℕ) → mask_has b w ≡ f 1 w)
    → ((w : ℕ) → mask_has c w ≡ f 2 w) → ((w : ℕ) → mask_has d w ≡ f 3 w) → (y w : ℕ) → y < 4 → may_by (a ∷ b ∷ c ∷ d ∷ []) y w ≡ f y w
four_masks a b c d f p q r s zero w lt = p w
four_masks a b c d f p q r s (suc zero) w lt = q w
four_masks a b c d f p q r s (suc (suc zero)) w lt = r w
four_masks a b c d f p q r s (suc (suc (suc zero))) w lt = s w
four_masks a b c d f p q r s (suc (suc (suc (suc n)))) w lt = absurd (omega (arith, lt))

pub focus_masks : FocusMasks
focus_masks h masks alive l m y c lt = m y c lt ∙ ap (λ b. b && is_focusable_on (snapshot h) y c) (l c)

pub focus_at_first : FocusAtFirst
focus_at_first =
    record {
      four = refl;
      requested_are = λ y lt. none y lt;
      last_is = refl;
      last_within = omega arith;
      masks_are = λ y c lt. four_masks 0 0 0 0 (λ z w. false) mask_has-zero mask_has-zero mask_has-zero mask_has-zero y c lt;
    }
  where
    none : (y : ℕ) → y < 4 → ◌≡◌ {A = Option ℕ} (slice_index_or (None ∷ None ∷ None ∷ None ∷ []) y None) None
    none zero lt = refl
    none (suc zero) lt = refl
    none (suc (suc zero)) lt = refl
    none (suc (suc (suc zero))) lt = refl
    none (suc (suc (suc (suc n)))) lt = absurd (omega (arith, lt))

sent_by_masks : (a b : Bool) → focus_sent a b ≡ change_sent (cond (a && not b) (Some false) (cond (b && not a) (Some true) None))
sent_by_masks true true = refl
sent_by_masks true false = refl
sent_by_masks false true = refl
sent_by_masks false false = refl

pub focus_sent_law : FocusSent
focus_sent_law es fs f g lost gained w is now l k =
    ap₂ focus_sent (sym (focused_reads es f is w)) (sym (focused_reads fs g now w))
    ∙ sent_by_masks (is_focused (focus_of f) w) (is_focused (focus_of g) w)
    ∙ ap₂ (λ a b. change_sent (cond a (Some false) (cond b (Some true) None))) (sym (l w)) (sym (k w))
