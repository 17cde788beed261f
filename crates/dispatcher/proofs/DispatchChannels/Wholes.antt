-- What always holds of the channels holds after each change.
use Rattle.std.proofs.Common.{◌≡◌, ◌≢◌, ℕ, zero, suc, ◌+◌, ◌-◌, ◌^◌, ◌<◌, ◌≤◌, ◌==◌, Bool, true, false, not, ◌&&◌, ◌||◌, cond, ◌⊎◌, List, [], ◌∷◌, ◌++◌, length, replicate, get_or, set, Option, None, refl, sym, ap, ap₂, ◌∙◌, arith, inl, inr, length-append}
use Rattle.std.proofs.lemmas.List.{length-set, get_or-set_same, get_or-set_other, get_or_past, get_or_append_left}
use Rattle.std.proofs.Math.Seq.{get_or-append_seam}
use Rattle.std.proofs.lemmas.Bool.{cases_eq, eq-eqb, ne_eqb, both_ways, false_from_ne_true}
use Rattle.dispatcher.specs.InputChannel.State.{ChannelState, opened_with}
use Rattle.dispatcher.specs.AnrTracker.Due.{due_of}
use Rattle.dispatcher.proofs.AnrTracker.Firsts.{due-set_same, due-set_other, due-none}
use Rattle.window_snapshot.specs.Mask.{is_channel, mask_has, mask_with}
use Rattle.window_snapshot.proofs.Masks.{mask_has-with, mask_has-zero}
use Rattle.focus_resolver.proofs.Masks.{mask_has-without}
use Rattle.dispatcher.specs.DispatchTables.Masks.{mask_less}
use Rattle.dispatcher.specs.DispatchTables.Dues.{due_in}
use Rattle.dispatcher.specs.DispatchChannels.Table.{channel_in}
use Rattle.dispatcher.specs.DispatchChannels.Changes.{new_channel}
use Rattle.dispatcher.specs.DispatchChannels.Whole.{DuesAre, IsWhole}
use Rattle.dispatcher.proofs.DispatchChannels.Picking.{channel_low, channel_high, has-without}
use Rattle.dispatch_history.specs.History.{no_terms}
use Rattle.dispatch_calls.specs.declared.terms.Terms.{Terms}

-- the channel in a place that was written
pub channel_set_same : (ss : List ChannelState) (c : ℕ) (s : ChannelState) → 1 ≤ c → c ≤ length ss → channel_in (set ss (c - 1) s) c ≡ s
channel_set_same ss c s low high = get_or-set_same ss (c - 1) s (opened_with no_terms) (omega arith)

pub channel_set_other : (ss : List ChannelState) (c k : ℕ) (s : ChannelState) → 1 ≤ c → 1 ≤ k → k ≢ c → channel_in (set ss (c - 1) s) k ≡ channel_in ss k
channel_set_other ss c k s low from other = get_or-set_other ss (c - 1) (k - 1) s (opened_with no_terms) (λ e. other (omega arith))

-- nothing is due in a channel without messages
due_opened : (b : Bool) (terms : Terms) → due_in b (new_channel terms) ≡ None
due_opened true terms = refl
due_opened false terms = refl

-- one channel changes, and its due is set; no other becomes able or not
pub dues_set : (dues : List (Option ℕ)) (able later : ℕ) (ss : List ChannelState) (c : ℕ) (s : ChannelState)
    → DuesAre dues able ss → length dues ≡ 64 → 1 ≤ c → c ≤ length ss → length ss ≤ 64
    → ((k : ℕ) → k ≢ c → mask_has later k ≡ mask_has able k)
    → DuesAre (set dues (c - 1) (due_in (mask_has later c) s)) later (set ss (c - 1) s)
dues_set dues able later ss c s h places low high few others zero = refl
dues_set dues able later ss c s h places low high few others (suc k) =
    elim (cases_eq (suc k) c) [
      | inl same ↦
          ap (due_of (set dues (c - 1) (due_in (mask_has later c) s))) same
          ∙ due-set_same dues c (due_in (mask_has later c) s) low (omega arith)
          ∙ sym (ap₂ (λ m x. due_in (mask_has later m) x) same (ap (channel_in (set ss (c - 1) s)) same ∙ channel_set_same ss c s low high))
      | inr other ↦
          due-set_other dues c (due_in (mask_has later c) s) low (suc k) other
          ∙ h (suc k)
          ∙ sym (ap₂ due_in (others (suc k) other) (channel_set_other ss c (suc k) s low (omega arith) other))
    ]

-- one channel changes, and is due as before
pub dues_kept : (dues : List (Option ℕ)) (able : ℕ) (ss : List ChannelState) (c : ℕ) (s : ChannelState)
    → DuesAre dues able ss → 1 ≤ c → c ≤ length ss → ((b : Bool) → due_in b s ≡ due_in b (channel_in ss c))
    → DuesAre dues able (set ss (c - 1) s)
dues_kept dues able ss c s h low high same zero = h zero
dues_kept dues able ss c s h low high same (suc k) =
    elim (cases_eq (suc k) c) [
      | inl here ↦
          h (suc k)
          ∙ ap (λ m. due_in (mask_has able (suc k)) (channel_in ss m)) here
          ∙ sym (same (mask_has able (suc k)))
          ∙ sym (ap (due_in (mask_has able (suc k))) (ap (channel_in (set ss (c - 1) s)) here ∙ channel_set_same ss c s low high))
      | inr other ↦ h (suc k) ∙ ap (due_in (mask_has able (suc k))) (sym (channel_set_other ss c (suc k) s low (omega arith) other))
    ]

-- all holds once a channel has changed that is due as before
pub whole_kept : (ss : List ChannelState) (inputs later live able : ℕ) (dues : List (Option ℕ)) (c : ℕ) (s : ChannelState)
    → IsWhole ss inputs live able dues → later ≡ inputs → 1 ≤ c → c ≤ length ss → ((b : Bool) → due_in b s ≡ due_in b (channel_in ss c))
    → IsWhole (set ss (c - 1) s) later live able dues
whole_kept ss inputs later live able dues c s h same low high due = record {
  as_many = same ∙ h.as_many ∙ sym (length-set ss (c - 1) s);
  few = rw length-set h.few;
  places = h.places;
  opened_live = λ k has. rw length-set (h.opened_live k has);
  live_able = h.live_able;
  dues_are = dues_kept dues able ss c s h.dues_are low high due;
}

-- a channel that is not opened is not able, and not due
not_able : (ss : List ChannelState) (inputs live able : ℕ) (dues : List (Option ℕ)) (c : ℕ) → IsWhole ss inputs live able dues → length ss < c
    → mask_has able c ≡ false
not_able ss inputs live able dues c h past =
    false_from_ne_true _ (λ has. let le : c ≤ length ss = h.opened_live c (h.live_able c has) in absurd (omega arith))

pub not_due : (ss : List ChannelState) (inputs live able : ℕ) (dues : List (Option ℕ)) (c : ℕ) → IsWhole ss inputs live able dues → length ss < c
    → due_of dues c ≡ None
not_due ss inputs live able dues c h past =
    h.dues_are c ∙ ap (λ b. due_in b (channel_in ss c)) (not_able ss inputs live able dues c h past)

-- no channels
pub none_whole : IsWhole [] 0 0 0 (replicate 64 None)
none_whole = record {
  as_many = refl;
  few = omega arith;
  places = refl;
  opened_live = λ c has. absurd (both_ways (mask_has 0 c) (mask_has-zero c) has);
  live_able = λ c has. has;
  dues_are = λ c. due-none 64 c ∙ sym (ap (λ b. due_in b (channel_in [] c)) (mask_has-zero c));
}

-- what a mask with a further channel has
with_cases : (mask k c : ℕ) → mask_has (mask_with mask k) c ≡ true → (mask_has mask c ≡ true) ⊎ (k ≡ c)
with_cases mask k c has =
    elim (cases_eq k c) [
      | inl same ↦ inr same
      | inr ne ↦ inl (sym (left (mask_has mask c) (is_channel c) (k == c) (ne_eqb k c ne)) ∙ sym (mask_has-with mask k c) ∙ has)
    ]
  where
    left : (a k t : Bool) → t ≡ false → (a || (k && t)) ≡ a
    left true k t e = refl
    left false true t e = e
    left false false t e = refl

pub with_other : (mask k c : ℕ) → c ≢ k → mask_has (mask_with mask k) c ≡ mask_has mask c
with_other mask k c ne = mask_has-with mask k c ∙ left (mask_has mask c) (is_channel c) (k == c) (ne_eqb k c (λ e. ne (sym e)))
  where
    left : (a k t : Bool) → t ≡ false → (a || (k && t)) ≡ a
    left true k t e = refl
    left false true t e = e
    left false false t e = refl

with_more : (a b mask k c : ℕ) → (mask_has a c ≡ true → mask_has b c ≡ true) → mask_has (mask_with a k) c ≡ true → mask_has (mask_with b k) c ≡ true
with_more a b mask k c h has =
    mask_has-with b k c ∙ more (mask_has a c) (mask_has b c) (is_channel c && (k == c)) h (sym (mask_has-with a k c) ∙ has)
  where
    more : (x y t : Bool) → (x ≡ true → y ≡ true) → (x || t) ≡ true → (y || t) ≡ true
    more true y t f e = ap (λ b. b || t) (f refl)
    more false true t f e = refl
    more false false t f e = e

-- one channel more, with the next number
pub whole_opened : (ss : List ChannelState) (inputs live able : ℕ) (dues : List (Option ℕ)) (terms : Terms) (number : ℕ) (more : List ChannelState) (later : ℕ)
    → IsWhole ss inputs live able dues → length ss < 64 → number ≡ length ss + 1 → more ≡ ss ++ new_channel terms ∷ [] → later ≡ inputs + 1
    → IsWhole more later (mask_with live number) (mask_with able number) dues
whole_opened ss inputs live able dues terms number more later h room is so also =
    let size : length more ≡ length ss + 1 = ap length so ∙ length-append ss (new_channel terms ∷ []) in
    record {
      as_many = omega (arith, h.as_many, also, size);
      few = omega (arith, size, room);
      places = h.places;
      opened_live = λ c has. elim (with_cases live number c has) [
        | inl was ↦ let le : c ≤ length ss = h.opened_live c was in omega (arith, size)
        | inr new ↦ omega (arith, size, is)
      ];
      live_able = λ c has. with_more able live 0 number c (h.live_able c) has;
      dues_are = λ c. elim (cases_eq c number) [
        | inl new ↦
            let at : c - 1 ≡ length ss = omega (arith, new, is) in
            let there : channel_in more c ≡ new_channel terms =
            ap₂ (λ xs n. get_or xs n (opened_with no_terms)) so at ∙ get_or-append_seam ss (new_channel terms) [] (opened_with no_terms) in
            not_due ss inputs live able dues c h (omega (arith, new, is))
            ∙ sym (ap (due_in (mask_has (mask_with able number) c)) there ∙ due_opened (mask_has (mask_with able number) c) terms)
        | inr other ↦ others c other size
      ];
    }
  where
    past : (c : ℕ) → length more ≡ length ss + 1 → length ss < c → c ≢ number → channel_in more c ≡ channel_in ss c
    past c size above other =
        get_or_past more (c - 1) (opened_with no_terms) (omega (arith, size, above, other, is))
        ∙ sym (get_or_past ss (c - 1) (opened_with no_terms) (omega (arith, above)))

    within : (c : ℕ) → 1 ≤ c → c ≤ length ss → channel_in more c ≡ channel_in ss c
    within c low high = ap (λ xs. channel_in xs c) so ∙ get_or_append_left ss (new_channel terms ∷ []) (opened_with no_terms) (c - 1) (omega (arith, low, high))

    split : (c : ℕ) → (c ≤ length ss) ⊎ (length ss < c)
    split c = grind arith

    others : (c : ℕ) → c ≢ number → length more ≡ length ss + 1 → due_of dues c ≡ due_in (mask_has (mask_with able number) c) (channel_in more c)
    others zero other size = refl
    others (suc k) other size =
        h.dues_are (suc k)
        ∙ sym (ap₂ due_in (with_other able number (suc k) other) (elim (split (suc k)) [
          | inl le ↦ within (suc k) (omega arith) le
          | inr gt ↦ past (suc k) size gt other
        ]))

-- a message of a channel is finished, and it may be able again
pub whole_finished : (ss : List ChannelState) (inputs live able : ℕ) (dues : List (Option ℕ)) (c : ℕ) (s : ChannelState) (later : ℕ)
    → IsWhole ss inputs live able dues → 1 ≤ c → c ≤ length ss → (later ≡ able) ⊎ ((mask_has live c ≡ true) × (later ≡ mask_with able c))
    → IsWhole (set ss (c - 1) s) inputs live later (set dues (c - 1) (due_in (mask_has later c) s))
whole_finished ss inputs live able dues c s later h low high how = record {
  as_many = h.as_many ∙ sym (length-set ss (c - 1) s);
  few = rw length-set h.few;
  places = length-set dues (c - 1) (due_in (mask_has later c) s) ∙ h.places;
  opened_live = λ k has. rw length-set (h.opened_live k has);
  live_able = λ k has. elim how [
    | inl same ↦ h.live_able k (sym (ap (λ m. mask_has m k) same) ∙ has)
    | inr with ↦ elim (with_cases able c k (sym (ap (λ m. mask_has m k) with.1) ∙ has)) [
      | inl was ↦ h.live_able k was
      | inr here ↦ sym (ap (mask_has live) here) ∙ with.0
    ]
  ];
  dues_are =
      dues_set dues able later ss c s h.dues_are h.places low high h.few
      (λ k other. elim how [
        | inl same ↦ ap (λ m. mask_has m k) same
        | inr with ↦ ap (λ m. mask_has m k) with.1 ∙ with_other able c k other
      ]);
}

and_parts_less : (a b : Bool) → (a && not b) ≡ true → (a ≡ true) × (b ≡ false)
and_parts_less true false e = (refl, refl)
and_parts_less true true e = cc
and_parts_less false b e = cc

-- the channels of a mask are not able any more, and not due
pub whole_named : (ss : List ChannelState) (inputs live able mask : ℕ) (dues later : List (Option ℕ)) → IsWhole ss inputs live able dues → mask < 2 ^ 64
    → length later ≡ 64 → ((c : ℕ) → due_of later c ≡ cond (mask_has mask c) None (due_of dues c)) → IsWhole ss inputs live (mask_less able mask) later
whole_named ss inputs live able mask dues later h low places cleared = record {
  as_many = h.as_many;
  few = h.few;
  places = places;
  opened_live = h.opened_live;
  live_able = λ c has. h.live_able c (and_parts_less (mask_has able c) (mask_has mask c) (sym (mask_has-without able mask c low) ∙ has)).0;
  dues_are = λ c.
      cleared c
      ∙ ap (cond (mask_has mask c) None) (h.dues_are c)
      ∙ without (mask_has able c) (mask_has mask c) (channel_in ss c)
      ∙ ap (λ b. due_in b (channel_in ss c)) (sym (mask_has-without able mask c low));
}
  where
    without : (a m : Bool) (s : ChannelState) → cond m None (due_in a s) ≡ due_in (a && not m) s
    without true true s = refl
    without true false s = refl
    without false true s = refl
    without false false s = refl

-- a channel is removed
pub whole_removed : (ss : List ChannelState) (inputs live able : ℕ) (dues : List (Option ℕ)) (c : ℕ) (other : ℕ) → IsWhole ss inputs live able dues
    → mask_has other c ≡ true → IsWhole ss inputs (mask_less live (mask_with 0 c)) (mask_less able (mask_with 0 c)) (set dues (c - 1) None)
whole_removed ss inputs live able dues c other h is = record {
  as_many = h.as_many;
  few = h.few;
  places = length-set dues (c - 1) None ∙ h.places;
  opened_live = λ k has. h.opened_live k (and_parts_less (mask_has live k) (k == c) (sym (has-without other live c k is) ∙ has)).0;
  live_able = λ k has.
      let both = and_parts_less (mask_has able k) (k == c) (sym (has-without other able c k is) ∙ has) in
      has-without other live c k is ∙ ap₂ (λ a b. a && not b) (h.live_able k both.0) both.1;
  dues_are = then;
}
  where
    removed : (a : Bool) (s : ChannelState) → due_in (a && false) s ≡ None
    removed true s = refl
    removed false s = refl

    kept : (a : Bool) → (a && true) ≡ a
    kept true = refl
    kept false = refl

    low : 1 ≤ c
    low = channel_low other c is

    then : (k : ℕ) → due_of (set dues (c - 1) None) k ≡ due_in (mask_has (mask_less able (mask_with 0 c)) k) (channel_in ss k)
    then k = elim (cases_eq k c) [
      | inl same ↦
          ap (due_of (set dues (c - 1) None)) same
          ∙ due-set_same dues c None low (omega (arith, h.places, channel_high other c is))
          ∙ sym (ap (λ b. due_in b (channel_in ss k)) (has-without other able c k is ∙ ap (λ t. mask_has able k && not t) (eq-eqb k c same))
          ∙ removed (mask_has able k) (channel_in ss k))
      | inr ne ↦
          due-set_other dues c None low k ne
          ∙ h.dues_are k
          ∙ sym (ap (λ b. due_in b (channel_in ss k)) (has-without other able c k is ∙ ap (λ t. mask_has able k && not t) (ne_eqb k c ne)
          ∙ kept (mask_has able k)))
    ]

-- the mask of those that are able, with a channel where it is live and not late
pub able_cases : (live able c later : ℕ) (late : Bool) → later ≡ cond (mask_has live c && not late) (mask_with able c) able
    → (later ≡ able) ⊎ ((mask_has live c ≡ true) × (later ≡ mask_with able c))
able_cases live able c later late e = at (mask_has live c) late refl e
  where
    at : (a b : Bool) → mask_has live c ≡ a → later ≡ cond (a && not b) (mask_with able c) able
        → (later ≡ able) ⊎ ((mask_has live c ≡ true) × (later ≡ mask_with able c))
    at true false is f = inr (is, f)
    at true true is f = inl f
    at false b is f = inl f
