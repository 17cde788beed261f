-- What is noted of the channels up to a place.
use Rattle.std.proofs.Common.{◌≡◌, ℕ, suc, ◌+◌, ◌-◌, ◌<◌, Bool, true, false, cond, List, [], ◌∷◌, ◌++◌, filter, length, get_or, Option, Some, None, refl, sym, ap, ap₂, ◌∙◌, arith, append_assoc, add-one}
use Rattle.std.specs.Prelude.{filter_map, option_to_list}
use Rattle.std.specs.List.{cons_option}
use Rattle.std.proofs.lemmas.List.{get_or_default}
use Rattle.std.proofs.lemmas.List.Elements.{filter-append}
use Rattle.dispatcher.specs.InputChannel.State.{ChannelState, opened_with}
use Rattle.dispatch_calls.specs.declared.counts.Anr.{Anr}
use Rattle.window_snapshot.specs.Mask.{mask_has}
use Rattle.dispatch_history.specs.Effects.{channels}
use Rattle.dispatcher.specs.DispatchTables.Dues.{anr_in, anrs_in}
use Rattle.dispatcher.specs.DispatchChannels.Table.{channel_in}
use Rattle.dispatch_history.specs.History.{no_terms}

cons_append : (o : Option Anr) (xs ys zs : List Anr) → zs ≡ xs ++ ys → cons_option o zs ≡ cons_option o xs ++ ys
cons_append None xs ys zs e = e
cons_append (Some n) xs ys zs e = ap (λ ns. n ∷ ns) e

filter_map_append : (f : ℕ → Option Anr) (xs ys : List ℕ) → filter_map f (xs ++ ys) ≡ filter_map f xs ++ filter_map f ys
filter_map_append f [] ys = refl
filter_map_append f (x ∷ xs) ys = cons_append (f x) (filter_map f xs) (filter_map f ys) (filter_map f (xs ++ ys)) (filter_map_append f xs ys)

-- one channel more
noted_next : (clock mask : ℕ) (kept : ℕ → ChannelState) (n : ℕ)
    → anrs_in clock mask kept (suc n)
    ≡ anrs_in clock mask kept n ++ option_to_list (cond (mask_has mask (suc n)) (anr_in clock (suc n) (kept (suc n))) None)
noted_next clock mask kept n =
    ap (filter_map f) (filter-append (mask_has mask) (channels n) (suc n ∷ []))
    ∙ filter_map_append f (filter (mask_has mask) (channels n)) (filter (mask_has mask) (suc n ∷ []))
    ∙ ap (λ ns. filter_map f (filter (mask_has mask) (channels n)) ++ ns) (one (mask_has mask (suc n)))
  where
    f : ℕ → Option Anr
    f c = anr_in clock c (kept c)

    single : (o : Option Anr) → cons_option o [] ≡ option_to_list o
    single None = refl
    single (Some x) = refl

    one : (b : Bool) → filter_map f (cond b (suc n ∷ []) []) ≡ option_to_list (cond b (anr_in clock (suc n) (kept (suc n))) None)
    one false = refl
    one true = single (anr_in clock (suc n) (kept (suc n)))

-- what is noted of the channels up to a place and of the next one
pub noted_more : (clock mask place : ℕ) (ss : List ChannelState) (x : ChannelState) (old now new : List Anr) (b : Bool) (o : Option Anr)
    → now ≡ old ++ anrs_in clock mask (channel_in ss) place
    → place < length ss
    → x ≡ get_or ss place x
    → b ≡ mask_has mask (place + 1)
    → o ≡ cond b (anr_in clock (place + 1) x) None
    → new ≡ now ++ option_to_list o
    → new ≡ old ++ anrs_in clock mask (channel_in ss) (place + 1)
noted_more clock mask place ss x old now new b o so lt is has noted then =
    let here : x ≡ channel_in ss (suc place) =
    is ∙ get_or_default ss place x (opened_with no_terms) lt ∙ ap (λ k. get_or ss k (opened_with no_terms)) (back place) in
    let next : o ≡ cond (mask_has mask (suc place)) (anr_in clock (suc place) (channel_in ss (suc place))) None =
    noted
    ∙ ap (λ t. cond t (anr_in clock (place + 1) x) None) (has ∙ ap (mask_has mask) (add-one place))
    ∙ ap₂ (λ k s. cond (mask_has mask (suc place)) (anr_in clock k s) None) (add-one place) here in
    then
    ∙ ap₂ (λ ns p. ns ++ option_to_list p) so next
    ∙ append_assoc old (anrs_in clock mask (channel_in ss) place) _
    ∙ ap (λ ns. old ++ ns) (sym (noted_next clock mask (channel_in ss) place))
    ∙ ap (λ k. old ++ anrs_in clock mask (channel_in ss) k) (sym (add-one place))
  where
    back : (k : ℕ) → k ≡ suc k - 1
    back k = omega arith
