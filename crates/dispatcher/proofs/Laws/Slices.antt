-- The channels of a table, one of which is changed.
use Rattle.std.proofs.Common.{◌≡◌, ◌≢◌, ◌≤◌, ◌-◌, ◌==◌, ℕ, zero, suc, cond, map, List, [], ◌∷◌, slice_index_or, slice_set, refl, sym, ap, ◌∙◌, subst, inl, inr, arith}
use Rattle.std.proofs.lemmas.Bool.{cases_eq, eq-eqb, ne_eqb}
use Rattle.std.proofs.lemmas.List.{get_or-set_same, get_or-set_other, length-set}
use Rattle.dispatcher.specs.InputChannel.State.{ChannelState, opened_with}
use Rattle.dispatcher.specs.DispatchChannels.Table.{Table, opened, channel_of, with_channel}
use Rattle.dispatch_history.specs.History.{no_terms}

-- the channel with a number is another one, and the others stay
pub channel_set : (t : Table) (c k : ℕ) (s : ChannelState) → 1 ≤ c → 1 ≤ k → k ≤ opened t
    → channel_of (with_channel k s t) c ≡ cond (c == k) s (channel_of t c)
channel_set t c k s low from to =
    elim (cases_eq c k) [
      | inl e ↦
          subst (λ v. slice_index_or (slice_set t.channels (k - 1) s) (v - 1) (opened_with no_terms) ≡ s) (sym e)
          (get_or-set_same t.channels (k - 1) s (opened_with no_terms) (omega (arith, from, to)))
          ∙ sym (ap (λ b. cond b s (channel_of t c)) (eq-eqb c k e))
      | inr ne ↦
          get_or-set_other t.channels (k - 1) (c - 1) s (opened_with no_terms) (apart c k low from ne)
          ∙ sym (ap (λ b. cond b s (channel_of t c)) (ne_eqb c k ne))
    ]
  where
    apart : (c k : ℕ) → 1 ≤ c → 1 ≤ k → c ≢ k → (c - 1) ≢ (k - 1)
    apart c k low from ne e = ne (omega (arith, e, low, from))

-- as many channels
pub set_as_many : (t : Table) (k : ℕ) (s : ChannelState) → opened (with_channel k s t) ≡ opened t
set_as_many t k s = length-set t.channels (k - 1) s

-- what is read of a list in which each element was changed
pub index-map : {X : Type 0} (f : X → X) (xs : List X) (i : ℕ) (x : X) → slice_index_or (map f xs) i (f x) ≡ f (slice_index_or xs i x)
index-map f [] i x = refl
index-map f (y ∷ ys) zero x = refl
index-map f (y ∷ ys) (suc i) x = index-map f ys i x
