-- A channel that is able, and is not due, has no unfinished message.
use Rattle.std.proofs.Common.{◌≡◌, ℕ, ◌+◌, Bool, true, false, not, ◌&&◌, Option, Some, None, refl, sym, ap, ◌∙◌}
use Rattle.std.specs.Prelude.{option_map}
use Rattle.dispatcher.specs.InputChannel.State.{ChannelState, oldest_of}
use Rattle.dispatcher.specs.DispatchTables.Dues.{due_in}

-- a channel that is able, and not due, has no message that is published and not finished
pub none_oldest : (b : Bool) (s : ChannelState) → b ≡ true → due_in b s ≡ None → oldest_of s ≡ None
none_oldest b s able none = by_oldest (oldest_of s) (sym (ap (λ v. due_in v s) able) ∙ none)
  where
    by_oldest : (o : Option (ℕ × ℕ)) → option_map (λ p. p.1 + s.terms.limit) o ≡ None → o ≡ None
    by_oldest None e = refl
    by_oldest (Some p) e = absurd (cc e)

-- what is left out of a mask is in the other one
pub left_out : (pending able live : Bool) → live ≡ true → (not (not pending && able) && live) ≡ false → (pending ≡ false) × (able ≡ true)
left_out false true live y e = (refl, refl)
left_out true able live y e = absurd (cc (sym y ∙ e))
left_out false false live y e = absurd (cc (sym y ∙ e))

-- what is in both is in each
pub within : (a live : Bool) → (a && live) ≡ true → live ≡ true
within true live e = e
within false live e = absurd (cc e)
