-- The oldest message that is not finished is late first.
use Rattle.std.specs.Prelude.{◌≡◌, ℕ, ◌+◌, Bool, true, false, ◌||◌, nat_le, List, [], ◌∷◌, Some, slice_get}
use Rattle.std.specs.List.{list_any}
use Rattle.std.proofs.Common.{refl, sym, arith}
use Rattle.std.proofs.lemmas.Bool.Decides.{nat_tests}
use Rattle.dispatcher.specs.declared.input_channel.unfinished.Unfinished.{Unfinished}
use Rattle.dispatcher.specs.InputChannel.Order.{Follow, IsInOrder}

none_late : (limit clock : ℕ) (u : Unfinished) (us : List Unfinished) → Follow u us
    → nat_le (u.delivery + limit) clock ≡ false
    → list_any (λ v. nat_le (v.delivery + limit) clock) us ≡ false
none_late limit clock u [] h in_time = refl
none_late limit clock u (v ∷ vs) h in_time =
    let other : nat_le (v.delivery + limit) clock ≡ false = grind (arith, nat_tests, h.1) in
    rw other (none_late limit clock u vs h.2 in_time)

first_sends : (limit clock : ℕ) (u : Unfinished) (us : List Unfinished) → Follow u us → (b : Bool)
    → nat_le (u.delivery + limit) clock ≡ b
    → b ≡ (b || list_any (λ v. nat_le (v.delivery + limit) clock) us)
first_sends limit clock u us h true is = refl
first_sends limit clock u us h false is = sym (none_late limit clock u us h is)

-- some message is late exactly where the oldest one is
pub late_by_first : (limit clock : ℕ) (us : List Unfinished) (u : Unfinished) → IsInOrder us → Some u ≡ slice_get us 0
    → nat_le (u.delivery + limit) clock ≡ list_any (λ v. nat_le (v.delivery + limit) clock) us
late_by_first limit clock [] u order first = cc
late_by_first limit clock (v ∷ vs) u order first =
    let same : u ≡ v = cc in
    rw same (first_sends limit clock v vs order.0 (nat_le (v.delivery + limit) clock) refl)
