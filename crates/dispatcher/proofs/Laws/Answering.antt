-- What args are answered, by what is kept.
use Rattle.std.proofs.Common.{◌≡◌, ◌<◌, ◌^◌, ◌%◌, ◌*◌, ◌+◌, ℕ, zero, suc, cond, ◌==◌, is_some, List, [], ◌∷◌, ◌++◌, if◌then◌else◌, Some, Err, refl, sym, ap, ap₂, ◌∙◌, arith}
use Rattle.std.specs.Int.{bit_at}
use Rattle.std.proofs.Math.Nat.{mod-eq_of_lt}
use Rattle.std.proofs.lemmas.Nat.{mod-pow-add, mod_below}
use Rattle.std.proofs.lemmas.Nat.Bits.{bit_at-lt}
use Rattle.std.proofs.lemmas.List.Sums.{sum_by_push}
use Rattle.bits32.specs.Set.{members, members_below}
use Rattle.input_types.specs.declared.message.Args.{Args}
use Rattle.input_types.specs.declared.message.Args.TheVariants.{Motion, Key, Reset}
use Rattle.input_types.specs.DeviceRule.{DeviceState, after_args, device_of}
use Rattle.dispatcher.specs.declared.inbound.change.Inconsistent.{Inconsistent as Refusal}
use Rattle.dispatcher.specs.InboundArgs.Down.{changed, is_key_down, state_at, Plans}
use Rattle.dispatcher.proofs.InboundArgs.Accepting.{says_down}
use Rattle.dispatch_calls.specs.declared.reply.Reply.TheVariants.{Taken, Inconsistent}
use Rattle.dispatch_history.specs.Queue.{accepted}
use Rattle.dispatch_history.specs.Effect.{past_of}
use Rattle.dispatch_history.specs.Reply.{notify_reply, id_bits, is_down}
use Rattle.dispatcher.specs.Laws.{TakenLaw, RefusedLaw}

-- one bit more
bit_more : (b n x : ℕ) (ids : List ℕ) → b < 2 → id_bits ids ≡ x → id_bits (if b == 1 then ids ++ n ∷ [] else ids) ≡ b * 2 ^ n + x
bit_more zero n x ids h e = e ∙ omega arith
bit_more (suc zero) n x ids h e = sum_by_push (λ i. 2 ^ i) ids n ∙ ap (λ y. y + 2 ^ n) e ∙ omega arith
bit_more (suc (suc b)) n x ids h e = absurd (omega arith)

bits_below : (n set : ℕ) → id_bits (members_below n set) ≡ set % 2 ^ n
unfolding members_below
bits_below zero set = omega (arith, mod_below set 1 (omega arith))
bits_below (suc n) set =
    let split : set % 2 ^ suc n ≡ bit_at set n * 2 ^ n + set % 2 ^ n = (let one : 1 + n ≡ suc n = omega arith in rw (← one) (mod-pow-add set 1 n)) in
    bit_more (bit_at set n) n (set % 2 ^ n) (members_below n set) (bit_at-lt set n) (bits_below n set) ∙ sym split

-- the ids of a set as bits are the set
pub bits_of_members : (set : ℕ) → set < 2 ^ 32 → id_bits (members set) ≡ set
bits_of_members set small = bits_below 32 set ∙ mod-eq_of_lt small

same_key_down : (s : DeviceState) (a : Args) → is_down s a ≡ is_key_down s a
same_key_down s (Motion m) = refl
same_key_down s (Key k) = refl
same_key_down s (Reset d) = refl

taken_where : (s : DeviceState) (a : Args) (next : DeviceState) → after_args s a ≡ Some next → notify_reply s a ≡ Taken
taken_where s a next e = ap (λ o. cond (is_some o) Taken (Inconsistent (id_bits s.ids) (is_down s a))) e

refused_where : (s : DeviceState) (a : Args) (e : Refusal) → e.pointers < 2 ^ 32 → Plans s a (Err e) → notify_reply s a ≡ Inconsistent e.pointers e.key_down
refused_where s a e small p =
    ap (λ o. cond (is_some o) Taken (Inconsistent (id_bits s.ids) (is_down s a))) p.0
    ∙ ap₂ Inconsistent (ap id_bits (sym p.1) ∙ bits_of_members e.pointers small) (same_key_down s a ∙ sym p.2)

pub taken_law : TakenLaw
taken_law es k now a c is low high planned =
    ap (λ s. notify_reply s a) (says_down (accepted (past_of es)) k.down (device_of a) is.down_is low high)
    ∙ taken_where (state_at k.down (device_of a)) a (changed c.becomes (state_at k.down (device_of a))) planned.1

pub refused_law : RefusedLaw
refused_law es k now a e is low high small planned =
    ap (λ s. notify_reply s a) (says_down (accepted (past_of es)) k.down (device_of a) is.down_is low high)
    ∙ refused_where (state_at k.down (device_of a)) a e small planned
