-- What can be read of a dispatcher is what the history says.
use Rattle.std.proofs.Common.{◌≡◌, ℕ, ◌-◌, ◌==◌, ◌&&◌, nat_lt, cond, refl, not, if◌then◌else◌, Bool, true, false, List, [], ◌∷◌, length, reverse, drop, slice_get, is_some, Option, Some, None, sym, ap, ◌∙◌, option_copied, length-drop, arith}
use Rattle.std.proofs.lemmas.Bool.Decides.{nat_tests}
use Rattle.std.proofs.lemmas.List.{length-reverse}
use denote.Ref.{Bor}
use Rattle.window_snapshot.specs.Mask.{mask_has}
use Rattle.dispatch_calls.specs.declared.call.Call.TheVariants.{Receive}
use Rattle.dispatch_calls.specs.declared.reply.Reply.TheVariants.{Gone}
use Rattle.input_types.specs.declared.message.Args.{Args}
use Rattle.input_types.specs.declared.message.Message.{Message}
use Rattle.dispatcher.specs.InputChannel.State.{next_of}
use Rattle.dispatch_history.specs.Effect.{Effect}
use Rattle.dispatch_history.specs.Reply.{reply_to, got_reply}
use Rattle.dispatcher.specs.Knows.{Kept, KeptStandsFor}
use Rattle.dispatcher.proofs.Laws.Replies.{reply_law, gone_reply, live_by}
use Rattle.dispatcher.specs.Replying.{MayHand}
use Rattle.dispatcher.specs.Access.{got, any_waits}

-- one that is lent is one
pub some_copied : {T : Type 0} (o : Option (Bor T)) → is_some o ≡ is_some (option_copied o)
some_copied None = refl
some_copied (Some a) = refl

-- whether args wait
pub waits : (ws : List Args) (first : Option Args) (b : Bool) → first ≡ slice_get ws 0 → b ≡ is_some first → b ≡ any_waits ws
waits [] first b e h = h ∙ ap is_some e
waits (w ∷ ws) first b e h = h ∙ ap is_some e

-- what the owner of a channel is handed next
got_is : (m : Option Message) → got (got_reply m) ≡ m
got_is None = refl
got_is (Some m) = refl

pub next_live : (ds : List ℕ) (es : List Effect) (k : Kept) (c : ℕ) (m : Option Message) → KeptStandsFor ds es k → MayHand es k (Receive c)
    → mask_has k.delivery.live c ≡ true → m ≡ next_of (k.delivery.channel c) → m ≡ got (reply_to es (Receive c))
next_live ds es k c m s may lives e =
    let r : reply_to es (Receive c) ≡ got_reply (next_of (k.delivery.channel c)) =
    reply_law ds es k (Receive c) s tt may ∙ ap (λ b. if not b then Gone else got_reply (next_of (k.delivery.channel c))) lives in
    e ∙ sym (got_is (next_of (k.delivery.channel c))) ∙ sym (ap got r)

pub next_gone : (ds : List ℕ) (es : List Effect) (k : Kept) (c : ℕ) → KeptStandsFor ds es k
    → mask_has k.delivery.live c ≡ false → None ≡ got (reply_to es (Receive c))
next_gone ds es k c s lives = sym (ap got (gone_reply es c (sym (live_by es k.delivery c s.knows.delivery) ∙ lives)))

-- whether messages are left
pub some_left : (b : Bool) (n : ℕ) (ms all : List Message) → Some ms ≡ cond b (Some (drop n (reverse all))) None
    → not (length ms == 0) ≡ (b && nat_lt n (length all))
some_left true n ms all e =
    let same : ms ≡ drop n (reverse all) = cc in
    let count : length ms ≡ length all - n = ap length same ∙ length-drop n (reverse all) ∙ ap (λ k. k - n) (length-reverse all) in
    grind (arith, nat_tests)
some_left false n ms all e = absurd (cc e)

pub none_left : (b : Bool) (n : ℕ) (all : List Message) → None ≡ cond b (Some (drop n (reverse all))) None → false ≡ (b && nat_lt n (length all))
none_left true n all e = absurd (cc e)
none_left false n all e = refl
