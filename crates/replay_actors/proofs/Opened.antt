-- The caller's opens.
use Rattle.std.proofs.Common.{◌≡◌, ℕ, ◌+◌, ◌<◌, List, [], ◌∷◌, length, take, reverse, map, true, false, refl, sym, ap, subst, ◌∙◌, add-one, arith}
use Rattle.std.specs.Prelude.{Bool, Option, Ok, nat_lt, slice_index_or}
use Rattle.std.proofs.lemmas.Bool.Decides.{nat_tests}
use Rattle.std.proofs.lemmas.List.{length-map, map-append}
use Rattle.key_repeat.specs.declared.delays.Repeats.{Repeats}
use Rattle.dispatch_calls.specs.declared.call.Call.TheVariants.{Open}
use Rattle.dispatch_calls.specs.declared.reply.Reply.{Reply}
use Rattle.dispatch_calls.specs.declared.terms.Terms.{Terms}
use Rattle.dispatch_history.specs.History.{opened}
use Rattle.dispatch_history.specs.Given.{opens}
use Rattle.dispatch_history.specs.Plan.{ChannelOf}
use Rattle.dispatch_history.specs.Reply.{open_reply}
use Rattle.dispatch_history.proofs.LegalLaws.{effects_law}
use Rattle.dispatch_core.specs.Machine.{IsLegal, steps}
use Rattle.turnstile.specs.Answers.{Answers}
use Rattle.turnstile.specs.History.{of_zero}
use Rattle.turnstile.specs.declared.machine.Placed.{Placed}
use Rattle.session_plan.specs.View.{channel_view}
use Rattle.session_plan.specs.declared.plan.ChannelPlan.{ChannelPlan}
use Rattle.replay_actors.specs.Lanes.{Own, calls_made}
use Rattle.replay_actors.specs.Raced.{OnlyOpens, is_opening}
use Rattle.replay_actors.proofs.Firsts.{begun}
use Rattle.replay_actors.specs.Seats.{Known}
use Rattle.replay_actors.specs.Opening.{IsCaller, OpensOne}
use Rattle.replay_actors.specs.Session.{channel_of}
use Rattle.replay_actors.proofs.OwnCalls.{reversed, taken_next}

-- a reply to an open, where fewer than 64 channels were opened
opening_by : (terms : Terms) (n : ℕ) (b : Bool) → nat_lt n 64 ≡ b → n < 64 → is_opening (Open terms) (open_reply n) ≡ true
opening_by terms n true is below = rw is refl
opening_by terms n false is below = absurd (grind (arith, nat_tests))

-- an answered open is one channel more
pub opens_one : (v w : Known) (terms : Terms) (p : Placed Reply) → IsCaller v → OnlyOpens v.mine.own → length v.mine.own < 64
    → Answers IsLegal v (Open terms) (Ok p) w → OpensOne terms v w
opens_one v w terms p caller only few a =
    let follows = a.2 in
    let past : a.1 ≡ of_zero v.mine.own = follows.alone caller.number caller.made in
    let count : opened (steps a.1) ≡ length v.mine.own = ap (λ h. opened (steps h)) past ∙ (begun v.mine.own 0 only).opened_all in
    let legal = follows.reply in
    let so : p.reply ≡ open_reply (opened (steps a.1)) = legal.2.0 ∙ ap (λ h. open_reply (opened h)) (effects_law legal.0 (steps a.1)) in
    let is : is_opening (Open terms) p.reply ≡ true =
    ap (is_opening (Open terms)) (so ∙ ap open_reply count) ∙ opening_by terms (length v.mine.own) (nat_lt (length v.mine.own) 64) refl few in
    let place : length a.1 ≡ length v.mine.own = ap (λ h. length h) past ∙ length-map v.mine.own (λ e. (0, e.1, e.2)) in
    let own = ap (λ (x : Known). x.mine.own) a.3 in
    record {
      only = subst OnlyOpens (sym own) (place, is, only);
      calls = ap calls_made own;
      one = ap (λ (es : List Own). length es) own ∙ sym (add-one (length v.mine.own));
    }

-- the channels of a session as those of a plan
abbrev planned : Option Repeats → ChannelPlan → ChannelOf
planned repeats c = channel_of repeats (channel_view c)

all_planned : (repeats : Option Repeats) (cs : List ChannelPlan) → map (channel_of repeats) (map channel_view cs) ≡ map (planned repeats) cs
all_planned repeats [] = refl
all_planned repeats (c ∷ cs) = ap (λ ps. planned repeats c ∷ ps) (all_planned repeats cs)

-- the opens so far
pub opens_next : (repeats : Option Repeats) (v w : Known) (channels : List ChannelPlan) (i : ℕ) (c : ChannelPlan) → i < length channels → c ≡ slice_index_or channels i c
    → OpensOne (record { limit = c.limit; repeats = repeats }) v w
    → calls_made v.mine.own ≡ reverse (opens (map (channel_of repeats) (map channel_view (take i channels))))
    → calls_made w.mine.own ≡ reverse (opens (map (channel_of repeats) (map channel_view (take (i + 1) channels))))
opens_next repeats v w channels i c below at one so_far =
    let before = take i channels in
    let terms : Terms = record { limit = c.limit; repeats = repeats } in
    one.calls
    ∙ ap (λ calls. Open terms ∷ calls) (so_far ∙ ap (λ cs. reverse (opens cs)) (all_planned repeats before))
    ∙ sym (reversed (λ (x : ChannelOf). Open x.terms) (map (planned repeats) before) (planned repeats c))
    ∙ ap (λ cs. reverse (opens cs)) (sym (map-append (planned repeats) before (c ∷ [])))
    ∙ ap (λ cs. reverse (opens (map (planned repeats) cs))) (sym (taken_next channels i c below at))
    ∙ ap (λ cs. reverse (opens cs)) (sym (all_planned repeats (take (i + 1) channels)))
