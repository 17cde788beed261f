-- One section more of a text.
use Rattle.std.proofs.Common.{◌≡◌, ◌∙◌, ℕ, ◌+◌, ◌<◌, ◌++◌, true, List, ap, sym, map, drop, get_or, length, reverse, string_bytes, refl, arith}
use Rattle.std.proofs.lemmas.Bool.{le-leb}
use Rattle.std.proofs.lemmas.List.{append_assoc}
use Rattle.std.specs.Option.{unwrap_or}
use Rattle.dispatch_history.specs.Due.{counts}
use Rattle.dispatch_history.specs.Effect.{Effect, past_of, stream}
use Rattle.dispatch_history.specs.History.{opened}
use Rattle.session_plan.specs.declared.plan.ChannelPlan.{ChannelPlan}
use Rattle.session_plan.specs.View.{channel_view}
use Rattle.stream_text.specs.Spelling.{channel_section}
use Rattle.stream_text.specs.StreamsHistory.{sections_of, unopened}
use Rattle.dispatcher.specs.Access.{is_opened}
use Rattle.command_files.proofs.Newest.{left_with_next}

pub opened_at : (es : List Effect) (i : ℕ) → i < opened (past_of es) → is_opened es (i + 1) ≡ true
opened_at es i within = rw (le-leb 1 (i + 1) (omega arith), le-leb (i + 1) (opened (past_of es)) (omega (arith, within))) refl

-- the section of the next channel, and those that are left
pub section_next : (es : List Effect) (cs : List ChannelPlan) (i : ℕ) (c : ChannelPlan) (before after all : List ℕ) → i < length cs → c ≡ get_or cs i c
    → after ≡ before ++ channel_section (i + 1) (string_bytes c.name) (reverse (stream es (i + 1))) (unwrap_or (counts es (i + 1)) unopened)
    → before ++ sections_of (i + 1) (map (λ d. d.name) (map channel_view (drop i cs))) es ≡ all
    → after ++ sections_of (i + 1 + 1) (map (λ d. d.name) (map channel_view (drop (i + 1) cs))) es ≡ all
section_next es cs i c before after all within is longer so_far =
    let section = channel_section (i + 1) (string_bytes c.name) (reverse (stream es (i + 1))) (unwrap_or (counts es (i + 1)) unopened)
    in let rest = sections_of (i + 1 + 1) (map (λ d. d.name) (map channel_view (drop (i + 1) cs))) es
    in ap (λ (xs : List ℕ). xs ++ rest) longer
    ∙ append_assoc before section rest
    ∙ sym (ap (λ (ds : List ChannelPlan). before ++ sections_of (i + 1) (map (λ d. d.name) (map channel_view ds)) es) (left_with_next cs i c within is))
    ∙ so_far
