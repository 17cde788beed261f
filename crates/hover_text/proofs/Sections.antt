-- Sections that are written one after another.
use Rattle.std.proofs.Common.{◌≡◌, ℕ, ◌+◌, ◌<◌, ◌≤◌, List, ◌∷◌, ◌++◌, drop, get_or, length, map, Option, Some, None, ap, refl, ◌∙◌, arith}
use Rattle.std.specs.Prelude.{nat_lt, option_map, true}
use Rattle.std.proofs.lemmas.Bool.{le-leb, lt-ltb}
use Rattle.std.proofs.lemmas.List.{append_assoc}
use Rattle.session_plan.specs.declared.plan.ChannelPlan.{ChannelPlan}
use Rattle.session_plan.specs.Plan.{ChannelData}
use Rattle.session_plan.specs.View.{channel_view}
use Rattle.cursor_core.specs.declared.call.CursorCall.{CursorCall}
use Rattle.cursor_core.specs.declared.message.HoverMsg.{HoverMsg}
use Rattle.cursor_core.specs.Calls.{Screen}
use Rattle.cursor_core.specs.Told.{stream, stream_of}
use Rattle.hover_text.specs.Lines.{section_text}
use Rattle.hover_text.specs.Text.{sections_from}
use Rattle.hover_text.proofs.Running.{item_at}

-- one section more, with what is known of its name and of its messages
pub section_more : (text new : List ℕ) (k : ℕ) (c : ChannelData) (cs : List ChannelData) (f : ℕ → List HoverMsg) (name : List ℕ) (told : List HoverMsg) (all : List ℕ)
    → name ≡ c.name → told ≡ f k → new ≡ text ++ section_text k name told → text ++ sections_from k (c ∷ cs) f ≡ all → new ++ sections_from (k + 1) cs f ≡ all
section_more text new k c cs f name told all n t e h =
    ap (λ x. x ++ sections_from (k + 1) cs f) (e ∙ ap (λ m. text ++ section_text k m told) n ∙ ap (λ m. text ++ section_text k c.name m) t)
    ∙ append_assoc text (section_text k c.name (f k)) (sections_from (k + 1) cs f)
    ∙ h

-- the channels from a place on, and the one at it
pub channel_at : (cs : List ChannelPlan) (i : ℕ) (c : ChannelPlan) → i < length cs → c ≡ get_or cs i c
    → map channel_view (drop i cs) ≡ channel_view c ∷ map channel_view (drop (i + 1) cs)
channel_at cs i c lt is = ap (map channel_view) (item_at cs i c lt is)

-- a channel of a cursor has a stream
known : (d : Screen) (calls : List CursorCall) (c : ℕ) → 1 ≤ c → c ≤ d.channels → stream_of d calls c ≡ Some (stream d calls c)
known d calls c low high =
    let one : nat_lt 0 c ≡ true = lt-ltb 0 c (omega (arith, low)) in
    rw (one, le-leb c d.channels high) refl

-- what remains of it is all of it, if nothing was released
pub sent_whole : (d : Screen) (calls : List CursorCall) (c gone : ℕ) (left : List HoverMsg) → 1 ≤ c → c ≤ d.channels → gone ≡ 0
    → Some left ≡ option_map (drop gone) (stream_of d calls c) → left ≡ stream d calls c
sent_whole d calls c gone left low high none is =
    let all : Some left ≡ Some (stream d calls c) =
    is ∙ ap (λ n. option_map (drop n) (stream_of d calls c)) none ∙ ap (option_map (drop 0)) (known d calls c low high) in
    cc all

-- there is something of it
pub none_sent : (d : Screen) (calls : List CursorCall) (c gone : ℕ) → 1 ≤ c → c ≤ d.channels → ◌≡◌ {A = Option (List HoverMsg)} None (option_map (drop gone) (stream_of d calls c)) → ⊥
none_sent d calls c gone low high is =
    let some : ◌≡◌ {A = Option (List HoverMsg)} None (Some (drop gone (stream d calls c))) = is ∙ ap (option_map (drop gone)) (known d calls c low high) in
    cc some
