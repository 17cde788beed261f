-- The only window of a list, and the windows that get a pointer.
use Rattle.std.proofs.Common.{◌≡◌, ℕ, Bool, true, false, not, ◌&&◌, ◌||◌, ◌==◌, List, [], ◌∷◌, map, filter, Option, Some, None, refl, sym, ap, ap₂, ◌∙◌, inl, inr}
use mathlib.Core.Path.{fun_ext}
use Rattle.std.specs.Prelude.{fold, IfSome}
use Rattle.std.specs.List.{list_any}
use Rattle.std.proofs.lemmas.Bool.{and_parts, or_left, cases_eq, eq-eqb, ne_eqb, true≢false}
use Rattle.input_types.specs.declared.axis.Pixel.{Pixel}
use Rattle.window_snapshot.specs.declared.window.Window.{Window}
use Rattle.window_snapshot.specs.Mask.{is_channel, mask_has}
use Rattle.window_snapshot.specs.MaskOf.{mask_of}
use Rattle.window_snapshot.specs.Named.{is_named}
use Rattle.window_snapshot.specs.Window.{is_spy}
use Rattle.window_snapshot.specs.Hits.{is_spy_at}
use Rattle.window_snapshot.proofs.Among.{named_among}
use Rattle.window_snapshot.proofs.Masks.{mask_has-mask_of, mask_has_channel}
use Rattle.window_snapshot.proofs.Naming.{named_passes}
use Rattle.routing_rules.specs.Scene.{Scene}
use Rattle.routing_rules.specs.Choice.{is_candidate, is_target, chosen, targets_at, may_take, takers, is_candidate_of}
use Rattle.routing_rules.specs.Given.{pairs}
use Rattle.routing_rules.specs.Pairs.{has}
use Rattle.routing_rules.specs.Slip.{only, holders_of}
use Rattle.touch_state.specs.Touches.{Touches, holds}
use Rattle.touch_state.proofs.Sets.{and_false}
use Rattle.route_split.specs.declared.slip.Found.TheVariants.{Nobody, Several}
use Rattle.route_split.specs.Slipping.{and_one, the_one}
use Rattle.route_split.proofs.Changing.{held_channel}

several_stay : (ws : List ℕ) → fold and_one Several ws ≡ Several
several_stay [] = refl
several_stay (w ∷ ws) = several_stay ws

pub the_one-found : (ws : List ℕ) → the_one (fold and_one Nobody ws) ≡ only ws
the_one-found [] = refl
the_one-found (w ∷ []) = refl
the_one-found (v ∷ w ∷ ws) = ap the_one (several_stay ws)

only_named : (ws : List Window) (c : ℕ) → only (map (λ v. v.channel) ws) ≡ Some c → is_named ws c ≡ true
only_named [] c e = cc
only_named (w ∷ []) c e = let q : w.channel ≡ c = cc in or_left (w.channel == c) _ (eq-eqb w.channel c q)
only_named (w ∷ u ∷ ws) c e = cc

-- the only window that passes a test
pub only_passes : (p : Window → Bool) (q : ℕ → Bool) → ((w : Window) → p w ≡ true → q w.channel ≡ true)
    → (ws : List Window) (c : ℕ) → only (map (λ v. v.channel) (filter p ws)) ≡ Some c → q c ≡ true
only_passes p q passes ws c e = named_passes p q passes c ws (only_named (filter p ws) c e)

pub any_channels : (ws : List Window) (w : ℕ) → is_named ws w ≡ list_any (λ v. v == w) (map (λ v. v.channel) ws)
any_channels [] w = refl
any_channels (u ∷ ws) w = ap (λ b. u.channel == w || b) (any_channels ws w)

-- so the only holder of a pointer is a channel
pub holder_channel : (s : Scene) (t : Touches) (d i : ℕ) → ((v : ℕ) → s.holds v d i ≡ holds t v i) → (o : Option ℕ) → o ≡ only (holders_of s d i)
    → IfSome o (λ v. is_channel v ≡ true)
holder_channel s t d i are None e = tt
holder_channel s t d i are (Some v) e =
    only_passes (λ u. not (is_spy u) && s.holds u.channel d i) is_channel
    (λ u h. held_channel t u.channel i (sym (are u.channel) ∙ (and_parts (not (is_spy u)) (s.holds u.channel d i) h).1)) s.windows v (sym e)

pub symmetric : (a b : ℕ) → (a == b) ≡ (b == a)
symmetric a b = elim (cases_eq a b) [ inl e ↦ eq-eqb a b e ∙ sym (eq-eqb b a (sym e)) | inr n ↦ ne_eqb a b n ∙ sym (ne_eqb b a (λ e. n (sym e))) ]

shared : (a b c r : Bool) → (a && b && c || (b && (r && c))) ≡ (b && ((a || r) && c))
shared false b c r = refl
shared true false c r = refl
shared true true true r = refl
shared true true false r = and_false r

-- one pointer of each window of a list
pub has_pairs : (device id : ℕ) (ws : List ℕ) (w d i : ℕ) → has (pairs device id ws) w d i ≡ (d == device && (list_any (λ v. v == w) ws && i == id))
has_pairs device id [] w d i = sym (and_false (d == device))
has_pairs device id (v ∷ ws) w d i =
    ap₂ (λ x y. v == w && x && y || has (pairs device id ws) w d i) (symmetric device d) (symmetric id i)
    ∙ ap (λ r. v == w && d == device && i == id || r) (has_pairs device id ws w d i)
    ∙ shared (v == w) (d == device) (i == id) (list_any (λ u. u == w) ws)

-- the mask of the targets
pub targets_are : (s : Scene) (d : ℕ) (at : Pixel) (spies : ℕ → Bool) (some : Bool) (c : Option ℕ) (mask : ℕ)
    → ((w : ℕ) → spies w ≡ is_spy_at s.windows (s.reach d) at.x at.y w) → c ≡ chosen s d at
    → some ≡ list_any (λ v. is_candidate_of c spies v.channel && s.pilfering v.channel d) s.windows
    → mask ≡ mask_of (filter (λ v. is_candidate_of c spies v.channel && (s.pilfering v.channel d || not some)) s.windows)
    → (w : ℕ) → mask_has mask w ≡ (is_channel w && list_any (λ v. v == w) (targets_at s d at))
targets_are s d at spies some c mask spied choice pilfered is w =
    ap (λ m. mask_has m w) (is ∙ ap mask_of same) ∙ mask_has-mask_of _ w ∙ ap (λ b. is_channel w && b) (any_channels _ w)
  where
    candidate_at : (o : Option ℕ) (v : ℕ) → is_candidate_of o spies v ≡ is_candidate s d at o v
    candidate_at None v = spied v
    candidate_at (Some u) v = ap (λ b. v == u || b) (spied v)

    candidate : is_candidate_of c spies ≡ is_candidate s d at (chosen s d at)
    candidate = fun_ext (λ v. candidate_at c v ∙ ap (λ o. is_candidate s d at o v) choice)

    one : some ≡ list_any (λ v. is_candidate s d at (chosen s d at) v.channel && s.pilfering v.channel d) s.windows
    one = pilfered ∙ ap (λ f. list_any (λ v. f v.channel && s.pilfering v.channel d) s.windows) candidate

    same : filter (λ v. is_candidate_of c spies v.channel && (s.pilfering v.channel d || not some)) s.windows
        ≡ filter (λ v. is_target s d (is_candidate s d at (chosen s d at)) v.channel) s.windows
    same k = filter (λ v. candidate k v.channel && (s.pilfering v.channel d || not (one k))) s.windows

and_turned : (a b : Bool) → (a && b) ≡ (b && a)
and_turned true true = refl
and_turned true false = refl
and_turned false true = refl
and_turned false false = refl

-- what is left of a mask without those of it that are in another one
pub left_over : (a b k : Bool) → (not ((a && b) && k) && (a && b)) ≡ (a && (b && not k))
left_over true true true = refl
left_over true true false = refl
left_over true false k = refl
left_over false b k = refl

without_channel : (k x m : Bool) → (m ≡ true → k ≡ true) → ((k && x) && m) ≡ (m && x)
without_channel true x m h = and_turned x m
without_channel false x true h = absurd (true≢false (sym (h refl)))
without_channel false x false h = refl

-- who may be given a pointer is a channel
pub taker_channel : (s : Scene) (d : ℕ) (at : Pixel) (able w : ℕ) → s.able ≡ mask_has able → may_take s d at w ≡ true → is_channel w ≡ true
taker_channel s d at able w can h = mask_has_channel able w (sym (ap (λ f. f w) can) ∙ (and_parts (s.able w) _ h).0)

-- the targets that may be given a pointer are those that get it
pub takers_are : (s : Scene) (d : ℕ) (at : Pixel) (able w : ℕ) → s.able ≡ mask_has able
    → ((is_channel w && list_any (λ v. v == w) (targets_at s d at)) && may_take s d at w) ≡ list_any (λ v. v == w) (takers s d at)
takers_are s d at able w can =
    let test : Window → Bool = λ v. is_target s d (is_candidate s d at (chosen s d at)) v.channel in
    without_channel (is_channel w) _ (may_take s d at w) (taker_channel s d at able w can)
    ∙ ap (λ b. may_take s d at w && b) (sym (any_channels (filter test s.windows) w))
    ∙ sym (named_among (may_take s d at) test s.windows w)
    ∙ ap (λ (f : Window → Bool). is_named (filter f s.windows) w) (fun_ext (λ v. and_turned (may_take s d at v.channel) (test v)))
    ∙ any_channels (filter (λ v. test v && may_take s d at v.channel) s.windows) w
