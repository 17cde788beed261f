-- Masks that follow the marks of the steps, bit by bit.
use Rattle.std.proofs.Common.{◌≡◌, ◌==◌, ◌&&◌, ◌||◌, not, Bool, true, false, if◌then◌else◌, ◌∷◌, refl, sym, ap, ap₂, ◌∙◌}
use Rattle.std.proofs.lemmas.Bool.{eqb-true}
use Rattle.window_snapshot.specs.Mask.{mask_has}
use Rattle.routing_rules.specs.Cover.{Cover, both}
use Rattle.routing_rules.specs.Pairs.{has_any}
use Rattle.routing_rules.specs.Marks.{held, covered}
use Rattle.dispatcher.specs.WindowCovers.Covers.{mask_of, bit_after}
use Rattle.dispatcher.specs.WindowCovers.Laws.{GiftLaw, StayLaw}

-- a cover by its bits
bits : (a : Cover) (o p : Bool) → a.obscured ≡ o → a.partly ≡ p → a ≡ record { obscured = o; partly = p }
bits a o p e f = ap₂ (λ x y. record { obscured = x; partly = y }) e f

-- the bit of what lay over a window after a mark, by the bit of the test
bit_is : (test : Cover → Bool) → ((a b : Cover) → test (both a b) ≡ (test a || test b)) → (c was : Cover) (given held : Bool)
    → test (if given then (if held then both c was else c) else was) ≡ bit_after given held (given && test c) (test was)
bit_is test is c was true true = is c was ∙ ap (λ x. test c || x) (keep (test was))
  where
    keep : (b : Bool) → b ≡ (b && true)
    keep true = refl
    keep false = refl
bit_is test is c was true false = drop (test c) (test was)
  where
    drop : (a b : Bool) → a ≡ (a || (b && false))
    drop true b = refl
    drop false true = refl
    drop false false = refl
bit_is test is c was false held = keep (test was)
  where
    keep : (b : Bool) → b ≡ (b && true)
    keep true = refl
    keep false = refl

-- the same where the device is that of the gift, and where it is not
bit_at : (test : Cover → Bool) → ((a b : Cover) → test (both a b) ≡ (test a || test b)) → (c was : Cover) (own window before held found : Bool)
    → (own ≡ true → before ≡ held) → found ≡ (window && test c)
    → test (if own && window then (if before then both c was else c) else was)
    ≡ (if own then bit_after window held found (test was) else test was)
bit_at test is c was true window before held found e f =
    bit_is test is c was window before ∙ ap₂ (λ h x. bit_after window h x (test was)) (e refl) (sym f)
bit_at test is c was false window before held found e f = refl

pub gift_law : GiftLaw
gift_law ms m g held_mask old new follows is held_are gives w d =
    bits (covered (m ∷ ms) w d) (mask_has (mask_of new.obscured d) w) (mask_has (mask_of new.partly d) w)
    (at (λ c. c.obscured) (λ a b. refl) (mask_has g.obscured w) (is.obscured_are w)
    ∙ ap (λ (c : Cover). if d == g.device then bit_after (mask_has g.windows w) (mask_has held_mask w) (mask_has g.obscured w) c.obscured else c.obscured) (follows w d)
    ∙ sym (gives.obscured_are w d))
    (at (λ c. c.partly) (λ a b. refl) (mask_has g.partly w) (is.partly_are w)
    ∙ ap (λ (c : Cover). if d == g.device then bit_after (mask_has g.windows w) (mask_has held_mask w) (mask_has g.partly w) c.partly else c.partly) (follows w d)
    ∙ sym (gives.partly_are w d))
  where
    at : (test : Cover → Bool) → ((a b : Cover) → test (both a b) ≡ (test a || test b)) → (found : Bool) → found ≡ (mask_has g.windows w && test (m.cover w))
        → test (covered (m ∷ ms) w d)
        ≡ (if d == g.device then bit_after (mask_has g.windows w) (mask_has held_mask w) found (test (covered ms w d)) else test (covered ms w d))
    at test bit found found_is =
        ap (λ b. test (if b then (if has_any (held ms) w d then both (m.cover w) (covered ms w d) else m.cover w) else covered ms w d)) (is.given_are w d)
        ∙ bit_at test bit (m.cover w) (covered ms w d) (d == g.device) (mask_has g.windows w) (has_any (held ms) w d) (mask_has held_mask w) found
        (λ own. ap (has_any (held ms) w) (eqb-true d g.device own) ∙ held_are w) found_is

pub stay_law : StayLaw
stay_law ms m t follows none w d =
    ap (λ b. if b then (if has_any (held ms) w d then both (m.cover w) (covered ms w d) else m.cover w) else covered ms w d) (none w d) ∙ follows w d

-- the code's order of the tests
pub turned : (g h f w : Bool) → (not (not h && g) && w || f) ≡ bit_after g h f w
turned true true true true = refl
turned true true true false = refl
turned true true false true = refl
turned true true false false = refl
turned true false true true = refl
turned true false true false = refl
turned true false false true = refl
turned true false false false = refl
turned false true true true = refl
turned false true true false = refl
turned false true false true = refl
turned false true false false = refl
turned false false true true = refl
turned false false true false = refl
turned false false false true = refl
turned false false false false = refl
