-- The marks of steps other than motions.
use Rattle.std.proofs.Common.{ℕ, Bool, not, ◌==◌, ◌&&◌, refl, ap, ap₂, ◌∙◌}
use Rattle.routing_rules.specs.Scene.{Resets, Pilfers, Shows, Mutes, Removes, NoOp as NoOps}
use Rattle.route_split.specs.declared.mark.Mark.TheVariants.{NoOp, Empty, Pilfer, Unnamed, Mute, Forget}
use Rattle.route_split.specs.Marking.{OtherLaw}

pub other_law : OtherLaw
other_law s ts (Empty device) (Resets d) f h =
    record {
      given_are = λ w e i. refl;
      taken_are = λ w e i c. ap (λ x. e == x) h;
      pilfers_are = λ w e. refl;
    }
other_law s ts (Pilfer device window) (Pilfers v d) f h =
    record {
      given_are = λ w e i. refl;
      taken_are = λ w e i c.
          ap₂ (λ x y. not (w == x) && e == y && s.holds x y i) h.0 h.1 ∙ ap (λ (g : ℕ → ℕ → ℕ → Bool). not (w == window) && e == device && g window device i) f.holds_are;
      pilfers_are = λ w e. ap₂ (λ x y. w == x && e == y) h.0 h.1;
    }
other_law s ts (Unnamed stays) (Shows names) f h =
    record {
      given_are = λ w e i. refl;
      taken_are = λ w e i c. ap not (h w c);
      pilfers_are = λ w e. refl;
    }
other_law s ts (Mute channels) (Mutes muted) f h =
    record {
      given_are = λ w e i. refl;
      taken_are = λ w e i c. h w c;
      pilfers_are = λ w e. refl;
    }
other_law s ts (Forget window) (Removes v) f h =
    record {
      given_are = λ w e i. refl;
      taken_are = λ w e i c. ap (λ x. w == x) h;
      pilfers_are = λ w e. refl;
    }
other_law s ts NoOp NoOps f h =
    record {
      given_are = λ w e i. refl;
      taken_are = λ w e i c. refl;
      pilfers_are = λ w e. refl;
    }
other_law s ts _ _ f h = absurd h
