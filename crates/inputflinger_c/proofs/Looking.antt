-- Calls of a service in its handle.
use Rattle.std.proofs.Common.{◌≡◌, ℕ, ℤ, Option, Some, sym, subst}
use Rattle.input_types.specs.declared.axis.Pixel.{Pixel}
use Rattle.live_input.specs.declared.limit.Limited.{Limited}
use Rattle.inputflinger_c.specs.Serving.{OnService}

-- the handle has the service as it is then, and this holds of what it was and is
pub called_on : (o : Option Limited) (status : ℕ) (n : Option Limited) (U : Type 0) (s t : Limited) (G : Limited → Limited → Type 0)
    → Some s ≡ o → n ≡ Some t → G s t → OnService o status n U G
called_on o status n U s t G was is goes = subst (λ p. OnService p status n U G) was (subst (λ p. OnService (Some s) status p U G) (sym is) goes)

-- the handle has the service that it had, and this holds of it
pub looked_at : (o : Option Limited) (status : ℕ) (n : Option Limited) (U : Type 0) (s : Limited) (G : Limited → Limited → Type 0)
    → Some s ≡ o → n ≡ Some s → G s s → OnService o status n U G
looked_at o status n U s G was is goes = called_on o status n U s s G was is goes

-- the pixel with these coordinates
abbrev pub pixel : (x y : ℤ) → Pixel
pixel x y = record { x = x; y = y }
