-- The corner of the display, an origin that may be missing, and places counted from an origin.
use Rattle.std.specs.Prelude.{pos, ◌-ℤ◌, Option, Some, None}
use Rattle.std.specs.Int.{saturate_signed, w32}
use Rattle.input_types.specs.declared.axis.Pixel.{Pixel}

-- the corner of the display
abbrev pub corner : Pixel
corner = record { x = pos 0; y = pos 0 }

-- an origin, or else the one before
abbrev pub or_origin : Option Pixel → Pixel → Pixel
or_origin None before = before
or_origin (Some p) before = p

-- a place counted from an origin, kept at the ends of its type
abbrev pub place_from : Pixel → Pixel → Pixel
place_from o at = record { x = saturate_signed w32 (at.x -ℤ o.x); y = saturate_signed w32 (at.y -ℤ o.y) }
