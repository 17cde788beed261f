-- Worked examples: the definitions on concrete rectangles.
use Rattle.std.specs.Prelude.{◌≡◌, true, false, pos, negsuc, List, ℕ, [], ◌∷◌, replicate, Ok, Err, Some, refl}
use Rattle.touch_region.specs.declared.rectangle.Rect.{Rect}
use Rattle.touch_region.specs.declared.region.RegionError.TheVariants.{TooMany, BadRect}
use Rattle.touch_region.specs.declared.span.Span.{Span}
use Rattle.touch_region.specs.RectList.{region_holds}
use Rattle.touch_region.specs.Bands.{Row, bands_hold, with_band}
use Rattle.touch_region.specs.Edges.{lower_edges, nearer}
use Rattle.touch_region.specs.Region.{region_of}

-- from (10, 10) to (20, 20)
abbrev pub square : Rect
square = record { left = pos 10; top = pos 10; right = pos 20; bottom = pos 20 }

-- from (5, 5) to (20, 20), which overlaps the one from (0, 0) to (10, 10)
abbrev pub lower : Rect
lower = record { left = pos 5; top = pos 5; right = pos 20; bottom = pos 20 }

abbrev pub upper : Rect
upper = record { left = pos 0; top = pos 0; right = pos 10; bottom = pos 10 }

-- no wider than a line
abbrev pub line : Rect
line = record { left = pos 5; top = pos 0; right = pos 5; bottom = pos 9 }

-- the left edge right of the right one
abbrev pub reversed : Rect
reversed = record { left = pos 9; top = pos 0; right = pos 5; bottom = pos 9 }

-- left of the display's corner and above it
abbrev pub outside : Rect
outside = record { left = negsuc 9; top = negsuc 9; right = pos 0; bottom = pos 0 }

pub top_left_corner_is_in : region_holds (square ∷ []) (pos 10) (pos 10) ≡ true
top_left_corner_is_in = refl

pub right_edge_is_out : region_holds (square ∷ []) (pos 20) (pos 10) ≡ false
right_edge_is_out = refl

pub line_is_accepted : region_of (line ∷ []) ≡ Ok (line ∷ [])
line_is_accepted = refl

pub line_has_no_point : region_holds (line ∷ []) (pos 5) (pos 0) ≡ false
line_has_no_point = refl

pub reversed_is_bad : region_of (reversed ∷ []) ≡ Err (BadRect 0)
reversed_is_bad = refl

pub first_bad_counts : region_of (square ∷ line ∷ reversed ∷ reversed ∷ []) ≡ Err (BadRect 2)
first_bad_counts = refl

pub sixty_four_are_accepted : region_of (replicate 64 square) ≡ Ok (replicate 64 square)
sixty_four_are_accepted = refl

pub sixty_five_are_too_many : region_of (replicate 65 reversed) ≡ Err TooMany
sixty_five_are_too_many = refl

pub both_have_it : region_holds (upper ∷ lower ∷ []) (pos 7) (pos 7) ≡ true
both_have_it = refl

pub second_has_it : region_holds (upper ∷ lower ∷ []) (pos 15) (pos 15) ≡ true
second_has_it = refl

pub first_has_it : region_holds (upper ∷ lower ∷ []) (pos 0) (pos 9) ≡ true
first_has_it = refl

pub beside_both : region_holds (upper ∷ lower ∷ []) (pos 15) (pos 2) ≡ false
beside_both = refl

pub lower_corner_is_out : region_holds (upper ∷ lower ∷ []) (pos 20) (pos 20) ≡ false
lower_corner_is_out = refl

pub negative_places_count : region_holds (outside ∷ []) (negsuc 0) (negsuc 9) ≡ true
negative_places_count = refl

pub nothing_has_no_point : region_holds [] (pos 0) (pos 0) ≡ false
nothing_has_no_point = refl

abbrev pub span : ℕ → ℕ → Span
span from until = record { from = pos from; until = pos until }

-- the three bands of `upper` and `lower`
abbrev pub bands : List Row
bands =
    record { top = pos 0; bottom = pos 5; spans = span 0 10 ∷ [] }
    ∷ record { top = pos 5; bottom = pos 10; spans = span 0 20 ∷ [] }
    ∷ record { top = pos 10; bottom = pos 20; spans = span 5 20 ∷ [] } ∷ []

pub first_band_has_it : bands_hold bands (pos 0) (pos 4) ≡ true
first_band_has_it = refl

pub second_band_has_it : bands_hold bands (pos 0) (pos 9) ≡ true
second_band_has_it = refl

pub third_band_has_it : bands_hold bands (pos 15) (pos 15) ≡ true
third_band_has_it = refl

pub beside_the_first_band : bands_hold bands (pos 15) (pos 2) ≡ false
beside_the_first_band = refl

pub beside_the_third_band : bands_hold bands (pos 4) (pos 10) ≡ false
beside_the_third_band = refl

pub below_all_bands : bands_hold bands (pos 20) (pos 20) ≡ false
below_all_bands = refl

-- below row 5 lie the bottom edges 10 and 20; the top edge 5 does not
pub two_edges_are_lower : lower_edges (pos 5) (upper ∷ lower ∷ []) ≡ 2
two_edges_are_lower = refl

pub nearer_edge_is_kept : nearer (Some (pos 10)) (pos 20) ≡ pos 10
nearer_edge_is_kept = refl

pub no_span_no_band : with_band (pos 20) (pos 30) [] bands ≡ bands
no_span_no_band = refl

pub a_span_makes_a_band : with_band (pos 0) (pos 5) (span 0 10 ∷ []) [] ≡ record { top = pos 0; bottom = pos 5; spans = span 0 10 ∷ [] } ∷ []
a_span_makes_a_band = refl
