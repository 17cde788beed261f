-- How a refusal is printed.
use Rattle.std.specs.Prelude.{codes, ℕ, ℤ, List, [], ◌++◌}
use Rattle.std.specs.Fmt.{decimal, signed_decimal}
use Rattle.compare_text.specs.declared.difference.Difference.{Difference}
use Rattle.compare_text.specs.declared.difference.Difference.TheVariants.{Kind, Device, Action, Index, Flags, Pointers, Place, Scan, Code, Meta, Direction, Repeat, Focus, Time}
use Rattle.compare_text.specs.declared.error.CompareError.{CompareError}
use Rattle.compare_text.specs.declared.error.CompareError.TheVariants.{Differs, Missing, Added, NoSection, NewSection, Memory}

-- the words for a difference
unfoldable pub difference_words : Difference → List ℕ
difference_words Kind = codes "kind"
difference_words Device = codes "device"
difference_words Action = codes "action"
difference_words Index = codes "index"
difference_words Flags = codes "flags"
difference_words Pointers = codes "pointers"
difference_words (Place dx dy) = codes "place " ++ (signed_decimal dx ++ (codes "," ++ signed_decimal dy))
difference_words Scan = codes "scan"
difference_words Code = codes "code"
difference_words Meta = codes "meta"
difference_words Direction = codes "direction"
difference_words Repeat = codes "repeat"
difference_words Focus = codes "focus"
difference_words (Time us) = codes "time " ++ signed_decimal us

-- the line of two points that do not agree, with the words for what differs
unfoldable pub differs_at : (want got : ℕ) → List ℕ → List ℕ
differs_at want got words = codes "compare: Differs " ++ (decimal want ++ (codes " " ++ (decimal got ++ (codes " " ++ words))))

-- the line of a refusal, without its newline; running out of memory has none
unfoldable pub refusal_line : CompareError → List ℕ
refusal_line (Differs want got what) = differs_at want got (difference_words what)
refusal_line (Missing want) = codes "compare: Missing " ++ decimal want
refusal_line (Added got) = codes "compare: Added " ++ decimal got
refusal_line (NoSection want) = codes "compare: NoSection " ++ decimal want
refusal_line (NewSection got) = codes "compare: NewSection " ++ decimal got
refusal_line Memory = []
