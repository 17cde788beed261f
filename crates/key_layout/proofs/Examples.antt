-- Layouts, worked out.
use Rattle.std.specs.Prelude.{◌≡◌, codes, ◌++◌, [], ◌∷◌, Ok, Err, get_or, replicate, refl}
use Rattle.std.proofs.Common.{arith}
use Rattle.std.proofs.lemmas.List.{get_or-replicate}
use Rattle.key_layout.specs.declared.error.LayoutError.TheVariants.{BadLine, BadName, Twice}
use Rattle.key_layout.specs.KeyNames.{code_of_name, key_table}
use Rattle.key_layout.specs.Layout.{code_at, layout_of}
use Rattle.key_layout.specs.Low.{IsLow}
use Rattle.key_layout.specs.Line.{key_said, line_said, said}
use Rattle.key_layout.specs.Text.{behind_word, number, scan_of, without_comment, word}

pub one_key : layout_of (codes "key 115 VOLUME_UP") ≡ Ok ((115, 24) ∷ [])
unfolding layout_of line_said said key_said word behind_word number scan_of without_comment code_of_name key_table
one_key = refl

-- lines that end in a carriage return and a newline, hexadecimal digits, a flag, a comment, and keys in rising scan code
pub two_keys : layout_of (codes "key 42 SHIFT_LEFT" ++ 13 ∷ 10 ∷ codes "key 0x1E A FUNCTION # and a comment") ≡ Ok ((30, 29) ∷ (42, 59) ∷ [])
unfolding layout_of line_said said key_said word behind_word number scan_of without_comment code_of_name key_table
two_keys = refl

-- lines that are not about keys
pub passed_over : layout_of (codes "# axis" ++ 10 ∷ 10 ∷ codes "axis 0x00 X" ++ 10 ∷ codes "key usage" ++ 10 ∷ codes "led 0x00 NUM_LOCK") ≡ Ok []
unfolding layout_of line_said said key_said word behind_word number scan_of without_comment code_of_name key_table
passed_over = refl

pub no_number : layout_of (codes "key x HOME") ≡ Err (BadLine 1)
unfolding layout_of line_said said key_said word behind_word number scan_of without_comment code_of_name key_table
no_number = refl

pub capital_x : layout_of (codes "key 1 A" ++ 10 ∷ codes "key 0X2 B") ≡ Err (BadLine 2)
unfolding layout_of line_said said key_said word behind_word number scan_of without_comment code_of_name key_table
capital_x = refl

pub no_name : layout_of (codes "key 1") ≡ Err (BadLine 1)
unfolding layout_of line_said said key_said word behind_word number scan_of without_comment code_of_name key_table
no_name = refl

-- no newline ends the line, so its carriage return is part of the name
pub return_stays : layout_of (codes "key 30 A" ++ 13 ∷ []) ≡ Err (BadName 1)
unfolding layout_of line_said said key_said word behind_word number scan_of without_comment code_of_name key_table
return_stays = refl

-- a name without a code uses up its scan code all the same
pub unknown_name_twice : layout_of (codes "key 5 NO_SUCH_KEY" ++ 10 ∷ codes "key 0005 B") ≡ Err (Twice 2 5)
unfolding layout_of line_said said key_said word behind_word number scan_of without_comment code_of_name key_table
unknown_name_twice = refl

pub greatest_scan_code : layout_of (codes "key 65535 SPACE" ++ 10 ∷ codes "key 65536 SPACE") ≡ Err (BadLine 2)
unfolding layout_of line_said said key_said word behind_word number scan_of without_comment code_of_name key_table
greatest_scan_code = refl

-- a scan code without a line has key code 0
pub absent : code_at ((30, 29) ∷ (42, 59) ∷ []) 31 ≡ 0
absent = refl

-- ---- the table of low scan codes

-- without lines each of its 256 places has 0
pub no_lines : IsLow [] (replicate 256 0)
no_lines = record { whole = refl; each = λ scan lt. get_or-replicate 256 scan 0 0 lt }

-- with the line "key 30 A" there are 30 places with 0, that of A, and 225 more with 0
pub place_of_a : get_or (replicate 30 0 ++ 29 ∷ replicate 225 0) 30 0 ≡ code_at ((30, 29) ∷ []) 30
place_of_a = refl

pub place_behind_a : get_or (replicate 30 0 ++ 29 ∷ replicate 225 0) 31 0 ≡ code_at ((30, 29) ∷ []) 31
place_behind_a = refl

-- a table that has 0 in the place of A is not that of the line, and one with a place less is no table
pub a_left_out : IsLow ((30, 29) ∷ []) (replicate 256 0) → ⊥
a_left_out h = omega (arith, h.each 30 (omega arith))

pub too_short : IsLow [] (replicate 255 0) → ⊥
too_short h = omega (arith, h.whole)
