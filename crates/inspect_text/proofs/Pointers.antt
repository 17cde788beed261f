-- The pointers that are still down.
use Rattle.std.proofs.Common.{◌≡◌, ℕ, ◌-◌, ◌≤◌, List, [], ◌∷◌, ◌++◌, length, map, take, drop, get_or, Some, sym, ap, ◌∙◌, arith, append_assoc}
use Rattle.std.specs.Prelude.{codes}
use Rattle.std.specs.Fmt.{decimal}
use Rattle.std.proofs.lemmas.List.{take_rest}
use Rattle.device_reader.specs.declared.pointer_ids.assigned.Held.{Held}
use Rattle.inspect_text.specs.Hints.{behind_commas, hint_front, hint_line, still_down}
use Rattle.inspect_text.proofs.Scans.{joined_first}

-- their ids
abbrev pub ids : List Held → List ℕ
ids hs = map (λ h. h.id) hs

-- the first one, and those behind it
pub pointers_down : (hs : List Held) (first : Held) → 1 ≤ length hs → first ≡ get_or hs 0 first
    → still_down (ids hs) ≡ Some ((codes "still down " ++ decimal first.id) ++ behind_commas (ids (take (length hs - 1) (drop 1 hs))))
pointers_down [] first some is = absurd (omega (arith, some))
pointers_down (h ∷ hs) first some is =
    ap (λ xs. Some (codes "still down " ++ xs)) (joined_first h.id (ids hs))
    ∙ ap Some (sym (append_assoc (codes "still down ") (decimal h.id) (behind_commas (ids hs))))
    ∙ ap (λ x. Some ((codes "still down " ++ decimal x.id) ++ behind_commas (ids hs))) (sym is)
    ∙ ap (λ rest. Some ((codes "still down " ++ decimal first.id) ++ behind_commas (ids rest))) (sym (take_rest (h ∷ hs) 1))

-- their line, part by part
pub pointers_line : (text : List ℕ) (device n : ℕ) (hs : List Held) (first : Held) → 1 ≤ length hs → first ≡ get_or hs 0 first → n ≡ first.id
    → (((text ++ hint_front device) ++ (codes "still down " ++ decimal n)) ++ behind_commas (ids (take (length hs - 1) (drop 1 hs)))) ++ codes "\n"
    ≡ text ++ hint_line device (still_down (ids hs))
pointers_line text device n hs first some is same =
    ap (λ k. (((text ++ hint_front device) ++ (codes "still down " ++ decimal k)) ++ rest) ++ codes "\n") same
    ∙ regroup text (hint_front device) (codes "still down " ++ decimal first.id) rest (codes "\n")
    ∙ ap (λ o. text ++ hint_line device o) (sym (pointers_down hs first some is))
  where
    rest : List ℕ
    rest = behind_commas (ids (take (length hs - 1) (drop 1 hs)))

    regroup : (a b c d e : List ℕ) → (((a ++ b) ++ c) ++ d) ++ e ≡ a ++ ((b ++ (c ++ d)) ++ e)
    regroup a b c d e = simp append_assoc
