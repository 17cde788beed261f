-- A line that is added to part by part.
use Rattle.std.proofs.Common.{◌≡◌, ◌∙◌, ◌<◌, ◌+◌, ℕ, suc, List, [], ◌∷◌, ◌++◌, codes, decimal, length, map, get_or, drop, sym, ap, subst, add-one, append_assoc, append-nil, drop-cons}
use Rattle.bits32.specs.Set.{members}
use Rattle.gesture_verifier.specs.declared.held.HeldKey.{HeldKey}
use Rattle.outside_io.specs.Trace.{Writing}
use Rattle.judge_text.specs.declared.down.HeldIds.{HeldIds}
use Rattle.judge_text.specs.declared.error.JudgeError.TheVariants.{StillDown}
use Rattle.judge_text.specs.Down.{Down}
use Rattle.judge_text.specs.Lines.{ids_text, key_text, keys_text, pointers_text, refusal_line}
use Rattle.text_output.specs.Passing.{StopsWithin, WritesUpTo}
use Rattle.text_output.specs.Together.{together}
use Rattle.text_output.proofs.Passing.{stops_more, stops_on, written_more, written_on}

-- a part was added, and then the rest
pub then_on : (before mid now : Writing) (held part rest mid_held now_held : List ℕ) → WritesUpTo before mid (held ++ part) mid_held
    → WritesUpTo mid now (mid_held ++ rest) now_held → WritesUpTo before now (held ++ (part ++ rest)) now_held
then_on before mid now held part rest mid_held now_held p q =
    written_on before mid now (held ++ (part ++ rest)) (mid_held ++ rest) now_held
    (subst (λ (xs : List ℕ). WritesUpTo before mid xs (mid_held ++ rest)) (append_assoc held part rest) (written_more before mid (held ++ part) mid_held rest p)) q

-- a part was added, and then a write failed
pub then_stops : (before mid now : Writing) (held part rest mid_held : List ℕ) → WritesUpTo before mid (held ++ part) mid_held
    → StopsWithin mid now (mid_held ++ rest) → StopsWithin before now (held ++ (part ++ rest))
then_stops before mid now held part rest mid_held p s =
    stops_on before mid now (held ++ (part ++ rest)) (mid_held ++ rest)
    (subst (λ (xs : List ℕ). WritesUpTo before mid xs (mid_held ++ rest)) (append_assoc held part rest) (written_more before mid (held ++ part) mid_held rest p)) s

-- a write failed where the first part was added
pub first_stops : (before now : Writing) (held part rest : List ℕ) → StopsWithin before now (held ++ part) → StopsWithin before now (held ++ (part ++ rest))
first_stops before now held part rest s =
    subst (λ (xs : List ℕ). StopsWithin before now xs) (append_assoc held part rest) (stops_more before now (held ++ part) rest s)

pub two_parts : (a b x y : List ℕ) → a ≡ x → b ≡ y → together (a ∷ b ∷ []) ≡ x ++ y
two_parts a b x y p q =
    ap (λ (xs : List ℕ). a ++ xs) (append-nil b) ∙ ap (λ (xs : List ℕ). xs ++ b) p ∙ ap (λ (xs : List ℕ). x ++ xs) q

pub four_parts : (a b c d x y : List ℕ) → b ≡ x → d ≡ y → together (a ∷ b ∷ c ∷ d ∷ []) ≡ a ++ (x ++ (c ++ y))
four_parts a b c d x y p q =
    ap (λ (xs : List ℕ). a ++ (b ++ (c ++ xs))) (append-nil d ∙ q) ∙ ap (λ (xs : List ℕ). a ++ (xs ++ (c ++ y))) p

next_of_drop : {X : Type 0} (xs : List X) (i : ℕ) (x : X) → i < length xs → x ≡ get_or xs i x → drop i xs ≡ x ∷ drop (i + 1) xs
next_of_drop xs i x within is = drop-cons xs i x within ∙ ap (λ y. y ∷ drop (suc i) xs) (sym is) ∙ ap (λ n. x ∷ drop n xs) (sym (add-one i))

-- the devices on which ids are down, as contracts see them
abbrev pub seen : List HeldIds → List (ℕ × List ℕ)
seen held = map (λ h. (h.device, members h.ids)) held

-- the pointers that are down on a device
abbrev pub held_text : HeldIds → List ℕ
held_text h = codes " " ++ (decimal h.device ++ ids_text (codes ":") (members h.ids))

-- the next device, and the others
pub pointers_left : (ps : List HeldIds) (i : ℕ) (h : HeldIds) → i < length ps → h ≡ get_or ps i h
    → pointers_text (seen (drop i ps)) ≡ held_text h ++ pointers_text (seen (drop (i + 1) ps))
pointers_left ps i h within is = ap (λ qs. pointers_text (seen qs)) (next_of_drop ps i h within is)

-- the next key, and the others
pub keys_left : (ks : List HeldKey) (i : ℕ) (k : HeldKey) → i < length ks → k ≡ get_or ks i k → keys_text (drop i ks) ≡ key_text k ++ keys_text (drop (i + 1) ks)
keys_left ks i k within is = ap keys_text (next_of_drop ks i k within is)

regroup : (a n p k e : List ℕ) → (a ++ n) ++ (p ++ (k ++ e)) ≡ (a ++ (n ++ (p ++ k))) ++ e
regroup a n p k e =
    append_assoc a n (p ++ (k ++ e))
    ∙ ap (λ (xs : List ℕ). a ++ (n ++ xs)) (sym (append_assoc p k e))
    ∙ ap (λ (xs : List ℕ). a ++ xs) (sym (append_assoc n (p ++ k) e))
    ∙ sym (append_assoc a (n ++ (p ++ k)) e)

-- what precedes what is down
abbrev pub head_text : ℕ → List ℕ
head_text number = codes "stream: StillDown " ++ decimal number

-- what follows it
abbrev pub tail_text : Down → List ℕ
tail_text down = keys_text down.keys ++ codes "\n"

-- the line in its parts
pub still_line : (number : ℕ) (down : Down) → head_text number ++ (pointers_text down.pointers ++ tail_text down) ≡ refusal_line (StillDown number down) ++ codes "\n"
unfolding refusal_line
still_line number down = regroup (codes "stream: StillDown ") (decimal number) (pointers_text down.pointers) (keys_text down.keys) (codes "\n")
