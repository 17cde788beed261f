-- What slots hold after a choice, slot by slot.
use Rattle.std.specs.Prelude.{◌≡◌, ℕ, ◌+◌, ◌<◌, ◌≤◌, Bool, true, false, List, [], ◌∷◌, ◌++◌, length, take, drop, get_or}
use Rattle.std.proofs.Common.{sym, ◌∙◌, ap, refl, arith, append_assoc, set}
use Rattle.std.proofs.lemmas.List.{take_more_set, append-nil}
use Rattle.bits32.specs.Set.{is_in}
use Rattle.touch_writer.specs.declared.place.Place.{Place}
use Rattle.touch_writer.specs.declared.want.Want.{Want}
use Rattle.touch_writer.specs.Choice.{remains, arrives, placed}
use Rattle.touch_writer.specs.Search.{chosen}
use Rattle.touch_writer.proofs.Lists.{drop_item, nothing_left}

-- a new contact comes into the slot
pub settled_new : (want : List Want) (p : Place) (behind : List Place) (cs : List Bool) (news : List Want) (next come : ℕ) (n : Want) (b : Bool)
    → b ≡ true → come < length news → n ≡ get_or news come n
    → placed want (p ∷ behind) (b ∷ cs) (drop come news) (next + come) ≡ arrives n (next + come) ∷ placed want behind cs (drop (come + 1) news) (next + (come + 1))
settled_new want p behind cs news next come n b h lt is =
    let sums : next + come + 1 ≡ next + (come + 1) = omega arith in
    ap (λ x. placed want (p ∷ behind) (x ∷ cs) (drop come news) (next + come)) h
    ∙ ap (λ ns. placed want (p ∷ behind) (true ∷ cs) ns (next + come)) (drop_item news come n lt is)
    ∙ ap (λ m. arrives n (next + come) ∷ placed want behind cs (drop (come + 1) news) m) sums

-- no new contact is left
pub settled_spent : (want : List Want) (p : Place) (behind : List Place) (cs : List Bool) (news : List Want) (next come : ℕ) (b : Bool)
    → b ≡ true → length news ≤ come
    → placed want (p ∷ behind) (b ∷ cs) (drop come news) (next + come) ≡ remains want p ∷ placed want behind cs (drop come news) (next + come)
settled_spent want p behind cs news next come b h le =
    let none : drop come news ≡ [] = nothing_left news come le in
    ap (λ x. placed want (p ∷ behind) (x ∷ cs) (drop come news) (next + come)) h
    ∙ ap (λ ns. placed want (p ∷ behind) (true ∷ cs) ns (next + come)) none
    ∙ ap (λ ns. remains want p ∷ placed want behind cs ns (next + come)) (sym none)

-- no new contact comes into the slot
pub settled_old : (want : List Want) (p : Place) (behind : List Place) (cs : List Bool) (news : List Want) (next come : ℕ) (b : Bool) → b ≡ false
    → placed want (p ∷ behind) (b ∷ cs) (drop come news) (next + come) ≡ remains want p ∷ placed want behind cs (drop come news) (next + come)
settled_old want p behind cs news next come b h = ap (λ x. placed want (p ∷ behind) (x ∷ cs) (drop come news) (next + come)) h

-- one slot more
pub placed_more : (want : List Want) (places rows : List Place) (slots slot come more next : ℕ) (news : List Want) (p q : Place) (all : List Place)
    → slot < length rows → drop slot places ≡ p ∷ drop (slot + 1) places
    → ((behind : List Place) (cs : List Bool) → placed want (p ∷ behind) (is_in slot slots ∷ cs) (drop come news) (next + come)
    ≡ q ∷ placed want behind cs (drop more news) (next + more))
    → take slot rows ++ placed want (drop slot places) (chosen slots slot (drop slot places)) (drop come news) (next + come) ≡ all
    → take (slot + 1) (set rows slot q) ++ placed want (drop (slot + 1) places) (chosen slots (slot + 1) (drop (slot + 1) places)) (drop more news) (next + more) ≡ all
placed_more want places rows slots slot come more next news p q all lt e step before =
    let rest : List Place = drop (slot + 1) places in
    let cs : List Bool = chosen slots (slot + 1) rest in
    ap (λ xs. xs ++ placed want rest cs (drop more news) (next + more)) (take_more_set rows slot q lt)
    ∙ append_assoc (take slot rows) (q ∷ []) (placed want rest cs (drop more news) (next + more))
    ∙ ap (λ xs. take slot rows ++ xs) (sym (step rest cs))
    ∙ ap (λ ps. take slot rows ++ placed want ps (chosen slots slot ps) (drop come news) (next + come)) (sym e)
    ∙ before

-- all slots
pub placed_end : (want : List Want) (places rows : List Place) (slots slot m : ℕ) (ns : List Want) (all : List Place) → slot ≡ length places
    → take slot rows ++ placed want (drop slot places) (chosen slots slot (drop slot places)) ns m ≡ all → take (length places) rows ≡ all
placed_end want places rows slots slot m ns all e before =
    ap (λ n. take n rows) (sym e)
    ∙ sym (append-nil (take slot rows))
    ∙ ap (λ ps. take slot rows ++ placed want ps (chosen slots slot ps) ns m) (sym (nothing_left places slot (omega (arith, e))))
    ∙ before

pub placed_length : (want : List Want) (ps : List Place) (cs : List Bool) (ns : List Want) (next : ℕ) → length (placed want ps cs ns next) ≡ length ps
placed_length want [] cs ns next = refl
placed_length want (p ∷ ps) [] ns next = omega (arith, placed_length want ps [] ns next)
placed_length want (p ∷ ps) (false ∷ cs) ns next = omega (arith, placed_length want ps cs ns next)
placed_length want (p ∷ ps) (true ∷ cs) [] next = omega (arith, placed_length want ps cs [] next)
placed_length want (p ∷ ps) (true ∷ cs) (n ∷ ns) next = omega (arith, placed_length want ps cs ns (next + 1))
