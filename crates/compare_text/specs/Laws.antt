-- Laws of comparing.
use Rattle.std.specs.Prelude.{◌≡◌, ◌≤◌, ◌↔◌, ℕ, true, List, [], ◌∷◌, Some, None, Ok}
use Rattle.input_types.specs.declared.message.Message.{Message}
use Rattle.compare_text.specs.declared.comparison.Comparison.{Comparison}
use Rattle.compare_text.specs.declared.comparison.Tolerance.{Tolerance}
use Rattle.compare_text.specs.Agreement.{agree}
use Rattle.compare_text.specs.Compared.{compared, fault_of}
use Rattle.compare_text.specs.Differing.{difference_of}
use Rattle.compare_text.specs.Pairs.{looked_at, of_channel}
use Rattle.compare_text.specs.Points.{Section, points_in}

-- two lists are equally long, and their elements match in order
abbrev pub Match : {X : Type 0} → (X → X → Type 0) → List X → List X → Type 0
Match M [] [] = Unit {0}
Match M (x ∷ xs) (y ∷ ys) = M x y × Match M xs ys
Match M [] (y ∷ ys) = ⊥
Match M (x ∷ xs) [] = ⊥

-- the points of two sections are equally many and agree in order
abbrev pub SectionsAgree : Comparison → Section → Section → Type 0
SectionsAgree c w g =
    Match (λ a b. agree c.tolerance.us c.tolerance.pixels a.1 b.1 ≡ true) (points_in c.each_move w.messages) (points_in c.each_move g.messages)

-- The first section of each channel with the first, the second with the second: there is one for each, and they agree.
-- Sections that are looked at without their channels are of one.
abbrev pub FilesAgree : Comparison → (want got : List Section) → Type 0
FilesAgree c want got =
    (id : ℕ)
    → Match (SectionsAgree c) (of_channel (Some id) (looked_at c.want_channel c.got_channel want)) (of_channel (Some id) (looked_at c.got_channel c.want_channel got))

-- Two points differ in nothing exactly if they agree.
abbrev pub DifferenceLaw : Type 0
DifferenceLaw = (us pixels : ℕ) (want got : Message) → (difference_of us pixels want got ≡ None) ↔ (agree us pixels want got ≡ true)

-- There is no fault exactly if the files agree.
abbrev pub AgreementLaw : Type 0
AgreementLaw = (c : Comparison) (want got : List Section) → (fault_of c want got ≡ None) ↔ FilesAgree c want got

-- Sections agree with themselves, whatever the tolerances, if the same channel is named for both files, or none.
abbrev pub ReflexiveLaw : Type 0
ReflexiveLaw = (c : Comparison) (sections : List Section) → c.want_channel ≡ c.got_channel → fault_of c sections sections ≡ None

-- the same with the channels exchanged
abbrev pub exchanged : Comparison → Comparison
exchanged c = record { tolerance = c.tolerance; want_channel = c.got_channel; got_channel = c.want_channel; each_move = c.each_move }

-- If some sections agree with others, the others agree with them.
abbrev pub SymmetricLaw : Type 0
SymmetricLaw = (c : Comparison) (want got : List Section) → fault_of c want got ≡ None → fault_of (exchanged c) got want ≡ None

-- the same within other tolerances
abbrev pub within : Tolerance → Comparison → Comparison
within t c = record { tolerance = t; want_channel = c.want_channel; got_channel = c.got_channel; each_move = c.each_move }

-- Texts that agree within a tolerance agree within every wider one, with the same answer.
abbrev pub MonotoneLaw : Type 0
MonotoneLaw =
    (c : Comparison) (more : Tolerance) (want got : List Section) (text : List ℕ) → c.tolerance.us ≤ more.us → c.tolerance.pixels ≤ more.pixels
    → compared c want got ≡ Ok text → compared (within more c) want got ≡ Ok text
