-- Changes of the focus, one after the other.
use Rattle.std.proofs.Common.{◌≡◌, ℕ, List, [], ◌++◌, refl, ap, ◌∙◌, append_assoc, append-nil}
use Rattle.std.specs.Prelude.{codes}
use Rattle.std.specs.Fmt.{decimal}
use Rattle.dispatch_history.specs.History.{History}
use Rattle.why_text.specs.Text.{change_words, focus_words}
use Rattle.why_lines.specs.declared.focuses.Focuses.{Focuses}
use Rattle.why_lines.specs.Focusing.{AreFocuses}
use Rattle.why_lines.specs.Growing.{with_lines}
use Rattle.why_lines.proofs.Growing.{more_lines}

-- the lines of four displays, and then those of the window that keys go to
pub five_changes : (t : ℕ) (a b c d e : List (List ℕ)) (text : List ℕ)
    → with_lines t e (with_lines t d (with_lines t c (with_lines t b (with_lines t a text))))
    ≡ with_lines t ((a ++ (b ++ (c ++ (d ++ [])))) ++ e) text
five_changes t a b c d e text =
    ap (λ xs. with_lines t e (with_lines t d (with_lines t c xs))) (more_lines t a b text)
    ∙ ap (λ xs. with_lines t e (with_lines t d xs)) (more_lines t (a ++ b) c text)
    ∙ ap (with_lines t e) (more_lines t ((a ++ b) ++ c) d text)
    ∙ more_lines t (((a ++ b) ++ c) ++ d) e text
    ∙ ap (λ xs. with_lines t (xs ++ e) text) (grouped a b c d)
  where
    grouped : (a b c d : List (List ℕ)) → ((a ++ b) ++ c) ++ d ≡ a ++ (b ++ (c ++ (d ++ [])))
    grouped a b c d = simp (append_assoc, append-nil)

-- the lines of the changes from some windows to others
abbrev pub changes_of : Focuses → Focuses → List (List ℕ)
changes_of f g =
    (change_words (codes "focus " ++ decimal 0 ++ codes " ") f.first g.first
    ++ (change_words (codes "focus " ++ decimal 1 ++ codes " ") f.second g.second
    ++ (change_words (codes "focus " ++ decimal 2 ++ codes " ") f.third g.third
    ++ (change_words (codes "focus " ++ decimal 3 ++ codes " ") f.fourth g.fourth ++ []))))
    ++ change_words (codes "target ") f.target g.target

pub same_changes : (h k : History) (f g : Focuses) → AreFocuses h f → AreFocuses k g → changes_of f g ≡ focus_words h k
same_changes h k f g before after =
    rw (
      before.first_is,
      before.second_is,
      before.third_is,
      before.fourth_is,
      before.target_is,
      after.first_is,
      after.second_is,
      after.third_is,
      after.fourth_is,
      after.target_is,
    )
    refl
