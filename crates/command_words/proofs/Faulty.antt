-- Words have a fault exactly where they are of no form.
use Rattle.std.proofs.Common.{◌≡◌, ℕ, List, [], ◌∷◌, Bool, true, false, Option, Some, None, refl, ap, sym, ◌∙◌}
use Rattle.std.specs.Prelude.{is_none, is_some}
use Rattle.help_text.specs.declared.page.Name.{Name}
use Rattle.help_text.specs.declared.page.Name.TheVariants.{Replay, Race, Check, Verify, Work, Batch, Hover, Emit, Inspect, Why, Judge, Compare}
use Rattle.help_text.specs.declared.page.Page.{Page}
use Rattle.command_words.specs.Fault.{behind_fault, fault_of, named_fault, options_fault, stood}
use Rattle.command_words.specs.Forms.{all_own, behind, form_of, said_by, ◌>>=◌}
use Rattle.command_words.specs.Given.{Given}
use Rattle.command_words.specs.Laws.{FaultLaw}
use Rattle.command_words.specs.Names.{asks_help, named, page_of}
use Rattle.command_words.specs.Options.{options_of}
use Rattle.command_words.specs.Spelled.{spelled_of}
use Rattle.command_words.proofs.Cleared.{cleared, fine, read_all}
use Rattle.command_words.proofs.Made.{made}

-- one is there exactly where another is not
other : {A B : Type 0} (x : Option A) (y : Option B) → is_none x ≡ is_some y → is_some x ≡ is_none y
other None None h = sym h
other None (Some b) h = refl
other (Some a) None h = refl
other (Some a) (Some b) h = sym h

fine_said : (name : Name) (o : Option (List Given)) → fine name (stood []) o ≡ is_some (o >>= said_by name)
fine_said name None = refl
fine_said name (Some os) = go (all_own name os) refl
  where
    go : (t : Bool) → all_own name os ≡ t → fine name (stood []) (Some os) ≡ is_some (said_by name os)
    go true e = rw e (sym (made name os))
    go false e = rw e refl

behind_faulty : (name : Name) (words : List (List ℕ)) → is_some (behind_fault name words) ≡ is_none (behind name words)
behind_faulty name words = go (asks_help words) refl
  where
    go : (t : Bool) → asks_help words ≡ t → is_some (behind_fault name words) ≡ is_none (behind name words)
    go true e = rw e refl
    go false e = rw e (other (options_fault name [] (spelled_of words)) (options_of words >>= said_by name)
        (cleared name [] (spelled_of words) ∙ (ap (fine name (stood [])) (sym (read_all words)) ∙ fine_said name (options_of words))))

named_faulty : (word : List ℕ) (n : Option Name) (words : List (List ℕ)) → is_some (named_fault word n words) ≡ is_none (n >>= λ name. behind name words)
named_faulty word None words = refl
named_faulty word (Some name) words = behind_faulty name words

-- the name of a command alone lacks an option
bare_faulty : (name : Name) → is_some (behind_fault name []) ≡ true
bare_faulty Replay = refl
bare_faulty Race = refl
bare_faulty Check = refl
bare_faulty Verify = refl
bare_faulty Work = refl
bare_faulty Batch = refl
bare_faulty Hover = refl
bare_faulty Emit = refl
bare_faulty Inspect = refl
bare_faulty Why = refl
bare_faulty Judge = refl
bare_faulty Compare = refl

alone_faulty : (word : List ℕ) (n : Option Name) → is_some (named_fault word n []) ≡ true
alone_faulty word None = refl
alone_faulty word (Some name) = bare_faulty name

pub same_faulty : FaultLaw
unfolding form_of fault_of
same_faulty [] = refl
same_faulty (word ∷ []) = go (page_of word) refl
  where
    go : (p : Option Page) → page_of word ≡ p → is_some (fault_of (word ∷ [])) ≡ is_none (form_of (word ∷ []))
    go None e = rw e (alone_faulty word (named word))
    go (Some page) e = rw e refl
same_faulty (word ∷ next ∷ words) = named_faulty word (named word) (next ∷ words)
