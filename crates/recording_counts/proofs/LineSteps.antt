-- The counts of lines, one line more.
use Rattle.std.specs.Prelude.{◌≡◌, ℕ, ◌==◌, nat_eq, nat_lt, Bool, true, false, not, codes, List, [], ◌∷◌, filter, unwrap_or, is_some, length, Result, Ok, Err, OnOk, cond, if◌then◌else◌}
use Rattle.std.proofs.Common.{refl, ap, subst, ◌∙◌, arith}
use Rattle.raw_events.specs.declared.event.RawEvent.{RawEvent}
use Rattle.raw_events.specs.declared.event.LineError.{LineError}
use Rattle.raw_events.specs.Line.{Known, judged, judged_text, formed, or_bad, sender, fields_of}
use Rattle.raw_events.specs.Recording.{with_line}
use Rattle.recording_counts.specs.declared.lines.LineCounts.{LineCounts}
use Rattle.recording_counts.specs.Counted.{counted, risen}
use Rattle.recording_counts.specs.Lines.{IsRead, begins_other, given_by, is_blank_line, is_marked, is_other_line, is_unknown_line, passes, path_in, path_named, text_of, unknown_paths}
use Rattle.recording_counts.specs.Paths.{PathTable, PathsStandFor}
use Rattle.recording_counts.specs.LineTally.{LineCountsStandFor, SortsLines}
use Rattle.recording_counts.proofs.Forms.{formed_passes, read_formed}
use Rattle.recording_counts.proofs.Marks.{marked_more, marked_stays}

pub counted_more : {X : Type 0} (x : X) (xs : List X) → risen (counted xs) ≡ counted (x ∷ xs)
counted_more x xs = omega arith

-- a number that rises where the newest element passes a test
pub filter_step : {X : Type 0} (p : X → Bool) (x : X) (xs : List X) (t : Bool) (n m : ℕ) → p x ≡ t → n ≡ (if t then risen m else m) → m ≡ counted (filter p xs)
    → n ≡ counted (filter p (x ∷ xs))
filter_step p x xs true n m is e h = rw is (e ∙ ap risen h ∙ counted_more x (filter p xs))
filter_step p x xs false n m is e h = rw is (e ∙ h)

-- of two answers one is a refusal
short : {L : Type 0} (f : L → Result (List RawEvent) LineError) (refused given : L) → (IsRead (f refused) → ⊥) → (t : Bool) → IsRead (f (cond t refused given)) → f (cond t refused given) ≡ f given
short f refused given never true h = absurd (never h)
short f refused given never false h = refl

-- of three answers two are refusals
chosen : {L : Type 0} (f : L → Result (List RawEvent) LineError) (refused passed : L) → (IsRead (f refused) → ⊥) → passes (f passed) ≡ true → (t u : Bool)
    → IsRead (f (cond t refused (cond u refused passed))) → passes (f (cond t refused (cond u refused passed))) ≡ true
chosen f refused passed never is true u h = absurd (never h)
chosen f refused passed never is false true h = absurd (never h)
chosen f refused passed never is false false h = is

-- what a line that is read gives is what its text does
read_text : (devices : Known) (line : List ℕ) → IsRead (given_by devices line) → given_by devices line ≡ with_line (judged_text devices (text_of line)) 1 (Ok [])
unfolding judged
read_text devices line h = short (λ l. with_line l 1 (Ok [])) _ (judged_text devices (text_of line)) (λ k. k) (nat_lt 4096 (length line)) h

pub blank_passes : (devices : Known) (line : List ℕ) → IsRead (given_by devices line) → text_of line ≡ [] → passes (given_by devices line) ≡ true
unfolding judged_text
blank_passes devices line h e = ap passes (read_text devices line h) ∙ (rw e refl)

event_reads : (devices : Known) (line bs : List ℕ) → text_of line ≡ 91 ∷ bs → with_line (judged_text devices (text_of line)) 1 (Ok []) ≡ with_line (or_bad (formed devices bs)) 1 (Ok [])
unfolding judged_text
event_reads devices line bs e = rw e refl

pub event_formed : (devices : Known) (line bs : List ℕ) → IsRead (given_by devices line) → text_of line ≡ 91 ∷ bs → is_some (formed devices bs) ≡ true
event_formed devices line bs h e = read_formed devices bs (subst IsRead (read_text devices line h ∙ event_reads devices line bs e) h)

pub event_passes : (devices : Known) (line bs : List ℕ) → IsRead (given_by devices line) → text_of line ≡ 91 ∷ bs → passes (given_by devices line) ≡ not (is_some (sender devices (path_in bs)))
event_passes devices line bs h e = ap passes (read_text devices line h ∙ event_reads devices line bs e) ∙ formed_passes devices bs (event_formed devices line bs h e)

other_read : (devices : Known) (b : ℕ) (bs : List ℕ) → (b == 91) ≡ false → IsRead (with_line (judged_text devices (b ∷ bs)) 1 (Ok [])) → passes (with_line (judged_text devices (b ∷ bs)) 1 (Ok [])) ≡ true
unfolding judged_text
other_read devices b bs o = rw o (chosen (λ l. with_line l 1 (Ok [])) _ _ (λ k. k) refl (b == 47) (is_some (fields_of (b ∷ bs))))

pub other_passes : (devices : Known) (line : List ℕ) (b : ℕ) (bs : List ℕ) → IsRead (given_by devices line) → text_of line ≡ b ∷ bs → (b == 91) ≡ false → passes (given_by devices line) ≡ true
other_passes devices line b bs h e o =
    let is = read_text devices line h ∙ ap (λ (t : List ℕ). with_line (judged_text devices t) 1 (Ok [])) e in
    ap passes is ∙ other_read devices b bs o (subst IsRead is h)

-- what a line is, and what it does to the counts
pub record Sorted (devices : Known) (line : List ℕ) (blank other unknown : Bool) : Type 0 where
  pub blank_is : is_blank_line devices line ≡ blank
  pub other_is : is_other_line devices line ≡ other
  pub unknown_is : is_unknown_line devices line ≡ unknown

paths_step : (devices : Known) (line : List ℕ) (past : List (List ℕ)) (t : Bool) (table : PathTable) → is_unknown_line devices line ≡ t
    → PathsStandFor (if t then path_named line ∷ unknown_paths devices past else unknown_paths devices past) table → PathsStandFor (unknown_paths devices (line ∷ past)) table
paths_step devices line past true table is h = rw is h
paths_step devices line past false table is h = rw is h

module _ (devices : Known) (past : List (List ℕ)) (line : List ℕ) (old new : LineCounts) where
  pub sorts_more : (blank other unknown : Bool) → Sorted devices line blank other unknown
      → new.blank ≡ (if blank then risen old.blank else old.blank) → new.other ≡ (if other then risen old.other else old.other)
      → new.unknown ≡ (if unknown then risen old.unknown else old.unknown)
      → PathsStandFor (if unknown then path_named line ∷ unknown_paths devices past else unknown_paths devices past) new.paths
      → SortsLines devices past old → SortsLines devices (line ∷ past) new
  sorts_more blank other unknown s b o u p h = record {
    blank_are = filter_step (is_blank_line devices) line past blank new.blank old.blank s.blank_is b h.blank_are;
    other_are = filter_step (is_other_line devices) line past other new.other old.other s.other_is o h.other_are;
    unknown_are = filter_step (is_unknown_line devices) line past unknown new.unknown old.unknown s.unknown_is u h.unknown_are;
    paths_stand = paths_step devices line past unknown new.paths s.unknown_is p;
  }

  pub blank_more : LineCountsStandFor devices past old → text_of line ≡ [] → new.lines ≡ risen old.lines → new.blank ≡ risen old.blank → new.other ≡ old.other
      → new.unknown ≡ old.unknown → new.marked ≡ old.marked → new.paths ≡ old.paths → LineCountsStandFor devices (line ∷ past) new
  blank_more h e l b o u m p = record {
    lines_are = l ∙ ap risen h.lines_are ∙ counted_more line past;
    marked_is = marked_stays line past old.marked new.marked (ap begins_other e) m h.marked_is;
    sorted = λ r.
        let is = blank_passes devices line r.0 e in
        sorts_more true false false (record { blank_is = rw (is, e) refl; other_is = rw (is, e) refl; unknown_is = rw (is, e) refl }) b o u
        (rw p (h.sorted r.1).paths_stand) (h.sorted r.1);
  }

  pub other_more : LineCountsStandFor devices past old → (c : ℕ) (cs : List ℕ) → text_of line ≡ c ∷ cs → (c == 91) ≡ false → new.lines ≡ risen old.lines → new.blank ≡ old.blank
      → new.other ≡ risen old.other → new.unknown ≡ old.unknown → new.marked ≡ (if nat_eq new.lines 1 then is_marked line else old.marked)
      → new.paths ≡ old.paths → LineCountsStandFor devices (line ∷ past) new
  other_more h c cs e n l b o u m p = record {
    lines_are = l ∙ ap risen h.lines_are ∙ counted_more line past;
    marked_is = marked_more line past new.lines old.marked new.marked (l ∙ ap risen h.lines_are ∙ counted_more line past) m h.marked_is;
    sorted = λ r.
        let is = other_passes devices line c cs r.0 e n in
        sorts_more false true false (record { blank_is = rw (is, e) refl; other_is = rw (is, e, n) refl; unknown_is = rw (is, e, n) refl }) b o u
        (rw p (h.sorted r.1).paths_stand) (h.sorted r.1);
  }

  event_sorted : (text : List ℕ) (t : Bool) → text_of line ≡ 91 ∷ text → passes (given_by devices line) ≡ not t → Sorted devices line false false (not t)
  event_sorted text true e is = record { blank_is = rw is refl; other_is = rw is refl; unknown_is = rw is refl }
  event_sorted text false e is = record { blank_is = rw (is, e) refl; other_is = rw (is, e) refl; unknown_is = rw (is, e) refl }

  turned : (t : Bool) (n m : ℕ) → n ≡ (if t then m else risen m) → n ≡ (if not t then risen m else m)
  turned true n m h = h
  turned false n m h = h

  turned_paths : (t : Bool) (path : List ℕ) (paths : List (List ℕ)) (table : PathTable) → PathsStandFor (if t then paths else path ∷ paths) table → PathsStandFor (if not t then path ∷ paths else paths) table
  turned_paths true path paths table h = h
  turned_paths false path paths table h = h

  pub event_more : LineCountsStandFor devices past old → (text : List ℕ) → text_of line ≡ 91 ∷ text → new.lines ≡ risen old.lines → new.blank ≡ old.blank → new.other ≡ old.other
      → new.marked ≡ old.marked → (is_some (formed devices text) ≡ true → new.unknown ≡ (if is_some (sender devices (path_in text)) then old.unknown else risen old.unknown))
      → ((paths : List (List ℕ)) → is_some (formed devices text) ≡ true → PathsStandFor paths old.paths
      → PathsStandFor (if is_some (sender devices (path_in text)) then paths else unwrap_or (path_in text) (codes "-") ∷ paths) new.paths)
      → LineCountsStandFor devices (line ∷ past) new
  event_more h text e l b o m u p = record {
    lines_are = l ∙ ap risen h.lines_are ∙ counted_more line past;
    marked_is = marked_stays line past old.marked new.marked (ap begins_other e) m h.marked_is;
    sorted = λ r.
        let f = event_formed devices line text r.0 e in
        let t : Bool = is_some (sender devices (path_in text)) in
        let named : path_named line ≡ unwrap_or (path_in text) (codes "-") = rw e refl in
        sorts_more false false (not t) (event_sorted text t e (event_passes devices line text r.0 e)) b o (turned t new.unknown old.unknown (u f))
        (rw named (turned_paths t (unwrap_or (path_in text) (codes "-")) (unknown_paths devices past) new.paths (p (unknown_paths devices past) f (h.sorted r.1).paths_stand)))
        (h.sorted r.1);
  }

  -- the same, unless memory ran out
  pub event_ok : {T E : Type 0} (r : Result T E) → LineCountsStandFor devices past old → (text : List ℕ) → text_of line ≡ 91 ∷ text → new.lines ≡ risen old.lines → new.blank ≡ old.blank → new.other ≡ old.other
      → new.marked ≡ old.marked → (is_some (formed devices text) ≡ true → OnOk r (new.unknown ≡ (if is_some (sender devices (path_in text)) then old.unknown else risen old.unknown)))
      → ((paths : List (List ℕ)) → is_some (formed devices text) ≡ true → PathsStandFor paths old.paths
      → OnOk r (PathsStandFor (if is_some (sender devices (path_in text)) then paths else unwrap_or (path_in text) (codes "-") ∷ paths) new.paths))
      → OnOk r (LineCountsStandFor devices (line ∷ past) new)
  event_ok (Ok x) h text e l b o m u p = event_more h text e l b o m u p
  event_ok (Err x) h text e l b o m u p = tt
