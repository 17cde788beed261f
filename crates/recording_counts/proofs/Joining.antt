-- Bytes with more behind them, by their newlines.
use Rattle.std.proofs.Common.{◌≡◌, ℕ, ◌==◌, cond, true, false, List, [], ◌∷◌, ◌++◌, length, reverse, Result, OnOk, refl, ap, sym, subst, ◌∙◌}
use Rattle.std.proofs.lemmas.List.{reverse-append, append_assoc}
use Rattle.raw_events.specs.Line.{Known}
use Rattle.raw_events.specs.Pieces.{Parts, parts, with_byte, last_line}
use Rattle.raw_events.specs.Recording.{line_len, lines_of}
use Rattle.raw_events.proofs.Parts.{lines_are, begun_unended}
use Rattle.recording_counts.specs.declared.lines.LineCounts.{LineCounts}
use Rattle.recording_counts.specs.LineTally.{LineCountsStandFor, LineTallyStandsFor}
use Rattle.recording_counts.proofs.Oks.{both_ok}

-- these lines, and what a piece makes of the line that has begun
abbrev pub joined : Parts → List ℕ → Parts
joined p piece = record { ended = p.ended ++ (parts (p.begun ++ piece)).ended; begun = (parts (p.begun ++ piece)).begun }

byte_more : (b : ℕ) (lines : List (List ℕ)) (begun piece : List ℕ) → (b == 10) ≡ false
    → with_byte b (lines ++ (parts (begun ++ piece)).ended) (parts (begun ++ piece)).begun ≡ joined (with_byte b lines begun) piece
byte_more b [] begun piece k = rw k refl
byte_more b (line ∷ lines) begun piece k = refl

pub parts_more : (bs piece : List ℕ) → parts (bs ++ piece) ≡ joined (parts bs) piece
parts_more [] piece = refl
parts_more (b ∷ bs) piece =
    (elim (b == 10) as (λ v. (b == 10) ≡ v
    → cond v (record { ended = [] ∷ (parts (bs ++ piece)).ended; begun = (parts (bs ++ piece)).begun }) (with_byte b (parts (bs ++ piece)).ended (parts (bs ++ piece)).begun)
    ≡ joined (cond v (record { ended = [] ∷ (parts bs).ended; begun = (parts bs).begun }) (with_byte b (parts bs).ended (parts bs).begun)) piece) [
      | true ↦ λ k. rw (parts_more bs piece) refl
      | false ↦ λ k. rw (parts_more bs piece) (byte_more b (parts bs).ended (parts bs).begun piece k)
    ]) refl

-- the lines that a piece ends behind those before, the newest first
pub lines_more : (bs piece : List ℕ) → reverse (parts ((parts bs).begun ++ piece)).ended ++ reverse (parts bs).ended ≡ reverse (parts (bs ++ piece)).ended
lines_more bs piece =
    sym (reverse-append (parts bs).ended (parts ((parts bs).begun ++ piece)).ended) ∙ ap (λ (p : Parts). reverse p.ended) (sym (parts_more bs piece))

-- a line in front of those behind it
pub lines_behind : (line : List ℕ) (lines past : List (List ℕ)) → reverse lines ++ line ∷ past ≡ reverse (line ∷ lines) ++ past
lines_behind line lines past = sym (ap (λ ls. ls ++ past) (reverse-append (line ∷ []) lines) ∙ append_assoc (reverse lines) (line ∷ []) past)

last_reversed : (begun : List ℕ) → reverse (last_line begun) ≡ last_line begun
last_reversed [] = refl
last_reversed (b ∷ bs) = refl

-- all lines, the newest first
pub all_lines : (bs : List ℕ) → last_line (parts bs).begun ++ reverse (parts bs).ended ≡ reverse (lines_of bs)
all_lines bs =
    ap (λ ls. ls ++ reverse (parts bs).ended) (sym (last_reversed (parts bs).begun))
    ∙ sym (reverse-append (parts bs).ended (last_line (parts bs).begun)) ∙ ap (λ ls. reverse ls) (sym (lines_are bs))

-- a piece was taken, unless memory ran out
pub took : {T E : Type 0} (r : Result T E) (devices there lent : Known) (bytes piece begun after : List ℕ) (old new : LineCounts) → there ≡ devices → lent ≡ devices
    → begun ≡ (parts bytes).begun → LineCountsStandFor devices (reverse (parts bytes).ended) old
    → ((past : List (List ℕ)) → line_len begun ≡ length begun → LineCountsStandFor lent past old → OnOk r (LineCountsStandFor lent (reverse (parts (begun ++ piece)).ended ++ past) new))
    → (line_len begun ≡ length begun → OnOk r (after ≡ (parts (begun ++ piece)).begun))
    → OnOk r (LineTallyStandsFor devices (bytes ++ piece) (record { devices = there; begun = after; counts = new }))
took r devices there lent bytes piece begun after old new k m b h counts ends =
    let unended : line_len begun ≡ length begun = subst (λ (bs : List ℕ). line_len bs ≡ length bs) (sym b) (begun_unended bytes) in
    both_ok r
    (λ l a. record {
      devices_are = k;
      begun_is = a ∙ ap (λ bs. (parts (bs ++ piece)).begun) b ∙ ap (λ (p : Parts). p.begun) (sym (parts_more bytes piece));
      lines_stand = subst (λ (d : Known). LineCountsStandFor d (reverse (parts (bytes ++ piece)).ended) new) m
          (subst (λ (ls : List (List ℕ)). LineCountsStandFor lent ls new) (ap (λ bs. reverse (parts (bs ++ piece)).ended ++ reverse (parts bytes).ended) b ∙ lines_more bytes piece) l);
    })
    (counts (reverse (parts bytes).ended) unended (subst (λ (d : Known). LineCountsStandFor d (reverse (parts bytes).ended) old) (sym m) h))
    (ends unended)
