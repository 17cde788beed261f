-- Consecutive writes: what each leaves is passed on.
use Rattle.std.specs.Prelude.{Result, Ok, Err, OnOk, OnErr}
use Rattle.std.proofs.Common.{◌≡◌, ◌∙◌, ◌<◌, ◌≤◌, ℕ, List, [], ◌∷◌, ◌++◌, length, take, drop, refl, sym, ap, subst, append_assoc, append-nil}
use Rattle.std.proofs.lemmas.List.{take-append-drop}
use Rattle.outside_io.specs.Trace.{Write, Writing}
use Rattle.text_pieces.specs.Long.{AreLong}
use Rattle.text_pieces.proofs.Longer.{long_front}
use Rattle.text_output.specs.Passing.{PassAll, Passes, StopsPiece, StopsText, StopsWithin, WritesAll, WritesPiece, WritesText, WritesUpTo}
use Rattle.text_output.specs.Together.{together}

-- what holds if a call ended in this way
pub on_err_any : {A E : Type 0} (r : Result A E) (P : Type 0) → P → OnErr r P
on_err_any (Ok x) P h = tt
on_err_any (Err x) P h = h

pub on_ok_map : {A E : Type 0} (r : Result A E) (P Q : Type 0) → (P → Q) → OnOk r P → OnOk r Q
on_ok_map (Ok x) P Q f h = f h
on_ok_map (Err x) P Q f h = h

pub on_err_map : {A E : Type 0} (r : Result A E) (P Q : Type 0) → (P → Q) → OnErr r P → OnErr r Q
on_err_map (Ok x) P Q f h = h
on_err_map (Err x) P Q f h = f h

together_append : (ps qs : List (List ℕ)) → together (ps ++ qs) ≡ together ps ++ together qs
together_append [] qs = refl
together_append (p ∷ ps) qs = ap (λ (xs : List ℕ). p ++ xs) (together_append ps qs) ∙ sym (append_assoc p (together ps) (together qs))

-- writes of a piece, and then writes of what they left
passes_on : (piece mid left : List ℕ) (ws vs : List Write) → Passes piece ws mid → Passes mid vs left → Passes piece (ws ++ vs) left
passes_on piece mid left [] vs p q = subst (λ (xs : List ℕ). Passes xs vs left) (sym p) q
passes_on piece mid left (w ∷ ws) vs p q = (p.0, (p.1.0, (p.1.1.0, passes_on (drop w.count piece) mid left ws vs p.1.1.1 q)))

-- writes of pieces, and then of further ones
all_on : (ps qs : List (List ℕ)) (ws vs : List Write) → PassAll ps ws → PassAll qs vs → PassAll (ps ++ qs) (ws ++ vs)
all_on [] qs ws vs p q = subst (λ (xs : List Write). PassAll qs (xs ++ vs)) (sym p) q
all_on (p ∷ ps) qs ws vs h q = (
  h.0,
  h.1 ++ vs,
  ap (λ (xs : List Write). xs ++ vs) h.2 ∙ append_assoc h.0 h.1 vs,
  h.3,
  all_on ps qs h.1 vs h.4 q,
)

-- before the first write all is left
pub none_of_piece : (w : Writing) (piece left : List ℕ) → piece ≡ left → WritesPiece w w piece left
none_of_piece w piece left is =
    record { taken = []; parts = is; took = sym (append-nil w.took); asked = []; writes = sym (append-nil w.writes); passes = is }

pub none_written : (w : Writing) (text left : List ℕ) → text ≡ left → WritesUpTo w w text left
none_written w text left is =
    record { pieces = []; parts = is; took = sym (append-nil w.took); asked = []; writes = sym (append-nil w.writes); passes = refl }

-- a piece, and then what is left of it
pub piece_on : (before mid now : Writing) (piece rest left : List ℕ) → WritesPiece before mid piece rest → WritesPiece mid now rest left
    → WritesPiece before now piece left
piece_on before mid now piece rest left p q =
    record {
      taken = p.taken ++ q.taken;
      parts = p.parts ∙ ap (λ (xs : List ℕ). p.taken ++ xs) q.parts ∙ sym (append_assoc p.taken q.taken left);
      took = q.took ∙ ap (λ (xs : List ℕ). xs ++ q.taken) p.took ∙ append_assoc before.took p.taken q.taken;
      asked = p.asked ++ q.asked;
      writes = q.writes ∙ ap (λ (xs : List Write). xs ++ q.asked) p.writes ∙ append_assoc before.writes p.asked q.asked;
      passes = passes_on piece rest left p.asked q.asked p.passes q.passes;
    }

-- a text, and then what is left of it
pub written_on : (before mid now : Writing) (text rest left : List ℕ) → WritesUpTo before mid text rest → WritesUpTo mid now rest left
    → WritesUpTo before now text left
written_on before mid now text rest left p q =
    record {
      pieces = p.pieces ++ q.pieces;
      parts = p.parts
          ∙ ap (λ (xs : List ℕ). together p.pieces ++ xs) q.parts
          ∙ sym (append_assoc (together p.pieces) (together q.pieces) left)
          ∙ ap (λ (xs : List ℕ). xs ++ left) (sym (together_append p.pieces q.pieces));
      took = q.took
          ∙ ap (λ (xs : List ℕ). xs ++ together q.pieces) p.took
          ∙ append_assoc before.took (together p.pieces) (together q.pieces)
          ∙ ap (λ (xs : List ℕ). before.took ++ xs) (sym (together_append p.pieces q.pieces));
      asked = p.asked ++ q.asked;
      writes = q.writes ∙ ap (λ (xs : List Write). xs ++ q.asked) p.writes ∙ append_assoc before.writes p.asked q.asked;
      passes = all_on p.pieces q.pieces p.asked q.asked p.passes q.passes;
    }

-- a part of a text, with more behind it
pub written_more : (before now : Writing) (text left rest : List ℕ) → WritesUpTo before now text left → WritesUpTo before now (text ++ rest) (left ++ rest)
written_more before now text left rest p =
    record {
      pieces = p.pieces;
      parts = ap (λ (xs : List ℕ). xs ++ rest) p.parts ∙ append_assoc (together p.pieces) left rest;
      took = p.took;
      asked = p.asked;
      writes = p.writes;
      passes = p.passes;
    }

-- a piece that was written whole is a text that was
pub piece_written : (before now : Writing) (piece : List ℕ) → WritesPiece before now piece [] → WritesAll before now piece
piece_written before now piece p =
    let whole : piece ≡ together (piece ∷ []) = sym (append-nil piece) in
    let taken : p.taken ≡ together (piece ∷ []) = sym (append-nil p.taken) ∙ sym p.parts ∙ whole in
    record {
      pieces = piece ∷ [];
      parts = whole ∙ sym (append-nil (together (piece ∷ [])));
      took = p.took ∙ ap (λ (xs : List ℕ). before.took ++ xs) taken;
      asked = p.asked;
      writes = p.writes;
      passes = (p.asked, [], sym (append-nil p.asked), p.passes, refl);
    }

-- one write, which was handed all of it and took some of it
pub one_write : (before now : Writing) (bytes : List ℕ) (n : ℕ) → 0 < n → n ≤ length bytes
    → now ≡ record { took = before.took ++ take n bytes; writes = before.writes ++ record { handed = bytes; count = n } ∷ [] }
    → WritesPiece before now bytes (drop n bytes)
one_write before now bytes n some fits is =
    record {
      taken = take n bytes;
      parts = sym (take-append-drop n bytes);
      took = ap (λ (w : Writing). w.took) is;
      asked = record { handed = bytes; count = n } ∷ [];
      writes = ap (λ (w : Writing). w.writes) is;
      passes = (refl, (some, (fits, refl)));
    }

-- one write that failed, which was handed all that was left of a piece
pub one_failed : (before mid now : Writing) (piece left : List ℕ) → WritesPiece before mid piece left → 0 < length left
    → now ≡ record { took = mid.took ++ take 0 left; writes = mid.writes ++ record { handed = left; count = 0 } ∷ [] }
    → StopsPiece before now piece
one_failed before mid now piece left begins some is =
    record {
      rest = left;
      until = mid;
      begins = begins;
      some = some;
      took = ap (λ (w : Writing). w.took) is ∙ append-nil mid.took;
      writes = ap (λ (w : Writing). w.writes) is;
    }

-- a text of one piece
pub piece_stops : (before now : Writing) (piece : List ℕ) → StopsPiece before now piece → StopsWithin before now piece
piece_stops before now piece s =
    record {
      left = piece;
      mid = before;
      goes = none_written before piece piece refl;
      piece = piece;
      behind = [];
      parts = sym (append-nil piece);
      stops = s;
    }

-- a failure within what is left, and within a text with more behind it
pub stops_on : (before mid now : Writing) (text rest : List ℕ) → WritesUpTo before mid text rest → StopsWithin mid now rest → StopsWithin before now text
stops_on before mid now text rest p s =
    record {
      left = s.left;
      mid = s.mid;
      goes = written_on before mid s.mid text rest s.left p s.goes;
      piece = s.piece;
      behind = s.behind;
      parts = s.parts;
      stops = s.stops;
    }

pub stops_more : (before now : Writing) (text rest : List ℕ) → StopsWithin before now text → StopsWithin before now (text ++ rest)
stops_more before now text rest s =
    record {
      left = s.left ++ rest;
      mid = s.mid;
      goes = written_more before s.mid text s.left rest s.goes;
      piece = s.piece;
      behind = s.behind ++ rest;
      parts = ap (λ (xs : List ℕ). xs ++ rest) s.parts ∙ append_assoc s.piece s.behind rest;
      stops = s.stops;
    }

-- what the sink took of a text that was written whole
pub took_all : (before now : Writing) (text : List ℕ) → WritesAll before now text → now.took ≡ before.took ++ text
took_all before now text w =
    w.took ∙ ap (λ (xs : List ℕ). before.took ++ xs) (sym (append-nil (together w.pieces)) ∙ sym w.parts)

-- what it took where a write failed is a front part
pub took_front : (before now : Writing) (text : List ℕ) → StopsWithin before now text → (taken : List ℕ) × (rest : List ℕ) × (text ≡ taken ++ rest) × (now.took ≡ before.took ++ taken)
took_front before now text s =
    let whole = together s.goes.pieces in
    let last = s.stops in (
      whole ++ last.begins.taken,
      last.rest ++ s.behind,
      s.goes.parts
          ∙ ap (λ (xs : List ℕ). whole ++ xs) (s.parts ∙ ap (λ (xs : List ℕ). xs ++ s.behind) last.begins.parts ∙ append_assoc last.begins.taken last.rest s.behind)
          ∙ sym (append_assoc whole last.begins.taken (last.rest ++ s.behind)),
      last.took ∙ last.begins.took ∙ ap (λ (xs : List ℕ). xs ++ last.begins.taken) s.goes.took ∙ append_assoc before.took whole last.begins.taken,
    )

-- a text was written up to these bytes, in pieces before the others of all
pub record WroteFirst (before now : Writing) (text left : List ℕ) (others all : List (List ℕ)) : Type 0 where
  pub written : WritesUpTo before now text left
  pub are : written.pieces ++ others ≡ all

pub first_none : (w : Writing) (text left : List ℕ) (others all : List (List ℕ)) → text ≡ left → others ≡ all → WroteFirst w w text left others all
unfolding none_written
first_none w text left others all is are = record { written = none_written w text left is; are = are }

-- what is left and the other pieces, written out
pub first_as : (before now : Writing) (text left left_now : List ℕ) (others others_now all : List (List ℕ)) → left ≡ left_now → others ≡ others_now
    → WroteFirst before now text left others all → WroteFirst before now text left_now others_now all
first_as before now text left left_now others others_now all e f first =
    subst (λ (xs : List ℕ). WroteFirst before now text xs others_now all) e (subst (λ (ps : List (List ℕ)). WroteFirst before now text left ps all) f first)

-- one piece more
pub first_more : (before mid now : Writing) (text piece left : List ℕ) (others all : List (List ℕ)) → WroteFirst before mid text (piece ++ left) (piece ∷ others) all
    → WritesPiece mid now piece [] → WroteFirst before now text left others all
unfolding written_on written_more piece_written
first_more before mid now text piece left others all first wrote =
    record {
      written = written_on before mid now text (piece ++ left) left first.written (written_more mid now piece [] left (piece_written mid now piece wrote));
      are = append_assoc first.written.pieces (piece ∷ []) others ∙ first.are;
    }

-- the last piece
pub text_written : (before mid now : Writing) (text last : List ℕ) (all : List (List ℕ)) → AreLong (all ++ last ∷ []) → WroteFirst before mid text last [] all
    → WritesPiece mid now last [] → WritesText before now text
unfolding written_on piece_written
text_written before mid now text last all long first wrote =
    record {
      whole = written_on before mid now text last [] first.written (piece_written mid now last wrote);
      long = subst (λ (ps : List (List ℕ)). AreLong (ps ++ last ∷ [])) (sym first.are ∙ append-nil first.written.pieces) long;
    }

-- a write of the last piece failed
pub last_stops : (before mid now : Writing) (text last : List ℕ) (all : List (List ℕ)) → AreLong (all ++ last ∷ []) → WroteFirst before mid text last [] all
    → StopsPiece mid now last → StopsText before now text
unfolding stops_on piece_stops written_on none_written
last_stops before mid now text last all long first stops =
    record {
      within = stops_on before mid now text last first.written (piece_stops mid now last stops);
      long = subst (λ (ps : List (List ℕ)). AreLong (ps ++ last ∷ [])) (sym first.are) long;
    }

-- a write of a piece before the last one failed
pub piece_stops_text : (before mid now : Writing) (text piece left last : List ℕ) (others all : List (List ℕ)) → AreLong (all ++ last ∷ [])
    → WroteFirst before mid text (piece ++ left) (piece ∷ others) all → StopsPiece mid now piece → StopsText before now text
unfolding stops_on stops_more piece_stops written_on written_more none_written
piece_stops_text before mid now text piece left last others all long first stops =
    let own : List (List ℕ) = first.written.pieces in
    let split : all ++ last ∷ [] ≡ (own ++ piece ∷ []) ++ (others ++ last ∷ []) =
    ap (λ (ps : List (List ℕ)). ps ++ last ∷ []) (sym first.are ∙ sym (append_assoc own (piece ∷ []) others)) ∙ append_assoc (own ++ piece ∷ []) others (last ∷ []) in
    record {
      within = stops_on before mid now text (piece ++ left) first.written (stops_more mid now piece left (piece_stops mid now piece stops));
      long = subst (λ (ps : List (List ℕ)). AreLong (ps ++ piece ∷ [])) (sym (append-nil own))
          (long_front (own ++ piece ∷ []) (others ++ last ∷ []) (subst AreLong split long));
    }
