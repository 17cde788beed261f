-- A file as it is read, piece by piece, and the reading that is logged of it.
use Rattle.std.proofs.Common.{◌≡◌, ◌∙◌, ◌+◌, ◌<◌, ◌≤◌, ℕ, Bool, true, false, ◌&&◌, if◌then◌else◌, List, [], ◌∷◌, ◌++◌, length, take, nat_eq, nat_lt, Option, None, Some, IsSomeAnd, refl, sym, ap, subst, append_assoc, append-nil, length-take-le, arith}
use Rattle.std.proofs.KnownBytes.{Consumes-nil, Consumes-trans}
use Rattle.std.proofs.lemmas.Bool.{eq-eqb, eqb-true, lt-ltb, ltb-true, ne_eqb}
use Rattle.std.proofs.lemmas.List.{length-append}
use Rattle.std.specs.Io.KnownBytes.{Consumes, IsAtEnd, Keeps}
use Rattle.outside_io.specs.Trace.{Reading, Stage, at_end, failed, going}
use Rattle.outside_io.specs.Outside.{Entry, GivesBytes, begun, broken, bytes_of, gave, unopened}
use Rattle.command_files.specs.Judged.{IfTold}
use Rattle.command_files.specs.Logged.{Agrees, OneRead}
use Rattle.command_files.specs.Reading.{GivesMore}

keeps_consumes : (left now : Option (List ℕ)) → Keeps left now → Consumes left now []
keeps_consumes None now h = tt
keeps_consumes (Some xs) None h = absurd h
keeps_consumes (Some xs) (Some ys) h = sym h

first_true : (a b : Bool) → (a && b) ≡ true → a ≡ true
first_true true b h = refl
first_true false b h = h

second_true : (a b : Bool) → (a && b) ≡ true → b ≡ true
second_true true b h = h
second_true false b h = cc

and_true : (a b : Bool) → b ≡ true → (a && b) ≡ a
and_true true b h = h
and_true false b h = refl

-- what was given after such a read, and whether its end was reported
pub given_on : (before now : Reading) (count : ℕ) (buffer : List ℕ) → now ≡ gave before count buffer → now.given ≡ before.given ++ take count buffer
given_on before now count buffer is = ap (λ (r : Reading). r.given) is

abbrev stage_by : Bool → Stage
stage_by b = if b then at_end else going

ended_by : (b : Bool) → stage_by b ≡ at_end → b ≡ true
ended_by true h = refl
ended_by false h = absurd (cc h)

staged_on : (before now : Reading) (count : ℕ) (buffer : List ℕ) → now ≡ gave before count buffer → 0 < length buffer → now.stage ≡ stage_by (nat_eq count 0)
staged_on before now count buffer is some =
    ap (λ (r : Reading). r.stage) is ∙ ap stage_by (and_true (nat_eq count 0) (nat_lt 0 (length buffer)) (lt-ltb 0 (length buffer) some))

-- a read that answered how much it gave
pub read_gives : (left_before left_now : Option (List ℕ)) (before now : Reading) (count : ℕ) (buffer : List ℕ)
    → now ≡ gave before count buffer → Consumes left_before left_now (take count buffer) × (count ≡ 0 → 0 < length buffer → IsAtEnd left_now)
    → GivesMore left_before left_now before now
read_gives left_before left_now before now count buffer is h =
    record {
      piece = take count buffer;
      given = given_on before now count buffer is;
      taken = h.0;
      named = ap (λ (r : Reading). r.name) is;
      ends = λ e.
          let both : (nat_eq count 0 && nat_lt 0 (length buffer)) ≡ true =
          ended_by (nat_eq count 0 && nat_lt 0 (length buffer)) (sym (ap (λ (r : Reading). r.stage) is) ∙ e) in
          h.1 (eqb-true count 0 (first_true (nat_eq count 0) (nat_lt 0 (length buffer)) both))
          (ltb-true 0 (length buffer) (second_true (nat_eq count 0) (nat_lt 0 (length buffer)) both));
    }

-- a read that failed
pub failed_gives : (left_before left_now : Option (List ℕ)) (before now : Reading) → now ≡ broken before → Keeps left_before left_now
    → GivesMore left_before left_now before now
failed_gives left_before left_now before now is kept =
    record {
      piece = [];
      given = ap (λ (r : Reading). r.given) is ∙ sym (append-nil before.given);
      taken = keeps_consumes left_before left_now kept;
      named = ap (λ (r : Reading). r.name) is;
      ends = λ e. absurd (let never : failed ≡ at_end = sym (ap (λ (r : Reading). r.stage) is) ∙ e in cc never);
    }

-- nothing is read yet
pub none_gives : (left : Option (List ℕ)) (r : Reading) → r.stage ≡ going → GivesMore left left r r
none_gives left r goes =
    record {
      piece = [];
      given = sym (append-nil r.given);
      taken = Consumes-nil left;
      named = refl;
      ends = λ e. absurd (let never : going ≡ at_end = sym goes ∙ e in cc never);
    }

-- one read after others
pub gives_on : (left_before left_mid left_now : Option (List ℕ)) (before mid now : Reading) → GivesMore left_before left_mid before mid → GivesMore left_mid left_now mid now
    → GivesMore left_before left_now before now
gives_on left_before left_mid left_now before mid now p q =
    record {
      piece = p.piece ++ q.piece;
      given = q.given ∙ ap (λ (xs : List ℕ). xs ++ q.piece) p.given ∙ append_assoc before.given p.piece q.piece;
      taken = Consumes-trans left_before left_mid left_now p.piece q.piece p.taken q.taken;
      named = q.named ∙ p.named;
      ends = q.ends;
    }

agrees_taken : (bytes : List ℕ) (left_now : Option (List ℕ)) (r : Reading) (piece : List ℕ) → r.given ≡ piece → Consumes (Some bytes) left_now piece
    → (r.stage ≡ at_end → IsAtEnd left_now) → Agrees (Some bytes) r
agrees_taken bytes None r piece is taken ends = absurd taken
agrees_taken bytes (Some rest) r piece is taken ends = (rest, taken ∙ ap (λ (xs : List ℕ). xs ++ rest) (sym is), ends)

agrees_some : (o left_before left_now : Option (List ℕ)) (name : List ℕ) (r : Reading) → IsSomeAnd o (λ bytes. left_before ≡ Some bytes)
    → GivesMore left_before left_now (begun name) r → Agrees o r
agrees_some None left_before left_now name r is more = absurd is
agrees_some (Some bytes) left_before left_now name r is more =
    agrees_taken bytes left_now r more.piece more.given (subst (λ (o : Option (List ℕ)). Consumes o left_now more.piece) is more.taken) more.ends

agrees_told : (told : Option (List Entry)) (name : List ℕ) (left_before left_now : Option (List ℕ)) (r : Reading) → GivesBytes told name left_before
    → GivesMore left_before left_now (begun name) r → IfTold told (λ es. Agrees (bytes_of es name) r)
agrees_told None name left_before left_now r gives more = tt
agrees_told (Some es) name left_before left_now r gives more = agrees_some (bytes_of es name) left_before left_now name r gives more

-- A file that was opened under a name and read, and given back: one reading more is logged.
pub logged_one : (told : Option (List Entry)) (before now : List Reading) (name : List ℕ) (limit : ℕ) (left_before left_now : Option (List ℕ)) (start r : Reading)
    (Holds : Reading → Type 0) → GivesBytes told name left_before → start ≡ begun name → GivesMore left_before left_now start r → length r.given ≤ limit + 1
    → now ≡ before ++ r ∷ [] → Holds r → OneRead told before now name limit Holds
logged_one told before now name limit left_before left_now start r Holds gives is more few grown holds =
    let from : GivesMore left_before left_now (begun name) r = subst (λ (s : Reading). GivesMore left_before left_now s r) is more in
    record {
      reading = r;
      grown = grown;
      named = from.named;
      bound = few;
      agrees = subst (λ (n : List ℕ). IfTold told (λ es. Agrees (bytes_of es n) r)) (sym from.named) (agrees_told told name left_before left_now r gives from);
      holds = holds;
    }

agrees_unopened : (o : Option (List ℕ)) (name : List ℕ) → Agrees o (unopened name)
agrees_unopened None name = (refl, refl)
agrees_unopened (Some bytes) name = (bytes, refl, λ e. absurd (cc e))

pub all_told : (told : Option (List Entry)) (P : List Entry → Type 0) → ((es : List Entry) → P es) → IfTold told P
all_told None P h = tt
all_told (Some es) P h = h es

-- a file that could not be opened: its name is logged, that it gave nothing, and that this failed
pub logged_none : (told : Option (List Entry)) (before now : List Reading) (name : List ℕ) (limit : ℕ) → now ≡ before ++ unopened name ∷ []
    → OneRead told before now name limit (λ r. r.stage ≡ failed)
logged_none told before now name limit grown =
    record {
      reading = unopened name;
      grown = grown;
      named = refl;
      bound = omega arith;
      agrees = all_told told (λ es. Agrees (bytes_of es name) (unopened name)) (λ es. agrees_unopened (bytes_of es name) name);
      holds = refl;
    }

-- whether the end was reported, by how much was given
pub goes_on : (before now : Reading) (count : ℕ) (buffer : List ℕ) → now ≡ gave before count buffer → 0 < length buffer → 0 < count → now.stage ≡ going
goes_on before now count buffer is some more =
    staged_on before now count buffer is some ∙ ap stage_by (ne_eqb count 0 (λ e. absurd (omega (arith, e, more))))

pub is_done : (before now : Reading) (count : ℕ) (buffer : List ℕ) → now ≡ gave before count buffer → 0 < length buffer → count ≡ 0 → now.stage ≡ at_end
is_done before now count buffer is some none = staged_on before now count buffer is some ∙ ap stage_by (eq-eqb count 0 none)

-- no more is given than the buffer has room for
pub few_on : (before now : Reading) (count : ℕ) (buffer : List ℕ) → now ≡ gave before count buffer → count ≤ length buffer
    → length now.given ≤ length before.given + length buffer
few_on before now count buffer is within =
    let size : length now.given ≡ length before.given + length (take count buffer) =
    ap length (given_on before now count buffer is) ∙ length-append before.given (take count buffer) in
    omega (arith, size, length-take-le count buffer within, within)

pub few_kept : (before now : Reading) (room : ℕ) → now ≡ broken before → length now.given ≤ length before.given + room
few_kept before now room is = let size : length now.given ≡ length before.given = ap (λ (r : Reading). length r.given) is in omega (arith, size)
