-- A path that is not in the table goes behind the others.
use Rattle.std.specs.Prelude.{◌≡◌, ◌<◌, [], ℕ, false, List, length, map, get_or, OnOk, if◌then◌else◌}
use Rattle.std.specs.Str.{bytes_eq}
use Rattle.std.proofs.Common.{sym, ◌∙◌, ap, subst, arith, Vec, Global}
use Rattle.std.proofs.lemmas.List.{length-map}
use Rattle.recording_counts.specs.Counted.{risen}
use Rattle.recording_counts.specs.Paths.{PathTable, PathsStandFor, is_among}
use Rattle.recording_counts.proofs.Noted.{room_ok}
use Rattle.recording_counts.proofs.paths.UnknownPaths.note.Goals as goal

pub returns : goal.returns
returns c = λ past h.
    let items : List (Vec ℕ Global) = c.self.inside.paths.items in
    let paths : List (List ℕ) = map (λ (p : Vec ℕ Global). p.items) items in
    let old : PathTable = record { paths = paths; counts = c.self.inside.counts } in
    let mid : PathTable = record { paths = paths; counts = c.raise-known.new.counts } in
    let new : PathTable = record { paths = map (λ (p : Vec ℕ Global). p.items) c.add.new.paths.items; counts = c.add.new.counts } in
    let stands : PathsStandFor past old = subst (λ (t : PathTable). PathsStandFor past t) (sym c.self.view_is) h in
    let absent : is_among c.args.path.now paths ≡ false =
    ap (λ (xs : List (Vec ℕ Global)). is_among c.args.path.now (map (λ (p : Vec ℕ Global). p.items) xs)) (sym c.deref.ensures.value) ∙ sym c.raise-known.ensures.found ∙ c.if-known.false in
    let long : length paths ≡ length items = length-map items (λ (p : Vec ℕ Global). p.items) in
    let few : length paths < 8 = omega (arith, long, c.self.invariant.0, c.if-len-eq-MOST.false, c.len.ensures, c.self.inside.paths.ok.0) in
    let raised : (i : ℕ) → i < length paths → get_or c.raise-known.new.counts i 0 ≡ (if bytes_eq c.args.path.now (get_or paths i []) then risen (get_or c.self.inside.counts i 0) else get_or c.self.inside.counts i 0) =
    λ i lt.
    c.raise-known.ensures.raised i (omega (arith, lt, long, c.deref.ensures.len, ap (λ (xs : List (Vec ℕ Global)). length xs) c.deref.ensures.value))
    ∙ ap (λ (xs : List (Vec ℕ Global)). if bytes_eq c.args.path.now (get_or (map (λ (p : Vec ℕ Global). p.items) xs) i []) then risen (get_or c.self.inside.counts i 0) else get_or c.self.inside.counts i 0) c.deref.ensures.value in
    room_ok c.add.result c.args.path.now past old mid new stands few absent raised c.add.ensures.paths
    (subst (λ (n : ℕ). OnOk c.add.result (get_or c.add.new.counts n 0 ≡ 1)) (sym long) c.add.ensures.here)
    (λ i lt. c.add.ensures.others i (omega (arith, lt, long)))
